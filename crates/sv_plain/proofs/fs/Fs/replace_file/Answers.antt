use Rattle.std.proofs.Common.{◌≡◌, Some, option_map, ap, sym, ◌∙◌}
use Rattle.std.specs.FinMap as map
use Rattle.sv_plain.specs.Fs.{Fs}
use Rattle.sv_plain.proofs.KeptHolders.{file-there, kept-file-known}
use Rattle.sv_plain.proofs.fs.Fs.replace_file.Goals as goal

pub invariant_of-self : goal.invariant_of-self
invariant_of-self c =
    let g = file-there (map.get c.self.inside.files c.args.n) c.args.file.inode (ap (λ (fs : Fs). option_map (λ f. f.inode) (map.get fs.files c.args.n)) c.self.view_is ∙ c.requires) in
    rw (c.in-Ok.ensures.put, c.from.ensures) (kept-file-known c.self.inside c.args.n c.self.invariant c.args.file g.0 g.1 g.2)
