use Rattle.std.proofs.Common.{◌≡◌, ◌≤◌, Some, option_map, ap, sym, ◌∙◌}
use Rattle.std.specs.FinMap as map
use Rattle.sv_plain.specs.Fs.{Fs}
use Rattle.sv_plain.proofs.KeptHolders.{file-there, file-held_by, kept-file-gone_of}
use Rattle.sv_plain.proofs.fs.Fs.remove_file.Goals as goal

pub remove-requires-2-clause-held : goal.remove-requires-2-clause-held
remove-requires-2-clause-held c =
    let g = file-there (map.get c.self.inside.files c.args.n) c.args.inode (ap (λ (fs : Fs). option_map (λ f. f.inode) (map.get fs.files c.args.n)) c.self.view_is ∙ c.requires.there) in
    let within : c.args.inode ≤ c.self.inside.inodes = rw (ap (λ (fs : Fs). fs.inodes) c.self.view_is) c.requires.within in
    (file-held_by c.self.inside c.args.n c.self.invariant c.args.inode g.0 g.1 g.2 within).0

pub remove-requires-2-clause-taken : goal.remove-requires-2-clause-taken
remove-requires-2-clause-taken c =
    let g = file-there (map.get c.self.inside.files c.args.n) c.args.inode (ap (λ (fs : Fs). option_map (λ f. f.inode) (map.get fs.files c.args.n)) c.self.view_is ∙ c.requires.there) in
    let within : c.args.inode ≤ c.self.inside.inodes = rw (ap (λ (fs : Fs). fs.inodes) c.self.view_is) c.requires.within in
    (file-held_by c.self.inside c.args.n c.self.invariant c.args.inode g.0 g.1 g.2 within).1

pub invariant_of-self : goal.invariant_of-self
invariant_of-self c =
    let g = file-there (map.get c.self.inside.files c.args.n) c.args.inode (ap (λ (fs : Fs). option_map (λ f. f.inode) (map.get fs.files c.args.n)) c.self.view_is ∙ c.requires.there) in
    let within : c.args.inode ≤ c.self.inside.inodes = rw (ap (λ (fs : Fs). fs.inodes) c.self.view_is) c.requires.within in
    rw (c.remove.ensures, c.from.ensures, c.remove-2.ensures) (kept-file-gone_of c.self.inside c.args.n c.self.invariant c.args.inode g.0 g.1 g.2 within)
