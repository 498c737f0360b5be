use Rattle.std.proofs.Common.{◌≡◌, ℕ, None, unwrap_or, sym, ap, ◌∙◌}
use Rattle.std.specs.FinMap as map
use Rattle.std.specs.FinSet as set
use Rattle.sv_form.specs.Pair.{pair_cmp}
use Rattle.sv_plain.specs.Fs.{Fs}
use Rattle.sv_plain.specs.Missing.{node_blocks}
use Rattle.sv_plain.proofs.KeptWrites.{node_blocks-kept}
use Rattle.sv_plain.proofs.fs.Fs.block_count.Goals as goal

pub returns-in-None : goal.returns-in-None
returns-in-None c =
    let a = c.self.inside in
    let none : map.get a.blocks c.args.i ≡ None = ap (map.get a.blocks) (sym c.from.ensures) ∙ sym c.in-None.ensures in
    sym
    (ap (λ (fs : Fs). set.len (node_blocks fs c.args.i)) (sym c.self.view_is)
    ∙ ap set.len (node_blocks-kept a c.args.i c.self.invariant ∙ ap (λ o. unwrap_or o set.empty) none)
    ∙ set.len-empty pair_cmp)
