use Rattle.std.proofs.Common.{◌≡◌, arith}
use Rattle.std.specs.FinMap as map
use Rattle.std.specs.FinSet as set
use Rattle.sv_plain.specs.Totals.{at_or_0}
use Rattle.sv_plain.proofs.KeptNodes.{used-within, kept-removed}
use Rattle.sv_plain.proofs.fs.Fs.remove_node_at.Goals as goal

pub overflow_sub-self : goal.overflow_sub-self
overflow_sub-self c =
    let gone : c.count_of-gone.result ≡ at_or_0 set.len (map.get c.self.inside.blocks c.args.key) = c.count_of-gone.ensures in
    omega (arith, gone, used-within c.self.inside c.args.key c.self.invariant)

pub invariant_of-self : goal.invariant_of-self
invariant_of-self c =
    let gone : c.count_of-gone.result ≡ at_or_0 set.len (map.get c.self.inside.blocks c.args.key) = c.count_of-gone.ensures in
    rw (c.remove.ensures, c.remove-2.ensures, gone) (kept-removed c.self.inside c.args.key c.self.invariant)
