use Rattle.std.proofs.Common.{ap, ◌∙◌}
use Rattle.std.specs.Ordering.{nat_cmp}
use Rattle.std.specs.FinMap as map
use Rattle.sv_plain.specs.Fs.{Fs}
use Rattle.sv_plain.proofs.tests.writes.tried.Goals as goal

pub try_in-requires-clause-node : goal.try_in-requires-clause-node
try_in-requires-clause-node c = ap (λ (fs : Fs). map.get fs.nodes 3) (c.deref_mut.ensures.value ∙ c.in_ok-fs.ensures) ∙ map.get-empty nat_cmp 3

pub try_in-requires-clause-file : goal.try_in-requires-clause-file
try_in-requires-clause-file c = ap (λ (fs : Fs). map.get fs.files 0) (c.deref_mut.ensures.value ∙ c.in_ok-fs.ensures) ∙ map.get-empty nat_cmp 0
