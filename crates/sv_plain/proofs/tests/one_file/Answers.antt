use Rattle.std.proofs.Common.{ap, ◌∙◌}
use Rattle.std.specs.Ordering.{nat_cmp}
use Rattle.std.specs.FinMap as map
use Rattle.sv_plain.specs.Fs.{Fs}
use Rattle.sv_plain.proofs.tests.one_file.Goals as goal

pub add_one_file-requires-clause-node : goal.add_one_file-requires-clause-node
add_one_file-requires-clause-node c = ap (λ (fs : Fs). map.get fs.nodes 3) (c.deref_mut.ensures.value ∙ c.in_ok-fs.ensures) ∙ map.get-empty nat_cmp 3
