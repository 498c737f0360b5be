use Rattle.std.proofs.Common.{◌≡◌, map}
use Rattle.std.specs.List.{range_with_len}
use Rattle.sv_form.specs.NodeChanges.{page_after}
use Rattle.sv_plain.proofs.node.Node.pages_after.Given as goal

abbrev pub invariant-loop-k : goal.invariant-loop-k
invariant-loop-k l = l.after.items ≡ map (page_after l.block l.self l.at l.bytes) (range_with_len l.first l.k)
