use Rattle.std.proofs.Common.{◌≡◌, take}
use Rattle.sv_store.specs.Held.{in_ranges}
use Rattle.sv_store.specs.OwnBlock.{masked_lines}
use Rattle.sv_store.proofs.own_block.chosen_lines.Given as goal

abbrev pub invariant-loop-l : goal.invariant-loop-l
invariant-loop-l l = l.chosen.items ≡ masked_lines (in_ranges l.lines l.b) 0 (take l.l l.held)
