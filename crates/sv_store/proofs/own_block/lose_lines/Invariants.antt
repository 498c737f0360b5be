use Rattle.std.proofs.Common.{◌≡◌, ◌++◌, take, drop, not}
use Rattle.sv_store.specs.Held.{in_ranges}
use Rattle.sv_store.specs.OwnBlock.{masked_lines}
use Rattle.sv_store.proofs.own_block.lose_lines.Given as goal

abbrev pub invariant-loop-l : goal.invariant-loop-l
invariant-loop-l l = l.held ≡ masked_lines (λ k. not (in_ranges l.lines l.b k)) 0 (take l.l l.initial.held) ++ drop l.l l.initial.held
