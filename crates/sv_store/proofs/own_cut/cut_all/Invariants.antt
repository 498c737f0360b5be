use Rattle.std.proofs.Common.{[], take, length}
use Rattle.sv_store.specs.OwnBlock.{Moves}
use Rattle.sv_store.proofs.own_cut.cut_all.Given as goal

abbrev pub invariant-loop-i : goal.invariant-loop-i
invariant-loop-i l = record {
  moves : Moves l.sizes (take l.i l.lines) l.initial.blocks [] l.blocks l.taken;
}
