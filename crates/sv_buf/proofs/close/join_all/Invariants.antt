use Rattle.std.specs.Prelude.{◌≡◌, ◌+◌, length}
use Rattle.sv_buf.specs.Changes.{merged_view}
use Rattle.sv_buf.proofs.Joining.{Gathers}
use Rattle.sv_buf.proofs.close.join_all.Given as goal

abbrev pub ghosts-join : goal.ghosts-join
ghosts-join g a = record { whole = λ v w. merged_view w v }

abbrev pub invariant-loop-pass : goal.invariant-loop-pass
invariant-loop-pass g l = record {
  left : length l.passes.items + l._pass ≡ l.count;
  gathers : Gathers l.turn l.fn.passes.items l.passes.items l.whole;
}
