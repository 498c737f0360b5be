use Rattle.std.specs.Prelude.{◌≡◌, ℕ, nat_lt}
use Rattle.sv_turn.specs.Passes.{pass_view, IsOut, IsPassOf, IsSamePass}
use Rattle.sv_buf.proofs.Flushing.{so_far}
use Rattle.sv_buf.proofs.flush.flush_all.Given as goal

abbrev pub invariant-loop-buffer : goal.invariant-loop-buffer
invariant-loop-buffer g l = record {
  own : IsPassOf l.turn l.pass;
  same : IsSamePass l.fn.pass l.pass × IsOut l.pass;
  so : (n : ℕ) × (l.failed ≡ nat_lt 0 n) × (pass_view l.pass ≡ so_far n l.buffer (pass_view l.fn.pass));
}
