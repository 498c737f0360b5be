use Rattle.std.specs.Prelude.{◌≡◌, ℕ, List, [], length, nat_lt}
use Rattle.sv_buf.specs.Running.{seen_by}
use Rattle.sv_buf.specs.Closing.{IsWritten, SameShape}
use Rattle.sv_buf.proofs.close.write_all.Given as goal

abbrev pub invariant-loop-buffer : goal.invariant-loop-buffer
invariant-loop-buffer g l = record {
  so : (current : ℕ → List ℕ) (before : ℕ)
      → IsWritten l.fn.core current (seen_by g.D.Medium.content g.D.Medium.reads g.D.Medium.writes g.D.Medium.faults l.fn.disk) before [] 0
      → (failed : List ℕ) × (l.failed ≡ nat_lt 0 (length failed))
      × IsWritten l.core current (seen_by g.D.Medium.content g.D.Medium.reads g.D.Medium.writes g.D.Medium.faults l.disk) before failed
      l.buffer;
  shape : SameShape l.fn.core l.core;
}
