use Rattle.std.proofs.Common.{◌≡◌}
use Rattle.sv_buf.proofs.tests.threads.is_signed.Given as goal

abbrev pub invariant-loop-block : goal.invariant-loop-block
invariant-loop-block g l = g.D.Disk.content l.disk ≡ g.D.Disk.content l.fn.disk
