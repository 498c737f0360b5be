-- The first numbers are never free.
use Rattle.std.proofs.Common.{sym, arith}
use Rattle.sv_super.proofs.FreeNumbers.{few-used, free-at}
use Rattle.sv_super.proofs.inodes.is_free.Goals as goal

pub returns-then-n-lt2 : goal.returns-then-n-lt2
returns-then-n-lt2 c = sym (few-used c.args.used.now c.args.n c.if-n-lt2.true)

pub returns : goal.returns
returns c = sym (free-at c.args.used.now c.args.n (omega (arith, c.if-n-lt2.false)) c.requires)
