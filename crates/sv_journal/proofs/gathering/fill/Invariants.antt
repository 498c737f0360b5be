use Rattle.std.proofs.Common.{◌+◌, ◌-◌, length}
use Rattle.sv_journal.proofs.Gathered.{IsGathering}
use Rattle.sv_journal.proofs.gathering.fill.Given as goal

abbrev pub invariant-loop-bytes : goal.invariant-loop-bytes
invariant-loop-bytes g l = IsGathering (g.S.Source.left l.fn.source) (g.S.Source.left l.source) (g.S.Source.faults l.fn.source) (g.S.Source.faults l.source) l.most l.block l.bytes.items

abbrev pub decreases-loop-bytes : goal.decreases-loop-bytes
decreases-loop-bytes g l = l.most + 1 - length l.bytes.items
