use Rattle.std.proofs.Common.{sym}
use Rattle.sv_plain.proofs.StepBounds.{file-within}
use Rattle.sv_plain.proofs.fs.Fs.step_close.Goals as goal

pub remove_share-requires-clause-within : goal.remove_share-requires-clause-within
remove_share-requires-clause-within c = file-within c.args.self.now c.args.file c.in-Some.opening c.requires (sym c.in-Some.ensures)
