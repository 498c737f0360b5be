use Rattle.std.proofs.Common.{refl}
use Rattle.sv_script.proofs.ScriptSteps.{IsRead-nil}
use Rattle.sv_script.proofs.reading.Reading.new.Goals as goal

pub returns : goal.returns
returns c = IsRead-nil _ refl refl refl c.new.ensures.items
