use Rattle.sv_files.proofs.ConverseSizes.{flushed_is_sized}
use Rattle.sv_files.proofs.converse.flushed_is_sized.Goals as goal

pub returns : goal.returns
returns c = record { law = flushed_is_sized }
