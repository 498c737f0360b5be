use Rattle.sv_files.proofs.ConverseSizes.{flushed_is_cached}
use Rattle.sv_files.proofs.converse.flushed_is_cached.Goals as goal

pub returns : goal.returns
returns c = record { law = flushed_is_cached }
