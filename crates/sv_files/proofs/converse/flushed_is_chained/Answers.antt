use Rattle.sv_files.proofs.ConverseChain.{flushed_is_chained}
use Rattle.sv_files.proofs.converse.flushed_is_chained.Goals as goal

pub returns : goal.returns
returns c = record { law = flushed_is_chained }
