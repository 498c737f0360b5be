use Rattle.sv_files.proofs.PurgedAtRest.{purged_at_rest}
use Rattle.sv_files.proofs.converse.purged_is_at_rest.Goals as goal

pub returns : goal.returns
returns c = record { law = purged_at_rest }
