use Rattle.sv_files.proofs.ConverseNames.{nodes_named}
use Rattle.sv_files.proofs.converse.nodes_are_named.Goals as goal

pub returns : goal.returns
returns c = record { law = nodes_named }
