use Rattle.sv_files.proofs.ConverseInodes.{nodes_have_inodes}
use Rattle.sv_files.proofs.converse.nodes_have_inodes.Goals as goal

pub returns : goal.returns
returns c = record { law = nodes_have_inodes }
