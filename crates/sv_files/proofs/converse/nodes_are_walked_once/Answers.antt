use Rattle.sv_files.proofs.ConverseWalk.{nodes_are_walked_once}
use Rattle.sv_files.proofs.converse.nodes_are_walked_once.Goals as goal

pub returns : goal.returns
returns c = record { law = nodes_are_walked_once }
