use Rattle.sv_files.proofs.ConverseTree.{nodes_are_tree}
use Rattle.sv_files.proofs.converse.nodes_are_tree.Goals as goal

pub returns : goal.returns
returns c = record { law = nodes_are_tree }
