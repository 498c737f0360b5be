use Rattle.sv_files.proofs.ConversePages.{nodes_are_paged_well}
use Rattle.sv_files.proofs.converse.nodes_are_paged_well.Goals as goal

pub returns : goal.returns
returns c = record { law = nodes_are_paged_well }
