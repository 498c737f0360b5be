use Rattle.sv_check.proofs.MadeParts.{have_blocks}
use Rattle.sv_check.proofs.MadeSized.{have_sizes}
use Rattle.sv_check.proofs.make.image.made_images_have_their_sizes.Goals as goal

pub returns-clause-sizes : goal.returns-clause-sizes
returns-clause-sizes c = have_sizes

pub returns-clause-blocks : goal.returns-clause-blocks
returns-clause-blocks c = have_blocks
