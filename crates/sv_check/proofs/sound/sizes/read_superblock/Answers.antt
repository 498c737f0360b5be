use Rattle.std.proofs.Common.{rules}
use Rattle.sv_form.specs.Image.{superblock_of}
use Rattle.sv_check.proofs.sound.sizes.read_superblock.Goals as goal

pub returns-clause-bytes : goal.returns-clause-bytes
unfolding superblock_of
returns-clause-bytes g c = search rules
