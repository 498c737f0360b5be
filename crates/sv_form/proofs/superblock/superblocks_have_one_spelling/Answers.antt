use Rattle.sv_form.proofs.SuperLemmas.{one_super, one_super_spelling}
use Rattle.sv_form.proofs.superblock.superblocks_have_one_spelling.Goals as goal

pub returns-clause-value : goal.returns-clause-value
returns-clause-value c = one_super

pub returns-clause-bytes : goal.returns-clause-bytes
returns-clause-bytes c = one_super_spelling
