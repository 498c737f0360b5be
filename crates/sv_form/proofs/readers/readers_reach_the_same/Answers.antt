use Rattle.sv_form.proofs.ReaderLemmas.{same_tree}
use Rattle.sv_form.proofs.readers.readers_reach_the_same.Goals as goal

pub returns : goal.returns
returns c = λ n p q address all. same_tree n p q address all
