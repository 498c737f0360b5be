use Rattle.sv_form.proofs.ReaderLemmas.{same_entry}
use Rattle.sv_form.proofs.readers.readers_list_the_same.Goals as goal

pub returns : goal.returns
returns c = λ count p q each j e has. same_entry count p q j e each has
