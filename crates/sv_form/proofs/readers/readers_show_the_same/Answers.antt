use Rattle.sv_form.proofs.ReaderLemmas.{same_bytes}
use Rattle.sv_form.proofs.readers.readers_show_the_same.Goals as goal

pub returns : goal.returns
returns c = λ block p q from count some each. same_bytes block p q from count some each
