use Rattle.std.proofs.Common.{◌≡◌, ℕ}
use Rattle.std.proofs.lemmas.List.Elements.{recursion_from_All}
use Rattle.sv_form.proofs.ReaderLemmas.{same_chain}
use Rattle.sv_form.proofs.readers.readers_chain_the_same.Goals as goal

pub returns : goal.returns
returns c = λ read other list order all is. same_chain read other list order (recursion_from_All (λ (b : ℕ). other b ≡ read b) order all) is
