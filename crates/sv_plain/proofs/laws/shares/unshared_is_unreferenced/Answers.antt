use Rattle.sv_plain.proofs.ShareLaws.{nothing-shared}
use Rattle.sv_plain.proofs.laws.shares.unshared_is_unreferenced.Goals as goal

pub returns : goal.returns
returns c = λ fs w i. nothing-shared fs w i
