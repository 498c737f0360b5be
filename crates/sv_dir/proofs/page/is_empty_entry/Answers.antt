use Rattle.std.proofs.lemmas.Bool.{false≢true}
use Rattle.sv_dir.proofs.page.is_empty_entry.Goals as goal

pub returns-in-None : goal.returns-in-None
returns-in-None c = (λ h. absurd (false≢true h), λ h. absurd (c.in-None.ensures.none _ h.spelled))
