use Rattle.sv_session.proofs.JournalTexts.{gathered_text}
use Rattle.sv_session.proofs.journal.read_text.Goals as goal

pub returns-clause-text : goal.returns-clause-text
returns-clause-text g c = gathered_text _ _ _ _ c.in_ok-source.ensures.left c.in_ok-text.ensures.gathered
