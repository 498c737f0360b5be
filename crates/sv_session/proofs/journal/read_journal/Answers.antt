use Rattle.std.proofs.Common.{◌∙◌}
use Rattle.sv_session.proofs.JournalTexts.{journal_of_text, on_text_more}
use Rattle.sv_session.proofs.ReplaySteps.{passed_on, refused_stop}
use Rattle.sv_session.proofs.journal.read_journal.Goals as goal

pub returns-in_err-journal-clause-reason : goal.returns-in_err-journal-clause-reason
returns-in_err-journal-clause-reason g c =
    passed_on _ _ _ c.from_residual-in_err-journal.ensures.1
    (refused_stop (g.H.Host.texts c.args.host.now) c.args.name.now c.deref.result.now _ c.in_err-journal.field-0.0
    (on_text_more (g.H.Host.texts c.args.host.now) c.args.name.now _ _ (λ text is. c.deref.ensures.value ∙ is) c.in_ok-text.ensures.text) c.in_err-journal.ensures.refused)

pub returns-clause-read : goal.returns-clause-read
returns-clause-read g c =
    on_text_more (g.H.Host.texts c.args.host.now) c.args.name.now _ _ (λ text is. journal_of_text c.deref.result.now text _ _ _ (c.deref.ensures.value ∙ is) c.in_ok-journal.ensures.read) c.in_ok-text.ensures.text
