use Rattle.sv_session.proofs.JournalTexts.{few_entries}
use Rattle.sv_session.proofs.ReplaySteps.{illegal_text, result_stops_more}
use Rattle.sv_session.proofs.journal.journal_listing.Goals as goal

pub replayed_listing-requires-clause-few : goal.replayed_listing-requires-clause-few
replayed_listing-requires-clause-few g c = few_entries _ _ _ _ c.in_ok-journal.ensures.read.2

pub returns-clause-reason : goal.returns-clause-reason
returns-clause-reason g c =
    result_stops_more {R = λ number place. ⊥} {S = λ number place. ⊥} {D = ⊥} {E = ⊥} {F = ⊥} {V = ⊥} {W = ⊥} (λ _ _ is. is)
    (λ line illegal. illegal_text (g.H.Host.texts c.args.host.now) c.args.name.now c.args.tree _ _ _ line c.in_ok-journal.ensures.read illegal)
    (λ is. is) (λ is. absurd is) (λ is. is) c.replayed_listing.result c.replayed_listing.ensures.reason
