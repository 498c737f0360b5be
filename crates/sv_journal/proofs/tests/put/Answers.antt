use Rattle.std.proofs.Common.{List, subst, sym, All}
use Rattle.std.proofs.lemmas.List.Elements.{All-push}
use Rattle.sv_plain.specs.declared.history.entry.Entry.{Entry}
use Rattle.sv_journal.specs.Allowed.{IsJournalEntry}
use Rattle.sv_journal.proofs.tests.put.Goals as goal

pub returns : goal.returns
returns c =
    subst (λ (items : List Entry). All (IsJournalEntry 1) items) (sym c.in_ok-push.ensures.items)
    (All-push (IsJournalEntry 1) c.args.entries.now.items c.args.entry c.requires.before c.requires.allowed)
