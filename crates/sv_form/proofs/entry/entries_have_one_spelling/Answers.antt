use Rattle.sv_form.proofs.EntryLemmas.{one_entry}
use Rattle.sv_form.proofs.entry.entries_have_one_spelling.Goals as goal

pub returns-clause-value : goal.returns-clause-value
returns-clause-value c = one_entry
