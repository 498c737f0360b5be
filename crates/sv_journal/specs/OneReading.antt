-- That a text is read in one way.
use Rattle.std.specs.Prelude.{◌≡◌, ℕ, List}
use Rattle.sv_plain.specs.declared.history.entry.Entry.{Entry}
use Rattle.sv_journal.specs.declared.journal_fault.JournalFault.TheVariants as faults
use Rattle.sv_journal.specs.Reading.{IsJournalOf, IsNoJournal}

-- two journals of one text are the same
pub record IsSameJournal (processes table : ℕ) (entries : List Entry) (others_processes others_table : ℕ) (others : List Entry) : Type
    0 where
  pub processes_are : processes ≡ others_processes
  pub table_is : table ≡ others_table
  pub entries_are : entries ≡ others

abbrev pub IsReadOneWay : Type 0
IsReadOneWay = (text : List ℕ) (p t q u : ℕ) (xs ys : List Entry) → IsJournalOf text p t xs → IsJournalOf text q u ys
    → IsSameJournal p t xs q u ys

-- a text is refused at one line
abbrev pub IsRefusedOneWay : Type 0
IsRefusedOneWay = (text : List ℕ) (m n : ℕ) → IsNoJournal text (faults.Line m) → IsNoJournal text (faults.Line n) → m ≡ n

-- a journal is not refused at any line
abbrev pub IsReadOrRefused : Type 0
IsReadOrRefused = (text : List ℕ) (p t n : ℕ) (xs : List Entry) → IsJournalOf text p t xs → IsNoJournal text (faults.Line n) → ⊥
