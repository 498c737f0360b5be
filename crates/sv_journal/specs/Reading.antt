-- What a journal's text is read as, and which line of a text is the first that is none of a journal.
use Rattle.std.specs.Prelude.{◌≡◌, ◌≤◌, ◌<◌, ◌+◌, ◌++◌, ◌⊎◌, ℕ, List, length, All, Option, None}
use Rattle.sv_plain.specs.declared.history.entry.Entry.{Entry}
use Rattle.sv_journal.specs.declared.journal_fault.JournalFault.{JournalFault}
use Rattle.sv_journal.specs.declared.journal_fault.JournalFault.TheVariants as faults
use Rattle.sv_journal.specs.Allowed.{AreSizes, IsJournalEntry}
use Rattle.sv_journal.specs.Fits.{Fits}
use Rattle.sv_journal.specs.Spelling.{entry_line, head_line, journal_text}

-- the text is that of these entries, of so many processes over a table of so many in-core inodes
pub record IsTextOf (text : List ℕ) (processes table : ℕ) (entries : List Entry) : Type 0 where
  pub sizes : AreSizes processes table
  pub allowed : All (IsJournalEntry processes) entries
  pub fits : All Fits entries
  pub spelled : text ≡ journal_text processes table entries

-- the same of a text that is not too long
pub record IsJournalOf (text : List ℕ) (processes table : ℕ) (entries : List Entry) : Type 0 where
  pub most : length text ≤ 536870912
  pub is : IsTextOf text processes table entries

-- the text begins with no first line
abbrev pub HasNoHead : List ℕ → Type 0
HasNoHead text = (processes table : ℕ) (rest : List ℕ) → AreSizes processes table → text ≡ head_line processes table ++ rest → ⊥

-- the text begins with no line of an entry
abbrev pub HasNoEntry : ℕ → List ℕ → Type 0
HasNoEntry processes text = (e : Entry) (rest : List ℕ) → Fits e → IsJournalEntry processes e → text ≡ entry_line e ++ rest → ⊥

-- a text that is too long is refused at line 0
pub record IsTooLong (text : List ℕ) (line : ℕ) : Type 0 where
  pub place : line ≡ 0
  pub long : 536870912 < length text

-- the first line is none of a journal; so is that of a text without bytes
pub record IsRefusedFirst (text : List ℕ) (line : ℕ) : Type 0 where
  pub place : line ≡ 1
  pub most : length text ≤ 536870912
  pub none : HasNoHead text

-- the lines before are those of a journal, and what follows them is not its end, and begins with no line of an entry
pub record IsRefusedLater (text : List ℕ) (line : ℕ) : Type 0 where
  pub processes : ℕ
  pub table : ℕ
  pub entries : List Entry
  pub front : List ℕ
  pub rest : List ℕ
  pub place : line ≡ length entries + 2
  pub most : length text ≤ 536870912
  pub before : IsTextOf front processes table entries
  pub cut : text ≡ front ++ rest
  pub more : 0 < length rest
  pub none : HasNoEntry processes rest

-- this line is the first that is none of a journal; want of memory needs no cause
abbrev pub IsNoJournal : List ℕ → JournalFault → Type 0
IsNoJournal text (faults.Line line) = IsTooLong text line ⊎ (IsRefusedFirst text line ⊎ IsRefusedLater text line)
IsNoJournal text faults.NoMemory = Unit {0}

-- so many lines were read, and the rest is to come
pub record IsAt (text rest : List ℕ) (processes table : ℕ) (entries : List Entry) : Type 0 where
  pub front : List ℕ
  pub before : IsTextOf front processes table entries
  pub cut : text ≡ front ++ rest
  pub size : length entries + length rest ≤ length text

-- a step of the reading stops at this line, where nothing was read
abbrev pub StopsAt : {A : Type 0} → ℕ → Option A → JournalFault → Type 0
StopsAt line said (faults.Line at) = (at ≡ line) × (said ≡ None)
StopsAt line said faults.NoMemory = Unit {0}
