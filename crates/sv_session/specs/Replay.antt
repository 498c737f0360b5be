-- What `replay` answers, for each way that it ends.
use Rattle.std.specs.Prelude.{◌≡◌, ◌⊎◌, ◌+◌, ℕ, List, Option, Some, IfSome}
use Rattle.std.specs.FinMap as map
use Rattle.sv_dev.specs.Told.{grown, AppendsFront}
use Rattle.sv_plain.specs.declared.history.entry.Entry.{Entry}
use Rattle.sv_plain.specs.Fs.{Fs, begun}
use Rattle.sv_plain.specs.History.{IsLegal, after}
use Rattle.sv_plain.specs.Listing.{listing_text}
use Rattle.sv_check.specs.Condition.{number_of}
use Rattle.sv_check.specs.Loaded.{loaded}
use Rattle.sv_check.specs.Sound.{IsSound}
use Rattle.sv_journal.specs.declared.journal_fault.JournalFault.TheVariants as faults
use Rattle.sv_journal.specs.Reading.{IsJournalOf, IsNoJournal}
use Rattle.sv_journal.specs.Replay.{IsFirstIllegal}
use Rattle.sv_session.specs.declared.stop.Stop.{Stop}
use Rattle.sv_session.specs.declared.stop.Stop.TheVariants.{Words, Refused, DeviceFault, FileFault, WriteFault, NoMemory, JournalRefused}
use Rattle.sv_session.specs.declared.stop.Stop.TheVariants.{NoSuchFile}

-- ---- the image

-- the image is sound, and this is its tree
pub record HasTree (tree : Fs) (image : List ℕ) : Type 0 where
  pub sound : IsSound image
  pub is : tree ≡ loaded image

-- nothing is referred to, open, promised or pending
pub record IsUnused (fs : Fs) : Type 0 where
  pub references : fs.references ≡ map.empty
  pub files : fs.files ≡ map.empty
  pub promises : fs.promises ≡ map.empty
  pub pending : fs.pending ≡ map.empty

-- ---- the journal

-- where the host tells what stands under names, this text stands under that one
abbrev pub IsTextUnder : Option (List ℕ → Option (List ℕ)) → List ℕ → List ℕ → Type 0
IsTextUnder texts name text = IfSome texts (λ under. under name ≡ Some text)

-- this holds of the text under that name
abbrev pub OnText : Option (List ℕ → Option (List ℕ)) → List ℕ → (List ℕ → Type 0) → Type 0
OnText texts name P = (text : List ℕ) × IsTextUnder texts name text × P text

-- the text is a journal whose entries are legal over the tree, and this holds of the listing of what they lead to
pub record HasReplay (tree : Fs) (P : List ℕ → Type 0) (text : List ℕ) : Type 0 where
  pub processes : ℕ
  pub table : ℕ
  pub entries : List Entry
  pub journal : IsJournalOf text processes table entries
  pub legal : IsLegal entries (begun tree processes table)
  pub listing : P (listing_text (after entries (begun tree processes table)))

-- the entry on this line is the first that is illegal from there; entry 0 stands on line 2
abbrev pub IsIllegalAt : List Entry → Fs → ℕ → Type 0
IsIllegalAt entries fs line = (place : ℕ) × (line ≡ place + 2) × IsFirstIllegal entries fs place

-- the text is a journal, and the entry on this line is the first that is illegal over the tree
pub record IsIllegalOn (tree : Fs) (line : ℕ) (text : List ℕ) : Type 0 where
  pub processes : ℕ
  pub table : ℕ
  pub entries : List Entry
  pub journal : IsJournalOf text processes table entries
  pub illegal : IsIllegalAt entries (begun tree processes table) line

-- this line is the first that is none of a journal, or in a journal it has the first illegal entry
abbrev pub IsRefusedOver : Fs → ℕ → List ℕ → Type 0
IsRefusedOver tree line text = IsNoJournal text (faults.Line line) ⊎ IsIllegalOn tree line text

-- ---- both

-- the image is sound, the text is a journal that is legal over its tree, and this holds of the listing that it leads to
pub record Replays (texts : Option (List ℕ → Option (List ℕ))) (name : List ℕ) (P : List ℕ → Type 0) (image : List ℕ) : Type 0 where
  pub sound : IsSound image
  pub text : OnText texts name (HasReplay (loaded image) P)

-- exactly the listing was appended
abbrev pub Lists : Option (List ℕ → Option (List ℕ)) → List ℕ → Option (List ℕ) → Option (List ℕ) → List ℕ → Type 0
Lists texts name old new = Replays texts name (λ listing. new ≡ grown old listing)

-- a front of it was
abbrev pub ListsFront : Option (List ℕ → Option (List ℕ)) → List ℕ → Option (List ℕ) → Option (List ℕ) → List ℕ → Type 0
ListsFront texts name old new = Replays texts name (λ listing. AppendsFront old new listing)

-- the image is sound, and the text is refused at this line
pub record RefusesLine (texts : Option (List ℕ → Option (List ℕ))) (name : List ℕ) (line : ℕ) (image : List ℕ) : Type 0 where
  pub sound : IsSound image
  pub text : OnText texts name (IsRefusedOver (loaded image) line)

-- ---- stops

-- each stop has its cause: a refusal of the image or of a line of the journal, or a count of faults that rose
abbrev pub StopsReplay : (refused : ℕ → ℕ → Type 0) (line_refused : ℕ → Type 0) (device file write : Type 0) → Stop → Type 0
StopsReplay refused line_refused device file write Words = ⊥
StopsReplay refused line_refused device file write (Refused condition place) = refused (number_of condition) place
StopsReplay refused line_refused device file write DeviceFault = device
StopsReplay refused line_refused device file write FileFault = file
StopsReplay refused line_refused device file write WriteFault = write
StopsReplay refused line_refused device file write NoMemory = Unit {0}
StopsReplay refused line_refused device file write (JournalRefused line) = line_refused line
StopsReplay refused line_refused device file write NoSuchFile = ⊥

-- what a stop leaves in the sink: nothing, or where the sink failed a front of the listing (`on` says that something holds
-- of the image)
abbrev pub LeavesListing : ((List ℕ → Type 0) → Type 0) → Option (List ℕ → Option (List ℕ)) → List ℕ → Option (List ℕ) → Option (List ℕ)
    → Stop → Type 0
LeavesListing on texts name old new Words = new ≡ old
LeavesListing on texts name old new (Refused condition place) = new ≡ old
LeavesListing on texts name old new DeviceFault = new ≡ old
LeavesListing on texts name old new FileFault = new ≡ old
LeavesListing on texts name old new WriteFault = on (ListsFront texts name old new)
LeavesListing on texts name old new NoMemory = new ≡ old
LeavesListing on texts name old new (JournalRefused line) = new ≡ old
LeavesListing on texts name old new NoSuchFile = new ≡ old
