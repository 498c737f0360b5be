-- From the steps of a replay to what it answers.
use Rattle.std.proofs.Common.{◌≡◌, ℕ, List, Option, take, IfErr, IsErrAnd, Result, Ok, Err, subst, sym, inr}
use Rattle.sv_check.specs.Condition.{number_of}
use Rattle.sv_plain.specs.declared.history.entry.Entry.{Entry}
use Rattle.sv_plain.specs.Fs.{Fs, begun}
use Rattle.sv_journal.specs.declared.journal_fault.JournalFault.{JournalFault}
use Rattle.sv_journal.specs.declared.journal_fault.JournalFault.TheVariants as faults
use Rattle.sv_journal.specs.Reading.{IsJournalOf, IsNoJournal}
use Rattle.sv_session.specs.declared.stop.Stop.{Stop}
use Rattle.sv_session.specs.declared.stop.Stop.TheVariants.{Words, Refused, DeviceFault, FileFault, WriteFault, NoMemory, JournalRefused, NoSuchFile}
use Rattle.sv_session.specs.Replay.{IsIllegalAt, IsRefusedOver, OnText, StopsReplay}
use Rattle.sv_session.specs.Stop.{stop_of_journal}
use Rattle.sv_session.proofs.JournalTexts.{on_text_more, refused_text}

-- ---- causes

pub stops_more : {R S : ℕ → ℕ → Type 0} {J K : ℕ → Type 0} {D E F G V W : Type 0} → ((number place : ℕ) → R number place → S number place) → ((line : ℕ) → J line → K line) → (D → E) → (F → G) → (V → W)
    → (stop : Stop) → StopsReplay R J D F V stop → StopsReplay S K E G W stop
stops_more refused line_refused device file write Words is = is
stops_more refused line_refused device file write (Refused condition place) is = refused (number_of condition) place is
stops_more refused line_refused device file write DeviceFault is = device is
stops_more refused line_refused device file write FileFault is = file is
stops_more refused line_refused device file write WriteFault is = write is
stops_more refused line_refused device file write NoMemory is = is
stops_more refused line_refused device file write (JournalRefused line) is = line_refused line is
stops_more refused line_refused device file write NoSuchFile is = is

-- the same of a result
pub result_stops_more : {T : Type 0} {R S : ℕ → ℕ → Type 0} {J K : ℕ → Type 0} {D E F G V W : Type 0} → ((number place : ℕ) → R number place → S number place) → ((line : ℕ) → J line → K line) → (D → E) → (F → G) → (V → W)
    → (result : Result T Stop) → IfErr result (StopsReplay R J D F V) → IfErr result (StopsReplay S K E G W)
result_stops_more refused line_refused device file write (Ok value) is = tt
result_stops_more refused line_refused device file write (Err stop) is = stops_more refused line_refused device file write stop is

-- a stop that is passed on
pub passed_on : {T : Type 0} (P : Stop → Type 0) (result : Result T Stop) (stop : Stop) → IsErrAnd result (λ x. x ≡ stop) → P stop → IfErr result P
passed_on P (Ok value) stop is h = tt
passed_on P (Err x) stop is h = subst P (sym is) h

-- ---- stops over the text

-- a text of which a front was refused
pub refused_stop : (texts : Option (List ℕ → Option (List ℕ))) (name bytes : List ℕ) (file : Type 0) (fault : JournalFault) → OnText texts name (λ text. bytes ≡ take 536870913 text) → IsNoJournal bytes fault
    → StopsReplay (λ number place. ⊥) (λ line. OnText texts name (λ text. IsNoJournal text (faults.Line line))) ⊥ file ⊥ (stop_of_journal fault)
refused_stop texts name bytes file (faults.Line line) on refused = on_text_more texts name (λ text. bytes ≡ take 536870913 text) (λ text. IsNoJournal text (faults.Line line)) (λ text is. refused_text bytes text line is refused) on
refused_stop texts name bytes file faults.NoMemory on refused = tt

-- a text with an illegal entry
pub illegal_text : (texts : Option (List ℕ → Option (List ℕ))) (name : List ℕ) (tree : Fs) (p t : ℕ) (entries : List Entry) (line : ℕ) → OnText texts name (λ text. IsJournalOf text p t entries)
    → IsIllegalAt entries (begun tree p t) line → OnText texts name (IsRefusedOver tree line)
illegal_text texts name tree p t entries line on illegal =
    on_text_more texts name (λ text. IsJournalOf text p t entries) (IsRefusedOver tree line)
    (λ text is. inr (record { processes = p; table = t; entries = entries; journal = is; illegal = illegal })) on
