-- What was read of a text's front, said of the text under a name.
use Rattle.std.proofs.Common.{◌≡◌, ◌≤◌, ◌++◌, ◌∙◌, ℕ, List, [], ◌∷◌, length, take, Option, Some, None, IfSome, subst, sym, ap, refl, arith, inl, inr}
use Rattle.std.specs.List.{flat_map}
use Rattle.std.proofs.lemmas.List.{length-append, length-take, take_all}
use Rattle.sv_plain.specs.declared.history.entry.Entry.{Entry}
use Rattle.sv_dev.specs.Names.{GivesUnder}
use Rattle.sv_journal.specs.declared.journal_fault.JournalFault.TheVariants as faults
use Rattle.sv_journal.specs.Gather.{Gathers}
use Rattle.sv_journal.specs.Reading.{IsJournalOf, IsNoJournal}
use Rattle.sv_journal.specs.Spelling.{entry_line, head_line, journal_text}
use Rattle.sv_journal.proofs.ReadSteps.{line_some}
use Rattle.sv_session.specs.Replay.{IsTextUnder, OnText}

-- what holds of the text holds more weakly too
pub on_text_more : (texts : Option (List ℕ → Option (List ℕ))) (name : List ℕ) (P Q : List ℕ → Type 0) → ((text : List ℕ) → P text → Q text) → OnText texts name P → OnText texts name Q
on_text_more texts name P Q more h = (h.0, h.1, more h.0 h.2)

-- ---- what was gathered

-- the text: what the source tells, or else what was gathered
abbrev told_or : Option (List ℕ) → List ℕ → List ℕ
told_or None bytes = bytes
told_or (Some left) bytes = left

named : (texts : Option (List ℕ → Option (List ℕ))) (name : List ℕ) (left : Option (List ℕ)) (bytes : List ℕ) → GivesUnder texts name left → IsTextUnder texts name (told_or left bytes)
named None name left bytes gives = tt
named (Some under) name None bytes gives = absurd gives
named (Some under) name (Some whole) bytes gives = gives

front_of : (left : Option (List ℕ)) (bytes : List ℕ) → Gathers left 536870912 bytes → bytes ≡ take 536870913 (told_or left bytes)
front_of None bytes h = sym (take_all 536870913 bytes h.few)
front_of (Some whole) bytes h = h.front

pub gathered_text : (texts : Option (List ℕ → Option (List ℕ))) (name : List ℕ) (left : Option (List ℕ)) (bytes : List ℕ) → GivesUnder texts name left → Gathers left 536870912 bytes
    → OnText texts name (λ text. bytes ≡ take 536870913 text)
gathered_text texts name left bytes gives h = (told_or left bytes, named texts name left bytes gives, front_of left bytes h)

-- ---- what was read of it

-- a front that is no longer than a journal is the whole text
whole_text : (bytes text : List ℕ) → bytes ≡ take 536870913 text → length bytes ≤ 536870912 → bytes ≡ text
whole_text bytes text is most =
    let few : length text ≤ 536870913 = omega (arith, ap length is, length-take 536870913 text) in
    is ∙ take_all 536870913 text few

pub journal_of_text : (bytes text : List ℕ) (p t : ℕ) (entries : List Entry) → bytes ≡ take 536870913 text → IsJournalOf bytes p t entries → IsJournalOf text p t entries
journal_of_text bytes text p t entries is h = subst (λ (b : List ℕ). IsJournalOf b p t entries) (whole_text bytes text is h.most) h

pub refused_text : (bytes text : List ℕ) (line : ℕ) → bytes ≡ take 536870913 text → IsNoJournal bytes (faults.Line line) → IsNoJournal text (faults.Line line)
refused_text bytes text line is (inl long) = inl (record { place = long.place; long = omega (arith, long.long, ap length is, length-take 536870913 text) })
refused_text bytes text line is (inr (inl first)) = subst (λ (b : List ℕ). IsNoJournal b (faults.Line line)) (whole_text bytes text is first.most) (inr (inl first))
refused_text bytes text line is (inr (inr later)) = subst (λ (b : List ℕ). IsNoJournal b (faults.Line line)) (whole_text bytes text is later.most) (inr (inr later))

-- ---- a journal has no more entries than bytes

lines_of : (entries : List Entry) → length entries ≤ length (flat_map entry_line entries)
lines_of [] = omega arith
lines_of (e ∷ rest) =
    let more : flat_map entry_line (e ∷ rest) ≡ entry_line e ++ flat_map entry_line rest = refl in
    omega (arith, lines_of rest, line_some e, ap length more, length-append (entry_line e) (flat_map entry_line rest))

lines_fit : (p t : ℕ) (entries : List Entry) → length entries ≤ length (journal_text p t entries)
unfolding journal_text
lines_fit p t entries = omega (arith, lines_of entries, length-append (head_line p t) (flat_map entry_line entries))

pub few_entries : (text : List ℕ) (p t : ℕ) (entries : List Entry) → IsJournalOf text p t entries → length entries ≤ 536870912
few_entries text p t entries h = omega (arith, lines_fit p t entries, ap length h.is.spelled, h.most)
