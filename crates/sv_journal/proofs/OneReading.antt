-- A text is a journal in one way, or refused at one line.
use Rattle.std.proofs.Common.{◌≡◌, ◌<◌, ◌++◌, ◌∙◌, ℕ, List, [], ◌∷◌, length, All, Option, unwrap_or, subst, sym, ap, refl, arith, inl, inr, append_assoc, append-nil}
use Rattle.std.specs.List.{flat_map}
use Rattle.std.proofs.lemmas.List.{length-append}
use Rattle.std.proofs.lemmas.List.Elements.{All-head, All-tail}
use Rattle.sv_plain.specs.declared.history.entry.Entry.{Entry}
use Rattle.sv_journal.specs.declared.journal_fault.JournalFault.TheVariants as faults
use Rattle.sv_journal.specs.Allowed.{AreSizes, IsJournalEntry}
use Rattle.sv_journal.specs.Fits.{Fits}
use Rattle.sv_journal.specs.Grammar.{entry, head}
use Rattle.sv_journal.specs.OneReading.{IsSameJournal}
use Rattle.sv_journal.specs.Reading.{HasNoEntry, IsJournalOf, IsNoJournal, IsRefusedFirst, IsRefusedLater, IsTextOf}
use Rattle.sv_journal.specs.Spelling.{entry_line, head_line, journal_text}
use Rattle.sv_journal.proofs.LineReads.{entry-back, head-back}
use Rattle.sv_journal.proofs.ReadSteps.{line_some}

-- ---- the first line

abbrev Heads : Type 0
Heads = (ℕ × ℕ) × List ℕ

same_head : (p t q u : ℕ) (a b : List ℕ) → AreSizes p t → AreSizes q u → head_line p t ++ a ≡ head_line q u ++ b → (p ≡ q) × (t ≡ u) × (a ≡ b)
same_head p t q u a b hp hq is =
    let both = sym (head-back p t a hp) ∙ ap head is ∙ head-back q u b hq in
    let r : ◌≡◌ {A = Heads} ((p, t), a) ((q, u), b) = ap (λ (o : Option Heads). unwrap_or o ((p, t), a)) both in
    (ap (λ (h : Heads). h.0.0) r, ap (λ (h : Heads). h.0.1) r, ap (λ (h : Heads). h.1) r)

-- ---- the entries

abbrev Said : Type 0
Said = Entry × List ℕ

same_entry : (p : ℕ) (x y : Entry) (a b : List ℕ) → Fits x → IsJournalEntry p x → Fits y → IsJournalEntry p y → entry_line x ++ a ≡ entry_line y ++ b → (x ≡ y) × (a ≡ b)
same_entry p x y a b fx ax fy ay is =
    let both = sym (entry-back p x a fx ax) ∙ ap (entry p) is ∙ entry-back p y b fy ay in
    let r : ◌≡◌ {A = Said} (x, a) (y, b) = ap (λ (o : Option Said). unwrap_or o (x, a)) both in
    (ap (λ (h : Said). h.0) r, ap (λ (h : Said). h.1) r)

lines_more : (x : Entry) (xs : List Entry) → flat_map entry_line (x ∷ xs) ≡ entry_line x ++ flat_map entry_line xs
lines_more x xs = refl

no_bytes : (x : Entry) (xs : List Entry) (a : List ℕ) → length (flat_map entry_line (x ∷ xs) ++ a) ≡ 0 → ⊥
no_bytes x xs a none = omega (arith, line_some x, ap (λ (t : List ℕ). length (t ++ a)) (lines_more x xs), length-append (entry_line x ++ flat_map entry_line xs) a, length-append (entry_line x) (flat_map entry_line xs))

-- the lines of entries that may stand in a journal of so many processes
pub record AreLines (p : ℕ) (xs : List Entry) : Type 0 where
  pub allowed : All (IsJournalEntry p) xs
  pub fits : All Fits xs

tail_of : (p : ℕ) (x : Entry) (xs : List Entry) → AreLines p (x ∷ xs) → AreLines p xs
tail_of p x xs h = record { allowed = All-tail (IsJournalEntry p) x xs h.allowed; fits = All-tail Fits x xs h.fits }

-- the first of some lines, and what follows it
first_line_of : (x : Entry) (xs : List Entry) (a : List ℕ) → flat_map entry_line (x ∷ xs) ++ a ≡ entry_line x ++ (flat_map entry_line xs ++ a)
first_line_of x xs a = ap (λ (t : List ℕ). t ++ a) (lines_more x xs) ∙ append_assoc (entry_line x) (flat_map entry_line xs) a

begins_with_none : (p : ℕ) (x : Entry) (xs : List Entry) (a rest : List ℕ) → AreLines p (x ∷ xs) → HasNoEntry p rest → rest ≡ flat_map entry_line (x ∷ xs) ++ a → ⊥
begins_with_none p x xs a rest h none is =
    none x (flat_map entry_line xs ++ a) (All-head Fits x xs h.fits) (All-head (IsJournalEntry p) x xs h.allowed) (is ∙ first_line_of x xs a)

-- equal lines have one first line, and go on equally
onward : (p : ℕ) (x y : Entry) (xs ys : List Entry) (a b : List ℕ) → AreLines p (x ∷ xs) → AreLines p (y ∷ ys) → flat_map entry_line (x ∷ xs) ++ a ≡ flat_map entry_line (y ∷ ys) ++ b
    → (x ≡ y) × (flat_map entry_line xs ++ a ≡ flat_map entry_line ys ++ b)
onward p x y xs ys a b hx hy is =
    same_entry p x y (flat_map entry_line xs ++ a) (flat_map entry_line ys ++ b) (All-head Fits x xs hx.fits) (All-head (IsJournalEntry p) x xs hx.allowed) (All-head Fits y ys hy.fits) (All-head (IsJournalEntry p) y ys hy.allowed)
    (sym (first_line_of x xs a) ∙ is ∙ first_line_of y ys b)

same_entries : (p : ℕ) (xs ys : List Entry) → AreLines p xs → AreLines p ys → flat_map entry_line xs ++ [] ≡ flat_map entry_line ys ++ [] → xs ≡ ys
same_entries p [] [] hx hy is = refl
same_entries p [] (y ∷ ys) hx hy is = absurd (no_bytes y ys [] (sym (ap length is)))
same_entries p (x ∷ xs) [] hx hy is = absurd (no_bytes x xs [] (ap length is))
same_entries p (x ∷ xs) (y ∷ ys) hx hy is =
    let on = onward p x y xs ys [] [] hx hy is in
    ap (λ (e : Entry). e ∷ xs) on.0 ∙ ap (λ (es : List Entry). y ∷ es) (same_entries p xs ys (tail_of p x xs hx) (tail_of p y ys hy) on.1)

-- lines that are all of a text leave nothing that begins with no entry
nothing_left : (p : ℕ) (xs ys : List Entry) (rest : List ℕ) → AreLines p xs → AreLines p ys → 0 < length rest → HasNoEntry p rest → flat_map entry_line xs ++ rest ≡ flat_map entry_line ys ++ [] → ⊥
nothing_left p [] [] rest hx hy more none is = omega (arith, ap length is)
nothing_left p [] (y ∷ ys) rest hx hy more none is = begins_with_none p y ys [] rest hy none is
nothing_left p (x ∷ xs) [] rest hx hy more none is = no_bytes x xs rest (ap length is)
nothing_left p (x ∷ xs) (y ∷ ys) rest hx hy more none is = nothing_left p xs ys rest (tail_of p x xs hx) (tail_of p y ys hy) more none (onward p x y xs ys rest [] hx hy is).1

-- two refused lines have as many lines before them
same_place : (p : ℕ) (xs ys : List Entry) (a b : List ℕ) → AreLines p xs → AreLines p ys → HasNoEntry p a → HasNoEntry p b → flat_map entry_line xs ++ a ≡ flat_map entry_line ys ++ b → length xs ≡ length ys
same_place p [] [] a b hx hy na nb is = refl
same_place p [] (y ∷ ys) a b hx hy na nb is = absurd (begins_with_none p y ys b a hy na is)
same_place p (x ∷ xs) [] a b hx hy na nb is = absurd (begins_with_none p x xs a b hx nb (sym is))
same_place p (x ∷ xs) (y ∷ ys) a b hx hy na nb is = let rest = same_place p xs ys a b (tail_of p x xs hx) (tail_of p y ys hy) na nb (onward p x y xs ys a b hx hy is).1 in omega arith

-- ---- texts

-- the text is a first line, these lines, and something behind them
pub record IsParted (text : List ℕ) (p t : ℕ) (xs : List Entry) (rest : List ℕ) : Type 0 where
  pub sizes : AreSizes p t
  pub lines : AreLines p xs
  pub cut : text ≡ head_line p t ++ (flat_map entry_line xs ++ rest)

parted : (front rest text : List ℕ) (p t : ℕ) (xs : List Entry) → IsTextOf front p t xs → text ≡ front ++ rest → IsParted text p t xs rest
unfolding journal_text
parted front rest text p t xs is cut = record {
  sizes = is.sizes;
  lines = record { allowed = is.allowed; fits = is.fits };
  cut = cut ∙ ap (λ (x : List ℕ). x ++ rest) is.spelled ∙ append_assoc (head_line p t) (flat_map entry_line xs) rest;
}

whole_parted : (text : List ℕ) (p t : ℕ) (xs : List Entry) → IsJournalOf text p t xs → IsParted text p t xs []
whole_parted text p t xs h = parted text [] text p t xs h.is (sym (append-nil text))

later_parted : (text : List ℕ) (n : ℕ) (r : IsRefusedLater text n) → IsParted text r.processes r.table r.entries r.rest
later_parted text n r = parted r.front r.rest text r.processes r.table r.entries r.before r.cut

-- both ways have one first line
aligned : (text : List ℕ) (p t q u : ℕ) (xs ys : List Entry) (a b : List ℕ) → IsParted text p t xs a → IsParted text q u ys b → (p ≡ q) × (t ≡ u) × (flat_map entry_line xs ++ a ≡ flat_map entry_line ys ++ b)
aligned text p t q u xs ys a b h k = same_head p t q u (flat_map entry_line xs ++ a) (flat_map entry_line ys ++ b) h.sizes k.sizes (sym h.cut ∙ k.cut)

pub read_one_way : (text : List ℕ) (p t q u : ℕ) (xs ys : List Entry) → IsJournalOf text p t xs → IsJournalOf text q u ys → IsSameJournal p t xs q u ys
read_one_way text p t q u xs ys h k =
    let one = whole_parted text p t xs h in
    let other = whole_parted text q u ys k in
    let same = aligned text p t q u xs ys [] [] one other in
    record {
      processes_are = same.0;
      table_is = same.1;
      entries_are = same_entries p xs ys one.lines (subst (λ (n : ℕ). AreLines n ys) (sym same.0) other.lines) same.2;
    }

not_first : (text : List ℕ) (p t n : ℕ) (xs : List Entry) (rest : List ℕ) → IsParted text p t xs rest → IsRefusedFirst text n → ⊥
not_first text p t n xs rest h first = first.none p t (flat_map entry_line xs ++ rest) h.sizes h.cut

pub read_or_refused : (text : List ℕ) (p t n : ℕ) (xs : List Entry) → IsJournalOf text p t xs → IsNoJournal text (faults.Line n) → ⊥
read_or_refused text p t n xs h refused =
    elim refused [
      | inl long ↦ omega (arith, long.long, h.most)
      | inr cause ↦ elim cause [
        | inl first ↦ not_first text p t n xs [] (whole_parted text p t xs h) first
        | inr later ↦
            let one = whole_parted text p t xs h in
            let other = later_parted text n later in
            let same = aligned text later.processes later.table p t later.entries xs later.rest [] other one in
            nothing_left later.processes later.entries xs later.rest other.lines (subst (λ (k : ℕ). AreLines k xs) (sym same.0) one.lines) later.more later.none same.2
      ]
    ]

both_later : (text : List ℕ) (m n : ℕ) → IsRefusedLater text m → IsRefusedLater text n → m ≡ n
both_later text m n a b =
    let one = later_parted text m a in
    let other = later_parted text n b in
    let same = aligned text a.processes a.table b.processes b.table a.entries b.entries a.rest b.rest one other in
    let as_many = same_place a.processes a.entries b.entries a.rest b.rest one.lines (subst (λ (k : ℕ). AreLines k b.entries) (sym same.0) other.lines) a.none (subst (λ (k : ℕ). HasNoEntry k b.rest) (sym same.0) b.none) same.2 in
    omega (arith, a.place, b.place)

pub refused_one_way : (text : List ℕ) (m n : ℕ) → IsNoJournal text (faults.Line m) → IsNoJournal text (faults.Line n) → m ≡ n
refused_one_way text m n (inl a) (inl b) = a.place ∙ sym b.place
refused_one_way text m n (inl a) (inr (inl b)) = absurd (omega (arith, a.long, b.most))
refused_one_way text m n (inl a) (inr (inr b)) = absurd (omega (arith, a.long, b.most))
refused_one_way text m n (inr (inl a)) (inl b) = absurd (omega (arith, b.long, a.most))
refused_one_way text m n (inr (inr a)) (inl b) = absurd (omega (arith, b.long, a.most))
refused_one_way text m n (inr (inl a)) (inr (inl b)) = a.place ∙ sym b.place
refused_one_way text m n (inr (inl a)) (inr (inr b)) = absurd (not_first text b.processes b.table m b.entries b.rest (later_parted text n b) a)
refused_one_way text m n (inr (inr a)) (inr (inl b)) = absurd (not_first text a.processes a.table n a.entries a.rest (later_parted text m a) b)
refused_one_way text m n (inr (inr a)) (inr (inr b)) = both_later text m n a b
