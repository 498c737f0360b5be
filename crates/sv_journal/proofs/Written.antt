-- A text that is written line by line.
use Rattle.std.proofs.Common.{◌≡◌, ◌+◌, ◌<◌, ◌≤◌, ℕ, List, [], ◌∷◌, ◌++◌, length, get_or, take, drop, Option, Some, None, arith, refl, sym, ◌∙◌, ap, subst}
use Rattle.std.specs.List.{flat_map}
use Rattle.std.proofs.lemmas.Grind.{flat_map-append}
use Rattle.std.proofs.lemmas.List.{append-nil, append_assoc, flat_map_more, length-append, take-append-drop, take-append-le, take_all, take_more}
use Rattle.std.proofs.Math.Seq.{take-append-add}
use Rattle.sv_dev.specs.Told.{grown, AppendsFront}
use Rattle.sv_plain.specs.declared.history.entry.Entry.{Entry}
use Rattle.sv_journal.specs.Spelling.{entry_line, head_line, journal_text}

-- ---- what was told

grown-grown : (told : Option (List ℕ)) (a b : List ℕ) → grown (grown told a) b ≡ grown told (a ++ b)
grown-grown None a b = refl
grown-grown (Some old) a b = ap Some (append_assoc old a b)

grown-nil : (told : Option (List ℕ)) → told ≡ grown told []
grown-nil None = refl
grown-nil (Some old) = ap Some (sym (append-nil old))

pub front-none : (told : Option (List ℕ)) (text : List ℕ) → AppendsFront told told text
front-none told text = (0, omega arith, grown-nil told)

-- a front of a text is one of a longer text
front-longer : (told new : Option (List ℕ)) (text more : List ℕ) → AppendsFront told new text → AppendsFront told new (text ++ more)
front-longer told new text more (n, le, grew) = (
  n,
  omega (arith, length-append text more),
  grew ∙ ap (grown told) (sym (take-append-le n text more le)),
)

-- a text, and a front of the line behind it
front-behind : (told before new : Option (List ℕ)) (text line : List ℕ) → before ≡ grown told text → AppendsFront before new line → AppendsFront told new (text ++ line)
front-behind told before new text line was (n, le, grew) = (
  length text + n,
  omega (arith, length-append text line),
  grew ∙ ap (λ (o : Option (List ℕ)). grown o (take n line)) was ∙ grown-grown told text (take n line) ∙ ap (grown told) (sym (take-append-add text line n)),
)

-- ---- the lines of a journal

-- the first line and those of the first entries
unfoldable pub written_so_far : ℕ → ℕ → List Entry → ℕ → List ℕ
written_so_far processes table entries i = head_line processes table ++ flat_map entry_line (take i entries)

pub head_first : (told new : Option (List ℕ)) (processes table : ℕ) (entries : List Entry) → new ≡ grown told (head_line processes table) → new ≡ grown told (written_so_far processes table entries 0)
unfolding written_so_far
head_first told new processes table entries grew = grew ∙ ap (grown told) (sym (append-nil (head_line processes table)))

one_more : (processes table : ℕ) (entries : List Entry) (i : ℕ) (x : Entry) → i < length entries → x ≡ get_or entries i x → written_so_far processes table entries i ++ entry_line x ≡ written_so_far processes table entries (i + 1)
unfolding written_so_far
one_more processes table entries i x lt is =
    flat_map_more entry_line (head_line processes table) (take i entries) x
    ∙ ap (λ (e : Entry). head_line processes table ++ flat_map entry_line (take i entries ++ e ∷ [])) is
    ∙ ap (λ (es : List Entry). head_line processes table ++ flat_map entry_line es) (sym (take_more entries i x lt))

pub line_more : (told before new : Option (List ℕ)) (processes table : ℕ) (entries : List Entry) (i : ℕ) (x : Entry) → i < length entries → x ≡ get_or entries i x
    → before ≡ grown told (written_so_far processes table entries i) → new ≡ grown before (entry_line x)
    → new ≡ grown told (written_so_far processes table entries (i + 1))
line_more told before new processes table entries i x lt is was grew =
    grew ∙ ap (λ (o : Option (List ℕ)). grown o (entry_line x)) was ∙ grown-grown told _ _
    ∙ ap (grown told) (one_more processes table entries i x lt is)

split_at : (processes table : ℕ) (entries : List Entry) (i : ℕ) → journal_text processes table entries ≡ written_so_far processes table entries i ++ flat_map entry_line (drop i entries)
unfolding written_so_far journal_text
split_at processes table entries i =
    ap (λ (es : List Entry). head_line processes table ++ flat_map entry_line es) (sym (take-append-drop i entries))
    ∙ ap (λ (t : List ℕ). head_line processes table ++ t) (flat_map-append entry_line (take i entries) (drop i entries))
    ∙ sym (append_assoc (head_line processes table) (flat_map entry_line (take i entries)) (flat_map entry_line (drop i entries)))

-- a front of the line of entry i, behind all lines before it
pub stopped_at : (told before new : Option (List ℕ)) (processes table : ℕ) (entries : List Entry) (i : ℕ) (x : Entry) → i < length entries → x ≡ get_or entries i x
    → before ≡ grown told (written_so_far processes table entries i) → AppendsFront before new (entry_line x)
    → AppendsFront told new (journal_text processes table entries)
stopped_at told before new processes table entries i x lt is was front =
    subst (λ (t : List ℕ). AppendsFront told new t)
    (ap (λ (t : List ℕ). t ++ flat_map entry_line (drop (i + 1) entries)) (one_more processes table entries i x lt is) ∙ sym (split_at processes table entries (i + 1)))
    (front-longer told new _ (flat_map entry_line (drop (i + 1) entries)) (front-behind told before new _ _ was front))

-- a front of the first line
pub stopped_first : (told new : Option (List ℕ)) (processes table : ℕ) (entries : List Entry) → AppendsFront told new (head_line processes table) → AppendsFront told new (journal_text processes table entries)
unfolding journal_text
stopped_first told new processes table entries front = front-longer told new _ (flat_map entry_line entries) front

-- all lines
pub all_written : (told new : Option (List ℕ)) (processes table : ℕ) (entries : List Entry) (i : ℕ) → length entries ≤ i → new ≡ grown told (written_so_far processes table entries i) → new ≡ grown told (journal_text processes table entries)
unfolding journal_text written_so_far
all_written told new processes table entries i all grew =
    grew ∙ ap (λ (es : List Entry). grown told (head_line processes table ++ flat_map entry_line es)) (take_all i entries all)
