-- When all pieces of a path are names, and that a path has one answer.
use Rattle.std.proofs.Common.{◌≡◌, ◌≢◌, ◌<◌, ◌≤◌, ◌∙◌, ◌&&◌, ◌==◌, not, nat_le, ℕ, List, [], ◌∷◌, length, get_or, All, Contains, Bool, true, false, sym, ap, refl, subst, arith, inl, inr}
use Rattle.std.proofs.lemmas.Bool.{cases_Bool, cases_lt, le-leb, lt-leb, false≢true}
use Rattle.std.proofs.lemmas.Bool.Decides.{eqb_tells}
use Rattle.std.proofs.lemmas.List.{get_or-take, length-take-le}
use Rattle.std.proofs.lemmas.List.Sums.{AllPass-from_list_all, list_all-from_AllPass}
use Rattle.std.specs.List.{list_all}
use Rattle.sv_form.specs.Name.{IsName}
use Rattle.sv_dir.specs.declared.path.BadPath.{BadPath}
use Rattle.sv_dir.specs.declared.path.BadPath.TheVariants as bad
use Rattle.sv_dir.specs.declared.path.PathWords.{PathWords}
use Rattle.sv_dir.proofs.PathLemmas.{pieces-nil}
use Rattle.sv_dir.specs.Path.{FirstBad, IsRefused, IsSplit, has_no_zero, is_name, piece_at, pieces}

nonzero : (b : ℕ) → b ≢ 0 → not (b == 0) ≡ true
nonzero b ne = elim (eqb_tells b 0) [ inl same ↦ absurd (ne same.1) | inr other ↦ ap not other.0 ]

pub name_passes : (name : List ℕ) → IsName name → is_name name ≡ true
name_passes name h =
    let plain : has_no_zero name ≡ true = list_all-from_AllPass (λ byte. not (byte == 0)) name (λ k d lt. nonzero _ (h.plain k d lt).no_zero) in
    ap (λ (b : Bool). b && has_no_zero name) (le-leb (length name) 14 h.fits) ∙ plain

pub names_pass : (ps : List (List ℕ)) → All IsName ps → list_all is_name ps ≡ true
names_pass ps h = list_all-from_AllPass is_name ps (λ k d lt. name_passes _ (h k d lt))

fails_at : (ps : List (List ℕ)) (at : ℕ) → at < length ps → is_name (get_or ps at []) ≡ false → list_all is_name ps ≡ false
fails_at ps at lt fails =
    elim (cases_Bool (list_all is_name ps)) [
      | inl all ↦ absurd (false≢true (sym fails ∙ AllPass-from_list_all is_name ps all at [] lt))
      | inr some ↦ some
    ]

too_long : (p : List ℕ) → 14 < length p → is_name p ≡ false
too_long p long = ap (λ (b : Bool). b && has_no_zero p) (lt-leb (length p) 14 long)

and_false : (a b : Bool) → b ≡ false → (a && b) ≡ false
and_false true b h = h
and_false false b h = refl

bad_byte : (p : List ℕ) → Contains p 0 → is_name p ≡ false
bad_byte p (k, lt, zero_here) =
    elim (cases_Bool (has_no_zero p)) [
      | inl all ↦ absurd (false≢true (sym (ap (λ (b : ℕ). not (b == 0)) zero_here) ∙ AllPass-from_list_all (λ byte. not (byte == 0)) p all k 0 lt))
      | inr some ↦ and_false (nat_le (length p) 14) (has_no_zero p) some
    ]

pub first_fails : (piece : List ℕ) (ps : List (List ℕ)) → is_name piece ≡ false → list_all is_name (piece ∷ ps) ≡ false
first_fails piece ps fails = ap (λ (b : Bool). b && list_all is_name ps) fails

-- a path that was split has all its pieces for names, one that was refused has not
pub split_passes : (path : List ℕ) (words : PathWords) → IsSplit path words → list_all is_name (pieces path) ≡ true
split_passes path words h = names_pass (pieces path) h.each

pub refused_fails : (path : List ℕ) (why : BadPath) → IsRefused path why → (path ≡ [] → ⊥) → list_all is_name (pieces path) ≡ false
refused_fails path bad.Empty h some = absurd (some h.0)
refused_fails path (bad.TooLong at) h some = fails_at (pieces path) at h.0.0.within (too_long _ h.0.1)
refused_fails path (bad.BadByte at) h some = fails_at (pieces path) at h.0.0.within (bad_byte _ h.0.2)
refused_fails path bad.NoMemory h some = absurd (h.1 refl)

-- the piece at the place of a refusal is no name
not_named : (path : List ℕ) (at : ℕ) → (IsName (piece_at path at) → ⊥) → (place : ℕ) → FirstBad path place → FirstBad path at → place ≤ at
not_named path at nameless place h here =
    elim (cases_lt at place) [
      | inl lt ↦ absurd (nameless (subst (λ (p : List ℕ). IsName p) (get_or-take place (pieces path) at [] lt) (h.before at [] (omega (arith, length-take-le place (pieces path) (omega (arith, h.within)))))))
      | inr le ↦ le
    ]

no_long_name : (p : List ℕ) → 14 < length p → IsName p → ⊥
no_long_name p long h = omega (arith, h.fits)

no_zero_name : (p : List ℕ) → Contains p 0 → IsName p → ⊥
no_zero_name p (k, lt, zero_here) h = (h.plain k 0 lt).no_zero zero_here

same_place : (path : List ℕ) (a b : ℕ) → (IsName (piece_at path a) → ⊥) → (IsName (piece_at path b) → ⊥) → FirstBad path a → FirstBad path b → a ≡ b
same_place path a b no_a no_b ha hb = omega (arith, not_named path b no_b a ha hb, not_named path a no_a b hb ha)

no_piece : (path : List ℕ) → path ≡ [] → (at : ℕ) → FirstBad path at → ⊥
no_piece path h at bad_here = omega (arith, subst (λ (p : List ℕ). at < length (pieces p)) h bad_here.within, ap length pieces-nil)

pub one_reason : (path : List ℕ) (why other : BadPath) → IsRefused path why → IsRefused path other → why ≡ other
one_reason path bad.Empty bad.Empty h g = refl
one_reason path bad.Empty (bad.TooLong b) h g = absurd (no_piece path h.0 b g.0.0)
one_reason path bad.Empty (bad.BadByte b) h g = absurd (no_piece path h.0 b g.0.0)
one_reason path (bad.TooLong a) bad.Empty h g = absurd (no_piece path g.0 a h.0.0)
one_reason path (bad.TooLong a) (bad.TooLong b) h g = ap (λ (n : ℕ). bad.TooLong n) (same_place path a b (no_long_name _ h.0.1) (no_long_name _ g.0.1) h.0.0 g.0.0)
one_reason path (bad.TooLong a) (bad.BadByte b) h g =
    let same = same_place path a b (no_long_name _ h.0.1) (no_zero_name _ g.0.2) h.0.0 g.0.0 in
    absurd (omega (arith, h.0.1, subst (λ (n : ℕ). length (piece_at path n) ≤ 14) (sym same) g.0.1))
one_reason path (bad.BadByte a) bad.Empty h g = absurd (no_piece path g.0 a h.0.0)
one_reason path (bad.BadByte a) (bad.TooLong b) h g =
    let same = same_place path a b (no_zero_name _ h.0.2) (no_long_name _ g.0.1) h.0.0 g.0.0 in
    absurd (omega (arith, h.0.1, subst (λ (n : ℕ). 14 < length (piece_at path n)) (sym same) g.0.1))
one_reason path (bad.BadByte a) (bad.BadByte b) h g = ap (λ (n : ℕ). bad.BadByte n) (same_place path a b (no_zero_name _ h.0.2) (no_zero_name _ g.0.2) h.0.0 g.0.0)
one_reason path bad.NoMemory other h g = absurd (h.1 refl)
one_reason path bad.Empty bad.NoMemory h g = absurd (g.1 refl)
one_reason path (bad.TooLong a) bad.NoMemory h g = absurd (g.1 refl)
one_reason path (bad.BadByte a) bad.NoMemory h g = absurd (g.1 refl)
