-- The entries of a directory are in order exactly if they are so one after the other.
use Rattle.std.proofs.Common.{◌≡◌, ◌==◌, ◌&&◌, ◌||◌, ◌∷◌, [], ◌∙◌, ℕ, Bool, not, true, false, List, ap, sym, refl, if◌then◌else◌, map, filter}
use Rattle.std.specs.List.{list_all, list_any}
use Rattle.sv_form.specs.declared.geometry.Geometry.{Geometry}
use Rattle.sv_plain.specs.Names.{same_bytes}
use Rattle.sv_check.specs.Directories.{are_entries, has_twins, name_in, named_by, names_in}
use Rattle.sv_check.specs.EntrySteps.{are_good_after, is_good, is_taken, Takes}

-- ---- tests of two kinds at once

or_any : (a b : List ℕ → Bool) (names : List (List ℕ)) → list_any (λ x. a x || b x) names ≡ (list_any a names || list_any b names)
or_any a b [] = refl
or_any a b (x ∷ xs) = mix (a x) (b x) (list_any a xs) (list_any b xs) (or_any a b xs) where
  mix : (p q r s : Bool) → list_any (λ x. a x || b x) xs ≡ (r || s) → ((p || q) || list_any (λ x. a x || b x) xs) ≡ ((p || r) || (q || s))
  mix true q r s e = refl
  mix false true true s e = refl
  mix false true false s e = refl
  mix false false r s e = e

none_any : (names : List (List ℕ)) → list_any (λ x. false) names ≡ false
none_any [] = refl
none_any (x ∷ xs) = none_any xs

and_false : (t : Bool) → (t && false) ≡ false
and_false true = refl
and_false false = refl

and_true : (t : Bool) → (t && true) ≡ t
and_true true = refl
and_true false = refl

turned : (l t a c : Bool) → (l && not t && not (a || c)) ≡ (l && not (a || t) && not c)
turned false t a c = refl
turned true true true c = refl
turned true true false c = refl
turned true false true true = refl
turned true false true false = refl
turned true false false c = refl

module _ (g : Geometry) (image : List ℕ) where
  abbrev pub good : List ℕ → Bool
  good e = is_good g image e

  abbrev pub clash : List (List ℕ) → List (List ℕ) → Bool
  clash seen names = list_any (is_taken seen) names

  abbrev pub whole : List (List ℕ) → List (List ℕ) → Bool
  whole seen es = list_all good es && not (has_twins (names_in es)) && not (clash seen (names_in es))

  module _ (seen : List (List ℕ)) (e : List ℕ) (es : List (List ℕ)) where
    abbrev after : Bool → Bool → Bool → Bool
    after p empty taken =
        if p then (if empty then are_good_after g image seen es else (if taken then false else are_good_after g image (e ∷ seen) es)) else false

    -- the whole, where this is whether the first entry is good, and whether it is empty
    abbrev whole_as : Bool → Bool → Bool
    whole_as p empty =
        let names = map name_in (if not empty then e ∷ filter (λ x. not (named_by x == 0)) es else filter (λ x. not (named_by x == 0)) es) in
        (p && list_all good es) && not (has_twins names) && not (clash seen names)

    by_taken : (taken : Bool) → is_taken seen (name_in e) ≡ taken → are_good_after g image (e ∷ seen) es ≡ whole (e ∷ seen) es → after true false taken ≡ whole_as true false
    by_taken true is more =
        sym (ap (λ (t : Bool). list_all good es && not (has_twins (name_in e ∷ names_in es)) && not (t || clash seen (names_in es))) is
        ∙ and_false (list_all good es && not (has_twins (name_in e ∷ names_in es))))
    by_taken false is more =
        more
        ∙ ap (λ (t : Bool). list_all good es && not (has_twins (names_in es)) && not t) (or_any (same_bytes (name_in e)) (is_taken seen) (names_in es))
        ∙ turned (list_all good es) (has_twins (names_in es)) (list_any (same_bytes (name_in e)) (names_in es)) (clash seen (names_in es))
        ∙ ap (λ (t : Bool). list_all good es && not (has_twins (name_in e ∷ names_in es)) && not (t || clash seen (names_in es))) (sym is)

    by_tests : (p empty : Bool) → are_good_after g image seen es ≡ whole seen es → are_good_after g image (e ∷ seen) es ≡ whole (e ∷ seen) es
        → after p empty (is_taken seen (name_in e)) ≡ whole_as p empty
    by_tests false empty same more = refl
    by_tests true true same more = same
    by_tests true false same more = by_taken (is_taken seen (name_in e)) refl more

  pub good-whole : (seen es : List (List ℕ)) → are_good_after g image seen es ≡ whole seen es
  unfolding are_good_after
  good-whole seen [] = refl
  good-whole seen (e ∷ es) = by_tests seen e es (good e) (named_by e == 0) (good-whole seen es) (good-whole (e ∷ seen) es)

  -- from the first entry on
  pub good-all : (es : List (List ℕ)) → are_good_after g image [] es ≡ are_entries g image es
  good-all es =
      good-whole [] es ∙ ap (λ (t : Bool). list_all good es && not (has_twins (names_in es)) && not t) (none_any (names_in es))
      ∙ and_true (list_all good es && not (has_twins (names_in es)))

  -- ---- one entry

  module _ (seen : List (List ℕ)) (e : List ℕ) where
    pub bad_entry : is_good g image e ≡ false → Takes g image seen (e ∷ []) false
    unfolding are_good_after
    bad_entry bad rest =
        ap (λ (t : Bool). if t then (if named_by e == 0 then are_good_after g image seen rest else (if is_taken seen (name_in e) then false else are_good_after g image (e ∷ seen) rest)) else false) bad

    module _ (fine : is_good g image e ≡ true) where
      pub empty_entry : (named_by e == 0) ≡ true → Takes g image seen (e ∷ []) true
      unfolding are_good_after
      empty_entry none rest =
          ap (λ (t : Bool). if t then (if named_by e == 0 then are_good_after g image seen rest else (if is_taken seen (name_in e) then false else are_good_after g image (e ∷ seen) rest)) else false) fine
          ∙ ap (λ (t : Bool). if t then are_good_after g image seen rest else (if is_taken seen (name_in e) then false else are_good_after g image (e ∷ seen) rest)) none
          ∙ ap (λ (t : Bool). are_good_after g image (if t then seen else e ∷ seen) rest) (sym none)

      module _ (some : (named_by e == 0) ≡ false) where
        named : (rest : List (List ℕ)) → are_good_after g image seen (e ∷ rest) ≡ (if is_taken seen (name_in e) then false else are_good_after g image (e ∷ seen) rest)
        unfolding are_good_after
        named rest =
            ap (λ (t : Bool). if t then (if named_by e == 0 then are_good_after g image seen rest else (if is_taken seen (name_in e) then false else are_good_after g image (e ∷ seen) rest)) else false) fine
            ∙ ap (λ (t : Bool). if t then are_good_after g image seen rest else (if is_taken seen (name_in e) then false else are_good_after g image (e ∷ seen) rest)) some

        pub taken_entry : is_taken seen (name_in e) ≡ true → Takes g image seen (e ∷ []) false
        taken_entry taken rest = named rest ∙ ap (λ (t : Bool). if t then false else are_good_after g image (e ∷ seen) rest) taken

        pub new_entry : is_taken seen (name_in e) ≡ false → Takes g image seen (e ∷ []) true
        new_entry new rest =
            named rest ∙ ap (λ (t : Bool). if t then false else are_good_after g image (e ∷ seen) rest) new
            ∙ ap (λ (t : Bool). are_good_after g image (if t then seen else e ∷ seen) rest) (sym some)

  pub nothing_good : (seen : List (List ℕ)) → are_good_after g image seen [] ≡ true
  unfolding are_good_after
  nothing_good seen = refl
