-- What it means that one more entry of a directory was taken.
use Rattle.std.proofs.Common.{◌≡◌, ◌≢◌, ◌≤◌, ◌+◌, ◌-◌, ◌*◌, ◌==◌, ◌&&◌, ◌||◌, ◌++◌, ◌∷◌, [], ◌∙◌, ℕ, zero, suc, Bool, not, true, false, List, ap, sym, refl, subst, if◌then◌else◌, drop, take, nat_le, append_assoc, arith}
use Rattle.std.specs.Bool.{OnTrue}
use Rattle.std.specs.List.{slice_range}
use Rattle.std.proofs.lemmas.Bool.{false≢true}
use Rattle.std.proofs.lemmas.List.{drop-drop}
use Rattle.sv_form.specs.declared.geometry.Geometry.{Geometry}
use Rattle.sv_form.specs.Geometry.{inode_count}
use Rattle.sv_form.specs.Image.{inode_of}
use Rattle.sv_check.specs.declared.sound.entries.SeenNames.{SeenNames}
use Rattle.sv_check.specs.Directories.{leads_somewhere, name_in, named_by, pieces, reads_entry}
use Rattle.sv_check.specs.EntrySteps.{are_good_after, is_good, is_taken, seen_after, Takes, with_entry}
use Rattle.sv_check.specs.InodeList.{is_free}
use Rattle.sv_check.specs.SeenNames.{HasSeen, IsNamed}
use Rattle.sv_check.proofs.GoodEntries.{bad_entry, empty_entry, new_entry, taken_entry}

-- ---- one entry

pub named_test : (n m : ℕ) → n ≡ m → m ≢ 0 → (n == 0) ≡ false
named_test n m is some = grind (arith, is, some)

none_test : (n m : ℕ) → n ≡ m → m ≡ 0 → (n == 0) ≡ true
none_test n m is none = ap (λ (x : ℕ). x == 0) (is ∙ none)

not_true : (t : Bool) → true ≡ not t → t ≡ false
not_true false e = refl
not_true true e = e

not_false : (t : Bool) → false ≡ not t → t ≡ true
not_false true e = refl
not_false false e = e

module _ (g : Geometry) (image : List ℕ) (seen : List (List ℕ)) (e : List ℕ) where
  abbrev used_at : ℕ → Bool
  used_at n = nat_le n (inode_count g) && not (is_free (inode_of g image n))

  pub takes_unread : reads_entry e ≡ false → Takes g image seen (e ∷ []) false
  takes_unread unread = bad_entry g image seen e (ap (λ (t : Bool). t && leads_somewhere g image e) unread)

  module _ (n : ℕ) (reads : reads_entry e ≡ true) (is : named_by e ≡ n) where
    pub takes_empty : n ≡ 0 → Takes g image seen (e ∷ []) true
    takes_empty none =
        let test : (named_by e == 0) ≡ true = none_test (named_by e) n is none in
        empty_entry g image seen e (ap (λ (t : Bool). t && leads_somewhere g image e) reads ∙ ap (λ (t : Bool). t || used_at (named_by e)) test) test

    module _ (some : n ≢ 0) where
      leads : is_good g image e ≡ used_at n
      leads =
          ap (λ (t : Bool). t && leads_somewhere g image e) reads ∙ ap (λ (t : Bool). t || used_at (named_by e)) (named_test (named_by e) n is some) ∙ ap used_at is

      pub takes_nowhere : used_at n ≡ false → Takes g image seen (e ∷ []) false
      takes_nowhere nowhere = bad_entry g image seen e (leads ∙ nowhere)

      pub takes_new : (new : Bool) → used_at n ≡ true → new ≡ not (is_taken seen (name_in e)) → Takes g image seen (e ∷ []) new
      takes_new true used is_new = new_entry g image seen e (leads ∙ used) (named_test (named_by e) n is some) (not_true (is_taken seen (name_in e)) is_new)
      takes_new false used is_new = taken_entry g image seen e (leads ∙ used) (named_test (named_by e) n is some) (not_false (is_taken seen (name_in e)) is_new)

-- what was seen after an entry
pub seen_empty : (names : SeenNames) (seen : List (List ℕ)) (e : List ℕ) (n : ℕ) → named_by e ≡ n → n ≡ 0 → HasSeen names seen → HasSeen names (with_entry seen e)
seen_empty names seen e n is none was = subst (λ (t : Bool). HasSeen names (if t then seen else e ∷ seen)) (sym (none_test (named_by e) n is none)) was

pub seen_new : (new : Bool) (old now : SeenNames) (e : List ℕ) (n : ℕ) → named_by e ≡ n → n ≢ 0 → IsNamed e → ((seen : List (List ℕ)) → HasSeen old seen → IsNamed e → HasSeen now (e ∷ seen))
    → OnTrue new ((seen : List (List ℕ)) → HasSeen old seen → HasSeen now (with_entry seen e))
seen_new false old now e n is some named more = tt
seen_new true old now e n is some named more = λ seen was.
    subst (λ (t : Bool). HasSeen now (if t then seen else e ∷ seen)) (sym (named_test (named_by e) n is some)) (more seen was named)

-- ---- entry after entry

seen_after-append : (seen xs ys : List (List ℕ)) → seen_after seen (xs ++ ys) ≡ seen_after (seen_after seen xs) ys
seen_after-append seen [] ys = refl
seen_after-append seen (x ∷ xs) ys = seen_after-append (with_entry seen x) xs ys

module _ (g : Geometry) (image : List ℕ) (seen xs ys : List (List ℕ)) where
  pub takes_on : (ok : Bool) → Takes g image seen xs true → Takes g image (seen_after seen xs) ys ok → Takes g image seen (xs ++ ys) ok
  takes_on true one two = λ rest.
      ap (are_good_after g image seen) (append_assoc xs ys rest) ∙ one (ys ++ rest) ∙ two rest ∙ ap (λ (s : List (List ℕ)). are_good_after g image s rest) (sym (seen_after-append seen xs ys))
  takes_on false one two = λ rest. ap (are_good_after g image seen) (append_assoc xs ys rest) ∙ one (ys ++ rest) ∙ two rest

  pub takes_no_more : Takes g image seen xs false → Takes g image seen (xs ++ ys) false
  takes_no_more one rest = ap (are_good_after g image seen) (append_assoc xs ys rest) ∙ one (ys ++ rest)

pub seen_on : (names : SeenNames) (seen xs ys : List (List ℕ)) → HasSeen names (seen_after (seen_after seen xs) ys) → HasSeen names (seen_after seen (xs ++ ys))
seen_on names seen xs ys has = subst (HasSeen names) (sym (seen_after-append seen xs ys)) has

-- one piece more
pub pieces-more : (k : ℕ) (bytes : List ℕ) → pieces (k + 1) bytes ≡ pieces k bytes ++ slice_range bytes (16 * k) (16 * k + 16) ∷ []
pieces-more zero bytes = refl
pieces-more (suc k) bytes =
    let next : suc k + 1 ≡ suc (k + 1) = omega arith in
    let at : 16 + 16 * k ≡ 16 * suc k = omega arith in
    let here : 16 * k + 16 - 16 * k ≡ 16 * suc k + 16 - 16 * suc k = omega arith in
    ap (λ (n : ℕ). pieces n bytes) next ∙ ap (λ (l : List (List ℕ)). take 16 bytes ∷ l) (pieces-more k (drop 16 bytes))
    ∙ ap (λ (l : List ℕ). take 16 bytes ∷ pieces k (drop 16 bytes) ++ take (16 * k + 16 - 16 * k) l ∷ []) (drop-drop (16 * k) 16 bytes ∙ ap (λ (n : ℕ). drop n bytes) at)
    ∙ ap (λ (n : ℕ). take 16 bytes ∷ pieces k (drop 16 bytes) ++ take n (drop (16 * suc k) bytes) ∷ []) here

-- the pieces before one place and those after it
pub pieces-split : (k n : ℕ) (bytes : List ℕ) → k ≤ n → pieces n bytes ≡ pieces k bytes ++ pieces (n - k) (drop (16 * k) bytes)
pieces-split zero n bytes within =
    let all : n ≡ n - 0 = omega arith in
    ap (λ (m : ℕ). pieces m bytes) all
pieces-split (suc k) zero bytes within = absurd (omega (arith, within))
pieces-split (suc k) (suc n) bytes within =
    let at : 16 + 16 * k ≡ 16 * suc k = omega arith in
    let left : n - k ≡ suc n - suc k = omega arith in
    ap (λ (l : List (List ℕ)). take 16 bytes ∷ l) (pieces-split k n (drop 16 bytes) (omega (arith, within)))
    ∙ ap (λ (l : List ℕ). take 16 bytes ∷ pieces k (drop 16 bytes) ++ pieces (n - k) l) (drop-drop (16 * k) 16 bytes ∙ ap (λ (m : ℕ). drop m bytes) at)
    ∙ ap (λ (m : ℕ). take 16 bytes ∷ pieces k (drop 16 bytes) ++ pieces m (drop (16 * suc k) bytes)) left

-- ---- the pieces of a part of a directory, one after the other

module _ (bytes entry : List ℕ) (k : ℕ) (is : entry ≡ slice_range bytes (16 * k) (16 * k + 16)) where
  next_piece : pieces k bytes ++ entry ∷ [] ≡ pieces (k + 1) bytes
  next_piece = ap (λ (e : List ℕ). pieces k bytes ++ e ∷ []) is ∙ sym (pieces-more k bytes)

  module _ (g : Geometry) (image : List ℕ) (seen : List (List ℕ)) (one : Takes g image seen (pieces k bytes) true) where
    pub piece_taken : Takes g image (seen_after seen (pieces k bytes)) (entry ∷ []) true → Takes g image seen (pieces (k + 1) bytes) true
    piece_taken two = subst (λ (es : List (List ℕ)). Takes g image seen es true) next_piece (takes_on g image seen (pieces k bytes) (entry ∷ []) true one two)

    pub piece_refused : (n : ℕ) → k + 1 ≤ n → Takes g image (seen_after seen (pieces k bytes)) (entry ∷ []) false → Takes g image seen (pieces n bytes) false
    piece_refused n within two =
        subst (λ (es : List (List ℕ)). Takes g image seen es false) (sym (pieces-split (k + 1) n bytes within))
        (takes_no_more g image seen (pieces (k + 1) bytes) (pieces (n - (k + 1)) (drop (16 * (k + 1)) bytes))
        (subst (λ (es : List (List ℕ)). Takes g image seen es false) next_piece (takes_on g image seen (pieces k bytes) (entry ∷ []) false one two)))

  pub piece_seen : (names : SeenNames) (seen : List (List ℕ)) → HasSeen names (with_entry (seen_after seen (pieces k bytes)) entry) → HasSeen names (seen_after seen (pieces (k + 1) bytes))
  piece_seen names seen has = subst (λ (es : List (List ℕ)). HasSeen names (seen_after seen es)) next_piece (seen_on names seen (pieces k bytes) (entry ∷ []) has)

pub when_true : {P : Type 0} (t : Bool) → t ≡ true → OnTrue t P → P
when_true true e p = p
when_true false e p = absurd (false≢true e)
