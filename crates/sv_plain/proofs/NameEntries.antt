-- The names of a directory, by the places of its entries.
use Rattle.std.proofs.Common.{◌≡◌, ◌≢◌, ◌≤◌, ◌<◌, ℕ, ◌+◌, ◌-◌, ◌*◌, ◌/◌, ◌%◌, ◌==◌, inl, inr, Bool, true, false, cond, not, nat_lt, List, [], ◌∷◌, length, get_or, replicate, Some, None, sym, refl, ap, subst, ◌∙◌, arith}
use Rattle.std.proofs.lemmas.Bool.{false≢true, cases_eq, cases_lt, eqb-true, eq-eqb}
use Rattle.std.proofs.lemmas.Bool.Decides.{nat_tests}
use Rattle.std.proofs.lemmas.Slice.Eq.{bytes_eq-Decides}
use Rattle.std.proofs.lemmas.List.{length-append, length-replicate}
use Rattle.std.proofs.lemmas.List.Quantifiers.{position-Some}
use Rattle.std.proofs.lemmas.List.Sums.{fails_before_first}
use Rattle.std.proofs.lemmas.List.FromFn.{length-range_with_len, get_or-range_with_len}
use Rattle.std.specs.List.{range_with_len, position, position_or_len}
use Rattle.sv_form.specs.Name.{IsName}
use Rattle.sv_form.specs.Entry.{filled}
use Rattle.sv_form.proofs.NodeEntryLemmas.{until_zero-filled}
use Rattle.sv_form.specs.Node.{Node, entry_count, entry_inode, entry_name, until_zero}
use Rattle.sv_plain.specs.Whole.{IsEntryAt, IsDirectory}
use Rattle.sv_plain.specs.Names.{same_bytes, is_entry, place_of, empty_place}
use Rattle.sv_plain.specs.Change.{entry_bytes}
use Rattle.sv_plain.specs.Step.{is_dots}
use Rattle.sv_plain.proofs.Got.{and_right}
use Rattle.sv_plain.proofs.EntryPut.{with_put, inode-here, name_bytes-here}

-- ---- equal names

pub same-name : (xs ys : List ℕ) → same_bytes xs ys ≡ true → xs ≡ ys
same-name xs ys e = (bytes_eq-Decides xs ys).0 e

pub name-same : (xs ys : List ℕ) → xs ≡ ys → same_bytes xs ys ≡ true
name-same xs ys e = (bytes_eq-Decides xs ys).1 e

-- ---- places

far_enough : (i n : ℕ) → cond (nat_lt i n) (Some i) None ≡ None → n ≤ i
far_enough i n e =
    elim (cases_lt i n) [
      | inl h ↦ (let test : nat_lt i n ≡ true = grind (arith, nat_tests) in let clash : Some i ≡ None = sym (ap (λ b. cond b (Some i) None) test) ∙ e in cc)
      | inr h ↦ h
    ]

-- a test for which no place was found holds nowhere
none_found : (p : ℕ → Bool) (n k : ℕ) → position p (range_with_len 0 n) ≡ None → k < n → p k ≡ false
none_found p n k e low =
    let all : List ℕ = range_with_len 0 n in
    let is : get_or all k 0 ≡ k = omega (arith, get_or-range_with_len 0 n k 0 low) in
    let far = far_enough (position_or_len p all) (length all) e in
    ap p (sym is) ∙ fails_before_first p all k 0 (omega (arith, far, low, length-range_with_len 0 n))

pub place-none : (block : ℕ) (node : Node) (name : List ℕ) → place_of block node name ≡ None → (k : ℕ) → k < entry_count node → is_entry block node name k ≡ false
unfolding place_of
place-none block node name e k low = none_found (is_entry block node name) (entry_count node) k e low

pub empty-none : (block : ℕ) (node : Node) → empty_place block node ≡ None → (k : ℕ) → k < entry_count node → entry_inode block node k ≢ 0
unfolding empty_place
empty-none block node e k low s =
    false≢true (sym (none_found (λ j. entry_inode block node j == 0) (entry_count node) k e low) ∙ eq-eqb (entry_inode block node k) 0 s)

pub empty-at : (block : ℕ) (node : Node) (j : ℕ) → empty_place block node ≡ Some j → (j < entry_count node) × (entry_inode block node j ≡ 0)
unfolding empty_place
empty-at block node j e =
    let all : List ℕ = range_with_len 0 (entry_count node) in
    let at = position-Some (λ k. entry_inode block node k == 0) all j 0 e in
    let within : j < entry_count node = omega (arith, at.0, length-range_with_len 0 (entry_count node)) in
    let is : get_or all j 0 ≡ j = omega (arith, get_or-range_with_len 0 (entry_count node) j 0 within) in
    (within, ap (entry_inode block node) (sym is) ∙ eqb-true (entry_inode block node (get_or all j 0)) 0 at.1)

-- the place of a name other than `.` and `..` is none of the first two
pub third-place : (block d : ℕ) (node : Node) (name : List ℕ) (j : ℕ) → IsDirectory block d node → is_entry block node name j ≡ true → is_dots name ≡ false → 2 ≤ j
third-place block d node name j dir is no_dots =
    let named : entry_name block node j ≡ name = same-name (entry_name block node j) name (and_right (not (entry_inode block node j == 0)) _ is) in
    elim (cases_eq j 0) [
      | inl first ↦ (let e : name ≡ 46 ∷ [] = sym named ∙ ap (entry_name block node) first ∙ dir.dot_name in absurd (false≢true (sym no_dots ∙ ap is_dots e)))
      | inr not_first ↦ elim (cases_eq j 1) [
        | inl second ↦ (let e : name ≡ 46 ∷ 46 ∷ [] = sym named ∙ ap (entry_name block node) second ∙ dir.dots_name in absurd (false≢true (sym no_dots ∙ ap is_dots e)))
        | inr not_second ↦ omega (arith, not_first, not_second)
      ]
    ]

-- an empty place is none of the first two either
pub third-empty : (block d : ℕ) (node : Node) (j : ℕ) → IsDirectory block d node → d ≢ 0 → entry_inode block node j ≡ 0 → 2 ≤ j
third-empty block d node j dir some e =
    elim (cases_eq j 0) [
      | inl first ↦ absurd (some (sym dir.dot ∙ ap (entry_inode block node) (sym first) ∙ e))
      | inr not_first ↦ elim (cases_eq j 1) [
        | inl second ↦ absurd (dir.dots (ap (entry_inode block node) (sym second) ∙ e))
        | inr not_second ↦ omega (arith, not_first, not_second)
      ]
    ]

-- ---- what is written

pub length-filled : (name : List ℕ) → IsName name → length (filled name) ≡ 14
length-filled name is = (let e = length-append name (replicate (14 - length name) 0) in let z = length-replicate {A = ℕ} (14 - length name) 0 in omega (arith, e, z, is.fits))

number_back : (i : ℕ) → i % 256 + 256 * (i / 256) ≡ i
number_back i = omega arith

module _ (block : ℕ) (node : Node) (j links : ℕ) (some : 1 ≤ block) (whole : block % 16 ≡ 0) where
  -- an entry that was emptied
  pub inode-cleared : entry_inode block (with_put block node j (0 ∷ 0 ∷ replicate 14 0) links) j ≡ 0
  inode-cleared = inode-here block node j 0 0 (replicate 14 0) links some whole refl

  pub entry-cleared : IsEntryAt block (with_put block node j (0 ∷ 0 ∷ replicate 14 0) links) j
  entry-cleared = record {
    empty = λ _. name_bytes-here block node j 0 0 (replicate 14 0) links some whole refl;
    named = λ e. absurd (e inode-cleared);
    rest = λ e. absurd (e inode-cleared);
  }

  -- an entry that was entered
  pub inode-entered : (i : ℕ) (name : List ℕ) → IsName name → entry_inode block (with_put block node j (entry_bytes i name) links) j ≡ i
  inode-entered i name is = inode-here block node j (i % 256) (i / 256) (filled name) links some whole (length-filled name is) ∙ number_back i

  pub name-entered : (i : ℕ) (name : List ℕ) → IsName name → entry_name block (with_put block node j (entry_bytes i name) links) j ≡ name
  unfolding entry_name
  name-entered i name is =
      ap until_zero (name_bytes-here block node j (i % 256) (i / 256) (filled name) links some whole (length-filled name is))
      ∙ until_zero-filled name (14 - length name) is.plain

  pub entry-entered : (i : ℕ) (name : List ℕ) → IsName name → i ≢ 0 → IsEntryAt block (with_put block node j (entry_bytes i name) links) j
  entry-entered i name is some_i = record {
    empty = λ e. absurd (some_i (sym (inode-entered i name is) ∙ e));
    named = λ _. subst IsName (sym (name-entered i name is)) is;
    rest = λ _. name_bytes-here block node j (i % 256) (i / 256) (filled name) links some whole (length-filled name is)
        ∙ ap filled (sym (name-entered i name is));
  }
