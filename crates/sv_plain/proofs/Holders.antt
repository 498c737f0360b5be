-- How holders and places taken change with one reference or one file.
use Rattle.std.proofs.Common.{◌≡◌, ◌≢◌, ◌≤◌, ℕ, ◌+◌, ◌==◌, Bool, true, false, not, ◌&&◌, eqb, Option, Some, None, sym, refl, ap, ◌∙◌, arith}
use Rattle.std.proofs.lemmas.Bool.{eqb-true, eq-eqb, false≢true}
use Rattle.std.proofs.lemmas.Bool.Decides.{nat_tests}
use Rattle.std.specs.Ordering.{nat_cmp}
use Rattle.std.specs.FinMap as map
use Rattle.sv_form.specs.Pair.{pair_cmp, pair_cmp_total, pair_cmp-IsAntisymmetric}
use Rattle.sv_plain.specs.declared.fs.opening.Opening.{Opening}
use Rattle.sv_plain.specs.Totals.{at_or_0, one_if}
use Rattle.sv_plain.specs.Fs.{holders, places_taken}
use Rattle.sv_plain.proofs.Totals.{total-insert, total-remove}
use Rattle.sv_plain.proofs.Counts.{count_changed, count_alike}

abbrev pub References : Type 0
References = map.FinMap pair_cmp ℕ

abbrev pub Files : Type 0
Files = map.FinMap nat_cmp Opening

pub zeros : {X : Type 0} (o : Option X) (n : ℕ) → n ≡ 0 → at_or_0 (λ _. n) o ≡ 0
zeros None n e = refl
zeros (Some x) n e = e

pub apart : (i j : ℕ) → j ≢ i → one_if (i == j) ≡ 0
apart i j ne = elim (eqb i j) as (λ b. eqb i j ≡ b → one_if b ≡ 0) [ true ↦ λ e. absurd (ne (sym (eqb-true i j e))) | false ↦ λ _. refl ] refl

pub itself : (i : ℕ) → one_if (i == i) ≡ 1
itself i = ap one_if (eq-eqb i i refl)

pub holders-insert : (references : References) (files : Files) (p i n j : ℕ)
    → holders (map.insert references (p, i) n) files j + at_or_0 (λ _. one_if (i == j)) (map.get references (p, i)) ≡ holders references files j + one_if (i == j)
unfolding holders
holders-insert references files p i n j =
    let changed = total-insert pair_cmp_total pair_cmp-IsAntisymmetric (λ (q : ℕ × ℕ) (_ : ℕ). one_if (q.1 == j)) references (p, i) n in
    omega (arith, changed)

pub holders-remove : (references : References) (files : Files) (p i j : ℕ)
    → holders (map.remove references (p, i)) files j + at_or_0 (λ _. one_if (i == j)) (map.get references (p, i)) ≡ holders references files j
unfolding holders
holders-remove references files p i j =
    let changed = total-remove pair_cmp_total pair_cmp-IsAntisymmetric (λ (q : ℕ × ℕ) (_ : ℕ). one_if (q.1 == j)) references (p, i) in
    omega (arith, changed)

-- other inodes keep their holders
pub holders-insert_apart : (references : References) (files : Files) (p i n j : ℕ) → j ≢ i → holders (map.insert references (p, i) n) files j ≡ holders references files j
holders-insert_apart references files p i n j ne =
    let none = apart i j ne in
    omega (arith, holders-insert references files p i n j, none, zeros (map.get references (p, i)) (one_if (i == j)) none)

pub holders-remove_apart : (references : References) (files : Files) (p i j : ℕ) → j ≢ i → holders (map.remove references (p, i)) files j ≡ holders references files j
holders-remove_apart references files p i j ne =
    let none = apart i j ne in
    omega (arith, holders-remove references files p i j, zeros (map.get references (p, i)) (one_if (i == j)) none)

-- places taken, where the holders of one inode changed
pub places-changed : (inodes i : ℕ) (references references' : References) (files files' : Files) → i ≤ inodes
    → ((j : ℕ) → j ≢ i → holders references' files' j ≡ holders references files j)
    → places_taken inodes references' files' + one_if (not (holders references files i == 0)) ≡ places_taken inodes references files + one_if (not (holders references' files' i == 0))
unfolding places_taken
places-changed inodes i references references' files files' within others =
    count_changed (λ j. not (holders references' files' j == 0)) (λ j. not (holders references files j == 0)) i 0 (inodes + 1) (omega arith) (omega arith)
    (λ j ne. ap (λ n. not (n == 0)) (others j ne))

-- places taken, where the holders of no inode changed
pub places-same : (inodes : ℕ) (references references' : References) (files files' : Files)
    → ((j : ℕ) → holders references' files' j ≡ holders references files j)
    → places_taken inodes references' files' ≡ places_taken inodes references files
unfolding places_taken
places-same inodes references references' files files' same =
    count_alike (λ j. not (holders references' files' j == 0)) (λ j. not (holders references files j == 0)) 0 (inodes + 1)
    (λ j _ _. ap (λ n. not (n == 0)) (same j))

one_place : (b : Bool) → one_if b ≤ 1
one_place true = omega arith
one_place false = omega arith

fewer : (m n : ℕ) → m ≤ n → one_if (not (m == 0)) ≤ one_if (not (n == 0))
fewer m n h = grind (arith, nat_tests)

-- one holder less takes no more places
pub places-fewer : (inodes i : ℕ) (references references' : References) (files files' : Files) → i ≤ inodes
    → ((j : ℕ) → j ≢ i → holders references' files' j ≡ holders references files j) → holders references' files' i ≤ holders references files i
    → places_taken inodes references' files' ≤ places_taken inodes references files
places-fewer inodes i references references' files files' within others fall =
    omega (arith, places-changed inodes i references references' files files' within others, fewer (holders references' files' i) (holders references files i) fall)

full : (r : Bool) (taken places : ℕ) → (not r && (taken == places)) ≡ false → taken ≤ places → taken + 1 ≤ places + one_if r
full true taken places e h = omega (arith, h)
full false taken places e h =
    elim (eqb taken places) as (λ b. eqb taken places ≡ b → b ≡ false → taken + 1 ≤ places + 0) [
      | true ↦ λ _ f. cc
      | false ↦ λ ne _. (let differ : taken ≢ places = λ s. absurd (false≢true (sym ne ∙ eq-eqb taken places s)) in omega (arith, h, differ))
    ] refl e

-- one holder more takes no place where the table was not full for it
pub places-more : (inodes places i : ℕ) (references references' : References) (files files' : Files) → i ≤ inodes
    → ((j : ℕ) → j ≢ i → holders references' files' j ≡ holders references files j)
    → (not (not (holders references files i == 0)) && (places_taken inodes references files == places)) ≡ false
    → places_taken inodes references files ≤ places
    → places_taken inodes references' files' ≤ places
places-more inodes places i references references' files files' within others has_place before =
    let changed = places-changed inodes i references references' files files' within others in
    let room = full (not (holders references files i == 0)) (places_taken inodes references files) places has_place before in
    omega (arith, changed, room, one_place (not (holders references' files' i == 0)))
