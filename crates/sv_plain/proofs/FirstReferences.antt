-- The references with which processes begin.
use Rattle.std.proofs.Common.{◌≡◌, ◌≢◌, ◌<◌, ℕ, zero, suc, ◌+◌, ◌-◌, ◌==◌, true, false, not, cond, nat_le, if◌then◌else◌, Some, None, sym, refl, ap, ◌∙◌, arith}
use Rattle.std.specs.Ordering.{eq_by_cmp, is_eq}
use Rattle.std.specs.Cmp.{Equal-is, tied_itself}
use Rattle.std.specs.FinMap as map
use Rattle.sv_form.specs.Pair.{pair_cmp, pair_cmp_total, pair_cmp-IsAntisymmetric}
use Rattle.sv_plain.specs.Fs.{Fs, first_references, holders, places_taken}
use Rattle.sv_plain.specs.Change.{with_reference, without_reference, one_more}
use Rattle.sv_plain.specs.declared.fs.Fs.TheInside.{Inside}
use Rattle.sv_plain.specs.Totals.{at_or_0}
use Rattle.sv_plain.specs.Names.{has_reference}
use Rattle.sv_plain.specs.HolderCounts.{places_of}
use Rattle.sv_plain.specs.Keeping.{IsKept}
use Rattle.sv_plain.proofs.Beginnings.{no_places_taken, none_held}
use Rattle.sv_plain.proofs.Holders.{References}
use Rattle.sv_plain.proofs.Undone.{insert-insert, remove-insert}

other_pair : (j k : ℕ) → j ≢ k → eq_by_cmp pair_cmp (j, 2) (k, 2) ≡ false
other_pair j k ne =
    elim (eq_by_cmp pair_cmp (j, 2) (k, 2)) as (λ b. eq_by_cmp pair_cmp (j, 2) (k, 2) ≡ b → b ≡ false) [
      | true ↦ λ e. absurd (ne (ap (λ (p : ℕ × ℕ). p.0) (pair_cmp-IsAntisymmetric (j, 2) (k, 2) ((Equal-is (pair_cmp (j, 2) (k, 2))).0 e))))
      | false ↦ λ _. refl
    ] refl

-- a later process has none yet
pub none_yet : (k j : ℕ) → k < j → map.get (first_references k) (j, 2) ≡ None
none_yet zero j h = map.get-empty pair_cmp (j, 2)
none_yet (suc k) j h =
    let ne : j ≢ suc k = omega (arith, h) in
    map.get-insert pair_cmp_total (first_references k) (suc k, 2) 2 (j, 2)
    ∙ ap (λ b. cond b (Some 2) (map.get (first_references k) (j, 2))) (other_pair j (suc k) ne)
    ∙ none_yet k j (omega (arith, h))

pub one_more_process : (k : ℕ) → map.insert (first_references k) (k + 1, 2) 2 ≡ first_references (k + 1)
one_more_process k = (let e : k + 1 ≡ suc k = omega arith in (λ i. map.insert (first_references k) (e i, 2) 2) ∙ sym (ap first_references e))

-- ---- two references to an inode that has none, one after the other

module _ (fs : Fs) (p i : ℕ) (none : map.get fs.references (p, i) ≡ None) where
  first : one_more fs p i ≡ map.insert fs.references (p, i) 1
  first = ap (λ o. map.insert fs.references (p, i) (at_or_0 (λ n. n) o + 1)) none

  gotten : map.get (map.insert fs.references (p, i) 1) (p, i) ≡ Some 1
  gotten = map.get-insert pair_cmp_total fs.references (p, i) 1 (p, i) ∙ ap (λ o. cond (is_eq o) (Some 1) (map.get fs.references (p, i))) (tied_itself pair_cmp_total (p, i))

  pub two-added : with_reference (with_reference fs p i) p i ≡ record fs { references = map.insert fs.references (p, i) 2 }
  two-added =
      ap (λ m. record fs { references = m })
      (ap (λ m. map.insert m (p, i) (at_or_0 (λ n. n) (map.get m (p, i)) + 1)) first
      ∙ ap (λ o. map.insert (map.insert fs.references (p, i) 1) (p, i) (at_or_0 (λ n. n) o + 1)) gotten
      ∙ insert-insert pair_cmp_total pair_cmp-IsAntisymmetric fs.references (p, i) 1 2)

  pub one-there : has_reference (with_reference fs p i) p i ≡ true
  one-there = ap (λ m. not (at_or_0 (λ n. n) (map.get m (p, i)) == 0)) first ∙ ap (λ o. not (at_or_0 (λ n. n) o == 0)) gotten

  pub one-taken_back : without_reference (with_reference fs p i) p i ≡ fs
  one-taken_back =
      let one : References = map.insert fs.references (p, i) 1 in
      ap (λ m. record fs { references = m })
      (ap (λ m. if nat_le (at_or_0 (λ n. n) (map.get m (p, i))) 1 then map.remove m (p, i) else map.insert m (p, i) (at_or_0 (λ n. n) (map.get m (p, i)) - 1)) first
      ∙ ap (λ o. if nat_le (at_or_0 (λ n. n) o) 1 then map.remove one (p, i) else map.insert one (p, i) (at_or_0 (λ n. n) o - 1)) gotten
      ∙ remove-insert pair_cmp_total pair_cmp-IsAntisymmetric fs.references (p, i) 1 none)

-- nothing is referred to any more
pub kept-forgotten : (a : Inside) → a.files ≡ map.empty → IsKept a → IsKept (record a { references = map.empty; holders = places_of 0 })
kept-forgotten a e k = record {
  sized = k.sized;
  blocks = k.blocks;
  used = k.used;
  promised = k.promised;
  taken = sym (ap (places_taken a.inodes map.empty) e ∙ no_places_taken a.inodes);
  held = λ i. none_held i ∙ ap (λ f. holders map.empty f i) (sym e);
}
