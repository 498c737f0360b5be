-- A reference that was taken is given back, and all is as before.
use Rattle.std.proofs.Common.{◌≡◌, ◌≤◌, ℕ, ◌+◌, ◌-◌, ◌==◌, Bool, true, false, cond, not, nat_le, if◌then◌else◌, Some, None, sym, refl, ap, ◌∙◌, arith}
use Rattle.std.proofs.lemmas.Bool.{ne_eqb}
use Rattle.std.proofs.lemmas.Bool.Decides.{nat_tests}
use Rattle.std.specs.Ordering.{is_eq}
use Rattle.std.specs.Cmp.{tied_itself}
use Rattle.std.specs.FinMap as map
use Rattle.sv_form.specs.Pair.{pair_cmp, pair_cmp_total, pair_cmp-IsAntisymmetric}
use Rattle.sv_plain.specs.Totals.{at_or_0}
use Rattle.sv_plain.specs.Fs.{Fs}
use Rattle.sv_plain.specs.Whole.{IsWhole}
use Rattle.sv_plain.specs.Names.{references_of, has_reference}
use Rattle.sv_plain.specs.Change.{one_more, with_reference, without_reference}
use Rattle.sv_plain.proofs.Holders.{References}
use Rattle.sv_plain.proofs.Undone.{insert-insert, insert-known, remove-insert}

more_than_one : (m : ℕ) → 1 ≤ m → nat_le (m + 1) 1 ≡ false
more_than_one m some = grind (arith, nat_tests)

module _ (fs : Fs) (p i : ℕ) where
  abbrev k : ℕ × ℕ
  k = (p, i)

  abbrev n : ℕ
  n = references_of fs p i

  there : map.get (one_more fs p i) k ≡ Some (n + 1)
  there = map.get-insert pair_cmp_total fs.references k (n + 1) k ∙ ap (λ o. cond (is_eq o) (Some (n + 1)) (map.get fs.references k)) (tied_itself pair_cmp_total k)

  pub has-one_more : has_reference (with_reference fs p i) p i ≡ true
  has-one_more = ap (λ o. not (at_or_0 (λ m. m) o == 0)) there ∙ ap not (ne_eqb (n + 1) 0 (λ e. absurd (omega (arith, e))))

  abbrev lowered : ℕ → References
  lowered m = if nat_le (m + 1) 1 then map.remove (map.insert fs.references k (m + 1)) k else map.insert (map.insert fs.references k (m + 1)) k (m + 1 - 1)

  as_before : IsWhole fs → lowered n ≡ fs.references
  as_before w =
      elim (map.get fs.references k) as (λ o. map.get fs.references k ≡ o → lowered (at_or_0 (λ m. m) o) ≡ fs.references) [
        | None ↦ λ none. remove-insert pair_cmp_total pair_cmp-IsAntisymmetric fs.references k 1 none
        | Some m ↦ λ known.
            let some : 1 ≤ m = (w.references p i m known).0 in
            let same : m + 1 - 1 ≡ m = omega arith in
            ap (λ b. if b then map.remove (map.insert fs.references k (m + 1)) k else map.insert (map.insert fs.references k (m + 1)) k (m + 1 - 1)) (more_than_one m some)
            ∙ insert-insert pair_cmp_total pair_cmp-IsAntisymmetric fs.references k (m + 1) (m + 1 - 1)
            ∙ ap (map.insert fs.references k) same
            ∙ insert-known pair_cmp_total pair_cmp-IsAntisymmetric fs.references k m known
      ] refl

  pub reference-back : IsWhole fs → without_reference (with_reference fs p i) p i ≡ fs
  reference-back w =
      ap (λ (m : References). record fs { references = m })
      (ap (λ o. if nat_le (at_or_0 (λ m. m) o) 1 then map.remove (one_more fs p i) k else map.insert (one_more fs p i) k (at_or_0 (λ m. m) o - 1)) there
      ∙ as_before w)
