use Rattle.std.proofs.Common.{◌≡◌, ◌<◌, ℕ, inl, inr, true, false, sym, ap, ◌∙◌, arith}
use Rattle.std.proofs.lemmas.Bool.{false≢true, cases_lt}
use Rattle.std.proofs.lemmas.Map.Keys.{le_from_not_gt}
use Rattle.std.specs.Cmp.{nat_cmp_total}
use Rattle.std.specs.BTreeSet as bag
use Rattle.std.specs.FinSet as set
use Rattle.sv_plain.proofs.Shown.{shown_set-contains, shown_set-none}
use Rattle.sv_plain.proofs.maps.number_set.NumberSet.first.Goals as goal

pub returns-in-Some-clause-some : goal.returns-in-Some-clause-some
returns-in-Some-clause-some c =
    ap (λ s. set.contains s c.in-Some.number.now) (sym c.self.view_is)
    ∙ shown_set-contains nat_cmp_total c.self.inside.tree c.in-Some.number.now ∙ c.in-Some.ensures.member

pub returns-in-None-clause-none : goal.returns-in-None-clause-none
returns-in-None-clause-none c = λ n.
    (let empty : bag.btree_set_len c.self.inside.tree ≡ 0 =
    elim (cases_lt 0 (bag.btree_set_len c.self.inside.tree)) [
      | inl some ↦ absurd (false≢true (c.in-None.ensures.variant.1 some))
      | inr none ↦ omega (arith, none)
    ] in
    ap (λ s. set.contains s n) (sym c.self.view_is) ∙ shown_set-none nat_cmp_total c.self.inside.tree n empty)

pub returns-in-Some-clause-least : goal.returns-in-Some-clause-least
returns-in-Some-clause-least c = λ k h.
    le_from_not_gt c.in-Some.number.now k
    (c.in-Some.ensures.least k (sym (shown_set-contains nat_cmp_total c.self.inside.tree k) ∙ ap (λ s. set.contains s k) c.self.view_is ∙ h))
