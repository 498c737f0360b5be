use Rattle.std.proofs.Common.{◌≡◌, ◌∙◌, List, ℕ, Option, Some, nat_eq, true, unwrap_or, [], sym, ap, subst}
use Rattle.std.proofs.lemmas.Bool.{false≢true}
use Rattle.std.specs.Cmp.Lexicographic.{pointwise, nat_list_eq_equiv}
use Rattle.sv_form.specs.declared.entry.Entry.{Entry}
use Rattle.sv_form.proofs.EntryLemmas.{one_entry}
use Rattle.sv_dir.proofs.page.inode_named.Goals as goal

pub returns-in_default-clause-none : goal.returns-in_default-clause-none
returns-in_default-clause-none c = λ inode has. c.in_default.ensures.none _ has.spelled

same_bytes : (a b : List ℕ) → a ≡ b → pointwise nat_eq a b ≡ true
same_bytes a b h = subst (λ (x : List ℕ). pointwise nat_eq x b ≡ true) (sym h) (nat_list_eq_equiv.refl b)

same_named : (found name : List ℕ) (e : Entry) (inode : ℕ) → e.name ≡ Some found → e ≡ record { inode = inode; name = Some name } → found ≡ name
same_named found name e inode at same = ap (λ (o : Option (List ℕ)). unwrap_or o []) (sym at ∙ ap (λ (x : Entry). x.name) same)

pub returns-else-eq-clause-none : goal.returns-else-eq-clause-none
returns-else-eq-clause-none c = λ inode has.
    let same = one_entry _ _ _ c.in-Some.ensures.some has.spelled in
    let name = same_named c.in-Some-name.found c.args.name.now c.in-Some.entry inode c.in-Some-name.is same in
    false≢true (sym c.if-eq.false ∙ c.eq.ensures ∙ same_bytes _ _ (c.as_slice.ensures.value ∙ name ∙ sym c.as_slice-2.ensures.value))
