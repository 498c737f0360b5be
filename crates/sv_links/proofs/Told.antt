-- The table that tells of each number on which list it stands.
use Rattle.std.proofs.Common.{◌≡◌, ℕ, ◌+◌, ◌<◌, ◌≤◌, ◌==◌, List, [], length, get_or, set, map, refl, sym, ap, ◌∙◌, arith, inl, inr, Option, Some, None}
use Rattle.std.proofs.lemmas.Bool.{cases_eq, cases_lt}
use Rattle.std.proofs.lemmas.List.{get_or-set_same, get_or-set_other, get_or_past, length-map, ext_get_or, length-set}
use Rattle.sv_links.specs.Arrangement.{IsArranged, times, without, one_if}
use Rattle.sv_links.specs.Keeping.{stands}
use Rattle.sv_links.proofs.Times.{one-if_same, none-if_other, times-without_same, times-without_other, without_absent, get_or-without}

-- each number stands on the list that the table tells, once, and on no other
pub record IsTold (lists : List (List ℕ)) (places : List (Option ℕ)) : Type 0 where
  pub told : (l x : ℕ) → times x (get_or lists l []) ≡ stands (get_or places x None) l

pub stands-le : (p : Option ℕ) (l : ℕ) → stands p l ≤ 1
stands-le None l = omega arith
stands-le (Some k) l = elim (cases_eq k l) [ inl e ↦ omega (arith, one-if_same k l e) | inr n ↦ omega (arith, none-if_other k l n) ]

pub place-stands : (p : Option ℕ) (l : ℕ) → 0 < stands p l → p ≡ Some l
place-stands None l h = absurd (omega arith)
place-stands (Some k) l h = elim (cases_eq k l) [ inl e ↦ ap Some e | inr n ↦ absurd (omega (arith, none-if_other k l n)) ]

pub stands-place : (p : Option ℕ) (l : ℕ) → p ≡ Some l → stands p l ≡ 1
stands-place p l e = ap (λ q. stands q l) e ∙ one-if_same l l refl

-- a number with a list is in the table
pub in_table : (places : List (Option ℕ)) (x l : ℕ) → get_or places x None ≡ Some l → x < length places
in_table places x l e = elim (cases_lt x (length places)) [ inl h ↦ h | inr h ↦ let p = get_or_past places x None h in absurd cc ]

-- what a told table says of the lists
pub IsArranged-told : (n : ℕ) (lists : List (List ℕ)) (places : List (Option ℕ)) → n ≡ length places → IsTold lists places → IsArranged (record { numbers = n; lists = lists })
IsArranged-told n lists places size t = record {
  in_range = λ l x on. let p = place-stands (get_or places x None) l (omega (arith, t.told l x)) in omega (arith, in_table places x l p);
  once = λ l x. omega (arith, t.told l x, stands-le (get_or places x None) l);
  one_list = λ l k x on too.
      let p = place-stands (get_or places x None) l (omega (arith, t.told l x)) in
      let q = place-stands (get_or places x None) k (omega (arith, t.told k x)) in
      cc;
}

-- x, which stood nowhere, is put on list l, which is then ys
pub IsTold-pushed : (lists : List (List ℕ)) (places : List (Option ℕ)) (l x : ℕ) (ys : List ℕ) → IsTold lists places → l < length lists → x < length places → ((k : ℕ) → times x (get_or lists k []) ≡ 0) → ((y : ℕ) → times y ys ≡ times y (get_or lists l []) + one_if (x == y)) → IsTold (set lists l ys) (set places x (Some l))
IsTold-pushed lists places l x ys t inside listed absent more = record {
  told = λ k y. elim (cases_eq k l) [
    | inl e ↦ elim (cases_eq y x) [
      | inl s ↦ rw (e, s, get_or-set_same lists l ys [] inside, get_or-set_same places x (Some l) None listed) (omega (arith, more x, absent l, one-if_same x x refl, one-if_same l l refl))
      | inr s ↦ rw (e, get_or-set_same lists l ys [] inside, get_or-set_other places x y (Some l) None s) (omega (arith, more y, t.told l y, none-if_other x y (λ q. s (sym q))))
    ]
    | inr d ↦ elim (cases_eq y x) [
      | inl s ↦ rw (s, get_or-set_other lists l k ys [] d, get_or-set_same places x (Some l) None listed) (omega (arith, absent k, none-if_other l k (λ q. d (sym q))))
      | inr s ↦ rw (get_or-set_other lists l k ys [] d, get_or-set_other places x y (Some l) None s) (t.told k y)
    ]
  ];
}

-- x is taken off
pub IsTold-without : (lists : List (List ℕ)) (places : List (Option ℕ)) (x : ℕ) → IsTold lists places → x < length places → IsTold (map (without x) lists) (set places x None)
IsTold-without lists places x t listed = record {
  told = λ k y. elim (cases_eq y x) [
    | inl s ↦ rw (s, get_or-without x lists k, get_or-set_same places x None None listed) (times-without_same x (get_or lists k []))
    | inr s ↦ rw (get_or-without x lists k, get_or-set_other places x y None None s) (times-without_other x y (get_or lists k []) s ∙ t.told k y)
  ];
}

-- only the list of x changes
pub set-without : (lists : List (List ℕ)) (places : List (Option ℕ)) (l x : ℕ) → IsTold lists places → get_or places x None ≡ Some l → l < length lists → set lists l (without x (get_or lists l [])) ≡ map (without x) lists
set-without lists places l x t p inside =
    ext_get_or [] (set lists l (without x (get_or lists l []))) (map (without x) lists)
    (simp (length-set, length-map))
    (λ k h. elim (cases_eq k l) [
      | inl e ↦ rw (e, get_or-set_same lists l (without x (get_or lists l [])) [] inside, get_or-without x lists l)
      | inr d ↦
          let absent : times x (get_or lists k []) ≡ 0 = t.told k x ∙ ap (λ q. stands q k) p ∙ none-if_other l k (λ q. d (sym q)) in
          rw (get_or-set_other lists l k (without x (get_or lists l [])) [] d, get_or-without x lists k) (sym (without_absent x (get_or lists k []) absent))
    ])
