-- Numbers that are linked one to the next, and back.
use Rattle.std.proofs.Common.{◌≡◌, ◌≢◌, ℕ, zero, suc, ◌<◌, ◌≤◌, List, [], ◌∷◌, ◌++◌, length, reverse, refl, sym, ap, ◌∙◌, arith, inl, inr, subst, Option, Some, None}
use Rattle.std.specs.List.{slice_get}
use Rattle.std.proofs.lemmas.Bool.{cases_eq}
use Rattle.std.proofs.lemmas.List.{reverse-append}
use Rattle.sv_links.specs.Arrangement.{times, without, after}
use Rattle.sv_links.specs.Way.{Runs, Way, next_of, walk}
use Rattle.sv_links.proofs.Times.{one-if_same, none-if_other, times-push, without-cons_same, without-cons_other, without_absent}
use Rattle.sv_links.proofs.Walk.{after-same, after-other, head-stands, times-after}

-- the other way round

reverse-cons : (x : ℕ) (xs : List ℕ) → reverse (x ∷ xs) ≡ reverse xs ++ x ∷ []
reverse-cons x xs = reverse-append (x ∷ []) xs

pub times-reverse : (y : ℕ) (xs : List ℕ) → times y (reverse xs) ≡ times y xs
times-reverse y [] = refl
times-reverse y (x ∷ xs) = let e = ap (times y) (reverse-cons x xs) in omega (arith, times-push x y (reverse xs), times-reverse y xs)

pub reverse-absent : (x : ℕ) (xs : List ℕ) → times x xs ≡ 0 → times x (reverse xs) ≡ 0
reverse-absent x xs h = times-reverse x xs ∙ h

pub reverse_twice : (xs : List ℕ) → reverse (reverse xs) ≡ xs
reverse_twice [] = refl
reverse_twice (x ∷ xs) = ap reverse (reverse-cons x xs) ∙ reverse-append (reverse xs) (x ∷ []) ∙ ap (λ (ys : List ℕ). x ∷ ys) (reverse_twice xs)

-- put first on what is turned round, turned round
pub reverse-pushed : (x : ℕ) (xs : List ℕ) → reverse (x ∷ reverse xs) ≡ xs ++ x ∷ []
reverse-pushed x xs = reverse-cons x (reverse xs) ∙ ap (λ (ys : List ℕ). ys ++ x ∷ []) (reverse_twice xs)

pub runs-join : (f b : Option ℕ → Option ℕ) (p q : Option ℕ) (us : List ℕ) (x : ℕ) (vs : List ℕ) → Runs f b p us (Some x) → Runs f b (Some x) vs q → Runs f b p (us ++ x ∷ vs) q
runs-join f b p q [] x vs r s = (r.0, r.1, s)
runs-join f b p q (u ∷ us) x vs r s = (r.0, r.1, runs-join f b (Some u) q us x vs r.2 s)

pub runs-reverse : (f b : Option ℕ → Option ℕ) (p q : Option ℕ) (xs : List ℕ) → Runs f b p xs q → Runs b f q (reverse xs) p
runs-reverse f b p q [] r = (r.1, r.0)
runs-reverse f b p q (x ∷ xs) r =
    subst (λ (ys : List ℕ). Runs b f q ys p) (sym (reverse-cons x xs))
    (runs-join b f q p (reverse xs) x [] (runs-reverse f b (Some x) q xs r.2) (r.1, r.0))

-- what follows

pub runs-head : (f b : Option ℕ → Option ℕ) (p : Option ℕ) (xs : List ℕ) → Runs f b p xs None → f p ≡ slice_get xs 0
runs-head f b p [] r = r.0
runs-head f b p (x ∷ xs) r = r.0

pub runs-after : (f b : Option ℕ → Option ℕ) (p : Option ℕ) (xs : List ℕ) (x : ℕ) → Runs f b p xs None → 0 < times x xs → f (Some x) ≡ slice_get (after x xs) 0
runs-after f b p [] x r on = absurd (omega arith)
runs-after f b p (y ∷ ys) x r on =
    elim (cases_eq y x) [
      | inl e ↦ ap (λ z. f (Some z)) (sym e) ∙ runs-head f b (Some y) ys r.2 ∙ ap (λ zs. slice_get zs 0) (sym (after-same x y ys e))
      | inr n ↦ let o = none-if_other y x n in runs-after f b (Some y) ys x r.2 (omega arith) ∙ ap (λ zs. slice_get zs 0) (sym (after-other x y ys n))
    ]

-- a list begins with a number of its own, and a number is followed by one
pub head-on : (f b : Option ℕ → Option ℕ) (xs : List ℕ) (y : ℕ) → Runs f b None xs None → f None ≡ Some y → 0 < times y xs
head-on f b xs y r e = head-stands y xs (sym (runs-head f b None xs r) ∙ e)

pub after-on : (f b : Option ℕ → Option ℕ) (xs : List ℕ) (x y : ℕ) → Runs f b None xs None → 0 < times x xs → f (Some x) ≡ Some y → 0 < times y xs
after-on f b xs x y r on e =
    let there = head-stands y (after x xs) (sym (runs-after f b None xs x r on) ∙ e) in
    omega (arith, times-after x y xs)

pub before-on : (f b : Option ℕ → Option ℕ) (xs : List ℕ) (x y : ℕ) → Runs f b None xs None → 0 < times x xs → b (Some x) ≡ Some y → 0 < times y xs
before-on f b xs x y r on e =
    let there = after-on b f (reverse xs) x y (runs-reverse f b None None xs r) (omega (arith, times-reverse x xs)) e in
    omega (arith, times-reverse y xs)

-- after the one before x stands x, and before the one after x too

runs-begin : (f b : Option ℕ → Option ℕ) (p q : Option ℕ) (xs : List ℕ) → Runs f b p xs q → b (f p) ≡ p
runs-begin f b p q [] r = ap b r.0 ∙ r.1
runs-begin f b p q (x ∷ xs) r = ap b r.0 ∙ r.1

pub runs-back : (f b : Option ℕ → Option ℕ) (p q : Option ℕ) (xs : List ℕ) (x : ℕ) → Runs f b p xs q → 0 < times x xs → f (b (Some x)) ≡ Some x
runs-back f b p q [] x r on = absurd (omega arith)
runs-back f b p q (y ∷ ys) x r on =
    elim (cases_eq y x) [
      | inl e ↦ ap f (ap (λ z. b (Some z)) (sym e) ∙ r.1) ∙ r.0 ∙ ap Some e
      | inr n ↦ let o = none-if_other y x n in runs-back f b (Some y) q ys x r.2 (omega arith)
    ]

pub runs-forth : (f b : Option ℕ → Option ℕ) (p q : Option ℕ) (xs : List ℕ) (x : ℕ) → Runs f b p xs q → 0 < times x xs → b (f (Some x)) ≡ Some x
runs-forth f b p q [] x r on = absurd (omega arith)
runs-forth f b p q (y ∷ ys) x r on =
    elim (cases_eq y x) [
      | inl e ↦ ap (λ z. b (f (Some z))) (sym e) ∙ runs-begin f b (Some y) q ys r.2 ∙ ap Some e
      | inr n ↦ let o = none-if_other y x n in runs-forth f b (Some y) q ys x r.2 (omega arith)
    ]

-- other links

pub runs-frame : (f b g c : Option ℕ → Option ℕ) (p q : Option ℕ) (xs : List ℕ) → Runs f b p xs q → g p ≡ f p → c q ≡ b q → ((y : ℕ) → 0 < times y xs → (g (Some y) ≡ f (Some y)) × (c (Some y) ≡ b (Some y))) → Runs g c p xs q
runs-frame f b g c p q [] r e d same = (e ∙ r.0, d ∙ r.1)
runs-frame f b g c p q (x ∷ xs) r e d same =
    let one = one-if_same x x refl in
    let here : (g (Some x) ≡ f (Some x)) × (c (Some x) ≡ b (Some x)) = same x (omega arith) in
    (e ∙ r.0, here.1 ∙ r.1, runs-frame f b g c (Some x) q xs r.2 here.0 d (λ y on. same y (omega arith)))

-- what stands on a list is not what does not
other : (x y : ℕ) (xs : List ℕ) → times x xs ≡ 0 → 0 < times y xs → y ≢ x
other x y xs absent on e = let same : times y xs ≡ times x xs = ap (λ k. times k xs) e in absurd (omega arith)

-- x is put first
pub runs-pushed : (f b g c : Option ℕ → Option ℕ) (xs : List ℕ) (x : ℕ) → Runs f b None xs None → ((y : ℕ) → times y xs ≤ 1) → times x xs ≡ 0 → g None ≡ Some x → g (Some x) ≡ f None → c (Some x) ≡ None → c (f None) ≡ Some x → ((y : ℕ) → y ≢ x → g (Some y) ≡ f (Some y)) → ((n : Option ℕ) → n ≢ f None → n ≢ Some x → c n ≡ b n) → Runs g c None (x ∷ xs) None
runs-pushed f b g c [] x r once absent first second back begin gs cs = (first, back, (second ∙ r.0, ap c (sym r.0) ∙ begin))
runs-pushed f b g c (y ∷ ys) x r once absent first second back begin gs cs =
    let one = one-if_same y y refl in
    let away : y ≢ x = other x y (y ∷ ys) absent (omega arith) in
    let none : times y ys ≡ 0 = omega (arith, once y) in
    let free : times x ys ≡ 0 = omega arith in
    let end : c None ≡ b None = cs None (λ e. let no : None ≡ Some y = e ∙ r.0 in cc) (λ e. cc) in
    let rest : Runs g c (Some y) ys None =
    runs-frame f b g c (Some y) None ys r.2 (gs y away) end
    (λ z on. (
      gs z (other x z ys free on),
      cs (Some z)
          (λ e. let no : Some z ≡ Some y = e ∙ r.0 in let same : z ≡ y = cc in other y z ys none on same)
          (λ e. let same : z ≡ x = cc in other x z ys free on same),
    ))
    in
    (first, back, (second ∙ r.0, ap c (sym r.0) ∙ begin, rest))

-- x is taken out: of a run where it does not stand, of one that it begins, and of one where it stands

pub runs-past : (f b g c : Option ℕ → Option ℕ) (p q : Option ℕ) (xs : List ℕ) (x : ℕ) → Runs f b p xs q → p ≢ Some x → q ≢ Some x → times x xs ≡ 0 → ((n : Option ℕ) → f n ≢ Some x → g n ≡ f n) → ((n : Option ℕ) → b n ≢ Some x → c n ≡ b n) → Runs g c p xs q
runs-past f b g c p q [] x r pn qn absent gs cs = (gs p (λ e. qn (sym r.0 ∙ e)) ∙ r.0, cs q (λ e. pn (sym r.1 ∙ e)) ∙ r.1)
runs-past f b g c p q (y ∷ ys) x r pn qn absent gs cs =
    let one = one-if_same y y refl in
    let away : y ≢ x = other x y (y ∷ ys) absent (omega arith) in
    let yn : Some y ≢ Some x = λ e. let same : y ≡ x = cc in away same in
    (gs p (λ e. yn (sym r.0 ∙ e)) ∙ r.0, cs (Some y) (λ e. pn (sym r.1 ∙ e)) ∙ r.1, runs-past f b g c (Some y) q ys x r.2 yn qn (omega arith) gs cs)

runs-skip : (f b g c : Option ℕ → Option ℕ) (p q : Option ℕ) (xs : List ℕ) (x : ℕ) → Runs f b (Some x) xs q → q ≢ Some x → times x xs ≡ 0 → g p ≡ f (Some x) → c (f (Some x)) ≡ p → ((n : Option ℕ) → f n ≢ Some x → g n ≡ f n) → ((n : Option ℕ) → b n ≢ Some x → c n ≡ b n) → Runs g c p xs q
runs-skip f b g c p q [] x r qn absent over under gs cs = (over ∙ r.0, ap c (sym r.0) ∙ under)
runs-skip f b g c p q (y ∷ ys) x r qn absent over under gs cs =
    let one = one-if_same y y refl in
    let away : y ≢ x = other x y (y ∷ ys) absent (omega arith) in
    let yn : Some y ≢ Some x = λ e. let same : y ≡ x = cc in away same in
    (over ∙ r.0, ap c (sym r.0) ∙ under, runs-past f b g c (Some y) q ys x r.2 yn qn (omega arith) gs cs)

pub runs-taken : (f b g c : Option ℕ → Option ℕ) (p q : Option ℕ) (xs : List ℕ) (x : ℕ) → Runs f b p xs q → p ≢ Some x → q ≢ Some x → ((y : ℕ) → times y xs ≤ 1) → 0 < times x xs → g (b (Some x)) ≡ f (Some x) → c (f (Some x)) ≡ b (Some x) → ((n : Option ℕ) → f n ≢ Some x → g n ≡ f n) → ((n : Option ℕ) → b n ≢ Some x → c n ≡ b n) → Runs g c p (without x xs) q
runs-taken f b g c p q [] x r pn qn once on over under gs cs = absurd (omega arith)
runs-taken f b g c p q (y ∷ ys) x r pn qn once on over under gs cs =
    elim (cases_eq y x) [
      | inl e ↦
          let one = one-if_same y x e in
          let absent : times x ys ≡ 0 = omega (arith, once x) in
          let back : b (Some x) ≡ p = ap (λ z. b (Some z)) (sym e) ∙ r.1 in
          let rest : Runs f b (Some x) ys q = subst (λ (z : ℕ). Runs f b (Some z) ys q) e r.2 in
          subst (λ (zs : List ℕ). Runs g c p zs q) (sym (without-cons_same x y ys e ∙ without_absent x ys absent))
          (runs-skip f b g c p q ys x rest qn absent (ap g (sym back) ∙ over) (under ∙ back) gs cs)
      | inr n ↦
          let none = none-if_other y x n in
          let yn : Some y ≢ Some x = λ e. let same : y ≡ x = cc in n same in
          subst (λ (zs : List ℕ). Runs g c p zs q) (sym (without-cons_other x y ys n)) (
            gs p (λ e. yn (sym r.0 ∙ e)) ∙ r.0,
            cs (Some y) (λ e. pn (sym r.1 ∙ e)) ∙ r.1,
            runs-taken f b g c (Some y) q ys x r.2 yn qn (λ z. omega (arith, once z)) (omega arith) over under gs cs,
          )
    ]

-- a walk goes through the run

walk-end : (w : Way) (n : ℕ) → walk w n None ≡ []
walk-end w zero = refl
walk-end w (suc n) = refl

pub walk-runs : (w : Way) (l n : ℕ) (b : Option ℕ → Option ℕ) (p : Option ℕ) (xs : List ℕ) → Runs (next_of w l) b p xs None → length xs ≤ n → walk w n (next_of w l p) ≡ xs
walk-runs w l n b p [] r h = ap (walk w n) r.0 ∙ walk-end w n
walk-runs w l zero b p (x ∷ xs) r h = absurd (omega arith)
walk-runs w l (suc n) b p (x ∷ xs) r h = ap (walk w (suc n)) r.0 ∙ ap (λ (ys : List ℕ). x ∷ ys) (walk-runs w l n b (Some x) xs r.2 (omega arith))
