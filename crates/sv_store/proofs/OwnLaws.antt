-- What an own stake's list holds and has lent, as it is changed.
use Rattle.std.proofs.Common.{◌≡◌, ◌<◌, ◌≤◌, ◌+◌, ◌*◌, ◌==◌, ◌&&◌, ◌||◌, ◌++◌, ℕ, zero, suc, Bool, true, false, cond, List, [], ◌∷◌, length, map, take, drop, set, get_or, Option, Some, None, IsSome, is_some, is_none, option_map, refl, sym, ap, ◌∙◌, subst, arith, nat_lt, add-zero, not}
use Rattle.std.proofs.Math.Path.{fun_ext}
use Rattle.std.specs.List.{count_by, sum_by}
use Rattle.std.specs.List.{list_any, position, position_or_len}
use Rattle.std.proofs.lemmas.Bool.{false≢true, eqb-true, eq-eqb}
use Rattle.std.proofs.lemmas.Bool.Decides.{nat_tests}
use Rattle.std.proofs.lemmas.List.Sums.{sum_by-set, sum_by-append}
use Rattle.std.proofs.lemmas.List.{take-append-drop, drop-set-add, take-set-le, get_or-drop, get_or_default}
use Rattle.std.specs.Option.{ForSome}
use Rattle.std.proofs.lemmas.List.Elements.{All-set, All-map}
use Rattle.sv_form.specs.declared.geometry.Geometry.{Geometry}
use Rattle.sv_store.specs.Held.{Held, Both, Apart, line_of, put}
use Rattle.sv_store.specs.OwnBlock.{OwnBlock, Mask, mask_of, nowhere, has, holders, IsSound, line_in, held_of, is_out, lent_of, filled}

-- a list that is taken apart at a place, changed there and put together again
pub edited : {X : Type 0} (xs : List X) (at : ℕ) (x : X) → take at xs ++ set (drop at xs) 0 x ≡ set xs at x
edited xs at x =
    ap (λ q. take at xs ++ q) (sym (drop-set-add at xs 0 x) ∙ ap (λ q. drop at (set xs q x)) (omega arith))
    ∙ (ap (λ q. q ++ drop at (set xs at x)) (sym (take-set-le at xs at x (omega arith))) ∙ take-append-drop at (set xs at x))

unfoldable pub over : Option (List ℕ) → Option (List ℕ) → Option (List ℕ)
over p q = cond (is_some p) p q

over-assoc : (o p q : Option (List ℕ)) → over (over o p) q ≡ over o (over p q)
unfolding over
over-assoc None p q = refl
over-assoc (Some x) p q = refl

pub over-nothing : (o : Option (List ℕ)) → over None o ≡ o
unfolding over
over-nothing o = refl

pub over-none : (o : Option (List ℕ)) → over o None ≡ o
unfolding over
over-none None = refl
over-none (Some x) = refl

over-apart : (o p : Option (List ℕ)) → (IsSome o → p ≡ None) → over p o ≡ over o p
unfolding over
over-apart None p h = over-none p
over-apart (Some x) p h = ap (λ q. over q (Some x)) (h refl)

pub Both-over : (h k : Held) (b l : ℕ) → Both h k b l ≡ over (h b l) (k b l)
unfolding Both over
Both-over h k b l = refl

pub Both-apart : (h k : Held) → Apart h k → Both k h ≡ Both h k
Both-apart h k apart =
    fun_ext (λ b. fun_ext (λ l. Both-over k h b l ∙ (over-apart (h b l) (k b l) (apart.at b l) ∙ sym (Both-over h k b l))))

Both-assoc : (h k j : Held) → Both (Both h k) j ≡ Both h (Both k j)
Both-assoc h k j =
    fun_ext (λ b. fun_ext (λ l.
    Both-over (Both h k) j b l
    ∙ (ap (λ q. over q (j b l)) (Both-over h k b l)
    ∙ (over-assoc (h b l) (k b l) (j b l) ∙ (ap (over (h b l)) (sym (Both-over k j b l)) ∙ sym (Both-over h (Both k j) b l))))))

Both-none : (h : Held) → Both h (held_of []) ≡ h
unfolding held_of
Both-none h = fun_ext (λ b. fun_ext (λ l. Both-over h (λ b l. None) b l ∙ over-none (h b l)))

pub held_of-cons : (e : OwnBlock) (es : List OwnBlock) → held_of (e ∷ es) ≡ Both (held_of es) (line_in e)
unfolding held_of
held_of-cons e es = refl

pub held_of-append : (xs ys : List OwnBlock) → held_of (xs ++ ys) ≡ Both (held_of ys) (held_of xs)
held_of-append [] ys = sym (Both-none (held_of ys))
held_of-append (e ∷ es) ys =
    held_of-cons e (es ++ ys)
    ∙ (ap (λ q. Both q (line_in e)) (held_of-append es ys)
    ∙ (Both-assoc (held_of ys) (held_of es) (line_in e) ∙ ap (Both (held_of ys)) (sym (held_of-cons e es))))

pub line_in-at : (e : OwnBlock) (b l : ℕ) → line_in e b l ≡ cond (has b l (mask_of e)) (Some (line_of e.kept l)) None
unfolding line_in
line_in-at e b l = refl

-- what can be lent does not matter to what is held
pub held_of-spare : (es : List OwnBlock) (at : ℕ) (spare : Option (List ℕ)) → held_of (set es at (record (get_or es at nowhere) { spare = spare })) ≡ held_of es
held_of-spare [] at spare = refl
held_of-spare (e ∷ es) zero spare =
    held_of-cons (record e { spare = spare }) es ∙ (ap (Both (held_of es)) (fun_ext (λ b. fun_ext (λ l. line_in-at (record e { spare = spare }) b l ∙ sym (line_in-at e b l)))) ∙ sym (held_of-cons e es))
held_of-spare (e ∷ es) (suc at) spare =
    held_of-cons e (set es at (record (get_or es at nowhere) { spare = spare })) ∙ (ap (λ q. Both q (line_in e)) (held_of-spare es at spare) ∙ sym (held_of-cons e es))

-- the entry at a place, changed after the list was split before it
pub edited-front : (xs front others : List OwnBlock) (at : ℕ) (own own' : OwnBlock) (f : OwnBlock → OwnBlock) → at < length xs → front ≡ take at xs → others ≡ drop at xs → own ≡ get_or others 0 own → own' ≡ f own → front ++ set others 0 own' ≡ set xs at (f (get_or xs at nowhere))
edited-front xs front others at own own' f below front-is others-is own-is own'-is =
    let e : own ≡ get_or xs at nowhere = own-is ∙ (ap (λ q. get_or q 0 own) others-is ∙ (get_or-drop at xs 0 own ∙ (ap (λ q. get_or xs q own) (add-zero at) ∙ get_or_default xs at own nowhere below))) in
    ap (λ q. q ++ set others 0 own') front-is ∙ (ap (λ q. take at xs ++ set q 0 own') others-is ∙ (edited xs at own' ∙ ap (set xs at) (own'-is ∙ ap f e)))

mapped : (bytes : List ℕ) (o : Option (List ℕ)) → Option (List ℕ)
mapped bytes o = option_map (λ _. bytes) o

pub eqb-apart : (a b c : ℕ) → (a == b) ≡ true → (c == b) ≡ false → (a == c) ≡ false
eqb-apart a b c one other = grind (nat_tests, arith)

pub has-wrong : (c l : ℕ) (m : Mask) → (m.block == c) ≡ false → has c l m ≡ false
unfolding has
has-wrong c l m other = ap (λ q. q && get_or m.lines l false) other

-- what a block is filled with is put where its lines are held
line_in-filled : (b : ℕ) (bytes : List ℕ) (e : OwnBlock) → line_in (filled b bytes e) ≡ put b bytes (line_in e)
unfolding filled put line_in
line_in-filled b bytes e = fun_ext (λ c. fun_ext (λ l. by c l (e.block == b) refl (c == b) refl))
  where
    wrong : (c l : ℕ) → (e.block == c) ≡ false → has c l (mask_of e) ≡ false
    wrong c l other = has-wrong c l (mask_of e) other

    by : (c l : ℕ) (t : Bool) → (e.block == b) ≡ t → (s : Bool) → (c == b) ≡ s → line_in (filled b bytes e) c l ≡ put b bytes (line_in e) c l
    by c l true et true es =
        ap (λ q. cond (has c l (mask_of (cond q (record e { kept = bytes }) e))) (Some (line_of (cond q (record e { kept = bytes }) e).kept l)) None) et
        ∙ (through (has c l (mask_of e)) ∙ sym (ap (λ q. cond q (option_map (λ _. line_of bytes l) (cond (has c l (mask_of e)) (Some (line_of e.kept l)) None)) (cond (has c l (mask_of e)) (Some (line_of e.kept l)) None)) es))
      where
        through : (h : Bool) → cond h (Some (line_of bytes l)) None ≡ option_map (λ _. line_of bytes l) (cond h (Some (line_of e.kept l)) None)
        through true = refl
        through false = refl
    by c l true et false es =
        ap (λ q. cond (has c l (mask_of (cond q (record e { kept = bytes }) e))) (Some (line_of (cond q (record e { kept = bytes }) e).kept l)) None) et
        ∙ (ap (λ q. cond q (Some (line_of bytes l)) None) none
        ∙ (sym (ap (λ q. cond q (Some (line_of e.kept l)) None) none)
        ∙ sym (ap (λ q. cond q (option_map (λ _. line_of bytes l) (cond (has c l (mask_of e)) (Some (line_of e.kept l)) None)) (cond (has c l (mask_of e)) (Some (line_of e.kept l)) None)) es)))
      where
        none : has c l (mask_of e) ≡ false
        none = wrong c l (eqb-apart e.block b c et es)
    by c l false et true es =
        ap (λ q. cond (has c l (mask_of (cond q (record e { kept = bytes }) e))) (Some (line_of (cond q (record e { kept = bytes }) e).kept l)) None) et
        ∙ (ap (λ q. cond q (Some (line_of e.kept l)) None) none
        ∙ (sym (ap (λ q. option_map (λ _. line_of bytes l) (cond q (Some (line_of e.kept l)) None)) none)
        ∙ sym (ap (λ q. cond q (option_map (λ _. line_of bytes l) (cond (has c l (mask_of e)) (Some (line_of e.kept l)) None)) (cond (has c l (mask_of e)) (Some (line_of e.kept l)) None)) es)))
      where
        none : has c l (mask_of e) ≡ false
        none = wrong c l (ap (λ q. e.block == q) (eqb-true c b es) ∙ et)
    by c l false et false es =
        ap (λ q. cond (has c l (mask_of (cond q (record e { kept = bytes }) e))) (Some (line_of (cond q (record e { kept = bytes }) e).kept l)) None) et
        ∙ sym (ap (λ q. cond q (option_map (λ _. line_of bytes l) (cond (has c l (mask_of e)) (Some (line_of e.kept l)) None)) (cond (has c l (mask_of e)) (Some (line_of e.kept l)) None)) es)

put-Both : (b : ℕ) (bytes : List ℕ) (h k : Held) → Both (put b bytes h) (put b bytes k) ≡ put b bytes (Both h k)
unfolding Both put
put-Both b bytes h k = fun_ext (λ c. fun_ext (λ l. by c l (c == b) refl))
  where
    by : (c l : ℕ) (t : Bool) → (c == b) ≡ t → Both (put b bytes h) (put b bytes k) c l ≡ put b bytes (Both h k) c l
    by c l t e =
        ap (λ q. cond (is_some (cond q (option_map (λ _. line_of bytes l) (h c l)) (h c l))) (cond q (option_map (λ _. line_of bytes l) (h c l)) (h c l)) (cond q (option_map (λ _. line_of bytes l) (k c l)) (k c l))) e
        ∙ (through t (h c l) ∙ sym (ap (λ q. cond q (option_map (λ _. line_of bytes l) (cond (is_some (h c l)) (h c l) (k c l))) (cond (is_some (h c l)) (h c l) (k c l))) e))
      where
        through : (t : Bool) (o : Option (List ℕ)) → cond (is_some (cond t (option_map (λ _. line_of bytes l) o) o)) (cond t (option_map (λ _. line_of bytes l) o) o) (cond t (option_map (λ _. line_of bytes l) (k c l)) (k c l)) ≡ cond t (option_map (λ _. line_of bytes l) (cond (is_some o) o (k c l))) (cond (is_some o) o (k c l))
        through true None = refl
        through true (Some x) = refl
        through false None = refl
        through false (Some x) = refl

no-option : (b c : ℕ) (bytes : List ℕ) → None ≡ cond (c == b) (option_map {T = List ℕ} {U = List ℕ} (λ _. bytes) None) None
no-option b c bytes = through (c == b)
  where
    through : (t : Bool) → None ≡ cond t (option_map {T = List ℕ} {U = List ℕ} (λ _. bytes) None) None
    through true = refl
    through false = refl

put-none : (b : ℕ) (bytes : List ℕ) → held_of [] ≡ put b bytes (held_of [])
unfolding held_of put
put-none b bytes = fun_ext (λ c. fun_ext (λ l. no-option b c (line_of bytes l)))

pub held_of-filled : (b : ℕ) (bytes : List ℕ) (es : List OwnBlock) → held_of (map (filled b bytes) es) ≡ put b bytes (held_of es)
held_of-filled b bytes [] = put-none b bytes
held_of-filled b bytes (e ∷ es) =
    held_of-cons (filled b bytes e) (map (filled b bytes) es)
    ∙ (ap (λ q. Both q (line_in (filled b bytes e))) (held_of-filled b bytes es)
    ∙ (ap (Both (put b bytes (held_of es))) (line_in-filled b bytes e)
    ∙ (put-Both b bytes (held_of es) (line_in e) ∙ ap (put b bytes) (sym (held_of-cons e es)))))

pub lent_of-cons : (e : OwnBlock) (es : List OwnBlock) (c : ℕ) → lent_of (e ∷ es) c ≡ cond (is_out c e) (Some e.kept) (lent_of es c)
unfolding lent_of
lent_of-cons e es c = refl

pub is_out-block : (c : ℕ) (e : OwnBlock) → is_out c e ≡ true → (e.block == c) ≡ true
unfolding is_out
is_out-block c e h = grind (nat_tests, arith)

pub is_out-wrong : (c : ℕ) (e : OwnBlock) → (e.block == c) ≡ false → is_out c e ≡ false
unfolding is_out
is_out-wrong c e other = ap (λ q. q && is_none e.spare) other

kept-filled : (b : ℕ) (bytes : List ℕ) (e : OwnBlock) → (filled b bytes e).kept ≡ cond (e.block == b) bytes e.kept
unfolding filled
kept-filled b bytes e = by (e.block == b)
  where
    by : (t : Bool) → (cond t (record e { kept = bytes }) e).kept ≡ cond t bytes e.kept
    by true = refl
    by false = refl

spare-filled : (b : ℕ) (bytes : List ℕ) (e : OwnBlock) → (filled b bytes e).spare ≡ e.spare
unfolding filled
spare-filled b bytes e = by (e.block == b)
  where
    by : (t : Bool) → (cond t (record e { kept = bytes }) e).spare ≡ e.spare
    by true = refl
    by false = refl

mask-filled : (b : ℕ) (bytes : List ℕ) (e : OwnBlock) → mask_of (filled b bytes e) ≡ mask_of e
unfolding filled
mask-filled b bytes e = by (e.block == b)
  where
    by : (t : Bool) → mask_of (cond t (record e { kept = bytes }) e) ≡ mask_of e
    by true = refl
    by false = refl

is_out-filled : (b : ℕ) (bytes : List ℕ) (e : OwnBlock) (c : ℕ) → is_out c (filled b bytes e) ≡ is_out c e
unfolding filled is_out
is_out-filled b bytes e c = by (e.block == b)
  where
    by : (t : Bool) → (((cond t (record e { kept = bytes }) e).block == c) && is_none (cond t (record e { kept = bytes }) e).spare) ≡ ((e.block == c) && is_none e.spare)
    by true = refl
    by false = refl

pub and-true : (t : Bool) → (t && true) ≡ t
and-true true = refl
and-true false = refl

and-false : (t : Bool) → (t && false) ≡ false
and-false true = refl
and-false false = refl

is_out-emptied : (c : ℕ) (e : OwnBlock) → is_out c (record e { spare = None }) ≡ (e.block == c)
unfolding is_out
is_out-emptied c e = and-true (e.block == c)

pub is_out-home : (c : ℕ) (e : OwnBlock) (bytes : List ℕ) → is_out c (record e { spare = Some bytes }) ≡ false
unfolding is_out
is_out-home c e bytes = and-false (e.block == c)

pub held_of-nil : (b l : ℕ) → held_of [] b l ≡ None
unfolding held_of
held_of-nil b l = refl

pub lent_of-nil : (c : ℕ) → lent_of [] c ≡ None
unfolding lent_of
lent_of-nil c = refl

-- filling a block changes with what it counts as lent
pub lent_of-filled : (b : ℕ) (bytes : List ℕ) (es : List OwnBlock) (c : ℕ) → lent_of (map (filled b bytes) es) c ≡ cond (c == b) (option_map (λ _. bytes) (lent_of es c)) (lent_of es c)
lent_of-filled b bytes [] c =
    lent_of-nil c ∙ (no-option b c bytes ∙ sym (ap (λ q. cond (c == b) (option_map (λ _. bytes) q) q) (lent_of-nil c)))
lent_of-filled b bytes (e ∷ es) c =
    lent_of-cons (filled b bytes e) (map (filled b bytes) es) c
    ∙ (ap (λ q. cond q (Some (filled b bytes e).kept) (lent_of (map (filled b bytes) es) c)) (is_out-filled b bytes e c)
    ∙ (ap (cond (is_out c e) (Some (filled b bytes e).kept)) (lent_of-filled b bytes es c)
    ∙ (by (is_out c e) refl (c == b) refl ∙ sym (ap (λ q. cond (c == b) (option_map (λ _. bytes) q) q) (lent_of-cons e es c)))))
  where
    by : (o : Bool) → is_out c e ≡ o → (t : Bool) → (c == b) ≡ t → cond o (Some (filled b bytes e).kept) (cond t (option_map (λ _. bytes) (lent_of es c)) (lent_of es c)) ≡ cond t (option_map (λ _. bytes) (cond o (Some e.kept) (lent_of es c))) (cond o (Some e.kept) (lent_of es c))
    by true oe true te =
        ap (λ q. Some q) (kept-filled b bytes e ∙ ap (λ q. cond q bytes e.kept) (ap (λ q. e.block == q) (sym (eqb-true c b te)) ∙ is_out-block c e oe))
    by true oe false te =
        ap (λ q. Some q) (kept-filled b bytes e ∙ ap (λ q. cond q bytes e.kept) (ap (λ q. q == b) (eqb-true e.block c (is_out-block c e oe)) ∙ te))
    by false oe true te = refl
    by false oe false te = refl

pub count-cons : {X : Type 0} (p : X → Bool) (x : X) (xs : List X) → count_by p (x ∷ xs) ≡ cond (p x) 1 0 + count_by p xs
count-cons p x xs =
    let one : sum_by (λ y. cond (p y) 1 0) (x ∷ []) ≡ cond (p x) 1 0 = omega arith in
    sum_by-append (λ y. cond (p y) 1 0) (x ∷ []) xs ∙ ap (λ q. q + count_by p xs) one

-- where nothing of a block is out, it is not lent, and the other way round
pub out-none : (b : ℕ) (es : List OwnBlock) → count_by (is_out b) es ≡ 0 → lent_of es b ≡ None
out-none b [] h = lent_of-nil b
out-none b (e ∷ es) h = lent_of-cons e es b ∙ by (is_out b e) refl (out-none b es)
  where
    by : (o : Bool) → is_out b e ≡ o → (count_by (is_out b) es ≡ 0 → lent_of es b ≡ None) → cond (is_out b e) (Some e.kept) (lent_of es b) ≡ None
    by true oe rec =
        let some : cond (is_out b e) 1 0 ≡ 1 = ap {B = ℕ} (λ q. cond q 1 0) oe in
        absurd (omega (arith, h, some, count-cons (is_out b) e es))
    by false oe rec =
        let some : cond (is_out b e) 1 0 ≡ 0 = ap {B = ℕ} (λ q. cond q 1 0) oe in
        ap (λ q. cond q (Some e.kept) (lent_of es b)) oe ∙ rec (omega (arith, h, some, count-cons (is_out b) e es))

pub none-out : (b : ℕ) (es : List OwnBlock) → lent_of es b ≡ None → count_by (is_out b) es ≡ 0
none-out b [] h = refl
none-out b (e ∷ es) h = count-cons (is_out b) e es ∙ by (is_out b e) refl (none-out b es)
  where
    by : (o : Bool) → is_out b e ≡ o → (lent_of es b ≡ None → count_by (is_out b) es ≡ 0) → cond (is_out b e) 1 0 + count_by (is_out b) es ≡ 0
    by true oe rec = absurd (false≢true (ap is_some (sym h ∙ (lent_of-cons e es b ∙ ap (λ q. cond q (Some e.kept) (lent_of es b)) oe))))
    by false oe rec =
        let none : cond (is_out b e) 1 0 ≡ 0 = ap {B = ℕ} (λ q. cond q 1 0) oe in
        omega (arith, none, rec (sym (lent_of-cons e es b ∙ ap (λ q. cond q (Some e.kept) (lent_of es b)) oe) ∙ h))

pub count-at : {X : Type 0} (p : X → Bool) (xs : List X) (at : ℕ) (d : X) → at < length xs → p (get_or xs at d) ≡ true → 1 ≤ count_by p xs
count-at p [] at d below h = absurd (omega arith)
count-at p (x ∷ xs) zero d below h = omega (arith, ap {B = ℕ} (λ q. cond q 1 0) h, count-cons p x xs)
count-at p (x ∷ xs) (suc at) d below h = omega (arith, count-at p xs at d (omega arith) h, count-cons p x xs)

-- the entry at a place is lent out of
pub lent_of-take : (es : List OwnBlock) (at b c : ℕ) → at < length es → (get_or es at nowhere).block ≡ b → lent_of es b ≡ None → lent_of (set es at (record (get_or es at nowhere) { spare = None })) c ≡ cond (c == b) (Some (get_or es at nowhere).kept) (lent_of es c)
lent_of-take [] at b c below same none = absurd (omega arith)
lent_of-take (e ∷ es) zero b c below same none =
    lent_of-cons (record e { spare = None }) es c
    ∙ (ap (λ q. cond q (Some e.kept) (lent_of es c)) (is_out-emptied c e) ∙ (by (c == b) refl ∙ sym (ap (cond (c == b) (Some e.kept)) (lent_of-cons e es c))))
  where
    by : (t : Bool) → (c == b) ≡ t → cond (e.block == c) (Some e.kept) (lent_of es c) ≡ cond t (Some e.kept) (cond (is_out c e) (Some e.kept) (lent_of es c))
    by true te = ap (λ q. cond q (Some e.kept) (lent_of es c)) (eq-eqb e.block c (same ∙ sym (eqb-true c b te)))
    by false te =
        let other : (e.block == c) ≡ false = eqb-apart e.block b c (eq-eqb e.block b same) te in
        ap (λ q. cond q (Some e.kept) (lent_of es c)) other ∙ sym (ap (λ q. cond q (Some e.kept) (lent_of es c)) (is_out-wrong c e other))
lent_of-take (e ∷ es) (suc at) b c below same none =
    lent_of-cons e (set es at (record (get_or es at nowhere) { spare = None })) c
    ∙ (ap (cond (is_out c e) (Some e.kept)) (lent_of-take es at b c (omega arith) same (tail (is_out b e) refl)) ∙ (by (c == b) refl ∙ sym (ap (cond (c == b) (Some (get_or es at nowhere).kept)) (lent_of-cons e es c))))
  where
    home : (o : Bool) → is_out b e ≡ o → is_out b e ≡ false
    home true oe = absurd (false≢true (ap is_some (sym none ∙ (lent_of-cons e es b ∙ ap (λ q. cond q (Some e.kept) (lent_of es b)) oe))))
    home false oe = oe

    tail : (o : Bool) → is_out b e ≡ o → lent_of es b ≡ None
    tail o oe = sym (lent_of-cons e es b ∙ ap (λ q. cond q (Some e.kept) (lent_of es b)) (home o oe)) ∙ none

    by : (t : Bool) → (c == b) ≡ t → cond (is_out c e) (Some e.kept) (cond t (Some (get_or es at nowhere).kept) (lent_of es c)) ≡ cond t (Some (get_or es at nowhere).kept) (cond (is_out c e) (Some e.kept) (lent_of es c))
    by true te =
        ap (λ q. cond q (Some e.kept) (Some (get_or es at nowhere).kept)) (ap (λ q. is_out q e) (eqb-true c b te) ∙ home (is_out b e) refl)
    by false te = refl

-- the entry at a place is given its bytes back
pub lent_of-give : (es : List OwnBlock) (at b c : ℕ) (bytes : List ℕ) → at < length es → is_out b (get_or es at nowhere) ≡ true → count_by (is_out b) es ≤ 1 → lent_of (set es at (record (get_or es at nowhere) { spare = Some bytes })) c ≡ cond (c == b) None (lent_of es c)
lent_of-give [] at b c bytes below out one = absurd (omega arith)
lent_of-give (e ∷ es) zero b c bytes below out one =
    lent_of-cons (record e { spare = Some bytes }) es c
    ∙ (ap (λ q. cond q (Some e.kept) (lent_of es c)) (is_out-home c e bytes) ∙ (by (c == b) refl ∙ sym (ap (cond (c == b) None) (lent_of-cons e es c))))
  where
    by : (t : Bool) → (c == b) ≡ t → lent_of es c ≡ cond t None (cond (is_out c e) (Some e.kept) (lent_of es c))
    by true te = ap (lent_of es) (eqb-true c b te) ∙ out-none b es (omega (arith, one, ap {B = ℕ} (λ q. cond q 1 0) out, count-cons (is_out b) e es))
    by false te =
        sym (ap (λ q. cond q (Some e.kept) (lent_of es c)) (is_out-wrong c e (eqb-apart e.block b c (is_out-block b e out) te)))
lent_of-give (e ∷ es) (suc at) b c bytes below out one =
    lent_of-cons e (set es at (record (get_or es at nowhere) { spare = Some bytes })) c
    ∙ (ap (cond (is_out c e) (Some e.kept)) (lent_of-give es at b c bytes (omega arith) out (omega (arith, one, count-cons (is_out b) e es))) ∙ (by (c == b) refl ∙ sym (ap (cond (c == b) None) (lent_of-cons e es c))))
  where
    home : (o : Bool) → is_out b e ≡ o → is_out b e ≡ false
    home true oe = absurd (omega (arith, one, ap {B = ℕ} (λ q. cond q 1 0) oe, count-at (is_out b) es at nowhere (omega arith) out, count-cons (is_out b) e es))
    home false oe = oe

    by : (t : Bool) → (c == b) ≡ t → cond (is_out c e) (Some e.kept) (cond t None (lent_of es c)) ≡ cond t None (cond (is_out c e) (Some e.kept) (lent_of es c))
    by true te = ap (λ q. cond q (Some e.kept) None) (ap (λ q. is_out q e) (eqb-true c b te) ∙ home (is_out b e) refl)
    by false te = refl

-- where something of a block is held, the block has a place
pub any-place : {X : Type 0} (p : X → Bool) (xs : List X) → list_any p xs ≡ true → position_or_len p xs < length xs
any-place p [] h = absurd (false≢true h)
any-place p (x ∷ xs) h = by (p x) h (any-place p xs)
  where
    by : (t : Bool) → (t || list_any p xs) ≡ true → (list_any p xs ≡ true → position_or_len p xs < length xs) → cond (not t) (1 + position_or_len p xs) 0 < suc (length xs)
    by true h rec = omega arith
    by false h rec = omega (arith, rec h)

no-place : {X : Type 0} (p : X → Bool) (xs : List X) → position p xs ≡ None → list_any p xs ≡ false
no-place p xs none = by (list_any p xs) refl
  where
    ltb-lt : (a b : ℕ) → a < b → nat_lt a b ≡ true
    ltb-lt a b h = grind (nat_tests, arith)

    by : (t : Bool) → list_any p xs ≡ t → list_any p xs ≡ false
    by true e =
        absurd (false≢true (ap is_some (sym none ∙ ap (λ q. cond q (Some (position_or_len p xs)) None) (ltb-lt (position_or_len p xs) (length xs) (any-place p xs e)))))
    by false e = e

or-false : (a b : Bool) → (a || b) ≡ false → (a ≡ false) × (b ≡ false)
or-false true b h = absurd (false≢true (sym h))
or-false false b h = (refl, h)

held-nowhere : (b l : ℕ) (es : List OwnBlock) → list_any (λ e. e.block == b) es ≡ false → held_of es b l ≡ None
held-nowhere b l [] h = held_of-nil b l
held-nowhere b l (e ∷ es) h =
    let both = or-false (e.block == b) (list_any (λ e. e.block == b) es) h in
    ap (λ q. q b l) (held_of-cons e es)
    ∙ (Both-over (held_of es) (line_in e) b l
    ∙ (ap (λ q. over q (line_in e b l)) (held-nowhere b l es both.1)
    ∙ (over-nothing (line_in e b l) ∙ (line_in-at e b l ∙ ap (λ q. cond q (Some (line_of e.kept l)) None) (has-wrong b l (mask_of e) both.0)))))

lent-nowhere : (b : ℕ) (es : List OwnBlock) → list_any (is_out b) es ≡ false → lent_of es b ≡ None
lent-nowhere b [] h = lent_of-nil b
lent-nowhere b (e ∷ es) h =
    let both = or-false (is_out b e) (list_any (is_out b) es) h in
    lent_of-cons e es b ∙ (ap (λ q. cond q (Some e.kept) (lent_of es b)) both.0 ∙ lent-nowhere b es both.1)

-- a block of which something is held has a place, and so has one that is lent
pub held-place : (b l : ℕ) (es : List OwnBlock) → position (λ e. e.block == b) es ≡ None → IsSome (held_of es b l) → ⊥
held-place b l es none is = false≢true (ap is_some (sym (held-nowhere b l es (no-place (λ e. e.block == b) es none))) ∙ is)

pub lent-place : (b : ℕ) (es : List OwnBlock) (bytes : List ℕ) → position (is_out b) es ≡ None → lent_of es b ≡ Some bytes → ⊥
lent-place b es bytes none is = false≢true (ap is_some (sym (lent-nowhere b es (no-place (is_out b) es none)) ∙ is))

masks-spare : (es : List OwnBlock) (at : ℕ) (spare : Option (List ℕ)) → map mask_of (set es at (record (get_or es at nowhere) { spare = spare })) ≡ map mask_of es
masks-spare [] at spare = refl
masks-spare (e ∷ es) zero spare = refl
masks-spare (e ∷ es) (suc at) spare = ap (λ q. mask_of e ∷ q) (masks-spare es at spare)

masks-filled : (b : ℕ) (bytes : List ℕ) (es : List OwnBlock) → map mask_of (map (filled b bytes) es) ≡ map mask_of es
masks-filled b bytes [] = refl
masks-filled b bytes (e ∷ es) =
    ap (λ q. q ∷ map mask_of (map (filled b bytes) es)) (mask-filled b bytes e) ∙ ap (λ q. mask_of e ∷ q) (masks-filled b bytes es)

count-filled : (b : ℕ) (bytes : List ℕ) (es : List OwnBlock) (c : ℕ) → count_by (is_out c) (map (filled b bytes) es) ≡ count_by (is_out c) es
count-filled b bytes [] c = refl
count-filled b bytes (e ∷ es) c =
    let head : cond (is_out c (filled b bytes e)) 1 0 ≡ cond (is_out c e) 1 0 = ap {B = ℕ} (λ q. cond q 1 0) (is_out-filled b bytes e c) in
    omega (arith, head, count-cons (is_out c) (filled b bytes e) (map (filled b bytes) es), count-cons (is_out c) e es, count-filled b bytes es c)

-- a list stays sound where bytes are taken or given back, and where a block is filled
pub sound-spare : {g : Geometry} {es : List OwnBlock} → IsSound g es → (at : ℕ) (spare : Option (List ℕ)) → at < length es → ForSome spare (λ bytes. length bytes ≡ g.block_size) → ((b : ℕ) → count_by (is_out b) (set es at (record (get_or es at nowhere) { spare = spare })) ≤ 1) → IsSound g (set es at (record (get_or es at nowhere) { spare = spare }))
sound-spare {g} {es} sound at spare below fits out = record {
  block = All-set (λ e. e.block < g.blocks) es at (record (get_or es at nowhere) { spare = spare }) (sound.block at nowhere below) sound.block;
  lines = All-set (λ e. length e.lines * 64 ≡ g.block_size) es at (record (get_or es at nowhere) { spare = spare }) (sound.lines at nowhere below) sound.lines;
  some = All-set (λ e. list_any (λ x. x) e.lines ≡ true) es at (record (get_or es at nowhere) { spare = spare }) (sound.some at nowhere below) sound.some;
  once = λ b l. omega (arith, ap (holders b l) (masks-spare es at spare), sound.once b l);
  kept = All-set (λ e. length e.kept ≡ g.block_size) es at (record (get_or es at nowhere) { spare = spare }) (sound.kept at nowhere below) sound.kept;
  spare = All-set (λ e. ForSome e.spare (λ bytes. length bytes ≡ g.block_size)) es at (record (get_or es at nowhere) { spare = spare }) fits sound.spare;
  out = out;
}

pub sound-filled : {g : Geometry} {es : List OwnBlock} → IsSound g es → (b : ℕ) (bytes : List ℕ) → length bytes ≡ g.block_size → IsSound g (map (filled b bytes) es)
sound-filled {g} {es} sound b bytes fits = record {
  block = All-map (λ e. e.block < g.blocks) (filled b bytes) es (λ k d below. subst (λ (m : Mask). m.block < g.blocks) (sym (mask-filled b bytes (get_or es k d))) (sound.block k d below));
  lines = All-map (λ e. length e.lines * 64 ≡ g.block_size) (filled b bytes) es (λ k d below. subst (λ (m : Mask). length m.lines * 64 ≡ g.block_size) (sym (mask-filled b bytes (get_or es k d))) (sound.lines k d below));
  some = All-map (λ e. list_any (λ x. x) e.lines ≡ true) (filled b bytes) es (λ k d below. subst (λ (m : Mask). list_any (λ x. x) m.lines ≡ true) (sym (mask-filled b bytes (get_or es k d))) (sound.some k d below));
  once = λ c l. omega (arith, ap (holders c l) (masks-filled b bytes es), sound.once c l);
  kept = All-map (λ e. length e.kept ≡ g.block_size) (filled b bytes) es (λ k d below. kept (get_or es k d) (sound.kept k d below));
  spare = All-map (λ e. ForSome e.spare (λ bytes. length bytes ≡ g.block_size)) (filled b bytes) es (λ k d below. subst (λ (q : Option (List ℕ)). ForSome q (λ bytes. length bytes ≡ g.block_size)) (sym (spare-filled b bytes (get_or es k d))) (sound.spare k d below));
  out = λ c. omega (arith, count-filled b bytes es c, sound.out c);
}
  where
    kept : (e : OwnBlock) → length e.kept ≡ g.block_size → length (filled b bytes e).kept ≡ g.block_size
    kept e h = ap length (kept-filled b bytes e) ∙ by (e.block == b)
      where
        by : (t : Bool) → length (cond t bytes e.kept) ≡ g.block_size
        by true = fits
        by false = h

-- at most one is out after the bytes of a block that is not lent are taken
pub out-taken : (es : List OwnBlock) (at b : ℕ) → at < length es → (get_or es at nowhere).block ≡ b → lent_of es b ≡ None → ((c : ℕ) → count_by (is_out c) es ≤ 1) → (c : ℕ) → count_by (is_out c) (set es at (record (get_or es at nowhere) { spare = None })) ≤ 1
out-taken es at b below same none one c =
    by (c == b) refl
  where
    changed : count_by (is_out c) (set es at (record (get_or es at nowhere) { spare = None })) + cond (is_out c (get_or es at nowhere)) 1 0 ≡ count_by (is_out c) es + cond (is_out c (record (get_or es at nowhere) { spare = None })) 1 0
    changed = sum_by-set (λ e. cond (is_out c e) 1 0) es at (record (get_or es at nowhere) { spare = None }) nowhere below

    most : (t : Bool) → cond t 1 0 ≤ 1
    most true = omega arith
    most false = omega arith

    by : (t : Bool) → (c == b) ≡ t → count_by (is_out c) (set es at (record (get_or es at nowhere) { spare = None })) ≤ 1
    by true te =
        omega (arith, changed, none-out c es (ap (lent_of es) (eqb-true c b te) ∙ none), most (is_out c (record (get_or es at nowhere) { spare = None })))
    by false te =
        let away : cond (is_out c (record (get_or es at nowhere) { spare = None })) 1 0 ≡ 0 = ap {B = ℕ} (λ q. cond q 1 0) (is_out-wrong c (record (get_or es at nowhere) { spare = None }) (eqb-apart (get_or es at nowhere).block b c (eq-eqb (get_or es at nowhere).block b same) te)) in
        omega (arith, changed, away, one c)

-- and no more than before after bytes are given back
pub out-given : (es : List OwnBlock) (at : ℕ) (bytes : List ℕ) → at < length es → ((c : ℕ) → count_by (is_out c) es ≤ 1) → (c : ℕ) → count_by (is_out c) (set es at (record (get_or es at nowhere) { spare = Some bytes })) ≤ 1
out-given es at bytes below one c =
    let changed : count_by (is_out c) (set es at (record (get_or es at nowhere) { spare = Some bytes })) + cond (is_out c (get_or es at nowhere)) 1 0 ≡ count_by (is_out c) es + cond (is_out c (record (get_or es at nowhere) { spare = Some bytes })) 1 0 = sum_by-set (λ e. cond (is_out c e) 1 0) es at (record (get_or es at nowhere) { spare = Some bytes }) nowhere below in
    let away : cond (is_out c (record (get_or es at nowhere) { spare = Some bytes })) 1 0 ≡ 0 = ap {B = ℕ} (λ q. cond q 1 0) (is_out-home c (get_or es at nowhere) bytes) in
    omega (arith, changed, away, one c)
