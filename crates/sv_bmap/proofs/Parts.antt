-- Stakes that are merged one after another, the last one first.
use Rattle.std.proofs.Common.{◌≡◌, ◌≢◌, ◌<◌, ◌≤◌, ◌+◌, ℕ, Bool, true, false, cond, List, length, get_or, None, IsSome, is_some, ◌==◌}
use Rattle.std.proofs.Common.{refl, sym, ap, ◌∙◌, subst, arith, take, drop, ◌++◌, ◌∷◌, [], ◌||◌, ◌^◌}
use Rattle.std.specs.Global.{Vec}
use Rattle.std.specs.Vec.{vec_len}
use Rattle.std.proofs.Math.Seq.{take-append_seam, get_or-append_seam}
use Rattle.std.specs.List.{list_any, sum_by}
use Rattle.std.proofs.lemmas.List.Sums.{sum_by-cons}
use Rattle.std.proofs.lemmas.List.{drop_all, drop_more, take-append-drop, take-append-le, length-take, length-append, get_or-take}
use Rattle.std.proofs.lemmas.Bool.{false≢true, eqb-true}
use Rattle.std.proofs.lemmas.Bool.Decides.{nat_tests}
use Rattle.sv_dev.specs.Causes.{counted}
use Rattle.sv_store.specs.Held.{Held, Apart, Both}
use Rattle.sv_store.proofs.Holding.{none_from}
use Rattle.sv_bmap.specs.Parts.{AllApart, JoinsFrom, part}

pub no-part-yet : (h : Held) (parts : List Held) (n : ℕ) → n ≡ length parts → JoinsFrom n h parts h
no-part-yet h parts n e = record {
  own = λ b l is. refl;
  theirs = λ i low high b l is. absurd (omega (arith, low, high, e));
  only = λ b l none each. none;
}

both-first : (h k : Held) (b l : ℕ) → IsSome (h b l) → Both h k b l ≡ h b l
unfolding Both
both-first h k b l is = ap (λ q. cond q (h b l) (k b l)) is

both-second : (h k : Held) (b l : ℕ) → h b l ≡ None → Both h k b l ≡ k b l
unfolding Both
both-second h k b l none = ap (λ q. cond (is_some q) q (k b l)) none

-- what a part holds is held by nothing that was merged before it
pub apart-yet : {h now : Held} {parts : List Held} (n : ℕ) → AllApart h parts → JoinsFrom (n + 1) h parts now → n < length parts
    → Apart now (part parts n)
apart-yet {h} {now} {parts} n all joins low = record { at = λ b l is. by b l is (is_some (part parts n b l)) refl }
  where
    by : (b l : ℕ) → IsSome (now b l) → (t : Bool) → is_some (part parts n b l) ≡ t → part parts n b l ≡ None
    by b l is false e = none_from (part parts n b l) e
    by b l is true e = absurd (false≢true (sym (ap is_some (joins.only b l (mine (is_some (h b l)) refl) others)) ∙ is))
      where
        mine : (t : Bool) → is_some (h b l) ≡ t → h b l ≡ None
        mine false f = none_from (h b l) f
        mine true f = absurd (false≢true (sym (ap is_some ((all.own n low).at b l f)) ∙ e))

        others : (i : ℕ) → n + 1 ≤ i → i < length parts → part parts i b l ≡ None
        others i after below = (all.each n i low below (λ same. absurd (omega (arith, same, after)))).at b l e

-- one part more
pub joins-more : {h now new : Held} {parts : List Held} (n : ℕ) → AllApart h parts → JoinsFrom (n + 1) h parts now → n < length parts
    → new ≡ Both now (part parts n) → JoinsFrom n h parts new
joins-more {h} {now} {new} {parts} n all joins low merged = record {
  own = λ b l is. at b l ∙ (both-first now (part parts n) b l (ap is_some (joins.own b l is) ∙ is) ∙ joins.own b l is);
  theirs = λ i from below b l is. theirs i from below b l is (i == n) refl;
  only = λ b l none each. at b l
      ∙ (both-second now (part parts n) b l (joins.only b l none (λ i from below. each i (omega (arith, from)) below))
      ∙ each n (omega arith) low);
}
  where
    at : (b l : ℕ) → new b l ≡ Both now (part parts n) b l
    at b l = ap (λ q. q b l) merged

    no : (x y : ℕ) → (x == y) ≡ false → x ≢ y
    no x y h = grind (nat_tests, arith)

    absent : (b l : ℕ) → IsSome (part parts n b l) → now b l ≡ None
    absent b l is = by (is_some (now b l)) refl
      where
        by : (t : Bool) → is_some (now b l) ≡ t → now b l ≡ None
        by false e = none_from (now b l) e
        by true e = absurd (false≢true (sym (ap is_some ((apart-yet n all joins low).at b l e)) ∙ is))

    theirs : (i : ℕ) → n ≤ i → i < length parts → (b l : ℕ) → IsSome (part parts i b l) → (t : Bool) → (i == n) ≡ t
        → new b l ≡ part parts i b l
    theirs i from below b l is true e =
        (let same : i ≡ n = eqb-true i n e in
        let here : part parts i b l ≡ part parts n b l = ap (λ q. part parts q b l) same in
        at b l ∙ (both-second now (part parts n) b l (absent b l (sym (ap is_some here) ∙ is)) ∙ sym here))
    theirs i from below b l is false e =
        (let apart : i ≢ n = no i n e in
        let known : now b l ≡ part parts i b l = joins.theirs i (omega arith) below b l is in
        at b l ∙ (both-first now (part parts n) b l (ap is_some known ∙ is) ∙ known))

-- the last of the first n is taken off
pub popped : {X : Type 0} (ps xs ys : List X) (x d : X) (n m : ℕ) → xs ≡ take n ps → n ≤ length ps → n ≡ m + 1 → xs ≡ ys ++ x ∷ []
    → (ys ≡ take m ps) × (x ≡ get_or ps m d)
popped {X} ps xs ys x d n m front low next pop = (rest, last)
  where
    count : length ys ≡ m
    count =
        omega (arith, sym (ap length front) ∙ ap length pop, length-take n ps, low, next, length-append ys (x ∷ []))

    shorter : take m ps ≡ take m (take n ps)
    shorter =
        ap (take m) (sym (take-append-drop n ps)) ∙ take-append-le m (take n ps) (drop n ps) (omega (arith, length-take n ps, low, next))

    rest : ys ≡ take m ps
    rest =
        sym (take-append_seam ys (x ∷ [])) ∙ (ap (λ q. take q (ys ++ x ∷ [])) count ∙ (ap (take m) (sym pop ∙ front) ∙ sym shorter))

    last : x ≡ get_or ps m d
    last =
        sym (get_or-append_seam ys x [] d)
        ∙ (ap (λ q. get_or (ys ++ x ∷ []) q d) count
        ∙ (ap (λ q. get_or q m d) (sym pop ∙ front) ∙ get_or-take n ps m d (omega (arith, next))))

pub Apart-eq : {h k k' : Held} → k' ≡ k → Apart h k → Apart h k'
Apart-eq {h} {k} {k'} e apart = record { at = λ b l is. ap (λ q. q b l) e ∙ apart.at b l is }

pub from-eq : {m n : ℕ} {h new : Held} {parts : List Held} → m ≡ n → JoinsFrom m h parts new → JoinsFrom n h parts new
from-eq {m} {n} {h} {new} {parts} e joins = (let P : ℕ → Type 0 = λ q. JoinsFrom q h parts new in subst P e joins)

pub none-left : {X : Type 0} (ps xs : List X) (n : ℕ) → xs ≡ take n ps → n ≤ length ps → 0 < n → length xs ≡ 0 → ⊥
none-left ps xs n front low some none = absurd (omega (arith, ap length front, length-take n ps, low, some, none))

-- ---- what is counted, and whether a call was forced

or-false : (a : Bool) → a ≡ (a || false)
or-false true = refl
or-false false = refl

or-turn : (a b c : Bool) → ((a || b) || c) ≡ (a || (c || b))
or-turn true b c = refl
or-turn false true true = refl
or-turn false true false = refl
or-turn false false true = refl
or-turn false false false = refl

pub forced-none : {S : Type 0} (forced : S → Bool) (ps : List S) (n : ℕ) (f : Bool) → length ps ≤ n → f ≡ (f || list_any forced (drop n ps))
forced-none forced ps n f past = or-false f ∙ ap (λ q. f || list_any forced q) (sym (drop_all n ps past))

pub forced-more : {S : Type 0} (forced : S → Bool) (ps : List S) (m n : ℕ) (p : S) (f : Bool) {now new : Bool} → m < length ps → n ≡ m + 1
    → p ≡ get_or ps m p → now ≡ (f || list_any forced (drop n ps)) → new ≡ (now || forced p) → new ≡ (f || list_any forced (drop m ps))
forced-more forced ps m n p f {now} {new} low next is before merged =
    merged
    ∙ (ap (λ q. q || forced p) before
    ∙ (or-turn f (list_any forced (drop n ps)) (forced p)
    ∙ (ap (λ q. f || (forced p || list_any forced (drop q ps))) next
    ∙ (ap (λ q. f || (forced q || list_any forced (drop (m + 1) ps))) is ∙ ap (λ q. f || list_any forced q) (sym (drop_more ps m p low))))))

pub forced-all : {S : Type 0} (forced : S → Bool) (ps : List S) (n : ℕ) (f : Bool) {now : Bool} → n ≡ 0
    → now ≡ (f || list_any forced (drop n ps)) → now ≡ (f || list_any forced ps)
forced-all forced ps n f none e = e ∙ ap (λ q. f || list_any forced (drop q ps)) none

pub counts-none : {S : Type 0} (faults : S → ℕ) (ps : List S) (n : ℕ) (x : ℕ) → length ps ≤ n → x < 2 ^ 64
    → x ≡ counted x (sum_by faults (drop n ps))
counts-none faults ps n x past low =
    let none : sum_by faults (drop n ps) ≡ 0 = ap (sum_by faults) (drop_all n ps past) in
    omega (arith, none, low)

pub counts-more : {S : Type 0} (faults : S → ℕ) (ps : List S) (m n : ℕ) (p : S) (x : ℕ) {now new : ℕ} → m < length ps → n ≡ m + 1
    → p ≡ get_or ps m p → now ≡ counted x (sum_by faults (drop n ps)) → new ≡ counted now (faults p)
    → new ≡ counted x (sum_by faults (drop m ps))
counts-more faults ps m n p x {now} {new} low next is before merged =
    let rest : sum_by faults (drop n ps) ≡ sum_by faults (drop (m + 1) ps) = ap (λ q. sum_by faults (drop q ps)) next in
    let all : sum_by faults (drop m ps) ≡ faults (get_or ps m p) + sum_by faults (drop (m + 1) ps) = ap (sum_by faults)
    (drop_more ps m p low) ∙ sum_by-cons faults (get_or ps m p) (drop (m + 1) ps) in
    let here : faults p ≡ faults (get_or ps m p) = ap faults is in
    omega (arith, before, merged, rest, all, here)

pub counts-all : {S : Type 0} (faults : S → ℕ) (ps : List S) (n : ℕ) (x : ℕ) {now : ℕ} → n ≡ 0
    → now ≡ counted x (sum_by faults (drop n ps)) → now ≡ counted x (sum_by faults ps)
counts-all faults ps n x none e = e ∙ ap (λ q. counted x (sum_by faults (drop q ps))) none

pub len-is : {X : Type 0} (v : Vec X) → vec_len v ≡ length v.items
len-is v = v.ok.0

pub none-taken : {X : Type 0} (ps xs : List X) (n : ℕ) → xs ≡ take n ps → n ≡ 0 → length xs ≡ 0
none-taken ps xs n front none = ap length front ∙ (length-take n ps ∙ omega (arith, none))
