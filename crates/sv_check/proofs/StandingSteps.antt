-- What the entries of directories say of one inode, entry by entry.
use Rattle.std.proofs.Common.{◌≡◌, ◌<◌, ◌+◌, ◌-◌, ◌*◌, ◌==◌, ◌++◌, ◌∷◌, [], ◌∙◌, ℕ, zero, suc, Bool, true, false, List, ap, sym, refl, subst, cond, get_or, set, slice_set, length, All, take, drop, arith}
use Rattle.std.specs.List.{slice_range}
use Rattle.std.proofs.Math.Path.{fun_ext}
use Rattle.std.proofs.lemmas.Grind.{common_steps}
use Rattle.std.proofs.lemmas.List.{drop-drop, length-set}
use Rattle.sv_check.specs.declared.sound.standings.Standing.{Standing}
use Rattle.sv_check.specs.Directories.{named_by, pieces}
use Rattle.sv_check.specs.Standings.{Told, after, named, put, step, told_from, unnamed, with_dots}
use Rattle.sv_check.proofs.EntryTakes.{pieces-more}

-- ---- a standing is put in place

set_at : (items : List Standing) (n x : ℕ) (v : Standing) → n < length items → (t : Bool) → (n == x) ≡ t → get_or (set items n v) x unnamed ≡ cond t v (get_or items x unnamed)
set_at items n x v inside true is = grind (arith, common_steps, is)
set_at items n x v inside false is = grind (arith, common_steps, is)

pub put_set : (items new : List Standing) (n : ℕ) (v : Standing) → n < length items → new ≡ slice_set items n v
    → (λ (x : ℕ). get_or new x unnamed) ≡ put n v (λ (x : ℕ). get_or items x unnamed)
put_set items new n v inside e = ap (λ (l : List Standing). λ (x : ℕ). get_or l x unnamed) e ∙ fun_ext (λ x. set_at items n x v inside (n == x) refl)

-- ---- entry after entry

pub after-append : (all : ℕ → Standing) (xs ys : List Told) → after all (xs ++ ys) ≡ after (after all xs) ys
after-append all [] ys = refl
after-append all (x ∷ xs) ys = after-append (step all x) xs ys

pub told-append : (d first second : ℕ) (xs ys : List (List ℕ)) → second ≡ first + length xs → told_from d first (xs ++ ys) ≡ told_from d first xs ++ told_from d second ys
unfolding told_from
told-append d first second [] ys e =
    let same : first ≡ second = omega (arith, e) in
    ap (λ (n : ℕ). told_from d n ys) same
told-append d first second (x ∷ xs) ys e =
    ap (λ (l : List Told). record { directory = d; place = first; entry = x } ∷ l) (told-append d (first + 1) second xs ys (omega (arith, e)))

pub told-one : (d first : ℕ) (x : List ℕ) → told_from d first (x ∷ []) ≡ record { directory = d; place = first; entry = x } ∷ []
unfolding told_from
told-one d first x = refl

pub told-none : (d first : ℕ) → told_from d first [] ≡ []
unfolding told_from
told-none d first = refl

pub length-pieces : (n : ℕ) (bytes : List ℕ) → length (pieces n bytes) ≡ n
length-pieces zero bytes = refl
length-pieces (suc n) bytes = ap suc (length-pieces n (drop 16 bytes))

-- one piece of a part of a directory more
pub piece_told : (old was now : ℕ → Standing) (d first k : ℕ) (bytes entry : List ℕ) → entry ≡ slice_range bytes (16 * k) (16 * k + 16) → was ≡ after old (told_from d first (pieces k bytes))
    → now ≡ step was (record { directory = d; place = first + k; entry = entry }) → now ≡ after old (told_from d first (pieces (k + 1) bytes))
piece_told old was now d first k bytes entry is before one =
    let place : first + k ≡ first + length (pieces k bytes) = ap (λ (n : ℕ). first + n) (sym (length-pieces k bytes)) in
    one ∙ ap (λ (all : ℕ → Standing). step all (record { directory = d; place = first + k; entry = entry })) before
    ∙ ap (after (after old (told_from d first (pieces k bytes)))) (sym (told-one d (first + k) entry))
    ∙ sym (after-append old (told_from d first (pieces k bytes)) (told_from d (first + k) (entry ∷ [])))
    ∙ ap (after old) (sym (told-append d first (first + k) (pieces k bytes) (entry ∷ []) place))
    ∙ ap (λ (l : List (List ℕ)). after old (told_from d first l)) (ap (λ (e : List ℕ). pieces k bytes ++ e ∷ []) is ∙ sym (pieces-more k bytes))

-- piece k
pub pieces-at : (k n : ℕ) (bytes e : List ℕ) → k < n → get_or (pieces n bytes) k e ≡ slice_range bytes (16 * k) (16 * k + 16)
pieces-at k zero bytes e below = absurd (omega (arith, below))
pieces-at zero (suc n) bytes e below = refl
pieces-at (suc k) (suc n) bytes e below =
    let at : 16 + 16 * k ≡ 16 * suc k = omega arith in
    let here : 16 * k + 16 - 16 * k ≡ 16 * suc k + 16 - 16 * suc k = omega arith in
    pieces-at k n (drop 16 bytes) e (omega (arith, below)) ∙ ap (λ (l : List ℕ). take (16 * k + 16 - 16 * k) l) (drop-drop (16 * k) 16 bytes ∙ ap (λ (n : ℕ). drop n bytes) at)
    ∙ ap (λ (n : ℕ). take n (drop (16 * suc k) bytes)) here

pub piece_below : (most k n : ℕ) (bytes : List ℕ) → All (λ e. named_by e < most) (pieces n bytes) → k < n → named_by (slice_range bytes (16 * k) (16 * k + 16)) < most
piece_below most k n bytes all below =
    subst (λ (e : List ℕ). named_by e < most) (pieces-at k n bytes [] below) (all k [] (subst (λ (m : ℕ). k < m) (sym (length-pieces n bytes)) below))

-- the two writes that one entry makes
pub told_written : (items : List Standing) (t : Told) (i j : ℕ) (a b : Standing) → i ≡ named_by t.entry → j ≡ t.directory → i < length items → j < length items
    → a ≡ named t (get_or items i unnamed) → b ≡ with_dots t (get_or (slice_set items i a) j unnamed)
    → (λ (x : ℕ). get_or (slice_set (slice_set items i a) j b) x unnamed) ≡ step (λ (x : ℕ). get_or items x unnamed) t
unfolding step
told_written items t i j a b at own inside within one two =
    let all : ℕ → Standing = λ x. get_or items x unnamed in
    let mid : ℕ → Standing = λ x. get_or (slice_set items i a) x unnamed in
    let inner : mid ≡ put (named_by t.entry) (named t (all (named_by t.entry))) all =
    put_set items (slice_set items i a) i a inside refl ∙ ap (λ (v : Standing). put i v all) one ∙ ap (λ (k : ℕ). put k (named t (all k)) all) at in
    put_set (slice_set items i a) (slice_set (slice_set items i a) j b) j b (omega (arith, within, length-set items i a)) refl
    ∙ ap (λ (v : Standing). put j v mid) two ∙ ap (λ (k : ℕ). put k (with_dots t (mid k)) mid) own
    ∙ ap (λ (f : ℕ → Standing). put t.directory (with_dots t (f t.directory)) f) inner
