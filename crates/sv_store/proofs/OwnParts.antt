-- What is left of an own stake's list, when it is cut by a test of its lines.
use Rattle.std.proofs.Common.{◌≡◌, ◌<◌, ◌≤◌, ◌+◌, ◌*◌, ◌==◌, ◌&&◌, ◌++◌, ℕ, zero, suc, Bool, true, false, cond, not, List, [], ◌∷◌, length, map, take, drop, set, get_or, Option, Some, None, unwrap_or, refl, sym, ap, ◌∙◌, subst, arith, rules}
use Rattle.std.proofs.Math.Path.{fun_ext}
use Rattle.std.specs.List.{count_by, list_any, All}
use Rattle.std.specs.Option.{ForSome}
use Rattle.std.proofs.lemmas.Bool.{false≢true, eqb-true}
use Rattle.std.proofs.lemmas.List.{take_more, set_at, drop_more, get_or_at, append_assoc, places}
use Rattle.std.proofs.lemmas.List.Elements.{All-nil, All-cons, All-head, All-tail}
use Rattle.sv_form.specs.declared.geometry.Geometry.{Geometry}
use Rattle.sv_form.specs.declared.owners.LineRange.{LineRange}
use Rattle.sv_store.specs.Held.{Held, line_of, in_ranges, chosen, rest, nothing_lent}
use Rattle.sv_store.specs.Calls.{CanPart}
use Rattle.sv_store.specs.OwnBlock.{OwnBlock, Mask, mask_of, has, holders, IsSound, line_in, held_of, is_out, lent_of, masked_lines, masked, copied, holds_any, left}
use Rattle.sv_store.proofs.OwnLaws.{over, over-none, held_of-nil, line_in-at, lent_of-cons, lent_of-nil, count-cons, none-out, is_out-home, is_out-block}
use Rattle.sv_store.proofs.OwnJoin.{held_of-both}

masked_lines-append : (t : ℕ → Bool) (i : ℕ) (xs ys : List Bool) → masked_lines t i (xs ++ ys) ≡ masked_lines t i xs ++ masked_lines t (i + length xs) ys
unfolding masked_lines
masked_lines-append t i [] ys =
    let e : i ≡ i + 0 = omega arith in
    ap (λ q. masked_lines t q ys) e
masked_lines-append t i (x ∷ xs) ys =
    let e : suc i + length xs ≡ i + suc (length xs) = omega arith in
    ap (λ q. (x && t i) ∷ q) (masked_lines-append t (suc i) xs ys ∙ ap (λ q. masked_lines t (suc i) xs ++ masked_lines t q ys) e)

masked_lines-one : (t : ℕ → Bool) (i : ℕ) (x : Bool) → masked_lines t i (x ∷ []) ≡ (x && t i) ∷ []
unfolding masked_lines
masked_lines-one t i x = refl

length-masked_lines : (t : ℕ → Bool) (i : ℕ) (xs : List Bool) → length (masked_lines t i xs) ≡ length xs
unfolding masked_lines
length-masked_lines t i [] = refl
length-masked_lines t i (x ∷ xs) = ap suc (length-masked_lines t (suc i) xs)

pub masked_lines-more : (t : ℕ → Bool) (xs : List Bool) (k : ℕ) → k < length xs → masked_lines t 0 (take (k + 1) xs) ≡ masked_lines t 0 (take k xs) ++ (get_or xs k false && t k) ∷ []
masked_lines-more t xs k below =
    let e : 0 + length (take k xs) ≡ k = search (rules, places) in
    ap (masked_lines t 0) (take_more xs k false below)
    ∙ (masked_lines-append t 0 (take k xs) (get_or xs k false ∷ [])
    ∙ (ap (λ q. masked_lines t 0 (take k xs) ++ masked_lines t q (get_or xs k false ∷ [])) e ∙ ap (λ q. masked_lines t 0 (take k xs) ++ q) (masked_lines-one t k (get_or xs k false))))

-- one line more is taken off in place
pub lose-step : (t : ℕ → Bool) (xs held : List Bool) (k : ℕ) (v : Bool) → k < length xs → held ≡ masked_lines t 0 (take k xs) ++ drop k xs → v ≡ (get_or held k false && t k) → set held k v ≡ masked_lines t 0 (take (k + 1) xs) ++ drop (k + 1) xs
lose-step t xs held k v below is v-is =
    let size : length (masked_lines t 0 (take k xs)) ≡ k = length-masked_lines t 0 (take k xs) ∙ search (rules, places) in
    let whole : held ≡ masked_lines t 0 (take k xs) ++ get_or xs k false ∷ drop (k + 1) xs = is ∙ ap (λ q. masked_lines t 0 (take k xs) ++ q) (drop_more xs k false below) in
    let here : get_or held k false ≡ get_or xs k false = ap (λ q. get_or q k false) whole ∙ get_or_at (masked_lines t 0 (take k xs)) (get_or xs k false) (drop (k + 1) xs) false k size in
    ap (λ q. set q k v) whole
    ∙ (set_at (masked_lines t 0 (take k xs)) (get_or xs k false) (drop (k + 1) xs) v k size
    ∙ (ap (λ q. masked_lines t 0 (take k xs) ++ q ∷ drop (k + 1) xs) (v-is ∙ ap (λ q. q && t k) here)
    ∙ (sym (append_assoc (masked_lines t 0 (take k xs)) ((get_or xs k false && t k) ∷ []) (drop (k + 1) xs)) ∙ ap (λ q. q ++ drop (k + 1) xs) (sym (masked_lines-more t xs k below)))))

get_or-masked_lines : (t : ℕ → Bool) (i : ℕ) (xs : List Bool) (k : ℕ) → get_or (masked_lines t i xs) k false ≡ (get_or xs k false && t (i + k))
unfolding masked_lines
get_or-masked_lines t i [] k = refl
get_or-masked_lines t i (x ∷ xs) zero =
    let e : i ≡ i + 0 = omega arith in
    ap (λ q. x && t q) e
get_or-masked_lines t i (x ∷ xs) (suc k) =
    let e : suc i + k ≡ i + suc k = omega arith in
    get_or-masked_lines t (suc i) xs k ∙ ap (λ q. get_or xs k false && t q) e

pub left-cons : (f : OwnBlock → OwnBlock) (e : OwnBlock) (es : List OwnBlock) → left f (e ∷ es) ≡ cond (holds_any (f e)) (f e ∷ left f es) (left f es)
unfolding left
left-cons f e es = refl

pub left-nil : (f : OwnBlock → OwnBlock) → left f [] ≡ []
unfolding left
left-nil f = refl

pub left-append : (f : OwnBlock → OwnBlock) (xs ys : List OwnBlock) → left f (xs ++ ys) ≡ left f xs ++ left f ys
left-append f [] ys = ap (λ q. q ++ left f ys) (sym (left-nil f))
left-append f (e ∷ es) ys =
    left-cons f e (es ++ ys) ∙ (ap (λ q. cond (holds_any (f e)) (f e ∷ q) q) (left-append f es ys) ∙ (by (holds_any (f e)) ∙ ap (λ q. q ++ left f ys) (sym (left-cons f e es))))
  where
    by : (t : Bool) → cond t (f e ∷ (left f es ++ left f ys)) (left f es ++ left f ys) ≡ cond t (f e ∷ left f es) (left f es) ++ left f ys
    by true = refl
    by false = refl

pub left-more : (f : OwnBlock → OwnBlock) (xs : List OwnBlock) (k : ℕ) (d : OwnBlock) → k < length xs → left f (take (k + 1) xs) ≡ left f (take k xs) ++ left f (get_or xs k d ∷ [])
left-more f xs k d below = ap (left f) (take_more xs k d below) ∙ left-append f (take k xs) (get_or xs k d ∷ [])

-- a function of entries that keeps of the lines those that pass the test
pub record Masks (t : ℕ → ℕ → Bool) (f : OwnBlock → OwnBlock) : Type 0 where
  pub mask : (e : OwnBlock) → mask_of (f e) ≡ record { block = e.block; lines = masked_lines (t e.block) 0 e.lines }
  pub kept : (e : OwnBlock) → (f e).kept ≡ e.kept

pub Masks-masked : (t : ℕ → ℕ → Bool) → Masks t (masked t)
Masks-masked t = record { mask = λ e. refl; kept = λ e. refl }

pub Masks-copied : (t : ℕ → ℕ → Bool) → Masks t (copied t)
Masks-copied t = record { mask = λ e. refl; kept = λ e. refl }

pub has-at : (b l : ℕ) (m : Mask) → has b l m ≡ ((m.block == b) && get_or m.lines l false)
unfolding has
has-at b l m = refl

has-masked : (t : ℕ → ℕ → Bool) (b l : ℕ) (m : Mask) → has b l (record { block = m.block; lines = masked_lines (t m.block) 0 m.lines }) ≡ (has b l m && t b l)
has-masked t b l m =
    has-at b l (record { block = m.block; lines = masked_lines (t m.block) 0 m.lines })
    ∙ (ap (λ q. (m.block == b) && q) (get_or-masked_lines (t m.block) 0 m.lines l ∙ (let z : 0 + l ≡ l = omega arith in ap (λ q. get_or m.lines l false && t m.block q) z))
    ∙ (by (m.block == b) refl ∙ ap (λ q. q && t b l) (sym (has-at b l m))))
  where
    by : (s : Bool) → (m.block == b) ≡ s → ((m.block == b) && (get_or m.lines l false && t m.block l)) ≡ (((m.block == b) && get_or m.lines l false) && t b l)
    by true e =
        ap (λ q. q && (get_or m.lines l false && t m.block l)) e
        ∙ (ap (λ q. get_or m.lines l false && t q l) (eqb-true m.block b e) ∙ sym (ap (λ q. (q && get_or m.lines l false) && t b l) e))
    by false e =
        ap (λ q. q && (get_or m.lines l false && t m.block l)) e ∙ sym (ap (λ q. (q && get_or m.lines l false) && t b l) e)

line_in-masked : {t : ℕ → ℕ → Bool} {f : OwnBlock → OwnBlock} → Masks t f → (e : OwnBlock) (b l : ℕ) → line_in (f e) b l ≡ cond (t b l) (line_in e b l) None
line_in-masked {t} {f} masks e b l =
    line_in-at (f e) b l
    ∙ (ap (λ q. cond q (Some (line_of (f e).kept l)) None) (ap (has b l) (masks.mask e) ∙ has-masked t b l (mask_of e))
    ∙ (ap (λ q. cond (has b l (mask_of e) && t b l) (Some (line_of q l)) None) (masks.kept e) ∙ (by (has b l (mask_of e)) (t b l) ∙ ap (λ q. cond (t b l) q None) (sym (line_in-at e b l)))))
  where
    by : (h s : Bool) → cond (h && s) (Some (line_of e.kept l)) None ≡ cond s (cond h (Some (line_of e.kept l)) None) None
    by true true = refl
    by true false = refl
    by false true = refl
    by false false = refl

none-true : (xs : List Bool) (l : ℕ) → list_any (λ x. x) xs ≡ false → get_or xs l false ≡ false
none-true [] l none = refl
none-true (true ∷ xs) l none = absurd (false≢true (sym none))
none-true (false ∷ xs) zero none = refl
none-true (false ∷ xs) (suc l) none = none-true xs l none

line_in-none : (e : OwnBlock) (b l : ℕ) → holds_any e ≡ false → line_in e b l ≡ None
line_in-none e b l none =
    line_in-at e b l
    ∙ ap (λ q. cond q (Some (line_of e.kept l)) None) (has-at b l (mask_of e) ∙ (ap (λ q. (e.block == b) && q) (none-true e.lines l none) ∙ by (e.block == b)))
  where
    by : (t : Bool) → (t && false) ≡ false
    by true = refl
    by false = refl

-- what is left holds the lines that pass the test
pub held_of-left : {t : ℕ → ℕ → Bool} {f : OwnBlock → OwnBlock} → Masks t f → (es : List OwnBlock) (b l : ℕ) → held_of (left f es) b l ≡ cond (t b l) (held_of es b l) None
unfolding over
held_of-left {t} {f} masks [] b l =
    ap (λ q. held_of q b l) (left-nil f) ∙ (held_of-nil b l ∙ (by (t b l) ∙ ap (λ q. cond (t b l) q None) (sym (held_of-nil b l))))
  where
    by : (s : Bool) → None ≡ cond {A = Option (List ℕ)} s None None
    by true = refl
    by false = refl
held_of-left {t} {f} masks (e ∷ es) b l =
    ap (λ q. held_of q b l) (left-cons f e es) ∙ (by (holds_any (f e)) refl (held_of-left masks es b l) ∙ ap (λ q. cond (t b l) q None) (sym (held_of-both e es b l)))
  where
    both : (s : Bool) (h i : Option (List ℕ)) → over (cond s h None) (cond s i None) ≡ cond s (over h i) None
    both true h i = refl
    both false h i = refl

    drops : (s : Bool) (h i : Option (List ℕ)) → cond s i None ≡ None → cond s h None ≡ cond s (over h i) None
    drops true h i none = sym (over-none h) ∙ ap (over h) (sym none)
    drops false h i none = refl

    by : (s : Bool) → holds_any (f e) ≡ s → held_of (left f es) b l ≡ cond (t b l) (held_of es b l) None → held_of (cond s (f e ∷ left f es) (left f es)) b l ≡ cond (t b l) (over (held_of es b l) (line_in e b l)) None
    by true h rec =
        held_of-both (f e) (left f es) b l
        ∙ (ap (λ q. over q (line_in (f e) b l)) rec ∙ (ap (over (cond (t b l) (held_of es b l) None)) (line_in-masked masks e b l) ∙ both (t b l) (held_of es b l) (line_in e b l)))
    by false h rec =
        rec ∙ drops (t b l) (held_of es b l) (line_in e b l) (sym (line_in-masked masks e b l) ∙ line_in-none (f e) b l h)

-- a fact of each entry is one of what is left
left-All : (P : OwnBlock → Type 0) (f : OwnBlock → OwnBlock) (es : List OwnBlock) → All (λ e. P (f e)) es → All P (left f es)
left-All P f [] all = subst (All P) (sym (left-nil f)) (All-nil P)
left-All P f (e ∷ es) all =
    subst (All P) (sym (left-cons f e es)) (by (holds_any (f e)) (left-All P f es (All-tail (λ e. P (f e)) e es all)))
  where
    by : (t : Bool) → All P (left f es) → All P (cond t (f e ∷ left f es) (left f es))
    by true rec = All-cons P (f e) (left f es) (All-head (λ e. P (f e)) e es all) rec
    by false rec = rec

left-some : (f : OwnBlock → OwnBlock) (es : List OwnBlock) → All (λ e. list_any (λ x. x) e.lines ≡ true) (left f es)
left-some f [] = subst (All (λ e. list_any (λ x. x) e.lines ≡ true)) (sym (left-nil f)) (All-nil (λ (e : OwnBlock). list_any (λ x. x) e.lines ≡ true))
left-some f (e ∷ es) =
    subst (All (λ e. list_any (λ x. x) e.lines ≡ true)) (sym (left-cons f e es)) (by (holds_any (f e)) refl (left-some f es))
  where
    by : (t : Bool) → holds_any (f e) ≡ t → All (λ e. list_any (λ x. x) e.lines ≡ true) (left f es) → All (λ e. list_any (λ x. x) e.lines ≡ true) (cond t (f e ∷ left f es) (left f es))
    by true h rec = All-cons (λ e. list_any (λ x. x) e.lines ≡ true) (f e) (left f es) h rec
    by false h rec = rec

-- what is counted of what is left was there before
left-count : (p : OwnBlock → Bool) (f : OwnBlock → OwnBlock) (es : List OwnBlock) → ((e : OwnBlock) → cond (p (f e)) 1 0 ≤ cond (p e) 1 0) → count_by p (left f es) ≤ count_by p es
left-count p f [] less = omega (arith, ap (count_by p) (left-nil f))
left-count p f (e ∷ es) less =
    omega (arith, ap (count_by p) (left-cons f e es), by (holds_any (f e)) (left-count p f es less), count-cons p e es)
  where
    by : (t : Bool) → count_by p (left f es) ≤ count_by p es → count_by p (cond t (f e ∷ left f es) (left f es)) ≤ cond (p e) 1 0 + count_by p es
    by true rec = omega (arith, rec, less e, count-cons p (f e) (left f es))
    by false rec = omega (arith, rec)

holders-map : (b l : ℕ) (es : List OwnBlock) → holders b l (map mask_of es) ≡ count_by (λ e. has b l (mask_of e)) es
holders-map b l [] = refl
holders-map b l (e ∷ es) =
    omega (arith, count-cons (has b l) (mask_of e) (map mask_of es), count-cons (λ e. has b l (mask_of e)) e es, holders-map b l es)

-- what is left is sound
pub sound-left : {g : Geometry} {es : List OwnBlock} {t : ℕ → ℕ → Bool} {f : OwnBlock → OwnBlock} → IsSound g es → Masks t f → All (λ e. ForSome (f e).spare (λ bytes. length bytes ≡ g.block_size)) es → ((b : ℕ) → count_by (is_out b) (left f es) ≤ 1) → IsSound g (left f es)
sound-left {g} {es} {t} {f} sound masks spare out = record {
  block = left-All (λ e. e.block < g.blocks) f es (λ k d below. subst (λ (m : Mask). m.block < g.blocks) (sym (masks.mask (get_or es k d))) (sound.block k d below));
  lines = left-All (λ e. length e.lines * 64 ≡ g.block_size) f es (λ k d below. subst (λ (m : Mask). length m.lines * 64 ≡ g.block_size) (sym (masks.mask (get_or es k d))) (ap (λ q. q * 64) (length-masked_lines (t (get_or es k d).block) 0 (get_or es k d).lines) ∙ sound.lines k d below));
  some = left-some f es;
  kept = left-All (λ e. length e.kept ≡ g.block_size) f es (λ k d below. ap length (masks.kept (get_or es k d)) ∙ sound.kept k d below);
  spare = left-All (λ e. ForSome e.spare (λ bytes. length bytes ≡ g.block_size)) f es spare;
  once = λ b l. omega (arith, holders-map b l (left f es), left-count (λ e. has b l (mask_of e)) f es (less b l), holders-map b l es, sound.once b l);
  out = out;
}
  where
    small : (h s : Bool) → cond (h && s) 1 0 ≤ cond h 1 0
    small true true = omega arith
    small true false = omega arith
    small false s = omega arith

    less : (b l : ℕ) (e : OwnBlock) → cond (has b l (mask_of (f e))) 1 0 ≤ cond (has b l (mask_of e)) 1 0
    less b l e =
        let same : cond (has b l (mask_of (f e))) 1 0 ≡ cond (has b l (mask_of e) && t b l) 1 0 = ap {B = ℕ} (λ q. cond q 1 0) (ap (has b l) (masks.mask e) ∙ has-masked t b l (mask_of e)) in
        omega (arith, same, small (has b l (mask_of e)) (t b l))

-- a copy is not lent
pub home-left : (t : ℕ → ℕ → Bool) (es : List OwnBlock) → lent_of (left (copied t) es) ≡ nothing_lent
home-left t es = fun_ext (λ c. at es c)
  where
    at : (es : List OwnBlock) (c : ℕ) → lent_of (left (copied t) es) c ≡ None
    at [] c = ap (λ q. lent_of q c) (left-nil (copied t)) ∙ lent_of-nil c
    at (e ∷ es) c = ap (λ q. lent_of q c) (left-cons (copied t) e es) ∙ by (holds_any (copied t e)) (at es c)
      where
        by : (s : Bool) → lent_of (left (copied t) es) c ≡ None → lent_of (cond s (copied t e ∷ left (copied t) es) (left (copied t) es)) c ≡ None
        by true rec =
            lent_of-cons (copied t e) (left (copied t) es) c
            ∙ (ap (λ q. cond q (Some e.kept) (lent_of (left (copied t) es) c)) (is_out-home c (record e { lines = masked_lines (t e.block) 0 e.lines }) e.kept) ∙ rec)
        by false rec = rec

masked_lines-all : (t : ℕ → Bool) (i : ℕ) (xs : List Bool) → ((l : ℕ) → t l ≡ true) → masked_lines t i xs ≡ xs
unfolding masked_lines
masked_lines-all t i [] all = refl
masked_lines-all t i (x ∷ xs) all =
    ap (λ q. q ∷ masked_lines t (suc i) xs) (ap (λ q. x && q) (all i) ∙ by x) ∙ ap (λ q. x ∷ q) (masked_lines-all t (suc i) xs all)
  where
    by : (x : Bool) → (x && true) ≡ x
    by true = refl
    by false = refl

is_out-lines : (c : ℕ) (e : OwnBlock) (lines : List Bool) → is_out c (record e { lines = lines }) ≡ is_out c e
unfolding is_out
is_out-lines c e lines = refl

-- where no line of a lent block goes, what is left has the same blocks lent
pub lent-left : (t : ℕ → ℕ → Bool) (es : List OwnBlock) → All (λ e. list_any (λ x. x) e.lines ≡ true) es → ((b : ℕ) → 1 ≤ count_by (is_out b) es → (l : ℕ) → t b l ≡ true) → (c : ℕ) → lent_of (left (masked t) es) c ≡ lent_of es c
lent-left t [] some stays c = ap (λ q. lent_of q c) (left-nil (masked t))
lent-left t (e ∷ es) some stays c =
    ap (λ q. lent_of q c) (left-cons (masked t) e es)
    ∙ (by (holds_any (masked t e)) refl (lent-left t es (All-tail (λ e. list_any (λ x. x) e.lines ≡ true) e es some) (λ b one. stays b (omega (arith, one, count-cons (is_out b) e es))) c) ∙ sym (lent_of-cons e es c))
  where
    same : is_out c e ≡ true → masked_lines (t e.block) 0 e.lines ≡ e.lines
    same out =
        let one : cond (is_out c e) 1 0 ≡ 1 = ap {B = ℕ} (λ q. cond q 1 0) out in
        masked_lines-all (t e.block) 0 e.lines (λ l. ap (λ q. t q l) (eqb-true e.block c (is_out-block c e out)) ∙ stays c (omega (arith, one, count-cons (is_out c) e es)) l)

    home : (o : Bool) → is_out c e ≡ o → holds_any (masked t e) ≡ false → is_out c e ≡ false
    home true o none =
        absurd (false≢true (sym none ∙ (ap (list_any (λ x. x)) (same o) ∙ All-head (λ e. list_any (λ x. x) e.lines ≡ true) e es some)))
    home false o none = o

    by : (s : Bool) → holds_any (masked t e) ≡ s → lent_of (left (masked t) es) c ≡ lent_of es c → lent_of (cond s (masked t e ∷ left (masked t) es) (left (masked t) es)) c ≡ cond (is_out c e) (Some e.kept) (lent_of es c)
    by true h rec =
        lent_of-cons (masked t e) (left (masked t) es) c
        ∙ (ap (λ q. cond q (Some e.kept) (lent_of (left (masked t) es) c)) (is_out-lines c e (masked_lines (t e.block) 0 e.lines)) ∙ ap (cond (is_out c e) (Some e.kept)) rec)
    by false h rec = rec ∙ sym (ap (λ q. cond q (Some e.kept) (lent_of es c)) (home (is_out c e) refl h))

pub out-left : (t : ℕ → ℕ → Bool) (es : List OwnBlock) (b : ℕ) → count_by (is_out b) (left (masked t) es) ≤ count_by (is_out b) es
out-left t es b =
    left-count (is_out b) (masked t) es (λ e. (let same : cond (is_out b (masked t e)) 1 0 ≡ cond (is_out b e) 1 0 = ap {B = ℕ} (λ q. cond q 1 0) (is_out-lines b e (masked_lines (t e.block) 0 e.lines)) in omega (arith, same)))

-- the cut of an own stake is the cut of what it holds
pub rest-left : (lines : List LineRange) (es : List OwnBlock) → held_of (left (masked (λ b l. not (in_ranges lines b l))) es) ≡ rest lines (held_of es)
unfolding rest
rest-left lines es =
    fun_ext (λ b. fun_ext (λ l. held_of-left (Masks-masked (λ b l. not (in_ranges lines b l))) es b l ∙ by (in_ranges lines b l) (held_of es b l)))
  where
    by : (t : Bool) (h : Option (List ℕ)) → cond (not t) h None ≡ cond t None h
    by true h = refl
    by false h = refl

pub chosen-left : (lines : List LineRange) (es : List OwnBlock) → held_of (left (copied (in_ranges lines)) es) ≡ chosen lines (held_of es)
unfolding chosen
chosen-left lines es = fun_ext (λ b. fun_ext (λ l. held_of-left (Masks-copied (in_ranges lines)) es b l))

-- one entry
pub left-one : (f : OwnBlock → OwnBlock) (e : OwnBlock) → left f (e ∷ []) ≡ cond (holds_any (f e)) (f e ∷ []) []
left-one f e = left-cons f e [] ∙ ap (λ q. cond (holds_any (f e)) (f e ∷ q) q) (left-nil f)

pub take-one : (xs : List OwnBlock) (d : OwnBlock) → 0 < length xs → take 1 xs ≡ get_or xs 0 d ∷ []
take-one [] d some = absurd (omega arith)
take-one (x ∷ xs) d some = refl

-- the first entry stays where it holds a line
pub settle-keeps : (bs : List OwnBlock) (own : OwnBlock) → 0 < length bs → own ≡ get_or bs 0 own → holds_any own ≡ true → left (λ e. e) (take 1 bs) ≡ take 1 bs
settle-keeps bs own some own-is holds =
    let front : take 1 bs ≡ own ∷ [] = take-one bs own some ∙ ap (λ q. q ∷ []) (sym own-is) in
    ap (left (λ e. e)) front ∙ (left-one (λ e. e) own ∙ (ap (λ q. cond q (own ∷ []) []) holds ∙ sym front))

pub settle-drops : (bs : List OwnBlock) (own : OwnBlock) → 0 < length bs → own ≡ get_or bs 0 own → holds_any own ≡ false → left (λ e. e) (take 1 bs) ≡ []
settle-drops bs own some own-is holds =
    let front : take 1 bs ≡ own ∷ [] = take-one bs own some ∙ ap (λ q. q ∷ []) (sym own-is) in
    ap (left (λ e. e)) front ∙ (left-one (λ e. e) own ∙ ap (λ q. cond q (own ∷ []) []) holds)

-- one entry more is changed, and settled
pub settle-step : (f : OwnBlock → OwnBlock) (xs : List OwnBlock) (k : ℕ) (blocks : List OwnBlock) (own own' : OwnBlock) (new : List OwnBlock) → k < length xs → blocks ≡ drop k xs ++ left f (take k xs) → own ≡ get_or blocks 0 own → own' ≡ f own → new ≡ drop 1 (set blocks 0 own') ++ left (λ e. e) (take 1 (set blocks 0 own')) → new ≡ drop (k + 1) xs ++ left f (take (k + 1) xs)
settle-step f xs k blocks own own' new below is own-is own'-is new-is =
    let x = get_or xs k own in
    let whole : blocks ≡ get_or xs k own ∷ (drop (k + 1) xs ++ left f (take k xs)) = is ∙ ap (λ q. q ++ left f (take k xs)) (drop_more xs k own below) in
    let same : own ≡ get_or xs k own = own-is ∙ ap (λ q. get_or q 0 own) whole in
    let there : own' ≡ f (get_or xs k own) = own'-is ∙ ap f same in
    let one : left (λ e. e) (own' ∷ []) ≡ left f (get_or xs k own ∷ []) = ap (λ q. left (λ e. e) (q ∷ [])) there ∙ (left-one (λ e. e) (f (get_or xs k own)) ∙ sym (left-one f (get_or xs k own))) in
    new-is
    ∙ (ap (λ q. drop 1 (set q 0 own') ++ left (λ e. e) (take 1 (set q 0 own'))) whole
    ∙ (append_assoc (drop (k + 1) xs) (left f (take k xs)) (left (λ e. e) (own' ∷ []))
    ∙ ap (λ q. drop (k + 1) xs ++ q) (ap (λ q. left f (take k xs) ++ q) one ∙ sym (left-more f xs k own below))))

-- no line of a block that is lent stands in the ranges of a part
pub part-stays : (h : Held) (es : List OwnBlock) (lines : List LineRange) → CanPart h (lent_of es) lines → (b : ℕ) → 1 ≤ count_by (is_out b) es → (l : ℕ) → not (in_ranges lines b l) ≡ true
part-stays h es lines can b one l = by (in_ranges lines b l) refl
  where
    by : (t : Bool) → in_ranges lines b l ≡ t → not (in_ranges lines b l) ≡ true
    by true e = absurd (omega (arith, one, none-out b es (can.away b l e)))
    by false e = ap not e

pub sound-copies : {g : Geometry} {es : List OwnBlock} → IsSound g es → (lines : List LineRange) → IsSound g (left (copied (in_ranges lines)) es)
sound-copies {g} {es} sound lines =
    sound-left sound (Masks-copied (in_ranges lines))
    (λ k d below. (λ x e. ap (λ (q : Option (List ℕ)). length (unwrap_or q x)) (sym e) ∙ sound.kept k d below))
    (λ b. omega (arith, none-out b (left (copied (in_ranges lines)) es) (ap (λ q. q b) (home-left (in_ranges lines) es))))

pub sound-rest : {g : Geometry} {es : List OwnBlock} → IsSound g es → (t : ℕ → ℕ → Bool) → IsSound g (left (masked t) es)
sound-rest {g} {es} sound t =
    sound-left sound (Masks-masked t) sound.spare (λ b. omega (arith, out-left t es b, sound.out b))
