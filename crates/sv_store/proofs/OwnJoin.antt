-- Two lists of an own stake put together; a list has few entries, since no line is held twice.
use Rattle.std.proofs.Common.{◌≡◌, ◌<◌, ◌≤◌, ◌+◌, ◌*◌, ◌==◌, ◌&&◌, ◌||◌, ◌++◌, ℕ, zero, suc, Bool, true, false, cond, List, [], ◌∷◌, length, map, get_or, Option, Some, None, IsSome, IfSome, is_some, refl, sym, ap, ◌∙◌, subst, arith, eqb}
use Rattle.std.proofs.Math.Path.{fun_ext}
use Rattle.std.specs.List.{list_any, position_or_len, All, AllByRecursion, IsDistinct}
use Rattle.std.specs.Option.{ForSome}
use Rattle.std.proofs.lemmas.Bool.{false≢true, eqb-true}
use Rattle.std.proofs.lemmas.List.{map-append, length-map}
use Rattle.std.proofs.lemmas.List.Sums.{sum_by-append}
use Rattle.std.proofs.lemmas.List.Elements.{All-append, All-head, All-tail}
use Rattle.std.proofs.lemmas.Map.Steps.{length-le_from_distinct_below}
use Rattle.std.proofs.lemmas.Map.Keys.{IsDistinct-cons}
use Rattle.sv_form.specs.declared.geometry.Geometry.{Geometry}
use Rattle.sv_form.specs.Geometry.{IsGeometry}
use Rattle.sv_store.specs.Held.{Apart, line_of, nothing_lent}
use Rattle.sv_store.specs.OwnBlock.{OwnBlock, Mask, mask_of, has, holders, IsSound, line_in, held_of, is_out, lent_of}
use Rattle.sv_store.proofs.Holding.{eqb_same, none_from}
use Rattle.sv_store.proofs.Lines.{length-line_of}
use Rattle.sv_store.proofs.OwnLaws.{over, Both-over, held_of-cons, held_of-nil, line_in-at, lent_of-cons, lent_of-nil, count-cons, none-out, any-place}

pub held_of-both : (e : OwnBlock) (es : List OwnBlock) (b l : ℕ) → held_of (e ∷ es) b l ≡ over (held_of es b l) (line_in e b l)
held_of-both e es b l = ap (λ q. q b l) (held_of-cons e es) ∙ Both-over (held_of es) (line_in e) b l

over-none-left : (o p : Option (List ℕ)) → over o p ≡ None → o ≡ None
unfolding over
over-none-left None p h = refl
over-none-left (Some x) p h = h

over-none-right : (o p : Option (List ℕ)) → over o p ≡ None → p ≡ None
unfolding over
over-none-right None p h = h
over-none-right (Some x) p h = absurd (false≢true (ap is_some (sym h)))

has-none : (b l : ℕ) (e : OwnBlock) → line_in e b l ≡ None → has b l (mask_of e) ≡ false
has-none b l e none = by (has b l (mask_of e)) refl
  where
    by : (t : Bool) → has b l (mask_of e) ≡ t → has b l (mask_of e) ≡ false
    by true h = absurd (false≢true (ap is_some (sym none ∙ (line_in-at e b l ∙ ap (λ q. cond q (Some (line_of e.kept l)) None) h))))
    by false h = h

-- a line that is not held is held by none
holders-none : (b l : ℕ) (es : List OwnBlock) → held_of es b l ≡ None → holders b l (map mask_of es) ≡ 0
holders-none b l [] none = refl
holders-none b l (e ∷ es) none =
    let whole = sym (held_of-both e es b l) ∙ none in
    let away : cond (has b l (mask_of e)) 1 0 ≡ 0 = ap {B = ℕ} (λ q. cond q 1 0) (has-none b l e (over-none-right (held_of es b l) (line_in e b l) whole)) in
    omega (arith, count-cons (has b l) (mask_of e) (map mask_of es), away, holders-none b l es (over-none-left (held_of es b l) (line_in e b l) whole))

pub sound-append : {g : Geometry} {xs ys : List OwnBlock} → IsSound g xs → IsSound g ys → Apart (held_of xs) (held_of ys) → lent_of ys ≡ nothing_lent → IsSound g (xs ++ ys)
sound-append {g} {xs} {ys} one two apart home = record {
  block = All-append (λ e. e.block < g.blocks) xs ys one.block two.block;
  lines = All-append (λ e. length e.lines * 64 ≡ g.block_size) xs ys one.lines two.lines;
  some = All-append (λ e. list_any (λ x. x) e.lines ≡ true) xs ys one.some two.some;
  kept = All-append (λ e. length e.kept ≡ g.block_size) xs ys one.kept two.kept;
  spare = All-append (λ e. ForSome e.spare (λ bytes. length bytes ≡ g.block_size)) xs ys one.spare two.spare;
  once = λ b l. once b l (is_some (held_of xs b l)) refl;
  out = λ b. omega (arith, sum_by-append (λ e. cond (is_out b e) 1 0) xs ys, none-out b ys (ap (λ q. q b) home), one.out b);
}
  where
    sum : (b l : ℕ) → holders b l (map mask_of (xs ++ ys)) ≡ holders b l (map mask_of xs) + holders b l (map mask_of ys)
    sum b l = ap (holders b l) (map-append mask_of xs ys) ∙ sum_by-append (λ m. cond (has b l m) 1 0) (map mask_of xs) (map mask_of ys)

    once : (b l : ℕ) (t : Bool) → is_some (held_of xs b l) ≡ t → holders b l (map mask_of (xs ++ ys)) ≤ 1
    once b l true e = omega (arith, sum b l, one.once b l, holders-none b l ys (apart.at b l e))
    once b l false e = omega (arith, sum b l, two.once b l, holders-none b l xs (none_from (held_of xs b l) e))

pub lent-append : (xs ys : List OwnBlock) → lent_of ys ≡ nothing_lent → lent_of (xs ++ ys) ≡ lent_of xs
lent-append xs ys home = fun_ext (λ c. at xs c)
  where
    at : (xs : List OwnBlock) (c : ℕ) → lent_of (xs ++ ys) c ≡ lent_of xs c
    at [] c = ap (λ q. q c) home ∙ sym (lent_of-nil c)
    at (e ∷ es) c =
        lent_of-cons e (es ++ ys) c ∙ (ap (cond (is_out c e) (Some e.kept)) (at es c) ∙ sym (lent_of-cons e es c))

-- the first line that an entry holds
first : OwnBlock → ℕ
first e = position_or_len (λ x. x) e.lines

first-true : (xs : List Bool) → list_any (λ x. x) xs ≡ true → get_or xs (position_or_len (λ x. x) xs) false ≡ true
first-true [] some = absurd (false≢true some)
first-true (true ∷ xs) some = refl
first-true (false ∷ xs) some =
    let next : 1 + position_or_len (λ x. x) xs ≡ suc (position_or_len (λ x. x) xs) = omega arith in
    ap (λ q. get_or (false ∷ xs) q false) next ∙ first-true xs some

has-first : (e : OwnBlock) → list_any (λ x. x) e.lines ≡ true → has e.block (first e) (mask_of e) ≡ true
unfolding has first
has-first e some = ap (λ q. q && get_or e.lines (position_or_len (λ x. x) e.lines) false) (eqb_same e.block) ∙ first-true e.lines some

-- a number for each entry, by its block and first line
key : OwnBlock → ℕ
key e = e.block * 65536 + first e

abbrev Some' : OwnBlock → Type 0
Some' e = list_any (λ x. x) e.lines ≡ true

abbrev Short : OwnBlock → Type 0
Short e = length e.lines ≤ 65536

first-below : (e : OwnBlock) → Some' e → Short e → first e < 65536
unfolding first
first-below e some short = omega (arith, any-place (λ x. x) e.lines some, short)

others-apart : (b l : ℕ) (es : List OwnBlock) → l < 65536 → All Some' es → All Short es → holders b l (map mask_of es) ≡ 0 → AllByRecursion (λ k. eqb (b * 65536 + l) k ≡ false) (map key es)
unfolding key
others-apart b l [] below some short none = tt
others-apart b l (e ∷ es) below some short none =
    (head (eqb (b * 65536 + l) (e.block * 65536 + first e)) refl, others-apart b l es below (All-tail Some' e es some) (All-tail Short e es short) (omega (arith, none, count-cons (has b l) (mask_of e) (map mask_of es))))
  where
    head : (t : Bool) → eqb (b * 65536 + l) (e.block * 65536 + first e) ≡ t → eqb (b * 65536 + l) (e.block * 65536 + first e) ≡ false
    head true h =
        let same : b * 65536 + l ≡ e.block * 65536 + first e = eqb-true (b * 65536 + l) (e.block * 65536 + first e) h in
        let small : first e < 65536 = first-below e (All-head Some' e es some) (All-head Short e es short) in
        let block : e.block ≡ b = omega arith in
        let line : first e ≡ l = omega arith in
        let is : has b l (mask_of e) ≡ true = ap (λ q. has q l (mask_of e)) (sym block) ∙ (ap (λ q. has e.block q (mask_of e)) (sym line) ∙ has-first e (All-head Some' e es some)) in
        let one : cond (has b l (mask_of e)) 1 0 ≡ 1 = ap {B = ℕ} (λ q. cond q 1 0) is in
        absurd (omega (arith, none, one, count-cons (has b l) (mask_of e) (map mask_of es)))
    head false h = h

distinct-nil : IsDistinct eqb []
unfolding IsDistinct
distinct-nil = tt

distinct-keys : (es : List OwnBlock) → All Some' es → All Short es → ((b l : ℕ) → holders b l (map mask_of es) ≤ 1) → IsDistinct eqb (map key es)
unfolding key
distinct-keys [] some short once = distinct-nil
distinct-keys (e ∷ es) some short once =
    let is : has e.block (first e) (mask_of e) ≡ true = has-first e (All-head Some' e es some) in
    let one : cond (has e.block (first e) (mask_of e)) 1 0 ≡ 1 = ap {B = ℕ} (λ q. cond q 1 0) is in
    IsDistinct-cons eqb (e.block * 65536 + first e) (map key es)
    (others-apart e.block (first e) es (first-below e (All-head Some' e es some) (All-head Short e es short)) (All-tail Some' e es some) (All-tail Short e es short)
    (omega (arith, one, once e.block (first e), count-cons (has e.block (first e)) (mask_of e) (map mask_of es))))
    (distinct-keys es (All-tail Some' e es some) (All-tail Short e es short) (λ b l. omega (arith, once b l, count-cons (has b l) (mask_of e) (map mask_of es))))

keys-below : (es : List OwnBlock) → All Some' es → All Short es → All (λ e. e.block < 65536) es → (q : ℕ) → list_any (eqb q) (map key es) ≡ true → q < 4294967296
unfolding key
keys-below [] some short block q h = absurd (false≢true h)
keys-below (e ∷ es) some short block q h =
    by (eqb q (e.block * 65536 + first e)) refl h (keys-below es (All-tail Some' e es some) (All-tail Short e es short) (All-tail (λ e. e.block < 65536) e es block) q)
  where
    by : (t : Bool) → eqb q (e.block * 65536 + first e) ≡ t → (t || list_any (eqb q) (map key es)) ≡ true → (list_any (eqb q) (map key es) ≡ true → q < 4294967296) → q < 4294967296
    by true e' h rec =
        omega (arith, eqb-true q (e.block * 65536 + first e) e', first-below e (All-head Some' e es some) (All-head Short e es short), All-head (λ e. e.block < 65536) e es block)
    by false e' h rec = rec h

-- so a list has not many entries
pub length-sound : {g : Geometry} → IsGeometry g → (es : List OwnBlock) → IsSound g es → length es ≤ 4294967296
length-sound {g} sizes es sound =
    let short : All Short es = λ k d below. omega (arith, sound.lines k d below, sizes.block_size) in
    let low : All (λ e. e.block < 65536) es = λ k d below. omega (arith, sound.block k d below, sizes.most_blocks) in
    omega (arith, length-map es key, length-le_from_distinct_below (map key es) 4294967296 (distinct-keys es sound.some short sound.once) (keys-below es sound.some short low))

below-true : (xs : List Bool) (l : ℕ) → get_or xs l false ≡ true → l < length xs
below-true [] l h = absurd (false≢true h)
below-true (x ∷ xs) zero h = omega arith
below-true (x ∷ xs) (suc l) h = omega (arith, below-true xs l h)

and-both : (a b : Bool) → (a && b) ≡ true → (a ≡ true) × (b ≡ true)
and-both true b h = (refl, h)
and-both false b h = absurd (false≢true h)

has-both : (b l : ℕ) (m : Mask) → has b l m ≡ true → (m.block ≡ b) × (l < length m.lines)
unfolding has
has-both b l m h =
    let both = and-both (m.block == b) (get_or m.lines l false) h in (eqb-true m.block b both.0, below-true m.lines l both.1)

line_in-has : (e : OwnBlock) (b l : ℕ) → IsSome (line_in e b l) → has b l (mask_of e) ≡ true
line_in-has e b l is = by (has b l (mask_of e)) refl
  where
    by : (t : Bool) → has b l (mask_of e) ≡ t → has b l (mask_of e) ≡ true
    by true h = h
    by false h = absurd (false≢true (ap is_some (sym (line_in-at e b l ∙ ap (λ q. cond q (Some (line_of e.kept l)) None) h)) ∙ is))

over-some : (o p : Option (List ℕ)) → is_some o ≡ false → IsSome (over o p) → IsSome p
unfolding over
over-some None p e is = is
over-some (Some x) p e is = absurd (false≢true (sym e))

-- only lines of blocks in range are held
pub held-range : (g : Geometry) (es : List OwnBlock) → All (λ e. e.block < g.blocks) es → All (λ e. length e.lines * 64 ≡ g.block_size) es → (b l : ℕ) → IsSome (held_of es b l) → (b < g.blocks) × (l * 64 < g.block_size)
held-range g [] block lines b l is = absurd (false≢true (ap is_some (sym (held_of-nil b l)) ∙ is))
held-range g (e ∷ es) block lines b l is =
    by (is_some (held_of es b l)) refl (held-range g es (All-tail (λ e. e.block < g.blocks) e es block) (All-tail (λ e. length e.lines * 64 ≡ g.block_size) e es lines) b l)
  where
    by : (t : Bool) → is_some (held_of es b l) ≡ t → (IsSome (held_of es b l) → (b < g.blocks) × (l * 64 < g.block_size)) → (b < g.blocks) × (l * 64 < g.block_size)
    by true h rec = rec h
    by false h rec =
        let both = has-both b l (mask_of e) (line_in-has e b l (over-some (held_of es b l) (line_in e b l) h (ap is_some (sym (held_of-both e es b l)) ∙ is))) in
        let low : e.block < g.blocks = All-head (λ e. e.block < g.blocks) e es block in
        let long : length e.lines * 64 ≡ g.block_size = All-head (λ e. length e.lines * 64 ≡ g.block_size) e es lines in
        (omega (arith, both.0, low), omega (arith, both.1, long))

over-each : (P : List ℕ → Type 0) (o p : Option (List ℕ)) → IfSome o P → IfSome p P → IfSome (over o p) P
unfolding over
over-each P None p mine theirs = theirs
over-each P (Some x) p mine theirs = mine

-- each line that is held has 64 bytes
pub held-bytes : (g : Geometry) (es : List OwnBlock) → All (λ e. length e.lines * 64 ≡ g.block_size) es → All (λ e. length e.kept ≡ g.block_size) es → (b l : ℕ) → IfSome (held_of es b l) (λ line. length line ≡ 64)
held-bytes g [] lines kept b l = subst (λ q. IfSome q (λ line. length line ≡ 64)) (sym (held_of-nil b l)) tt
held-bytes g (e ∷ es) lines kept b l =
    subst (λ q. IfSome q (λ line. length line ≡ 64)) (sym (held_of-both e es b l))
    (over-each (λ line. length line ≡ 64) (held_of es b l) (line_in e b l)
    (held-bytes g es (All-tail (λ e. length e.lines * 64 ≡ g.block_size) e es lines) (All-tail (λ e. length e.kept ≡ g.block_size) e es kept) b l)
    (subst (λ q. IfSome q (λ line. length line ≡ 64)) (sym (line_in-at e b l)) (by (has b l (mask_of e)) refl)))
  where
    by : (t : Bool) → has b l (mask_of e) ≡ t → IfSome (cond t (Some (line_of e.kept l)) None) (λ line. length line ≡ 64)
    by true is =
        let both = has-both b l (mask_of e) is in
        let long : length e.lines * 64 ≡ g.block_size = All-head (λ e. length e.lines * 64 ≡ g.block_size) e es lines in
        let whole : length e.kept ≡ g.block_size = All-head (λ e. length e.kept ≡ g.block_size) e es kept in
        omega (arith, length-line_of e.kept l, both.1, long, whole)
    by false is = tt
