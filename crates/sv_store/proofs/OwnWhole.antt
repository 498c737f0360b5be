-- The list that an own stake begins with: all lines of all blocks.
use Rattle.std.proofs.Common.{◌≡◌, ◌<◌, ◌≤◌, ◌+◌, ◌*◌, ◌/◌, ◌==◌, ◌&&◌, ℕ, zero, suc, Bool, true, false, cond, List, [], ◌∷◌, length, map, replicate, get_or, Option, Some, None, IsSome, drop, is_some, nat_lt, unwrap_or, refl, sym, ap, ◌∙◌, subst, arith}
use Rattle.std.proofs.Math.Path.{fun_ext}
use Rattle.std.specs.List.{count_by, list_any, All}
use Rattle.std.specs.Option.{ForSome}
use Rattle.std.proofs.lemmas.Bool.{eqb-true, eq-eqb}
use Rattle.std.proofs.lemmas.Bool.Decides.{nat_tests}
use Rattle.std.proofs.lemmas.List.{length-replicate, get_or-replicate, get_or_past, drop_more, drop_all}
use Rattle.std.proofs.lemmas.List.Elements.{All-nil, All-cons}
use Rattle.sv_form.specs.declared.geometry.Geometry.{Geometry}
use Rattle.sv_form.specs.Geometry.{IsGeometry}
use Rattle.sv_store.specs.Held.{line_of, of_content, nothing_lent}
use Rattle.sv_store.specs.OwnBlock.{OwnBlock, mask_of, has, holders, IsSound, line_in, held_of, is_out, lent_of, whole_block, whole_blocks}
use Rattle.sv_store.proofs.OwnLaws.{over, over-none, over-nothing, held_of-nil, line_in-at, lent_of-cons, lent_of-nil, count-cons, has-wrong, is_out-home}
use Rattle.sv_store.proofs.OwnJoin.{held_of-both}
use Rattle.sv_store.proofs.OwnParts.{has-at}

whole-nil : (g : Geometry) (b : ℕ) → whole_blocks g b [] ≡ []
unfolding whole_blocks
whole-nil g b = refl

pub whole-cons : (g : Geometry) (b : ℕ) (bytes : List ℕ) (rest : List (List ℕ)) → whole_blocks g b (bytes ∷ rest) ≡ whole_block g b bytes ∷ whole_blocks g (suc b) rest
unfolding whole_blocks
whole-cons g b bytes rest = refl

eqb-less : (a b : ℕ) → a < b → (b == a) ≡ false
eqb-less a b h = grind (nat_tests, arith)

pub line_in-other : (e : OwnBlock) (b l : ℕ) → (e.block == b) ≡ false → line_in e b l ≡ None
line_in-other e b l other = line_in-at e b l ∙ ap (λ q. cond q (Some (line_of e.kept l)) None) (has-wrong b l (mask_of e) other)

-- nothing is held of the blocks before
whole-before : (g : Geometry) (xs : List (List ℕ)) (i b l : ℕ) → b < i → held_of (whole_blocks g i xs) b l ≡ None
whole-before g [] i b l before = ap (λ q. held_of q b l) (whole-nil g i) ∙ held_of-nil b l
whole-before g (x ∷ xs) i b l before =
    ap (λ q. held_of q b l) (whole-cons g i x xs)
    ∙ (held_of-both (whole_block g i x) (whole_blocks g (suc i) xs) b l
    ∙ (ap (λ q. over q (line_in (whole_block g i x) b l)) (whole-before g xs (suc i) b l (omega arith))
    ∙ (over-nothing (line_in (whole_block g i x) b l) ∙ line_in-other (whole_block g i x) b l (eqb-less b i before))))

full : (n l : ℕ) → get_or (replicate n true) l false ≡ nat_lt l n
full n l = by (nat_lt l n) refl
  where
    past : (l n : ℕ) → nat_lt l n ≡ false → n ≤ l
    past l n h = grind (nat_tests, arith)

    under : (l n : ℕ) → nat_lt l n ≡ true → l < n
    under l n h = grind (nat_tests, arith)

    by : (t : Bool) → nat_lt l n ≡ t → get_or (replicate n true) l false ≡ nat_lt l n
    by true h = get_or-replicate n l true false (under l n h) ∙ sym h
    by false h =
        let size : length (replicate n true) ≡ n = length-replicate n true in
        let out : n ≤ l = past l n h in
        get_or_past (replicate n true) l false (omega (arith, size, out)) ∙ sym h

at-line : Geometry → List (List ℕ) → ℕ → ℕ → Option (List ℕ)
at-line g xs k l = cond (nat_lt k (length xs) && nat_lt (l * 64) g.block_size) (Some (line_of (get_or xs k []) l)) None

-- the k-th block from block i on
whole-at : (g : Geometry) → IsGeometry g → (xs : List (List ℕ)) (i k l : ℕ) → held_of (whole_blocks g i xs) (i + k) l ≡ at-line g xs k l
unfolding at-line over
whole-at g sizes [] i k l =
    ap (λ q. held_of q (i + k) l) (whole-nil g i)
    ∙ (held_of-nil (i + k) l ∙ sym (ap (λ q. cond (q && nat_lt (l * 64) g.block_size) (Some (line_of (get_or [] k []) l)) None) (none k)))
  where
    none : (k : ℕ) → nat_lt k 0 ≡ false
    none k = grind (nat_tests, arith)
whole-at g sizes (x ∷ xs) i zero l =
    ap (λ q. held_of q (i + 0) l) (whole-cons g i x xs)
    ∙ (held_of-both (whole_block g i x) (whole_blocks g (suc i) xs) (i + 0) l
    ∙ (ap (λ q. over q (line_in (whole_block g i x) (i + 0) l)) (whole-before g xs (suc i) (i + 0) l (omega arith))
    ∙ (line_in-at (whole_block g i x) (i + 0) l
    ∙ ap (λ q. cond q (Some (line_of x l)) None) (has-at (i + 0) l (mask_of (whole_block g i x)) ∙ (ap (λ q. q && get_or (replicate (g.block_size / 64) true) l false) (eq-eqb i (i + 0) (omega arith)) ∙ (full (g.block_size / 64) l ∙ (same l (g.block_size / 64) g.block_size (omega (arith, sizes.block_size)) ∙ ap (λ q. q && nat_lt (l * 64) g.block_size) (sym (some (length xs))))))))))
  where
    some : (n : ℕ) → nat_lt 0 (suc n) ≡ true
    some n = grind (nat_tests, arith)

    same : (l n size : ℕ) → n * 64 ≡ size → nat_lt l n ≡ nat_lt (l * 64) size
    same l n size e = grind (nat_tests, arith)
whole-at g sizes (x ∷ xs) i (suc k) l =
    let next : i + suc k ≡ suc i + k = omega arith in
    ap (λ q. held_of q (i + suc k) l) (whole-cons g i x xs)
    ∙ (held_of-both (whole_block g i x) (whole_blocks g (suc i) xs) (i + suc k) l
    ∙ (ap (λ q. over q (line_in (whole_block g i x) (i + suc k) l)) (ap (λ q. held_of (whole_blocks g (suc i) xs) q l) next ∙ whole-at g sizes xs (suc i) k l)
    ∙ (ap (over (at-line g xs k l)) (line_in-other (whole_block g i x) (i + suc k) l (other i k)) ∙ (over-none (at-line g xs k l) ∙ ap (λ q. cond (q && nat_lt (l * 64) g.block_size) (Some (line_of (get_or xs k []) l)) None) (sym (step k (length xs)))))))
  where
    other : (i k : ℕ) → (i == i + suc k) ≡ false
    other i k = grind (nat_tests, arith)

    step : (k n : ℕ) → nat_lt (suc k) (suc n) ≡ nat_lt k n
    step k n = grind (nat_tests, arith)

pub held-whole : (g : Geometry) → IsGeometry g → (xs : List (List ℕ)) → held_of (whole_blocks g 0 xs) ≡ of_content g xs
unfolding of_content at-line
held-whole g sizes xs = fun_ext (λ b. fun_ext (λ l. (let z : b ≡ 0 + b = omega arith in ap (λ q. held_of (whole_blocks g 0 xs) q l) z ∙ whole-at g sizes xs 0 b l)))

pub home-whole : (g : Geometry) (xs : List (List ℕ)) (i : ℕ) → lent_of (whole_blocks g i xs) ≡ nothing_lent
home-whole g xs i = fun_ext (λ c. at xs i c)
  where
    at : (xs : List (List ℕ)) (i c : ℕ) → lent_of (whole_blocks g i xs) c ≡ None
    at [] i c = ap (λ q. lent_of q c) (whole-nil g i) ∙ lent_of-nil c
    at (x ∷ xs) i c =
        ap (λ q. lent_of q c) (whole-cons g i x xs)
        ∙ (lent_of-cons (whole_block g i x) (whole_blocks g (suc i) xs) c
        ∙ (ap (λ q. cond q (Some x) (lent_of (whole_blocks g (suc i) xs) c)) (is_out-home c (whole_block g i x) (replicate g.block_size 0)) ∙ at xs (suc i) c))

whole-All : (P : OwnBlock → Type 0) (g : Geometry) (xs : List (List ℕ)) (i : ℕ) → ((k : ℕ) → k < length xs → P (whole_block g (i + k) (get_or xs k []))) → All P (whole_blocks g i xs)
whole-All P g [] i each = subst (All P) (sym (whole-nil g i)) (All-nil P)
whole-All P g (x ∷ xs) i each =
    let z : i + 0 ≡ i = omega arith in
    subst (All P) (sym (whole-cons g i x xs))
    (All-cons P (whole_block g i x) (whole_blocks g (suc i) xs) (let Q : ℕ → Type 0 = λ q. P (whole_block g q x) in subst Q z (each 0 (omega arith)))
    (whole-All P g xs (suc i) (λ k below. (let next : i + suc k ≡ suc i + k = omega arith in let Q : ℕ → Type 0 = λ q. P (whole_block g q (get_or xs k [])) in subst Q next (each (suc k) (omega arith))))))

-- no line is held twice
whole-once : (g : Geometry) (xs : List (List ℕ)) (i b l : ℕ) → (holders b l (map mask_of (whole_blocks g i xs)) ≤ 1) × (b < i → holders b l (map mask_of (whole_blocks g i xs)) ≡ 0)
whole-once g [] i b l =
    let none : holders b l (map mask_of (whole_blocks g i [])) ≡ 0 = ap (λ q. holders b l (map mask_of q)) (whole-nil g i) in
    (omega (arith, none), λ before. none)
whole-once g (x ∷ xs) i b l = by (i == b) refl (whole-once g xs (suc i) b l)
  where
    count : holders b l (map mask_of (whole_blocks g i (x ∷ xs))) ≡ cond (has b l (mask_of (whole_block g i x))) 1 0 + holders b l (map mask_of (whole_blocks g (suc i) xs))
    count = ap (λ q. holders b l (map mask_of q)) (whole-cons g i x xs) ∙ count-cons (has b l) (mask_of (whole_block g i x)) (map mask_of (whole_blocks g (suc i) xs))

    most : (t : Bool) → cond t 1 0 ≤ 1
    most true = omega arith
    most false = omega arith

    by : (t : Bool) → (i == b) ≡ t → (holders b l (map mask_of (whole_blocks g (suc i) xs)) ≤ 1) × (b < suc i → holders b l (map mask_of (whole_blocks g (suc i) xs)) ≡ 0) → (holders b l (map mask_of (whole_blocks g i (x ∷ xs))) ≤ 1) × (b < i → holders b l (map mask_of (whole_blocks g i (x ∷ xs))) ≡ 0)
    by true e rec =
        let same : i ≡ b = eqb-true i b e in
        let none : holders b l (map mask_of (whole_blocks g (suc i) xs)) ≡ 0 = rec.1 (omega arith) in
        (omega (arith, count, none, most (has b l (mask_of (whole_block g i x)))), λ before. absurd (omega arith))
    by false e rec =
        let away : cond (has b l (mask_of (whole_block g i x))) 1 0 ≡ 0 = ap {B = ℕ} (λ q. cond q 1 0) (has-wrong b l (mask_of (whole_block g i x)) e) in
        (omega (arith, count, away, rec.0), λ before. omega (arith, count, away, rec.1 (omega arith)))

out-whole : (g : Geometry) (xs : List (List ℕ)) (i b : ℕ) → count_by (is_out b) (whole_blocks g i xs) ≡ 0
out-whole g [] i b = ap (count_by (is_out b)) (whole-nil g i)
out-whole g (x ∷ xs) i b =
    let away : cond (is_out b (whole_block g i x)) 1 0 ≡ 0 = ap {B = ℕ} (λ q. cond q 1 0) (is_out-home b (whole_block g i x) (replicate g.block_size 0)) in
    omega (arith, ap (count_by (is_out b)) (whole-cons g i x xs), count-cons (is_out b) (whole_block g i x) (whole_blocks g (suc i) xs), away, out-whole g xs (suc i) b)

some-full : (n : ℕ) → 0 < n → list_any (λ x. x) (replicate n true) ≡ true
some-full zero h = absurd (omega arith)
some-full (suc n) h = refl

pub sound-whole : (g : Geometry) → IsGeometry g → (xs : List (List ℕ)) → length xs ≡ g.blocks → All (λ x. length x ≡ g.block_size) xs → IsSound g (whole_blocks g 0 xs)
sound-whole g sizes xs many long = record {
  block = whole-All (λ e. e.block < g.blocks) g xs 0 (λ k below. omega (arith, many));
  lines = whole-All (λ e. length e.lines * 64 ≡ g.block_size) g xs 0 (λ k below. omega (arith, length-replicate (g.block_size / 64) true, sizes.block_size));
  some = whole-All (λ e. list_any (λ x. x) e.lines ≡ true) g xs 0 (λ k below. some-full (g.block_size / 64) (omega (arith, sizes.block_size)));
  kept = whole-All (λ e. length e.kept ≡ g.block_size) g xs 0 (λ k below. long k [] below);
  spare = whole-All (λ e. ForSome e.spare (λ bytes. length bytes ≡ g.block_size)) g xs 0 (λ k below. (λ x e. ap (λ (q : Option (List ℕ)). length (unwrap_or q x)) (sym e) ∙ length-replicate g.block_size 0));
  once = λ b l. (whole-once g xs 0 b l).0;
  out = λ b. omega (arith, out-whole g xs 0 b);
}

-- one block more, from the last one on
pub whole-step : (g : Geometry) (xs : List (List ℕ)) (n : ℕ) (list : List OwnBlock) (own : OwnBlock) (x : List ℕ) → n < length xs → list ≡ whole_blocks g (n + 1) (drop (n + 1) xs) → own ≡ whole_block g n x → x ≡ get_or xs n [] → own ∷ list ≡ whole_blocks g n (drop n xs)
whole-step g xs n list own x below list-is own-is x-is =
    let next : n + 1 ≡ suc n = omega arith in
    ap (λ q. q ∷ list) (own-is ∙ ap (whole_block g n) x-is)
    ∙ (ap (λ q. whole_block g n (get_or xs n []) ∷ q) (list-is ∙ ap (λ q. whole_blocks g q (drop (n + 1) xs)) next)
    ∙ (sym (whole-cons g n (get_or xs n []) (drop (n + 1) xs)) ∙ ap (whole_blocks g n) (sym (drop_more xs n [] below))))

pub whole-none : (g : Geometry) (xs : List (List ℕ)) (n : ℕ) → length xs ≤ n → [] ≡ whole_blocks g n (drop n xs)
whole-none g xs n past = sym (ap (whole_blocks g n) (drop_all n xs past) ∙ whole-nil g n)

pub held-content : (g : Geometry) (xs : List (List ℕ)) (b l : ℕ) → b < length xs → l * 64 < g.block_size → IsSome (of_content g xs b l)
unfolding of_content
held-content g xs b l block line =
    ap (λ q. is_some (cond (q && nat_lt (l * 64) g.block_size) (Some (line_of (get_or xs b []) l)) None)) (less b (length xs) block)
    ∙ ap (λ q. is_some (cond q (Some (line_of (get_or xs b []) l)) None)) (less (l * 64) g.block_size line)
  where
    less : (a b : ℕ) → a < b → nat_lt a b ≡ true
    less a b h = grind (nat_tests, arith)
