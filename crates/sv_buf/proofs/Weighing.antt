-- Where each line of a disk is noted once, there are as many notes as lines.
use Rattle.std.proofs.Common.{◌≡◌, ◌+◌, ◌*◌, ◌<◌, ◌==◌, ◌&&◌, ℕ, zero, suc, Bool, true, false, cond, List, [], ◌∷◌, length, get_or, nat_lt, Option, IsSome, refl, sym, ap, ◌∙◌, subst, arith}
use Rattle.std.specs.List.{count_by, All}
use Rattle.std.proofs.lemmas.Bool.Decides.{nat_tests}
use Rattle.std.proofs.lemmas.Bool.{and_parts, and_from, ltb-true, lt-ltb, eq-eqb, false≢true}
use Rattle.std.proofs.lemmas.List.Sums.{sum_by-cons, get_or-le-sum_by}
use Rattle.std.proofs.lemmas.List.Elements.{All-head, All-tail}
use Rattle.sv_form.specs.declared.geometry.Geometry.{Geometry}
use Rattle.sv_form.specs.Geometry.{IsGeometry}
use Rattle.sv_links.specs.Arrangement.{one_if}
use Rattle.sv_buf.specs.View.{View, Noted, is_at, hits, held_of}
use Rattle.sv_buf.specs.Running.{IsFit}
use Rattle.sv_buf.specs.Closing.{AreAllLines}
use Rattle.sv_buf.proofs.Lists.{held-none, held-some}

-- f of the lines below n, added up
abbrev row_sum : (ℕ → ℕ) → ℕ → ℕ
row_sum f zero = 0
row_sum f (suc n) = f n + row_sum f n

-- f of the lines below n of the blocks below b, added up
abbrev all_sum : (ℕ → ℕ → ℕ) → ℕ → ℕ → ℕ
all_sum f n zero = 0
all_sum f n (suc b) = row_sum (f b) n + all_sum f n b

row-add : (f g h : ℕ → ℕ) → ((l : ℕ) → h l ≡ f l + g l) → (n : ℕ) → row_sum h n ≡ row_sum f n + row_sum g n
row-add f g h each zero = refl
row-add f g h each (suc n) = omega (arith, each n, row-add f g h each n)

all-add : (f g h : ℕ → ℕ → ℕ) → ((b l : ℕ) → h b l ≡ f b l + g b l) → (n b : ℕ) → all_sum h n b ≡ all_sum f n b + all_sum g n b
all-add f g h each n zero = refl
all-add f g h each n (suc b) = omega (arith, row-add (f b) (g b) (h b) (each b) n, all-add f g h each n b)

row-none : (n : ℕ) → row_sum (λ l. 0) n ≡ 0
row-none zero = refl
row-none (suc n) = omega (arith, row-none n)

all-none : (n b : ℕ) → all_sum (λ c l. 0) n b ≡ 0
all-none n zero = refl
all-none n (suc b) = omega (arith, row-none n, all-none n b)

row-full : (f : ℕ → ℕ) (n : ℕ) → ((l : ℕ) → l < n → f l ≡ 1) → row_sum f n ≡ n
row-full f zero each = refl
row-full f (suc n) each = omega (arith, each n (omega arith), row-full f n (λ l below. each l (omega arith)))

all-full : (f : ℕ → ℕ → ℕ) (n b : ℕ) → ((c l : ℕ) → c < b → l < n → f c l ≡ 1) → all_sum f n b ≡ n * b
all-full f n zero each = omega arith
all-full f n (suc b) each = omega (
  arith,
  row-full (f b) n (λ l below. each b l (omega arith) below),
  all-full f n b (λ c l low below. each c l (omega arith) below),
)

one_more : (m n : ℕ) → one_if (m == n) + one_if (nat_lt m n) ≡ one_if (nat_lt m (suc n))
one_more m n = grind (nat_tests, arith)

one_more-in : (t : Bool) (m n : ℕ) → one_if (t && (m == n)) + one_if (t && nat_lt m n) ≡ one_if (t && nat_lt m (suc n))
one_more-in false m n = refl
one_more-in true m n = one_more m n

never : (t : Bool) (m : ℕ) → one_if (t && nat_lt m 0) ≡ 0
never false m = refl
never true m = grind (nat_tests, arith)

row-one : (t : Bool) (m n : ℕ) → row_sum (λ l. one_if (t && (m == l))) n ≡ one_if (t && nat_lt m n)
row-one t m zero = sym (never t m)
row-one t m (suc n) = omega (arith, row-one t m n, one_more-in t m n)

one_in : (t p q r : Bool) → one_if p + one_if q ≡ one_if r → one_if (p && t) + one_if (q && t) ≡ one_if (r && t)
one_in true true true true e = e
one_in true true true false e = e
one_in true true false true e = e
one_in true true false false e = e
one_in true false true true e = e
one_in true false true false e = e
one_in true false false true e = e
one_in true false false false e = e
one_in false true true true e = refl
one_in false true true false e = refl
one_in false true false true e = refl
one_in false true false false e = refl
one_in false false true true e = refl
one_in false false true false e = refl
one_in false false false true e = refl
one_in false false false false e = refl

all-one : (x m n b : ℕ) → all_sum (λ c l. one_if ((x == c) && (m == l))) n b ≡ one_if (nat_lt x b && nat_lt m n)
all-one x m n zero = sym (ap one_if (off (nat_lt x 0) (nat_lt m n) (below x)))
  where
    below : (y : ℕ) → nat_lt y 0 ≡ false
    below y = grind (nat_tests, arith)

    off : (p q : Bool) → p ≡ false → (p && q) ≡ false
    off p q e = ap (λ t. t && q) e
all-one x m n (suc b) = omega (
  arith,
  row-one (x == b) m n,
  all-one x m n b,
  one_in (nat_lt m n) (x == b) (nat_lt x b) (nat_lt x (suc b)) (one_more x b),
)

-- a note is of a block below b and a line below n
abbrev InTable : ℕ → ℕ → Noted → Type 0
InTable n b x = (x.block < b) × (x.line < n)

counted-length : (n b : ℕ) (ns : List Noted) → All (InTable n b) ns → length ns ≡ all_sum (λ c l. count_by (is_at c l) ns) n b
counted-length n b [] all = sym (all-none n b)
counted-length n b (x ∷ xs) all =
    let in_table = All-head (InTable n b) x xs all in
    let one : one_if (nat_lt x.block b && nat_lt x.line n) ≡ 1 = ap one_if
    (and_from (nat_lt x.block b) (nat_lt x.line n) (lt-ltb x.block b in_table.0) (lt-ltb x.line n in_table.1)) in
    omega (
      arith,
      one,
      all-one x.block x.line n b,
      counted-length n b xs (All-tail (InTable n b) x xs all),
      all-add (λ c l. one_if ((x.block == c) && (x.line == l))) (λ c l. count_by (is_at c l) xs) (λ c l. count_by (is_at c l) (x ∷ xs))
          (λ c l. sum_by-cons (λ (y : Noted). cond (is_at c l y) 1 0) x xs) n b,
    )

-- a note is counted at its place
pub noted-counted : (ns : List Noted) (i : ℕ) (d : Noted) → i < length ns → 0 < count_by
    (is_at (get_or ns i d).block (get_or ns i d).line) ns
noted-counted ns i d below =
    let one : cond {A = ℕ} (is_at (get_or ns i d).block (get_or ns i d).line (get_or ns i d)) 1 0 ≡ 1 = ap (λ t. cond {A = ℕ} t 1 0)
    (and_from _ _ (eq-eqb (get_or ns i d).block (get_or ns i d).block refl) (eq-eqb (get_or ns i d).line (get_or ns i d).line refl)) in
    let least = get_or-le-sum_by (λ (x : Noted). cond (is_at (get_or ns i d).block (get_or ns i d).line x) 1 0) ns i d below in
    omega (arith, one, least)

pub all-lines-length : (g : Geometry) (ns : List Noted) → IsGeometry g → AreAllLines g ns → length ns ≡ 16 * g.blocks
all-lines-length g ns is all =
    counted-length 16 g.blocks ns (λ i d below. inside (get_or ns i d) (noted-counted ns i d below)) ∙ all-full
    (λ c l. count_by (is_at c l) ns) 16 g.blocks (λ c l low below. all.once c l ∙ ap one_if
    (and_from (nat_lt c g.blocks) (nat_lt (l * 64) g.block_size) (lt-ltb c g.blocks low) (lt-ltb (l * 64) g.block_size
    (let size = is.block_size in omega arith))))
  where
    inside : (x : Noted) → 0 < count_by (is_at x.block x.line) ns → InTable 16 g.blocks x
    inside x some = by (nat_lt x.block g.blocks && nat_lt (x.line * 64) g.block_size) refl
      where
        by : (t : Bool) → (nat_lt x.block g.blocks && nat_lt (x.line * 64) g.block_size) ≡ t → InTable 16 g.blocks x
        by true e =
            let parts = and_parts (nat_lt x.block g.blocks) (nat_lt (x.line * 64) g.block_size) e in
            let line = ltb-true (x.line * 64) g.block_size parts.1 in
            let size = is.block_size in
            (ltb-true x.block g.blocks parts.0, omega arith)
        by false e = let none : one_if (nat_lt x.block g.blocks && nat_lt (x.line * 64) g.block_size) ≡ 0 = ap one_if e in absurd
            (omega (arith, none, all.once x.block x.line))

-- all lines are noted once where a stake holds them all
pub all-held : (v : View) → IsFit v → ((b l : ℕ) → b < v.opening.sizes.blocks → l * 64 < v.opening.sizes.block_size
    → IsSome (held_of v.lines b l)) → AreAllLines v.opening.sizes v.lines
all-held v fit held = record {
  once = λ b l. by b l (nat_lt b v.opening.sizes.blocks && nat_lt (l * 64) v.opening.sizes.block_size) refl (hits b l v) refl;
}
  where
    by : (b l : ℕ) (t : Bool) → (nat_lt b v.opening.sizes.blocks && nat_lt (l * 64) v.opening.sizes.block_size) ≡ t → (n : ℕ)
        → hits b l v ≡ n → hits b l v ≡ one_if (nat_lt b v.opening.sizes.blocks && nat_lt (l * 64) v.opening.sizes.block_size)
    by b l true e zero none =
        let parts = and_parts (nat_lt b v.opening.sizes.blocks) (nat_lt (l * 64) v.opening.sizes.block_size) e in
        let some = held b l (ltb-true b v.opening.sizes.blocks parts.0) (ltb-true (l * 64) v.opening.sizes.block_size parts.1) in
        absurd (false≢true (subst (λ (o : Option (List ℕ)). IsSome o) (held-none b l v.lines none) some))
    by b l true e (suc n) some = let most = fit.once b l in omega (arith, some, ap one_if e)
    by b l false e zero none = none ∙ sym (ap one_if e)
    by b l false e (suc n) some =
        let there = held-some b l v.lines (omega (arith, some)) in
        absurd (false≢true (sym e ∙ and_from (nat_lt b v.opening.sizes.blocks) (nat_lt (l * 64) v.opening.sizes.block_size)
        (lt-ltb b v.opening.sizes.blocks (fit.range.block b l there))
        (lt-ltb (l * 64) v.opening.sizes.block_size (fit.range.line b l there))))
