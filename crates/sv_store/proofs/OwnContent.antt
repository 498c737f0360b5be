-- The lines of an own stake's list, copied to all blocks.
use Rattle.std.proofs.Common.{◌≡◌, ◌≢◌, ◌<◌, ◌*◌, ◌==◌, ◌&&◌, ◌++◌, ℕ, Bool, true, false, cond, List, [], length, map, set, take, drop, get_or, Option, Some, None, IsSome, IfSome, is_some, unwrap_or, nat_lt, Vec, Global, refl, sym, ap, ◌∙◌, subst, arith, eqb}
use Rattle.std.proofs.Math.Path.{fun_ext}
use Rattle.std.specs.List.{All}
use Rattle.std.specs.Vec.{with_items}
use Rattle.std.proofs.lemmas.List.Elements.{All-get_or, All-map}
use Rattle.std.proofs.lemmas.Bool.{false≢true, eqb-true}
use Rattle.std.proofs.lemmas.Bool.Decides.{nat_tests}
use Rattle.std.proofs.lemmas.List.{get_or-map, map-set, length-map, get_or-set_same, get_or-set_other, take_all, drop_all, append-nil}
use Rattle.sv_form.specs.declared.geometry.Geometry.{Geometry}
use Rattle.sv_store.specs.Held.{Held, Origin, HoldsBlock, line_of, of_content}
use Rattle.sv_store.specs.Content.{block_bytes}
use Rattle.sv_store.specs.OwnBlock.{OwnBlock, IsSound, line_in, held_of}
use Rattle.sv_store.proofs.Holding.{none_from}
use Rattle.sv_store.proofs.OwnJoin.{held-range}
use Rattle.sv_store.proofs.OwnWhole.{line_in-other}

abbrev Block : Type 0
Block = Vec ℕ Global

pub block-at : (xs : List Block) (b : ℕ) (d : Block) → b < length xs → block_bytes xs b ≡ (get_or xs b d).items
unfolding block_bytes
block-at xs b d below = get_or-map (λ v. v.items) xs b d [] below

block-set : (xs : List Block) (b : ℕ) (w : Block) (c : ℕ) → block_bytes (set xs b w) c ≡ get_or (set (map (λ v. v.items) xs) b w.items) c []
unfolding block_bytes
block-set xs b w c = ap (λ q. get_or q c []) (map-set (λ v. v.items) xs b w)

block-same : (xs : List Block) (b : ℕ) (w : Block) → b < length xs → block_bytes (set xs b w) b ≡ w.items
block-same xs b w below =
    block-set xs b w b ∙ get_or-set_same (map (λ v. v.items) xs) b w.items [] (omega (arith, below, length-map xs (λ v. v.items)))

block-other : (xs : List Block) (b : ℕ) (w : Block) (c : ℕ) → c ≢ b → block_bytes (set xs b w) c ≡ block_bytes xs c
unfolding block_bytes
block-other xs b w c other = block-set xs b w c ∙ get_or-set_other (map (λ v. v.items) xs) b c w.items [] other

differ : (b c : ℕ) → (b == c) ≡ false → c ≢ b
differ b c h = grind (nat_tests, arith)

pub copied-sizes : (xs : List Block) (d w : Block) (b : ℕ) → b < length xs → length w.items ≡ length (get_or xs b d).items → (c : ℕ) → length (block_bytes (set xs b w) c) ≡ length (block_bytes xs c)
copied-sizes xs d w b below same c = by (b == c) refl
  where
    by : (t : Bool) → (b == c) ≡ t → length (block_bytes (set xs b w) c) ≡ length (block_bytes xs c)
    by true e =
        let at : b ≡ c = eqb-true b c e in
        let P : ℕ → Type 0 = λ q. length (block_bytes (set xs b w) q) ≡ length (block_bytes xs q) in
        subst P at (ap length (block-same xs b w below) ∙ same ∙ sym (ap length (block-at xs b d below)))
    by false e = ap length (block-other xs b w c (differ b c e))

pub copied-lines : (e : OwnBlock) (xs : List Block) (d w : Block) (b : ℕ) → e.block ≡ b → b < length xs → ((l : ℕ) → line_of w.items l ≡ unwrap_or (line_in e b l) (line_of (get_or xs b d).items l)) → (c l : ℕ) → line_of (block_bytes (set xs b w) c) l ≡ unwrap_or (line_in e c l) (line_of (block_bytes xs c) l)
copied-lines e xs d w b named below lines c l = by (b == c) refl
  where
    by : (t : Bool) → (b == c) ≡ t → line_of (block_bytes (set xs b w) c) l ≡ unwrap_or (line_in e c l) (line_of (block_bytes xs c) l)
    by true h =
        let at : b ≡ c = eqb-true b c h in
        let P : ℕ → Type 0 = λ q. line_of (block_bytes (set xs b w) q) l ≡ unwrap_or (line_in e q l) (line_of (block_bytes xs q) l) in
        subst P at (ap (λ q. line_of q l) (block-same xs b w below) ∙ (lines l ∙ sym (ap (λ q. unwrap_or (line_in e b l) (line_of q l)) (block-at xs b d below))))
    by false h =
        ap (λ q. line_of q l) (block-other xs b w c (differ b c h))
        ∙ sym (ap (λ q. unwrap_or q (line_of (block_bytes xs c) l)) (line_in-other e c l (ap (λ q. q == c) named ∙ h)))

-- a list that is written over to its end is what was written
pub whole-again : {X : Type 0} (n : ℕ) (ws xs : List X) → length ws ≡ n → n ≡ length xs → take n (ws ++ drop (length ws) xs) ≡ ws
whole-again n ws xs same long =
    ap (λ q. take n (ws ++ q)) (drop_all (length ws) xs (omega (arith, same, long))) ∙ ap (take n) (append-nil ws) ∙ take_all n ws (omega (arith, same))

-- where each line of each block is held, the blocks into which the lines were copied are what is held
pub content-held : (o : Origin) (es : List OwnBlock) (xs : List Block) → IsSound o.sizes es → length xs ≡ o.sizes.blocks → ((b : ℕ) → b < o.sizes.blocks → HoldsBlock o (held_of es) b) → ((b l : ℕ) → IfSome (held_of es b l) (λ x. line_of (block_bytes xs b) l ≡ x)) → of_content o.sizes (map (λ v. v.items) xs) ≡ held_of es
unfolding of_content block_bytes
content-held o es xs sound count holds lines = fun_ext (λ b. fun_ext (λ l. by b l (nat_lt b (length (map (λ v. v.items) xs))) (nat_lt (l * 64) o.sizes.block_size) refl refl))
  where
    got : (x : Option (List ℕ)) (y : List ℕ) → IsSome x → IfSome x (λ z. y ≡ z) → Some y ≡ x
    got None y is e = absurd (false≢true is)
    got (Some z) y is e = ap (λ q. Some q) e

    yes : (a b : ℕ) → nat_lt a b ≡ true → a < b
    yes a b h = grind (nat_tests, arith)

    not-yes : (a b : ℕ) → nat_lt a b ≡ false → a < b → ⊥
    not-yes a b h k = grind (nat_tests, arith)

    long : length (map (λ v. v.items) xs) ≡ o.sizes.blocks
    long = length-map xs (λ v. v.items) ∙ count

    none : (b l : ℕ) → (IsSome (held_of es b l) → ⊥) → (t : Bool) → is_some (held_of es b l) ≡ t → None ≡ held_of es b l
    none b l never true h = absurd (never h)
    none b l never false h = sym (none_from (held_of es b l) h)

    by : (b l : ℕ) (s t : Bool) → nat_lt b (length (map (λ v. v.items) xs)) ≡ s → nat_lt (l * 64) o.sizes.block_size ≡ t → cond (s && t) (Some (line_of (get_or (map (λ v. v.items) xs) b []) l)) None ≡ held_of es b l
    by b l true true h k =
        let low : b < o.sizes.blocks = omega (arith, yes b (length (map (λ v. v.items) xs)) h, long) in
        got (held_of es b l) (line_of (get_or (map (λ v. v.items) xs) b []) l) ((holds b low).at l (yes (l * 64) o.sizes.block_size k)) (lines b l)
    by b l true false h k =
        none b l (λ is. not-yes (l * 64) o.sizes.block_size k (held-range o.sizes es sound.block sound.lines b l is).1) (is_some (held_of es b l)) refl
    by b l false t h k =
        none b l (λ is. (let low : b < o.sizes.blocks = (held-range o.sizes es sound.block sound.lines b l is).0 in not-yes b (length (map (λ v. v.items) xs)) h (omega (arith, low, long)))) (is_some (held_of es b l)) refl

-- all blocks have a length, block by block
pub all-sizes : (n : ℕ) (xs : List Block) → All (λ v. length v.items ≡ n) xs → (b : ℕ) → b < length xs → length (block_bytes xs b) ≡ n
unfolding block_bytes
all-sizes n xs each b below =
    All-get_or (λ q. length q ≡ n) (map (λ v. v.items) xs) b [] (omega (arith, below, length-map xs (λ v. v.items))) (All-map (λ q. length q ≡ n) (λ v. v.items) xs each)

pub sizes-all : (n : ℕ) (xs : List Block) → ((b : ℕ) → b < length xs → length (block_bytes xs b) ≡ n) → All (λ v. length v.items ≡ n) xs
unfolding block_bytes
sizes-all n xs each = λ k d below. sym (ap length (get_or-map (λ v. v.items) xs k d [] below)) ∙ each k below

pub written : (v : Block) (ws : List ℕ) → length ws ≡ length v.items → (with_items v ws).items ≡ ws
written v ws same = whole-again v.len ws v.items (omega (arith, same, v.ok.0)) (omega (arith, v.ok.0))
