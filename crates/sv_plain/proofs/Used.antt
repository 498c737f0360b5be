-- How the blocks that nodes use change with a page or a node.
use Rattle.std.proofs.Common.{◌≡◌, ◌≤◌, ℕ, ◌+◌, Bool, true, false, cond, ◌||◌, List, [], ◌∷◌, ◌++◌, map, length, sym, refl, ap, ◌∙◌, arith}
use Rattle.std.specs.List.{list_any, flat_map}
use Rattle.std.specs.declared.cmp.Ordering.TheVariants.{Less, Equal, Greater}
use Rattle.std.specs.Ordering.{eq_by_cmp, nat_cmp}
use Rattle.std.specs.Cmp.{nat_cmp_total}
use Rattle.std.specs.FinMap as fmap
use Rattle.std.specs.FinMap.{nat_cmp-IsAntisymmetric, put}
use Rattle.std.specs.FinMap.Entries.{by_order}
use Rattle.std.specs.FinSet as set
use Rattle.sv_form.specs.Pair.{pair_cmp, pair_cmp_total, pair_cmp-IsAntisymmetric}
use Rattle.sv_form.specs.Node.{Node, blocks_at, block_set, numbers_per, used}
use Rattle.sv_plain.specs.Blocks.{with_blocks}
use Rattle.sv_plain.specs.Totals.{at_or_0}
use Rattle.sv_plain.specs.Fs.{used_by_all}
use Rattle.sv_plain.proofs.Totals.{total-insert}

pub turned : (a b c : Bool) → (a || (b || c)) ≡ (b || (a || c))
turned true true c = refl
turned true false c = refl
turned false b c = refl

grouped : (a b c : Bool) → (a || (b || c)) ≡ ((a || b) || c)
grouped true b c = refl
grouped false b c = refl

doubled : (a b : Bool) → (a || b) ≡ (a || (a || b))
doubled true b = refl
doubled false b = refl

-- ---- with_blocks

pub contains-with_blocks : (s : set.FinSet pair_cmp) (bs : List (ℕ × ℕ)) (q : ℕ × ℕ) → set.contains (with_blocks s bs) q ≡ (list_any (eq_by_cmp pair_cmp q) bs || set.contains s q)
contains-with_blocks s [] q = refl
contains-with_blocks s (b ∷ bs) q =
    contains-with_blocks (set.insert s b) bs q
    ∙ ap (λ c. list_any (eq_by_cmp pair_cmp q) bs || c) (set.contains-insert pair_cmp_total s b q)
    ∙ turned (list_any (eq_by_cmp pair_cmp q) bs) (eq_by_cmp pair_cmp q b) (set.contains s q)
    ∙ grouped (eq_by_cmp pair_cmp q b) (list_any (eq_by_cmp pair_cmp q) bs) (set.contains s q)

no_items : {A : Type 0} (es : List A) → length es ≡ 0 → es ≡ []
no_items [] e = refl
no_items (e ∷ es) h = absurd (omega arith)

no_entries : (X : Type 0) → fmap.entries (fmap.empty {X = X} {R = nat_cmp}) ≡ []
no_entries X = no_items _ (sym (fmap.len-entries (fmap.empty {X = X} {R = nat_cmp})) ∙ fmap.len-empty nat_cmp X)

-- ---- the blocks of a map's pages

module _ (f : ℕ → List (ℕ × ℕ)) (t : ℕ × ℕ → Bool) where
  any-append : (xs ys : List (ℕ × ℕ)) → list_any t (xs ++ ys) ≡ (list_any t xs || list_any t ys)
  any-append [] ys = refl
  any-append (x ∷ xs) ys = ap (λ c. t x || c) (any-append xs ys) ∙ grouped (t x) (list_any t xs) (list_any t ys)

  pub any-cons : (k : ℕ) (ks : List ℕ) → list_any t (flat_map f (k ∷ ks)) ≡ (list_any t (f k) || list_any t (flat_map f ks))
  any-cons k ks = any-append (f k) (flat_map f ks)

  any-put : {X : Type 0} (k : ℕ) (v : X) (es : List (ℕ × X))
      → list_any t (flat_map f (map (λ e. e.0) (put nat_cmp k v es))) ≡ (list_any t (f k) || list_any t (flat_map f (map (λ e. e.0) es)))
  any-put k v [] = any-cons k []
  any-put k v (e ∷ es) =
      elim (nat_cmp k e.0) as (λ r. nat_cmp k e.0 ≡ r → list_any t (flat_map f (map (λ e. e.0) (by_order r ((k, v) ∷ e ∷ es) ((e.0, v) ∷ es) (e ∷ put nat_cmp k v es)))) ≡ (list_any t (f k) || list_any t (flat_map f (e.0 ∷ map (λ e. e.0) es)))) [
        | Less ↦ λ _. any-cons k (e.0 ∷ map (λ e. e.0) es)
        | Equal ↦ λ p. any-cons e.0 (map (λ e. e.0) es)
            ∙ doubled (list_any t (f e.0)) (list_any t (flat_map f (map (λ e. e.0) es)))
            ∙ ap (λ j. list_any t (f j) || (list_any t (f e.0) || list_any t (flat_map f (map (λ e. e.0) es)))) (sym (nat_cmp-IsAntisymmetric k e.0 p))
            ∙ ap (λ c. list_any t (f k) || c) (sym (any-cons e.0 (map (λ e. e.0) es)))
        | Greater ↦ λ _. any-cons e.0 _ ∙ ap (λ c. list_any t (f e.0) || c) (any-put k v es)
            ∙ turned (list_any t (f e.0)) (list_any t (f k)) (list_any t (flat_map f (map (λ e. e.0) es)))
            ∙ ap (λ c. list_any t (f k) || c) (sym (any-cons e.0 (map (λ e. e.0) es)))
      ] refl

-- the blocks with one page more
pub block_set-insert : (per : ℕ) (m : fmap.FinMap nat_cmp (List ℕ)) (k : ℕ) (v : List ℕ)
    → block_set per (fmap.keys (fmap.insert m k v)) ≡ with_blocks (block_set per (fmap.keys m)) (blocks_at per k)
unfolding block_set
block_set-insert per m k v =
    set.same_set pair_cmp_total pair_cmp-IsAntisymmetric _ _
    (λ q. set.contains-from_list pair_cmp_total _ q
    ∙ ap (λ es. list_any (eq_by_cmp pair_cmp q) (flat_map (blocks_at per) (map (λ e. e.0) es))) (fmap.entries-insert nat_cmp_total m k v)
    ∙ any-put (blocks_at per) (eq_by_cmp pair_cmp q) k v (fmap.entries m)
    ∙ ap (λ c. list_any (eq_by_cmp pair_cmp q) (blocks_at per k) || c) (sym (set.contains-from_list pair_cmp_total _ q))
    ∙ sym (contains-with_blocks _ (blocks_at per k) q))

-- no pages, no blocks
pub block_set-empty : (per : ℕ) → block_set per (fmap.keys (fmap.empty {X = List ℕ} {R = nat_cmp})) ≡ set.empty
unfolding block_set
block_set-empty per = ap (λ es. set.from_list (flat_map (blocks_at per) (map (λ e. e.0) es))) (no_entries (List ℕ))

-- some more are at least as many, and at most as many more as they are
one_more : (b : Bool) (n : ℕ) → (n ≤ cond b n (n + 1)) × (cond b n (n + 1) ≤ n + 1)
one_more true n = (omega arith, omega arith)
one_more false n = (omega arith, omega arith)

pub len-with_blocks : (s : set.FinSet pair_cmp) (bs : List (ℕ × ℕ)) → (set.len s ≤ set.len (with_blocks s bs)) × (set.len (with_blocks s bs) ≤ set.len s + length bs)
len-with_blocks s [] = (omega arith, omega arith)
len-with_blocks s (b ∷ bs) =
    let rest = len-with_blocks (set.insert s b) bs in
    let grown = set.len-insert pair_cmp_total s b in
    let here = one_more (set.contains s b) (set.len s) in
    (omega (arith, rest, grown, here), omega (arith, rest, grown, here))

-- ---- all nodes

-- a node without pages uses no block
pub used-none : (block : ℕ) (node : Node) → node.pages ≡ fmap.empty → used block node ≡ 0
unfolding used
used-none block node e = ap (λ m. set.len (block_set (numbers_per block) (fmap.keys m))) e ∙ ap set.len (block_set-empty (numbers_per block)) ∙ set.len-empty pair_cmp

pub used_by_all-insert : (block : ℕ) (nodes : fmap.FinMap nat_cmp Node) (n : ℕ) (node : Node)
    → used_by_all block (fmap.insert nodes n node) + at_or_0 (used block) (fmap.get nodes n) ≡ used_by_all block nodes + used block node
unfolding used_by_all
used_by_all-insert block nodes n node = total-insert nat_cmp_total nat_cmp-IsAntisymmetric (λ _ node. used block node) nodes n node
