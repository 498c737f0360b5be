-- How many blocks a node uses once a page of it was written.
use Rattle.std.proofs.Common.{◌≡◌, ℕ, ◌+◌, Bool, ◌||◌, List, [], ◌∷◌, ◌++◌, IsSome, sym, ap, ◌∙◌, arith}
use Rattle.std.specs.List.{list_any, flat_map}
use Rattle.std.specs.Ordering.{eq_by_cmp}
use Rattle.std.specs.Cmp.{nat_cmp_total}
use Rattle.std.specs.FinMap as fmap
use Rattle.std.specs.FinMap.{nat_cmp-IsAntisymmetric}
use Rattle.std.specs.FinSet as set
use Rattle.sv_form.specs.Pair.{pair_cmp, pair_cmp_total, pair_cmp-IsAntisymmetric}
use Rattle.sv_form.specs.Node.{Node, blocks_at, block_set, numbers_per, used}
use Rattle.sv_plain.specs.Blocks.{with_blocks}
use Rattle.sv_plain.specs.Needs.{blocks_added}
use Rattle.sv_plain.proofs.Undone.{insert-known}
use Rattle.sv_plain.proofs.Used.{turned, any-cons, contains-with_blocks, block_set-insert, len-with_blocks}
use Rattle.sv_plain.proofs.KeepsReferences.{some_item}

any-snoc : (f : ℕ → List (ℕ × ℕ)) (t : ℕ × ℕ → Bool) (k : ℕ) (ks : List ℕ) → list_any t (flat_map f (ks ++ k ∷ [])) ≡ (list_any t (f k) || list_any t (flat_map f ks))
any-snoc f t k [] = any-cons f t k []
any-snoc f t k (j ∷ ks) =
    any-cons f t j (ks ++ k ∷ [])
    ∙ ap (λ c. list_any t (f j) || c) (any-snoc f t k ks)
    ∙ turned (list_any t (f j)) (list_any t (f k)) (list_any t (flat_map f ks))
    ∙ ap (λ c. list_any t (f k) || c) (sym (any-cons f t j ks))

-- the blocks with one page more, which stands last
pub block_set-snoc : (per : ℕ) (ks : List ℕ) (k : ℕ) → block_set per (ks ++ k ∷ []) ≡ with_blocks (block_set per ks) (blocks_at per k)
unfolding block_set
block_set-snoc per ks k =
    set.same_set pair_cmp_total pair_cmp-IsAntisymmetric _ _
    (λ q. set.contains-from_list pair_cmp_total _ q
    ∙ any-snoc (blocks_at per) (eq_by_cmp pair_cmp q) k ks
    ∙ ap (λ c. list_any (eq_by_cmp pair_cmp q) (blocks_at per k) || c) (sym (set.contains-from_list pair_cmp_total _ q))
    ∙ sym (contains-with_blocks _ (blocks_at per k) q))

-- a page that is there already takes no block more
pub used-written : (block : ℕ) (old new : Node) (k : ℕ) (bytes : List ℕ) → new.pages ≡ fmap.insert old.pages k bytes → IsSome (fmap.get old.pages k) → used block new ≡ used block old
unfolding used
used-written block old new k bytes is there =
    let per : ℕ = numbers_per block in
    let before = some_item (fmap.get old.pages k) there in
    ap (λ m. set.len (block_set per (fmap.keys m))) is
    ∙ ap set.len (block_set-insert per old.pages k bytes ∙ sym (block_set-insert per old.pages k before.0))
    ∙ ap (λ m. set.len (block_set per (fmap.keys m))) (insert-known nat_cmp_total nat_cmp-IsAntisymmetric old.pages k before.0 before.1)

-- a page takes what it adds
pub used-added : (block : ℕ) (old new : Node) (k : ℕ) (bytes : List ℕ) → new.pages ≡ fmap.insert old.pages k bytes → used block new ≡ used block old + blocks_added block old (k ∷ [])
unfolding used blocks_added
used-added block old new k bytes is =
    let per : ℕ = numbers_per block in
    let before : set.FinSet pair_cmp = block_set per (fmap.keys old.pages) in
    let grown = len-with_blocks before (blocks_at per k) in
    let more : set.len (block_set per (fmap.keys old.pages ++ k ∷ [])) ≡ set.len (with_blocks before (blocks_at per k)) = ap set.len (block_set-snoc per (fmap.keys old.pages) k) in
    let now : set.len (block_set per (fmap.keys new.pages)) ≡ set.len (with_blocks before (blocks_at per k)) =
    ap (λ m. set.len (block_set per (fmap.keys m))) is ∙ ap set.len (block_set-insert per old.pages k bytes) in
    omega (arith, grown.0, more, now)
