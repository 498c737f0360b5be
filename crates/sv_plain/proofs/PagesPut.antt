-- The pages of a node once bytes were put into it, and the blocks that it uses then.
use Rattle.std.proofs.Common.{◌≡◌, ◌≢◌, ◌≤◌, ◌<◌, ℕ, zero, suc, ◌+◌, ◌-◌, ◌*◌, ◌/◌, ◌⊎◌, inl, inr, Bool, true, false, ◌||◌, ◌&&◌, List, [], ◌∷◌, ◌++◌, length, max, slice_index, Some, nat_le, nat_lt, if◌then◌else◌, sym, refl, ap, subst, ◌∙◌, arith}
use Rattle.std.proofs.lemmas.Bool.{cases_lt, cases_eq, eq-eqb, ne_eqb}
use Rattle.std.proofs.lemmas.Nat.{le-div}
use Rattle.std.proofs.lemmas.List.{append-nil, append_assoc, get_or_past}
use Rattle.std.proofs.lemmas.List.FromFn.{get_or-map-range_with_len, length-map-range_with_len}
use Rattle.std.proofs.Math.Nat.{div-mul-le_self, le-div_iff_mul-le}
use Rattle.std.specs.List.{list_any, flat_map, range_with_len}
use Rattle.std.specs.Ordering.{nat_cmp, eq_by_cmp}
use Rattle.std.specs.Cmp.{nat_cmp_total}
use Rattle.std.specs.FinMap as fmap
use Rattle.std.specs.FinMap.{nat_cmp-IsAntisymmetric}
use Rattle.std.specs.FinSet as set
use Rattle.sv_form.specs.Pair.{pair_cmp, pair_cmp_total, pair_cmp-IsAntisymmetric}
use Rattle.sv_form.specs.Node.{Node, byte_of, blocks_at, block_set, numbers_per, used}
use Rattle.sv_plain.specs.Blocks.{with_blocks}
use Rattle.sv_plain.specs.Whole.{IsPage, IsNode}
use Rattle.sv_form.specs.NodeChanges.{touched, page_after, with_pages, put}
use Rattle.sv_plain.specs.Needs.{blocks_added, range_need}
use Rattle.sv_plain.proofs.Got.{got}
use Rattle.sv_plain.proofs.Used.{turned, any-cons, contains-with_blocks, block_set-insert, len-with_blocks}
use Rattle.sv_plain.proofs.EntryPut.{outside}
use Rattle.sv_plain.proofs.DirectoryPut.{past_size}

-- ---- blocks

any-between : (f : ℕ → List (ℕ × ℕ)) (t : ℕ × ℕ → Bool) (ks : List ℕ) (k : ℕ) (ps : List ℕ) → list_any t (flat_map f (ks ++ k ∷ ps)) ≡ (list_any t (f k) || list_any t (flat_map f (ks ++ ps)))
any-between f t [] k ps = any-cons f t k ps
any-between f t (j ∷ ks) k ps =
    any-cons f t j (ks ++ k ∷ ps)
    ∙ ap (λ c. list_any t (f j) || c) (any-between f t ks k ps)
    ∙ turned (list_any t (f j)) (list_any t (f k)) (list_any t (flat_map f (ks ++ ps)))
    ∙ ap (λ c. list_any t (f k) || c) (sym (any-cons f t j (ks ++ ps)))

-- the blocks with one page more, which stands between others
block_set-between : (per : ℕ) (ks : List ℕ) (k : ℕ) (ps : List ℕ) → block_set per (ks ++ k ∷ ps) ≡ with_blocks (block_set per (ks ++ ps)) (blocks_at per k)
unfolding block_set
block_set-between per ks k ps =
    set.same_set pair_cmp_total pair_cmp-IsAntisymmetric _ _
    (λ q. set.contains-from_list pair_cmp_total _ q
    ∙ any-between (blocks_at per) (eq_by_cmp pair_cmp q) ks k ps
    ∙ ap (λ c. list_any (eq_by_cmp pair_cmp q) (blocks_at per k) || c) (sym (set.contains-from_list pair_cmp_total _ q))
    ∙ sym (contains-with_blocks _ (blocks_at per k) q))

-- the blocks of the pages that were there and of those that were written
pub block_set-with_pages : (per : ℕ) (pages : fmap.FinMap nat_cmp (List ℕ)) (f : ℕ → List ℕ) (ps : List ℕ) → block_set per (fmap.keys (with_pages pages f ps)) ≡ block_set per (fmap.keys pages ++ ps)
block_set-with_pages per pages f [] = ap (block_set per) (sym (append-nil (fmap.keys pages)))
block_set-with_pages per pages f (p ∷ ps) =
    block_set-insert per (with_pages pages f ps) p (f p)
    ∙ ap (λ s. with_blocks s (blocks_at per p)) (block_set-with_pages per pages f ps)
    ∙ sym (block_set-between per (fmap.keys pages) p ps)

-- more pages have no fewer blocks
more_blocks : (per : ℕ) (ks ps : List ℕ) → set.len (block_set per ks) ≤ set.len (block_set per (ks ++ ps))
more_blocks per ks [] = (let same : set.len (block_set per (ks ++ [])) ≡ set.len (block_set per ks) = ap (λ l. set.len (block_set per l)) (append-nil ks) in omega (arith, same))
more_blocks per ks (p ∷ ps) =
    let grown = len-with_blocks (block_set per (ks ++ ps)) (blocks_at per p) in
    let same : set.len (block_set per (ks ++ p ∷ ps)) ≡ set.len (with_blocks (block_set per (ks ++ ps)) (blocks_at per p)) = ap set.len (block_set-between per ks p ps) in
    omega (arith, grown.0, same, more_blocks per ks ps)

-- a node takes for these bytes what a write of so many needs
pub used-put : (block at : ℕ) (node : Node) (bytes : List ℕ) → used block (put block node at bytes) ≡ used block node + range_need block node at (length bytes)
unfolding used blocks_added put
used-put block at node bytes =
    let per : ℕ = numbers_per block in
    let ps : List ℕ = touched block at (length bytes) in
    let now : set.len (block_set per (fmap.keys (with_pages node.pages (page_after block node at bytes) ps))) ≡ set.len (block_set per (fmap.keys node.pages ++ ps)) =
    ap set.len (block_set-with_pages per node.pages (page_after block node at bytes) ps) in
    omega (arith, now, more_blocks per (fmap.keys node.pages) ps)

pub range-append : (a m n : ℕ) → range_with_len a (m + n) ≡ range_with_len a m ++ range_with_len (a + m) n
range-append a zero n =
    let none : zero + n ≡ n = omega arith in
    let here : a + zero ≡ a = omega arith in
    ap (range_with_len a) none ∙ ap (λ k. range_with_len k n) (sym here)
range-append a (suc m) n =
    let more : suc m + n ≡ suc (m + n) = omega arith in
    ap (range_with_len a) more ∙ ap (λ l. a ∷ l) (range-append (a + 1) m n ∙ ap (λ k. range_with_len (a + 1) m ++ range_with_len k n) (omega arith))

pub later_page : (block a b : ℕ) → 1 ≤ block → a ≤ b → a / block ≤ b / block
later_page block a b some h = le-div (a / block) b block some (let low = div-mul-le_self a block in omega (arith, low, h))

pub touched-some : (block at n : ℕ) → n ≢ 0 → touched block at n ≡ range_with_len (at / block) ((at + n - 1) / block - at / block + 1)
touched-some block at n some = ap (λ t. if t then [] else range_with_len (at / block) ((at + n - 1) / block - at / block + 1)) (ne_eqb n 0 some)

-- the pages of the first bytes come first
touched-more : (block at k n : ℕ) → 1 ≤ block → k ≤ n → (ps : List ℕ) × (touched block at n ≡ touched block at k ++ ps)
touched-more block at k n some h =
    elim (cases_eq k 0) [
      | inl none ↦ (touched block at n, ap (λ c. touched block at c ++ touched block at n) (sym none))
      | inr bytes ↦
          (let a : ℕ = at / block in
          let b : ℕ = (at + k - 1) / block in
          let c : ℕ = (at + n - 1) / block in
          let order : b ≤ c = later_page block (at + k - 1) (at + n - 1) some (omega (arith, h)) in
          let count : c - a + 1 ≡ b - a + 1 + (c - a - (b - a)) = omega (arith, order) in
          let all = touched-some block at n (λ s. bytes (omega (arith, s, h))) in (
            range_with_len (a + (b - a + 1)) (c - a - (b - a)),
            all ∙ ap (range_with_len a) count ∙ range-append a (b - a + 1) (c - a - (b - a)) ∙ ap (λ l. l ++ range_with_len (a + (b - a + 1)) (c - a - (b - a))) (sym (touched-some block at k bytes)),
          ))
    ]

-- fewer bytes need no more
pub need-fewer : (block at k n : ℕ) (node : Node) → 1 ≤ block → k ≤ n → range_need block node at k ≤ range_need block node at n
unfolding blocks_added
need-fewer block at k n node some h =
    let per : ℕ = numbers_per block in
    let keys : List ℕ = fmap.keys node.pages in
    let rest = touched-more block at k n some h in
    let all : set.len (block_set per (keys ++ touched block at n)) ≡ set.len (block_set per (keys ++ touched block at k ++ rest.0)) =
    ap (λ l. set.len (block_set per l)) (ap (λ l. keys ++ l) rest.1 ∙ sym (append_assoc keys (touched block at k) rest.0)) in
    omega (arith, all, more_blocks per (keys ++ touched block at k) rest.0)

-- ---- pages

-- a page of the range was written, another one was there
pages-range : (pages : fmap.FinMap nat_cmp (List ℕ)) (f : ℕ → List ℕ) (a n k : ℕ) (v : List ℕ) → fmap.get (with_pages pages f (range_with_len a n)) k ≡ Some v
    → ((k < a + n) × (a ≤ k) × (v ≡ f k)) ⊎ (fmap.get pages k ≡ Some v)
pages-range pages f a zero k v e = inr e
pages-range pages f a (suc n) k v e =
    elim (got nat_cmp_total nat_cmp-IsAntisymmetric (with_pages pages f (range_with_len (a + 1) n)) a (f a) k v e) [
      | inl h ↦ (let is = h.0 in inl (omega (arith, is), omega (arith, is), h.1 ∙ ap f (sym is)))
      | inr h ↦ elim (pages-range pages f (a + 1) n k v h) [
        | inl there ↦ (let high = there.0 in let low = there.1 in inl (omega (arith, high), omega (arith, low), there.2))
        | inr was ↦ inr was
      ]
    ]

module _ (block greatest inodes i : ℕ) (node : Node) (at : ℕ) (bytes : List ℕ) (some : 1 ≤ block) (n : IsNode block greatest inodes i node) where
  abbrev size : ℕ
  size = max node.size (at + length bytes)

  abbrev byte_at : ℕ → ℕ
  byte_at k = if nat_le at k && nat_lt k (at + length bytes) then slice_index bytes (k - at) else byte_of block node k

  -- a page that begins before the bytes end
  page-fits : (k : ℕ) → k * block < at + length bytes → IsPage block size k (page_after block node at bytes k)
  page-fits k begins = record {
    whole = length-map-range_with_len byte_at (k * block) block;
    within = omega (arith, begins);
    tail = λ r far. elim (cases_lt r block) [
      | inl inside ↦ get_or-map-range_with_len byte_at (k * block) block r (k * block + r) 0 inside refl
          ∙ ap (λ t. if t then slice_index bytes (k * block + r - at) else byte_of block node (k * block + r))
          (outside at (k * block + r) (length bytes) (inr (omega (arith, far))))
          ∙ past_size block greatest inodes i node n (k * block + r) (omega (arith, far))
      | inr past ↦ get_or_past (page_after block node at bytes k) r 0 (let e = length-map-range_with_len byte_at (k * block) block in omega (arith, e, past))
    ];
  }

  begins-before : (k : ℕ) → length bytes ≢ 0 → k < at / block + ((at + length bytes - 1) / block - at / block + 1) → k * block < at + length bytes
  begins-before k long high =
      let order = later_page block at (at + length bytes - 1) some (omega (arith, long)) in
      let low : k ≤ (at + length bytes - 1) / block = omega (arith, high, order) in
      let begins : k * block ≤ at + length bytes - 1 = (le-div_iff_mul-le some).0 low in
      omega (arith, begins, long)

  -- the node with these bytes, by whether there are none
  abbrev with : Bool → Node
  with none = record node {
    pages = with_pages node.pages (page_after block node at bytes) (if none then [] else range_with_len (at / block) ((at + length bytes - 1) / block - at / block + 1));
    size = if none then node.size else max node.size (at + length bytes);
  }

  some-node : length bytes ≢ 0 → at + length bytes ≤ greatest → IsNode block greatest inodes i (with false)
  some-node long fits = record {
    least = n.least;
    most = n.most;
    mode = n.mode;
    size = omega (arith, n.size, fits);
    pages = λ k page e. elim (pages-range node.pages (page_after block node at bytes) (at / block) ((at + length bytes - 1) / block - at / block + 1) k page e) [
      | inl h ↦ subst (λ (p : List ℕ). IsPage block size k p) (sym h.2) (page-fits k (begins-before k long h.0))
      | inr h ↦
          (let before = n.pages k page h in
          record {
            whole = before.whole;
            within = omega (arith, before.within);
            tail = λ r far. before.tail r (omega (arith, far));
          })
    ];
  }

  none-node : IsNode block greatest inodes i (with true)
  none-node = record { least = n.least; most = n.most; mode = n.mode; size = n.size; pages = n.pages }

  -- a node stays one once bytes were put into it that end at the greatest size at most
  pub node-put : at + length bytes ≤ greatest → IsNode block greatest inodes i (put block node at bytes)
  unfolding put
  node-put fits =
      elim (cases_eq (length bytes) 0) [
        | inl none ↦ subst (λ (t : Bool). IsNode block greatest inodes i (with t)) (sym (eq-eqb (length bytes) 0 none)) none-node
        | inr long ↦ subst (λ (t : Bool). IsNode block greatest inodes i (with t)) (sym (ne_eqb (length bytes) 0 long)) (some-node long fits)
      ]
