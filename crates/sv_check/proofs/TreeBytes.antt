-- The bytes of a node of the tree are those that its inode's file has, and the entries of a directory are its pieces.
use Rattle.std.proofs.Common.{◌≡◌, ◌≤◌, ◌<◌, ◌+◌, ◌-◌, ◌*◌, ◌/◌, ◌%◌, ◌==◌, ◌&&◌, ◌++◌, ◌∷◌, [], ◌∙◌, ℕ, zero, suc, Bool, true, false, List, Option, Some, None, inl, inr, ap, sym, refl, cond, map, filter, find, flat_map, option_map, unwrap_or, length, replicate, take, slice_index, arith}
use Rattle.std.specs.List.{list_all, range_with_len}
use Rattle.std.specs.Ordering.{nat_cmp, eq_by_cmp}
use Rattle.std.specs.Cmp.{nat_cmp_total}
use Rattle.std.specs.FinMap as fmap
use Rattle.std.proofs.Math.Nat.{suc-mul, lt-div-mul-add}
use Rattle.std.proofs.lemmas.Nat.{div-mul-add, mod-mul-add}
use Rattle.std.proofs.lemmas.Bool.{cases_eq, eq-eqb, ne_eqb}
use Rattle.std.proofs.lemmas.List.{length-replicate, map-append}
use Rattle.std.proofs.lemmas.List.FromFn.{fill_by_all, take-map-range_with_len}
use Rattle.sv_form.specs.declared.geometry.Geometry.{Geometry}
use Rattle.sv_form.specs.Geometry.{IsGeometry}
use Rattle.sv_form.specs.Image.{block_of, inode_of}
use Rattle.sv_form.specs.Node.{Node, byte_of, bytes_of, entry_count, page_byte}
use Rattle.sv_form.specs.NodeEntries.{entry_bytes}
use Rattle.sv_plain.specs.Front.{size_of}
use Rattle.sv_plain.proofs.PagesPut.{range-append}
use Rattle.sv_check.specs.Directories.{contents, entries, page_in, pieces}
use Rattle.sv_check.specs.Loaded.{is_inside}
use Rattle.sv_check.specs.Sound.{is_page, node_of}
use Rattle.sv_check.specs.Walk.{Reached, reached}
use Rattle.sv_check.proofs.BooleanTests.{below}
use Rattle.sv_check.proofs.LoadSteps.{other_key, same_key}
use Rattle.sv_check.proofs.TreeNodes.{page_entry, page_found}
use Rattle.sv_check.proofs.WholeNodes.{length-block}

-- two tests of one equality
same_test : (k p : ℕ) → eq_by_cmp nat_cmp k p ≡ (p == k)
same_test k p =
    elim (cases_eq p k) [
      | inl e ↦ ap (eq_by_cmp nat_cmp k) e ∙ same_key k ∙ sym (eq-eqb p k e)
      | inr ne ↦ other_key k p (λ e. ne (sym e)) ∙ sym (ne_eqb p k ne)
    ]

module _ (g : Geometry) (image : List ℕ) (k : ℕ) where
  by_page : (r : Reached) (t : Bool) (rest : Option (List ℕ)) (others : Option Reached) → rest ≡ option_map (λ q. block_of g image q.block) others
      → cond t (Some (block_of g image r.block)) rest ≡ option_map (λ q. block_of g image q.block) (cond t (Some r) others)
  by_page r true rest others e = refl
  by_page r false rest others e = e

  by_height : (r : Reached) (rs : List Reached) (t : Bool) → fmap.find nat_cmp k (map (page_entry g image) (filter is_page rs)) ≡ page_in g image rs k
      → fmap.find nat_cmp k (map (page_entry g image) (cond t (r ∷ filter is_page rs) (filter is_page rs)))
      ≡ option_map (λ q. block_of g image q.block) (cond (t && (r.page == k)) (Some r) (find (λ q. (q.height == 0) && (q.page == k)) rs))
  by_height r rs false e = e
  by_height r rs true e =
      ap (λ (t : Bool). cond t (Some (block_of g image r.block)) (fmap.find nat_cmp k (map (page_entry g image) (filter is_page rs)))) (same_test k r.page)
      ∙ by_page r (r.page == k) _ (find (λ q. (q.height == 0) && (q.page == k)) rs) e

  pub found_same : (rs : List Reached) → fmap.find nat_cmp k (map (page_entry g image) (filter is_page rs)) ≡ page_in g image rs k
  found_same [] = refl
  found_same (r ∷ rs) = by_height r rs (r.height == 0) (found_same rs)

zeros_at : (n j : ℕ) → slice_index (replicate n 0) j ≡ 0
zeros_at zero j = refl
zeros_at (suc n) zero = refl
zeros_at (suc n) (suc j) = zeros_at n j

shown_byte : (n j : ℕ) (o : Option (List ℕ)) → slice_index (unwrap_or o (replicate n 0)) j ≡ page_byte o j
shown_byte n j None = zeros_at n j
shown_byte n j (Some bytes) = refl

map_shift : {X : Type 0} (f : ℕ → X) (a b n : ℕ) → map (λ j. f (a + j)) (range_with_len b n) ≡ map f (range_with_len (a + b) n)
map_shift f a b zero = refl
map_shift f a b (suc n) =
    let next : a + (b + 1) ≡ a + b + 1 = omega arith in
    ap (λ l. f (a + b) ∷ l) (map_shift f a (b + 1) n ∙ ap (λ (x : ℕ). map f (range_with_len x n)) next)

-- pieces of a range of bytes
pub pieces_of : (f : ℕ → ℕ) (n b : ℕ) → pieces n (map f (range_with_len (16 * b) (n * 16))) ≡ map (λ j. map f (range_with_len (16 * j) 16)) (range_with_len b n)
pieces_of f zero b = refl
pieces_of f (suc n) b =
    let more : suc n * 16 ≡ 16 + n * 16 = omega arith in
    let next : 16 * b + 16 ≡ 16 * (b + 1) = omega arith in
    let parts : map f (range_with_len (16 * b) (suc n * 16)) ≡ map f (range_with_len (16 * b) 16) ++ map f (range_with_len (16 * (b + 1)) (n * 16)) =
    ap (λ (x : ℕ). map f (range_with_len (16 * b) x)) more ∙ ap (map f) (range-append (16 * b) 16 (n * 16)) ∙ map-append f (range_with_len (16 * b) 16) (range_with_len (16 * b + 16) (n * 16))
    ∙ ap (λ (x : ℕ). map f (range_with_len (16 * b) 16) ++ map f (range_with_len x (n * 16))) next in
    ap (pieces (suc n)) parts ∙ ap (λ l. map f (range_with_len (16 * b) 16) ∷ l) (pieces_of f n (b + 1))

module _ (g : Geometry) (image inode : List ℕ) (sizes : IsGeometry g) (long : length image ≡ g.blocks * g.block_size) (inside : list_all (is_inside g) (reached g image inode) ≡ true) where
  abbrev node : Node
  node = node_of g image inode

  abbrev bs : ℕ
  bs = g.block_size

  abbrev byte : ℕ → ℕ
  byte = byte_of bs node

  some_bytes : 1 ≤ bs
  some_bytes = omega (arith, sizes.block_size)

  pub page_of-is : (k : ℕ) → fmap.get node.pages k ≡ page_in g image (reached g image inode) k
  unfolding node_of
  page_of-is k = fmap.get-from_entries nat_cmp_total (map (page_entry g image) (filter is_page (reached g image inode))) k ∙ found_same g image k (reached g image inode)

  abbrev page : ℕ → List ℕ
  page k = unwrap_or (page_in g image (reached g image inode) k) (replicate bs 0)

  inside-is : (r : Reached) → is_inside g r ≡ true → r.block < g.blocks
  inside-is r e = below r.block g.blocks e

  page-long : (k : ℕ) (o : Option (List ℕ)) → page_in g image (reached g image inode) k ≡ o → length (unwrap_or o (replicate bs 0)) ≡ bs
  page-long k None e = length-replicate bs 0
  page-long k (Some bytes) e =
      let f = page_found g image (is_inside g) k bytes (reached g image inode) inside (found_same g image k (reached g image inode) ∙ e) in
      ap (λ (b : List ℕ). length b) f.shown ∙ length-block g image f.reached.block sizes long (inside-is f.reached f.passes)

  byte-at : (k j : ℕ) → j < bs → slice_index (page k) j ≡ byte (k * bs + j)
  unfolding byte_of
  byte-at k j below =
      let div : (k * bs + j) / bs ≡ k = div-mul-add k bs j below in
      let rest : (k * bs + j) % bs ≡ j = mod-mul-add k bs j below in
      shown_byte bs j (page_in g image (reached g image inode) k) ∙ ap (λ (o : Option (List ℕ)). page_byte o j) (sym (page_of-is k))
      ∙ ap (λ (p : ℕ). page_byte (fmap.get node.pages p) j) (sym div) ∙ ap (page_byte (fmap.get node.pages ((k * bs + j) / bs))) (sym rest)

  page-bytes : (k : ℕ) → page k ≡ map byte (range_with_len (k * bs) bs)
  page-bytes k =
      let flat : k * bs + 0 ≡ k * bs = omega arith in
      fill_by_all (λ j. byte (k * bs + j)) (page k) bs 0 (page-long k (page_in g image (reached g image inode) k) refl) (λ j below. byte-at k j below)
      ∙ map_shift byte (k * bs) 0 bs ∙ ap (λ (x : ℕ). map byte (range_with_len x bs)) flat

  all-pages : (m a : ℕ) → flat_map page (range_with_len a m) ≡ map byte (range_with_len (a * bs) (m * bs))
  all-pages zero a =
      let none : 0 * bs ≡ 0 = omega arith in
      ap (λ (x : ℕ). map byte (range_with_len (a * bs) x)) (sym none)
  all-pages (suc m) a =
      let more : suc m * bs ≡ bs + m * bs = grind (arith, suc-mul m bs) in
      let next : (a + 1) * bs ≡ a * bs + bs = grind arith in
      ap (λ (l : List ℕ). l ++ flat_map page (range_with_len (a + 1) m)) (page-bytes a)
      ∙ ap (λ (l : List ℕ). map byte (range_with_len (a * bs) bs) ++ l) (all-pages m (a + 1) ∙ ap (λ (x : ℕ). map byte (range_with_len x (m * bs))) next)
      ∙ sym (map-append byte (range_with_len (a * bs) bs) (range_with_len (a * bs + bs) (m * bs)))
      ∙ ap (map byte) (sym (range-append (a * bs) bs (m * bs))) ∙ ap (λ (x : ℕ). map byte (range_with_len (a * bs) x)) (sym more)

  pub contents-are : contents g image inode ≡ map byte (range_with_len 0 (size_of inode))
  unfolding contents
  contents-are =
      let size : ℕ = size_of inode in
      let m : ℕ = (size + (bs - 1)) / bs in
      let none : 0 * bs ≡ 0 = omega arith in
      ap (take size) (all-pages m 0 ∙ ap (λ (x : ℕ). map byte (range_with_len x (m * bs))) none)
      ∙ take-map-range_with_len byte 0 (m * bs) size (let far : size + (bs - 1) < m * bs + bs = lt-div-mul-add some_bytes in omega (arith, far, some_bytes))

-- the entries of directory d
module _ (g : Geometry) (image : List ℕ) (d : ℕ) (sizes : IsGeometry g) (long : length image ≡ g.blocks * g.block_size) (inside : list_all (is_inside g) (reached g image (inode_of g image d)) ≡ true) where
  pub entries-are : size_of (inode_of g image d) % 16 ≡ 0
      → entries g image d ≡ map (entry_bytes g.block_size (node_of g image (inode_of g image d))) (range_with_len 0 (entry_count (node_of g image (inode_of g image d))))
  unfolding entries node_of bytes_of
  entries-are whole =
      let size : ℕ = size_of (inode_of g image d) in
      let n : ℕ = size / 16 in
      let f : ℕ → ℕ = byte_of g.block_size (node_of g image (inode_of g image d)) in
      let all : size ≡ n * 16 = omega (arith, whole) in
      ap (pieces n) (contents-are g image (inode_of g image d) sizes long inside ∙ ap (λ (x : ℕ). map f (range_with_len 0 x)) all) ∙ pieces_of f n 0
