-- The bytes of a file in the tree are those of its pages where they stand in the image.
use Rattle.std.proofs.Common.{◌≡◌, ◌≢◌, ◌||◌, IsSomeAnd, ◌≤◌, ◌<◌, ◌+◌, ◌==◌, ◌/◌, ◌%◌, ◌++◌, ◌∷◌, [], ◌⊎◌, ◌∙◌, ℕ, zero, suc, Bool, not, true, false, List, Option, Some, None, ap, refl, sym, subst, inl, inr, cond, if◌then◌else◌, find, filter, option_map, unwrap_or, map, arith}
use Rattle.std.specs.List.{range_with_len, list_all}
use Rattle.std.specs.Ordering.{nat_cmp, eq_by_cmp, is_eq}
use Rattle.std.specs.Cmp.{nat_cmp_total, tied_itself, Equal-is}
use Rattle.std.specs.FinMap as fmap
use Rattle.std.specs.FinMap.{nat_cmp-IsAntisymmetric}
use Rattle.std.proofs.Math.Path.{fun_ext}
use Rattle.std.proofs.lemmas.Bool.{cases_eq, cases_lt, eq-eqb, eqb-true, false≢true}
use Rattle.sv_form.specs.declared.geometry.Geometry.{Geometry}
use Rattle.sv_form.specs.declared.kind.Kind.TheVariants.{File, Dir}
use Rattle.sv_form.specs.Geometry.{IsGeometry, IsNumber, inode_count}
use Rattle.sv_form.specs.Image.{block_of, geometry_of, inode_of}
use Rattle.sv_form.specs.Node as node
use Rattle.sv_form.specs.Node.{Node, byte_of, bytes_of, is_dir}
use Rattle.sv_plain.specs.Front.{page_byte, file_byte, file_bytes, size_of}
use Rattle.sv_check.specs.declared.sound.met.Met.{Met}
use Rattle.sv_check.specs.declared.pages.PageBlock.{PageBlock}
use Rattle.sv_check.specs.FilePages.{IsFileSize, ShowsFile, block_at, file_of, file_pages, regular, text_of}
use Rattle.sv_check.specs.InodeList.{is_directory, is_free, used_inodes}
use Rattle.sv_check.specs.Pages.{has_number, pages_among}
use Rattle.sv_check.specs.Sound.{IsSound, is_page, node_of, tree}
use Rattle.sv_check.specs.Progress.{met_at}
use Rattle.sv_check.specs.Walk.{Reached, is_data_block, met_of, nothing_met, reached}
use Rattle.sv_check.proofs.FileBlocks.{data_of}
use Rattle.sv_check.proofs.FileWalks.{all_data, no_bad_here}
use Rattle.sv_check.proofs.InodeReads.{and_first, and_second}
use Rattle.sv_check.proofs.SoundParts.{AreMet, are_met}

-- ---- keys

by_test : (j k : ℕ) (t : Bool) → eq_by_cmp nat_cmp j k ≡ t → (u : Bool) → (k == j) ≡ u → t ≡ u
by_test j k true tied true so = refl
by_test j k false tied false so = refl
by_test j k true tied false so =
    let e : j ≡ k = nat_cmp-IsAntisymmetric j k ((Equal-is (nat_cmp j k)).0 tied) in
    absurd (false≢true (sym so ∙ eq-eqb k j (sym e)))
by_test j k false tied true so =
    let e : k ≡ j = eqb-true k j so in
    let same : eq_by_cmp nat_cmp j j ≡ true = ap is_eq (tied_itself nat_cmp_total j) in
    absurd (false≢true (sym tied ∙ ap (eq_by_cmp nat_cmp j) e ∙ same))

tie : (j k : ℕ) → eq_by_cmp nat_cmp j k ≡ (k == j)
tie j k = by_test j k (eq_by_cmp nat_cmp j k) refl (k == j) refl

-- ---- the nodes of the tree

module _ (g : Geometry) (image : List ℕ) where
  abbrev node_at : ℕ → Node
  node_at n = node_of g image (inode_of g image n)

  abbrev is_used : ℕ → Bool
  is_used n = not (is_free (inode_of g image n))

  abbrev nodes : List ℕ → List (ℕ × Node)
  nodes ns = map (λ n. (n, node_at n)) ns

  here_or_later : (a k : ℕ) (t : Bool) (rest : List ℕ) → cond t (fmap.find nat_cmp k (nodes (a ∷ rest))) (fmap.find nat_cmp k (nodes rest)) ≡ fmap.find nat_cmp k (nodes (cond t (a ∷ rest) rest))
  here_or_later a k true rest = refl
  here_or_later a k false rest = refl

  -- no node has a number outside of these
  below_all : (n a k : ℕ) → k < a → fmap.find nat_cmp k (nodes (filter is_used (range_with_len a n))) ≡ None
  below_all zero a k low = refl
  below_all (suc n) a k low =
      sym (here_or_later a k (is_used a) (filter is_used (range_with_len (a + 1) n)))
      ∙ not_first (is_used a) (tie k a ∙ not_same) (below_all n (a + 1) k (omega (arith, low))) where
        not_same : (a == k) ≡ false
        not_same = grind (arith, low)

        not_first : (t : Bool) → eq_by_cmp nat_cmp k a ≡ false → fmap.find nat_cmp k (nodes (filter is_used (range_with_len (a + 1) n))) ≡ None
            → cond t (fmap.find nat_cmp k (nodes (a ∷ filter is_used (range_with_len (a + 1) n)))) (fmap.find nat_cmp k (nodes (filter is_used (range_with_len (a + 1) n)))) ≡ None
        not_first false other rest = rest
        not_first true other rest = ap (λ (t : Bool). cond t (Some (node_at a)) (fmap.find nat_cmp k (nodes (filter is_used (range_with_len (a + 1) n))))) other ∙ rest

  above_all : (n a k : ℕ) → a + n ≤ k → fmap.find nat_cmp k (nodes (filter is_used (range_with_len a n))) ≡ None
  above_all zero a k high = refl
  above_all (suc n) a k high = by_use (is_used a) (tie k a ∙ not_same) (above_all n (a + 1) k (omega (arith, high))) where
    not_same : (a == k) ≡ false
    not_same = grind (arith, high)

    by_use : (t : Bool) → eq_by_cmp nat_cmp k a ≡ false → fmap.find nat_cmp k (nodes (filter is_used (range_with_len (a + 1) n))) ≡ None
        → fmap.find nat_cmp k (nodes (cond t (a ∷ filter is_used (range_with_len (a + 1) n)) (filter is_used (range_with_len (a + 1) n)))) ≡ None
    by_use false other rest = rest
    by_use true other rest = ap (λ (t : Bool). cond t (Some (node_at a)) (fmap.find nat_cmp k (nodes (filter is_used (range_with_len (a + 1) n))))) other ∙ rest

  use_first : (n a k : ℕ) (t : Bool) → is_used a ≡ t
      → (a + 1 ≤ k → fmap.find nat_cmp k (nodes (filter is_used (range_with_len (a + 1) n))) ≡ (if is_used k then Some (node_at k) else None)) → a ≤ k → (a ≡ k) ⊎ (a ≡ k → ⊥)
      → fmap.find nat_cmp k (nodes (cond t (a ∷ filter is_used (range_with_len (a + 1) n)) (filter is_used (range_with_len (a + 1) n)))) ≡ (if is_used k then Some (node_at k) else None)
  use_first n a k false is later low (inl e) =
      let free : is_used k ≡ false = ap is_used (sym e) ∙ is in
      below_all n (a + 1) k (omega (arith, e)) ∙ sym (ap (λ (t : Bool). if t then Some (node_at k) else None) free)
  use_first n a k false is later low (inr other) = later (omega (arith, low, other))
  use_first n a k true is later low (inl e) =
      let used : is_used k ≡ true = ap is_used (sym e) ∙ is in
      ap (λ (t : Bool). cond t (Some (node_at a)) (fmap.find nat_cmp k (nodes (filter is_used (range_with_len (a + 1) n))))) (tie k a ∙ eq-eqb a k e)
      ∙ ap (λ (x : ℕ). Some (node_at x)) e ∙ sym (ap (λ (t : Bool). if t then Some (node_at k) else None) used)
  use_first n a k true is later low (inr other) =
      let not_same : (a == k) ≡ false = grind (arith, other) in
      ap (λ (t : Bool). cond t (Some (node_at a)) (fmap.find nat_cmp k (nodes (filter is_used (range_with_len (a + 1) n))))) (tie k a ∙ not_same) ∙ later (omega (arith, low, other))

  within : (n a k : ℕ) → a ≤ k → k < a + n → fmap.find nat_cmp k (nodes (filter is_used (range_with_len a n))) ≡ (if is_used k then Some (node_at k) else None)
  within zero a k low high = absurd (omega (arith, low, high))
  within (suc n) a k low high = use_first n a k (is_used a) refl (λ more. within n (a + 1) k more (omega (arith, high))) low (cases_eq a k)

-- ---- the pages of a node

module _ (g : Geometry) (image : List ℕ) where
  abbrev page_of : Reached → ℕ × List ℕ
  page_of r = (r.page, block_of g image r.block)

  abbrev byte_in : Option (List ℕ) → ℕ → ℕ
  byte_in page r = node.page_byte page r

  one_page : (j r b page : ℕ) (rest : Option (List ℕ)) (more : Option PageBlock) (t : Bool) → eq_by_cmp nat_cmp j page ≡ t → (page == j) ≡ t → b ≢ 0
      → byte_in rest r ≡ page_byte g image (unwrap_or (option_map (λ p. p.block) more) 0) r
      → byte_in (cond (eq_by_cmp nat_cmp j page) (Some (block_of g image b)) rest) r
      ≡ page_byte g image (unwrap_or (option_map (λ p. p.block) (cond (page == j) (Some (record { page = page; block = b })) more)) 0) r
  unfolding page_byte
  one_page j r b page rest more t tied so some same =
      ap (λ (u : Bool). byte_in (cond u (Some (block_of g image b)) rest) r) tied ∙ by_tie t
      ∙ sym (ap (λ (u : Bool). page_byte g image (unwrap_or (option_map (λ p. p.block) (cond u (Some (record { page = page; block = b })) more)) 0) r) so) where
        by_tie : (u : Bool) → byte_in (cond u (Some (block_of g image b)) rest) r ≡ page_byte g image (unwrap_or (option_map (λ p. p.block) (cond u (Some (record { page = page; block = b })) more)) 0) r
        by_tie true = grind (arith, some)
        by_tie false = same

  abbrev Alike : List (ℕ × List ℕ) → List PageBlock → ℕ → ℕ → Type 0
  Alike entries pages j r = byte_in (fmap.find nat_cmp j entries) r ≡ page_byte g image (block_at pages j) r

  module _ (sizes : IsGeometry g) (n : ℕ) where
    not_zero : (b : ℕ) → is_data_block g b ≡ true → b ≢ 0
    not_zero b is e =
        let least = data_of g b is in
        omega (arith, least.least, sizes.least_first, e)

    one_block : (x : Reached) (rs : List Reached) (j r : ℕ) → is_data_block g x.block ≡ true → Alike (map page_of (filter is_page rs)) (pages_among rs) j r → (t : Bool)
        → Alike (map page_of (cond t (x ∷ filter is_page rs) (filter is_page rs))) ((if t then record { page = x.page; block = x.block } ∷ [] else []) ++ pages_among rs) j r
    one_block x rs j r inside same false = same
    one_block x rs j r inside same true =
        one_page j r x.block x.page (fmap.find nat_cmp j (map page_of (filter is_page rs))) (find (has_number j) (pages_among rs)) (x.page == j) (tie j x.page) refl (not_zero x.block inside) same

    pages_alike : (rs : List Reached) → list_all (λ m. is_data_block g m.block) (met_at n rs) ≡ true → (j r : ℕ) → Alike (map page_of (filter is_page rs)) (pages_among rs) j r
    unfolding page_byte
    pages_alike [] all j r = refl
    pages_alike (x ∷ rs) all j r =
        one_block x rs j r (and_first (is_data_block g x.block) (list_all (λ (m : Met). is_data_block g m.block) (met_at n rs)) all)
        (pages_alike rs (and_second (is_data_block g x.block) (list_all (λ (m : Met). is_data_block g m.block) (met_at n rs)) all) j r) (x.height == 0)

    -- the bytes of the node are those of its pages
    pub node_bytes : list_all (λ m. is_data_block g m.block) (met_at n (reached g image (inode_of g image n))) ≡ true
        → bytes_of g.block_size (node_of g image (inode_of g image n)) 0 (size_of (inode_of g image n))
        ≡ file_bytes g image (block_at (file_pages g image n)) (size_of (inode_of g image n))
    unfolding bytes_of byte_of file_bytes file_byte node_of
    node_bytes all =
        let inode : List ℕ = inode_of g image n in
        let entries : List (ℕ × List ℕ) = map page_of (filter is_page (reached g image inode)) in
        let same : (k : ℕ) → byte_of g.block_size (node_of g image inode) k ≡ file_byte g image (block_at (file_pages g image n)) k =
        λ k. ap (λ (o : Option (List ℕ)). byte_in o (k % g.block_size)) (fmap.get-from_entries nat_cmp_total entries (k / g.block_size))
        ∙ pages_alike (reached g image inode) all (k / g.block_size) (k % g.block_size) in
        ap (λ (f : ℕ → ℕ). map f (range_with_len 0 (size_of inode))) (fun_ext same)

-- ---- the file that a number names

module _ (image : List ℕ) where
  abbrev g : Geometry
  g = geometry_of image

  tree-get : (n : ℕ) → fmap.get (tree image) n ≡ fmap.find nat_cmp n (nodes g image (used_inodes g image))
  unfolding tree
  tree-get n = fmap.get-from_entries nat_cmp_total (nodes g image (used_inodes g image)) n

  pub no_number : (n : ℕ) → (IsNumber g n → ⊥) → file_of image n ≡ None
  unfolding used_inodes
  no_number n never =
      elim (cases_lt n 1) as (λ _. file_of image n ≡ None) [
        | inl below ↦ ap regular (tree-get n ∙ below_all g image (inode_count g) 1 n below)
        | inr least ↦ elim (cases_lt n (1 + inode_count g)) as (λ _. file_of image n ≡ None) [
          | inl most ↦ absurd (never (record { least = omega (arith, least); most = omega (arith, most) }))
          | inr above ↦ ap regular (tree-get n ∙ above_all g image (inode_count g) 1 n (omega (arith, above)))
        ]
      ]

  known : (n : ℕ) → IsNumber g n → fmap.get (tree image) n ≡ (if is_used g image n then Some (node_at g image n) else None)
  unfolding used_inodes
  known n is = tree-get n ∙ within g image (inode_count g) 1 n is.least (omega (arith, is.most))

  pub free_number : (n : ℕ) → IsNumber g n → is_free (inode_of g image n) ≡ true → file_of image n ≡ None
  free_number n is free = ap regular (known n is ∙ ap (λ (t : Bool). if not t then Some (node_at g image n) else None) free)

  kind_here : (n : ℕ) (t : Bool) → is_directory (inode_of g image n) ≡ t → is_dir (node_at g image n).kind ≡ t
  unfolding node_of
  kind_here n true is = ap (λ (t : Bool). is_dir (if t then Dir else File)) is
  kind_here n false is = ap (λ (t : Bool). is_dir (if t then Dir else File)) is

  used_here : (n : ℕ) → IsNumber g n → is_free (inode_of g image n) ≡ false → fmap.get (tree image) n ≡ Some (node_at g image n)
  used_here n is used = known n is ∙ ap (λ (t : Bool). if not t then Some (node_at g image n) else None) used

  pub directory_number : (n : ℕ) → IsNumber g n → is_free (inode_of g image n) ≡ false → is_directory (inode_of g image n) ≡ true → file_of image n ≡ None
  directory_number n is used dir = ap regular (used_here n is used) ∙ ap (λ (t : Bool). if t then None else Some (node_at g image n)) (kind_here n true dir)

  pub file_number : (n : ℕ) → IsNumber g n → is_free (inode_of g image n) ≡ false → is_directory (inode_of g image n) ≡ false → file_of image n ≡ Some (node_at g image n)
  file_number n is used dir = ap regular (used_here n is used) ∙ ap (λ (t : Bool). if t then None else Some (node_at g image n)) (kind_here n false dir)

  -- the size that stands in the inode's bytes, or none
  pub file_size_is : (n : ℕ) → IsNumber g n → (size : Option ℕ) → ShowsFile (inode_of g image n) size → IsFileSize image n size
  file_size_is n is None shows = by_use (is_free (inode_of g image n)) refl shows where
    by_use : (t : Bool) → is_free (inode_of g image n) ≡ t → (t || is_directory (inode_of g image n)) ≡ true → file_of image n ≡ None
    by_use true free dir = free_number n is free
    by_use false used dir = directory_number n is used dir
  file_size_is n is (Some size) shows = shows

  module _ (sound : IsSound image) (n : ℕ) (is : IsNumber g n) (used : is_free (inode_of g image n) ≡ false) where
    in_data : list_all (λ m. is_data_block g m.block) (met_at n (reached g image (inode_of g image n))) ≡ true
    in_data =
        let w : AreMet g image = are_met image sound in
        all_data g nothing_met (met_of g image n) (no_bad_here g image w.size w.range w.twice n is.least (omega (arith, is.most)) used)

    size_here : (node_at g image n).size ≡ size_of (inode_of g image n)
    unfolding node_of
    size_here = refl

    -- the bytes of the file are those of its pages
    pub file_text : IsGeometry g → is_directory (inode_of g image n) ≡ false
        → IsSomeAnd (file_of image n) (λ node. text_of image node ≡ file_bytes g image (block_at (file_pages g image n)) (size_of (inode_of g image n)))
    file_text sizes dir =
        let same : text_of image (node_at g image n) ≡ file_bytes g image (block_at (file_pages g image n)) (size_of (inode_of g image n)) =
        ap (bytes_of g.block_size (node_at g image n) 0) size_here ∙ node_bytes g image sizes n in_data in
        subst (λ (o : Option Node). IsSomeAnd o (λ node. text_of image node ≡ file_bytes g image (block_at (file_pages g image n)) (size_of (inode_of g image n))))
        (sym (file_number n is used dir)) same
