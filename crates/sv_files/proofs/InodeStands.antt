-- A used inode of an image stands for its node of the tree.
use Rattle.std.proofs.Common.{◌≡◌, ◌≢◌, ◌≤◌, ◌<◌, ◌+◌, ◌-◌, ◌*◌, ◌%◌, ◌==◌, ℕ, zero, suc, Bool, true, false, not, List, ◌∷◌, inl, inr}
use Rattle.std.proofs.Common.{Option, Some, None, IsSome, find, filter, length, map, nat_le, option_map, slice_index, cond, arith, ap, refl}
use Rattle.std.proofs.Common.{sym, subst, ◌∙◌}
use Rattle.std.specs.List.{list_any, range_with_len}
use Rattle.std.specs.Cmp.{nat_cmp_total}
use Rattle.std.specs.FinMap as fmap
use Rattle.std.proofs.lemmas.Bool.{cases_eq, eq-eqb, eqb-true, false≢true, ne_eqb}
use Rattle.sv_form.specs.declared.geometry.Geometry.{Geometry}
use Rattle.sv_form.specs.declared.inode.DiskInode.TheVariants.{Used}
use Rattle.sv_form.specs.declared.inode.InodeBody.{InodeBody}
use Rattle.sv_form.specs.declared.kind.Kind.TheVariants.{File, Dir}
use Rattle.sv_form.specs.declared.page_path.PagePath.{PagePath}
use Rattle.sv_form.specs.Geometry.{IsDataBlock, IsGeometry, inode_count}
use Rattle.sv_form.specs.Image.{block_of, geometry_of, inode_of}
use Rattle.sv_form.specs.Inode.{IsBody, IsInode}
use Rattle.sv_form.specs.Node.{kind_back}
use Rattle.sv_form.specs.Number.{number16}
use Rattle.sv_form.specs.AddressTree as tree
use Rattle.sv_form.specs.AddressTree.{Reached}
use Rattle.sv_form.specs.PagePath.{IsPath, IsSpot, block_numbers, first_page, height_of, page_limit, page_of, places_of, slot_of}
use Rattle.sv_plain.specs.Front.{address_of, size_of}
use Rattle.sv_check.specs.Blocks.{ShowsBody}
use Rattle.sv_check.specs.InodeList.{is_free, used_inodes}
use Rattle.sv_check.specs.PastSize.{is_past, past_size_flaw, some_reached}
use Rattle.sv_check.specs.Sound.{IsWalked, is_page, node_of}
use Rattle.sv_check.specs.Walk.{number_in as image_number}
use Rattle.sv_check.specs.Walk.{filled, first_bad, image_numbers, nothing_met, reached, walk}
use Rattle.sv_check.proofs.FileBlocks.{data_of}
use Rattle.sv_check.proofs.InodeReads.{and_first, and_second, shows_inode}
use Rattle.sv_check.proofs.TreeBytes.{found_same}
use Rattle.sv_check.proofs.TreeNodes.{none_passes, page_entry}
use Rattle.sv_check.proofs.WholeNodes.{length-block}
use Rattle.sv_store.specs.Held.{Held, HoldsBlock, Origin, line_of}
use Rattle.sv_bmap.specs.Tree as bmap
use Rattle.sv_bmap.specs.Tree.{IsTree, number_in}
use Rattle.sv_bmap.proofs.PagePaths.{has_path}
use Rattle.sv_bmap.proofs.PageSpots.{path-spot}
use Rattle.sv_inode.specs.StandsFor.{HasDataBlocks, HasNoEmptyBlock, HasPages, IsDescribed, IsHeldPage, IsPageOf, StandsFor}
use Rattle.sv_form.proofs.ReaderLemmas.{child-some}
use Rattle.sv_files.specs.FromImage.{HoldsLinesOf, IsUsedInode}
use Rattle.sv_files.proofs.Hits.{found-one, hits, hits-any, none-hit}
use Rattle.sv_files.proofs.TreeSpots.{is_at, met-block, met-spot, once-at, page_at}
use Rattle.sv_files.proofs.OwnBlocks.{all-hit, held-line, held-number, reached-data, reached-once, same-block}
use Rattle.sv_files.proofs.Walked.{none-bad}
use Rattle.sv_files.proofs.NodePages.{IsGood, all-good, block-of-path, is_page_at, page-met}

-- a number that is left by a filter
pub record IsLeft (p : ℕ → Bool) (a m : ℕ) : Type 0 where
  pub number : ℕ
  pub high : number < a + m
  pub passes : p number ≡ true

left_step : (p : ℕ → Bool) (a m : ℕ) (u : Bool) (F : List ℕ) → p a ≡ u → (length F ≢ 0 → IsLeft p (a + 1) m)
    → length (cond u (a ∷ F) F) ≢ 0 → IsLeft p a (suc m)
left_step p a m true F is rest some = record { number = a; high = omega arith; passes = is }
left_step p a m false F is rest some =
    let l = rest some in record { number = l.number; high = (let high = l.high in omega (arith, high)); passes = l.passes }

left_some : (p : ℕ → Bool) (m a : ℕ) → length (filter p (range_with_len a m)) ≢ 0 → IsLeft p a m
left_some p zero a some = absurd (some refl)
left_some p (suc m) a some = left_step p a m (p a) (filter p (range_with_len (a + 1) m)) refl (left_some p m (a + 1)) some

not_zero : (b : ℕ) → not (b == 0) ≡ true → b ≢ 0
not_zero b is e = absurd (false≢true (sym (ap not (eq-eqb b 0 e)) ∙ is))

is_some : (o : Option (List ℕ)) (x : List ℕ) → o ≡ Some x → IsSome o
is_some None x e = let no : ⊥ = cc e in absurd no
is_some (Some y) x e = refl

module _ (o : Origin) (image : List ℕ) (sizes : IsGeometry o.sizes) (long : length image ≡ o.sizes.blocks * o.sizes.block_size)
    (none : first_bad o.sizes nothing_met (walk o.sizes image) ≡ None)
    (past_none : past_size_flaw o.sizes image ≡ None) (n : ℕ) (u : IsUsedInode o.sizes image n) (h : Held)
    (holds : HoldsLinesOf o.sizes image n h) (body : InodeBody)
    (spelled : IsBody (inode_of o.sizes image n) body) (shows : ShowsBody (inode_of o.sizes image n) body) where
  abbrev g : Geometry
  g = o.sizes

  abbrev inode : List ℕ
  inode = inode_of g image n

  abbrev a : List ℕ
  a = body.addresses

  abbrev rs : List Reached
  rs = reached g image inode

  abbrev per : ℕ
  per = block_numbers g

  some_bytes : 0 < per
  some_bytes = let bytes = sizes.block_size in omega (arith, bytes)

  alike : (slot : ℕ) (ks : List ℕ) → IsSpot per slot ks
      → bmap.block_at h a slot ks ≡ tree.block_at (image_numbers g image) (address_of inode) slot ks
  alike slot ks spot = same-block g image sizes none n u h holds a shows.addresses slot ks spot

  -- a block at a spot is met
  met : (c slot : ℕ) (ks : List ℕ) → IsSpot per slot ks → c ≢ 0 → bmap.block_at h a slot ks ≡ c → 1 ≤ hits (is_at c) rs
  met c slot ks spot some e = met-block per (image_numbers g image) (address_of inode) c slot ks spot some (sym (alike slot ks spot) ∙ e)

  held-block : (c : ℕ) → 0 < hits (is_at c) rs → HoldsBlock o h c
  held-block c hit =
      record { at = λ l low. is_some (h c l) (line_of (block_of g image c) l) (held-line g image sizes none n u h holds c hit l low) }

  tree-is : IsTree o h a
  tree-is = record {
    whole = λ slot ks spot some. held-block (bmap.block_at h a slot ks) (met (bmap.block_at h a slot ks) slot ks spot some refl);
    once = λ slot ks other js spot that some same.
        once-at per (image_numbers g image) (address_of inode) (bmap.block_at h a slot ks) slot other ks js spot that some
        (sym (alike slot ks spot)) (sym (alike other js that) ∙ sym same)
        (reached-once g image sizes none n u (bmap.block_at h a slot ks));
  }

  in-data : HasDataBlocks g h a
  in-data = record {
    at =
        λ slot ks spot some. data_of g (bmap.block_at h a slot ks)
        (reached-data g image sizes none n u (bmap.block_at h a slot ks) (met (bmap.block_at h a slot ks) slot ks spot some refl));
  }

  -- ---- no indirect block is empty

  nothing_past : list_any (is_past g image (size_of inode)) rs ≡ false
  unfolding past_size_flaw used_inodes
  nothing_past =
      let most = u.most in
      none_passes (some_reached g image (is_past g image)) (λ k. not (is_free (inode_of g image k))) 1 (inode_count g) past_none n u.least
      (omega (arith, most)) (ap not u.used)

  full : (slot : ℕ) (ks : List ℕ) → IsSpot per slot ks → length ks < height_of slot
      → tree.block_at (image_numbers g image) (address_of inode) slot ks ≢ 0
      → length (filled g (block_of g image (tree.block_at (image_numbers g image) (address_of inode) slot ks))) ≢ 0
  full slot ks spot less there e =
      let c : ℕ = tree.block_at (image_numbers g image) (address_of inode) slot ks in
      let up : height_of slot - length ks ≢ 0 = omega (arith, less) in
      let past : is_past g image (size_of inode)
      (record { height = height_of slot - length ks; page = page_at per (height_of slot) (first_page per slot) ks; block = c }) ≡ true =
      ap (λ (t : Bool). cond t (nat_le (size_of inode) (page_at per (height_of slot) (first_page per slot) ks * g.block_size))
      (length (filled g (block_of g image c)) == 0)) (ne_eqb (height_of slot - length ks) 0 up)
      ∙ eq-eqb (length (filled g (block_of g image c))) 0 e in
      let hit = met-spot per (image_numbers g image) (address_of inode) (is_past g image (size_of inode)) slot ks spot there past in
      absurd (false≢true (sym nothing_past ∙ hits-any (is_past g image (size_of inode)) rs hit))

  not-empty : HasNoEmptyBlock g h a
  not-empty = record {
    some = λ slot ks spot less there.
        (let b : ℕ = bmap.block_at h a slot ks in
        let same : b ≡ tree.block_at (image_numbers g image) (address_of inode) slot ks = alike slot ks spot in
        let found =
        left_some (λ k. not (image_number (block_of g image (tree.block_at (image_numbers g image) (address_of inode) slot ks)) k == 0))
        per 0 (full slot ks spot less (λ e. there (same ∙ e))) in
        let low : found.number < per = (let high = found.high in omega (arith, high)) in
        let number : number_in h b found.number ≡ image_numbers g image b found.number =
        held-number g image sizes none n u h holds b (met b slot ks spot there refl) found.number low in
        let some : image_numbers g image (tree.block_at (image_numbers g image) (address_of inode) slot ks) found.number ≢ 0 =
        not_zero _ found.passes in (
          found.number,
          (
            low,
            λ e. some (ap (λ (x : ℕ). image_numbers g image x found.number) (sym same) ∙ sym number
                ∙ sym (child-some (number_in h) b found.number there) ∙ e),
          ),
        ));
  }

  -- ---- pages

  pages-are : (k : ℕ)
      → fmap.get (node_of g image inode).pages k
      ≡ option_map (λ r. block_of g image r.block) (find (is_page_at g (image_numbers g image) (address_of inode) k) rs)
  unfolding node_of
  pages-are k = fmap.get-from_entries nat_cmp_total (map (page_entry g image) (filter is_page rs)) k ∙ found_same g image k rs

  same-page : (p : PagePath) (page : ℕ) → IsPath g p → page_of g p ≡ page
      → bmap.page_block g h a page ≡ tree.page_block per (image_numbers g image) (address_of inode) page
  same-page p page is at =
      block-of-path g (number_in h) (slice_index a) p page is at ∙ alike (slot_of p) (places_of p) (path-spot g p is)
      ∙ sym (block-of-path g (image_numbers g image) (address_of inode) p page is at)

  by_found : (page : ℕ) (p : PagePath) → IsPath g p → page_of g p ≡ page → (f : Option Reached)
      → find (is_page_at g (image_numbers g image) (address_of inode) page) rs ≡ f
      → IsPageOf g h (tree.page_block per (image_numbers g image) (address_of inode) page) (option_map (λ r. block_of g image r.block) f)
  by_found page p is at None e =
      elim (cases_eq (tree.page_block per (image_numbers g image) (address_of inode) page) 0) [
        | inl hole ↦ hole
        | inr some ↦
            let hit = page-met g (image_numbers g image) (address_of inode) p page is at some in
            let gone = none-hit (is_page_at g (image_numbers g image) (address_of inode) page) rs e in
            absurd (omega (arith, hit, gone))
      ]
  by_found page p is at (Some r) e =
      let good =
      found-one (is_page_at g (image_numbers g image) (address_of inode) page) (IsGood g (image_numbers g image) (address_of inode)) rs r
      (all-good g (image_numbers g image) (address_of inode)) e in
      let hit =
      (found-one (is_page_at g (image_numbers g image) (address_of inode) page) (λ (q : Reached). 0 < hits (is_at q.block) rs) rs r
      (all-hit rs rs (λ c. omega arith)) e).1 in
      let flat : r.height ≡ 0 = eqb-true r.height 0 (and_first (r.height == 0) (r.page == page) good.0) in
      let same : r.page ≡ page = eqb-true r.page page (and_second (r.height == 0) (r.page == page) good.0) in
      let is_good = good.1 flat in
      let block : tree.page_block per (image_numbers g image) (address_of inode) page ≡ r.block =
      ap (tree.page_block per (image_numbers g image) (address_of inode)) (sym same) ∙ is_good.1.1 in
      let inside : IsDataBlock g r.block = data_of g r.block (reached-data g image sizes none n u r.block hit) in
      subst (λ (x : ℕ). IsHeldPage g h x (block_of g image r.block)) (sym block)
      (record {
        some = is_good.0;
        size = length-block g image r.block sizes long inside.most;
        lines = λ l low. held-line g image sizes none
            n u h holds r.block hit l low;
      })

  by_past : (page : ℕ) → page_limit per ≤ page → (f : Option Reached)
      → find (is_page_at g (image_numbers g image) (address_of inode) page) rs ≡ f
      → option_map (λ (r : Reached). block_of g image r.block) f ≡ None
  by_past page past None e = refl
  by_past page past (Some r) e =
      let good =
      found-one (is_page_at g (image_numbers g image) (address_of inode) page) (IsGood g (image_numbers g image) (address_of inode)) rs r
      (all-good g (image_numbers g image) (address_of inode)) e in
      let flat : r.height ≡ 0 = eqb-true r.height 0 (and_first (r.height == 0) (r.page == page) good.0) in
      let same : r.page ≡ page = eqb-true r.page page (and_second (r.height == 0) (r.page == page) good.0) in
      let low = (good.1 flat).1.0 in
      absurd (omega (arith, low, same, past))

  has-pages : HasPages g h a (node_of g image inode).pages
  has-pages = record {
    within = λ page low.
        (let p = has_path g page some_bytes low in
        subst (λ (x : Option (List ℕ)). IsPageOf g h (bmap.page_block g h a page) x) (sym (pages-are page))
        (subst (λ (b : ℕ). IsPageOf g h b
        (option_map (λ (r : Reached). block_of g image r.block)
        (find (is_page_at g (image_numbers g image) (address_of inode) page) rs))) (sym (same-page p.0 page p.1.0 p.1.1))
        (by_found page p.0 p.1.0 p.1.1 (find (is_page_at g (image_numbers g image) (address_of inode) page) rs) refl)));
    past = λ page high. pages-are page ∙ by_past page high (find (is_page_at g (image_numbers g image) (address_of inode) page) rs) refl;
  }

  -- ---- kind, mode, links and size

  mode-is : body.mode ≡ number16 inode 0 % 4096
  mode-is = (let kind = spelled.kind in let low = spelled.mode in omega (arith, kind, low))

  described : IsDescribed body (node_of g image inode)
  unfolding node_of
  described = record {
    kind = sym (ap (λ (t : Bool). cond t Dir File) shows.directory ∙ kind_back body.kind);
    mode = mode-is;
    links = sym shows.links;
    size = sym shows.size;
  }

  pub stands : StandsFor o h body (node_of g image inode)
  stands = record { described = described; tree = tree-is; pages = has-pages; data_blocks = in-data; no_empty = not-empty }

-- for each used inode of an image
pub stands-for : (image : List ℕ) → IsWalked image → (n : ℕ) → IsUsedInode (geometry_of image) image n → (o : Origin)
    → o.sizes ≡ geometry_of image → (h : Held) → HoldsLinesOf (geometry_of image) image n h
    → (body : InodeBody) → IsInode (inode_of (geometry_of image) image n) (Used body)
    → StandsFor o h body (node_of (geometry_of image) image (inode_of (geometry_of image) image n))
stands-for image w n u o e h holds body is =
    let at : Origin = record o { sizes = geometry_of image } in
    let same : o ≡ at = λ i. record o { sizes = e i } in
    subst (λ (x : Origin). StandsFor x h body (node_of (geometry_of image) image (inode_of (geometry_of image) image n))) (sym same)
    (stands at image w.sized.sizes.bounds w.sized.sizes.length
    (none-bad (geometry_of image) image w.range w.twice) w.past_size n u h holds body is.spelled
    (shows_inode (inode_of (geometry_of image) image n) (Used body) is))
