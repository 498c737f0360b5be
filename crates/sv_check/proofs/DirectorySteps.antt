-- The entries of one directory, page by page: what was gone through tells of the whole.
use Rattle.std.proofs.Common.{◌≡◌, ◌≤◌, ◌<◌, ◌+◌, ◌-◌, ◌*◌, ◌/◌, ◌%◌, ◌&&◌, ◌++◌, [], ◌∙◌, ℕ, Bool, true, false, List, Option, Some, None, ap, sym, refl, subst, take, length, IfNone, replicate, unwrap_or, is_some, option_map, find, min, arith}
use Rattle.std.specs.List.{range_with_len, list_all}
use Rattle.std.proofs.lemmas.List.{length-take-le}
use Rattle.sv_form.specs.declared.geometry.Geometry.{Geometry}
use Rattle.sv_form.specs.Geometry.{IsGeometry}
use Rattle.sv_form.specs.Image.{block_of, inode_of}
use Rattle.sv_plain.specs.Front.{size_of}
use Rattle.sv_check.specs.declared.sound.entries.SeenNames.{SeenNames}
use Rattle.sv_check.specs.declared.pages.PageBlock.{PageBlock}
use Rattle.sv_check.specs.Directories.{are_entries, contents, entries, has_no_hole, page_in, pieces}
use Rattle.sv_check.specs.EntrySteps.{are_good_after, seen_after, Takes}
use Rattle.sv_check.specs.Pages.{has_number, IsAtPage, is_in_order, pages_among}
use Rattle.sv_check.specs.SeenNames.{HasSeen}
use Rattle.sv_check.specs.Walk.{reached}
use Rattle.sv_check.proofs.ChainWalk.{all-step, all-stop, all-end}
use Rattle.sv_check.proofs.EntryParts.{entries_from, first_part, no_part, one_part}
use Rattle.sv_check.proofs.GoodEntries.{good-all, nothing_good}
use Rattle.sv_check.proofs.PageFinds.{at_first, found_among}
use Rattle.sv_check.proofs.PageOrder.{reached-ascends, top}

and_false : (t : Bool) → (t && false) ≡ false
and_false true = refl
and_false false = refl

pub when_none : {X P : Type 0} (o : Option X) → o ≡ None → IfNone o P → P
when_none None e p = p
when_none (Some x) e p = let no : ⊥ = cc e in absurd no

-- what is read of a part of a page
pub part_size : (bytes : List ℕ) (end : ℕ) → end ≤ length bytes → pieces (length (take end bytes) / 16) (take end bytes) ≡ pieces (end / 16) (take end bytes)
part_size bytes end within = ap (λ (m : ℕ). pieces (m / 16) (take end bytes)) (length-take-le end bytes within)

-- a slice of the pages
module _ (slice ps : List PageBlock) (same : slice ≡ ps) (k high : ℕ) (at : IsAtPage ps k high) where
  at_slice : IsAtPage slice k high
  at_slice = subst (λ (l : List PageBlock). IsAtPage l k high) (sym same) at

  pub found_in : (found : Option PageBlock) → ((top : ℕ) → IsAtPage slice k top → find (has_number k) slice ≡ found) → find (has_number k) ps ≡ found
  found_in found is = ap (find (has_number k)) (sym same) ∙ is high at_slice

  pub next_in : ((top : ℕ) → IsAtPage slice k top → IsAtPage slice (k + 1) top) → IsAtPage ps (k + 1) high
  next_in next = subst (λ (l : List PageBlock). IsAtPage l (k + 1) high) same (next high at_slice)

module _ (g : Geometry) (image : List ℕ) (n : ℕ) where
  abbrev pub inode : List ℕ
  inode = inode_of g image n

  abbrev pub size : ℕ
  size = size_of inode

  -- how many pages begin below the size, and how many entries a page has
  abbrev pub pages : ℕ
  pages = (size + (g.block_size - 1)) / g.block_size

  abbrev pub per : ℕ
  per = g.block_size / 16

  abbrev pub page : ℕ → List ℕ
  page k = unwrap_or (page_in g image (reached g image inode) k) (replicate g.block_size 0)

  abbrev has_page : ℕ → Bool
  has_page k = is_some (page_in g image (reached g image inode) k)

  -- the entries from page k on tell, with those that were seen, what all tell
  pub record IsThrough (ps : List PageBlock) (names : SeenNames) (k : ℕ) : Type 0 where
    pub at : IsAtPage ps k (top g image)
    pub seen : List (List ℕ)
    pub has : HasSeen names seen
    pub good : are_good_after g image [] (entries g image n) ≡ are_good_after g image seen (entries_from size per pages page k)
    pub present : has_no_hole g image inode ≡ list_all has_page (range_with_len k (pages - k))

  pub through_first : (ps : List PageBlock) (names : SeenNames) → ps ≡ pages_among (reached g image inode) → HasSeen names [] → IsThrough ps names 0
  unfolding entries contents
  through_first ps names are has =
      let all : pages ≡ pages - 0 = omega arith in
      record {
        at = subst (λ (l : List PageBlock). IsAtPage l 0 (top g image)) (sym are) (at_first (pages_among (reached g image inode)) (top g image) (reached-ascends g image inode));
        seen = [];
        has = has;
        good = ap (are_good_after g image []) (first_part size per pages page);
        present = ap (λ (m : ℕ). list_all has_page (range_with_len 0 m)) all;
      }

  module _ (ps : List PageBlock) (names : SeenNames) (k : ℕ) (was : IsThrough ps names k) (are : ps ≡ pages_among (reached g image inode)) (below : k < pages) where
    page_is : (found : Option PageBlock) → find (has_number k) ps ≡ found → page_in g image (reached g image inode) k ≡ option_map (λ p. block_of g image p.block) found
    page_is found is =
        found_among (block_of g image) k (reached g image inode)
        ∙ ap (λ (l : List PageBlock). option_map (λ p. block_of g image p.block) (find (has_number k) l)) (sym are) ∙ ap (option_map (λ (p : PageBlock). block_of g image p.block)) is

    pub hole : find (has_number k) ps ≡ None → false ≡ is_in_order g image n
    hole none =
        let absent : has_page k ≡ false = ap (λ (o : Option (List ℕ)). is_some o) (page_is None none) in
        sym (ap (λ (t : Bool). t && are_entries g image (entries g image n)) (was.present ∙ all-stop has_page pages k below absent))

    module _ (p : PageBlock) (found : find (has_number k) ps ≡ Some p) (bytes : List ℕ) (is : bytes ≡ block_of g image p.block) (len : length bytes ≡ g.block_size) (end : ℕ) (sizes : IsGeometry g)
        (upto : end ≡ min (size - k * g.block_size) g.block_size) (whole : size % 16 ≡ 0) where
      page-k : page k ≡ bytes
      page-k = ap (λ (o : Option (List ℕ)). unwrap_or o (replicate g.block_size 0)) (page_is (Some p) found) ∙ sym is

      pub part : entries_from size per pages page k ≡ pieces (end / 16) (take end bytes) ++ entries_from size per pages page (k + 1)
      part =
          let wide : 16 * per ≡ g.block_size = omega (arith, sizes.block_size) in
          let flat : k * g.block_size ≡ k * 1024 = ap (λ (s : ℕ). k * s) sizes.block_size in
          let many : k * per ≡ k * 64 = ap (λ (s : ℕ). k * (s / 16)) sizes.block_size in
          let here : end / 16 ≡ min (size / 16 - k * per) per = omega (arith, upto, whole, flat, many, sizes.block_size) in
          let back : 16 * (end / 16) ≡ end = omega (arith, upto, whole, flat, sizes.block_size) in
          one_part size per pages page whole k (end / 16) below (ap length page-k ∙ len ∙ sym wide) here
          ∙ ap (λ (l : List ℕ). pieces (end / 16) (take (16 * (end / 16)) l) ++ entries_from size per pages page (k + 1)) page-k
          ∙ ap (λ (m : ℕ). pieces (end / 16) (take m bytes) ++ entries_from size per pages page (k + 1)) back

      pub refused : Takes g image was.seen (pieces (end / 16) (take end bytes)) false → false ≡ is_in_order g image n
      refused takes =
          sym (ap (λ (t : Bool). has_no_hole g image inode && t) (sym (good-all g image (entries g image n)) ∙ was.good ∙ ap (are_good_after g image was.seen) part ∙ takes (entries_from size per pages page (k + 1)))
          ∙ and_false (has_no_hole g image inode))

      pub through_on : (new : SeenNames) → Takes g image was.seen (pieces (end / 16) (take end bytes)) true → HasSeen new (seen_after was.seen (pieces (end / 16) (take end bytes)))
          → IsAtPage ps (k + 1) (top g image) → IsThrough ps new (k + 1)
      through_on new takes has at =
          let there : has_page k ≡ true = ap (λ (o : Option (List ℕ)). is_some o) (page_is (Some p) found) in
          record {
            at = at;
            seen = seen_after was.seen (pieces (end / 16) (take end bytes));
            has = has;
            good = was.good ∙ ap (are_good_after g image was.seen) part ∙ takes (entries_from size per pages page (k + 1));
            present = was.present ∙ all-step has_page pages k below there;
          }

  pub through_end : (ps : List PageBlock) (names : SeenNames) (k : ℕ) → IsGeometry g → pages ≤ k → IsThrough ps names k → true ≡ is_in_order g image n
  through_end ps names k sizes over was =
      let many : k * per ≡ k * 64 = ap (λ (s : ℕ). k * (s / 16)) sizes.block_size in
      let count : (size + (g.block_size - 1)) / g.block_size ≡ (size + 1023) / 1024 = ap (λ (s : ℕ). (size + (s - 1)) / s) sizes.block_size in
      sym (ap (λ (t : Bool). t && are_entries g image (entries g image n)) (was.present ∙ all-end has_page pages k over)
      ∙ sym (good-all g image (entries g image n)) ∙ was.good
      ∙ ap (are_good_after g image was.seen) (no_part size per pages page k (omega (arith, over, many, count))) ∙ nothing_good g image was.seen)
