-- Each node of the tree of a sound image is one that a whole file system may have.
use Rattle.std.proofs.Common.{◌≡◌, ◌≤◌, ◌<◌, ◌+◌, ◌-◌, ◌*◌, ◌==◌, ◌&&◌, ◌∷◌, [], ◌∙◌, ℕ, Bool, not, true, false, List, Some, inl, inr, ap, sym, refl, subst, if◌then◌else◌, map, filter, length, drop, nat_le, nat_lt, slice_index, arith}
use Rattle.std.specs.List.{list_all, list_any}
use Rattle.std.specs.Cmp.{nat_cmp_total}
use Rattle.std.specs.FinMap as fmap
use Rattle.std.proofs.Math.Nat.{mul-le-mul_right}
use Rattle.std.proofs.lemmas.Bool.{cases_lt}
use Rattle.std.proofs.lemmas.List.{get_or-drop, get_or_past, length-drop, length-take-le}
use Rattle.sv_form.specs.declared.geometry.Geometry.{Geometry}
use Rattle.sv_form.specs.Geometry.{IsGeometry, inode_count}
use Rattle.sv_form.specs.Image.{block_of, geometry_of, inode_of}
use Rattle.sv_form.specs.Node.{Node}
use Rattle.sv_form.specs.PagePath.{greatest_size}
use Rattle.sv_plain.specs.Front.{size_of}
use Rattle.sv_plain.specs.Fs as fs
use Rattle.sv_plain.specs.Whole.{IsNode, IsPage}
use Rattle.sv_check.specs.InodeList.{all_zero, is_free, is_missized, size_flaw, used_inodes}
use Rattle.sv_check.specs.Loaded.{is_inside}
use Rattle.sv_check.specs.PastSize.{has_tail, is_past, past_size_flaw, some_reached, tail_flaw}
use Rattle.sv_check.specs.Sound.{IsSound, is_page, node_of}
use Rattle.sv_check.specs.Walk.{Reached, filled, reached}
use Rattle.sv_check.proofs.BooleanTests.{and_left, and_right, at_most-test, below, below-test, not_at_most, not_below, not_false, not_true, or_left, or_right}
use Rattle.sv_check.proofs.InodeReads.{zero_each}
use Rattle.sv_check.proofs.InodeSteps.{none_in_range}
use Rattle.sv_check.proofs.LoadedTree.{nodes_to}
use Rattle.sv_check.proofs.SoundParts.{AreMet, are_met, reached_inside, sound_walked, walked_least}
use Rattle.sv_check.proofs.TreeNodes.{IsReachedPage, IsUsed, none_passes, page_found, tree_node, tree_used}

-- ---- tests

and_not : (a b rest : Bool) → a ≡ true → b ≡ false → rest ≡ true → ((a && not b) && rest) ≡ true
and_not a b rest x y z = ap (λ (t : Bool). (t && not b) && rest) x ∙ ap (λ (t : Bool). not t && rest) y ∙ z

-- all pass the first test, and none the second
with_not : (a b : Reached → Bool) (rs : List Reached) → list_all a rs ≡ true → list_any b rs ≡ false → list_all (λ r. a r && not (b r)) rs ≡ true
with_not a b [] x y = refl
with_not a b (r ∷ rs) x y =
    and_not (a r) (b r) (list_all (λ q. a q && not (b q)) rs) (and_left (a r) (list_all a rs) x) (or_left (b r) (list_any b rs) y)
    (with_not a b rs (and_right (a r) (list_all a rs) x) (or_right (b r) (list_any b rs) y))

-- ---- one page

pub length-block : (g : Geometry) (image : List ℕ) (b : ℕ) → IsGeometry g → length image ≡ g.blocks * g.block_size → b < g.blocks → length (block_of g image b) ≡ g.block_size
unfolding block_of
length-block g image b h e below =
    let more : (b + 1) * g.block_size ≡ b * g.block_size + g.block_size = grind arith in
    let fits : (b + 1) * g.block_size ≤ g.blocks * g.block_size = mul-le-mul_right g.block_size (omega (arith, below)) in
    let count : b * g.block_size + g.block_size - b * g.block_size ≡ g.block_size = omega arith in
    let rest : length (drop (b * g.block_size) image) ≡ length image - b * g.block_size = length-drop (b * g.block_size) image in
    length-take-le (b * g.block_size + g.block_size - b * g.block_size) (drop (b * g.block_size) image) (omega (arith, rest, e, fits, more)) ∙ count

module _ (g : Geometry) (image : List ℕ) (sizes : IsGeometry g) (long : length image ≡ g.blocks * g.block_size) (size : ℕ) (r : Reached) where
  inside-is : is_inside g r ≡ true → r.block < g.blocks
  inside-is e = below r.block g.blocks e

  within-is : (r.height == 0) ≡ true → is_past g image size r ≡ false → r.page * g.block_size < size
  within-is flat e =
      let past : nat_le size (r.page * g.block_size) ≡ false = sym (ap (λ (t : Bool). if t then nat_le size (r.page * g.block_size) else (length (filled g (block_of g image r.block)) == 0)) flat) ∙ e in
      not_at_most size (r.page * g.block_size) past

  tail-is : (r.height == 0) ≡ true → has_tail g image size r ≡ false → r.page * g.block_size < size → length (block_of g image r.block) ≡ g.block_size → (j : ℕ) → size ≤ r.page * g.block_size + j
      → slice_index (block_of g image r.block) j ≡ 0
  tail-is flat e begins whole j far =
      elim (cases_lt j g.block_size) [
        | inl inside ↦
            (let last : nat_le size (r.page * g.block_size + g.block_size) ≡ true = at_most-test size (r.page * g.block_size + g.block_size) (omega (arith, inside, far)) in
            let tail : not (all_zero (drop (size - r.page * g.block_size) (block_of g image r.block))) ≡ false =
            sym (ap (λ (t : Bool). (t && nat_lt (r.page * g.block_size) size && nat_le size (r.page * g.block_size + g.block_size)) && not (all_zero (drop (size - r.page * g.block_size) (block_of g image r.block)))) flat
            ∙ ap (λ (t : Bool). (t && nat_le size (r.page * g.block_size + g.block_size)) && not (all_zero (drop (size - r.page * g.block_size) (block_of g image r.block)))) (below-test (r.page * g.block_size) size begins)
            ∙ ap (λ (t : Bool). t && not (all_zero (drop (size - r.page * g.block_size) (block_of g image r.block)))) last) ∙ e in
            let zeros : all_zero (drop (size - r.page * g.block_size) (block_of g image r.block)) ≡ true = not_false _ tail in
            let at : size - r.page * g.block_size + (r.page * g.block_size + j - size) ≡ j = omega (arith, begins, far) in
            sym (get_or-drop (size - r.page * g.block_size) (block_of g image r.block) (r.page * g.block_size + j - size) 0 ∙ ap (slice_index (block_of g image r.block)) at)
            ∙ zero_each (drop (size - r.page * g.block_size) (block_of g image r.block)) (r.page * g.block_size + j - size) zeros)
        | inr past ↦ get_or_past (block_of g image r.block) j 0 (omega (arith, whole, past))
      ]

  pub page_fits : (r.height == 0) ≡ true → is_inside g r ≡ true → is_past g image size r ≡ false → has_tail g image size r ≡ false → IsPage g.block_size size r.page (block_of g image r.block)
  page_fits flat inside past tail =
      let whole : length (block_of g image r.block) ≡ g.block_size = length-block g image r.block sizes long (inside-is inside) in
      let begins : r.page * g.block_size < size = within-is flat past in
      record { whole = whole; within = begins; tail = tail-is flat tail begins whole }

-- ---- one node

module _ (image : List ℕ) (sound : IsSound image) where
  abbrev g : Geometry
  g = geometry_of image

  abbrev met : AreMet g image
  met = are_met image sound

  abbrev good : ℕ → Reached → Bool
  good size r = (is_inside g r && not (is_past g image size r)) && not (has_tail g image size r)

  none_past : (i : ℕ) → IsUsed g image 1 (inode_count g) i → some_reached g image (is_past g image) i ≡ false
  unfolding past_size_flaw used_inodes
  none_past i u = none_passes (some_reached g image (is_past g image)) (λ n. not (is_free (inode_of g image n))) 1 (inode_count g) met.past_size i u.low u.high (ap not u.used)

  none_tail : (i : ℕ) → IsUsed g image 1 (inode_count g) i → some_reached g image (has_tail g image) i ≡ false
  unfolding tail_flaw used_inodes
  none_tail i u = none_passes (some_reached g image (has_tail g image)) (λ n. not (is_free (inode_of g image n))) 1 (inode_count g) met.tail i u.low u.high (ap not u.used)

  all_good : (i : ℕ) → IsUsed g image 1 (inode_count g) i → list_all (good (size_of (inode_of g image i))) (reached g image (inode_of g image i)) ≡ true
  all_good i u =
      with_not (λ r. is_inside g r && not (is_past g image (size_of (inode_of g image i)) r)) (has_tail g image (size_of (inode_of g image i))) (reached g image (inode_of g image i))
      (with_not (is_inside g) (is_past g image (size_of (inode_of g image i))) (reached g image (inode_of g image i))
      (reached_inside g image met.range met.twice met.size i u.low u.high u.used) (none_past i u)) (none_tail i u)

  size_fits : (i : ℕ) → IsUsed g image 1 (inode_count g) i → size_of (inode_of g image i) ≤ fs.greatest_size g.block_size
  unfolding size_flaw
  size_fits i u =
      let fits : is_missized g (inode_of g image i) ≡ false = none_in_range (λ n. is_missized g (inode_of g image n)) 1 (inode_count g) met.size i u.low u.high in
      let small : nat_lt (greatest_size g) (size_of (inode_of g image i)) ≡ false = or_left _ _ fits in
      not_below (greatest_size g) (size_of (inode_of g image i)) small

  page_is : (i k : ℕ) (bytes : List ℕ) → IsUsed g image 1 (inode_count g) i → IsReachedPage g image (good (size_of (inode_of g image i))) k bytes
      → IsPage g.block_size (size_of (inode_of g image i)) k bytes
  page_is i k bytes u f =
      let size : ℕ = size_of (inode_of g image i) in
      let r : Reached = f.reached in
      let first : (is_inside g r && not (is_past g image size r)) ≡ true = and_left _ (not (has_tail g image size r)) f.passes in
      let tail : has_tail g image size r ≡ false = not_true _ (and_right (is_inside g r && not (is_past g image size r)) _ f.passes) in
      let inside : is_inside g r ≡ true = and_left _ (not (is_past g image size r)) first in
      let past : is_past g image size r ≡ false = not_true _ (and_right (is_inside g r) _ first) in
      subst (λ (x : ℕ). IsPage g.block_size size x bytes) (sym f.page)
      (subst (λ (b : List ℕ). IsPage g.block_size size r.page b) (sym f.shown)
      (page_fits g image sound.sized.sizes.bounds sound.sized.sizes.length size r f.flat inside past tail))

  node_fits : (i : ℕ) → IsUsed g image 1 (inode_count g) i → IsNode g.block_size (fs.greatest_size g.block_size) (inode_count g) i (node_of g image (inode_of g image i))
  unfolding node_of
  node_fits i u = record {
    least = walked_least image (sound_walked image sound) g refl i u.low (let high = u.high in omega (arith, high)) u.used;
    most = (let high = u.high in omega (arith, high));
    mode = omega arith;
    size = size_fits i u;
    pages = λ k bytes e. page_is i k bytes u
        (page_found g image (good (size_of (inode_of g image i))) k bytes (reached g image (inode_of g image i)) (all_good i u)
        (sym (fmap.get-from_entries nat_cmp_total (map (λ r. (r.page, block_of g image r.block)) (filter is_page (reached g image (inode_of g image i)))) k) ∙ e));
  }

  pub nodes_fit : (i : ℕ) (node : Node) → fmap.get (nodes_to g image (inode_count g)) i ≡ Some node → IsNode g.block_size (fs.greatest_size g.block_size) (inode_count g) i node
  nodes_fit i node e =
      subst (λ (n : Node). IsNode g.block_size (fs.greatest_size g.block_size) (inode_count g) i n) (sym (tree_node g image i node e)) (node_fits i (tree_used g image i node e))
