-- The tree of a sound image is whole. Each part of `IsWhole` comes of these conditions:
--   sized        3, the sizes of the image
--   nodes        4 for the numbers; 5 for the sizes; for the pages 6 that they stand in the image, 8 that none lies past the
--                size, and 9 for the bytes past the size
--   links        16, where 14 and 5 give the entries of a directory by its node's bytes
--   blocks       6 and 7: the walk meets data blocks alone, each once, and it meets each block above a page
--   directories  5 for the size, 14 for the pages, the entries and the names, 15 for `.` and `..`
--   named        14
--   root         13 that it is a directory, 16 that it has links, 15 for its place
--   placed       15
--   ascends      15
--   references, files, pending, places      nothing: there are none of them yet
-- Conditions 1 and 2 only say that it is such an image, and 10 to 12 are about what no node uses.
use Rattle.std.proofs.Common.{◌≡◌, ◌≤◌, ◌+◌, ◌==◌, ◌∙◌, ℕ, List, Some, None, refl, sym, subst, arith}
use Rattle.std.specs.Ordering.{nat_cmp}
use Rattle.std.specs.FinMap as fmap
use Rattle.sv_form.specs.declared.geometry.Geometry.{Geometry}
use Rattle.sv_form.specs.Geometry.{inode_count}
use Rattle.sv_form.specs.Image.{geometry_of}
use Rattle.sv_form.specs.Node.{Node}
use Rattle.sv_form.specs.Pair.{pair_cmp}
use Rattle.sv_plain.specs.Fs.{Fs, namings, pending_on}
use Rattle.sv_plain.specs.Totals.{one_if}
use Rattle.sv_plain.specs.Whole.{IsWhole}
use Rattle.sv_plain.proofs.Beginnings.{no_places_taken, none_promised, sized}
use Rattle.sv_plain.proofs.Totals.{total-empty}
use Rattle.sv_check.specs.Loaded.{loaded}
use Rattle.sv_check.specs.Sound.{IsSound}
use Rattle.sv_check.proofs.LoadedTree.{loaded-all, loaded_to, nodes_to}
use Rattle.sv_check.proofs.WholeBlocks.{blocks_few}
use Rattle.sv_check.proofs.WholeEntries.{ascends_whole, directories_whole, links_whole, named_whole, placed_whole, root_whole}
use Rattle.sv_check.proofs.WholeNodes.{nodes_fit}

nothing_there : {X A : Type 0} (x : X) → None ≡ Some x → A
nothing_there x e = let bad : ⊥ = cc e in absurd bad

none_pending : (i : ℕ) → pending_on fmap.empty i ≡ 0
unfolding pending_on
none_pending i = total-empty nat_cmp (λ _ inode. one_if (inode == i))

module _ (image : List ℕ) (sound : IsSound image) where
  abbrev g : Geometry
  g = geometry_of image

  links_are : (i : ℕ) (n : Node) → fmap.get (nodes_to g image (inode_count g)) i ≡ Some n
      → (n.links ≤ 1000) × (n.links ≡ namings g.block_size (nodes_to g image (inode_count g)) i + pending_on fmap.empty i)
  links_are i n there =
      let right = links_whole image sound i n there in
      let none = none_pending i in
      let named = right.1 in
      (right.0, omega (arith, named, none))

  all_whole : IsWhole (loaded_to g image (inode_count g))
  all_whole = record {
    sized = sized g sound.sized.sizes.bounds;
    nodes = nodes_fit image sound;
    links = links_are;
    blocks = (let few = blocks_few image sound in let none = none_promised in omega (arith, few, none));
    directories = directories_whole image sound;
    named = named_whole image sound;
    root = root_whole image sound;
    placed = placed_whole image sound;
    ascends = ascends_whole image sound;
    references = λ p i n e. nothing_there n (sym (fmap.get-empty pair_cmp (p, i)) ∙ e);
    files = λ n f e. nothing_there f (sym (fmap.get-empty nat_cmp n) ∙ e);
    pending = λ p i e. nothing_there i (sym (fmap.get-empty nat_cmp p) ∙ e);
    places = (let none = no_places_taken (inode_count g) in omega (arith, none));
  }

  pub tree_whole : IsWhole (loaded image)
  tree_whole = subst (λ (s : Fs). IsWhole s) (loaded-all image g refl (inode_count g) refl) all_whole
