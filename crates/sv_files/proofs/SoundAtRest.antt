-- The tree of a sound image is a whole file system at rest.
use Rattle.std.proofs.Common.{◌≡◌, ◌≤◌, ◌∙◌, ℕ, List, Some, ap, sym, refl, subst}
use Rattle.std.specs.Ordering.{nat_cmp}
use Rattle.std.specs.FinMap as map
use Rattle.sv_form.specs.declared.geometry.Geometry.{Geometry}
use Rattle.sv_form.specs.Geometry.{inode_count}
use Rattle.sv_form.specs.Image.{geometry_of, inode_of}
use Rattle.sv_form.specs.Node.{Node}
use Rattle.sv_check.specs.InodeList.{links_of, used_inodes}
use Rattle.sv_check.specs.Loaded.{loaded}
use Rattle.sv_check.specs.Sound.{IsSound, node_of, tree}
use Rattle.sv_check.proofs.BooleanTests.{not_below, or_left}
use Rattle.sv_check.proofs.LoadedTree.{nodes_to}
use Rattle.sv_check.proofs.TreeNamings.{links-right}
use Rattle.sv_check.proofs.TreeNodes.{tree_node, tree_used}
use Rattle.sv_check.proofs.WholeTree.{tree_whole}
use Rattle.sv_files.specs.ConverseNames.{IsAtRest, SoundIsAtRest}

module _ (image : List ℕ) (sound : IsSound image) where
  abbrev g : Geometry
  g = geometry_of image

  same-nodes : tree image ≡ nodes_to g image (inode_count g)
  unfolding tree used_inodes
  same-nodes = refl

  linked : (i : ℕ) (node : Node) → map.get (tree image) i ≡ Some node → 1 ≤ node.links
  unfolding node_of
  linked i node there =
      let here : map.get (nodes_to g image (inode_count g)) i ≡ Some node =
      ap (λ (m : map.FinMap nat_cmp Node). map.get m i) (sym same-nodes) ∙ there in
      let used = tree_used g image i node here in
      let some : 1 ≤ links_of (inode_of g image i) =
      not_below (links_of (inode_of g image i)) 1 (or_left _ _ (or_left _ _ (links-right image sound i used.low used.high used.used))) in
      subst (λ (n : Node). 1 ≤ n.links) (sym (tree_node g image i node here)) some

  at_rest : IsAtRest (loaded image)
  at_rest = record { whole = tree_whole image sound; linked = linked; settled = λ p. map.get-empty nat_cmp p }

pub sound_is_at_rest : SoundIsAtRest
sound_is_at_rest image sound = (record { block = refl; inodes = refl; nodes = refl }, at_rest image sound)
