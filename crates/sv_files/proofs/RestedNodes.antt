-- What a whole file system at rest says of the tree of an image.
use Rattle.std.proofs.Common.{◌≡◌, ◌≤◌, ◌<◌, ◌+◌, ◌==◌, ◌∙◌, ℕ, true, false, List, Some, ap, sym, refl, subst}
use Rattle.std.specs.Cmp.{nat_cmp_total}
use Rattle.std.specs.Ordering.{nat_cmp}
use Rattle.std.specs.FinMap as fmap
use Rattle.std.specs.FinMap.{nat_cmp-IsAntisymmetric}
use Rattle.sv_form.specs.declared.geometry.Geometry.{Geometry}
use Rattle.sv_form.specs.Geometry.{inode_count}
use Rattle.sv_form.specs.Image.{geometry_of, inode_of}
use Rattle.sv_form.specs.Node.{Node}
use Rattle.sv_plain.specs.Fs as state
use Rattle.sv_plain.specs.Fs.{Fs}
use Rattle.sv_plain.specs.Totals.{one_if}
use Rattle.sv_plain.specs.Whole.{IsDirectory}
use Rattle.sv_plain.proofs.Totals.{total-empty}
use Rattle.sv_check.specs.InodeList.{is_directory, is_free, links_of, used_inodes}
use Rattle.sv_check.specs.Sound.{IsWalked, node_of, tree}
use Rattle.sv_check.proofs.LoadedTree.{nodes_to}
use Rattle.sv_check.proofs.TreeNodes.{tree_node, tree_used, used_tree}
use Rattle.sv_files.specs.ConverseNames.{IsAtRest, ShowsNodes}
use Rattle.sv_files.proofs.WalkedDirectories.{dir-used}
use Rattle.sv_files.proofs.WalkedNamings.{live-is}

-- the file system, in the words of the image
abbrev pub still : List ℕ → Fs → Fs
still image fs =
    let g = geometry_of image in record fs { nodes = nodes_to g image (inode_count g); block = g.block_size; inodes = inode_count g }

module _ (image : List ℕ) (fs : Fs) (shows : ShowsNodes image fs) where
  same-still : fs ≡ still image fs
  unfolding tree used_inodes
  same-still = λ i. record fs { nodes = sym shows.nodes i; block = shows.block i; inodes = shows.inodes i }

  pub at-rest : IsAtRest fs → IsAtRest (still image fs)
  at-rest rest = subst (λ (s : Fs). IsAtRest s) same-still rest

module _ (image : List ℕ) (w : IsWalked image) (fs : Fs) (rest : IsAtRest (still image fs)) where
  abbrev g : Geometry
  g = geometry_of image

  abbrev node : ℕ → Node
  node d = node_of g image (inode_of g image d)

  abbrev nodes : fmap.FinMap nat_cmp Node
  nodes = nodes_to g image (inode_count g)

  pub linked : (i : ℕ) → 1 ≤ i → i < 1 + inode_count g → is_free (inode_of g image i) ≡ false → 1 ≤ links_of (inode_of g image i)
  unfolding node_of
  linked i low high free = rest.linked i (node i) (used_tree g image i low high free)

  -- no pending link is on any inode
  pub none-pending : (i : ℕ) → state.pending_on fs.pending i ≡ 0
  unfolding state.pending_on
  none-pending i =
      let none : fs.pending ≡ fmap.empty =
      fmap.same_map nat_cmp_total nat_cmp-IsAntisymmetric fs.pending fmap.empty (λ p. rest.settled p ∙ sym (fmap.get-empty nat_cmp p)) in
      ap (λ (m : fmap.FinMap nat_cmp ℕ). state.pending_on m i) none ∙ total-empty nat_cmp (λ (p n : ℕ). one_if (n == i))

  -- ---- a directory of the image is a directory with links of the tree, and back

  module _ (d : ℕ) (low : 1 ≤ d) (high : d < 1 + inode_count g) (so : is_directory (inode_of g image d) ≡ true) where
    pub dir-there : fmap.get nodes d ≡ Some (node d)
    dir-there = used_tree g image d low high (dir-used image w d low high so)

    pub dir-live : state.is_live (node d) ≡ true
    dir-live = live-is image w linked d low high (dir-used image w d low high so) ∙ so

    pub dir-whole : IsDirectory g.block_size d (node d)
    dir-whole = rest.whole.directories d (node d) dir-there dir-live

  pub record IsLiveDir (d : ℕ) (n : Node) : Type 0 where
    pub low : 1 ≤ d
    pub high : d < 1 + inode_count g
    pub so : is_directory (inode_of g image d) ≡ true
    pub node_is : n ≡ node d

  pub live_dir : (d : ℕ) (n : Node) → fmap.get nodes d ≡ Some n → state.is_live n ≡ true → IsLiveDir d n
  live_dir d n there live =
      let u = tree_used g image d n there in
      let is = tree_node g image d n there in
      record {
        low = u.low;
        high = u.high;
        so = sym (live-is image w linked d u.low u.high u.used) ∙ ap (λ (m : Node). state.is_live m) (sym is) ∙ live;
        node_is = is;
      }

  pub root-dir : IsLiveDir 2 (node 2)
  root-dir =
      let l = live_dir 2 rest.whole.root.there.0 rest.whole.root.there.1 rest.whole.root.there.2 in
      record { low = l.low; high = l.high; so = l.so; node_is = refl }
