-- The tree of an image that has the lines of the nodes is these nodes.
use Rattle.std.proofs.Common.{◌≡◌, ◌∷◌, [], ◌<◌, ◌*◌, ◌%◌, ◌==◌, ◌&&◌, ◌∙◌, ℕ, Bool, not, true, false, List, Option, Some, None, ap, sym}
use Rattle.std.proofs.Common.{refl, if◌then◌else◌, length, option_map, slice_index, arith}
use Rattle.std.specs.Cmp.{nat_cmp_total}
use Rattle.std.specs.List.{list_all, list_any}
use Rattle.std.specs.FinMap as fmap
use Rattle.std.specs.FinMap.{nat_cmp-IsAntisymmetric}
use Rattle.std.proofs.lemmas.Bool.{eq-eqb, eqb-true}
use Rattle.sv_form.specs.declared.geometry.Geometry.{Geometry}
use Rattle.sv_form.specs.declared.inode.DiskInode.TheVariants.{Used}
use Rattle.sv_form.specs.declared.inode.InodeBody.{InodeBody}
use Rattle.sv_form.specs.declared.kind.Kind.{Kind}
use Rattle.sv_form.specs.declared.kind.Kind.TheVariants.{File, Dir}
use Rattle.sv_form.specs.Geometry.{IsGeometry, inode_count}
use Rattle.sv_form.specs.Image.{block_of, inode_of}
use Rattle.sv_form.specs.Inode.{IsBody}
use Rattle.sv_form.specs.Node.{Node, is_dir}
use Rattle.sv_form.specs.Number.{number16}
use Rattle.sv_store.specs.Held.{Held, Origin}
use Rattle.sv_plain.specs.Front.{address_of}
use Rattle.sv_plain.specs.Fs.{Fs}
use Rattle.sv_check.specs.Directories.{page_in}
use Rattle.sv_check.specs.InodeList.{is_directory, is_free, links_of, used_inodes}
use Rattle.sv_check.specs.Loaded.{is_inside}
use Rattle.sv_check.specs.Sound.{node_of, tree}
use Rattle.sv_check.specs.Walk.{Reached, reached}
use Rattle.sv_check.proofs.BooleanTests.{and_left, and_right, below-test}
use Rattle.sv_check.proofs.InodeReads.{shows_inode}
use Rattle.sv_check.proofs.LoadedTree.{nodes_to}
use Rattle.sv_check.proofs.TreeBytes.{page_of-is}
use Rattle.sv_check.proofs.TreeNodes.{tree_used, used_tree}
use Rattle.sv_files.specs.ConverseInodes.{HasNumbersOf, HoldsAllInodes}
use Rattle.sv_files.specs.ConverseLines.{IsSizedAs}
use Rattle.sv_files.specs.ConverseNames.{IsAtRest}
use Rattle.sv_files.specs.ConversePages.{NodesAreTree}
use Rattle.sv_files.proofs.ConversePages.{each-reached, long, size-here}
use Rattle.sv_files.proofs.ConverseWalk.{addresses, node_at, same-inode}
use Rattle.sv_files.proofs.EachReached.{Each, each_map, found, none_found_in, none_passes}
use Rattle.sv_files.proofs.HeldPages.{IsFrom, inside-from, page-in, there_from}

-- all pass where each does
all_each : {X : Type 0} (test : X → Bool) (xs : List X) → Each (λ x. test x ≡ true) xs → list_all test xs ≡ true
all_each test [] e = refl
all_each test (x ∷ xs) e = ap (λ (t : Bool). t && list_all test xs) e.0 ∙ all_each test xs e.1

kind_from : (k : Kind) → (if is_dir k then Dir else File) ≡ k
kind_from File = refl
kind_from Dir = refl

module _ (image : List ℕ) (o : Origin) (fs : Fs) (parts : ℕ → Held) (others : Held) (used : List Bool) (sizes : IsGeometry o.sizes)
    (sized_as : IsSizedAs o.sizes image) (has : HasNumbersOf o fs) (rest : IsAtRest fs)
    (all : HoldsAllInodes o image fs parts others used) where
  abbrev g : Geometry
  g = o.sizes

  abbrev size : length image ≡ g.blocks * g.block_size
  size = long image o fs parts others used sizes sized_as has rest all

  module _ (n : ℕ) (node : Node) (there : fmap.get fs.nodes n ≡ Some node) where
    abbrev inode : List ℕ
    inode = inode_of g image n

    abbrev body : InodeBody
    body = (all.nodes n node there).body

    abbrev at : (k : ℕ) → k < 13 → address_of (inode_of o.sizes image n) k ≡ slice_index (all.nodes n node there).body.addresses k
    at = addresses image o fs parts others used sizes sized_as all n node there

    abbrev of_tree : Reached → Type 0
    of_tree r = IsFrom o image (parts n) (all.lines n) inode body node (all.nodes n node there).stands at sizes size r

    each : Each of_tree (reached g image inode)
    each = each-reached image o fs parts others used sizes sized_as has rest all n node there

    spelled : IsBody (all.nodes n node there).line body
    spelled = (all.nodes n node there).spelled.spelled

    same : inode ≡ (all.nodes n node there).line
    same = same-inode image o fs parts others used sizes sized_as all n node there

    kind-is : (if is_directory inode then Dir else File) ≡ node.kind
    kind-is =
        ap (λ (x : List ℕ). if is_directory x then Dir else File) same
        ∙ ap (λ (t : Bool). if t then Dir else File)
        (shows_inode (all.nodes n node there).line (Used body) (all.nodes n node there).spelled).directory
        ∙ kind_from body.kind ∙ (all.nodes n node there).stands.described.kind

    mode-is : number16 inode 0 % 4096 ≡ node.mode
    mode-is =
        let kind = spelled.kind in
        let low = spelled.mode in
        let code : number16 (all.nodes n node there).line 0 % 4096 ≡ body.mode = omega (arith, kind, low) in
        ap (λ (x : List ℕ). number16 x 0 % 4096) same ∙ code ∙ (all.nodes n node there).stands.described.mode

    links-are : links_of inode ≡ node.links
    links-are = ap (λ (x : List ℕ). links_of x) same ∙ spelled.links ∙ (all.nodes n node there).stands.described.links

    -- ---- the pages

    inside : list_all (is_inside g) (reached g image inode) ≡ true
    inside =
        all_each (is_inside g) (reached g image inode)
        (each_map of_tree (λ r. is_inside g r ≡ true)
        (λ r f. below-test r.block g.blocks
        (inside-from o image (parts n) (all.lines n) inode body node (all.nodes n node there).stands at sizes size r f)) (reached g
        image inode) each)

    module _ (k : ℕ) where
      abbrev is_here : Reached → Bool
      is_here r = (r.height == 0) && (r.page == k)

      flat : (r : Reached) → is_here r ≡ true → r.height ≡ 0
      flat r so = eqb-true r.height 0 (and_left (r.height == 0) (r.page == k) so)

      here : (r : Reached) → is_here r ≡ true → r.page ≡ k
      here r so = eqb-true r.page k (and_right (r.height == 0) (r.page == k) so)

      page-got : (r : Reached) → of_tree r → is_here r ≡ true → fmap.get node.pages k ≡ Some (block_of g image r.block)
      page-got r f so =
          let p = page-in o image (parts n) (all.lines n) inode body node (all.nodes n node there).stands at sizes size r f (flat r so) in
          ap (fmap.get node.pages) (sym (here r so)) ∙ p.there ∙ ap (λ (x : List ℕ). Some x) (sym p.shown)

      not_here : fmap.get node.pages k ≡ None → (r : Reached) → of_tree r → (t : Bool) → is_here r ≡ t → t ≡ false
      not_here none r f false is = refl
      not_here none r f true is = let bad : ⊥ = cc (page-got r f is, none) in absurd bad

      page-absent : fmap.get node.pages k ≡ None → page_in g image (reached g image inode) k ≡ fmap.get node.pages k
      page-absent none =
          ap (option_map (λ (r : Reached). block_of g image r.block))
          (none_found_in is_here (reached g image inode)
          (none_passes is_here (reached g image inode)
          (each_map of_tree (λ r. is_here r ≡ false) (λ r f. not_here none r f (is_here r) refl) (reached g image inode) each)))
          ∙ sym none

      page-present : (bytes : List ℕ) → fmap.get node.pages k ≡ Some bytes
          → page_in g image (reached g image inode) k ≡ fmap.get node.pages k
      page-present bytes is =
          let some : list_any is_here (reached g image inode) ≡ true =
          there_from o image (parts n) (all.lines n) inode body node (all.nodes n node there).stands at sizes size k bytes is is_here
          (λ r low at_page. ap (λ (t : Bool). t && (r.page == k)) (eq-eqb r.height 0 low) ∙ eq-eqb r.page k at_page) in
          let r = found of_tree is_here (reached g image inode) each some in
          ap (option_map (λ (x : Reached). block_of g image x.block)) r.is ∙ sym (page-got r.at r.has r.so)

      page_by : (p : Option (List ℕ)) → fmap.get node.pages k ≡ p → page_in g image (reached g image inode) k ≡ fmap.get node.pages k
      page_by None is = page-absent is
      page_by (Some bytes) is = page-present bytes is

    pages-are : (node_of g image inode).pages ≡ node.pages
    pages-are =
        fmap.same_map nat_cmp_total nat_cmp-IsAntisymmetric (node_of g image inode).pages node.pages
        (λ k. page_of-is g image inode sizes size inside k ∙ page_by k (fmap.get node.pages k) refl)

    pub node-is : node_of g image inode ≡ node
    unfolding node_of
    node-is = λ i. record {
      kind = kind-is i;
      mode = mode-is i;
      links = links-are i;
      size = size-here image o fs parts others used sizes sized_as has rest all n node there i;
      pages = pages-are i;
    }

    used-here : is_free inode ≡ false
    used-here =
        ap (λ (x : List ℕ). is_free x) same ∙ (shows_inode (all.nodes n node there).line (Used body) (all.nodes n node there).spelled).used

    pub tree-has : fmap.get (nodes_to g image (inode_count g)) n ≡ Some node
    tree-has =
        let is = rest.whole.nodes n node there in
        let least = is.least in
        let most = is.most in
        let many = has.inodes in
        used_tree g image n (omega (arith, least)) (omega (arith, most, many)) used-here ∙ ap (λ (x : Node). Some x) node-is

  -- ---- all nodes

  absent_by : (n : ℕ) → fmap.get fs.nodes n ≡ None → (p : Option Node) → fmap.get (nodes_to g image (inode_count g)) n ≡ p → p ≡ None
  absent_by n none None is = refl
  absent_by n none (Some node) is =
      let u = tree_used g image n node is in
      let x = node_at image o fs parts others used sizes sized_as all n u.low u.high (ap not u.used) in
      let bad : ⊥ = cc (x.there, none) in absurd bad

  same_at : (n : ℕ) (p : Option Node) → fmap.get fs.nodes n ≡ p → fmap.get (nodes_to g image (inode_count g)) n ≡ fmap.get fs.nodes n
  same_at n None is = absent_by n is (fmap.get (nodes_to g image (inode_count g)) n) refl ∙ sym is
  same_at n (Some node) is = tree-has n node is ∙ sym is

  nodes-are : nodes_to g image (inode_count g) ≡ fs.nodes
  nodes-are =
      fmap.same_map nat_cmp_total nat_cmp-IsAntisymmetric (nodes_to g image (inode_count g)) fs.nodes
      (λ n. same_at n (fmap.get fs.nodes n) refl)

  tree-is : tree image ≡ fs.nodes
  unfolding tree used_inodes
  tree-is = ap (λ (x : Geometry). nodes_to x image (inode_count x)) sized_as.sizes ∙ nodes-are

pub nodes_are_tree : NodesAreTree
nodes_are_tree image o fs parts others used sizes sized_as has rest all = tree-is image o fs parts others used sizes sized_as has rest all
