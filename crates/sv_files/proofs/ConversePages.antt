-- Conditions 8 and 9 from the pages of the nodes.
use Rattle.std.proofs.Common.{◌≡◌, ◌<◌, ◌+◌, ◌-◌, ◌*◌, ◌==◌, ◌&&◌, ◌∙◌, ℕ, Bool, not, true, false, List, Some, None, inl, inr, ap, sym}
use Rattle.std.proofs.Common.{refl, subst, if◌then◌else◌, drop, length, nat_le, nat_lt, arith}
use Rattle.std.specs.FinMap as fmap
use Rattle.std.proofs.lemmas.Bool.{cases_eq, eq-eqb, ne_eqb}
use Rattle.std.proofs.lemmas.List.{get_or-drop}
use Rattle.sv_form.specs.declared.geometry.Geometry.{Geometry}
use Rattle.sv_form.specs.declared.inode.DiskInode.TheVariants.{Used}
use Rattle.sv_form.specs.Geometry.{IsGeometry, inode_count}
use Rattle.sv_form.specs.Image.{block_of, inode_of}
use Rattle.sv_form.specs.Node.{Node}
use Rattle.sv_store.specs.Held.{Held, Origin}
use Rattle.sv_plain.specs.Front.{size_of}
use Rattle.sv_plain.specs.Fs.{Fs}
use Rattle.sv_plain.specs.Whole.{IsPage}
use Rattle.sv_check.specs.InodeList.{all_zero, is_free, used_inodes}
use Rattle.sv_check.specs.PastSize.{has_tail, is_last, is_past, past_size_flaw, some_reached, tail_flaw}
use Rattle.sv_check.specs.Walk.{Reached, filled, reached}
use Rattle.sv_check.proofs.InodeReads.{shows_inode, zero_all}
use Rattle.sv_files.specs.ConverseInodes.{HasNumbersOf, HoldsAllInodes}
use Rattle.sv_files.specs.ConverseLines.{IsSizedAs}
use Rattle.sv_files.specs.ConverseNames.{IsAtRest}
use Rattle.sv_files.specs.ConversePages.{IsPagedWell, NodesArePagedWell}
use Rattle.sv_files.proofs.ConverseWalk.{addresses, node_at, same-inode}
use Rattle.sv_files.proofs.EachReached.{Each, each_map, none_passes}
use Rattle.sv_files.proofs.HeldPages.{IsFrom, each_from, not-empty, page-in}
use Rattle.sv_files.proofs.RangeTests.{none_found}

and_false : (t : Bool) → (t && false) ≡ false
and_false true = refl
and_false false = refl

past_test : (m n : ℕ) → n < m → nat_le m n ≡ false
past_test m n less = grind (arith, less)

module _ (image : List ℕ) (o : Origin) (fs : Fs) (parts : ℕ → Held) (others : Held) (used : List Bool) (sizes : IsGeometry o.sizes)
    (sized_as : IsSizedAs o.sizes image) (has : HasNumbersOf o fs) (rest : IsAtRest fs)
    (all : HoldsAllInodes o image fs parts others used) where
  abbrev g : Geometry
  g = o.sizes

  pub long : length image ≡ g.blocks * g.block_size
  long = sized_as.sized.sizes.length ∙ ap (λ (x : Geometry). x.blocks * x.block_size) sized_as.sizes

  -- an inode with a node
  module _ (n : ℕ) (node : Node) (there : fmap.get fs.nodes n ≡ Some node) where
    abbrev inode : List ℕ
    inode = inode_of g image n

    abbrev of_tree : Reached → Type 0
    of_tree r =
        IsFrom o image (parts n) (all.lines n) inode (all.nodes n node there).body node (all.nodes n node there).stands
        (addresses image o fs parts others used sizes sized_as all n node there) sizes long r

    pub each-reached : Each of_tree (reached g image inode)
    each-reached =
        each_from o image (parts n) (all.lines n) inode (all.nodes n node there).body node (all.nodes n node there).stands
        (addresses image o fs parts others used sizes sized_as all n node there) sizes long

    pub size-here : size_of inode ≡ node.size
    size-here =
        ap size_of (same-inode image o fs parts others used sizes sized_as all n node there)
        ∙ (shows_inode (all.nodes n node there).line (Used (all.nodes n node there).body) (all.nodes n node there).spelled).size
        ∙ (all.nodes n node there).stands.described.size

    -- a page that is reached is one that the node may have
    pub page-fits : (r : Reached) → of_tree r → r.height ≡ 0 → IsPage g.block_size node.size r.page (block_of g image r.block)
    page-fits r f flat =
        let p =
        page-in o image (parts n) (all.lines n) inode (all.nodes n node there).body node (all.nodes n node there).stands
        (addresses image o fs parts others used sizes sized_as all n node there) sizes long r f flat in
        let fits : IsPage fs.block node.size r.page p.bytes = (rest.whole.nodes n node there).pages r.page p.bytes p.there in
        subst (λ (b : ℕ). IsPage b node.size r.page (block_of g image r.block)) has.block
        (subst (λ (x : List ℕ). IsPage fs.block node.size r.page x) (sym p.shown) fits)

    past-none : (r : Reached) → of_tree r → is_past g image (size_of inode) r ≡ false
    past-none r f =
        elim (cases_eq r.height 0) [
          | inl flat ↦
              let within = (page-fits r f flat).within in
              let size = size-here in
              ap (λ (t : Bool). if t then nat_le (size_of inode) (r.page * g.block_size)
              else (length (filled g (block_of g image r.block)) == 0)) (eq-eqb r.height 0 flat)
              ∙ past_test (size_of inode) (r.page * g.block_size) (omega (arith, within, size))
          | inr high ↦
              ap (λ (t : Bool). if t then nat_le (size_of inode) (r.page * g.block_size)
              else (length (filled g (block_of g image r.block)) == 0)) (ne_eqb r.height 0 high)
              ∙ not-empty o image (parts n) (all.lines n) inode (all.nodes n node there).body node (all.nodes n node there).stands
              (addresses image o fs parts others used sizes sized_as all n node there) sizes long r f high
        ]

    tail-zero : (r : Reached) → of_tree r → (flat : r.height ≡ 0)
        → all_zero (drop (size_of inode - r.page * g.block_size) (block_of g image r.block)) ≡ true
    tail-zero r f flat =
        let size = size-here in
        zero_all (drop (size_of inode - r.page * g.block_size) (block_of g image r.block))
        (λ k. get_or-drop (size_of inode - r.page * g.block_size) (block_of g image r.block) k 0
        ∙ (page-fits r f flat).tail (size_of inode - r.page * g.block_size + k) (omega (arith, size)))

    tail-none : (r : Reached) → of_tree r → has_tail g image (size_of inode) r ≡ false
    tail-none r f =
        elim (cases_eq r.height 0) [
          | inl flat ↦
              ap (λ (t : Bool). is_last g (size_of inode) r && not t) (tail-zero r f flat) ∙ and_false (is_last g (size_of inode) r)
          | inr high ↦
              ap (λ (t : Bool). (t && nat_lt (r.page * g.block_size) (size_of inode)
              && nat_le (size_of inode) (r.page * g.block_size + g.block_size)) && not (all_zero
              (drop (size_of inode - r.page * g.block_size) (block_of g image r.block))))
              (ne_eqb r.height 0 high)
        ]

    none-past : some_reached g image (is_past g image) n ≡ false
    none-past =
        none_passes (is_past g image (size_of inode)) (reached g image inode)
        (each_map of_tree (λ r. is_past g image (size_of inode) r ≡ false) past-none (reached g image inode) each-reached)

    none-tailed : some_reached g image (has_tail g image) n ≡ false
    none-tailed =
        none_passes (has_tail g image (size_of inode)) (reached g image inode)
        (each_map of_tree (λ r. has_tail g image (size_of inode) r ≡ false) tail-none (reached g image inode) each-reached)

  abbrev is_used : ℕ → Bool
  is_used n = not (is_free (inode_of g image n))

  past-size-none : past_size_flaw g image ≡ None
  unfolding past_size_flaw used_inodes
  past-size-none =
      none_found (some_reached g image (is_past g image)) is_used (inode_count g) 1
      (λ n low high so. let x = node_at image o fs parts others used sizes sized_as all n low high so in none-past n x.node x.there)

  tail-flaw-none : tail_flaw g image ≡ None
  unfolding tail_flaw used_inodes
  tail-flaw-none =
      none_found (some_reached g image (has_tail g image)) is_used (inode_count g) 1
      (λ n low high so. let x = node_at image o fs parts others used sizes sized_as all n low high so in none-tailed n x.node x.there)

  paged_well : IsPagedWell image
  paged_well = record {
    past_size = subst (λ (x : Geometry). past_size_flaw x image ≡ None) (sym sized_as.sizes) past-size-none;
    tail = subst (λ (x : Geometry). tail_flaw x image ≡ None) (sym sized_as.sizes) tail-flaw-none;
  }

pub nodes_are_paged_well : NodesArePagedWell
nodes_are_paged_well image o fs parts others used sizes sized_as has rest all =
    paged_well image o fs parts others used sizes sized_as has rest all
