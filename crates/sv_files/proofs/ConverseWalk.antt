-- Conditions 6 and 7 from the address trees of the inodes.
use Rattle.std.proofs.Common.{◌≡◌, ◌≢◌, ◌≤◌, ◌<◌, ◌+◌, ◌==◌, ◌&&◌, ◌||◌, ◌∷◌, [], ◌∙◌, ℕ, Bool, not, true, false, List, Option, Some, None}
use Rattle.std.proofs.Common.{is_some, inl, inr, ap, sym, refl, subst, cond, if◌then◌else◌, map, replicate, slice_index, nat_lt}
use Rattle.std.proofs.Common.{option_and_then, arith}
use Rattle.std.specs.FinMap as fmap
use Rattle.std.proofs.lemmas.Bool.{cases_eq, false≢true, ne_eqb}
use Rattle.sv_form.specs.declared.geometry.Geometry.{Geometry}
use Rattle.sv_form.specs.declared.inode.DiskInode.TheVariants.{Used}
use Rattle.sv_form.specs.Geometry.{IsDataBlock, IsGeometry, inode_count, inode_place}
use Rattle.sv_form.specs.Image.{inode_of}
use Rattle.sv_form.specs.Node.{Node}
use Rattle.sv_store.specs.Held.{Held, HoldsBlock, Origin}
use Rattle.sv_super.specs.Count.{one_if, times}
use Rattle.sv_super.proofs.Counts.{times-cons}
use Rattle.sv_plain.specs.Front.{address_of}
use Rattle.sv_plain.specs.Fs.{Fs}
use Rattle.sv_check.specs.InodeList.{is_free, used_inodes}
use Rattle.sv_check.specs.Walk.{Reached, first_bad, is_data_block, is_new, met_of, nothing_met, range_flaw, reached, twice_flaw, walk}
use Rattle.sv_check.specs.Walk.{with_met}
use Rattle.sv_check.proofs.BooleanTests.{at_most-test, below-test, not_true}
use Rattle.sv_check.proofs.InodeReads.{shows_inode}
use Rattle.sv_check.proofs.WalkMet.{Met}
use Rattle.sv_check.proofs.TreeCounts.{map_map}
use Rattle.sv_files.specs.ConverseInodes.{HoldsAllInodes, HoldsInode, IsWalkedOnce, NodesAreWalkedOnce}
use Rattle.sv_files.specs.ConverseLines.{IsSizedAs}
use Rattle.sv_files.proofs.ConverseInodes.{held-inode}
use Rattle.sv_files.proofs.HeldInode.{IsInTree, held_in_tree, in_tree, once_in_tree}
use Rattle.sv_files.proofs.JoinedTimes.{few_in, met, one_in}

-- ---- a walk that meets data blocks alone, and each once, meets no bad number

abbrev pub number : Met → ℕ
number m = m.block

data_test : (g : Geometry) (b : ℕ) → IsDataBlock g b → is_data_block g b ≡ true
data_test g b is = ap (λ (t : Bool). t && nat_lt b g.blocks) (at_most-test g.first_data b is.least) ∙ below-test b g.blocks is.most

itself : (b : ℕ) → one_if (b == b) ≡ 1
itself b =
    let is : (b == b) ≡ true = grind arith in
    ap one_if is

new_number : (c b : ℕ) (rest : List Met) → met number b (record { inode = 0; block = b } ∷ rest) ≤ 1 → 0 < met number c rest → c ≢ b
new_number c b rest once some same =
    let one = itself b in
    let here : met number c rest ≡ met number b rest = ap (λ (x : ℕ). met number x rest) same in
    omega (arith, one, once, some, here, times-cons b b (map number rest))

no_bad : (g : Geometry) (list : List Met) (before : ℕ → Bool) → ((c : ℕ) → 0 < met number c list → IsDataBlock g c × (before c ≡ false))
    → ((c : ℕ) → met number c list ≤ 1)
    → first_bad g before list ≡ None
unfolding first_bad
no_bad g [] before good once = refl
no_bad g (m ∷ rest) before good once =
    let one = itself m.block in
    let is = good m.block (omega (arith, one, times-cons m.block m.block (map number rest))) in
    let new : is_new g before m.block ≡ true = ap (λ (t : Bool). t && not (before m.block)) (data_test g m.block is.0) ∙ ap not is.1 in
    ap (λ (t : Bool). cond t (first_bad g (with_met before m.block) rest) (Some m)) new
    ∙ no_bad g rest (with_met before m.block)
    (λ c some.
    let was = good c (omega (arith, some, times-cons c m.block (map number rest))) in
    (was.0, ap (λ (t : Bool). t || before c) (ne_eqb c m.block (new_number c m.block rest (once m.block) some)) ∙ was.1))
    (λ c. let few = once c in omega (arith, few, times-cons c m.block (map number rest)))

-- ---- all inodes

module _ (image : List ℕ) (o : Origin) (fs : Fs) (parts : ℕ → Held) (others : Held) (used : List Bool) (sizes : IsGeometry o.sizes)
    (sized_as : IsSizedAs o.sizes image)
    (all : HoldsAllInodes o image fs parts others used) where
  abbrev pub inode : ℕ → List ℕ
  inode n = inode_of o.sizes image n

  abbrev pub is_used : ℕ → Bool
  is_used n = not (is_free (inode n))

  -- an inode without a node is free
  zeros_free : (n : ℕ) → others (inode_place o.sizes n).block (inode_place o.sizes n).line ≡ Some (replicate 64 0)
      → is_free (inode n) ≡ true
  zeros_free n there = ap (λ (x : List ℕ). is_free x) (held-inode o image others n (replicate 64 0) all.other_lines there)

  free_by : (n : ℕ) → 1 ≤ n → n ≤ inode_count o.sizes → fmap.get fs.nodes n ≡ None → is_free (inode n) ≡ true
  free_by n least most none =
      elim (cases_eq n 1) [
        | inl one ↦ zeros_free n (ap (λ (m : ℕ). others (inode_place o.sizes m).block (inode_place o.sizes m).line) one ∙ all.first)
        | inr other ↦ zeros_free n (all.zeros.zeros n (all.free n (omega (arith, least, other)) most none))
      ]

  -- a used inode has a node
  pub record HasNode (n : ℕ) : Type 0 where
    pub node : Node
    pub there : fmap.get fs.nodes n ≡ Some node

  node_by : (n : ℕ) → 1 ≤ n → n ≤ inode_count o.sizes → is_used n ≡ true → (p : Option Node) → fmap.get fs.nodes n ≡ p → HasNode n
  node_by n least most so (Some node) is = record { node = node; there = is }
  node_by n least most so None is = absurd (false≢true (sym (not_true (is_free (inode n)) so) ∙ free_by n least most is))

  pub node_at : (n : ℕ) → 1 ≤ n → n < 1 + inode_count o.sizes → is_used n ≡ true → HasNode n
  node_at n least most so = node_by n least (omega (arith, most)) so (fmap.get fs.nodes n) refl

  -- what an inode with a node reaches
  module _ (n : ℕ) (node : Node) (there : fmap.get fs.nodes n ≡ Some node) where
    abbrev pub holds : HoldsInode o (parts n) n node
    holds = all.nodes n node there

    pub same-inode : inode n ≡ holds.line
    same-inode = held-inode o image (parts n) n holds.line (all.lines n) holds.there

    pub addresses : (k : ℕ) → k < 13 → address_of (inode n) k ≡ slice_index holds.body.addresses k
    addresses k low =
        ap (λ (x : List ℕ). address_of x k) same-inode ∙ (shows_inode holds.line (Used holds.body) holds.spelled).addresses k low

    abbrev block : Reached → ℕ
    block r = r.block

    spot-of : (c : ℕ) → 0 < met block c (reached o.sizes image (inode n))
        → IsInTree o image (parts n) (all.lines n) (inode n) holds.body.addresses holds.stands.tree addresses c
    spot-of c some = in_tree o image (parts n) (all.lines n) (inode n) holds.body.addresses holds.stands.tree addresses c some

    pub holds-reached : (c : ℕ) → 0 < met block c (reached o.sizes image (inode n)) → HoldsBlock o (parts n) c
    holds-reached c some =
        held_in_tree o image (parts n) (all.lines n) (inode n) holds.body.addresses holds.stands.tree addresses c (spot-of c some)

    pub data-reached : (c : ℕ) → 0 < met block c (reached o.sizes image (inode n)) → IsDataBlock o.sizes c
    data-reached c some =
        let i = spot-of c some in
        subst (λ (x : ℕ). IsDataBlock o.sizes x) i.is (holds.stands.data_blocks.at i.slot i.ks i.spot (λ none. i.some (sym i.is ∙ none)))

    pub once-reached : (c : ℕ) → met block c (reached o.sizes image (inode n)) ≤ 1
    once-reached c = once_in_tree o image (parts n) (all.lines n) (inode n) holds.body.addresses holds.stands.tree addresses c

  pub met-of : (n c : ℕ) → met number c (met_of o.sizes image n) ≡ met (λ (r : Reached). r.block) c (reached o.sizes image (inode n))
  met-of n c = ap (times c) (map_map (λ (r : Reached). record { inode = n; block = r.block }) number (reached o.sizes image (inode n)))

  -- a block that two inodes reach is held in two parts
  one-inode : (c n m : ℕ) (a b : Node) → fmap.get fs.nodes n ≡ Some a → fmap.get fs.nodes m ≡ Some b
      → 0 < met number c (met_of o.sizes image n) → 0 < met number c (met_of o.sizes image m) → n ≡ m
  one-inode c n m a b at bt one two =
      elim (cases_eq n m) [
        | inl same ↦ same
        | inr other ↦
            let size = sizes.block_size in
            let mine = (holds-reached n a at c (omega (arith, one, met-of n c))).at 0 (omega (arith, size)) in
            let theirs = (holds-reached m b bt c (omega (arith, two, met-of m c))).at 0 (omega (arith, size)) in
            let none = (all.apart n m other).at c 0 mine in
            absurd (false≢true (sym (ap (λ (p : Option (List ℕ)). is_some p) none) ∙ theirs))
      ]

  met-once : (c : ℕ) → met number c (walk o.sizes image) ≤ 1
  unfolding walk used_inodes
  met-once c =
      few_in number c is_used (met_of o.sizes image) (inode_count o.sizes) 1
      (λ n low high so. let x = node_at n low high so in let once = once-reached n x.node x.there c in omega (arith, once, met-of n c))
      (λ n m nl nh ml mh ns ms nm mm.
      let x = node_at n nl nh ns in
      let y = node_at m ml mh ms in
      one-inode c n m x.node y.node x.there y.there nm mm)

  met-data : (c : ℕ) → 0 < met number c (walk o.sizes image) → IsDataBlock o.sizes c
  unfolding walk used_inodes
  met-data c some =
      let i = one_in number c is_used (met_of o.sizes image) (inode_count o.sizes) 1 some in
      let x = node_at i.at i.low i.high i.so in
      let there = i.some in
      data-reached i.at x.node x.there c (omega (arith, there, met-of i.at c))

  none-bad : first_bad o.sizes nothing_met (walk o.sizes image) ≡ None
  none-bad = no_bad o.sizes (walk o.sizes image) nothing_met (λ c some. (met-data c some, refl)) met-once

  range-none : range_flaw o.sizes image ≡ None
  unfolding range_flaw
  range-none = ap (option_and_then (λ (m : Met). if is_data_block o.sizes m.block then None else Some m.inode)) none-bad

  twice-none : twice_flaw o.sizes image ≡ None
  unfolding twice_flaw
  twice-none = ap (option_and_then (λ (m : Met). if is_data_block o.sizes m.block then Some m.block else None)) none-bad

  walked_once : IsWalkedOnce image
  walked_once = record {
    range = subst (λ (x : Geometry). range_flaw x image ≡ None) (sym sized_as.sizes) range-none;
    twice = subst (λ (x : Geometry). twice_flaw x image ≡ None) (sym sized_as.sizes) twice-none;
  }

pub nodes_are_walked_once : NodesAreWalkedOnce
nodes_are_walked_once image o fs parts others used sizes sized_as all = walked_once image o fs parts others used sizes sized_as all
