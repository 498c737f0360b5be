-- All sixteen conditions from the lines of a file system that was closed.
use Rattle.std.proofs.Common.{◌≡◌, ◌≢◌, ◌<◌, ◌+◌, ◌==◌, ◌||◌, ◌∷◌, [], ◌⊎◌, ◌∙◌, ℕ, Bool, not, true, false, List, Option, IsSome, is_some}
use Rattle.std.proofs.Common.{inl, inr, ap, sym, refl, map, slice_index, arith}
use Rattle.std.specs.List.{list_any}
use Rattle.std.proofs.lemmas.Bool.{eq-eqb, false≢true, ne_eqb}
use Rattle.sv_form.specs.declared.geometry.Geometry.{Geometry}
use Rattle.sv_form.specs.declared.inode.DiskInode.TheVariants.{Used}
use Rattle.sv_form.specs.Geometry.{IsDataBlock, IsGeometry, inode_count}
use Rattle.sv_form.specs.Image.{inode_of}
use Rattle.sv_store.specs.Held.{Held, Origin}
use Rattle.sv_super.specs.Core.{Head}
use Rattle.sv_super.specs.Count.{one_if, times}
use Rattle.sv_super.proofs.Counts.{times-cons}
use Rattle.sv_bmap.specs.Tree.{down}
use Rattle.sv_plain.specs.Front.{address_of}
use Rattle.sv_plain.specs.Fs.{Fs}
use Rattle.sv_check.specs.Chain.{walked}
use Rattle.sv_check.specs.InodeList.{is_free, used_inodes}
use Rattle.sv_check.specs.Sound.{IsSound, IsWalked, tree}
use Rattle.sv_check.specs.Walk.{Reached, first_page, height_of, is_among, met_of, reached, reached_under, walk}
use Rattle.sv_check.proofs.Flaws.{fails_nowhere}
use Rattle.sv_check.proofs.InodeReads.{shows_inode}
use Rattle.sv_check.proofs.WalkMet.{Met}
use Rattle.sv_files.specs.ConverseChain.{AreFreeBlocks, HasWholeChain}
use Rattle.sv_files.specs.ConverseInodes.{HasInodesInOrder, IsWalkedOnce}
use Rattle.sv_files.specs.ConverseLines.{IsSizedAs}
use Rattle.sv_files.specs.ConverseNames.{IsNamed, ShowsNodes}
use Rattle.sv_files.specs.ConversePages.{IsPagedWell}
use Rattle.sv_files.specs.ConverseSound.{ClosedIsSound, IsClosed, IsInTreeOf}
use Rattle.sv_files.proofs.ConverseChain.{flushed_is_chained}
use Rattle.sv_files.proofs.ConverseInodes.{nodes_have_inodes}
use Rattle.sv_files.proofs.ConverseNames.{nodes_named}
use Rattle.sv_files.proofs.ConversePages.{nodes_are_paged_well}
use Rattle.sv_files.proofs.ConverseSizes.{flushed_is_cached, flushed_is_sized}
use Rattle.sv_files.proofs.ConverseTree.{nodes_are_tree}
use Rattle.sv_files.proofs.ConverseWalk.{addresses, holds-reached, met-of, node_at, nodes_are_walked_once, number, same-inode}
use Rattle.sv_files.proofs.EachReached.{hole-down, met_under}
use Rattle.sv_files.proofs.HeldInode.{below}
use Rattle.sv_files.proofs.JoinedTimes.{one_in}
use Rattle.sv_files.proofs.RangeTests.{any_joined}

-- ---- lists

times_by : (t : Bool) (b : ℕ) (xs : List ℕ) → (is_among xs b ≡ true → 0 < times b xs) → (t || is_among xs b) ≡ true
    → 0 < one_if t + times b xs
times_by true b xs later e = omega arith
times_by false b xs later e = let rest = later e in omega (arith, rest)

times_among : (b : ℕ) (xs : List ℕ) → is_among xs b ≡ true → 0 < times b xs
times_among b [] e = absurd (false≢true e)
times_among b (x ∷ xs) e =
    let all = times_by (x == b) b xs (λ more. times_among b xs more) e in
    omega (arith, all, times-cons b x xs)

any_map : {X Y : Type 0} (f : X → Y) (test : Y → Bool) (xs : List X) → list_any test (map f xs) ≡ list_any (λ x. test (f x)) xs
any_map f test [] = refl
any_map f test (x ∷ xs) = ap (λ (t : Bool). test (f x) || t) (any_map f test xs)

module _ (image : List ℕ) (o : Origin) (fs : Fs) (parts : ℕ → Held) (others : Held) (used : List Bool) (head : Head) (order cached : List ℕ)
    (c : IsClosed o image fs parts others used head order cached) where
  abbrev g : Geometry
  g = o.sizes

  abbrev sizes : IsGeometry o.sizes
  sizes = c.flushed.has.sizes

  sized_as : IsSizedAs o.sizes image
  sized_as = flushed_is_sized image o others head order cached c.flushed

  abbrev is_used : ℕ → Bool
  is_used n = not (is_free (inode_of g image n))

  -- ---- the free blocks are those that the walk does not meet

  none_both : (n b : ℕ) → IsSome (parts n b 0) → IsSome (others b 0) → ⊥
  none_both n b mine theirs =
      false≢true (sym (ap (λ (p : Option (List ℕ)). is_some p) ((c.shared.apart n).at b 0 mine)) ∙ theirs)

  met-held : (b : ℕ) → is_among (walked g image) b ≡ true → (n : ℕ) × IsSome (parts n b 0)
  unfolding walk used_inodes
  met-held b met =
      let i = one_in number b is_used (met_of g image) (inode_count g) 1 (times_among b (walked g image) met) in
      let x = node_at image o fs parts others used sizes sized_as c.nodes i.at i.low i.high i.so in
      let there = i.some in
      let holds =
      holds-reached image o fs parts others used sizes sized_as c.nodes i.at x.node x.there b
      (omega (arith, there, met-of image o fs parts others used sizes sized_as c.nodes i.at b)) in
      let size = sizes.block_size in
      (i.at, holds.at 0 (omega (arith, size)))

  free-apart : (b : ℕ) → 0 < times b order → (t : Bool) → is_among (walked g image) b ≡ t → t ≡ false
  free-apart b some false is = refl
  free-apart b some true is =
      let at = met-held b is in
      let size = sizes.block_size in
      absurd (none_both at.0 b at.1 ((c.blocks.whole b some).at 0 (omega (arith, size))))

  -- a block of a node's tree is met
  module _ (n b : ℕ) (data_block : IsDataBlock o.sizes b) (i : IsInTreeOf o image fs parts others used c.nodes n b) where
    abbrev a : List ℕ
    a = (c.nodes.nodes n i.node i.there).body.addresses

    abbrev inode : List ℕ
    inode = inode_of g image n

    abbrev same : (k : ℕ) → k < 13 → address_of (inode_of o.sizes image n) k ≡ slice_index (c.nodes.nodes n i.node i.there).body.addresses k
    same = addresses image o fs parts others used sizes sized_as c.nodes n i.node i.there

    down-is : down (parts n) (address_of inode i.slot) i.ks ≡ b
    down-is = ap (λ (x : ℕ). down (parts n) x i.ks) (same i.slot i.spot.among) ∙ i.is

    some : b ≢ 0
    some none = (let least = data_block.least in let first = sizes.least_first in omega (arith, least, first, none))

    reached-here : list_any (λ (r : Reached). r.block == b) (reached g image inode) ≡ true
    unfolding Rattle.sv_form.specs.AddressTree.reached
    reached-here =
        let low = i.spot.among in
        let on : down (parts n) (address_of inode i.slot) i.ks ≢ 0 = λ none. some (sym down-is ∙ none) in
        let deep = i.spot.deep in
        any_joined (λ k. not (address_of inode k == 0)) (λ k. reached_under g image (height_of k) (first_page g k) (address_of inode k))
        (λ (r : Reached). r.block == b) 13 0 i.slot (omega arith) (omega (arith, low))
        (ap not (ne_eqb (address_of inode i.slot) 0 (hole-down o image (parts n) (c.nodes.lines n) (address_of inode i.slot) i.ks on)))
        (met_under o image (parts n) (c.nodes.lines n) (height_of i.slot) (first_page g i.slot) (address_of inode i.slot) i.ks
        (record { deep = omega (arith, deep); places = i.spot.places }) on
        (below o image (parts n) (c.nodes.lines n) inode a (c.nodes.nodes n i.node i.there).stands.tree same i.slot low)
        (λ (r : Reached). r.block == b)
        (λ r is. eq-eqb r.block b (is ∙ down-is)))

    used-here : is_used n ≡ true
    used-here =
        ap (λ (x : List ℕ). not (is_free x)) (same-inode image o fs parts others used sizes sized_as c.nodes n i.node i.there)
        ∙ ap not (shows_inode (c.nodes.nodes n i.node i.there).line (Used (c.nodes.nodes n i.node i.there).body)
        (c.nodes.nodes n i.node i.there).spelled).used

    met-here : is_among (walked g image) b ≡ true
    unfolding walk used_inodes
    met-here =
        let is = c.rest.whole.nodes n i.node i.there in
        let least = is.least in
        let most = is.most in
        let many = c.numbers.inodes in
        let mk : Reached → Met = λ r. record { inode = n; block = r.block } in
        any_map number (λ x. x == b) (walk g image)
        ∙ any_joined is_used (met_of g image) (λ m. number m == b) (inode_count g) 1 n (omega (arith, least))
        (omega (arith, most, many)) used-here
        (any_map mk (λ m. number m == b) (reached g image inode) ∙ reached-here)

  free_by : (b : ℕ) → IsDataBlock o.sizes b → is_among (walked g image) b ≡ false → IsSome (others b 0) ⊎ ((n : ℕ) × IsSome (parts n b 0))
      → 0 < times b order
  free_by b is none (inl here) = c.shared.tight_rest b 0 here is
  free_by b is none (inr at) = absurd (false≢true (sym none ∙ met-here at.0 b is (c.shared.tight at.0 b 0 at.1 is)))

  free-blocks : AreFreeBlocks o image others order
  free-blocks = record {
    sound = c.blocks;
    apart = λ b some. free-apart b some (is_among (walked g image) b) refl;
    all = λ b is none. free_by b is none (c.shared.each b is);
  }

  -- ---- the conditions

  chain : HasWholeChain image
  chain = flushed_is_chained image o others head order cached c.flushed free-blocks

  inodes : HasInodesInOrder image
  inodes = nodes_have_inodes image o fs parts others used sized_as c.numbers c.rest c.nodes

  once : IsWalkedOnce image
  once = nodes_are_walked_once image o fs parts others used sizes sized_as c.nodes

  pages : IsPagedWell image
  pages = nodes_are_paged_well image o fs parts others used sizes sized_as c.numbers c.rest c.nodes

  tree-is : tree image ≡ fs.nodes
  tree-is = nodes_are_tree image o fs parts others used sizes sized_as c.numbers c.rest c.nodes

  is_walked : IsWalked image
  is_walked = record {
    sized = sized_as.sized;
    kind = inodes.kind;
    size = inodes.size;
    range = once.range;
    twice = once.twice;
    past_size = pages.past_size;
    tail = pages.tail;
  }

  shows : ShowsNodes image fs
  shows = record {
    block = c.numbers.block ∙ ap (λ (x : Geometry). x.block_size) (sym sized_as.sizes);
    inodes = c.numbers.inodes ∙ ap (λ (x : Geometry). inode_count x) (sym sized_as.sizes);
    nodes = tree-is;
  }

  named : IsNamed image
  named = nodes_named image fs is_walked shows c.rest

  sound : IsSound image
  sound =
      fails_nowhere image
      (record {
        rooted = record {
          chained = record { walked = is_walked; chain = chain.chain; lost = chain.lost };
          cache = flushed_is_cached image o others head order cached c.flushed used c.inodes;
          root = named.root;
        };
        entry = named.entry;
      })
      named.dots named.links

pub closed_is_sound : ClosedIsSound
closed_is_sound image o fs parts others used head order cached c =
    (sound image o fs parts others used head order cached c, tree-is image o fs parts others used head order cached c)
