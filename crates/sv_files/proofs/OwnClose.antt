-- A sound image is that of a file system that was closed: its lines are shared out by their owners.
use Rattle.std.proofs.Common.{◌≡◌, ◌≢◌, ◌≤◌, ◌<◌, ◌+◌, ◌-◌, ◌*◌, ◌/◌, ◌==◌, ◌&&◌, ◌||◌, ◌⊎◌, ℕ, zero, suc, Bool, true, false}
use Rattle.std.proofs.Common.{not, List, [], ◌∷◌, inl, inr, Option, Some, None, IsSome, is_some, find, filter, length, map, nat_lt, cond}
use Rattle.std.proofs.Common.{min, unwrap_or, arith, ap, refl, sym, subst, ◌∙◌}
use Rattle.std.specs.List.{list_any, range_with_len}
use Rattle.std.specs.Ordering.{nat_cmp}
use Rattle.std.specs.FinMap as fmap
use Rattle.std.proofs.lemmas.Bool.{cases_eq, eq-eqb, eqb-true, false≢true, lt-ltb, ne_eqb}
use Rattle.std.proofs.lemmas.Bool.Decides.{nat_tests}
use Rattle.sv_form.specs.declared.geometry.Geometry.{Geometry}
use Rattle.sv_form.specs.declared.inode.DiskInode.{DiskInode}
use Rattle.sv_form.specs.declared.inode.DiskInode.TheVariants.{Free, Used}
use Rattle.sv_form.specs.declared.inode.InodeBody.{InodeBody}
use Rattle.sv_form.specs.declared.place.Place.{Place}
use Rattle.sv_form.specs.declared.superblock.Super.{Super}
use Rattle.sv_form.specs.Geometry.{IsDataBlock, IsGeometry, IsPlace, block_lines, inode_count, inode_place}
use Rattle.sv_form.specs.Image.{block_of, geometry_of, inode_of, superblock_of}
use Rattle.sv_form.specs.Inode.{IsInode}
use Rattle.sv_form.specs.Node.{Node}
use Rattle.sv_form.specs.OwnerTable.{OwnerTable}
use Rattle.sv_form.specs.Superblock.{IsSuper, sizes_of}
use Rattle.sv_form.proofs.Images.{geometry_of-spelled}
use Rattle.sv_store.specs.Held.{Apart, Held, Origin, line_of, nothing_lent}
use Rattle.sv_store.proofs.Lines.{length-line_of}
use Rattle.sv_super.specs.Calls.{CanMount, head_of}
use Rattle.sv_super.specs.Core as core
use Rattle.sv_super.specs.Count.{one_if, times}
use Rattle.sv_super.specs.Inodes.{is_free_inode}
use Rattle.sv_check.specs.InodeList.{is_free, is_misread, kind_flaw, reads_inode, used_flags, used_inodes}
use Rattle.sv_check.specs.Loaded.{loaded}
use Rattle.sv_check.specs.Sound.{IsSound, IsWalked, line_owner, node_of, owns, tree}
use Rattle.sv_check.specs.Walk.{Reached, first_bad, nothing_met, reached, walk}
use Rattle.sv_check.proofs.BooleanTests.{not_false, not_true, or_left}
use Rattle.sv_check.proofs.CacheSteps.{used_at}
use Rattle.sv_check.proofs.InodeReads.{reads_spelled, shows_inode}
use Rattle.sv_check.proofs.InodeSteps.{none_in_range}
use Rattle.sv_check.proofs.LoadedTree.{nodes_to}
use Rattle.sv_check.proofs.SoundParts.{are_met, sound_walked}
use Rattle.sv_check.proofs.TreeNodes.{tree_node, tree_used, used_tree}
use Rattle.sv_check.proofs.WholeNodes.{length-block}
use Rattle.sv_inode.specs.StandsFor.{StandsFor}
use Rattle.sv_files.specs.ConverseInodes.{HoldsAllInodes, HoldsInode}
use Rattle.sv_files.specs.ConverseLines.{HasLines, IsFlushed}
use Rattle.sv_files.specs.ConverseSound.{IsInTreeOf, IsSharedOut}
use Rattle.sv_files.specs.FromImage.{HoldsLinesOf, IsUsedInode, MountsInodes, TellsOwners}
use Rattle.sv_files.specs.RoundTrip.{IsOwnClose, SoundIsClosed, owned_by, parts_of}
use Rattle.sv_files.proofs.FreeChainHeld.{can-mount, data_in, met, mounted-order, order, owner-some, reached-if}
use Rattle.sv_files.proofs.FreeInodes.{free_again, mounts-inodes, unreached, within}
use Rattle.sv_files.proofs.HeldBytes.{same_line, super-is}
use Rattle.sv_files.proofs.HeldInode.{in_tree}
use Rattle.sv_files.proofs.Hits.{any-hits, find-only, hits, hits-map}
use Rattle.sv_files.proofs.InodeStands.{stands-for}
use Rattle.sv_files.proofs.JoinedTimes as joined
use Rattle.sv_files.proofs.SoundAtRest.{sound_is_at_rest}
use Rattle.sv_files.proofs.TreeSpots.{is_at}
use Rattle.sv_files.proofs.Walked.{elsewhere, none-bad, one-place, stands_at}

-- ---- tests

all_three : (s t u : Bool) → s ≡ true → t ≡ true → u ≡ true → (s && (t && u)) ≡ true
all_three true t u e f d = ap (λ (x : Bool). x && u) f ∙ d
all_three false t u e f d = e

third_false : (s t u : Bool) → u ≡ false → (s && (t && u)) ≡ false
third_false true true u e = e
third_false true false u e = refl
third_false false t u e = refl

each_of : (s t u : Bool) → (s && (t && u)) ≡ true → (s ≡ true) × ((t ≡ true) × (u ≡ true))
each_of true true true e = (refl, (refl, refl))
each_of true true false e = absurd (false≢true e)
each_of true false u e = absurd (false≢true e)
each_of false t u e = absurd (false≢true e)

pub both_true : (s t : Bool) → (s || t) ≡ true → s ≡ false → t ≡ true
both_true true t e f = absurd (false≢true (sym f))
both_true false t e f = e

-- how often a block stands in a list, counted by a test
pub times-hits : (b : ℕ) (xs : List ℕ) → times b xs ≡ hits (λ x. x == b) xs
unfolding times
times-hits b [] = refl
times-hits b (x ∷ xs) = ap (λ (k : ℕ). one_if (x == b) + k) (times-hits b xs)

-- what is found in a filtered range
pub record IsFoundAt (p q : ℕ → Bool) (a m n : ℕ) : Type 0 where
  pub low : a ≤ n
  pub high : n < a + m
  pub left : q n ≡ true
  pub passes : p n ≡ true

found_wider : (p q : ℕ → Bool) (a m n : ℕ) → IsFoundAt p q (a + 1) m n → IsFoundAt p q a (suc m) n
found_wider p q a m n f = record {
  low = (let low = f.low in omega (arith, low));
  high = (let high = f.high in omega (arith, high));
  left = f.left;
  passes = f.passes;
}

same_number : (a n : ℕ) → Some a ≡ Some n → a ≡ n
same_number a n e = ap (λ (o : Option ℕ). unwrap_or o 0) e

found_step : (p q : ℕ → Bool) (a m n : ℕ) (u v : Bool) → q a ≡ u → p a ≡ v
    → (find p (filter q (range_with_len (a + 1) m)) ≡ Some n → IsFoundAt p q (a + 1) m n)
    → find p (cond u (a ∷ filter q (range_with_len (a + 1) m)) (filter q (range_with_len (a + 1) m))) ≡ Some n → IsFoundAt p q a (suc m) n
found_step p q a m n false v left passes rest e = found_wider p q a m n (rest e)
found_step p q a m n true true left passes rest e =
    let found : find p (a ∷ filter q (range_with_len (a + 1) m)) ≡ Some a =
    ap (λ (t : Bool). cond t (Some a) (find p (filter q (range_with_len (a + 1) m)))) passes in
    let same : a ≡ n = same_number a n (sym found ∙ e) in
    record {
      low = omega (arith, same);
      high = omega (arith, same);
      left = ap q (sym same) ∙ left;
      passes = ap p (sym same) ∙ passes;
    }
found_step p q a m n true false left passes rest e =
    found_wider p q a m n (rest (sym (ap (λ (t : Bool). cond t (Some a) (find p (filter q (range_with_len (a + 1) m)))) passes) ∙ e))

pub found_at : (p q : ℕ → Bool) (m a n : ℕ) → find p (filter q (range_with_len a m)) ≡ Some n → IsFoundAt p q a m n
found_at p q zero a n e = let no : ⊥ = cc e in absurd no
found_at p q (suc m) a n e = found_step p q a m n (q a) (p a) refl refl (found_at p q m (a + 1) n) e

pub some_found : (o : Option ℕ) (n : ℕ) → 1 ≤ n → unwrap_or o 0 ≡ n → o ≡ Some n
some_found None n least e = absurd (omega (arith, e, least))
some_found (Some k) n least e = ap (λ (x : ℕ). Some x) e

-- ---- the lines of an image

module _ (image : List ℕ) where
  abbrev g : Geometry
  g = geometry_of image

  abbrev at : ℕ → ℕ → Place
  at b l = record { block = b; line = l }

  abbrev test : ℕ → ℕ → ℕ → Bool
  test n b l = nat_lt b g.blocks && (nat_lt l (block_lines g) && (line_owner g image (at b l) == n))

  own-held : (n b l : ℕ) → IsPlace g (at b l) → line_owner g image (at b l) ≡ n
      → owned_by image n b l ≡ Some (line_of (block_of g image b) l)
  own-held n b l place owner =
      ap (λ (t : Bool). cond t (Some (line_of (block_of g image b) l)) None)
      (all_three (nat_lt b g.blocks) (nat_lt l (block_lines g)) (line_owner g image (at b l) == n) (lt-ltb b g.blocks place.block)
      (lt-ltb l (block_lines g) place.line) (eq-eqb (line_owner g image (at b l)) n owner))

  none-other : (n b l : ℕ) → line_owner g image (at b l) ≢ n → owned_by image n b l ≡ None
  none-other n b l other =
      ap (λ (t : Bool). cond t (Some (line_of (block_of g image b) l)) None)
      (third_false (nat_lt b g.blocks) (nat_lt l (block_lines g)) (line_owner g image (at b l) == n)
      (ne_eqb (line_owner g image (at b l)) n other))

  record IsOwned (n b l : ℕ) : Type 0 where
    place : IsPlace g (at b l)
    owner : line_owner g image (at b l) ≡ n
    is : owned_by image n b l ≡ Some (line_of (block_of g image b) l)

  owned_step : (n b l : ℕ) (t : Bool) → test n b l ≡ t → IsSome (cond t (Some (line_of (block_of g image b) l)) None) → IsOwned n b l
  owned_step n b l false e some = let no : ⊥ = cc some in absurd no
  owned_step n b l true e some =
      let parts = each_of (nat_lt b g.blocks) (nat_lt l (block_lines g)) (line_owner g image (at b l) == n) e in
      let first = parts.0 in
      let second = parts.1.0 in
      let low : b < g.blocks = grind (nat_tests, arith, first) in
      let less : l < block_lines g = grind (nat_tests, arith, second) in
      let owner : line_owner g image (at b l) ≡ n = eqb-true (line_owner g image (at b l)) n parts.1.1 in
      record { place = record { block = low; line = less }; owner = owner; is = own-held n b l (record { block = low; line = less }) owner }

  held-own : (n b l : ℕ) → IsSome (owned_by image n b l) → IsOwned n b l
  held-own n b l some = owned_step n b l (test n b l) refl some

  some_of : (o : Option (List ℕ)) (line : List ℕ) → o ≡ Some line → IsSome o
  some_of o line e = ap is_some e

  same_lines : (a b : List ℕ) → Some a ≡ Some b → a ≡ b
  same_lines a b e = ap (λ (o : Option (List ℕ)). unwrap_or o []) e

  pub lines : (n : ℕ) → HasLines g image (owned_by image n)
  lines n = record {
    at = λ b l line e.
        (let o = held-own n b l (some_of (owned_by image n b l) line e) in same_lines line (line_of (block_of g image b) l) (sym e ∙ o.is));
  }

  pub holds : (n : ℕ) → HoldsLinesOf g image n (owned_by image n)
  holds n = record { own = λ b l place owner. own-held n b l place owner }

  part-lines : (n : ℕ) → HasLines g image (parts_of image n)
  part-lines zero = record { at = λ b l line e. (let no : ⊥ = cc e in absurd no) }
  part-lines (suc n) = lines (suc n)

  part-is : (n : ℕ) → 1 ≤ n → parts_of image n ≡ owned_by image n
  part-is zero least = absurd (omega (arith, least))
  part-is (suc n) least = refl

  record IsPartOf (n b l : ℕ) : Type 0 where
    least : 1 ≤ n
    owned : IsOwned n b l

  part-own : (n b l : ℕ) → IsSome (parts_of image n b l) → IsPartOf n b l
  part-own zero b l some = let no : ⊥ = cc some in absurd no
  part-own (suc n) b l some = record { least = omega arith; owned = held-own (suc n) b l some }

  part-other : (n b l : ℕ) → line_owner g image (at b l) ≢ n → parts_of image n b l ≡ None
  part-other zero b l other = refl
  part-other (suc n) b l other = none-other (suc n) b l other

  parts-apart : (n m : ℕ) → n ≢ m → Apart (parts_of image n) (parts_of image m)
  parts-apart n m ne = record {
    at = λ b l some. (let p = part-own n b l some in part-other m b l (λ e. ne (sym p.owned.owner ∙ e)));
  }

  rest-apart : (n : ℕ) → Apart (parts_of image n) (owned_by image 0)
  rest-apart n = record {
    at = λ b l some.
        (let p = part-own n b l some in
        let least = p.least in
        let owner = p.owned.owner in
        none-other 0 b l (λ e. omega (arith, e, owner, least)));
  }

  module _ (base : Origin) (sound : IsSound image) (t : OwnerTable) (tells : TellsOwners g image t) (s : Super)
      (is : IsSuper (superblock_of image) s) where
    abbrev o : Origin
    o = record base { sizes = g }

    w : IsWalked image
    w = sound_walked image sound

    abbrev used : List Bool
    used = used_flags g image

    abbrev others : Held
    others = owned_by image 0

    sizes : IsGeometry g
    sizes = sound.sized.sizes.bounds

    long : length image ≡ g.blocks * g.block_size
    long = sound.sized.sizes.length

    no_bad : first_bad g nothing_met (walk g image) ≡ None
    no_bad = none-bad g image (are_met image sound).range (are_met image sound).twice

    abbrev free_order : List ℕ
    free_order = order o image sizes long no_bad (are_met image sound).chain (are_met image sound).lost t tells others (holds 0)

    mount : CanMount o others nothing_lent t s.free.items
    mount = can-mount o image sizes long no_bad (are_met image sound).chain (are_met image sound).lost t tells others
        (holds 0) nothing_lent refl s is

    order-is : mount.order ≡ free_order
    unfolding mount
    order-is = mounted-order o image sizes long no_bad (are_met image sound).chain (are_met image sound).lost t tells others
        (holds 0) nothing_lent refl s is

    -- ---- the rest

    flushed : IsFlushed o image others (head_of s) mount.order s.inodes.items
    flushed =
        let same : g ≡ sizes_of s = geometry_of-spelled image s is in
        let type : s.block_type ≡ 2 = sym is.block_type ∙ sound.sized.type.type in
        record {
          has = record {
            sizes = sizes;
            length = long;
            block_type = type;
            first_data = sym (ap (λ (x : Geometry). x.first_data) same);
            blocks = sym (ap (λ (x : Geometry). x.blocks) same);
          };
          lines = lines 0;
          super = mount.super;
          written = record {
            list = s.free.items;
            spelled = subst (λ (bytes : List ℕ). IsSuper bytes s) (sym (super-is o image others sizes long (lines 0) mount.super)) is;
            chain = mount.chain;
          };
        }

    inodes : MountsInodes o others used s.inodes.items
    inodes = mounts-inodes image w (are_met image sound).cache used refl o refl others (holds 0) s is

    blocks : core.IsSound o others nothing_lent (λ b. times b mount.order)
    blocks = record {
      super = mount.super;
      lent = refl;
      in_data = λ b some. data_in o image sizes long no_bad (are_met image sound).chain (are_met image sound).lost t tells others
          (holds 0) b
          (subst (λ (l : List ℕ). 0 < times b l) order-is some);
      whole = mount.whole;
      once = λ b. subst (λ (l : List ℕ). times b l ≤ 1) (sym order-is)
          (met o image sizes long no_bad (are_met image sound).chain (are_met image sound).lost t tells others (holds 0) b).once;
    }

    -- ---- a used inode

    pub same-nodes : tree image ≡ nodes_to g image (inode_count g)
    unfolding tree used_inodes
    same-nodes = refl

    pub used-node : (n : ℕ) → IsUsedInode g image n → fmap.get (tree image) n ≡ Some (node_of g image (inode_of g image n))
    used-node n u =
        ap (λ (m : fmap.FinMap nat_cmp Node). fmap.get m n) same-nodes
        ∙ used_tree g image n u.least (let most = u.most in omega (arith, most)) u.used

    pub node-used : (n : ℕ) (node : Node) → fmap.get (tree image) n ≡ Some node → IsUsedInode g image n
    node-used n node there =
        let i = tree_used g image n node (ap (λ (m : fmap.FinMap nat_cmp Node). fmap.get m n) (sym same-nodes) ∙ there) in
        let low = i.low in
        let high = i.high in
        record { least = low; most = omega (arith, high); used = i.used }

    node-is : (n : ℕ) (node : Node) → fmap.get (tree image) n ≡ Some node → node ≡ node_of g image (inode_of g image n)
    node-is n node there =
        tree_node g image n node (ap (λ (m : fmap.FinMap nat_cmp Node). fmap.get m n) (sym same-nodes) ∙ there)

    abbrev is_used : ℕ → Bool
    is_used k = not (is_free (inode_of g image k))

    used-of : (k : ℕ) → 1 ≤ k → k < 1 + inode_count g → is_used k ≡ true → IsUsedInode g image k
    used-of k low high left = record { least = low; most = omega (arith, high); used = not_true (is_free (inode_of g image k)) left }

    or_first : (a b : Bool) → a ≡ true → (a || b) ≡ true
    or_first true b e = refl
    or_first false b e = absurd (false≢true e)

    -- the line of a used inode is its own
    pub own-line : (n : ℕ) → IsUsedInode g image n → line_owner g image (inode_place g n) ≡ n
    unfolding line_owner used_inodes
    own-line n u =
        let p : Place = inode_place g n in
        let here : stands_at g sizes p n ≡ true =
        (let one : ((inode_place g n).block == p.block) ≡ true = eq-eqb (inode_place g n).block p.block refl in
        ap (λ (t : Bool). t && ((inode_place g n).line == p.line)) one ∙ eq-eqb (inode_place g n).line p.line refl) in
        let most = u.most in
        ap (λ (x : Option ℕ). unwrap_or x 0)
        (find-only (owns g image p) is_used (inode_count g) 1 n u.least (omega (arith, most)) (ap not u.used)
        (or_first (stands_at g sizes p n) (list_any (is_at p.block) (reached g image (inode_of g image n))) here)
        (λ k low high left so.
        one-place g sizes n k u.least low
        (stands_only (stands_at g sizes p k) (list_any (is_at p.block) (reached g image (inode_of g image k)))
        (unreached g image sizes long no_bad others (holds 0) n k u.least u.most (used-of k low high left)) so)))
      where
        stands_only : (a b : Bool) → b ≡ false → (a || b) ≡ true → a ≡ true
        stands_only true b none e = refl
        stands_only false b none e = absurd (false≢true (sym none ∙ e))

    line-there : (n : ℕ) → IsUsedInode g image n
        → parts_of image n (inode_place g n).block (inode_place g n).line ≡ Some (inode_of g image n)
    line-there n u =
        ap (λ (h : Held). h (inode_place g n).block (inode_place g n).line) (part-is n u.least)
        ∙ own-held n (inode_place g n).block (inode_place g n).line
        (within g image sizes long no_bad others (holds 0) n u.least u.most) (own-line n u)
        ∙ ap (λ (x : List ℕ). Some x) (sym (same_line g image (inode_place g n)))

    pub line-long : (n : ℕ) → IsUsedInode g image n → length (inode_of g image n) ≡ 64
    line-long n u =
        let place = within g image sizes long no_bad others (holds 0) n u.least u.most in
        let b : ℕ = (inode_place g n).block in
        let l : ℕ = (inode_place g n).line in
        let size = sizes.block_size in
        let block : length (block_of g image b) ≡ g.block_size = length-block g image b sizes long place.block in
        let cut : length (line_of (block_of g image b) l)
        ≡ min 64 (length (block_of g image b) - l * 64) = length-line_of (block_of g image b) l in
        let same : length (inode_of g image n) ≡ length (line_of (block_of g image b) l) =
        ap (λ (x : List ℕ). length x) (same_line g image (inode_place g n)) in
        let rows : block_lines g ≡ 16 = ap (λ (x : ℕ). x / 64) size in
        let low = place.line in
        omega (arith, cut, same, block, size, rows, low)

    pub record HasBody (n : ℕ) : Type 0 where
      pub body : InodeBody
      pub spelled : IsInode (inode_of g image n) (Used body)

    body_step : (n : ℕ) (i : DiskInode) → IsUsedInode g image n → IsInode (inode_of g image n) i → HasBody n
    body_step n Free u spelled = absurd (false≢true (sym u.used ∙ shows_inode (inode_of g image n) Free spelled))
    body_step n (Used body) u spelled = record { body = body; spelled = spelled }

    pub body-of : (n : ℕ) → IsUsedInode g image n → HasBody n
    unfolding kind_flaw
    body-of n u =
        let most = u.most in
        let fits : is_misread n (inode_of g image n) ≡ false =
        none_in_range (λ k. is_misread k (inode_of g image k)) 1 (inode_count g) (are_met image sound).kind n u.least
        (omega (arith, most)) in
        let reads : reads_inode (inode_of g image n) ≡ true =
        not_false (reads_inode (inode_of g image n))
        (or_left (not (reads_inode (inode_of g image n))) ((n == 1) && not (is_free (inode_of g image n))) fits) in
        let i = reads_spelled (inode_of g image n) (line-long n u) reads in
        body_step n i.0 u i.1

    part-holds : (n : ℕ) → 1 ≤ n → HoldsLinesOf g image n (parts_of image n)
    part-holds n least = subst (λ (h : Held). HoldsLinesOf g image n h) (sym (part-is n least)) (holds n)

    node-held : (n : ℕ) (node : Node) → fmap.get (tree image) n ≡ Some node → HoldsInode o (parts_of image n) n node
    node-held n node there =
        let u = node-used n node there in
        let b = body-of n u in
        record {
          line = inode_of g image n;
          there = line-there n u;
          body = b.body;
          spelled = b.spelled;
          stands = subst (λ (x : Node). StandsFor o (parts_of image n) b.body x) (sym (node-is n node there))
              (stands-for image w n u o refl (parts_of image n) (part-holds n u.least) b.body b.spelled);
        }

    -- a number without a node is free
    none-free : (n : ℕ) → 2 ≤ n → n ≤ inode_count g → fmap.get (tree image) n ≡ None → is_free_inode used n ≡ true
    none-free n least most none =
        free_again used n least (used_at g image used n true refl least most ∙ ap not (by (is_free (inode_of g image n)) refl))
      where
        by : (x : Bool) → is_free (inode_of g image n) ≡ x → is_free (inode_of g image n) ≡ true
        by true e = e
        by false e =
            (let there = used-node n (record { least = omega (arith, least); most = most; used = e }) in
            let no : ⊥ = cc (none, there) in
            absurd no)

    nodes : HoldsAllInodes o image (loaded image) (parts_of image) others used
    nodes = record {
      lines = part-lines;
      other_lines = lines 0;
      nodes = node-held;
      apart = parts-apart;
      free = none-free;
      zeros = inodes.can.lines;
      first = inodes.first;
    }

    -- ---- the lines are shared out

    record IsOwner (n b : ℕ) : Type 0 where
      used_n : IsUsedInode g image n
      hit : list_any (is_at b) (reached g image (inode_of g image n)) ≡ true

    owner-of : (n b l : ℕ) → 1 ≤ n → IsDataBlock g b → line_owner g image (at b l) ≡ n → IsOwner n b
    unfolding line_owner used_inodes
    owner-of n b l least inside is =
        let f = found_at (owns g image (at b l)) is_used (inode_count g) 1 n
        (some_found (find (owns g image (at b l)) (filter is_used (range_with_len 1 (inode_count g)))) n least is) in
        let u = used-of n f.low f.high f.left in
        record {
          used_n = u;
          hit = both_true (stands_at g sizes (at b l) n) (list_any (is_at b) (reached g image (inode_of g image n))) f.passes
              (elsewhere g sizes (at b l) n least u.most (inr inside.least));
        }

    place-of : (b : ℕ) → IsDataBlock g b → IsPlace g (at b 0)
    place-of b inside =
        let size = sizes.block_size in
        let rows : block_lines g ≡ 16 = ap (λ (x : ℕ). x / 64) size in
        record { block = inside.most; line = omega (arith, rows) }

    each-line : (b : ℕ) → IsDataBlock g b → IsSome (others b 0) ⊎ ((n : ℕ) × IsSome (parts_of image n b 0))
    each-line b inside =
        let place = place-of b inside in
        let n : ℕ = line_owner g image (at b 0) in
        elim (cases_eq n 0) as (λ _. IsSome (others b 0) ⊎ ((n : ℕ) × IsSome (parts_of image n b 0))) [
          | inl none ↦ inl (ap is_some (own-held 0 b 0 place none))
          | inr some ↦ inr (
            n,
            ap is_some (ap (λ (h : Held). h b 0) (part-is n (omega (arith, some))) ∙ own-held n b 0 place refl),
          )
        ]

    tight-rest : (b l : ℕ) → IsSome (others b l) → IsDataBlock g b → 0 < times b mount.order
    tight-rest b l some inside =
        let p = held-own 0 b l some in
        subst (λ (l : List ℕ). 0 < times b l) (sym order-is) (elim (cases_eq (times b free_order) 0) as (λ _. 0 < times b free_order) [
          | inr there ↦ omega (arith, there)
          | inl gone ↦
              let among =
              reached-if o image sizes long no_bad (are_met image sound).chain (are_met image sound).lost t tells others (holds 0) b gone
              inside.least inside.most in
              absurd (owner-some o image sizes long no_bad (are_met image sound).chain (are_met image sound).lost t tells others
              (holds 0) b l among p.owner)
        ])

    tight : (n b l : ℕ) → IsSome (parts_of image n b l) → IsDataBlock g b
        → IsInTreeOf o image (loaded image) (parts_of image) others used nodes n b
    unfolding node-held nodes
    tight n b l some inside =
        let p = part-own n b l some in
        let owner = owner-of n b l p.least inside p.owned.owner in
        let node : Node = node_of g image (inode_of g image n) in
        let there : fmap.get (tree image) n ≡ Some node = used-node n owner.used_n in
        let k = node-held n node there in
        let shows = shows_inode (inode_of g image n) (Used k.body) k.spelled in
        let hit : 0 < hits (is_at b) (reached g image (inode_of g image n)) =
        any-hits (is_at b) (reached g image (inode_of g image n)) owner.hit in
        let count = hits-map (λ x. x == b) (λ (r : Reached). r.block) (reached g image (inode_of g image n)) in
        let met_some : 0 < joined.met (λ (r : Reached). r.block) b (reached g image (inode_of g image n)) =
        omega (arith, hit, count, times-hits b (map (λ (r : Reached). r.block) (reached g image (inode_of g image n)))) in
        let i = in_tree o image (parts_of image n) (part-lines n)
        (inode_of g image n) k.body.addresses k.stands.tree shows.addresses b met_some in
        record { node = node; there = there; slot = i.slot; ks = i.ks; spot = i.spot; is = i.is }

    shared : IsSharedOut o image (loaded image) (parts_of image) others used mount.order nodes
    shared = record { apart = rest-apart; each = each-line; tight_rest = tight-rest; tight = tight }

    closed : IsOwnClose o image s
    closed = record {
      order = mount.order;
      closed = record {
        flushed = flushed;
        numbers = record { block = refl; greatest = refl; inodes = refl };
        rest = (sound_is_at_rest image sound).1;
        nodes = nodes;
        inodes = record { inodes = inodes.can.lines; free = inodes.can.free; once = inodes.can.once };
        blocks = blocks;
        shared = shared;
      };
    }

pub sound_is_closed : SoundIsClosed
sound_is_closed image sound t tells o e s is =
    let same : o ≡ record o { sizes = geometry_of image } = λ i. record o { sizes = e i } in
    subst (λ (x : Origin). IsOwnClose x image s) (sym same) (closed image o sound t tells s is)
