-- The lines of free inodes: they are nobody's, and zero bytes; and the cached numbers are free, each once.
use Rattle.std.proofs.Common.{◌≡◌, ◌≤◌, ◌<◌, ◌+◌, ◌-◌, ◌*◌, ◌/◌, ◌%◌, ◌==◌, ◌&&◌, ◌||◌, ℕ, zero, suc, Bool, true, false, not, List, [], ◌∷◌}
use Rattle.std.proofs.Common.{inl, inr, Option, Some, None, length, nat_le, nat_lt, replicate, unwrap_or, get_or, cond, arith, ap, refl}
use Rattle.std.proofs.Common.{sym, subst, ◌∙◌}
use Rattle.std.specs.List.{list_any, slice_range}
use Rattle.std.proofs.lemmas.Bool.{cases_lt, eq-eqb, eqb-true, false≢true}
use Rattle.std.proofs.lemmas.List.{ext_get_or, get_or_past, length-replicate}
use Rattle.sv_form.specs.declared.geometry.Geometry.{Geometry}
use Rattle.sv_form.specs.declared.place.Place.{Place}
use Rattle.sv_form.specs.declared.superblock.Super.{Super}
use Rattle.sv_form.specs.Geometry.{IsGeometry, IsPlace, block_lines, inode_count, inode_place}
use Rattle.sv_form.specs.Image as image_words
use Rattle.sv_form.specs.Image.{block_of, geometry_of, inode_of, superblock_of}
use Rattle.sv_form.specs.Superblock.{IsSuper}
use Rattle.sv_check.specs.InodeCache.{cache_flaw, cached, first_uncacheable, is_cacheable}
use Rattle.sv_check.specs.InodeList.{is_free, used_inodes, is_misread, kind_flaw, reads_inode, used_flags}
use Rattle.sv_check.specs.Sound.{IsWalked, line_owner, owns}
use Rattle.sv_check.specs.Walk.{first_bad, nothing_met, reached, walk, with_met}
use Rattle.sv_check.proofs.BooleanTests.{not_false, not_true, or_right, or_true}
use Rattle.sv_check.proofs.CacheSteps.{cached-read, flags_length, used_at}
use Rattle.sv_check.proofs.InodeReads.{and_first, and_second, zero_each}
use Rattle.sv_check.proofs.InodeSteps.{none_in_range}
use Rattle.sv_check.proofs.WholeNodes.{length-block}
use Rattle.sv_store.specs.Held.{Held, Origin, line_of}
use Rattle.sv_store.proofs.Lines.{length-line_of}
use Rattle.sv_super.specs.Count.{one_if, times}
use Rattle.sv_super.specs.Inodes.{is_free_inode}
use Rattle.sv_files.specs.FromImage.{HoldsLinesOf, IsUsedInode, MountsInodes}
use Rattle.sv_files.proofs.Hits.{any-hits, find-never}
use Rattle.sv_files.proofs.OwnBlocks.{reached-data}
use Rattle.sv_files.proofs.TreeSpots.{is_at}
use Rattle.sv_files.proofs.Walked.{in-list, none-bad, one-place, stands_at}

index_zeros : (n k : ℕ) → get_or (replicate {A = ℕ} n 0) k 0 ≡ 0
index_zeros zero k = refl
index_zeros (suc n) zero = refl
index_zeros (suc n) (suc k) = index_zeros n k

all_zeros : (xs : List ℕ) → length xs ≡ 64 → ((k : ℕ) → get_or xs k 0 ≡ 0) → xs ≡ replicate 64 0
all_zeros xs long each =
    ext_get_or 0 xs (replicate 64 0) (long ∙ sym (length-replicate {A = ℕ} 64 0)) (λ k low. each k ∙ sym (index_zeros 64 k))

module _ (g : Geometry) (image : List ℕ) (sizes : IsGeometry g) (long : length image ≡ g.blocks * g.block_size)
    (none : first_bad g nothing_met (walk g image) ≡ None) (h : Held) (holds : HoldsLinesOf g image 0 h) where
  lines : block_lines g ≡ 16
  lines = ap (λ (s : ℕ). s / 64) sizes.block_size

  count : inode_count g ≡ (g.first_data - 2) * 1024 / 64
  count = ap (λ (s : ℕ). (g.first_data - 2) * s / 64) sizes.block_size

  abbrev is_used : ℕ → Bool
  is_used k = not (is_free (inode_of g image k))

  -- no inode reaches the block of an inode's line
  pub unreached : (n k : ℕ) → 1 ≤ n → n ≤ inode_count g → IsUsedInode g image k
      → list_any (is_at (inode_place g n).block) (reached g image (inode_of g image k)) ≡ false
  unreached n k least most u = by (list_any (is_at (inode_place g n).block) (reached g image (inode_of g image k))) refl where
    by : (t : Bool) → list_any (is_at (inode_place g n).block) (reached g image (inode_of g image k)) ≡ t → t ≡ false
    by false e = refl
    by true e =
        absurd (false≢true (sym (in-list g sizes n least most)
        ∙ reached-data g image sizes none k u (inode_place g n).block
        (any-hits (is_at (inode_place g n).block) (reached g image (inode_of g image k)) e)))

  not_there : (n k : ℕ) → 1 ≤ n → 1 ≤ k → is_free (inode_of g image n) ≡ true → is_used k ≡ true
      → stands_at g sizes (inode_place g n) k ≡ false
  not_there n k least some free used_k = by (stands_at g sizes (inode_place g n) k) refl where
    by : (t : Bool) → stands_at g sizes (inode_place g n) k ≡ t → t ≡ false
    by false e = refl
    by true e =
        let same : k ≡ n = one-place g sizes n k least some e in
        absurd (false≢true (sym (ap not (ap (λ (x : ℕ). is_free (inode_of g image x)) same ∙ free)) ∙ used_k))

  neither : (s t : Bool) → s ≡ false → t ≡ false → (s || t) ≡ false
  neither true t e f = e
  neither false t e f = f

  nobody : (n : ℕ) → 1 ≤ n → n ≤ inode_count g → is_free (inode_of g image n) ≡ true → line_owner g image (inode_place g n) ≡ 0
  unfolding line_owner used_inodes
  nobody n least most free =
      ap (λ (o : Option ℕ). unwrap_or o 0)
      (find-never (owns g image (inode_place g n)) is_used (inode_count g) 1
      (λ k low high is. neither (stands_at g sizes (inode_place g n) k)
      (list_any (is_at (inode_place g n).block) (reached g image (inode_of g image k))) (not_there n k least low free is)
      (unreached n k least most (record { least = low; most = omega (arith, high); used = not_true (is_free (inode_of g image k)) is }))))

  pub within : (n : ℕ) → 1 ≤ n → n ≤ inode_count g → IsPlace g (inode_place g n)
  within n least most =
      let block : (inode_place g n).block ≡ (n - 1) / 16 + 2 = ap (λ (s : ℕ). (n - 1) / s + 2) lines in
      let line : (inode_place g n).line ≡ (n - 1) % 16 = ap (λ (s : ℕ). (n - 1) % s) lines in
      let some = sizes.some_data in
      record { block = omega (arith, block, most, least, count, some); line = omega (arith, line, lines) }

  -- the bytes of a line, by the words of an image and by those of a stake
  same_line : (p : Place) → line_of (block_of g image p.block) p.line ≡ image_words.line_of g image p
  unfolding line_of Rattle.sv_form.specs.Image.line_of
  same_line p =
      let turn : p.line * 64 ≡ 64 * p.line = omega arith in
      ap (λ (x : ℕ). slice_range (block_of g image p.block) x (x + 64)) turn

  zero_bytes : (n : ℕ) → 1 ≤ n → n ≤ inode_count g → is_free (inode_of g image n) ≡ true
      → line_of (block_of g image (inode_place g n).block) (inode_place g n).line ≡ replicate 64 0
  zero_bytes n least most free =
      let at = within n least most in
      let block : length (block_of g image (inode_place g n).block) ≡ g.block_size =
      length-block g image (inode_place g n).block sizes long at.block in
      let size = sizes.block_size in
      let line = at.line in
      let cut = length-line_of (block_of g image (inode_place g n).block) (inode_place g n).line in
      let same : line_of (block_of g image (inode_place g n).block) (inode_place g n).line ≡ inode_of g image n =
      same_line (inode_place g n) in
      all_zeros (line_of (block_of g image (inode_place g n).block) (inode_place g n).line) (omega (arith, cut, block, size, line))
      (λ k. ap (λ (l : List ℕ). get_or l k 0) same ∙ zero_each (inode_of g image n) k free)

  -- the line of a free inode is held, and zero bytes
  pub free-line : (n : ℕ) → 1 ≤ n → n ≤ inode_count g → is_free (inode_of g image n) ≡ true
      → h (inode_place g n).block (inode_place g n).line ≡ Some (replicate 64 0)
  free-line n least most free =
      holds.own (inode_place g n).block (inode_place g n).line (within n least most) (nobody n least most free)
      ∙ ap (λ (l : List ℕ). Some l) (zero_bytes n least most free)

-- ---- the cache

module _ (g : Geometry) (image : List ℕ) where
  good_parts : (before : ℕ → Bool) (n : ℕ) (rest : List ℕ) (t : Bool)
      → cond t (first_uncacheable g image (with_met before n) rest) (Some n) ≡ None
      → (t ≡ true) × (first_uncacheable g image (with_met before n) rest ≡ None)
  good_parts before n rest true e = (refl, e)
  good_parts before n rest false e = let no : ⊥ = cc e in absurd no

  -- a number of the cache
  record IsCacheable (n : ℕ) : Type 0 where
    pub least : 2 ≤ n
    pub most : n ≤ inode_count g
    pub free : is_free (inode_of g image n) ≡ true

  cacheable : (before : ℕ → Bool) (n : ℕ) → is_cacheable g image before n ≡ true → IsCacheable n × (before n ≡ false)
  cacheable before n is =
      let three = and_first (nat_le 2 n && nat_le n (inode_count g) && is_free (inode_of g image n)) (not (before n)) is in
      let new = and_second (nat_le 2 n && nat_le n (inode_count g) && is_free (inode_of g image n)) (not (before n)) is in
      let two = and_first (nat_le 2 n && nat_le n (inode_count g)) (is_free (inode_of g image n)) three in
      let free = and_second (nat_le 2 n && nat_le n (inode_count g)) (is_free (inode_of g image n)) three in
      let one = and_first (nat_le 2 n) (nat_le n (inode_count g)) two in
      let end = and_second (nat_le 2 n) (nat_le n (inode_count g)) two in
      (record { least = grind (arith, one); most = grind (arith, end); free = free }, not_true (before n) new)

  once_step : (before : ℕ → Bool) (x b k : ℕ) (t : Bool) → (x == b) ≡ t → before x ≡ false
      → (k ≤ 1) × (with_met before x b ≡ true → k ≡ 0) → (one_if t + k ≤ 1) × (before b ≡ true → one_if t + k ≡ 0)
  once_step before x b k true is old rest =
      let same : x ≡ b = eqb-true x b is in
      let none : k ≡ 0 = rest.1 (ap (λ (t : Bool). t || before b) (eq-eqb b x (sym same))) in
      (omega (arith, none), λ e. absurd (false≢true (sym old ∙ ap before same ∙ e)))
  once_step before x b k false is old rest =
      let few = rest.0 in
      (omega (arith, few), λ e. (let none : k ≡ 0 = rest.1 (ap (λ (t : Bool). (b == x) || t) e ∙ or_true (b == x)) in omega (arith, none)))

  cached-once : (before : ℕ → Bool) (ns : List ℕ) (b : ℕ) → first_uncacheable g image before ns ≡ None
      → (times b ns ≤ 1) × (before b ≡ true → times b ns ≡ 0)
  unfolding first_uncacheable times
  cached-once before [] b none = (omega arith, λ _. refl)
  cached-once before (n ∷ ns) b none =
      let parts = good_parts before n ns (is_cacheable g image before n) none in
      once_step before n b (times b ns) (n == b) refl (cacheable before n parts.0).1 (cached-once (with_met before n) ns b parts.1)

  one_of : (n b k : ℕ) (t : Bool) → (n == b) ≡ t → IsCacheable n → (0 < k → IsCacheable b) → 0 < one_if t + k → IsCacheable b
  one_of n b k true is here rest some = subst IsCacheable (eqb-true n b is) here
  one_of n b k false is here rest some = rest (omega (arith, some))

  cached-free : (before : ℕ → Bool) (ns : List ℕ) (b : ℕ) → first_uncacheable g image before ns ≡ None → 0 < times b ns → IsCacheable b
  unfolding first_uncacheable times
  cached-free before [] b none some = absurd (omega (arith, some))
  cached-free before (n ∷ ns) b none some =
      let parts = good_parts before n ns (is_cacheable g image before n) none in
      one_of n b (times b ns) (n == b) refl (cacheable before n parts.0).0 (cached-free (with_met before n) ns b parts.1) some

-- ---- all that a core is mounted from

-- a number whose flag is not set is that of an inode, and past the first
record IsInList (used : List Bool) (n : ℕ) : Type 0 where
  least : 2 ≤ n
  most : n ≤ length used
  flag : get_or used (n - 1) true ≡ false

in_list : (used : List Bool) (n : ℕ) → is_free_inode used n ≡ true → IsInList used n
unfolding is_free_inode
in_list used n is =
    let first = and_first (nat_lt 1 n) (not (get_or used (n - 1) true)) is in
    let flag : get_or used (n - 1) true ≡ false =
    not_true (get_or used (n - 1) true) (and_second (nat_lt 1 n) (not (get_or used (n - 1) true)) is) in
    let least : 2 ≤ n = grind (arith, first) in
    let most : n ≤ length used =
    elim (cases_lt (n - 1) (length used)) [
      | inl low ↦ omega (arith, low, least)
      | inr past ↦ absurd (false≢true (sym flag ∙ get_or_past used (n - 1) true past))
    ] in
    record { least = least; most = most; flag = flag }

pub free_again : (used : List Bool) (n : ℕ) → 2 ≤ n → get_or used (n - 1) true ≡ false → is_free_inode used n ≡ true
unfolding is_free_inode
free_again used n least flag =
    let first : nat_lt 1 n ≡ true = grind (arith, least) in
    ap (λ (t : Bool). t && not (get_or used (n - 1) true)) first ∙ ap not flag

module _ (o : Origin) (image : List ℕ) (sizes : IsGeometry o.sizes) (long : length image ≡ o.sizes.blocks * o.sizes.block_size)
    (none : first_bad o.sizes nothing_met (walk o.sizes image) ≡ None)
    (cache : cache_flaw o.sizes image ≡ None) (kind : kind_flaw o.sizes image ≡ None) (used : List Bool)
    (flags : used ≡ used_flags o.sizes image) (h : Held) (holds : HoldsLinesOf o.sizes image 0 h) where
  abbrev g : Geometry
  g = o.sizes

  is_unused : (n : ℕ) → 2 ≤ n → n ≤ inode_count g → get_or used (n - 1) true ≡ false → is_free (inode_of g image n) ≡ true
  is_unused n least most flag = not_false (is_free (inode_of g image n)) (sym (used_at g image used n true flags least most) ∙ flag)

  zeros : (n : ℕ) → is_free_inode used n ≡ true → h (inode_place g n).block (inode_place g n).line ≡ Some (replicate 64 0)
  zeros n is =
      let at = in_list used n is in
      let least = at.least in
      let most : n ≤ inode_count g = (let m = at.most in let same = flags_length g image used flags in omega (arith, m, same)) in
      free-line g image sizes long none h holds n (omega (arith, least)) most (is_unused n least most at.flag)

  is_cached : (items : List ℕ) → cached image ≡ items → (n : ℕ) → 0 < times n items → is_free_inode used n ≡ true
  unfolding cache_flaw
  is_cached items e n some =
      let is = cached-free g image nothing_met (cached image) n cache (subst (λ (l : List ℕ). 0 < times n l) (sym e) some) in
      free_again used n is.least (used_at g image used n true flags is.least is.most ∙ ap not is.free)

  few : (items : List ℕ) → cached image ≡ items → (n : ℕ) → times n items ≤ 1
  unfolding cache_flaw
  few items e n = subst (λ (l : List ℕ). times n l ≤ 1) e (cached-once g image nothing_met (cached image) n cache).0

  -- inode 1 is never used
  first_free : is_free (inode_of g image 1) ≡ true
  unfolding kind_flaw
  first_free =
      let first = sizes.least_first in
      let size = sizes.block_size in
      let all : inode_count g ≡ (g.first_data - 2) * 1024 / 64 = ap (λ (s : ℕ). (g.first_data - 2) * s / 64) size in
      let fits : is_misread 1 (inode_of g image 1) ≡ false =
      none_in_range (λ n. is_misread n (inode_of g image n)) 1 (inode_count g) kind 1 (omega arith) (omega (arith, all, first)) in
      not_false (is_free (inode_of g image 1)) (or_right (not (reads_inode (inode_of g image 1))) (not (is_free (inode_of g image 1))) fits)

  pub mounts : (s : Super) → IsSuper (superblock_of image) s → MountsInodes o h used s.inodes.items
  mounts s is = record {
    can = record {
      lines = record { size = flags_length g image used flags; zeros = zeros };
      free = is_cached s.inodes.items (cached-read g image s is);
      once = few s.inodes.items (cached-read g image s is);
    };
    first = (let first = sizes.least_first in
        let size = sizes.block_size in
        let all : inode_count g ≡ (g.first_data - 2) * 1024 / 64 = ap (λ (s : ℕ). (g.first_data - 2) * s / 64) size in
        free-line g image sizes long none h holds 1 (omega arith) (omega (arith, all, first)) first_free);
  }

pub mounts-inodes : (image : List ℕ) → IsWalked image → cache_flaw (geometry_of image) image ≡ None → (used : List Bool)
    → used ≡ used_flags (geometry_of image) image → (o : Origin) → o.sizes ≡ geometry_of image
    → (h : Held) → HoldsLinesOf (geometry_of image) image 0 h → (s : Super) → IsSuper (superblock_of image) s
    → MountsInodes o h used s.inodes.items
mounts-inodes image w cache used flags o e h holds s is =
    let at : Origin = record o { sizes = geometry_of image } in
    let same : o ≡ at = λ i. record o { sizes = e i } in
    subst (λ (x : Origin). MountsInodes x h used s.inodes.items) (sym same)
    (mounts at image w.sized.sizes.bounds w.sized.sizes.length
    (none-bad (geometry_of image) image w.range w.twice) cache w.kind used flags h holds s is)
