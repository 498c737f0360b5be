-- Conditions 1 to 3 and 12 from the lines of a flushed core.
use Rattle.std.proofs.Common.{◌≡◌, ◌≢◌, ◌≤◌, ◌<◌, ◌-◌, ◌*◌, ◌==◌, ◌&&◌, ◌||◌, ◌∷◌, [], ◌∙◌, ℕ, Bool, not, true, false, List, Some, None}
use Rattle.std.proofs.Common.{inl, inr, ap, sym, refl, subst, cond, length, replicate, nat_le, nat_lt, arith}
use Rattle.std.specs.List.{slice_index_or}
use Rattle.std.proofs.lemmas.Bool.{cases_lt, false≢true, ne_eqb}
use Rattle.std.proofs.lemmas.List.{get_or_past}
use Rattle.sv_form.specs.declared.geometry.Geometry.{Geometry}
use Rattle.sv_form.specs.declared.superblock.Super.{Super}
use Rattle.sv_form.specs.Geometry.{IsGeometry, inode_count, inode_place}
use Rattle.sv_form.specs.Image.{geometry_of, inode_of, superblock_of}
use Rattle.sv_form.specs.Superblock.{IsSuper, sizes_of}
use Rattle.sv_form.proofs.Images.{geometry_of-spelled}
use Rattle.sv_store.specs.Held.{Held, Origin}
use Rattle.sv_super.specs.Core.{Head}
use Rattle.sv_super.specs.Count.{one_if, times}
use Rattle.sv_super.specs.Inodes.{is_free_inode}
use Rattle.sv_super.specs.Written.{super_of}
use Rattle.sv_check.specs.InodeCache.{cache_flaw, first_uncacheable, is_cacheable}
use Rattle.sv_check.specs.InodeList.{is_free}
use Rattle.sv_check.specs.Walk.{nothing_met, with_met}
use Rattle.sv_check.proofs.BooleanTests.{and_left, and_right, at_most-test, below, not_true}
use Rattle.sv_check.proofs.CacheSteps.{cached-read}
use Rattle.sv_check.proofs.SizeFlaws.{has_magic, has_type, sized}
use Rattle.sv_files.specs.ConverseLines.{AreFreeInodes, FlushedIsCached, FlushedIsSized, IsFlushed, IsSizedAs}
use Rattle.sv_files.proofs.HeldBytes.{has-1024, same_line, super-is}

module _ (image : List ℕ) (o : Origin) (h : Held) (head : Head) (order cached : List ℕ) (f : IsFlushed o image h head order cached) where
  abbrev g : Geometry
  g = o.sizes

  abbrev s : Super
  s = super_of head f.written.list cached

  pub spelled-here : IsSuper (superblock_of image) s
  spelled-here = subst (λ (b : List ℕ). IsSuper b s) (super-is o image h f.has.sizes f.has.length f.lines f.super) f.written.spelled

  same-sizes : sizes_of s ≡ g
  same-sizes = λ i. record { block_size = sym f.has.sizes.block_size i; blocks = f.has.blocks i; first_data = f.has.first_data i }

  pub flushed_sized : IsSizedAs g image
  flushed_sized =
      let size : (sizes_of s).blocks * (sizes_of s).block_size ≡ g.blocks * g.block_size =
      ap (λ (x : Geometry). x.blocks * x.block_size) same-sizes in
      record {
        sized =
            sized image (superblock_of image) refl s (length image) refl
            (has_magic image (superblock_of image) refl (has-1024 o image h f.has.sizes f.has.length f.lines f.super) spelled-here.magic)
            (has_type image (superblock_of image) refl 2 (sym (spelled-here.block_type ∙ f.has.block_type)) refl) spelled-here
            (subst (λ (x : Geometry). IsGeometry x) (sym same-sizes) f.has.sizes, f.has.length ∙ sym size);
        sizes = geometry_of-spelled image s spelled-here ∙ same-sizes;
      }

-- ---- the cache of free inodes

all_four : (a b c d : Bool) → a ≡ true → b ≡ true → c ≡ true → d ≡ true → (a && b && c && d) ≡ true
all_four a b c d e1 e2 e3 e4 =
    ap (λ (t : Bool). t && b && c && d) e1
    ∙ (ap (λ (t : Bool). true && t && c && d) e2
    ∙ (ap (λ (t : Bool). true && true && t && d) e3 ∙ ap (λ (t : Bool). true && true && true && t) e4))

-- a number may stand in the cache
pub record IsCacheable (g : Geometry) (image : List ℕ) (n : ℕ) : Type 0 where
  pub least : 2 ≤ n
  pub most : n ≤ inode_count g
  pub free : is_free (inode_of g image n) ≡ true

module _ (g : Geometry) (image : List ℕ) where
  one_here : (n : ℕ) → one_if (n == n) ≡ 1
  one_here n =
      let same : (n == n) ≡ true = grind arith in
      ap one_if same

  times-first : (n : ℕ) (rest : List ℕ) → 0 < times n (n ∷ rest)
  unfolding times
  times-first n rest =
      let one = one_here n in
      omega (arith, one)

  times-rest : (m n : ℕ) (rest : List ℕ) → times m rest ≤ times m (n ∷ rest)
  unfolding times
  times-rest m n rest = omega arith

  new_by : (m n : ℕ) (rest : List ℕ) → times n (n ∷ rest) ≤ 1 → 0 < times m rest → m ≢ n
  unfolding times
  new_by m n rest few some same =
      let one = one_here n in
      let here : times m rest ≡ times n rest = ap (λ (x : ℕ). times x rest) same in
      omega (arith, one, few, some, here)

  all-cacheable : (before : ℕ → Bool) (list : List ℕ) → ((n : ℕ) → 0 < times n list → IsCacheable g image n)
      → ((n : ℕ) → 0 < times n list → before n ≡ false) → ((n : ℕ) → times n list ≤ 1)
      → first_uncacheable g image before list ≡ None
  unfolding first_uncacheable
  all-cacheable before [] can new once = refl
  all-cacheable before (n ∷ rest) can new once =
      let is = can n (times-first n rest) in
      let stands : is_cacheable g image before n ≡ true =
      all_four (nat_le 2 n) (nat_le n (inode_count g)) (is_free (inode_of g image n)) (not (before n)) (at_most-test 2 n is.least)
      (at_most-test n (inode_count g) is.most) is.free
      (ap not (new n (times-first n rest))) in
      ap (λ (t : Bool). cond t (first_uncacheable g image (with_met before n) rest) (Some n)) stands
      ∙ all-cacheable (with_met before n) rest
      (λ m some. can m (let more = times-rest m n rest in omega (arith, some, more)))
      (λ m some.
      ap (λ (t : Bool). t || before m) (ne_eqb m n (new_by m n rest (once n) some))
      ∙ new m (let more = times-rest m n rest in omega (arith, some, more)))
      (λ m. let more = times-rest m n rest in let few = once m in omega (arith, more, few))

-- ---- the laws

-- a free inode is one of the list
free-least : (used : List Bool) (n : ℕ) → is_free_inode used n ≡ true → 2 ≤ n
unfolding is_free_inode
free-least used n e =
    let past = below 1 n (and_left (nat_lt 1 n) _ e) in
    omega (arith, past)

free-most : (used : List Bool) (n : ℕ) → is_free_inode used n ≡ true → n - 1 < length used
unfolding is_free_inode
free-most used n e =
    let is : slice_index_or used (n - 1) true ≡ false = not_true _ (and_right (nat_lt 1 n) _ e) in
    elim (cases_lt (n - 1) (length used)) [
      | inl low ↦ low
      | inr past ↦ absurd (false≢true (sym is ∙ get_or_past used (n - 1) true past))
    ]

module _ (image : List ℕ) (o : Origin) (h : Held) (head : Head) (order cached : List ℕ) (f : IsFlushed o image h head order cached)
    (used : List Bool) (are : AreFreeInodes o h used cached) where
  free-zero : (n : ℕ) → is_free_inode used n ≡ true → is_free (inode_of o.sizes image n) ≡ true
  free-zero n e =
      let line : inode_of o.sizes image n ≡ replicate 64 0 =
      same_line o.sizes image (inode_place o.sizes n)
      ∙ sym (f.lines.at (inode_place o.sizes n).block (inode_place o.sizes n).line (replicate 64 0) (are.inodes.zeros n e)) in
      ap (λ (x : List ℕ). is_free x) line

  cacheable : (n : ℕ) → is_free_inode used n ≡ true → IsCacheable o.sizes image n
  cacheable n e =
      let least = free-least used n e in
      let most = free-most used n e in
      let size = are.inodes.size in
      record { least = least; most = omega (arith, least, most, size); free = free-zero n e }

  pub flushed_cached : cache_flaw (geometry_of image) image ≡ None
  unfolding cache_flaw
  flushed_cached =
      ap (first_uncacheable (geometry_of image) image nothing_met)
      (cached-read (geometry_of image) image (super_of head f.written.list cached) (spelled-here image o h head order cached f))
      ∙ subst (λ (x : Geometry). first_uncacheable x image nothing_met cached ≡ None)
      (sym (flushed_sized image o h head order cached f).sizes)
      (all-cacheable o.sizes image nothing_met cached (λ n some. cacheable n (are.free n some)) (λ n some. refl) are.once)

pub flushed_is_sized : FlushedIsSized
flushed_is_sized image o h head order cached f = flushed_sized image o h head order cached f

pub flushed_is_cached : FlushedIsCached
flushed_is_cached image o h head order cached f used are = flushed_cached image o h head order cached f used are
