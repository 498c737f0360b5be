-- The cache of free inodes of an image that has the root alone.
use Rattle.std.proofs.Common.{◌≡◌, ◌≤◌, ◌<◌, ◌+◌, ◌-◌, ◌==◌, ◌&&◌, ◌||◌, ◌∙◌, min, ℕ, zero, suc, Bool, not, true, false, List, Some, None, cond, refl, ap, nat_le, arith}
use Rattle.std.proofs.lemmas.Bool.Decides.{nat_tests}
use Rattle.sv_form.specs.declared.geometry.Geometry.{Geometry}
use Rattle.sv_form.specs.declared.superblock.Super.{Super}
use Rattle.sv_form.specs.Geometry.{inode_count}
use Rattle.sv_form.specs.Image.{inode_of, superblock_of}
use Rattle.sv_form.specs.Superblock.{IsSuper}
use Rattle.sv_check.specs.InodeCache.{cache_flaw, first_uncacheable, is_cacheable}
use Rattle.sv_check.specs.InodeList.{is_free}
use Rattle.sv_check.specs.MadeRoot.{HasRootAlone}
use Rattle.sv_check.specs.Mkfs.{down_to, inode_cache}
use Rattle.sv_check.specs.Walk.{nothing_met, with_met}
use Rattle.sv_check.proofs.BooleanTests.{at_most-test}
use Rattle.sv_check.proofs.CacheSteps.{cached-read}
use Rattle.sv_check.proofs.MadeInodes.{sizes}
use Rattle.sv_check.proofs.MadeWalk.{other_free}

all_four : (a b c d : Bool) → a ≡ true → b ≡ true → c ≡ true → d ≡ true → (a && b && c && d) ≡ true
all_four a b c d e1 e2 e3 e4 =
    ap (λ (t : Bool). t && b && c && d) e1 ∙ (ap (λ (t : Bool). true && t && c && d) e2 ∙ (ap (λ (t : Bool). true && true && t && d) e3 ∙ ap (λ (t : Bool). true && true && true && t) e4))

-- a number below one that was met is new where it was new before
still_new : (before : ℕ → Bool) (b m : ℕ) → m < b → before m ≡ false → with_met before b m ≡ false
still_new before b m below new =
    let apart : (m == b) ≡ false = grind (nat_tests, arith, below) in
    ap (λ (t : Bool). t || before m) apart ∙ new

-- numbers of free inodes that descend to 3 may stand in the cache
module _ (g : Geometry) (image : List ℕ) (free : (n : ℕ) → 3 ≤ n → n ≤ inode_count g → is_free (inode_of g image n) ≡ true) where
  down_stands : (n : ℕ) (before : ℕ → Bool) → 2 + n ≤ inode_count g → ((m : ℕ) → m < 3 + n → before m ≡ false) → first_uncacheable g image before (down_to 3 n) ≡ None
  unfolding first_uncacheable
  down_stands zero before most new = refl
  down_stands (suc n) before most new =
      let stands : is_cacheable g image before (3 + n) ≡ true =
      all_four (nat_le 2 (3 + n)) (nat_le (3 + n) (inode_count g)) (is_free (inode_of g image (3 + n))) (not (before (3 + n))) (at_most-test 2 (3 + n) (omega arith)) (at_most-test (3 + n) (inode_count g) (omega (arith, most)))
      (free (3 + n) (omega arith) (omega (arith, most))) (ap not (new (3 + n) (omega arith))) in
      ap (λ (t : Bool). cond t (first_uncacheable g image (with_met before (3 + n)) (down_to 3 n)) (Some (3 + n))) stands
      ∙ down_stands n (with_met before (3 + n)) (omega (arith, most)) (λ m low. still_new before (3 + n) m low (new m (omega (arith, low))))

-- condition 12
pub cache_holds : (blocks first : ℕ) (image : List ℕ) → HasRootAlone (sizes blocks first) image → (s : Super) → IsSuper (superblock_of image) s
    → s.inodes.items ≡ inode_cache (inode_count (sizes blocks first)) → cache_flaw (sizes blocks first) image ≡ None
unfolding cache_flaw
cache_holds blocks first image has s head is =
    let count : ℕ = inode_count (sizes blocks first) in
    let two : 2 ≤ count = omega (arith, has.least) in
    ap (first_uncacheable (sizes blocks first) image nothing_met) (cached-read (sizes blocks first) image s head ∙ is)
    ∙ down_stands (sizes blocks first) image (λ n low high. other_free blocks first image has n (omega (arith, low)) high (omega (arith, low))) (min 100 (count - 2)) nothing_met (omega (arith, two)) (λ m low. refl)
