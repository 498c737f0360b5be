-- The conditions of a sound image, one by one.
use Rattle.std.proofs.Common.{◌≡◌, ◌≤◌, ◌<◌, ◌+◌, ◌==◌, ◌&&◌, ◌||◌, ◌∷◌, ◌∙◌, ℕ, Bool, not, true, false, List, [], Option, Some, None, ap, sym, refl, subst, map, arith}
use Rattle.std.specs.List.{list_all}
use Rattle.sv_form.specs.declared.geometry.Geometry.{Geometry}
use Rattle.sv_form.specs.Geometry.{inode_count}
use Rattle.sv_form.specs.Image.{geometry_of, inode_of}
use Rattle.sv_check.specs.declared.sound.met.Met.{Met}
use Rattle.sv_check.specs.Chain.{chain_flaw, lost_flaw}
use Rattle.sv_check.specs.Directories.{dots_flaw, entry_flaw, root_flaw}
use Rattle.sv_check.specs.InodeCache.{cache_flaw}
use Rattle.sv_check.specs.InodeList.{is_free, is_misread, kind_flaw, reads_inode, size_flaw, used_inodes}
use Rattle.sv_check.specs.Links.{links_flaw}
use Rattle.sv_check.specs.Loaded.{is_inside}
use Rattle.sv_check.specs.PastSize.{past_size_flaw, tail_flaw}
use Rattle.sv_check.specs.Sound.{IsSound, IsWalked, first_failing, flaw_from_4}
use Rattle.sv_check.specs.Walk.{Reached, range_flaw, reached, met_of, twice_flaw, walk}
use Rattle.sv_check.proofs.InodeSteps.{all_read, none_in_range}
use Rattle.sv_check.proofs.ReadyDirectories.{all_inside, each_list, inside, no_bad_number}

none_first : (n : ℕ) (flaw : Option ℕ) (rest : List (Option ℕ)) → first_failing n (flaw ∷ rest) ≡ None → (flaw ≡ None) × (first_failing (n + 1) rest ≡ None)
none_first n None rest e = (refl, e)
none_first n (Some p) rest e = let no : ⊥ = cc e in absurd no

-- no condition from 4 on fails
pub record AreMet (g : Geometry) (image : List ℕ) : Type 0 where
  pub kind : kind_flaw g image ≡ None
  pub size : size_flaw g image ≡ None
  pub range : range_flaw g image ≡ None
  pub twice : twice_flaw g image ≡ None
  pub past_size : past_size_flaw g image ≡ None
  pub tail : tail_flaw g image ≡ None
  pub chain : chain_flaw g image ≡ None
  pub lost : lost_flaw g image ≡ None
  pub cache : cache_flaw g image ≡ None
  pub root : root_flaw g image ≡ None
  pub entry : entry_flaw g image ≡ None
  pub dots : dots_flaw g image ≡ None
  pub links : links_flaw g image ≡ None

pub are_met : (image : List ℕ) → IsSound image → AreMet (geometry_of image) image
unfolding flaw_from_4
are_met image sound =
    let p4 = none_first 4 _ _ sound.others in
    let p5 = none_first 5 _ _ p4.1 in
    let p6 = none_first 6 _ _ p5.1 in
    let p7 = none_first 7 _ _ p6.1 in
    let p8 = none_first 8 _ _ p7.1 in
    let p9 = none_first 9 _ _ p8.1 in
    let p10 = none_first 10 _ _ p9.1 in
    let p11 = none_first 11 _ _ p10.1 in
    let p12 = none_first 12 _ _ p11.1 in
    let p13 = none_first 13 _ _ p12.1 in
    let p14 = none_first 14 _ _ p13.1 in
    let p15 = none_first 15 _ _ p14.1 in
    let p16 = none_first 16 _ _ p15.1 in
    record {
      kind = p4.0;
      size = p5.0;
      range = p6.0;
      twice = p7.0;
      past_size = p8.0;
      tail = p9.0;
      chain = p10.0;
      lost = p11.0;
      cache = p12.0;
      root = p13.0;
      entry = p14.0;
      dots = p15.0;
      links = p16.0;
    }

pub sound_walked : (image : List ℕ) → IsSound image → IsWalked image
sound_walked image sound =
    let m = are_met image sound in
    record { sized = sound.sized; kind = m.kind; size = m.size; range = m.range; twice = m.twice; past_size = m.past_size; tail = m.tail }

-- ---- the blocks that a used inode reaches are blocks of the image

met_inside : (g : Geometry) (n : ℕ) (rs : List Reached) → list_all (λ (m : Met). inside g m.block) (map (λ (r : Reached). record { inode = n; block = r.block }) rs) ≡ list_all (is_inside g) rs
met_inside g n [] = refl
met_inside g n (r ∷ rest) = ap (λ (t : Bool). is_inside g r && t) (met_inside g n rest)

pub reached_inside : (g : Geometry) (image : List ℕ) → range_flaw g image ≡ None → twice_flaw g image ≡ None → size_flaw g image ≡ None → (n : ℕ) → 1 ≤ n → n < 1 + inode_count g
    → is_free (inode_of g image n) ≡ false → list_all (is_inside g) (reached g image (inode_of g image n)) ≡ true
unfolding walk used_inodes
reached_inside g image range twice size n low high used =
    sym (met_inside g n (reached g image (inode_of g image n)))
    ∙ each_list (λ (m : Met). inside g m.block) (met_of g image) (λ k. not (is_free (inode_of g image k))) (inode_count g) 1 n
    (all_inside g _ (walk g image) (no_bad_number g image size range twice)) low high (ap not used)

-- ---- what the first nine conditions say of one inode

reads_first : (reads other : Bool) → (not reads || other) ≡ false → other ≡ false
reads_first true other e = e
reads_first false other e = let no : ⊥ = cc e in absurd no

module _ (image : List ℕ) (w : IsWalked image) (g : Geometry) (same : g ≡ geometry_of image) (n : ℕ) where
  pub walked_reads : 1 ≤ n → n < inode_count g + 1 → reads_inode (inode_of g image n) ≡ true
  walked_reads low high = all_read g image (subst (λ (s : Geometry). kind_flaw s image ≡ None) (sym same) w.kind) n low high

  -- inode 1 is free
  pub walked_least : 1 ≤ n → n < inode_count g + 1 → is_free (inode_of g image n) ≡ false → 2 ≤ n
  unfolding kind_flaw
  walked_least low high used =
      let kind : kind_flaw g image ≡ None = subst (λ (s : Geometry). kind_flaw s image ≡ None) (sym same) w.kind in
      let read : is_misread n (inode_of g image n) ≡ false = none_in_range (λ k. is_misread k (inode_of g image k)) 1 (inode_count g) kind n low (omega (arith, high)) in
      let first : ((n == 1) && not (is_free (inode_of g image n))) ≡ false = reads_first (reads_inode (inode_of g image n)) _ read in
      past_1 (n == 1) refl (ap (λ (t : Bool). (n == 1) && not t) (sym used) ∙ first) where
        past_1 : (t : Bool) → (n == 1) ≡ t → (t && true) ≡ false → 2 ≤ n
        past_1 true e fails = let bad : ⊥ = cc fails in absurd bad
        past_1 false e fails = grind (arith, e, low)

  pub walked_inside : 1 ≤ n → n < inode_count g + 1 → is_free (inode_of g image n) ≡ false → list_all (is_inside g) (reached g image (inode_of g image n)) ≡ true
  walked_inside low high used =
      reached_inside g image (subst (λ (s : Geometry). range_flaw s image ≡ None) (sym same) w.range) (subst (λ (s : Geometry). twice_flaw s image ≡ None) (sym same) w.twice)
      (subst (λ (s : Geometry). size_flaw s image ≡ None) (sym same) w.size) n low (omega (arith, high)) used
