-- The cache of free inodes, number by number.
use Rattle.std.proofs.Common.{◌≡◌, ◌≤◌, ◌<◌, ◌+◌, ◌-◌, ◌&&◌, ◌∷◌, ◌∙◌, ℕ, zero, suc, Bool, not, true, false, List, Option, Some, None, ap, sym, refl, cond, map, drop, length, replicate, get_or, nat_le, slice_index, arith}
use Rattle.std.specs.List.{range_with_len}
use Rattle.std.proofs.Math.Bool.{not-not}
use Rattle.std.proofs.Math.Path.{fun_ext}
use Rattle.std.proofs.Math.ListN.{drop_of_length-le}
use Rattle.std.proofs.lemmas.List.FromFn.{get_or-map-range_with_len, length-map-range_with_len}
use Rattle.sv_form.specs.declared.geometry.Geometry.{Geometry}
use Rattle.sv_form.specs.declared.superblock.Super.{Super}
use Rattle.sv_form.specs.Geometry.{inode_count}
use Rattle.sv_form.specs.Image.{inode_of, superblock_of}
use Rattle.sv_form.specs.Number.{number16}
use Rattle.sv_form.specs.Superblock.{IsSuper, cached_at}
use Rattle.sv_check.specs.ChainSteps.{met_in}
use Rattle.sv_check.specs.Directories.{root_flaw}
use Rattle.sv_check.specs.InodeCache.{cached, cache_flaw, first_uncacheable, is_cacheable}
use Rattle.sv_check.specs.InodeList.{is_directory, is_free, used_flags}
use Rattle.sv_check.specs.Walk.{nothing_met, with_met}
use Rattle.sv_check.proofs.ChainStart.{table_list}
use Rattle.sv_check.proofs.ChainWalk.{drop-at}

falses-index : (n x : ℕ) → get_or (replicate n false) x false ≡ false
falses-index zero x = refl
falses-index (suc n) zero = refl
falses-index (suc n) (suc x) = falses-index n x

-- no flag stands at first
pub no_flags : (n : ℕ) (met : List Bool) → met ≡ replicate n false → met_in met ≡ nothing_met
no_flags n met is = ap met_in is ∙ fun_ext (λ x. falses-index n x)

module _ (g : Geometry) (image : List ℕ) where
  -- what the flags say of inode n
  pub used_at : (used : List Bool) (n : ℕ) (d : Bool) → used ≡ used_flags g image → 2 ≤ n → n ≤ inode_count g → get_or used (n - 1) d ≡ not (is_free (inode_of g image n))
  unfolding used_flags
  used_at used n d is least most =
      let below : n - 1 < inode_count g = omega (arith, least, most) in
      let at : 1 + (n - 1) ≡ n = omega (arith, least) in
      ap (λ (l : List Bool). get_or l (n - 1) d) is ∙ get_or-map-range_with_len (λ k. not (is_free (inode_of g image k))) 1 (inode_count g) (n - 1) n d below at

  pub flags_length : (used : List Bool) → used ≡ used_flags g image → length used ≡ inode_count g
  unfolding used_flags
  flags_length used is = ap (λ (l : List Bool). length l) is ∙ length-map-range_with_len (λ k. not (is_free (inode_of g image k))) 1 (inode_count g)

  module _ (before : ℕ → Bool) (n : ℕ) where
    pub under : n < 2 → false ≡ is_cacheable g image before n
    under less =
        let a : nat_le 2 n ≡ false = grind (arith, less) in
        sym (ap (λ (t : Bool). t && nat_le n (inode_count g) && is_free (inode_of g image n) && not (before n)) a)

    module _ (least : 2 ≤ n) where
      reaches : nat_le 2 n ≡ true
      reaches = grind (arith, least)

      pub over : inode_count g < n → false ≡ is_cacheable g image before n
      over more =
          let b : nat_le n (inode_count g) ≡ false = grind (arith, more) in
          sym (ap (λ (t : Bool). t && nat_le n (inode_count g) && is_free (inode_of g image n) && not (before n)) reaches
          ∙ ap (λ (t : Bool). true && t && is_free (inode_of g image n) && not (before n)) b)

      module _ (most : n ≤ inode_count g) where
        within : is_cacheable g image before n ≡ (is_free (inode_of g image n) && not (before n))
        within =
            let b : nat_le n (inode_count g) ≡ true = grind (arith, most) in
            ap (λ (t : Bool). t && nat_le n (inode_count g) && is_free (inode_of g image n) && not (before n)) reaches
            ∙ ap (λ (t : Bool). true && t && is_free (inode_of g image n) && not (before n)) b

        module _ (used : List Bool) (is : used ≡ used_flags g image) (d : Bool) where
          free : (u : Bool) → get_or used (n - 1) d ≡ u → is_free (inode_of g image n) ≡ not u
          free u e = sym (not-not (is_free (inode_of g image n))) ∙ ap not (sym (used_at used n d is least most) ∙ e)

          pub in_use : get_or used (n - 1) d ≡ true → false ≡ is_cacheable g image before n
          in_use e = sym (within ∙ ap (λ (t : Bool). t && not (before n)) (free true e))

          pub not_in_use : get_or used (n - 1) d ≡ false → not (before n) ≡ is_cacheable g image before n
          not_in_use e = sym (within ∙ ap (λ (t : Bool). t && not (before n)) (free false e))

  -- ---- the cache, from one number on

  stands : (before now : ℕ → Bool) (n : ℕ) (rest : List ℕ) → is_cacheable g image before n ≡ true → now ≡ with_met before n
      → first_uncacheable g image before (n ∷ rest) ≡ first_uncacheable g image now rest
  unfolding first_uncacheable
  stands before now n rest so e =
      ap (λ (t : Bool). cond t (first_uncacheable g image (with_met before n) rest) (Some n)) so ∙ ap (λ (met : ℕ → Bool). first_uncacheable g image met rest) (sym e)

  stands_not : (before : ℕ → Bool) (n : ℕ) (rest : List ℕ) → is_cacheable g image before n ≡ false → first_uncacheable g image before (n ∷ rest) ≡ Some n
  unfolding first_uncacheable
  stands_not before n rest not_so = ap (λ (t : Bool). cond t (first_uncacheable g image (with_met before n) rest) (Some n)) not_so

  module _ (now : ℕ → Bool) (cache : List ℕ) (i : ℕ) (was : first_uncacheable g image nothing_met cache ≡ first_uncacheable g image now (drop i cache)) where
    pub cache_one : (next : ℕ → Bool) → i < length cache → is_cacheable g image now (slice_index cache i) ≡ true → next ≡ with_met now (slice_index cache i)
        → first_uncacheable g image nothing_met cache ≡ first_uncacheable g image next (drop (i + 1) cache)
    cache_one next inside so e = was ∙ ap (first_uncacheable g image now) (drop-at cache i inside) ∙ stands now next (slice_index cache i) (drop (i + 1) cache) so e

    pub cache_stop : i < length cache → is_cacheable g image now (slice_index cache i) ≡ false → Some (slice_index cache i) ≡ first_uncacheable g image nothing_met cache
    cache_stop inside not_so = sym (was ∙ ap (first_uncacheable g image now) (drop-at cache i inside) ∙ stands_not now (slice_index cache i) (drop (i + 1) cache) not_so)

    pub cache_end : length cache ≤ i → None ≡ first_uncacheable g image nothing_met cache
    unfolding first_uncacheable
    cache_end over = sym (was ∙ ap (first_uncacheable g image now) (drop_of_length-le cache {i = i} over))

  -- ---- the cache in the superblock

  pub cached-read : (s : Super) → IsSuper (superblock_of image) s → cached image ≡ s.inodes.items
  cached-read s is =
      let f : ℕ → ℕ = λ k. number16 (superblock_of image) (cached_at k) in
      ap (λ (n : ℕ). map f (range_with_len 0 n)) is.inodes.count ∙ table_list f s.inodes.items (λ k less. is.inodes.table k (omega (arith, less, is.inodes.fits)))

  pub cache_found : (found : Option ℕ) (cache : List ℕ) (s : Super) → found ≡ first_uncacheable g image nothing_met cache → cache ≡ s.inodes.items → IsSuper (superblock_of image) s
      → found ≡ cache_flaw g image
  unfolding cache_flaw
  cache_found found cache s is same head = is ∙ ap (first_uncacheable g image nothing_met) (same ∙ sym (cached-read s head))

  -- ---- the root

  pub rooted : (root : Bool) → root ≡ is_directory (inode_of g image 2) → root ≡ true → root_flaw g image ≡ None
  unfolding root_flaw
  rooted root is so = ap (λ (t : Bool). cond t None (Some 2)) (sym is ∙ so)

  pub unrooted : (root : Bool) → root ≡ is_directory (inode_of g image 2) → root ≡ false → root_flaw g image ≡ Some 2
  unfolding root_flaw
  unrooted root is not_so = ap (λ (t : Bool). cond t None (Some 2)) (sym is ∙ not_so)
