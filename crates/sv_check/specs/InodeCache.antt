-- Condition 12 of a sound image: the cache of free inodes in the superblock (Bach, chapter 4.6).
use Rattle.std.specs.Prelude.{◌&&◌, ℕ, Bool, not, List, [], ◌∷◌, map, Option, Some, None, nat_le, if◌then◌else◌}
use Rattle.std.specs.List.{range_with_len}
use Rattle.sv_form.specs.declared.geometry.Geometry.{Geometry}
use Rattle.sv_form.specs.Geometry.{inode_count}
use Rattle.sv_form.specs.Image.{inode_of, superblock_of}
use Rattle.sv_form.specs.Number.{number16}
use Rattle.sv_form.specs.Superblock.{cached_at}
use Rattle.sv_check.specs.InodeList.{is_free}
use Rattle.sv_check.specs.Walk.{nothing_met, with_met}

-- the numbers in the cache, in its order
abbrev pub cached : List ℕ → List ℕ
cached image = map (λ k. number16 (superblock_of image) (cached_at k)) (range_with_len 0 (number16 (superblock_of image) 14))

-- n may stand in the cache: it is the number of a free inode past the first, and not met before
abbrev pub is_cacheable : Geometry → List ℕ → (ℕ → Bool) → ℕ → Bool
is_cacheable g image before n = nat_le 2 n && nat_le n (inode_count g) && is_free (inode_of g image n) && not (before n)

-- the first number that may not stand there, where these were met before the list begins
unfoldable pub first_uncacheable : Geometry → List ℕ → (ℕ → Bool) → List ℕ → Option ℕ
first_uncacheable g image before [] = None
first_uncacheable g image before (n ∷ rest) = if is_cacheable g image before n then first_uncacheable g image (with_met before n) rest else
    Some n

-- condition 12, CachedInode: where it fails, which is a number of the cache, and None where it holds
unfoldable pub cache_flaw : Geometry → List ℕ → Option ℕ
cache_flaw g image = first_uncacheable g image nothing_met (cached image)
