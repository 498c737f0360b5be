-- The free inodes (Bach, chapter 4.6): which inodes are in use, the free ones that are handed out next, and the number up to
-- which all free ones are known.
use Rattle.std.specs.Prelude.{◌≡◌, ◌≤◌, ◌<◌, ◌+◌, ◌-◌, ◌==◌, ◌&&◌, ℕ, suc, Bool, true, false, List, [], ◌∷◌, ◌++◌}
use Rattle.std.specs.Prelude.{min, not, length, set, reverse, take, slice_index, slice_index_or, filter, nat_lt, if◌then◌else◌}
use Rattle.std.specs.List.{range_with_len}
use Rattle.sv_super.specs.Count.{one_if, sum_below, times}

-- Place n - 1 of `used` stands for inode n. The last of `cached` is handed out first. Each free number below `remembered` is
-- cached.
pub record Inodes : Type 0 where
  pub used : List Bool
  pub cached : List ℕ
  pub remembered : ℕ

-- inode n is free: it is one of the numbers from 2 on, and not in use
unfoldable pub is_free_inode : List Bool → ℕ → Bool
is_free_inode used n = nat_lt 1 n && not (slice_index_or used (n - 1) true)

-- how many inodes are free
unfoldable pub free_count : List Bool → ℕ
free_count used = sum_below (length used + 1) (λ n. one_if (is_free_inode used n))

-- the first of the free numbers from this one on, ascending, at most so many
unfoldable pub smallest : List Bool → ℕ → ℕ → List ℕ
smallest used room from = take room (filter (is_free_inode used) (range_with_len from (length used + 1 - from)))

-- one more than the greatest of these numbers, which descend
unfoldable pub past : List ℕ → ℕ → ℕ
past numbers otherwise = if length numbers == 0 then otherwise else slice_index numbers 0 + 1

-- an empty cache is filled with a hundred of the smallest free numbers that are not below the remembered one, in descending
-- order, and the remembered number is then one more than the greatest of them
unfoldable pub filled : Inodes → Inodes
filled i =
    if length i.cached == 0 then (let more = reverse (smallest i.used 100 i.remembered) in
    record i { cached = more; remembered = past more i.remembered }) else i

-- the last of the cache is taken out, and is in use
unfoldable pub without_last : Inodes → Inodes
without_last i =
    record i { used = set i.used (slice_index i.cached (length i.cached - 1) - 1) true; cached = take (length i.cached - 1) i.cached }

-- inode n is free again: the last of a cache with room; else it lowers the remembered number
unfoldable pub with_free : ℕ → Inodes → Inodes
with_free n i =
    if nat_lt (length i.cached) 100 then record i { used = set i.used (n - 1) false; cached = i.cached ++ n ∷ [] }
    else record i { used = set i.used (n - 1) false; remembered = min i.remembered n }

-- Each cached number is free and stands there once, each free number below the remembered one is cached, and `count` is how
-- many are free.
pub record IsCache (i : Inodes) (count : ℕ) : Type 0 where
  pub few : length i.used ≤ 65520
  pub least : 2 ≤ i.remembered
  pub free : (n : ℕ) → 0 < times n i.cached → is_free_inode i.used n ≡ true
  pub once : (n : ℕ) → times n i.cached ≤ 1
  pub below : (n : ℕ) → is_free_inode i.used n ≡ true → n < i.remembered → 0 < times n i.cached
  pub left : count ≡ free_count i.used
