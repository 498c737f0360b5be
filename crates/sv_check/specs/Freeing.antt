-- Blocks are freed one after another (Bach, chapter 4.7), and what that makes of a chain without blocks.
use Rattle.std.specs.Prelude.{◌≡◌, ◌<◌, ◌+◌, ◌-◌, ◌%◌, ◌==◌, ℕ, zero, suc, List, [], ◌∷◌, ◌++◌, length, nat_lt, if◌then◌else◌}
use Rattle.sv_check.specs.Mkfs.{CanBeMade, first_data_for, free_cache, list_in, made_geometry}

-- the list in the superblock, and the list in each link block
pub record Freed : Type 0 where
  pub list : List ℕ
  pub linked : ℕ → List ℕ

-- no block is free
abbrev pub none_freed : Freed
none_freed = record { list = 0 ∷ []; linked = λ _. [] }

-- block b is freed: it comes last on the list, or, where the list has fifty numbers, gets this list and is the link of a new one
abbrev pub with_freed : ℕ → Freed → Freed
with_freed b f =
    if nat_lt (length f.list) 50 then record f { list = f.list ++ b ∷ [] }
    else (record { list = b ∷ []; linked = λ c. if c == b then f.list else f.linked c })

-- n of so many blocks were freed, from the last one down
abbrev pub freed_down : ℕ → ℕ → Freed
freed_down blocks zero = none_freed
freed_down blocks (suc n) = with_freed (blocks - suc n) (freed_down blocks n)

-- the blocks behind the root's page were freed
abbrev pub all_freed : ℕ → ℕ → Freed
all_freed blocks inodes = freed_down blocks (blocks - (first_data_for inodes + 1))

-- the lists of a made image are those that freeing gives
pub record IsFreedDown (blocks inodes : ℕ) : Type 0 where
  pub cache : free_cache (made_geometry blocks inodes) ≡ (all_freed blocks inodes).list
  pub links : (b : ℕ) → first_data_for inodes < b → b < blocks → (blocks - b) % 50 ≡ 0
      → list_in blocks b ≡ (all_freed blocks inodes).linked b

abbrev pub MadeByFreeing : Type 0
MadeByFreeing = (blocks inodes : ℕ) → CanBeMade blocks inodes → IsFreedDown blocks inodes
