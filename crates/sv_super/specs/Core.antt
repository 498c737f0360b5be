-- The free blocks and inodes, as they are seen from above.
use Rattle.std.specs.Prelude.{◌≡◌, ◌≤◌, ◌<◌, ◌+◌, ◌==◌, ◌&&◌, ℕ, Bool, true, List, length, replicate, Some, None, IsSome, if◌then◌else◌}
use Rattle.sv_form.specs.Geometry.{IsDataBlock, inode_count, inode_place, super_place}
use Rattle.sv_form.specs.declared.geometry.Geometry.{Geometry}
use Rattle.sv_form.specs.declared.place.Place.{Place}
use Rattle.sv_store.specs.Held.{Held, Lent, Origin, HoldsBlock, nothing_lent}
use Rattle.sv_super.specs.Count.{times}
use Rattle.sv_super.specs.FreeList.{IsChain, taken}
use Rattle.sv_super.specs.Inodes.{Inodes, is_free_inode}

-- what the superblock says of the image's sizes
pub record Head : Type 0 where
  pub block_type : ℕ
  pub first_data : ℕ
  pub blocks : ℕ

-- the superblock says of the sizes what they are; type 2 stands for blocks of 1,024 bytes
pub record NamesSizes (g : Geometry) (head : Head) : Type 0 where
  pub block_type : head.block_type ≡ 2
  pub first_data : head.first_data ≡ g.first_data
  pub blocks : head.blocks ≡ g.blocks

-- What a core is: its stake; the blocks of the chain, in the order in which they are taken; those that were set aside, of
-- which the last is taken first; how many more can be set aside without memory; the inodes; and what
-- the superblock says of the sizes.
pub record Core (S : Type 0) : Type 0 where
  pub stake : S
  pub chain : List ℕ
  pub aside : List ℕ
  pub spare : ℕ
  pub inodes : Inodes
  pub head : Head

-- how many blocks are free
abbrev pub left_of : {S : Type 0} → Core S → ℕ
left_of core = length core.chain + length core.aside

-- how often a block stands among the free ones
abbrev pub free_times : List ℕ → List ℕ → ℕ → ℕ
free_times chain aside b = times b chain + times b aside

-- how often a block stands among the free ones of a core
abbrev pub free_of : {S : Type 0} → Core S → ℕ → ℕ
free_of core = free_times core.chain core.aside

-- the superblock's eight lines are held
pub record HoldsSuper (o : Origin) (h : Held) : Type 0 where
  pub at : (l : ℕ) → l < 8 → IsSome (h (super_place o.sizes).block ((super_place o.sizes).line + l))

-- The free blocks, each counted by f, are data blocks whose lines are held, each free once. The superblock's lines are
-- held, and nothing is lent.
pub record IsSound (o : Origin) (h : Held) (m : Lent) (f : ℕ → ℕ) : Type 0 where
  pub super : HoldsSuper o h
  pub lent : m ≡ nothing_lent
  pub in_data : (b : ℕ) → 0 < f b → IsDataBlock o.sizes b
  pub whole : (b : ℕ) → 0 < f b → HoldsBlock o h b
  pub once : (b : ℕ) → f b ≤ 1

-- of the data blocks, lines are held of those alone that f counts
pub record HoldsOnly (o : Origin) (h : Held) (f : ℕ → ℕ) : Type 0 where
  pub only : (b l : ℕ) → IsSome (h b l) → IsDataBlock o.sizes b → 0 < f b

-- what is kept: the chain begins with this list and has so many blocks, there is room for those set aside, and no other data
-- block has a line that is held
pub record IsKept (o : Origin) (h : Held) (m : Lent) (list : List ℕ) (chained : ℕ) (aside : List ℕ) (spare room : ℕ) : Type 0 where
  pub sound : IsSound o h m (free_times (taken chained h list) aside)
  pub chain : IsChain h list (taken chained h list)
  pub only : HoldsOnly o h (free_times (taken chained h list) aside)
  pub fits : length aside + spare ≤ room

-- each inode has a place in the map, and the line of each free one is held and zero bytes
pub record HoldsInodes (o : Origin) (h : Held) (used : List Bool) : Type 0 where
  pub size : length used ≡ inode_count o.sizes
  pub zeros : (n : ℕ) → is_free_inode used n ≡ true → h (inode_place o.sizes n).block (inode_place o.sizes n).line ≡ Some (replicate 64 0)

-- the line of inode 1, which is never used, is held and zero bytes
pub record HoldsFirst (o : Origin) (h : Held) : Type 0 where
  pub line : h (inode_place o.sizes 1).block (inode_place o.sizes 1).line ≡ Some (replicate 64 0)

-- what is kept of blocks, of inodes, and of the sizes that the superblock names
pub record IsCore (o : Origin) (h : Held) (m : Lent) (list : List ℕ) (chained : ℕ) (aside : List ℕ)
    (spare room : ℕ) (used : List Bool) (head : Head) : Type 0 where
  pub blocks : IsKept o h m list chained aside spare room
  pub inodes : HoldsInodes o h used
  pub first : HoldsFirst o h
  pub names : NamesSizes o.sizes head

-- the lines of block b alone, and those of all others
unfoldable pub alone : ℕ → Held → Held
alone b h = λ c l. if c == b then h c l else None

unfoldable pub less : ℕ → Held → Held
less b h = λ c l. if c == b then None else h c l

-- the line at a place alone, and all others
unfoldable pub line_alone : Place → Held → Held
line_alone p h = λ c l. if (c == p.block) && (l == p.line) then h c l else None

unfoldable pub line_less : Place → Held → Held
line_less p h = λ c l. if (c == p.block) && (l == p.line) then None else h c l
