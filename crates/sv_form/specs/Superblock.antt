-- The superblock, 512 bytes (Bach, chapter 4.5).
use Rattle.std.specs.Prelude.{◌≡◌, ◌≤◌, ◌+◌, ◌*◌, ℕ, List, length}
use Rattle.sv_form.specs.declared.superblock.Super.{Super}
use Rattle.sv_form.specs.declared.geometry.Geometry.{Geometry}
use Rattle.sv_form.specs.Number.{number16, number32, AreBytes, IsZero, IsTable, IsBlockList}

-- the magic number: the bytes 53 56 35 46, which are SV5F
abbrev pub magic : ℕ
magic = 0x46355653

-- the place of entry k of the free inode cache
abbrev pub cached_at : ℕ → ℕ
cached_at k = 216 + 2 * k

-- The free block cache that stands in the bytes: its count, 1 to 50, and a table of 50 places of 4 bytes.
abbrev pub IsFreeCache : List ℕ → List ℕ → Type 0
IsFreeCache bytes list = IsBlockList bytes 12 16 list

-- The free inode cache that stands in the bytes: its count, 0 to 100, and a table of 100 places of 2 bytes.
pub record IsInodeCache (bytes : List ℕ) (list : List ℕ) : Type 0 where
  pub count : number16 bytes 14 ≡ length list
  pub fits : length list ≤ 100
  pub table : IsTable (λ k. number16 bytes (cached_at k)) 100 list

-- the first sixteen bytes, before the two caches
pub record IsHead (bytes : List ℕ) (s : Super) : Type 0 where
  pub magic : number32 bytes 0 ≡ magic
  pub block_type : number16 bytes 4 ≡ s.block_type
  pub first_data : number16 bytes 6 ≡ s.first_data
  pub blocks : number32 bytes 8 ≡ s.blocks
  pub free_count : number16 bytes 12 ≡ length s.free.items
  pub inode_count : number16 bytes 14 ≡ length s.inodes.items

-- The bytes are the spelling of this superblock. The block type may be any.
pub record IsSuper (bytes : List ℕ) (s : Super) : Type 0 where
  pub size : length bytes ≡ 512
  pub magic : number32 bytes 0 ≡ magic
  pub block_type : number16 bytes 4 ≡ s.block_type
  pub first_data : number16 bytes 6 ≡ s.first_data
  pub blocks : number32 bytes 8 ≡ s.blocks
  pub free : IsFreeCache bytes s.free.items
  pub inodes : IsInodeCache bytes s.inodes.items
  pub rest : IsZero bytes 416 512

-- the sizes that it names, with blocks of 1,024 bytes
abbrev pub sizes_of : Super → Geometry
sizes_of s = record { block_size = 1024; blocks = s.blocks; first_data = s.first_data }

-- A superblock can be spelled where its free block cache is not empty: neither cache takes more numbers than it has places.
abbrev pub HasSpelling : Super → Type 0
HasSpelling s = 1 ≤ length s.free.items

-- no bytes spell two superblocks
abbrev pub SpellsOneSuper : Type 0
SpellsOneSuper = (bytes : List ℕ) (s t : Super) → IsSuper bytes s → IsSuper bytes t → s ≡ t

-- no superblock has two spellings
abbrev pub HasOneSpelling : Type 0
HasOneSpelling = (a b : List ℕ) (s : Super) → AreBytes a → AreBytes b → IsSuper a s → IsSuper b s → a ≡ b
