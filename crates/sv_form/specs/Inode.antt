-- The disk inode, 64 bytes (Bach, chapter 4.1).
use Rattle.std.specs.Prelude.{◌≡◌, ◌≤◌, ◌<◌, ◌+◌, ◌*◌, ◌^◌, ℕ, List, length, slice_index}
use Rattle.sv_form.specs.declared.kind.Kind.{Kind}
use Rattle.sv_form.specs.declared.kind.Kind.TheVariants.{File, Dir}
use Rattle.sv_form.specs.declared.inode.InodeBody.{InodeBody}
use Rattle.sv_form.specs.declared.inode.DiskInode.{DiskInode}
use Rattle.sv_form.specs.declared.inode.DiskInode.TheVariants.{Free, Used}
use Rattle.sv_form.specs.Number.{number16, number24, number32, AreBytes, IsZero, IsTable}

-- what stands for a kind in the upper four bits of the first number
abbrev pub kind_code : Kind → ℕ
kind_code File = 8
kind_code Dir = 4

-- the place of address k, and of time k
abbrev pub address_place : ℕ → ℕ
address_place k = 12 + 3 * k

abbrev pub time_place : ℕ → ℕ
time_place k = 52 + 4 * k

-- the bytes are the spelling of a used inode
pub record IsBody (bytes : List ℕ) (b : InodeBody) : Type 0 where
  pub kind : number16 bytes 0 ≡ 4096 * kind_code b.kind + b.mode
  pub mode : b.mode < 4096
  pub links : number16 bytes 2 ≡ b.links
  pub owner : number16 bytes 4 ≡ b.owner
  pub group : number16 bytes 6 ≡ b.group
  pub size : number32 bytes 8 ≡ b.size
  pub addresses : IsTable (λ k. number24 bytes (address_place k)) 13 b.addresses
  pub address_count : length b.addresses ≡ 13
  pub zero : IsZero bytes 51 52
  pub times : IsTable (λ k. number32 bytes (time_place k)) 3 b.times
  pub time_count : length b.times ≡ 3

-- the first twelve bytes, before the addresses
pub record IsBodyHead (bytes : List ℕ) (b : InodeBody) : Type 0 where
  pub kind : number16 bytes 0 ≡ 4096 * kind_code b.kind + b.mode
  pub links : number16 bytes 2 ≡ b.links
  pub owner : number16 bytes 4 ≡ b.owner
  pub group : number16 bytes 6 ≡ b.group
  pub size : number32 bytes 8 ≡ b.size

-- a free inode is zero bytes, and a used one is the spelling of its body
abbrev pub IsBodyOf : List ℕ → DiskInode → Type 0
IsBodyOf bytes Free = IsZero bytes 0 64
IsBodyOf bytes (Used b) = IsBody bytes b

-- the bytes are the spelling of this disk inode
pub record IsInode (bytes : List ℕ) (i : DiskInode) : Type 0 where
  pub size : length bytes ≡ 64
  pub spelled : IsBodyOf bytes i

-- a used inode can be spelled where its mode has twelve bits and each of its addresses three bytes
pub record IsSpelledBody (b : InodeBody) : Type 0 where
  pub mode : b.mode ≤ 4095
  pub addresses : (k : ℕ) → slice_index b.addresses k < 2 ^ 24

abbrev pub HasSpelling : DiskInode → Type 0
HasSpelling Free = Unit {0}
HasSpelling (Used b) = IsSpelledBody b

-- no bytes spell two inodes
abbrev pub SpellsOneInode : Type 0
SpellsOneInode = (bytes : List ℕ) (i j : DiskInode) → IsInode bytes i → IsInode bytes j → i ≡ j

-- no inode has two spellings
abbrev pub HasOneSpelling : Type 0
HasOneSpelling = (a b : List ℕ) (i : DiskInode) → AreBytes a → AreBytes b → IsInode a i → IsInode b i → a ≡ b
