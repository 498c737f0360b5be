-- A link block's list, 204 bytes (Bach, chapter 4.7).
use Rattle.std.specs.Prelude.{◌≡◌, ◌≢◌, ◌≤◌, ◌<◌, ℕ, List, length, slice_index}
use Rattle.sv_form.specs.declared.link_block.LinkBlock.{LinkBlock}
use Rattle.sv_form.specs.Number.{AreBytes, IsZero, IsBlockList}

-- each number after the first is a block's and not 0
abbrev pub AreBlocks : List ℕ → Type 0
AreBlocks list = (k : ℕ) → 1 ≤ k → k < length list → slice_index list k ≢ 0

-- the bytes are the spelling of this list
pub record IsLinkBlock (bytes : List ℕ) (l : LinkBlock) : Type 0 where
  pub size : length bytes ≡ 204
  pub numbers : IsBlockList bytes 0 4 l.numbers.items
  pub zero : IsZero bytes 2 4
  pub blocks : AreBlocks l.numbers.items

-- a list can be spelled where it has a number and those after the first are not 0
pub record HasSpelling (l : LinkBlock) : Type 0 where
  pub some : 1 ≤ length l.numbers.items
  pub blocks : AreBlocks l.numbers.items

-- no bytes spell two lists
abbrev pub SpellsOneLinkBlock : Type 0
SpellsOneLinkBlock = (bytes : List ℕ) (l m : LinkBlock) → IsLinkBlock bytes l → IsLinkBlock bytes m → l ≡ m

-- no list has two spellings
abbrev pub HasOneSpelling : Type 0
HasOneSpelling = (a b : List ℕ) (l : LinkBlock) → AreBytes a → AreBytes b → IsLinkBlock a l → IsLinkBlock b l → a ≡ b
