-- A file is cut to nothing: its blocks are cut off its stake, and become free.
use Rattle.std.specs.Prelude.{◌≡◌, ◌≤◌, ◌<◌, ◌+◌, ◌++◌, ◌⊎◌, ◌≢◌, ℕ, Bool, false, List, length, map, max, None, IsSome, nat_lt}
use Rattle.std.specs.Prelude.{if◌then◌else◌}
use Rattle.std.specs.List.{All}
use Rattle.sv_form.specs.Geometry.{IsDataBlock, IsNumber, inode_place}
use Rattle.sv_form.specs.PagePath.{block_numbers}
use Rattle.sv_form.specs.declared.geometry.Geometry.{Geometry}
use Rattle.sv_store.specs.Held.{Apart, Both, Held, Lent, Origin, HoldsBlock, SameLines, nothing_lent}
use Rattle.sv_super.specs.Core.{Core, alone}
use Rattle.sv_super.specs.Count.{times}
use Rattle.sv_bmap.specs.Tree.{IsSpot, block_at}
use Rattle.sv_inode.specs.Frames.{HasRisen}

-- the lines of these blocks alone, and those of all others
unfoldable pub only : List ℕ → Held → Held
only blocks h = λ c l. if nat_lt 0 (times c blocks) then h c l else None

unfoldable pub less_all : List ℕ → Held → Held
less_all blocks h = λ c l. if nat_lt 0 (times c blocks) then None else h c l

-- the inode has a number, and its line is held
pub record HoldsInode (o : Origin) (h : Held) (n : ℕ) : Type 0 where
  pub number : IsNumber o.sizes n
  pub line : IsSome (h (inode_place o.sizes n).block (inode_place o.sizes n).line)

-- block b stands in the tree
pub record IsInTree (g : Geometry) (h : Held) (a : List ℕ) (b : ℕ) : Type 0 where
  pub some : b ≢ 0
  pub slot : ℕ
  pub places : List ℕ
  pub spot : IsSpot (block_numbers g) slot places
  pub at : block_at h a slot places ≡ b

-- no line is held but the inode's own and those of the blocks of its tree
pub record HoldsOnly (o : Origin) (h : Held) (n : ℕ) (a : List ℕ) : Type 0 where
  pub at : (b l : ℕ) → IsSome (h b l)
      → ((b ≡ (inode_place o.sizes n).block) × (l ≡ (inode_place o.sizes n).line)) ⊎ IsInTree o.sizes h a b

-- a line is held that is in no data block
pub record HoldsOther (o : Origin) (h : Held) : Type 0 where
  pub block : ℕ
  pub line : ℕ
  pub some : IsSome (h block line)
  pub before : block < o.sizes.first_data

-- these are data blocks whose lines are held, each named once
pub record AreBlocks (o : Origin) (h : Held) (blocks : List ℕ) : Type 0 where
  pub once : (b : ℕ) → times b blocks ≤ 1
  pub in_data : (b : ℕ) → 0 < times b blocks → IsDataBlock o.sizes b
  pub whole : (b : ℕ) → 0 < times b blocks → HoldsBlock o h b

-- a block, and a new stake that has its lines
pub record IsCut {S : Type 0} (held : S → Held) (lent : S → Lent) (origin : S → Origin) (forced : S → Bool) (faults : S → ℕ) (o : Origin)
    (h : Held) (cut : ℕ × S) : Type 0 where
  pub lines : held cut.1 ≡ alone cut.0 h
  pub away : lent cut.1 ≡ nothing_lent
  pub home : origin cut.1 ≡ o
  pub unforced : forced cut.1 ≡ false
  pub none : faults cut.1 ≡ 0

-- a block, and a stake that has its lines, whatever their bytes are and whatever faults it has counted
pub record IsPart {S : Type 0} (held : S → Held) (lent : S → Lent) (origin : S → Origin) (forced : S → Bool) (o : Origin) (h : Held)
    (cut : ℕ × S) : Type 0 where
  pub lines : SameLines (held cut.1) (alone cut.0 h)
  pub away : lent cut.1 ≡ nothing_lent
  pub home : origin cut.1 ≡ o
  pub unforced : forced cut.1 ≡ false

-- the blocks that were cut off
abbrev pub names_of : {S : Type 0} → List (ℕ × S) → List ℕ
names_of cuts = map (λ cut. cut.0) cuts

-- of the lines that were held, those of the blocks that were cut off are gone
pub record IsCutFrom {S : Type 0} (held : S → Held) (lent : S → Lent) (origin : S → Origin) (forced : S → Bool) (faults : S → ℕ)
    (o : Origin) (h now : Held) (cuts : List (ℕ × S)) : Type 0 where
  pub left : now ≡ less_all (names_of cuts) h
  pub each : All (IsCut held lent origin forced faults o h) cuts
  pub once : (b : ℕ) → times b (names_of cuts) ≤ 1

-- the blocks that were cut off can be freed, or become part of a file, where none of their lines is held by the stake that
-- takes them
pub record CanFreeAll {S : Type 0} (held : S → Held) (lent : S → Lent) (origin : S → Origin) (forced : S → Bool) (o : Origin)
    (h mine : Held) (cuts : List (ℕ × S)) : Type 0 where
  pub are : AreBlocks o h (names_of cuts)
  pub each : All (IsPart held lent origin forced o h) cuts
  pub apart : Apart mine (only (names_of cuts) h)

-- Blocks are freed one after another: each becomes the first of the chain, or is set aside, which happens only where the
-- count of faults rose.
pub record FreesAll {S : Type 0} (before now : ℕ) (old new : Core S) (blocks : List ℕ) : Type 0 where
  pub chained : List ℕ
  pub kept : List ℕ
  pub chain : new.chain ≡ chained ++ old.chain
  pub aside : new.aside ≡ old.aside ++ kept
  pub each : (b : ℕ) → times b chained + times b kept ≡ times b blocks
  pub count : length chained + length kept ≡ length blocks
  pub rose : 0 < length kept → HasRisen before now

-- The blocks of a file go to the core: they are free, and their lines, which the file's stake held, are with the core; no
-- line of another block has changed there.
pub record GivesBack {S : Type 0} (held : S → Held) (faults : S → ℕ) (h : Held) (blocks : List ℕ) (old new : Core S) : Type 0 where
  pub freed : FreesAll (faults old.stake) (faults new.stake) old new blocks
  pub lines : SameLines (held new.stake) (Both (held old.stake) (only blocks h))
  pub others : (c l : ℕ) → times c blocks ≡ 0 → held new.stake c l ≡ held old.stake c l
  pub spare : new.spare + length blocks ≡ max old.spare (length blocks)
