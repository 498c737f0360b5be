-- From held lines back to an image: what the chain of a flushed core says of the conditions 10 and 11.
use Rattle.std.specs.Prelude.{◌≡◌, ◌<◌, ℕ, false, List, None}
use Rattle.sv_form.specs.Geometry.{IsDataBlock}
use Rattle.sv_form.specs.Image.{geometry_of}
use Rattle.sv_store.specs.Held.{Held, Origin, nothing_lent}
use Rattle.sv_super.specs.Core as core
use Rattle.sv_super.specs.Core.{Head}
use Rattle.sv_super.specs.Count.{times}
use Rattle.sv_check.specs.Chain.{chain_flaw, lost_flaw, walked}
use Rattle.sv_check.specs.Walk.{is_among}
use Rattle.sv_files.specs.ConverseLines.{IsFlushed}

-- the chain has these blocks, each once, and they are all data blocks that the walk does not meet
pub record AreFreeBlocks (o : Origin) (image : List ℕ) (h : Held) (order : List ℕ) : Type 0 where
  pub sound : core.IsSound o h nothing_lent (λ b. times b order)
  pub apart : (b : ℕ) → 0 < times b order → is_among (walked o.sizes image) b ≡ false
  pub all : (b : ℕ) → IsDataBlock o.sizes b → is_among (walked o.sizes image) b ≡ false → 0 < times b order

-- the conditions 10 and 11 hold
pub record HasWholeChain (image : List ℕ) : Type 0 where
  pub chain : chain_flaw (geometry_of image) image ≡ None
  pub lost : lost_flaw (geometry_of image) image ≡ None

-- An image that has the lines of a flushed core, whose free blocks are those that the walk does not meet, has its chain in order,
-- and no data block is lost.
abbrev pub FlushedIsChained : Type 0
FlushedIsChained =
    (image : List ℕ) (o : Origin) (h : Held) (head : Head) (order cached : List ℕ) → IsFlushed o image h head order cached
    → AreFreeBlocks o image h order → HasWholeChain image
