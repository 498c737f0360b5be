-- From held lines back to a sound image: all sixteen conditions, and the tree.
use Rattle.std.specs.Prelude.{◌≡◌, ◌<◌, ◌⊎◌, ℕ, Bool, List, Some, IsSome}
use Rattle.std.specs.FinMap as map
use Rattle.sv_form.specs.Geometry.{IsDataBlock}
use Rattle.sv_form.specs.Node.{Node}
use Rattle.sv_form.specs.PagePath.{block_numbers}
use Rattle.sv_store.specs.Held.{Apart, Held, Origin, nothing_lent}
use Rattle.sv_super.specs.Core as core
use Rattle.sv_super.specs.Core.{Head}
use Rattle.sv_super.specs.Count.{times}
use Rattle.sv_bmap.specs.Tree.{IsSpot, block_at}
use Rattle.sv_plain.specs.Fs.{Fs}
use Rattle.sv_check.specs.Sound.{IsSound, tree}
use Rattle.sv_files.specs.ConverseInodes.{HasNumbersOf, HoldsAllInodes}
use Rattle.sv_files.specs.ConverseLines.{AreFreeInodes, IsFlushed}
use Rattle.sv_files.specs.ConverseNames.{IsAtRest}

-- block b stands in the address tree of node n
pub record IsInTreeOf (o : Origin) (image : List ℕ) (fs : Fs) (parts : ℕ → Held) (others : Held) (used : List Bool)
    (all : HoldsAllInodes o image fs parts others used) (n b : ℕ) : Type 0 where
  pub node : Node
  pub there : map.get fs.nodes n ≡ Some node
  pub slot : ℕ
  pub ks : List ℕ
  pub spot : IsSpot (block_numbers o.sizes) slot ks
  pub is : block_at (parts n) (all.nodes n node there).body.addresses slot ks ≡ b

-- The lines are shared out: none is both in a part and in the rest, the first line of each data block is in one of them, a part holds
-- lines of data blocks of its tree alone, and the rest of those of the chain alone.
pub record IsSharedOut (o : Origin) (image : List ℕ) (fs : Fs) (parts : ℕ → Held) (others : Held) (used : List Bool) (order : List ℕ)
    (all : HoldsAllInodes o image fs parts others used) : Type 0 where
  pub apart : (n : ℕ) → Apart (parts n) others
  pub each : (b : ℕ) → IsDataBlock o.sizes b → IsSome (others b 0) ⊎ ((n : ℕ) × IsSome (parts n b 0))
  pub tight_rest : (b l : ℕ) → IsSome (others b l) → IsDataBlock o.sizes b → 0 < times b order
  pub tight : (n b l : ℕ) → IsSome (parts n b l) → IsDataBlock o.sizes b → IsInTreeOf o image fs parts others used all n b

-- The image has the lines of a file system that was closed: each node of a whole file system at rest stands in a part, and the rest are
-- the lines of a flushed core, with the chain of the blocks that no node uses, and those of the free inodes.
pub record IsClosed (o : Origin) (image : List ℕ) (fs : Fs) (parts : ℕ → Held) (others : Held) (used : List Bool) (head : Head)
    (order cached : List ℕ) : Type 0 where
  pub flushed : IsFlushed o image others head order cached
  pub numbers : HasNumbersOf o fs
  pub rest : IsAtRest fs
  pub nodes : HoldsAllInodes o image fs parts others used
  pub inodes : AreFreeInodes o others used cached
  pub blocks : core.IsSound o others nothing_lent (λ b. times b order)
  pub shared : IsSharedOut o image fs parts others used order nodes

-- Such an image is sound, and its tree is the nodes.
abbrev pub ClosedIsSound : Type 0
ClosedIsSound =
    (image : List ℕ) (o : Origin) (fs : Fs) (parts : ℕ → Held) (others : Held) (used : List Bool) (head : Head) (order cached : List ℕ)
    → IsClosed o image fs parts others used head order cached
    → IsSound image × (tree image ≡ fs.nodes)
