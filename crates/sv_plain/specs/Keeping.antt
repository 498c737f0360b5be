-- What the file system keeps beside its maps, so that it need not walk them.
use Rattle.std.specs.Prelude.{◌≡◌, ℕ, option_map}
use Rattle.std.specs.Ordering.{nat_cmp}
use Rattle.std.specs.FinMap as map
use Rattle.std.specs.FinSet as set
use Rattle.sv_form.specs.Pair.{pair_cmp}
use Rattle.sv_form.specs.Node.{Node, block_set, numbers_per}
use Rattle.sv_plain.specs.HolderCounts.{held_of}
use Rattle.sv_plain.specs.Fs.{Fs, holders, places_taken, used_by_all, promised}
use Rattle.sv_plain.specs.Whole.{IsSized}
use Rattle.sv_plain.specs.declared.fs.Fs.TheInside.{Inside}

abbrev pub fs_of : Inside → Fs
fs_of a = record {
  nodes = a.nodes;
  references = a.references;
  files = a.files;
  promises = a.promises;
  pending = a.pending;
  block = a.block_size;
  greatest = a.greatest;
  data_blocks = a.data_blocks;
  inodes = a.inodes;
  places = a.places;
}

-- the blocks of each node are kept as a set
abbrev pub AreBlocksOf : ℕ → map.FinMap nat_cmp Node → map.FinMap nat_cmp (set.FinSet pair_cmp) → Type 0
AreBlocksOf block nodes blocks = (i : ℕ) → map.get blocks i ≡ option_map (λ node. block_set (numbers_per block) (map.keys node.pages))
    (map.get nodes i)

pub record IsKept (a : Inside) : Type 0 where
  pub sized : IsSized a.block_size a.greatest a.inodes
  pub blocks : AreBlocksOf a.block_size a.nodes a.blocks
  pub used : a.used ≡ used_by_all a.block_size a.nodes
  pub promised : a.promised ≡ promised a.promises
  pub taken : a.holders.taken ≡ places_taken a.inodes a.references a.files
  pub held : (i : ℕ) → held_of a.holders i ≡ holders a.references a.files i
