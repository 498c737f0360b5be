-- What holds of a file system at every moment.
use Rattle.std.specs.Prelude.{◌≡◌, ◌≢◌, ◌≤◌, ◌<◌, ◌+◌, ◌*◌, ◌%◌, ◌^◌, ℕ, zero, suc, true, List, [], ◌∷◌, length, replicate, Some, IsSome}
use Rattle.std.specs.Prelude.{slice_index}
use Rattle.std.specs.Ordering.{nat_cmp}
use Rattle.std.specs.FinMap as map
use Rattle.sv_form.specs.declared.kind.Kind.TheVariants.{File, Dir}
use Rattle.sv_form.specs.Name.{IsName}
use Rattle.sv_form.specs.Entry.{filled}
use Rattle.sv_form.specs.Node.{Node, entry_inode, entry_count, entry_name, name_bytes}
use Rattle.sv_plain.specs.declared.fs.mode.Mode.TheVariants.{R}
use Rattle.sv_plain.specs.declared.fs.opening.Opening.{Opening}
use Rattle.sv_plain.specs.Totals.{at_or_0}
use Rattle.sv_plain.specs.Fs.{Fs, used_by_all, promised, places_taken, is_live, naming_count, namings, children, pending_on}

-- the sizes: a block has whole entries, the first two of a directory among them, inode numbers fit into two bytes, and a
-- directory that names each inode as often as an inode has links at most, 1,000 times, is no larger than the greatest size
pub record IsSized (block greatest inodes : ℕ) : Type 0 where
  pub some : 32 ≤ block
  pub block_fits : block ≤ 1024
  pub entries : block % 16 ≡ 0
  pub greatest_fits : greatest < 2 ^ 31
  pub names_fit : 16000 * inodes ≤ greatest
  pub inodes_fit : inodes < 2 ^ 16

-- page k of a node of that size: a whole block, which does not lie past the size, and whose bytes past the size are 0
pub record IsPage (block size k : ℕ) (bytes : List ℕ) : Type 0 where
  pub whole : length bytes ≡ block
  pub within : k * block < size
  pub tail : (r : ℕ) → size ≤ k * block + r → slice_index bytes r ≡ 0

-- what holds of the node with number i, whatever it is
pub record IsNode (block greatest inodes i : ℕ) (node : Node) : Type 0 where
  pub least : 2 ≤ i
  pub most : i ≤ inodes
  pub mode : node.mode ≤ 4095
  pub size : node.size ≤ greatest
  pub pages : (k : ℕ) (bytes : List ℕ) → map.get node.pages k ≡ Some bytes → IsPage block node.size k bytes

-- entry j reads: it is empty and all zero, or it has a name and nothing after the name
pub record IsEntryAt (block : ℕ) (node : Node) (j : ℕ) : Type 0 where
  pub empty : entry_inode block node j ≡ 0 → name_bytes block node j ≡ replicate 14 0
  pub named : entry_inode block node j ≢ 0 → IsName (entry_name block node j)
  pub rest : entry_inode block node j ≢ 0 → name_bytes block node j ≡ filled (entry_name block node j)

-- what holds of directory i by its own bytes: whole entries, at least two, on pages that are there; each entry reads;
-- no two have one name; the first is `.` and names the directory, the second is `..`
pub record IsDirectory (block i : ℕ) (node : Node) : Type 0 where
  pub least : 32 ≤ node.size
  pub entries : node.size % 16 ≡ 0
  pub present : (k : ℕ) → k * block < node.size → IsSome (map.get node.pages k)
  pub reads : (j : ℕ) → j < entry_count node → IsEntryAt block node j
  pub once : (j k : ℕ) → j < k → k < entry_count node → entry_inode block node j ≢ 0 → entry_inode block node k ≢ 0
      → entry_name block node j ≢ entry_name block node k
  pub dot : entry_inode block node 0 ≡ i
  pub dot_name : entry_name block node 0 ≡ 46 ∷ []
  pub dots : entry_inode block node 1 ≢ 0
  pub dots_name : entry_name block node 1 ≡ 46 ∷ 46 ∷ []

-- what holds of each directory with links
abbrev pub EachLive : map.FinMap nat_cmp Node → (ℕ → Node → Type 0) → Type 0
EachLive nodes P = (d : ℕ) (node : Node) → map.get nodes d ≡ Some node → is_live node ≡ true → P d node

-- the inode that the second entry of directory d names
abbrev pub parent_of : ℕ → map.FinMap nat_cmp Node → ℕ → ℕ
parent_of block nodes d = at_or_0 (λ node. entry_inode block node 1) (map.get nodes d)

-- where k steps along `..` lead from directory d
abbrev pub ascend : ℕ → map.FinMap nat_cmp Node → ℕ → ℕ → ℕ
ascend block nodes zero d = d
ascend block nodes (suc k) d = ascend block nodes k (parent_of block nodes d)

-- directory d, which is not the root, stands in one place: one entry past the first two of all directories names it,
-- and that one stands in the directory that its `..` names
pub record IsPlaced (block : ℕ) (nodes : map.FinMap nat_cmp Node) (d parent : ℕ) : Type 0 where
  pub once : children block nodes d ≡ 1
  pub there : (above : Node) × (map.get nodes parent ≡ Some above) × (is_live above ≡ true) × (naming_count block above 2 d ≡ 1)

-- the root is a directory with links, its `..` is itself, and no other entry names it
pub record IsRoot (block : ℕ) (nodes : map.FinMap nat_cmp Node) : Type 0 where
  pub there : (root : Node) × (map.get nodes 2 ≡ Some root) × (is_live root ≡ true)
  pub above : parent_of block nodes 2 ≡ 2
  pub unnamed : children block nodes 2 ≡ 0

-- a file of the table: some descriptors share it, its inode has a node, and a directory is only read
pub record IsFileOf (greatest : ℕ) (nodes : map.FinMap nat_cmp Node) (f : Opening) : Type 0 where
  pub shared : 1 ≤ f.count
  pub offset : f.offset ≤ greatest
  pub there : IsSome (map.get nodes f.inode)
  pub read_only : (node : Node) → map.get nodes f.inode ≡ Some node → node.kind ≡ Dir → f.mode ≡ R

pub record IsWhole (fs : Fs) : Type 0 where
  pub sized : IsSized fs.block fs.greatest fs.inodes
  pub nodes : (i : ℕ) (node : Node) → map.get fs.nodes i ≡ Some node → IsNode fs.block fs.greatest fs.inodes i node
  pub links : (i : ℕ) (node : Node) → map.get fs.nodes i ≡ Some node → (node.links ≤ 1000)
      × (node.links ≡ namings fs.block fs.nodes i + pending_on fs.pending i)
  pub blocks : used_by_all fs.block fs.nodes + promised fs.promises ≤ fs.data_blocks
  pub directories : EachLive fs.nodes (IsDirectory fs.block)
  pub named : EachLive fs.nodes (λ _ node. (j : ℕ) → j < entry_count node → entry_inode fs.block node j ≢ 0
      → IsSome (map.get fs.nodes (entry_inode fs.block node j)))
  pub root : IsRoot fs.block fs.nodes
  pub placed : EachLive fs.nodes (λ d node. d ≢ 2 → IsPlaced fs.block fs.nodes d (entry_inode fs.block node 1))
  pub ascends : EachLive fs.nodes (λ d _. (k : ℕ) × (ascend fs.block fs.nodes k d ≡ 2))
  pub references : (p i n : ℕ) → map.get fs.references (p, i) ≡ Some n → (1 ≤ n) × IsSome (map.get fs.nodes i)
  pub files : (n : ℕ) (f : Opening) → map.get fs.files n ≡ Some f → IsFileOf fs.greatest fs.nodes f
  pub pending : (p i : ℕ) → map.get fs.pending p ≡ Some i → (node : Node) × (map.get fs.nodes i ≡ Some node) × (node.kind ≡ File)
  pub places : places_taken fs.inodes fs.references fs.files ≤ fs.places
