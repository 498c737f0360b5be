-- Two readers that agree where a tree, a chain, a file or a directory is read see the same.
use Rattle.std.specs.Prelude.{◌≡◌, ◌≢◌, ◌<◌, ◌+◌, ◌*◌, ℕ, List, All}
use Rattle.sv_form.specs.declared.entry.Entry.{Entry}
use Rattle.sv_form.specs.AddressTree.{Numbers, Reached, block_at, reached}
use Rattle.sv_form.specs.Entries.{HasEntry, Pieces, named_by, name_in}
use Rattle.sv_form.specs.FileBytes.{PageBytes, bytes_at}
use Rattle.sv_form.specs.FreeChain.{IsChain}
use Rattle.sv_form.specs.Node.{Node, entry_inode, entry_name}
use Rattle.sv_form.specs.NodeEntries.{entry_bytes}
use Rattle.sv_form.specs.PagePath.{IsSpot}

-- ---- trees

-- the two agree on the numbers of a block, if it is an indirect one
abbrev pub AgreeAt : ℕ → Numbers → Numbers → Reached → Type 0
AgreeAt n p q r = r.height ≢ 0 → (k : ℕ) → k < n → q r.block k ≡ p r.block k

-- the same blocks are reached, and the same one stands at each spot
pub record IsSameTree (n : ℕ) (p q : Numbers) (address : ℕ → ℕ) : Type 0 where
  pub reached : reached n q address ≡ reached n p address
  pub spots : (slot : ℕ) (ks : List ℕ) → IsSpot n slot ks → block_at q address slot ks ≡ block_at p address slot ks

abbrev pub ReachTheSame : Type 0
ReachTheSame = (n : ℕ) (p q : Numbers) (address : ℕ → ℕ) → All (AgreeAt n p q) (reached n p address) → IsSameTree n p q address

-- ---- chains

abbrev pub ChainTheSame : Type 0
ChainTheSame = (read other : ℕ → List ℕ) (list order : List ℕ) → All (λ b. other b ≡ read b) order → IsChain read list order
    → IsChain other list order

-- ---- files and directories

-- two that agree on the pages that so many bytes from a place on lie in, or before them, give these bytes
abbrev pub ShowTheSame : Type 0
ShowTheSame = (block : ℕ) (p q : PageBytes) (from count : ℕ) → 0 < block
    → ((page r : ℕ) → page * block < from + count → r < block → q page r ≡ p page r)
    → bytes_at block q from count ≡ bytes_at block p from count

abbrev pub ListTheSame : Type 0
ListTheSame = (count : ℕ) (p q : Pieces) → ((j : ℕ) → j < count → q j ≡ p j) → (j : ℕ) (e : Entry) → HasEntry count p j e
    → HasEntry count q j e

-- the inode and the name in an entry of a node are those in its piece
pub record IsPieceOf (block : ℕ) (node : Node) (j : ℕ) : Type 0 where
  pub inode : named_by (entry_bytes block node j) ≡ entry_inode block node j
  pub name : name_in (entry_bytes block node j) ≡ entry_name block node j

abbrev pub NodesReadPieces : Type 0
NodesReadPieces = (block : ℕ) (node : Node) (j : ℕ) → IsPieceOf block node j
