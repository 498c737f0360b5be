-- What a file is, apart from where its bytes lie: its kind, mode bits, links and size, and the pages that it has.
-- There are no block numbers here.
use Rattle.std.specs.Prelude.{◌+◌, ◌-◌, ◌*◌, ◌/◌, ◌%◌, ◌==◌, ℕ, Bool, true, false, List, [], ◌∷◌, map, Option, Some, None, nat_lt}
use Rattle.std.specs.Prelude.{slice_index, if◌then◌else◌, refl, ◌≡◌}
use Rattle.std.specs.List.{range_with_len, flat_map}
use Rattle.std.specs.Ordering.{nat_cmp}
use Rattle.std.specs.Coded.{Coded, code_by, coded×, coded_ℕ, coded_bool, coded_list}
use Rattle.std.specs.FinMap as fmap
use Rattle.std.specs.FinSet as set
pub use Rattle.sv_form.specs.Entries.{until_zero}
use Rattle.sv_form.specs.FileBytes.{byte_at}
pub use Rattle.sv_form.specs.FileBytes.{page_byte}
pub use Rattle.sv_form.specs.PagePath.{numbers_per, above, blocks_at}
use Rattle.sv_form.specs.declared.kind.Kind.{Kind}
use Rattle.sv_form.specs.declared.kind.Kind.TheVariants.{File, Dir}
use Rattle.sv_form.specs.Pair.{pair_cmp}

pub record Node : Type 0 where
  pub kind : Kind
  pub mode : ℕ
  pub links : ℕ
  pub size : ℕ
  pub pages : fmap.FinMap nat_cmp (List ℕ)

-- it is a directory
abbrev pub is_dir : Kind → Bool
is_dir File = false
is_dir Dir = true

abbrev kind_of : Bool → Kind
kind_of b = if b then Dir else File

pub kind_back : (k : Kind) → kind_of (is_dir k) ≡ k
kind_back File = refl
kind_back Dir = refl

-- a node is stored as the tuple of its fields
abbrev pub node_code : Coded Node
node_code =
    code_by (Kind × (ℕ × (ℕ × (ℕ × fmap.FinMap nat_cmp (List ℕ)))))
    (coded× (code_by Bool coded_bool is_dir kind_of kind_back) (coded× coded_ℕ
    (coded× coded_ℕ (coded× coded_ℕ (fmap.code coded_ℕ (coded_list coded_ℕ))))))
    (λ n. (n.kind, (n.mode, (n.links, (n.size, n.pages)))))
    (λ p. record { kind = p.0; mode = p.1.0; links = p.1.1.0; size = p.1.1.1.0; pages = p.1.1.1.1 })
    (λ _. refl)

-- ---- bytes

-- byte k of a node
unfoldable pub byte_of : ℕ → Node → ℕ → ℕ
byte_of block node k = byte_at block (λ p. page_byte (fmap.get node.pages p)) k

-- `count` bytes of a node, from `from` on
unfoldable pub bytes_of : ℕ → Node → ℕ → ℕ → List ℕ
bytes_of block node from count = map (byte_of block node) (range_with_len from count)

-- ---- the blocks that a node uses

-- the blocks of these pages and the indirect blocks above them, each once, where an indirect block has `per` numbers
unfoldable pub block_set : ℕ → List ℕ → set.FinSet pair_cmp
block_set per pages = set.from_list (flat_map (blocks_at per) pages)

-- how many blocks a node uses: its pages, and the indirect blocks above at least one page
unfoldable pub used : ℕ → Node → ℕ
used block node = set.len (block_set (numbers_per block) (fmap.keys node.pages))

-- ---- the entries of a directory: its bytes below its size, cut into pieces of sixteen

abbrev pub entry_count : Node → ℕ
entry_count node = node.size / 16

-- the inode's number in entry j, 0 where the entry is empty
unfoldable pub entry_inode : ℕ → Node → ℕ → ℕ
entry_inode block node j = byte_of block node (16 * j) + 256 * byte_of block node (16 * j + 1)

-- the fourteen bytes that entry j has for its name
abbrev pub name_bytes : ℕ → Node → ℕ → List ℕ
name_bytes block node j = bytes_of block node (16 * j + 2) 14

-- the name in entry j
unfoldable pub entry_name : ℕ → Node → ℕ → List ℕ
entry_name block node j = until_zero (name_bytes block node j)
