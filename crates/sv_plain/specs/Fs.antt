-- The state of the one-process file system.
use Rattle.std.specs.Prelude.{◌≡◌, ◌+◌, ◌-◌, ◌==◌, ◌&&◌, ℕ, zero, suc, Bool, not, List, Option, Some, None, option_map, option_and_then}
use Rattle.std.specs.Prelude.{nat_lt, refl, if◌then◌else◌}
use Rattle.std.specs.List.{range_with_len, count_by}
use Rattle.std.specs.Ordering.{nat_cmp}
use Rattle.std.specs.Coded.{Coded, code_by, coded×, coded_ℕ}
use Rattle.std.specs.FinMap as map
use Rattle.sv_form.specs.declared.geometry.Geometry.{Geometry}
use Rattle.sv_form.specs.declared.kind.Kind.{Kind}
use Rattle.sv_form.specs.Geometry.{inode_count}
use Rattle.sv_form.specs.PagePath.{greatest_for}
use Rattle.sv_form.specs.Pair.{pair_cmp}
use Rattle.sv_form.specs.Node.{Node, node_code, is_dir, used, entry_inode, entry_count}
use Rattle.sv_plain.specs.declared.fs.mode.Mode.{Mode}
use Rattle.sv_plain.specs.declared.fs.mode.Mode.TheVariants.{R, W, RW}
use Rattle.sv_plain.specs.declared.fs.opening.Opening.{Opening}
use Rattle.sv_plain.specs.Totals.{total, one_if}

-- Nodes by inode number; references counted by process and inode; open files by number; the blocks promised to a
-- process; the inode on which a process has a pending link. Then the block size in bytes, the greatest size of a file,
-- and the numbers of data blocks, of inodes and of places in the table of in-core inodes.
pub record Fs : Type 0 where
  pub nodes : map.FinMap nat_cmp Node
  pub references : map.FinMap pair_cmp ℕ
  pub files : map.FinMap nat_cmp Opening
  pub promises : map.FinMap nat_cmp ℕ
  pub pending : map.FinMap nat_cmp ℕ
  pub block : ℕ
  pub greatest : ℕ
  pub data_blocks : ℕ
  pub inodes : ℕ
  pub places : ℕ

-- ---- what is referred to

-- how many processes and files refer to inode i
unfoldable pub holders : map.FinMap pair_cmp ℕ → map.FinMap nat_cmp Opening → ℕ → ℕ
holders references files i = total (λ p _. one_if (p.1 == i)) references + total (λ _ f. one_if (f.inode == i)) files

-- how many inodes are referred to: each takes a place of the table
unfoldable pub places_taken : ℕ → map.FinMap pair_cmp ℕ → map.FinMap nat_cmp Opening → ℕ
places_taken inodes references files = count_by (λ i. not (holders references files i == 0)) (range_with_len 0 (inodes + 1))

abbrev pub is_referenced : Fs → ℕ → Bool
is_referenced fs i = not (holders fs.references fs.files i == 0)

-- the table has no place for inode i: all places are taken, and none by i
abbrev pub is_full_for : Fs → ℕ → Bool
is_full_for fs i = not (is_referenced fs i) && (places_taken fs.inodes fs.references fs.files == fs.places)

-- ---- blocks

-- the blocks that all nodes use
unfoldable pub used_by_all : ℕ → map.FinMap nat_cmp Node → ℕ
used_by_all block nodes = total (λ _ node. used block node) nodes

-- the blocks promised to all processes
unfoldable pub promised : map.FinMap nat_cmp ℕ → ℕ
promised promises = total (λ _ n. n) promises

-- the data blocks that are neither used nor promised
abbrev pub room : Fs → ℕ
room fs = fs.data_blocks - (used_by_all fs.block fs.nodes + promised fs.promises)

-- the data blocks that no node uses
abbrev pub free_blocks : Fs → ℕ
free_blocks fs = fs.data_blocks - used_by_all fs.block fs.nodes

-- how many numbers from 2 on have no node
abbrev pub free_inodes : Fs → ℕ
free_inodes fs = count_by (λ i. not (map.contains_key fs.nodes i)) (range_with_len 2 (fs.inodes - 1))

-- ---- names

-- a directory with links
abbrev pub is_live : Node → Bool
is_live node = is_dir node.kind && nat_lt 0 node.links

-- how many entries of a directory, from entry `first` on, name inode i
unfoldable pub naming_count : ℕ → Node → ℕ → ℕ → ℕ
naming_count block node first i = count_by (λ j. entry_inode block node j == i) (range_with_len first (entry_count node - first))

-- how many entries of all directories with links name inode i
unfoldable pub namings : ℕ → map.FinMap nat_cmp Node → ℕ → ℕ
namings block nodes i = total (λ _ node. if is_live node then naming_count block node 0 i else 0) nodes

-- the same without the first two entries of each, `.` and `..`
unfoldable pub children : ℕ → map.FinMap nat_cmp Node → ℕ → ℕ
children block nodes i = total (λ _ node. if is_live node then naming_count block node 2 i else 0) nodes

-- how many pending links are on inode i
unfoldable pub pending_on : map.FinMap nat_cmp ℕ → ℕ → ℕ
pending_on pending i = total (λ _ inode. one_if (inode == i)) pending

-- ---- beginnings

-- the greatest size of a file
abbrev pub greatest_size : ℕ → ℕ
greatest_size block = greatest_for block

-- the numbers of a geometry, no places, and nothing else
abbrev pub empty_fs : Geometry → Fs
empty_fs g = record {
  nodes = map.empty;
  references = map.empty;
  files = map.empty;
  promises = map.empty;
  pending = map.empty;
  block = g.block_size;
  greatest = greatest_size g.block_size;
  data_blocks = g.blocks - g.first_data;
  inodes = inode_count g;
  places = 0;
}

-- a node as it is added, and a file system with one node more
abbrev pub node_without_pages : Kind → ℕ → ℕ → ℕ → Node
node_without_pages kind mode links size = record { kind = kind; mode = mode; links = links; size = size; pages = map.empty }

abbrev pub with_node : Fs → ℕ → Node → Fs
with_node fs n node = record fs { nodes = map.insert fs.nodes n node }

-- a node with one page more
abbrev pub with_page : ℕ → List ℕ → Node → Node
with_page page bytes node = record node { pages = map.insert node.pages page bytes }

-- the nodes with what f makes of node n
abbrev pub insert_some : map.FinMap nat_cmp Node → ℕ → Option Node → map.FinMap nat_cmp Node
insert_some nodes n None = nodes
insert_some nodes n (Some node) = map.insert nodes n node

abbrev pub changed : map.FinMap nat_cmp Node → ℕ → (Node → Node) → map.FinMap nat_cmp Node
changed nodes n f = insert_some nodes n (option_map f (map.get nodes n))

-- page `page` of node n, and a file system with this page more
abbrev pub page_of : Fs → ℕ → ℕ → Option (List ℕ)
page_of fs n page = option_and_then (λ node. map.get node.pages page) (map.get fs.nodes n)

abbrev pub with_page_of : Fs → ℕ → ℕ → List ℕ → Fs
with_page_of fs n page bytes = record fs { nodes = changed fs.nodes n (with_page page bytes) }

-- two references to the root for each of the processes 1 to n
abbrev pub first_references : ℕ → map.FinMap pair_cmp ℕ
first_references zero = map.empty
first_references (suc n) = map.insert (first_references n) (suc n, 2) 2

-- the file system as `processes` processes begin it, with a table of so many places
abbrev pub begun : Fs → ℕ → ℕ → Fs
begun tree processes places = record tree {
  references = first_references processes;
  files = map.empty;
  promises = map.empty;
  pending = map.empty;
  places = places;
}

-- ---- how a state is stored: as the tuple of its fields

abbrev mode_number : Mode → ℕ
mode_number R = 0
mode_number W = 1
mode_number RW = 2

abbrev mode_of : ℕ → Mode
mode_of n = if n == 0 then R else (if n == 1 then W else RW)

pub mode_back : (m : Mode) → mode_of (mode_number m) ≡ m
mode_back R = refl
mode_back W = refl
mode_back RW = refl

abbrev pub opening_code : Coded Opening
opening_code =
    code_by (ℕ × (Mode × (ℕ × ℕ)))
    (coded× coded_ℕ (coded× (code_by ℕ coded_ℕ mode_number mode_of mode_back) (coded× coded_ℕ coded_ℕ)))
    (λ f. (f.inode, (f.mode, (f.offset, f.count))))
    (λ p. record { inode = p.0; mode = p.1.0; offset = p.1.1.0; count = p.1.1.1 })
    (λ _. refl)

abbrev Stored : Type 0
Stored = map.FinMap nat_cmp Node × (map.FinMap pair_cmp ℕ × (map.FinMap nat_cmp Opening
    × (map.FinMap nat_cmp ℕ × (map.FinMap nat_cmp ℕ × (ℕ × (ℕ × (ℕ × (ℕ × ℕ))))))))

abbrev pub fs_code : Coded Fs
fs_code =
    code_by Stored
    (coded× (map.code coded_ℕ node_code) (coded× (map.code (coded× coded_ℕ coded_ℕ) coded_ℕ)
    (coded× (map.code coded_ℕ opening_code) (coded× (map.code coded_ℕ coded_ℕ)
    (coded× (map.code coded_ℕ coded_ℕ) (coded× coded_ℕ (coded× coded_ℕ (coded× coded_ℕ (coded× coded_ℕ coded_ℕ)))))))))
    (λ fs. (
      fs.nodes,
      (
        fs.references,
        (
          fs.files,
          (
            fs.promises,
            (
              fs.pending,
              (fs.block, (fs.greatest, (fs.data_blocks, (fs.inodes, fs.places)))),
            ),
          ),
        ),
      ),
    ))
    (λ p. record {
      nodes = p.0;
      references = p.1.0;
      files = p.1.1.0;
      promises = p.1.1.1.0;
      pending = p.1.1.1.1.0;
      block = p.1.1.1.1.1.0;
      greatest = p.1.1.1.1.1.1.0;
      data_blocks = p.1.1.1.1.1.1.1.0;
      inodes = p.1.1.1.1.1.1.1.1.0;
      places = p.1.1.1.1.1.1.1.1.1;
    })
    (λ _. refl)
