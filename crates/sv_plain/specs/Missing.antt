-- Blocks that are missing to make pages present: counted page by page, and listed.
use Rattle.std.specs.Prelude.{ℕ, ◌-◌, ◌==◌, ◌&&◌, Bool, not, List, option_map, unwrap_or}
use Rattle.std.specs.List.{filter, flat_map, list_any}
use Rattle.std.specs.FinMap as map
use Rattle.std.specs.FinSet as set
use Rattle.sv_form.specs.Pair.{pair_cmp}
use Rattle.sv_form.specs.Node.{block_set, blocks_at, numbers_per}
use Rattle.sv_plain.specs.Blocks.{with_blocks}
use Rattle.sv_plain.specs.Fs.{Fs}

-- the blocks of the node with number i, and none where there is no node
abbrev pub node_blocks : Fs → ℕ → set.FinSet pair_cmp
node_blocks fs i = unwrap_or (option_map (λ node. block_set (numbers_per fs.block) (map.keys node.pages)) (map.get fs.nodes i)) set.empty

abbrev pub is_block : ℕ × ℕ → ℕ × ℕ → Bool
is_block a b = (a.0 == b.0) && (a.1 == b.1)

-- a block that is neither in the set nor among the others
abbrev pub is_new : set.FinSet pair_cmp → List (ℕ × ℕ) → ℕ × ℕ → Bool
is_new s others b = not (set.contains s b) && not (list_any (is_block b) others)

-- how many blocks more there are with those of these pages
unfoldable pub added : set.FinSet pair_cmp → ℕ → List ℕ → ℕ
added s per pages = set.len (with_blocks s (flat_map (blocks_at per) pages)) - set.len s

-- the blocks of these pages that the set lacks
unfoldable pub missing : set.FinSet pair_cmp → ℕ → List ℕ → List (ℕ × ℕ)
missing s per pages = filter (λ b. not (set.contains s b)) (flat_map (blocks_at per) pages)
