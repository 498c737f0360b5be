-- How many blocks more a node takes, its indirect blocks among them.
use Rattle.std.specs.Prelude.{◌-◌, ◌/◌, ◌%◌, ◌==◌, ℕ, List, [], ◌∷◌, ◌++◌, is_some, if◌then◌else◌}
use Rattle.std.specs.FinMap as fmap
use Rattle.std.specs.FinSet as set
use Rattle.sv_form.specs.Node.{Node, block_set, numbers_per}
use Rattle.sv_form.specs.NodeChanges.{touched}
use Rattle.sv_form.specs.NodeNames.{empty_place}

-- how many blocks more a node uses with these pages besides
unfoldable pub blocks_added : ℕ → Node → List ℕ → ℕ
blocks_added block node pages =
    set.len (block_set (numbers_per block) (fmap.keys node.pages ++ pages)) - set.len (block_set (numbers_per block) (fmap.keys node.pages))

-- what a write of `count` bytes at `at` takes
abbrev pub range_need : ℕ → Node → ℕ → ℕ → ℕ
range_need block node at count = blocks_added block node (touched block at count)

-- what one entry more takes: nothing where an entry is empty or the last page has room
abbrev pub entry_need : ℕ → Node → ℕ
entry_need block node =
    if is_some (empty_place block node) then 0
    else (if node.size % block == 0 then blocks_added block node (node.size / block ∷ [])
    else 0)
