-- What entering a name writes.
use Rattle.std.specs.Prelude.{◌-◌, ◌++◌, ℕ, List, [], ◌∷◌, replicate}
use Rattle.std.specs.FinMap as map
use Rattle.sv_form.specs.Node.{Node}
use Rattle.sv_plain.specs.Change.{entry_bytes}

-- a node of another size, and one with a page besides
abbrev pub with_size : ℕ → Node → Node
with_size size node = record node { size = size }

abbrev pub with_sized_page : ℕ → List ℕ → ℕ → Node → Node
with_sized_page page bytes size node = record node { pages = map.insert node.pages page bytes; size = size }

-- the first page of directory i, made in directory d: `.`, `..` and zeros
abbrev pub first_page : ℕ → ℕ → ℕ → List ℕ
first_page block i d = entry_bytes i (46 ∷ []) ++ entry_bytes d (46 ∷ 46 ∷ []) ++ replicate (block - 32) 0
