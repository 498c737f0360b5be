-- What a write and a truncate make of a node's bytes.
use Rattle.std.specs.Prelude.{◌+◌, ◌-◌, ◌*◌, ◌/◌, ◌==◌, ◌&&◌, ℕ, List, [], ◌∷◌, map, length, max, slice_index, nat_le, nat_lt}
use Rattle.std.specs.Prelude.{if◌then◌else◌}
use Rattle.std.specs.List.{range_with_len}
use Rattle.std.specs.Ordering.{nat_cmp}
use Rattle.std.specs.FinMap as fmap
use Rattle.sv_form.specs.Node.{Node, byte_of}

-- the pages that `count` bytes from `at` on lie in
abbrev pub touched : ℕ → ℕ → ℕ → List ℕ
touched block at count = if count == 0 then [] else range_with_len (at / block) ((at + count - 1) / block - at / block + 1)

-- byte k once `bytes` were put at `at`, and a page then
abbrev pub byte_after : ℕ → Node → ℕ → List ℕ → ℕ → ℕ
byte_after block node at bytes k = if nat_le at k && nat_lt k (at + length bytes) then slice_index bytes (k - at) else byte_of block node k

abbrev pub page_after : ℕ → Node → ℕ → List ℕ → ℕ → List ℕ
page_after block node at bytes page = map (byte_after block node at bytes) (range_with_len (page * block) block)

abbrev pub with_pages : fmap.FinMap nat_cmp (List ℕ) → (ℕ → List ℕ) → List ℕ → fmap.FinMap nat_cmp (List ℕ)
with_pages pages f [] = pages
with_pages pages f (p ∷ ps) = fmap.insert (with_pages pages f ps) p (f p)

-- a node once `bytes` were put at `at`: it ends no earlier than they do, and no byte changes nothing
unfoldable pub put : ℕ → Node → ℕ → List ℕ → Node
put block node at bytes = record node {
  pages = with_pages node.pages (page_after block node at bytes) (touched block at (length bytes));
  size = if length bytes == 0 then node.size else max node.size (at + length bytes);
}

-- a node without bytes
abbrev pub emptied : Node → Node
emptied node = record node { size = 0; pages = fmap.empty }
