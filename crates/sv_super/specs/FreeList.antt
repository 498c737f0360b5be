-- The chain of free blocks (Bach, chapter 4.7), read out of the held lines.
use Rattle.std.specs.Prelude.{◌/◌, ◌%◌, ℕ, List, [], map, slice_index, Option, unwrap_or}
use Rattle.std.specs.List.{range_with_len}
use Rattle.sv_form.specs.FreeChain as chain
pub use Rattle.sv_form.specs.FreeChain.{last}
use Rattle.sv_store.specs.Held.{Held}

-- byte k of a block, by its held lines
abbrev pub byte_of : (ℕ → Option (List ℕ)) → ℕ → ℕ
byte_of lines k = slice_index (unwrap_or (lines (k / 64)) []) (k % 64)

-- the bytes that the list of a link block takes
unfoldable pub front : (ℕ → Option (List ℕ)) → List ℕ
front lines = map (byte_of lines) (range_with_len 0 204)

-- the list that stands in a block with these lines
abbrev pub list_of : (ℕ → Option (List ℕ)) → List ℕ
list_of lines = chain.list_in (front lines)

-- the block with these lines reads as a list
abbrev pub HasList : (ℕ → Option (List ℕ)) → List ℕ → Type 0
HasList lines list = chain.HasList (front lines) list

-- the fronts of the held blocks
abbrev pub fronts : Held → ℕ → List ℕ
fronts h = λ b. front (h b)

-- the list once its last number is taken
abbrev pub after : Held → List ℕ → List ℕ
after h list = chain.after (fronts h) list

-- block b can be taken from the list
abbrev pub IsNext : Held → List ℕ → ℕ → Type 0
IsNext h list b = chain.IsNext (fronts h) list b

-- from this list on the chain has these blocks
abbrev pub IsChain : Held → List ℕ → List ℕ → Type 0
IsChain h list order = chain.IsChain (fronts h) list order

-- the first n blocks of the chain
abbrev pub taken : ℕ → Held → List ℕ → List ℕ
taken n h list = chain.taken n (fronts h) list
