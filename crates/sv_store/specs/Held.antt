-- What a stake holds and what it has lent. A line is 64 bytes of a block; lines are counted from 0.
use Rattle.std.specs.Prelude.{◌≡◌, ◌<◌, ◌+◌, ◌*◌, ◌==◌, ◌&&◌, ℕ, Bool, List, Option, Some, None, IsSome, IfSome, is_some, option_map}
use Rattle.std.specs.Prelude.{if◌then◌else◌, slice_range, length, [], nat_le, nat_lt}
use Rattle.std.specs.List.{list_any, slice_index_or}
use Rattle.sv_form.specs.declared.geometry.Geometry.{Geometry}
use Rattle.sv_form.specs.declared.owners.LineRange.{LineRange}

-- the bytes of a held line, by block and line
abbrev pub Held : Type 0
Held = ℕ → ℕ → Option (List ℕ)

-- the bytes with which a block was lent
abbrev pub Lent : Type 0
Lent = ℕ → Option (List ℕ)

-- where a stake comes from: all parts of one first stake have one origin, and so one geometry; the numbers name the rest of
-- what they have in common, and no other first stake of that kind has them
pub record Origin : Type 0 where
  pub id : List ℕ
  pub sizes : Geometry

-- line l of a block with these bytes; it has no byte past the block's end
unfoldable pub line_of : List ℕ → ℕ → List ℕ
line_of bytes l = slice_range bytes (l * 64) (l * 64 + 64)

-- the held lines of block b are those of these bytes, and all else is as before
unfoldable pub put : ℕ → List ℕ → Held → Held
put b bytes h = λ c l. if c == b then option_map (λ _. line_of bytes l) (h c l) else h c l

-- block b is lent with these bytes, and all else is as before
unfoldable pub with : ℕ → List ℕ → Lent → Lent
with b bytes m = λ c. if c == b then Some bytes else m c

-- block b is not lent, and all else is as before
unfoldable pub without : ℕ → Lent → Lent
without b m = λ c. if c == b then None else m c

abbrev pub nothing_lent : Lent
nothing_lent = λ _. None

-- the lines of both
unfoldable pub Both : Held → Held → Held
Both h k = λ b l. if is_some (h b l) then h b l else k b l

-- line l of block b stands in this range
unfoldable pub covers : ℕ → ℕ → LineRange → Bool
covers b l r = (r.block == b) && (nat_le r.first l && nat_lt l (r.first + r.count))

-- line l of block b stands in one of these ranges
abbrev pub in_ranges : List LineRange → ℕ → ℕ → Bool
in_ranges lines b l = list_any (covers b l) lines

-- those of the held lines that stand in the ranges, and those that do not
unfoldable pub chosen : List LineRange → Held → Held
chosen lines h = λ b l. if in_ranges lines b l then h b l else None

unfoldable pub rest : List LineRange → Held → Held
rest lines h = λ b l. if in_ranges lines b l then None else h b l

-- the two hold the same lines, with whatever bytes
pub record SameLines (h k : Held) : Type 0 where
  pub at : (b l : ℕ) → is_some (h b l) ≡ is_some (k b l)

-- no line is held by both
pub record Apart (h k : Held) : Type 0 where
  pub at : (b l : ℕ) → IsSome (h b l) → k b l ≡ None

-- only lines of blocks in range are held, and only lines that a block has, each with 64 bytes
pub record InRange (g : Geometry) (h : Held) : Type 0 where
  pub block : (b l : ℕ) → IsSome (h b l) → b < g.blocks
  pub line : (b l : ℕ) → IsSome (h b l) → l * 64 < g.block_size
  pub bytes : (b l : ℕ) → IfSome (h b l) (λ line. length line ≡ 64)

-- all lines of the block are held
pub record HoldsBlock (o : Origin) (h : Held) (b : ℕ) : Type 0 where
  pub at : (l : ℕ) → l * 64 < o.sizes.block_size → IsSome (h b l)

-- all lines of these blocks
unfoldable pub of_content : Geometry → List (List ℕ) → Held
of_content g content = λ b l. if nat_lt b (length content) && nat_lt (l * 64) g.block_size then Some
    (line_of (slice_index_or content b []) l) else None
