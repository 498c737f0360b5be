-- Lines of one block, held in memory.
use Rattle.std.specs.Prelude.{◌≡◌, ◌<◌, ◌≤◌, ◌*◌, ◌==◌, ◌&&◌, ℕ, suc, Bool, true, false, List, [], ◌∷◌, length, map, Option, Some, None}
use Rattle.std.specs.Prelude.{is_none, if◌then◌else◌, count_by, replicate, ◌/◌, ◌+◌, ◌++◌, not, nat_lt, nat_le, slice_range, take, drop}
use Rattle.std.specs.Option.{ForSome}
use Rattle.std.specs.List.{All, list_all, list_any, slice_index_or}
use Rattle.sv_form.specs.declared.geometry.Geometry.{Geometry}
use Rattle.sv_form.specs.declared.owners.LineRange.{LineRange}
use Rattle.sv_store.specs.Held.{Held, Lent, Both, line_of, in_ranges, chosen, rest, nothing_lent}

-- which lines of a block are held
pub record Mask : Type 0 where
  pub block : ℕ
  pub lines : List Bool

-- some lines of a block: the bytes of the block as they were last put or got, and the bytes that can be lent, none
-- while they are out
pub record OwnBlock : Type 0 where
  pub block : ℕ
  pub lines : List Bool
  pub kept : List ℕ
  pub spare : Option (List ℕ)

abbrev pub mask_of : OwnBlock → Mask
mask_of e = record { block = e.block; lines = e.lines }

-- a block that is nowhere
abbrev pub nowhere : OwnBlock
nowhere = record { block = 0; lines = []; kept = []; spare = None }

-- line l of block b is held here
unfoldable pub has : ℕ → ℕ → Mask → Bool
has b l m = (m.block == b) && slice_index_or m.lines l false

-- the line's bytes, where it is held here
unfoldable pub line_in : OwnBlock → Held
line_in e = λ b l. if has b l (mask_of e) then Some (line_of e.kept l) else None

-- the lines that are held in all of these
unfoldable pub held_of : List OwnBlock → Held
held_of [] = λ b l. None
held_of (e ∷ es) = Both (held_of es) (line_in e)

-- block b is lent out of here
unfoldable pub is_out : ℕ → OwnBlock → Bool
is_out b e = (e.block == b) && is_none e.spare

-- the blocks that are lent out of one of these
unfoldable pub lent_of : List OwnBlock → Lent
lent_of [] = λ b. None
lent_of (e ∷ es) = λ b. if is_out b e then Some e.kept else lent_of es b

-- these bytes in place of the block's
unfoldable pub filled : ℕ → List ℕ → OwnBlock → OwnBlock
filled b bytes e = if e.block == b then record e { kept = bytes } else e

-- how many of these hold line l of block b
abbrev pub holders : ℕ → ℕ → List Mask → ℕ
holders b l ms = count_by (has b l) ms

-- Blocks are in range, all bytes are a block's length, each entry holds some line, no line is held twice, and a block
-- is lent out of one place at most.
pub record IsSound (g : Geometry) (es : List OwnBlock) : Type 0 where
  pub block : All (λ e. e.block < g.blocks) es
  pub lines : All (λ e. length e.lines * 64 ≡ g.block_size) es
  pub some : All (λ e. list_any (λ x. x) e.lines ≡ true) es
  pub kept : All (λ e. length e.kept ≡ g.block_size) es
  pub spare : All (λ e. ForSome e.spare (λ bytes. length bytes ≡ g.block_size)) es
  pub once : (b l : ℕ) → holders b l (map mask_of es) ≤ 1
  pub out : (b : ℕ) → count_by (is_out b) es ≤ 1

-- of these lines, from the i-th of a block on, those that pass the test
unfoldable pub masked_lines : (ℕ → Bool) → ℕ → List Bool → List Bool
masked_lines test i [] = []
masked_lines test i (x ∷ xs) = (x && test i) ∷ masked_lines test (suc i) xs

-- the lines of a block that pass the test
abbrev pub masked : (ℕ → ℕ → Bool) → OwnBlock → OwnBlock
masked test e = record e { lines = masked_lines (test e.block) 0 e.lines }

-- a copy of them, with bytes of its own to lend
abbrev pub copied : (ℕ → ℕ → Bool) → OwnBlock → OwnBlock
copied test e = record { block = e.block; lines = masked_lines (test e.block) 0 e.lines; kept = e.kept; spare = Some e.kept }

-- whether an entry holds any line
abbrev pub holds_any : OwnBlock → Bool
holds_any e = list_any (λ x. x) e.lines

-- what is left of each entry, without those of which nothing is left
unfoldable pub left : (OwnBlock → OwnBlock) → List OwnBlock → List OwnBlock
left f [] = []
left f (e ∷ es) = if holds_any (f e) then f e ∷ left f es else left f es

-- all of so many lines from one on are held, and there are some
unfoldable pub has_all : List Bool → ℕ → ℕ → Bool
has_all lines first count = nat_lt first (first + count) && (nat_le (first + count) (length lines)
    && list_all (λ x. x) (slice_range lines first (first + count)))

-- no line is held before the first of so many lines, or after the last
unfoldable pub has_none_else : List Bool → ℕ → ℕ → Bool
has_none_else lines first count = not (list_any (λ x. x) (take first lines)) && not (list_any (λ x. x) (drop (first + count) lines))

-- all lines of a range are held here, and there are some
unfoldable pub holds_range : LineRange → OwnBlock → Bool
holds_range r e = (e.block == r.block) && has_all e.lines r.first r.count

-- one entry more: the lines of an entry that stand in these ranges, with bytes of their own to lend
pub record AddsCopy (lines : List LineRange) (e : OwnBlock) (old new : List OwnBlock) : Type 0 where
  pub bytes : List ℕ
  pub size : length bytes ≡ length e.kept
  pub added : new ≡ old ++ (record (copied (in_ranges lines) e) { spare = Some bytes }) ∷ []

-- the lines of these ranges have moved from one list to another, where they can be lent; nothing else has changed
pub record Moves (g : Geometry) (lines : List LineRange) (old taken new more : List OwnBlock) : Type 0 where
  pub sound : IsSound g new
  pub other : IsSound g more
  pub home : lent_of more ≡ nothing_lent
  pub lends : lent_of new ≡ lent_of old
  pub stays : held_of new ≡ rest lines (held_of old)
  pub goes : held_of more ≡ Both (held_of taken) (chosen lines (held_of old))

-- all lines of block b, with these bytes
abbrev pub whole_block : Geometry → ℕ → List ℕ → OwnBlock
whole_block g b bytes = record {
  block = b;
  lines = replicate (g.block_size / 64) true;
  kept = bytes;
  spare = Some (replicate g.block_size 0);
}

-- all lines of the blocks from b on
unfoldable pub whole_blocks : Geometry → ℕ → List (List ℕ) → List OwnBlock
whole_blocks g b [] = []
whole_blocks g b (bytes ∷ rest) = whole_block g b bytes ∷ whole_blocks g (suc b) rest
