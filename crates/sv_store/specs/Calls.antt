-- What each call of a stake asks, and what it gives.
use Rattle.std.specs.Prelude.{◌≡◌, ◌≤◌, ℕ, List, length, true, false, Some, None, IsSome, IfSome, count_by, replicate}
use Rattle.sv_form.specs.declared.owners.LineRange.{LineRange}
use Rattle.sv_store.specs.Held.{Held, Lent, Origin, HoldsBlock, Apart, line_of, nothing_lent, covers, in_ranges, chosen, rest}
use Rattle.sv_store.specs.Loan.{Loan}

-- a block can be read where some line of it is held and it is not lent; such a block is in range
pub record CanGet (h : Held) (m : Lent) (b : ℕ) : Type 0 where
  pub some : (l : ℕ) × IsSome (h b l)
  pub away : m b ≡ None

-- a block can be made anew where all its lines are held and it is not lent
pub record CanFresh (o : Origin) (h : Held) (m : Lent) (b : ℕ) : Type 0 where
  pub some : (l : ℕ) × IsSome (h b l)
  pub whole : HoldsBlock o h b
  pub away : m b ≡ None

-- the buffer is of this block and of a block's length, and each held line in it has the bytes that are held
pub record Gets (o : Origin) (h : Held) (b : ℕ) (buf : Loan) : Type 0 where
  pub block : buf.block ≡ b
  pub size : length buf.bytes ≡ o.sizes.block_size
  pub lines : (l : ℕ) → IfSome (h b l) (λ bytes. line_of buf.bytes l ≡ bytes)

-- the buffer is of this block and a block's length of zero bytes
pub record GetsZeros (o : Origin) (b : ℕ) (buf : Loan) : Type 0 where
  pub block : buf.block ≡ b
  pub zeros : buf.bytes ≡ replicate o.sizes.block_size 0

-- the buffer was lent, and has the bytes with which it was lent
abbrev pub CanReturn : Lent → Loan → Type 0
CanReturn m buf = m buf.block ≡ Some buf.bytes

-- the buffer was lent with as many bytes, and the lines that are not held are as they were got
pub record CanPut (h : Held) (m : Lent) (buf : Loan) : Type 0 where
  pub was : List ℕ
  pub from : m buf.block ≡ Some was
  pub size : length buf.bytes ≡ length was
  pub others : (l : ℕ) → h buf.block l ≡ None → line_of buf.bytes l ≡ line_of was l

-- lines can be parted where they are held and not lent, each stands in one range, there is at least one, and at
-- least one held line stays
pub record CanPart (h : Held) (m : Lent) (lines : List LineRange) : Type 0 where
  pub within : (b l : ℕ) → in_ranges lines b l ≡ true → IsSome (h b l)
  pub away : (b l : ℕ) → in_ranges lines b l ≡ true → m b ≡ None
  pub once : (b l : ℕ) → count_by (covers b l) lines ≤ 1
  pub some : (b : ℕ) × ((l : ℕ) × (in_ranges lines b l ≡ true))
  pub more : (b : ℕ) × ((l : ℕ) × (IsSome (h b l) × (in_ranges lines b l ≡ false)))

-- the lines that were held are cut in two
pub record Parts (h : Held) (lines : List LineRange) (mine theirs : Held) : Type 0 where
  pub kept : mine ≡ rest lines h
  pub given : theirs ≡ chosen lines h

-- another stake can be merged where no line is held by both and it has nothing lent
pub record CanMerge (h k : Held) (m : Lent) : Type 0 where
  pub apart : Apart h k
  pub away : m ≡ nothing_lent
