-- Lines that threads share out: some lines, the same of each of ten blocks.
use Rattle.std.specs.Prelude.{◌≡◌, ◌+◌, ◌<◌, ◌≤◌, ℕ, zero, suc, List, [], ◌∷◌, IsSome}
use Rattle.sv_form.specs.declared.owners.LineRange.{LineRange}
use Rattle.sv_store.specs.Calls.{Parts}
use Rattle.sv_store.specs.Held.{Held, Lent, Origin, SameLines, nothing_lent}

-- these lines of the blocks below block b, from the last block on
unfoldable pub lines_below : ℕ → ℕ → ℕ → List LineRange
lines_below first count zero = []
lines_below first count (suc b) = record { block = b; first = first; count = count } ∷ lines_below first count b

-- there is a line, and a block has them all
pub record IsFew (first count : ℕ) : Type 0 where
  pub some : 0 < count
  pub last : first + count ≤ 16

-- these lines of ten blocks are held, and nothing is lent
pub record IsShare (first count : ℕ) (o : Origin) (h : Held) (m : Lent) : Type 0 where
  pub size : o.sizes.block_size ≡ 1024
  pub blocks : o.sizes.blocks ≡ 10
  pub within : (b l : ℕ) → b < 10 → first ≤ l → l < first + count → IsSome (h b l)
  pub idle : m ≡ nothing_lent

-- the same lines are held, as much is lent, and it is from where it was
pub record KeepsLines {S : Type 0} (held : S → Held) (lent : S → Lent) (origin : S → Origin) (old new : S) : Type 0 where
  pub lines : SameLines (held new) (held old)
  pub away : lent new ≡ lent old
  pub home : origin new ≡ origin old

-- the lines are cut in two, and both parts are from where the whole was
pub record AreCut {S : Type 0} (held : S → Held) (origin : S → Origin) (old mine theirs : S) : Type 0 where
  pub lines : List LineRange
  pub parts : Parts (held old) lines (held mine) (held theirs)
  pub home : origin mine ≡ origin old
  pub other_home : origin theirs ≡ origin old
