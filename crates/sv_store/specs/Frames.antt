-- What a call on a stake leaves as it was: words that say in one clause what stays.
use Rattle.std.specs.Prelude.{◌≡◌, ◌≤◌, ℕ, Bool}
use Rattle.sv_store.specs.Held.{Held, Lent, Origin, nothing_lent}

-- The stake holds its lines with their bytes, lends nothing, and is forced as it was and from where it was.
pub record Unchanged {S : Type 0} (held : S → Held) (lent : S → Lent) (origin : S → Origin) (forced : S → Bool) (old new : S) : Type 0 where
  pub lines : held new ≡ held old
  pub away : lent new ≡ nothing_lent
  pub as_forced : forced new ≡ forced old
  pub home : origin new ≡ origin old

-- Nothing is lent, the stake is forced as it was and from where it was, and its count of faults did not fall.
pub record KeepsStake {S : Type 0} (lent : S → Lent) (origin : S → Origin) (forced : S → Bool) (faults : S → ℕ) (old new : S) : Type 0 where
  pub away : lent new ≡ nothing_lent
  pub as_forced : forced new ≡ forced old
  pub home : origin new ≡ origin old
  pub no_less : faults old ≤ faults new
