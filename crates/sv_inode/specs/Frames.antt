-- What calls on an inode and on a core leave as it was: words that say in one clause what stays.
use Rattle.std.specs.Prelude.{◌≡◌, ◌≤◌, ◌<◌, ◌+◌, ◌⊎◌, ℕ, Bool, IsSome, max}
use Rattle.sv_dev.specs.Causes.{counted, last_count}
use Rattle.sv_form.specs.declared.inode.InodeBody.{InodeBody}
pub use Rattle.sv_store.specs.Frames.{KeepsStake}
use Rattle.sv_store.specs.Held.{Held, Lent, Origin, nothing_lent}
use Rattle.sv_super.specs.Core.{Core}

-- A count of faults rose, or stands at its end. A core does not say that its stake's count is at most the last value; where
-- that is known, this is `Rose`.
abbrev pub HasRisen : ℕ → ℕ → Type 0
HasRisen before now = (before < now) ⊎ (last_count ≤ now)

-- What a stake keeps, and each line that is held before the data blocks has the bytes that it had.
pub record KeepsFront {S : Type 0} (held : S → Held) (lent : S → Lent) (origin : S → Origin) (forced : S → Bool) (faults : S → ℕ)
    (old new : S) : Type 0 where
  pub stake : KeepsStake lent origin forced faults old new
  pub before : (c l : ℕ) → c < (origin old).sizes.first_data → IsSome (held old c l) → held new c l ≡ held old c l

-- The core's inodes and what it says of the sizes are as they were, and so is of its stake what a stake keeps.
pub record KeepsCore {S : Type 0} (lent : S → Lent) (origin : S → Origin) (forced : S → Bool) (faults : S → ℕ)
    (old new : Core S) : Type 0 where
  pub inodes : new.inodes ≡ old.inodes
  pub head : new.head ≡ old.head
  pub away : lent new.stake ≡ nothing_lent
  pub as_forced : forced new.stake ≡ forced old.stake
  pub home : origin new.stake ≡ origin old.stake
  pub no_less : counted (faults old.stake) 0 ≤ faults new.stake

-- The inode has the same body, and its stake the same lines.
pub record SameFile (body body' : InodeBody) (h h' : Held) : Type 0 where
  pub same_body : body' ≡ body
  pub same_lines : h' ≡ h

-- The core has the same stake and the same free blocks, and no less room to set blocks aside.
pub record KeepsFree {S : Type 0} (old new : Core S) : Type 0 where
  pub stake : new.stake ≡ old.stake
  pub chain : new.chain ≡ old.chain
  pub aside : new.aside ≡ old.aside
  pub spare : old.spare ≤ new.spare

-- How many blocks can be set aside, once room was made for `all` of them: of those that are taken and then free again, all
-- but `done`, each lowers it by one.
pub record KeepsRoom (all done old new : ℕ) : Type 0 where
  pub most : new ≤ max old all
  pub least : max old all + done ≤ new + all
