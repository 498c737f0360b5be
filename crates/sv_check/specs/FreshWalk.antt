-- A walk over the blocks of all inodes before its first step.
use Rattle.std.specs.Prelude.{◌≡◌, ℕ, [], false, None, replicate}
use Rattle.sv_check.specs.declared.sound.whole_walk.BlockWalk.{BlockWalk}

-- no block of these has an owner, and nothing was found
pub record IsFresh (blocks : ℕ) (w : BlockWalk) : Type 0 where
  pub owner : w.walk.owner.items ≡ replicate blocks 0
  pub walk_past : w.walk.past ≡ false
  pub walk_tail : w.walk.tail ≡ false
  pub pages : w.walk.pages.items ≡ []
  pub bad : w.bad ≡ None
  pub past : w.past ≡ None
  pub tail : w.tail ≡ None
  pub directories : w.directories.items ≡ []
