use Rattle.std.proofs.Common.{◌≡◌, ◌+◌, ℕ, List, drop, length}
use Rattle.sv_form.specs.Geometry.{inode_count}
use Rattle.sv_check.specs.ChainSteps.{met_in}
use Rattle.sv_check.specs.InodeCache.{first_uncacheable}
use Rattle.sv_check.specs.InodeList.{used_flags}
use Rattle.sv_check.specs.Walk.{nothing_met}
use Rattle.sv_check.proofs.sound.inode_cache.first_uncacheable.Given as goal

abbrev pub invariant-loop-n : goal.invariant-loop-n
invariant-loop-n l = record {
  len : length l.met.items ≡ inode_count l.sizes + 1;
  left : (image : List ℕ) → l.used ≡ used_flags l.sizes image
      → first_uncacheable l.sizes image nothing_met l.cache ≡ first_uncacheable l.sizes image (met_in l.met.items) (drop l.n-index l.cache);
}
