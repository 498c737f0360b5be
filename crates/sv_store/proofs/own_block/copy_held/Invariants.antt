use Rattle.std.proofs.Common.{◌≡◌, ◌<◌, ◌≤◌, ℕ, false, cond, get_or}
use Rattle.sv_store.specs.Held.{line_of}
use Rattle.sv_store.proofs.own_block.copy_held.Given as goal

abbrev pub invariant-loop-l : goal.invariant-loop-l
invariant-loop-l l = record {
  done : (m : ℕ) → m < l.l → line_of l.into m ≡ cond (get_or l.lines m false) (line_of l.from m) (line_of l.initial.into m);
  left : (m : ℕ) → l.l ≤ m → line_of l.into m ≡ line_of l.initial.into m;
}
