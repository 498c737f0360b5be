use Rattle.std.proofs.Common.{option_copied, ◌≡◌, ◌==◌, ℕ, ◌<◌, false}
use Rattle.std.specs.FinMap as map
use Rattle.sv_form.specs.Node.{entry_inode}
use Rattle.sv_plain.proofs.node.Node.empty_place.Given as goal

abbrev pub invariant-loop-j : goal.invariant-loop-j
invariant-loop-j l = record {
  none : (k : ℕ) → k < l.j → (entry_inode l.block l.self k == 0) ≡ false;
  page : option_copied l.near.1 ≡ map.get l.self.pages l.near.0;
}
