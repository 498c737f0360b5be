use Rattle.std.proofs.Common.{option_copied, ◌≡◌, ℕ, ◌<◌, false}
use Rattle.std.specs.FinMap as map
use Rattle.sv_plain.specs.Names.{is_entry}
use Rattle.sv_plain.proofs.node.Node.place_among.Given as goal

abbrev pub invariant-loop-j : goal.invariant-loop-j
invariant-loop-j l = record {
  none : (k : ℕ) → k < l.j → is_entry l.block l.self l.name k ≡ false;
  page : option_copied l.near.1 ≡ map.get l.self.pages l.near.0;
}
