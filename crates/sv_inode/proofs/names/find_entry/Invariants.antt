use Rattle.std.proofs.Common.{◌≡◌, ◌≤◌, ◌<◌, ◌*◌, ◌/◌, ℕ, false}
use Rattle.sv_form.specs.Node.{Node}
use Rattle.sv_inode.specs.Names.{is_at}
use Rattle.sv_store.specs.Held.{nothing_lent}
use Rattle.sv_inode.specs.StandsFor.{StandsFor}
use Rattle.sv_inode.proofs.names.find_entry.Given as goal

abbrev pub invariant-loop-page : goal.invariant-loop-page
invariant-loop-page g l = record {
  before : (node : Node) → StandsFor (g.S.Stake.origin l.fn.s) (g.S.Stake.held l.fn.s) l.body node → (k : ℕ) → k < 64 * l.page
      → k < l.body.size / 16 → is_at (g.S.Stake.origin l.fn.s).sizes.block_size node l.name k ≡ false;
  held : g.S.Stake.held l.s ≡ g.S.Stake.held l.fn.s;
  lends : g.S.Stake.lent l.s ≡ nothing_lent;
  forced : g.S.Stake.forced l.s ≡ g.S.Stake.forced l.fn.s;
  origin : g.S.Stake.origin l.s ≡ g.S.Stake.origin l.fn.s;
  faults : g.S.Stake.faults l.fn.s ≤ g.S.Stake.faults l.s;
}
