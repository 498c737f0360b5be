use Rattle.std.proofs.Common.{◌≡◌, ◌≤◌, length}
use Rattle.sv_check.specs.Chain.{chain_from}
use Rattle.sv_check.specs.ChainSteps.{met_in}
use Rattle.sv_check.proofs.ChainMet.{Gathers}
use Rattle.sv_check.proofs.ChainWalk.{Leads}
use Rattle.sv_check.proofs.sound.chain.follow_chain.Given as goal

abbrev pub invariant-loop-turn : goal.invariant-loop-turn
invariant-loop-turn g l = record {
  content : g.D.Disk.content l.disk ≡ g.D.Disk.content l.fn.disk;
  faults : g.D.Disk.faults l.fn.disk ≤ g.D.Disk.faults l.disk;
  blocks : length l.met.met.items ≡ l.fn.sizes.blocks;
  leads : Leads l.fn.sizes (g.D.Disk.content l.fn.disk) (met_in l.fn.met.met.items) (chain_from l.fn.sizes (g.D.Disk.content l.fn.disk) l.fn.sizes.blocks l.fn.first.items)
      (met_in l.met.met.items) l.turn l.list.items;
  gathers : Gathers l.fn.sizes (g.D.Disk.content l.fn.disk) (met_in l.fn.met.met.items) (chain_from l.fn.sizes (g.D.Disk.content l.fn.disk) l.fn.sizes.blocks l.fn.first.items)
      (met_in l.met.met.items) l.turn l.list.items;
}
