-- The lines are those of the free inodes.
use Rattle.std.proofs.Common.{subst}
use Rattle.sv_super.specs.Core.{Core, HoldsFirst, HoldsInodes}
use Rattle.sv_super.proofs.blocks.SuperCore.inodes_left.Goals as goal

pub returns-clause-lines : goal.returns-clause-lines
returns-clause-lines g c = (let P : Core g.row.S.Denot → Type 0 = λ v. HoldsInodes (g.S.Stake.origin v.stake) (g.S.Stake.held v.stake) v.inodes.used in subst P c.self.view_is c.self.invariant.inodes)

pub returns-clause-first : goal.returns-clause-first
returns-clause-first g c = (let P : Core g.row.S.Denot → Type 0 = λ v. HoldsFirst (g.S.Stake.origin v.stake) (g.S.Stake.held v.stake) in subst P c.self.view_is c.self.invariant.first)
