-- The next block is the last of those that are left.
use Rattle.std.proofs.Common.{◌≡◌, ◌+◌, ◌-◌, ℕ, subst, arith}
use Rattle.sv_super.specs.Sample.{IsSource}
use Rattle.sv_inode.proofs.write_tests.free_each.Goals as goal

pub free_one-requires-clause-source : goal.free_one-requires-clause-source
free_one-requires-clause-source g c κs within =
    (let next : 64 - c.loop-k.k ≡ 63 - c.loop-k.k + 1 = omega (arith, c.loop-k-test.true) in
    let P : ℕ → Type 0 = λ n. IsSource (g.S.Stake.origin c.loop-k.core.stake) (g.S.Stake.held c.loop-k.core.stake)
    (g.S.Stake.origin c.loop-k.source) (g.S.Stake.held c.loop-k.source) (g.S.Stake.lent c.loop-k.source) n in
    subst P next c.loop-k.invariant.source)
