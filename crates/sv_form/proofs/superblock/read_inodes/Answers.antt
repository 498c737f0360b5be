use Rattle.std.proofs.Common.{◌≡◌, ◌+◌, ◌*◌, ℕ, arith, sym}
use Rattle.std.proofs.lemmas.Bool.{iff_false}
use Rattle.sv_form.specs.Number.{number16}
use Rattle.sv_form.proofs.Superblocks.{inodes_unused}
use Rattle.sv_form.proofs.Tables.{one_more}
use Rattle.sv_form.proofs.superblock.read_inodes.Goals as goal

pub returns-then-not-is_zero-clause-none : goal.returns-then-not-is_zero-clause-none
returns-then-not-is_zero-clause-none c list cache =
    iff_false c.is_zero.ensures c.if-not-is_zero.true (inodes_unused _ list _ (omega arith) cache)

pub loop-place-preserved : goal.loop-place-preserved
loop-place-preserved c = record {
  taken = omega (arith, c.push.ensures.len);
  numbers = rw c.push.ensures.items (one_more (λ k. number16 c.args.from.now (216 + 2 * k)) _ _ _ c.loop-place.invariant.taken (sym c.number16-in-loop-place.ensures) c.loop-place.invariant.numbers);
}
