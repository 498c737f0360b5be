-- Each number is counted once.
use Rattle.std.proofs.Common.{sym, ap, ◌∙◌, arith}
use Rattle.sv_super.specs.Count.{one_if}
use Rattle.sv_super.specs.Inodes.{is_free_inode}
use Rattle.sv_super.proofs.Counts.{byte-one, counts-low, counts-more, sum-zero}
use Rattle.sv_super.proofs.FreeNumbers.{count-is}
use Rattle.sv_super.proofs.inodes.count_free_inodes.Goals as goal

pub loop-n-init : goal.loop-n-init
loop-n-init c = sym (sum-zero (λ k. one_if (is_free_inode c.args.used.now k)))

pub loop-n-preserved : goal.loop-n-preserved
loop-n-preserved c = counts-more c.loop-n.n _ _ (is_free_inode c.args.used.now) c.loop-n.invariant (c.from-count.ensures ∙ (byte-one c.is_free.result ∙ ap one_if c.is_free.ensures))

pub overflow_add-count : goal.overflow_add-count
overflow_add-count c =
    let low = counts-low c.loop-n.n _ _ (is_free_inode c.args.used.now) c.loop-n.invariant (c.from-count.ensures ∙ (byte-one c.is_free.result ∙ ap one_if c.is_free.ensures)) in
    omega (arith, low)

pub returns : goal.returns
returns c = count-is c.args.used.now c.loop-n.invariant (omega (arith, c.loop-n-test.false, c.loop-n.auto.n-end))
