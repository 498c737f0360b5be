-- Each line is counted once.
use Rattle.std.proofs.Common.{nat_lt, sym, ap, ◌∙◌, arith}
use Rattle.sv_form.specs.Owners.{owner_of}
use Rattle.sv_super.specs.Count.{one_if}
use Rattle.sv_super.proofs.Counts.{byte-one, counts-low, counts-more, sum-zero}
use Rattle.sv_super.proofs.mounted.count_owned.Goals as goal

pub loop-line-init : goal.loop-line-init
loop-line-init c = sym (sum-zero (λ k. one_if (nat_lt 0 (owner_of c.args.owners.now (record { block = c.args.block; line = k })))))

pub loop-line-preserved : goal.loop-line-preserved
loop-line-preserved c =
    counts-more c.loop-line.line _ _ (λ k. nat_lt 0 (owner_of c.args.owners.now (record { block = c.args.block; line = k }))) c.loop-line.invariant (c.from-count.ensures ∙ (byte-one (nat_lt 0 c.owner.result) ∙ ap (λ n. one_if (nat_lt 0 n)) c.owner.ensures.value))

pub overflow_add-count : goal.overflow_add-count
overflow_add-count c =
    let low = counts-low c.loop-line.line _ _ (λ k. nat_lt 0 (owner_of c.args.owners.now (record { block = c.args.block; line = k }))) c.loop-line.invariant (c.from-count.ensures ∙ (byte-one (nat_lt 0 c.owner.result) ∙ ap (λ n. one_if (nat_lt 0 n)) c.owner.ensures.value)) in
    omega (arith, low)
