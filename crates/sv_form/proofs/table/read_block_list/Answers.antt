use Rattle.std.proofs.Common.{◌≡◌, ◌+◌, ◌*◌, ℕ, arith, sym, subst, ◌<◌, length, get_or}
use Rattle.std.proofs.lemmas.Bool.{iff_false}
use Rattle.sv_form.specs.Number.{number16, number32}
use Rattle.sv_form.proofs.Tables.{list_unused, list_read, one_more}
use Rattle.sv_form.proofs.table.read_block_list.Goals as goal

pub returns-then-not-is_zero-clause-none : goal.returns-then-not-is_zero-clause-none
returns-then-not-is_zero-clause-none c list cache =
    iff_false c.is_zero.ensures c.if-not-is_zero.true (list_unused _ list _ _ _ (omega arith) cache)

pub loop-place-preserved : goal.loop-place-preserved
loop-place-preserved c = record {
  taken = omega (arith, c.push.ensures.len);
  numbers = rw c.push.ensures.items (one_more (λ k. number32 c.args.from.now (c.args.at + 4 * k)) _ _ _ c.loop-place.invariant.taken (sym c.number32.ensures) c.loop-place.invariant.numbers);
}

pub returns-clause-some : goal.returns-clause-some
returns-clause-some c =
    let len : length c.loop-place.list.items ≡ c.from-count.result = omega arith in
    list_read _ _ _ _ _ (omega arith) len (omega arith) (omega arith)
    (rw c.loop-place.invariant.taken c.loop-place.invariant.numbers) (c.is_zero.ensures.0 c.if-not-is_zero.false)
