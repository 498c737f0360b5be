use Rattle.std.proofs.Common.{arith}
use Rattle.std.proofs.lemmas.Result.{err_from_is_err_and}
use Rattle.sv_journal.proofs.Written.{all_written, head_first, line_more, stopped_at, stopped_first}
use Rattle.sv_journal.proofs.journal.write.Goals as goal

pub returns-in_err-write_head-clause-err : goal.returns-in_err-write_head-clause-err
returns-in_err-write_head-clause-err g c =
    let p = err_from_is_err_and c.from_residual.result c.from_residual.ensures.1 in
    rw (p.1) (stopped_first _ _ _ _ _ c.in_err-write_head.ensures.err)

pub loop-entry-init : goal.loop-entry-init
loop-entry-init g c = record {
  written = head_first _ _ _ _ _ c.in_ok-write_head.ensures.ok;
  no_less = c.in_ok-write_head.ensures.no_less;
}

pub returns-in_err-write_entry-clause-err : goal.returns-in_err-write_entry-clause-err
returns-in_err-write_entry-clause-err g c =
    let p = err_from_is_err_and c.from_residual-in_err-write_entry.result c.from_residual-in_err-write_entry.ensures.1 in
    rw (p.1) (stopped_at _ _ _ _ _ _ _ _ c.loop-entry-test.true c.entry-item.is c.loop-entry.invariant.written c.in_err-write_entry.ensures.err)

pub loop-entry-preserved : goal.loop-entry-preserved
loop-entry-preserved g c = record {
  written = line_more _ _ _ _ _ _ _ _ c.loop-entry-test.true c.entry-item.is c.loop-entry.invariant.written c.in_ok-write_entry.ensures.ok;
  no_less = omega (arith, c.loop-entry.invariant.no_less, c.in_ok-write_entry.ensures.no_less);
}

pub returns-clause-ok : goal.returns-clause-ok
returns-clause-ok g c = all_written _ _ _ _ _ _ c.loop-entry-test.false c.loop-entry.invariant.written
