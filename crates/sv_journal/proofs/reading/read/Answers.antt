use Rattle.std.proofs.Common.{◌≡◌, ◌<◌, ◌+◌, ◌∙◌, length, sym, ap, subst, arith}
use Rattle.std.proofs.lemmas.Bool.{eqb-false, eqb-true}
use Rattle.sv_journal.specs.Reading.{IsAt, IsJournalOf}
use Rattle.sv_journal.proofs.ReadSteps.{all_read, at_first, at_next, refused_so, shorter, stops_first, stops_later}
use Rattle.sv_journal.proofs.reading.read.Goals as goal

pub returns-in_err-processes-clause-refused : goal.returns-in_err-processes-clause-refused
returns-in_err-processes-clause-refused c =
    refused_so c.args.text.now c.from_residual.result c.in_err-processes.field-0.0 c.from_residual.ensures.1
    (stops_first c.args.text.now c.in_err-processes.field-0.0 (omega arith) c.in_err-processes.ensures.stopped)

pub loop-rest-init : goal.loop-rest-init
loop-rest-init c = at_first c.args.text.now c.first_line.new.rest.now c.in_ok-processes.processes c.in_ok-processes.table c.new-entries.result.items c.in_ok-processes.ensures.read c.new-entries.ensures.items

pub returns-in_err-entry-clause-refused : goal.returns-in_err-entry-clause-refused
returns-in_err-entry-clause-refused c =
    let more : 0 < length c.loop-rest.rest.now = omega (arith, eqb-false _ _ (sym c.is_empty.ensures ∙ c.loop-rest-test.true)) in
    refused_so c.args.text.now c.from_residual-in_err-entry.result c.in_err-entry.field-0.0 c.from_residual-in_err-entry.ensures.1
    (stops_later c.args.text.now c.loop-rest.rest.now c.in_ok-processes.processes c.in_ok-processes.table (c.len.result + 2) c.loop-rest.entries.items c.in_err-entry.field-0.0 (omega arith) c.loop-rest.invariant more (ap (λ n. n + 2) (c.len.ensures ∙ c.loop-rest.entries.ok.0)) c.in_err-entry.ensures.stopped)

pub loop-rest-smaller : goal.loop-rest-smaller
loop-rest-smaller c = shorter c.loop-rest.rest.now c.next_entry.new.rest.now c.in_ok-processes.processes c.in_ok-entry.entry c.in_ok-entry.ensures.read

pub loop-rest-preserved : goal.loop-rest-preserved
loop-rest-preserved c =
    subst (λ es. IsAt c.args.text.now c.next_entry.new.rest.now c.in_ok-processes.processes c.in_ok-processes.table es) (sym c.in-Ok.ensures.items)
    (at_next c.args.text.now c.loop-rest.rest.now c.next_entry.new.rest.now c.in_ok-processes.processes c.in_ok-processes.table c.loop-rest.entries.items c.in_ok-entry.entry c.loop-rest.invariant c.in_ok-entry.ensures.read)

pub returns-clause-read : goal.returns-clause-read
returns-clause-read c =
    let end : length c.loop-rest.rest.now ≡ 0 = eqb-true _ _ (sym c.is_empty.ensures ∙ c.loop-rest-test.false) in
    subst (λ es. IsJournalOf c.args.text.now c.in_ok-processes.processes c.in_ok-processes.table es) (sym c.from_vec.ensures)
    (all_read c.args.text.now c.loop-rest.rest.now c.in_ok-processes.processes c.in_ok-processes.table c.loop-rest.entries.items (omega arith) c.loop-rest.invariant end)
