-- What was moved before memory ran out is put back.
use Rattle.std.proofs.Common.{◌∙◌}
use Rattle.sv_store.proofs.OwnCut.{back-apart, moves-apart, moves-back}
use Rattle.sv_store.proofs.own_cut.cut_off.Goals as goal

pub join-requires-clause-apart : goal.join-requires-clause-apart
join-requires-clause-apart c = back-apart (moves-apart c.cut_all.ensures.done.1)

pub returns-in-Err-clause-held : goal.returns-in-Err-clause-held
returns-in-Err-clause-held c = c.join.ensures.held ∙ moves-back c.cut_all.ensures.done.1
