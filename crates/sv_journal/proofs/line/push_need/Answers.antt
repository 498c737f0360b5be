use Rattle.sv_journal.proofs.line.push_need.Goals as goal

pub returns-in-Enter : goal.returns-in-Enter
returns-in-Enter c = rw c.in-Enter.is c.push_place.ensures

pub returns-in-Make : goal.returns-in-Make
returns-in-Make c = rw c.in-Make.is c.push_place-in-Make.ensures
