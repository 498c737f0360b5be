use Rattle.sv_links.specs.declared.lists.Lists.TheInside.{Inside}
use Rattle.sv_links.proofs.Kept.{new-left, arranged}
use Rattle.sv_links.proofs.lists.Lists.new.Goals as goal
use Rattle.sv_links.proofs.lists.Lists.new.Goals.{In_ok-new-2}

abbrev made : In_ok-new-2 → Inside
made c = record { places = c.in_ok-nowhere.field-0; forwards = c.in_ok-new.field-0; backwards = c.in_ok-new-2.field-0 }

pub invariant_of-result : goal.invariant_of-result
invariant_of-result c =
    let left = new-left (made c) c.args.numbers c.args.lists c.in_ok-nowhere.ensures c.in_ok-new.ensures c.in_ok-new-2.ensures in
    left.kept

pub returns-clause-empty : goal.returns-clause-empty
returns-clause-empty c =
    let left = new-left (made c) c.args.numbers c.args.lists c.in_ok-nowhere.ensures c.in_ok-new.ensures c.in_ok-new-2.ensures in
    left.view

pub returns-clause-arranged : goal.returns-clause-arranged
returns-clause-arranged c =
    let left = new-left (made c) c.args.numbers c.args.lists c.in_ok-nowhere.ensures c.in_ok-new.ensures c.in_ok-new-2.ensures in
    arranged (made c) left.kept
