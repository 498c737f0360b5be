use Rattle.std.proofs.Common.{refl, Some}
use Rattle.std.specs.Vec.{with_item}
use Rattle.sv_links.specs.declared.lists.Lists.TheInside.{Inside}
use Rattle.sv_links.proofs.Kept.{Pushes, head-can, head-left, arranged}
use Rattle.sv_links.proofs.lists.Lists.push_head.Goals as goal
use Rattle.sv_links.proofs.lists.Lists.push_head.Goals.{After-put_first}

pub put_first-requires-clause-back : goal.put_first-requires-clause-back
put_first-requires-clause-back c =
    let can = head-can c.self.inside c.args.self.now c.args.list c.args.x (record {
      kept = c.self.invariant;
      view = c.self.view_is;
      list_in_range = c.requires.list_in_range;
      number_in_range = c.requires.number_in_range;
      on_none = c.requires.on_none;
    })
    in can.back

abbrev after : After-put_first → Inside
after c = record { places = with_item c.self.inside.places c.args.x (Some c.args.list); forwards = c.put_first.new.forth; backwards = c.put_first.new.back }

pushes : (c : After-put_first) → Pushes c.self.inside c.args.self.now c.args.list c.args.x
pushes c = record {
  kept = c.self.invariant;
  view = c.self.view_is;
  list_in_range = c.requires.list_in_range;
  number_in_range = c.requires.number_in_range;
  on_none = c.requires.on_none;
}

pub invariant_of-self : goal.invariant_of-self
invariant_of-self c =
    let h = (goal.at.invariant_of-self c).After-put_first in
    let left = head-left c.self.inside (after h) c.args.self.now c.args.list c.args.x (pushes h) refl c.put_first.ensures.forth c.put_first.ensures.back in
    left.kept

pub returns-clause-pushed : goal.returns-clause-pushed
returns-clause-pushed c =
    let h = (goal.at.returns-clause-pushed c).After-put_first in
    let left = head-left c.self.inside (after h) c.args.self.now c.args.list c.args.x (pushes h) refl c.put_first.ensures.forth c.put_first.ensures.back in
    left.view

pub returns-clause-arranged : goal.returns-clause-arranged
returns-clause-arranged c =
    let h = (goal.at.returns-clause-arranged c).After-put_first in
    let left = head-left c.self.inside (after h) c.args.self.now c.args.list c.args.x (pushes h) refl c.put_first.ensures.forth c.put_first.ensures.back in
    arranged (after h) left.kept
