use Rattle.std.proofs.Common.{◌≡◌, Some, None, refl, sym, subst, ◌∙◌}
use Rattle.std.specs.Vec.{with_item}
use Rattle.sv_links.specs.Arrangement.{Arrangement, IsOnSome}
use Rattle.sv_links.specs.Keeping.{place}
use Rattle.sv_links.specs.declared.lists.Lists.TheInside.{Inside}
use Rattle.sv_links.proofs.Kept.{take-can, take-left, arranged, listed, place_read}
use Rattle.sv_links.proofs.lists.Lists.unlink.Goals as goal
use Rattle.sv_links.proofs.lists.Lists.unlink.Goals.{In-Some, After-take_out}

told : (c : In-Some) → place c.self.inside c.args.x ≡ Some c.in-Some.list
told c =
    let on = subst (λ (v : Arrangement). IsOnSome v c.args.x) (sym c.self.view_is) c.requires.on_a_list in
    place_read c.self.inside c.args.x c.index.result.now (listed c.self.inside c.args.x c.self.invariant on) c.index.ensures ∙ c.in-Some.is

abbrev after : After-take_out → Inside
after c = record { places = with_item c.self.inside.places c.args.x None; forwards = c.take_out.new.forth; backwards = c.take_out.new.back }

pub take_out-requires-clause-forth : goal.take_out-requires-clause-forth
take_out-requires-clause-forth c =
    let can = take-can c.self.inside c.in-Some.list c.args.x c.self.invariant (told (goal.at.take_out-requires-clause-forth c).In-Some) in
    can.forth

pub take_out-requires-clause-back : goal.take_out-requires-clause-back
take_out-requires-clause-back c =
    let can = take-can c.self.inside c.in-Some.list c.args.x c.self.invariant (told (goal.at.take_out-requires-clause-back c).In-Some) in
    can.back

pub invariant_of-self : goal.invariant_of-self
invariant_of-self c =
    let left = take-left c.self.inside (after (goal.at.invariant_of-self c).After-take_out) c.args.self.now c.in-Some.list c.args.x c.self.invariant c.self.view_is (told (goal.at.invariant_of-self c).In-Some) refl c.take_out.ensures.forth c.take_out.ensures.back in
    left.kept

pub returns-in-Some-clause-unlinked : goal.returns-in-Some-clause-unlinked
returns-in-Some-clause-unlinked c =
    let left = take-left c.self.inside (after (goal.at.returns-in-Some-clause-unlinked c).After-take_out) c.args.self.now c.in-Some.list c.args.x c.self.invariant c.self.view_is (told (goal.at.returns-in-Some-clause-unlinked c).In-Some) refl c.take_out.ensures.forth c.take_out.ensures.back in
    left.view

pub returns-in-Some-clause-arranged : goal.returns-in-Some-clause-arranged
returns-in-Some-clause-arranged c =
    let left = take-left c.self.inside (after (goal.at.returns-in-Some-clause-arranged c).After-take_out) c.args.self.now c.in-Some.list c.args.x c.self.invariant c.self.view_is (told (goal.at.returns-in-Some-clause-arranged c).In-Some) refl c.take_out.ensures.forth c.take_out.ensures.back in
    arranged (after (goal.at.returns-in-Some-clause-arranged c).After-take_out) left.kept
