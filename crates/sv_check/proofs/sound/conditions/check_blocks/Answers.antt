use Rattle.std.proofs.Common.{◌∙◌, Some, None, sym}
use Rattle.sv_check.specs.PastSize.{past_size_flaw, tail_flaw}
use Rattle.sv_check.proofs.Flaws.{fails_8, fails_9, found_at, found_none, first_at, says_bad, no_range, no_twice, none_here}
use Rattle.sv_check.proofs.sound.conditions.check_blocks.Goals as goal

pub returns-in-Some-clause-err : goal.returns-in-Some-clause-err
returns-in-Some-clause-err g c =
    says_bad _ c.args.sizes.now c.in-Some.bad _ _ c.requires.sizes c.requires.sized c.requires.kind c.requires.size
    (first_at _ c.args.sizes.now _ (Some c.in-Some.bad) c.requires.sizes c.in_ok-walk.ensures.bad c.in-Some.is) _ c.refused_at.ensures

pub returns-in-Some-past-clause-err : goal.returns-in-Some-past-clause-err
returns-in-Some-past-clause-err g c =
    let bad = none_here _ c.in_default.not-Some in
    let first = first_at _ c.args.sizes.now _ None c.requires.sizes c.in_ok-walk.ensures.bad bad in
    fails_8 _ c.requires.sized _ c.requires.kind c.requires.size (no_range _ _ first) (no_twice _ _ first)
    (found_at past_size_flaw _ c.args.sizes.now _ c.requires.sizes (c.in_ok-walk.ensures.past bad) _ _ c.in-Some-past.is c.from.ensures)

pub returns-in-Some-tail-clause-err : goal.returns-in-Some-tail-clause-err
returns-in-Some-tail-clause-err g c =
    let bad = none_here _ c.in_default.not-Some in
    let first = first_at _ c.args.sizes.now _ None c.requires.sizes c.in_ok-walk.ensures.bad bad in
    let past = found_none past_size_flaw _ c.args.sizes.now _ c.requires.sizes (c.in_ok-walk.ensures.past bad) (none_here _ c.in_default-past.not-Some) in
    fails_9 _ c.requires.sized _ c.requires.kind c.requires.size (no_range _ _ first) (no_twice _ _ first) past
    (found_at tail_flaw _ c.args.sizes.now _ c.requires.sizes (c.in_ok-walk.ensures.tail bad) _ _ c.in-Some-tail.is c.from-in-Some-tail.ensures)

pub returns-clause-walked : goal.returns-clause-walked
returns-clause-walked g c =
    let bad = none_here _ c.in_default.not-Some in
    let first = first_at _ c.args.sizes.now _ None c.requires.sizes c.in_ok-walk.ensures.bad bad in
    let past = found_none past_size_flaw _ c.args.sizes.now _ c.requires.sizes (c.in_ok-walk.ensures.past bad) (none_here _ c.in_default-past.not-Some) in
    record {
      sized = c.requires.sized;
      kind = c.requires.kind;
      size = c.requires.size;
      range = no_range _ _ first;
      twice = no_twice _ _ first;
      past_size = past;
      tail = found_none tail_flaw _ c.args.sizes.now _ c.requires.sizes (c.in_ok-walk.ensures.tail bad) (none_here _ c.in_default-tail.not-Some);
    }

pub returns-clause-kept : goal.returns-clause-kept
returns-clause-kept g c = c.in_ok-walk.ensures.directories (none_here _ c.in_default.not-Some)

pub returns-clause-owner : goal.returns-clause-owner
returns-clause-owner g c = c.in_ok-walk.ensures.owner (none_here _ c.in_default.not-Some)

pub returns-clause-first : goal.returns-clause-first
returns-clause-first g c = sym c.in_ok-walk.ensures.bad ∙ none_here _ c.in_default.not-Some
