use Rattle.sv_check.specs.InodeList.{kind_flaw, size_flaw}
use Rattle.sv_check.proofs.Flaws.{fails_4, fails_5, found_at, found_none, none_here}
use Rattle.sv_check.proofs.sound.conditions.check_inodes.Goals as goal

pub returns-in-Some-clause-err : goal.returns-in-Some-clause-err
returns-in-Some-clause-err g c =
    fails_4 _ c.requires.sized _ (found_at kind_flaw _ c.args.sizes.now _ c.requires.sizes c.in_ok-list.ensures.kind _ _ c.in-Some.is c.from.ensures)

pub returns-in-Some-size-clause-err : goal.returns-in-Some-size-clause-err
returns-in-Some-size-clause-err g c =
    fails_5 _ c.requires.sized _ (found_none kind_flaw _ c.args.sizes.now _ c.requires.sizes c.in_ok-list.ensures.kind (none_here _ c.in_default.not-Some))
    (found_at size_flaw _ c.args.sizes.now _ c.requires.sizes (c.in_ok-list.ensures.size (none_here _ c.in_default.not-Some)) _ _ c.in-Some-size.is c.from-in-Some-size.ensures)

pub returns-clause-root : goal.returns-clause-root
returns-clause-root g c = c.in_ok-list.ensures.root (none_here _ c.in_default.not-Some)

pub returns-clause-size : goal.returns-clause-size
returns-clause-size g c =
    found_none size_flaw _ c.args.sizes.now _ c.requires.sizes (c.in_ok-list.ensures.size (none_here _ c.in_default.not-Some)) (none_here _ c.in_default-size.not-Some)
