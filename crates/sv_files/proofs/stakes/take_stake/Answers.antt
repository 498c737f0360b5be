use Rattle.std.proofs.Common.{◌∙◌, ap, sym, arith}
use Rattle.std.specs.List.{slice_index_or}
use Rattle.sv_files.proofs.HomeStakes.{home-index, home-past}
use Rattle.sv_files.proofs.stakes.take_stake.Goals as goal

pub returns-then-place-len-clause-taken : goal.returns-then-place-len-clause-taken
returns-then-place-len-clause-taken g c = sym (home-past c.args.stakes.now.items c.args.number (λ inside.
    omega (arith, inside, c.if-place-len.true, c.from-place.ensures, c.len.ensures)))

pub returns-clause-taken : goal.returns-clause-taken
returns-clause-taken g c =
    c.take.ensures.value ∙ c.index_mut.ensures.value
    ∙ ap (λ k. slice_index_or c.args.stakes.now.items k c.index_mut.result.now) c.from-place.ensures
    ∙ home-index c.args.stakes.now.items c.args.number c.index_mut.result.now
    (omega (arith, c.if-place-len.false, c.from-place.ensures, c.len.ensures))
