use Rattle.std.proofs.Common.{◌≡◌, ◌∙◌, ap}
use Rattle.std.specs.List.{slice_index_or}
use Rattle.sv_files.specs.FileRule.{home_at}
use Rattle.sv_files.proofs.HomeStakes.{home-index}
use Rattle.sv_files.proofs.stakes.put_stake.Goals as goal

pub unreachable-requires : goal.unreachable-requires
unreachable-requires g c =
    let here : c.index_mut.result.now ≡ home_at c.args.stakes.now.items c.args.number = c.index_mut.ensures.value
    ∙ ap (λ k. slice_index_or c.args.stakes.now.items k c.index_mut.result.now) c.from.ensures
    ∙ home-index c.args.stakes.now.items c.args.number c.index_mut.result.now c.requires.inside in
    cc (c.in-Some.ensures.value, here, c.requires.away)
