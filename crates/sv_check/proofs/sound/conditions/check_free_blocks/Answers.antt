use Rattle.std.proofs.Common.{◌≡◌, ◌∙◌, ◌++◌, ap, List, None, ℕ}
use Rattle.sv_check.specs.Chain.{chain_flaw, lost_flaw}
use Rattle.sv_check.proofs.ChainMet.{lost_found}
use Rattle.sv_check.proofs.ChainStart.{chain_found, all_met}
use Rattle.sv_check.proofs.Flaws.{fails_10, fails_11, found_some, found_none, none_here}
use Rattle.sv_check.proofs.sound.conditions.check_free_blocks.Goals as goal

pub returns-in-Some-clause-err : goal.returns-in-Some-clause-err
returns-in-Some-clause-err g c =
    let first : c.extend_from_slice.new.self.items ≡ c.args.head.now.free.items =
    c.in_ok-extend_from_slice.ensures.items ∙ ap (λ (l : List ℕ). l ++ c.as_slice.result.now) c.new-first.ensures.items ∙ c.as_slice.ensures.value in
    let found = chain_found c.args.sizes.now (g.D.Disk.content c.args.disk.now) _ _ c.args.owners.now _ c.args.head.now c.in_ok-met.ensures.met c.requires.owners first c.requires.head c.in_ok-bad.ensures.broken in
    fails_10 _ c.requires.walked _ (found_some chain_flaw _ c.args.sizes.now _ c.requires.sizes found _ c.in-Some.is)

pub returns-in-Some-first_lost-clause-err : goal.returns-in-Some-first_lost-clause-err
returns-in-Some-first_lost-clause-err g c =
    let first : c.extend_from_slice.new.self.items ≡ c.args.head.now.free.items =
    c.in_ok-extend_from_slice.ensures.items ∙ ap (λ (l : List ℕ). l ++ c.as_slice.result.now) c.new-first.ensures.items ∙ c.as_slice.ensures.value in
    let found = chain_found c.args.sizes.now (g.D.Disk.content c.args.disk.now) _ _ c.args.owners.now _ c.args.head.now c.in_ok-met.ensures.met c.requires.owners first c.requires.head c.in_ok-bad.ensures.broken in
    let none = none_here _ c.in_default.not-Some in
    let lost = lost_found c.args.sizes.now (g.D.Disk.content c.args.disk.now) _ _ c.first_lost.ensures.lost
    (all_met c.args.sizes.now (g.D.Disk.content c.args.disk.now) None _ c.args.owners.now _ c.args.head.now c.in_ok-met.ensures.met c.requires.owners first c.requires.head _ (c.in_ok-bad.ensures.met none)) in
    fails_11 _ c.requires.walked _ (found_none chain_flaw _ c.args.sizes.now _ c.requires.sizes found none) (found_some lost_flaw _ c.args.sizes.now _ c.requires.sizes lost _ c.in-Some-first_lost.is)

pub returns-clause-chained : goal.returns-clause-chained
returns-clause-chained g c =
    let first : c.extend_from_slice.new.self.items ≡ c.args.head.now.free.items =
    c.in_ok-extend_from_slice.ensures.items ∙ ap (λ (l : List ℕ). l ++ c.as_slice.result.now) c.new-first.ensures.items ∙ c.as_slice.ensures.value in
    let found = chain_found c.args.sizes.now (g.D.Disk.content c.args.disk.now) _ _ c.args.owners.now _ c.args.head.now c.in_ok-met.ensures.met c.requires.owners first c.requires.head c.in_ok-bad.ensures.broken in
    let none = none_here _ c.in_default.not-Some in
    let lost = lost_found c.args.sizes.now (g.D.Disk.content c.args.disk.now) _ _ c.first_lost.ensures.lost
    (all_met c.args.sizes.now (g.D.Disk.content c.args.disk.now) None _ c.args.owners.now _ c.args.head.now c.in_ok-met.ensures.met c.requires.owners first c.requires.head _ (c.in_ok-bad.ensures.met none)) in
    record {
      walked = c.requires.walked;
      chain = found_none chain_flaw _ c.args.sizes.now _ c.requires.sizes found none;
      lost = found_none lost_flaw _ c.args.sizes.now _ c.requires.sizes lost (none_here _ c.in_default-first_lost.not-Some);
    }
