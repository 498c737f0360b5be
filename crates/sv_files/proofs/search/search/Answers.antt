use Rattle.std.proofs.Common.{IfOk, ◌≡◌, ◌∙◌, sym, subst}
use Rattle.sv_form.specs.NodeNames.{child_of}
use Rattle.sv_store.specs.Held.{Origin}
use Rattle.sv_inode.specs.StandsFor.{StandsFor}
use Rattle.sv_files.specs.View.{seen_by}
use Rattle.sv_files.specs.Looking.{Searches}
use Rattle.sv_files.proofs.Searched.{can-search, closed-searches, open-searches}
use Rattle.sv_files.proofs.search.search.Goals as goal

pub returns-in-Some-clause-found : goal.returns-in-Some-clause-found
returns-in-Some-clause-found g c = λ o node stands.
    closed-searches o.sizes.block_size node c.args.name.now c.in-Ok.body c.in-Some.miss (c.in-Ok.ensures.node o node stands).described
    (sym c.closed.ensures ∙ c.in-Some.is)

pub find-locked-requires-clause-tree : goal.find-locked-requires-clause-tree
find-locked-requires-clause-tree g c κs within =
    (can-search c.args.locked.number c.args.locked.core (seen_by g.S.Stake.held g.S.Stake.lent g.S.Stake.origin g.S.Stake.faults
    g.S.Stake.forced c.args.locked.stake) _ _ c.in-Ok.body c.requires.stands c.body_of.ensures.stake.lines c.body_of.ensures.stake.home
    c.in-Ok.ensures.node).0

pub find-locked-requires-clause-size : goal.find-locked-requires-clause-size
find-locked-requires-clause-size g c κs within =
    (can-search c.args.locked.number c.args.locked.core (seen_by g.S.Stake.held g.S.Stake.lent g.S.Stake.origin g.S.Stake.faults
    g.S.Stake.forced c.args.locked.stake) _ _ c.in-Ok.body c.requires.stands c.body_of.ensures.stake.lines c.body_of.ensures.stake.home
    c.in-Ok.ensures.node).1

pub returns-in-None-clause-found : goal.returns-in-None-clause-found
returns-in-None-clause-found g c = λ o node stands.
    let here = c.in-Ok.ensures.node o node stands in
    let origin : g.S.Stake.origin c.body_of.new.locked.stake ≡ o = c.body_of.ensures.stake.home ∙ stands.origin in
    let found = c.find-locked.ensures.found node (subst (λ q. StandsFor q (g.S.Stake.held c.body_of.new.locked.stake) c.in-Ok.body node)
    (sym origin) (subst (λ h. StandsFor o h c.in-Ok.body node) (sym c.body_of.ensures.stake.lines) here)) in
    subst (λ r. Searches o.sizes.block_size node c.args.name.now r) (sym c.told.ensures)
    (open-searches o.sizes.block_size node c.args.name.now c.in-Ok.body c.find-locked.result.1 here.described
    (sym c.closed.ensures ∙ c.in-None.is)
    (subst (λ (q : Origin). IfOk c.find-locked.result.1 (λ f. f ≡ child_of q.sizes.block_size node c.args.name.now)) origin found))
