use Rattle.std.proofs.Common.{◌∙◌, ap}
use Rattle.sv_turn.specs.Passes.{pass_view}
use Rattle.sv_buf.specs.View.{View, held_of}
use Rattle.sv_buf.proofs.Cutting.{cut-merge, origin-same, fit-merged, held-append}
use Rattle.sv_buf.proofs.stake.CacheStakeStake.merge.Goals as goal

pub join-requires-clause-cuts : goal.join-requires-clause-cuts
join-requires-clause-cuts g c =
    let same = origin-same c.args.self.now.cache.now.turn c.args.self.now.pass c.args.other.pass c.args.self.now.own c.requires.origin in
    cut-merge (pass_view c.args.self.now.pass) (pass_view c.args.other.pass) c.args.self.now.fit c.args.other.fit same.0
    c.requires.lines.away

pub join-requires-clause-own : goal.join-requires-clause-own
join-requires-clause-own g c = (
  c.args.self.now.own,
  (origin-same c.args.self.now.cache.now.turn c.args.self.now.pass c.args.other.pass
      c.args.self.now.own c.requires.origin).1,
)

pub invariant_of-self-clause-fit : goal.invariant_of-self-clause-fit
invariant_of-self-clause-fit g c =
    let same = origin-same c.args.self.now.cache.now.turn c.args.self.now.pass c.args.other.pass c.args.self.now.own c.requires.origin in
    fit-merged (pass_view c.args.self.now.pass) (pass_view c.args.other.pass) (pass_view c.join.new.pass) c.join.ensures.view same.0
    c.requires.lines.apart c.args.self.now.fit c.args.other.fit

pub returns-clause-held : goal.returns-clause-held
returns-clause-held g c = ap (λ (v : View). held_of v.lines) c.join.ensures.view
    ∙ held-append (pass_view c.args.self.now.pass).lines (pass_view c.args.other.pass).lines
