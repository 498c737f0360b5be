use Rattle.std.proofs.Common.{◌∙◌, ap}
use Rattle.sv_turn.specs.Passes.{pass_view}
use Rattle.sv_buf.specs.View.{View, held_of, lent_of}
use Rattle.sv_buf.proofs.Cutting.{cut-part, fit-split, fit-parted, held-kept, held-parted, lent-none}
use Rattle.sv_buf.proofs.stake.CacheStakeStake.part.Goals as goal

pub split_lines-requires-clause-cuts : goal.split_lines-requires-clause-cuts
split_lines-requires-clause-cuts g c = cut-part c.args.lines.now (pass_view c.args.self.now.pass) c.args.self.now.fit c.requires

pub invariant_of-self-clause-fit : goal.invariant_of-self-clause-fit
invariant_of-self-clause-fit g c = fit-split c.split_lines.result c.args.lines.now (pass_view c.args.self.now.pass)
    (pass_view c.split_lines.new.pass) c.split_lines.ensures.left c.split_lines.ensures.err c.args.self.now.fit c.requires

pub invariant_of-result-clause-fit : goal.invariant_of-result-clause-fit
invariant_of-result-clause-fit g c = fit-parted c.args.lines.now (pass_view c.args.self.now.pass) (pass_view c.in_ok-pass.pass)
    c.in_ok-pass.ensures.right.2 c.args.self.now.fit c.requires

pub returns-clause-ok : goal.returns-clause-ok
returns-clause-ok g c = record {
  kept = ap (λ (v : View). held_of v.lines) c.in_ok-pass.ensures.left ∙ held-kept c.args.lines.now (pass_view c.args.self.now.pass);
  given = ap (λ (v : View). held_of v.lines) c.in_ok-pass.ensures.right.2 ∙ held-parted c.args.lines.now (pass_view c.args.self.now.pass);
}

pub returns-clause-new_lent : goal.returns-clause-new_lent
returns-clause-new_lent g c = ap (λ (v : View). lent_of v.loans) c.in_ok-pass.ensures.right.2 ∙ lent-none
