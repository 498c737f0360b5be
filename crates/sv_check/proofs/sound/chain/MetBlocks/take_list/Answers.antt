use Rattle.std.proofs.Common.{◌≡◌, ◌∙◌, ℕ, List, sym, ap, subst, map}
use Rattle.sv_check.specs.Chain.{number}
use Rattle.sv_check.specs.ChainSteps.{met_in, with_each}
use Rattle.sv_check.proofs.ChainMet.{listed_none, listed_some}
use Rattle.sv_check.proofs.ChainWalk.{follows_same, list-none, list-some, some_number, on_weaker}
use Rattle.sv_check.proofs.sound.chain.MetBlocks.take_list.Goals as goal

pub returns-then-link_of-eq0-clause-follows : goal.returns-then-link_of-eq0-clause-follows
returns-then-link_of-eq0-clause-follows c = λ image.
    follows_same _ image _ _ _ _ c.take_each.result c.take_each.new.self.bad
    (ap (map number) c.after_first.ensures ∙ list-none c.args.numbers.now (sym c.link_of.ensures ∙ c.if-link_of-eq0.true)) (c.take_each.ensures.follows image)

pub returns-then-link_of-eq0-clause-met : goal.returns-then-link_of-eq0-clause-met
returns-then-link_of-eq0-clause-met c = on_weaker c.take_each.result
    (λ all. listed_none _ _ c.args.numbers.now (sym c.link_of.ensures ∙ c.if-link_of-eq0.true)
    (subst (λ (l : List ℕ). (b : ℕ) → met_in c.take_each.new.self.met.items b ≡ with_each (met_in c.args.self.now.met.items) l b) c.after_first.ensures all)) c.take_each.ensures.met

pub returns-then-link_of-eq0-clause-inside : goal.returns-then-link_of-eq0-clause-inside
returns-then-link_of-eq0-clause-inside c = on_weaker c.take_each.result (λ _ some. absurd (some (sym c.link_of.ensures ∙ c.if-link_of-eq0.true))) c.take_each.ensures.inside

pub returns-clause-follows : goal.returns-clause-follows
returns-clause-follows c = λ image.
    follows_same _ image _ _ _ _ c.take_each-2.result c.take_each-2.new.self.bad (list-some c.args.numbers.now (λ e. c.if-link_of-eq0.false (c.link_of.ensures ∙ e)))
    (c.take_each-2.ensures.follows image)

pub returns-clause-met : goal.returns-clause-met
returns-clause-met c = on_weaker c.take_each-2.result (λ all. listed_some _ _ c.args.numbers.now (λ e. c.if-link_of-eq0.false (c.link_of.ensures ∙ e)) all) c.take_each-2.ensures.met

pub returns-clause-inside : goal.returns-clause-inside
returns-clause-inside c = on_weaker c.take_each-2.result (λ all some. all 0 (some_number c.args.numbers.now some)) c.take_each-2.ensures.inside
