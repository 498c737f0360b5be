use Rattle.std.proofs.Common.{◌≡◌, ◌<◌, ◌∙◌, sym, ap, not, true, false, length, arith}
use Rattle.std.proofs.lemmas.List.{get_or_default}
use Rattle.sv_check.specs.ChainSteps.{met_in}
use Rattle.sv_check.proofs.ChainMet.{find-step}
use Rattle.sv_check.proofs.sound.chain.MetBlocks.first_lost.Goals as goal

pub loop-b-preserved : goal.loop-b-preserved
loop-b-preserved c =
    let inside : c.loop-b.b < length c.args.self.now.met.items = omega (arith, c.loop-b-test.true, c.requires.blocks) in
    let met : met_in c.args.self.now.met.items c.loop-b.b ≡ true = get_or_default c.args.self.now.met.items c.loop-b.b false c.index.result.now inside ∙ sym c.index.ensures ∙ c.if-not-index.false in
    c.loop-b.invariant ∙ find-step (λ b. not (met_in c.args.self.now.met.items b)) _ c.loop-b.b c.loop-b-test.true (ap not met)
