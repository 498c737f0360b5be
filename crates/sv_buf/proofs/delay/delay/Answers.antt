use Rattle.std.proofs.Common.{◌≡◌, ◌∙◌, IfSome, ap, subst}
use Rattle.sv_cache.specs.declared.scenario.Scenario.TheVariants as met
use Rattle.sv_cache.specs.Lawful.{IsLawful}
use Rattle.sv_cache.specs.Getblk.{scenario_of, after_search}
use Rattle.sv_cache.specs.Brelse.{after_lend}
use Rattle.sv_cache.specs.Held.{IsHeld, given}
use Rattle.sv_buf.proofs.Delaying.{met-again, delayed-is, bytes-again}
use Rattle.sv_buf.proofs.delay.delay.Goals as goal

pub lend-requires : goal.lend-requires
lend-requires g c =
    let released = c.give_back.ensures.after in
    let is : c.attempt.result ≡ met.Hit c.args.buffer = c.attempt.ensures.scenario
    ∙ (ap (λ q. scenario_of q c.args.block) released
    ∙ met-again c.args.core.now c.args.buffer c.args.block c.args.bytes.items (subst (λ q. IsLawful q) released c.give_back.ensures.lawful)
    c.requires.named) in
    subst (λ o. IfSome (given o) (IsHeld c.attempt.new.self)) is c.attempt.ensures.held

pub returns-clause-after : goal.returns-clause-after
returns-clause-after g c =
    let released = c.give_back.ensures.after in
    let is : c.attempt.result ≡ met.Hit c.args.buffer = c.attempt.ensures.scenario
    ∙ (ap (λ q. scenario_of q c.args.block) released
    ∙ met-again c.args.core.now c.args.buffer c.args.block c.args.bytes.items (subst (λ q. IsLawful q) released c.give_back.ensures.lawful)
    c.requires.named) in
    c.lend.ensures.after ∙ (ap (λ q. after_lend q c.args.buffer) (c.attempt.ensures.after
    ∙ (ap (λ m. after_search c.give_back.new.self c.args.block m) is
    ∙ ap (λ q. after_search q c.args.block (met.Hit c.args.buffer)) released))
    ∙ delayed-is c.args.core.now c.args.buffer c.args.block c.args.bytes.items c.requires.busy)

pub returns-clause-bytes : goal.returns-clause-bytes
returns-clause-bytes g c =
    let released = c.give_back.ensures.after in
    let is : c.attempt.result ≡ met.Hit c.args.buffer = c.attempt.ensures.scenario
    ∙ (ap (λ q. scenario_of q c.args.block) released
    ∙ met-again c.args.core.now c.args.buffer c.args.block c.args.bytes.items (subst (λ q. IsLawful q) released c.give_back.ensures.lawful)
    c.requires.named) in
    bytes-again c.args.core.now c.attempt.new.self c.args.buffer c.args.block c.args.bytes.items c.lend.result.items
    c.requires.busy (c.attempt.ensures.after ∙ (ap (λ m. after_search c.give_back.new.self c.args.block m) is
    ∙ ap (λ q. after_search q c.args.block (met.Hit c.args.buffer)) released)) c.lend.ensures.lent

pub returns-clause-size : goal.returns-clause-size
returns-clause-size g c =
    let released = c.give_back.ensures.after in
    let is : c.attempt.result ≡ met.Hit c.args.buffer = c.attempt.ensures.scenario
    ∙ (ap (λ q. scenario_of q c.args.block) released
    ∙ met-again c.args.core.now c.args.buffer c.args.block c.args.bytes.items (subst (λ q. IsLawful q) released c.give_back.ensures.lawful)
    c.requires.named) in
    c.lend.ensures.size ∙ ap (λ q. q.geometry.block_size) (c.attempt.ensures.after
    ∙ (ap (λ m. after_search c.give_back.new.self c.args.block m) is
    ∙ ap (λ q. after_search q c.args.block (met.Hit c.args.buffer)) released))
