-- Every entry of the block is filled, and the block is taken back.
use Rattle.std.proofs.Common.{map, sym, ap, ◌∙◌, subst}
use Rattle.sv_store.specs.Held.{without}
use Rattle.sv_store.specs.OwnBlock.{held_of, lent_of, filled, IsSound}
use Rattle.sv_store.proofs.OwnLaws.{held_of-filled, sound-filled}
use Rattle.sv_store.proofs.OwnSteps.{lent-filled, without-filled}
use Rattle.sv_store.proofs.own_block.put_back.Goals as goal

pub take_back-requires-clause-sound : goal.take_back-requires-clause-sound
take_back-requires-clause-sound c =
    subst (IsSound c.args.sizes) (sym (c.fill.ensures ∙ ap (λ q. map (filled c.args.b q) c.args.blocks.now) c.as_slice.ensures.value)) (sound-filled c.requires.sound c.args.b c.args.bytes.items c.requires.size)

pub take_back-requires-clause-lent : goal.take_back-requires-clause-lent
take_back-requires-clause-lent c =
    ap (λ q. lent_of q c.args.b) (c.fill.ensures ∙ ap (λ q. map (filled c.args.b q) c.args.blocks.now) c.as_slice.ensures.value) ∙ lent-filled c.args.b c.args.bytes.items c.args.blocks.now c.requires.lent

pub returns-clause-held : goal.returns-clause-held
returns-clause-held c =
    c.take_back.ensures.held
    ∙ (ap held_of (c.fill.ensures ∙ ap (λ q. map (filled c.args.b q) c.args.blocks.now) c.as_slice.ensures.value) ∙ held_of-filled c.args.b c.args.bytes.items c.args.blocks.now)

pub returns-clause-lends : goal.returns-clause-lends
returns-clause-lends c =
    c.take_back.ensures.lends
    ∙ (ap (λ q. without c.args.b (lent_of q)) (c.fill.ensures ∙ ap (λ q. map (filled c.args.b q) c.args.blocks.now) c.as_slice.ensures.value) ∙ without-filled c.args.b c.args.bytes.items c.args.blocks.now)
