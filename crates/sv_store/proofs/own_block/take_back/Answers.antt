-- The entry that the block is lent out of gets its bytes back.
use Rattle.std.proofs.Common.{Some, sym, ap, ◌∙◌, subst}
use Rattle.std.proofs.lemmas.List.Quantifiers.{position-Some}
use Rattle.sv_store.specs.OwnBlock.{nowhere, held_of, lent_of, is_out, IsSound}
use Rattle.sv_store.proofs.OwnLaws.{lent-place, held_of-spare}
use Rattle.sv_store.proofs.OwnSteps.{sound-give, lent-give, lent-size}
use Rattle.sv_store.proofs.own_block.take_back.Goals as goal

pub unreachable-requires : goal.unreachable-requires
unreachable-requires c = lent-place c.args.b c.args.blocks.now c.args.bytes.items (sym c.in_default.ensures) c.requires.lent

pub returns-clause-sound : goal.returns-clause-sound
returns-clause-sound c =
    let place = position-Some (is_out c.args.b) c.args.blocks.now c.in-Some.at nowhere (sym c.in-Some.ensures) in
    subst (IsSound c.args.sizes) (sym c.put_spare.ensures) (sound-give c.requires.sound c.in-Some.at c.args.bytes.items place.0 (lent-size c.args.sizes c.args.blocks.now c.args.b c.args.bytes.items c.requires.sound.kept c.requires.lent))

pub returns-clause-held : goal.returns-clause-held
returns-clause-held c = ap held_of c.put_spare.ensures ∙ held_of-spare c.args.blocks.now c.in-Some.at (Some c.args.bytes.items)

pub returns-clause-lends : goal.returns-clause-lends
returns-clause-lends c =
    let place = position-Some (is_out c.args.b) c.args.blocks.now c.in-Some.at nowhere (sym c.in-Some.ensures) in
    ap lent_of c.put_spare.ensures ∙ lent-give c.requires.sound c.in-Some.at c.args.b c.args.bytes.items place.0 place.1
