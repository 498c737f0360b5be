-- The entry's bytes are taken, and every entry of the block is filled with what is lent.
use Rattle.std.proofs.Common.{length, map, replicate, sym, ap, ◌∙◌, subst, ◌==◌}
use Rattle.std.proofs.lemmas.Bool.{eqb-true}
use Rattle.std.proofs.lemmas.List.{length-replicate}
use Rattle.std.proofs.lemmas.List.Quantifiers.{position-Some}
use Rattle.sv_store.specs.OwnBlock.{OwnBlock, nowhere, held_of, lent_of, filled, IsSound}
use Rattle.sv_store.proofs.OwnLaws.{held-place, sound-filled}
use Rattle.sv_store.proofs.OwnSteps.{home-spare, lent-lend, held-lend, sound-take}
use Rattle.sv_store.proofs.own_block.lend_zeros.Goals as goal

pub unreachable-requires : goal.unreachable-requires
unreachable-requires c = held-place c.args.b c.requires.can.some.0 c.args.blocks.now (sym c.in_default.ensures) c.requires.can.some.1

pub take_spare-spare-requires-clause-home : goal.take_spare-spare-requires-clause-home
take_spare-spare-requires-clause-home c =
    let place = position-Some (λ (e : OwnBlock). e.block == c.args.b) c.args.blocks.now c.in-Some.at nowhere (sym c.in-Some.ensures) in
    home-spare c.args.blocks.now c.in-Some.at c.args.b place.0 (eqb-true _ _ place.1) c.requires.can.away

pub fill-requires-clause-sound : goal.fill-requires-clause-sound
fill-requires-clause-sound c = subst (IsSound c.args.sizes) (sym c.take_spare-spare.ensures.blocks) (let place = position-Some (λ (e : OwnBlock). e.block == c.args.b) c.args.blocks.now c.in-Some.at nowhere (sym c.in-Some.ensures) in
    sound-take c.requires.sound c.in-Some.at c.args.b place.0 (eqb-true _ _ place.1) c.requires.can.away)

pub returns-clause-sound : goal.returns-clause-sound
returns-clause-sound c =
    subst (IsSound c.args.sizes) (sym (c.fill.ensures ∙ (ap (λ q. map (filled c.args.b q) c.take_spare-spare.new.blocks) c.as_slice.ensures.value ∙ ap (map (filled c.args.b c.cleared-bytes.result.items)) c.take_spare-spare.ensures.blocks)))
    (sound-filled (let place = position-Some (λ (e : OwnBlock). e.block == c.args.b) c.args.blocks.now c.in-Some.at nowhere (sym c.in-Some.ensures) in
    sound-take c.requires.sound c.in-Some.at c.args.b place.0 (eqb-true _ _ place.1) c.requires.can.away) c.args.b c.cleared-bytes.result.items (ap length c.cleared-bytes.ensures ∙ (length-replicate (length c.take_spare-spare.result.items) 0 ∙ c.requires.sound.spare c.in-Some.at nowhere (position-Some (λ (e : OwnBlock). e.block == c.args.b) c.args.blocks.now c.in-Some.at nowhere (sym c.in-Some.ensures)).0 c.take_spare-spare.result.items c.take_spare-spare.ensures.bytes)))

pub returns-clause-lends : goal.returns-clause-lends
returns-clause-lends c =
    let place = position-Some (λ (e : OwnBlock). e.block == c.args.b) c.args.blocks.now c.in-Some.at nowhere (sym c.in-Some.ensures) in
    ap lent_of (c.fill.ensures ∙ (ap (λ q. map (filled c.args.b q) c.take_spare-spare.new.blocks) c.as_slice.ensures.value ∙ ap (map (filled c.args.b c.cleared-bytes.result.items)) c.take_spare-spare.ensures.blocks)) ∙ lent-lend c.args.blocks.now c.in-Some.at c.args.b c.cleared-bytes.result.items place.0 (eqb-true _ _ place.1) c.requires.can.away

pub returns-clause-held : goal.returns-clause-held
returns-clause-held c = ap held_of (c.fill.ensures ∙ (ap (λ q. map (filled c.args.b q) c.take_spare-spare.new.blocks) c.as_slice.ensures.value ∙ ap (map (filled c.args.b c.cleared-bytes.result.items)) c.take_spare-spare.ensures.blocks)) ∙ held-lend c.args.blocks.now c.in-Some.at c.args.b c.cleared-bytes.result.items

pub returns-clause-zeros : goal.returns-clause-zeros
returns-clause-zeros c =
    c.cleared-bytes.ensures
    ∙ ap (λ n. replicate n 0) (c.requires.sound.spare c.in-Some.at nowhere (position-Some (λ (e : OwnBlock). e.block == c.args.b) c.args.blocks.now c.in-Some.at nowhere (sym c.in-Some.ensures)).0 c.take_spare-spare.result.items c.take_spare-spare.ensures.bytes)
