-- The entry that holds the range has bytes to lend.
use Rattle.std.proofs.Common.{sym}
use Rattle.std.proofs.lemmas.List.Quantifiers.{position-Some}
use Rattle.sv_store.specs.OwnBlock.{nowhere, holds_range}
use Rattle.sv_store.proofs.Bytes.{both-ok}
use Rattle.sv_store.proofs.OwnJoin.{length-sound}
use Rattle.sv_store.proofs.OwnCut.{spare-there, moved-one}
use Rattle.sv_store.proofs.own_cut.cut.Goals as goal

pub cut_at-requires-clause-few : goal.cut_at-requires-clause-few
cut_at-requires-clause-few c = length-sound c.requires.sizes c.args.taken.now c.requires.other

pub cut_at-requires-clause-holds : goal.cut_at-requires-clause-holds
cut_at-requires-clause-holds c = (position-Some (holds_range c.args.range) c.args.blocks.now c.in-Some.at nowhere (sym c.in-Some.ensures)).1

pub cut_at-requires-clause-home : goal.cut_at-requires-clause-home
cut_at-requires-clause-home c =
    let place = position-Some (holds_range c.args.range) c.args.blocks.now c.in-Some.at nowhere (sym c.in-Some.ensures) in
    spare-there c.args.range c.in-Some.at c.requires.sound place.0 place.1 c.requires.away

pub returns-in-Some-clause-ok : goal.returns-in-Some-clause-ok
returns-in-Some-clause-ok c =
    let place = position-Some (holds_range c.args.range) c.args.blocks.now c.in-Some.at nowhere (sym c.in-Some.ensures) in
    both-ok c.cut_at.result c.cut_at.ensures.blocks c.cut_at.ensures.taken (λ new more. moved-one c.args.range c.in-Some.at place.0 place.1 c.requires.sound c.requires.other c.requires.apart c.requires.home c.requires.away new more)
