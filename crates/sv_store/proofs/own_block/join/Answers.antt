-- The two lists hold no common line, so that together they have few entries.
use Rattle.std.proofs.Common.{sym, ap, ◌∙◌, subst, arith}
use Rattle.std.proofs.lemmas.Bool.{false≢true}
use Rattle.sv_store.specs.OwnBlock.{held_of, lent_of, IsSound}
use Rattle.sv_store.proofs.OwnLaws.{held_of-append, Both-apart}
use Rattle.sv_store.proofs.OwnJoin.{sound-append, lent-append, length-sound}
use Rattle.sv_store.proofs.own_block.join.Goals as goal

pub unreachable-requires : goal.unreachable-requires
unreachable-requires c =
    false≢true (c.in_default.ensures.succeeds (omega (arith, length-sound c.requires.sizes c.args.blocks.now c.requires.sound, length-sound c.requires.sizes c.args.others c.requires.other)))

pub returns-clause-sound : goal.returns-clause-sound
returns-clause-sound c = subst (IsSound c.args.sizes) (sym c.in-Ok.ensures.items) (sound-append c.requires.sound c.requires.other c.requires.apart c.requires.home)

pub returns-clause-held : goal.returns-clause-held
returns-clause-held c =
    ap held_of c.in-Ok.ensures.items ∙ (held_of-append c.args.blocks.now c.args.others ∙ Both-apart (held_of c.args.blocks.now) (held_of c.args.others) c.requires.apart)

pub returns-clause-lends : goal.returns-clause-lends
returns-clause-lends c = ap lent_of c.in-Ok.ensures.items ∙ lent-append c.args.blocks.now c.args.others c.requires.home
