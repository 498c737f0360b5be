use Rattle.std.proofs.Common.{◌<◌, ◌∙◌, List, length, slice_set, ap, arith}
use Rattle.std.proofs.lemmas.List.{get_or_default, length-set}
use Rattle.sv_check.specs.declared.sound.standings.Standing.{Standing}
use Rattle.sv_check.specs.Standings.{Told, named, unnamed, with_dots}
use Rattle.sv_check.proofs.StandingSteps.{told_written}
use Rattle.sv_check.proofs.sound.standings.Standings.tell.Goals as goal

pub returns-clause-told : goal.returns-clause-told
returns-clause-told c =
    let items : List Standing = c.args.self.now.of.items in
    let next : List Standing = slice_set items c.from-inode.result c.named.result in
    let t : Told = record { directory = c.args.directory; place = c.args.place; entry = c.args.entry.now } in
    let inside : c.from-inode.result < length items = omega (arith, c.from-inode.ensures, c.number16.ensures, c.requires.inode) in
    let within : c.from-own.result < length items = omega (arith, c.from-own.ensures, c.requires.directory) in
    let also : c.from-own.result < length next = omega (arith, within, length-set items c.from-inode.result c.named.result) in
    told_written items t c.from-inode.result c.from-own.result c.named.result c.with_dots.result (c.from-inode.ensures ∙ c.number16.ensures) c.from-own.ensures inside within
    (c.named.ensures c.args.entry.now ∙ ap (named t) (c.index.ensures ∙ get_or_default items c.from-inode.result c.index.result.now unnamed inside))
    (c.with_dots.ensures ∙ ap (with_dots t) (c.index-2.ensures ∙ get_or_default next c.from-own.result c.index-2.result.now unnamed also))
