use Rattle.std.proofs.Common.{◌∙◌, ap, sym, arith}
use Rattle.std.proofs.lemmas.List.{get_or_default}
use Rattle.sv_check.specs.declared.sound.standings.Standing.{Standing}
use Rattle.sv_check.specs.Standings.{unnamed}
use Rattle.sv_check.proofs.ToldTimes.{unused_fine, used_links}
use Rattle.sv_check.proofs.sound.links.is_mislinked.Goals as goal

pub returns-then-not-index : goal.returns-then-not-index
returns-then-not-index c = λ image flags counts told.
    unused_fine c.args.sizes.now image c.args.n c.requires.least c.requires.most c.args.list.now.used.items c.index.result.now flags (sym c.index.ensures ∙ c.if-not-index.true)

pub returns : goal.returns
returns c = λ image flags counts told.
    used_links c.args.sizes.now image c.args.n c.requires.least c.requires.most c.args.list.now.used.items c.index.result.now c.args.list.now.links.items c.index-2.result.now c.index-2.result.now
    c.index-3.result.now.times c.args.standings.now c.has_wrong_links.result flags counts told (sym c.index.ensures ∙ c.if-not-index.false) c.index-2.ensures
    (ap (λ (s : Standing). s.times)
    (c.index-3.ensures ∙ get_or_default c.args.standings.now.of.items c.args.n c.index-3.result.now unnamed (omega (arith, c.requires.standings, c.requires.most)))) c.has_wrong_links.ensures
