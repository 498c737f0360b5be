use Rattle.std.proofs.Common.{◌+◌, sym, subst}
use Rattle.sv_form.specs.declared.owners.LineRange.{LineRange}
use Rattle.std.specs.Prelude.{List}
use Rattle.sv_store.specs.Calls.{CanPart, Parts}
use Rattle.sv_buf.specs.Sharing.{IsShare}
use Rattle.sv_buf.proofs.Sharing.{cut-can, cut-kept, cut-given}
use Rattle.sv_buf.proofs.tests.threads.cut.Goals as goal

pub part-requires : goal.part-requires
part-requires g c = subst (λ (r : List LineRange). CanPart (g.S.Stake.held c.args.stake.now) (g.S.Stake.lent c.args.stake.now) r)
    (sym c.lines.ensures) (cut-can c.args.first c.args.half c.args.rest c.requires.share c.requires.few.0 c.requires.few.1)

pub returns-in-Ok-clause-kept : goal.returns-in-Ok-clause-kept
returns-in-Ok-clause-kept g c =
    let parts = subst (λ (r : List LineRange). Parts (g.S.Stake.held c.args.stake.now) r (g.S.Stake.held c.part.new.self)
    (g.S.Stake.held c.in-Ok.other)) c.lines.ensures c.in-Ok.ensures.ok in
    subst (λ o. IsShare c.args.first c.args.half o (g.S.Stake.held c.part.new.self) (g.S.Stake.lent c.part.new.self)) (sym c.part.ensures.origin)
    (subst (λ m. IsShare c.args.first c.args.half (g.S.Stake.origin c.args.stake.now) (g.S.Stake.held c.part.new.self) m)
    (sym c.part.ensures.lends) (cut-kept c.args.first c.args.half c.args.rest c.requires.share parts))

pub returns-in-Ok-clause-given : goal.returns-in-Ok-clause-given
returns-in-Ok-clause-given g c =
    let parts = subst (λ (r : List LineRange). Parts (g.S.Stake.held c.args.stake.now) r (g.S.Stake.held c.part.new.self)
    (g.S.Stake.held c.in-Ok.other)) c.lines.ensures c.in-Ok.ensures.ok in
    subst (λ o. IsShare (c.args.first + c.args.half) c.args.rest o (g.S.Stake.held c.in-Ok.other) (g.S.Stake.lent c.in-Ok.other))
    (sym c.in-Ok.ensures.new_origin)
    (cut-given c.args.first c.args.half c.args.rest c.requires.share parts c.in-Ok.ensures.new_lent)
