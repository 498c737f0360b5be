use Rattle.std.proofs.Common.{inl, inr, sym, ap, ◌∙◌}
use Rattle.sv_plain.specs.Step.{purge_replies}
use Rattle.sv_plain.proofs.Purged.{lost-found}
use Rattle.sv_plain.proofs.fs.Fs.answers_purge.Goals as goal

pub returns-in-Late : goal.returns-in-Late
returns-in-Late c =
    let found = lost-found c.args.self.now c.first_unlinked.result c.requires c.first_unlinked.ensures.some c.first_unlinked.ensures.none in
    elim c.in-Late.is [
      | inl is ↦ c.is_some.ensures ∙ found ∙ ap (purge_replies c.args.self.now) (sym is)
      | inr is ↦ c.is_some.ensures ∙ found ∙ ap (purge_replies c.args.self.now) (sym is)
    ]
