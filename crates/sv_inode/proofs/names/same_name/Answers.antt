-- The bytes before the first zero byte are compared.
use Rattle.std.proofs.Common.{ap, ◌∙◌}
use Rattle.sv_form.specs.Entries.{until_zero}
use Rattle.sv_form.specs.NodeNames.{same_bytes}
use Rattle.sv_inode.proofs.FoundNames.{until-zero}
use Rattle.sv_inode.proofs.names.same_name.Goals as goal

pub returns : goal.returns
returns c =
    c.eq.ensures
    ∙ (ap (λ q. same_bytes q c.as_slice.result.now)
    (until-zero c.args.field.now c.before_zero-end.result c.before_zero-end.ensures.within c.before_zero-end.ensures.before
    c.before_zero-end.ensures.zero)
    ∙ ap (same_bytes (until_zero c.args.field.now)) c.as_slice.ensures.value)
