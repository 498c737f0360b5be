use Rattle.std.proofs.Common.{◌∙◌, ap, not}
use Rattle.sv_check.proofs.SeenSteps.{field_whole, seen_before, seen_more}
use Rattle.sv_check.proofs.sound.entries.SeenNames.take_name.Goals as goal

pub returns-clause-new : goal.returns-clause-new
returns-clause-new c = λ seen was is.
    c.in_ok-new.ensures.added ∙ ap not (seen_before c.args.self.now seen c.args.entry.now c.copy_from_slice.new.self was is (field_whole _ _ c.copy_from_slice.ensures.after))

pub returns-clause-seen : goal.returns-clause-seen
returns-clause-seen c = λ seen was is.
    seen_more c.args.self.now seen c.args.entry.now c.copy_from_slice.new.self was is (field_whole _ _ c.copy_from_slice.ensures.after) _ c.in_ok-new.ensures.updates.0
