use Rattle.std.proofs.Common.{◌≡◌, true}
use Rattle.sv_plain.specs.declared.history.reply.Reply.TheVariants.{Found}
use Rattle.sv_plain.specs.Step.{look_replies}
use Rattle.sv_plain.proofs.StepBounds.{child-within}
use Rattle.sv_plain.proofs.fs.Fs.step_look.Goals as goal

pub add_reference-requires : goal.add_reference-requires
add_reference-requires c =
    let right : look_replies c.args.self.now c.args.d c.args.name.now (Found c.in-Found.i) ≡ true = cc in
    child-within c.args.self.now c.args.d c.args.name.now c.in-Found.i c.requires right
