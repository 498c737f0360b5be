use Rattle.std.proofs.Common.{◌≡◌, ◌&&◌, true, not}
use Rattle.sv_plain.specs.declared.history.reply.Reply.TheVariants.{Found, Made}
use Rattle.sv_plain.specs.Fs.{Fs}
use Rattle.sv_plain.specs.Names.{is_table_full}
use Rattle.sv_plain.specs.Step.{create_replies, has_inode, is_free}
use Rattle.sv_plain.proofs.Got.{and_right}
use Rattle.sv_plain.proofs.StepBounds.{child-within}
use Rattle.sv_plain.proofs.fs.Fs.step_create.Goals as goal

pub add_reference-requires : goal.add_reference-requires
add_reference-requires c =
    let fs : Fs = c.args.self.now in
    let right : create_replies fs c.args.d c.args.name.now c.args.kind (Found c.in-Found.i) ≡ true = cc in
    child-within fs c.args.d c.args.name.now c.in-Found.i c.requires right

pub make-requires-clause-free : goal.make-requires-clause-free
make-requires-clause-free c =
    let fs : Fs = c.args.self.now in
    let i = c.in-Made.i in
    let right : create_replies fs c.args.d c.args.name.now c.args.kind (Made i) ≡ true = cc in
    and_right (not (is_table_full fs)) (is_free fs i) (and_right (has_inode fs c.args.d c.args.name.now c.args.kind) (not (is_table_full fs) && is_free fs i) right)
