use Rattle.std.proofs.Common.{sym, ap, ◌∙◌}
use Rattle.sv_form.specs.Node.{Node}
use Rattle.sv_plain.specs.declared.fs.opening.Opening.{Opening}
use Rattle.sv_plain.specs.Fs.{Fs}
use Rattle.sv_form.specs.NodeChanges.{touched}
use Rattle.sv_plain.specs.NeedsWithin.{within}
use Rattle.sv_plain.proofs.BlocksAdded.{added-there}
use Rattle.sv_plain.proofs.KeepsWrite.{need-is}
use Rattle.sv_plain.proofs.fs.Fs.write_need_within.Goals as goal

pub returns : goal.returns
returns c =
    let fs : Fs = c.args.self.now in
    let f : Opening = c.in-Some.opening in
    let node : Node = c.in-Some-node._node.now in
    c.range_need_within.ensures
    ∙ ap (within c.args.most) (added-there fs f.inode node (touched fs.block f.offset c.args.count) (sym c.in-Some-node.ensures)
    ∙ sym (need-is fs c.args.file c.args.count f node (sym c.in-Some.ensures) (sym c.in-Some-node.ensures)))
