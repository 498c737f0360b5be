-- The part between the two others is the inode.
use Rattle.std.proofs.Common.{ℕ, List, sym, subst}
use Rattle.sv_form.specs.Inode.{IsInode}
use Rattle.sv_form.specs.declared.inode.DiskInode.TheVariants.{Used}
use Rattle.sv_inode.proofs.LinePut.{middle}
use Rattle.sv_inode.proofs.update.write_line.Goals as goal

pub returns-clause-spelled : goal.returns-clause-spelled
returns-clause-spelled c =
    (let P : List ℕ → Type 0 = λ q. IsInode q (Used c.args.body.now) in
    subst P (sym (middle c.split_at_mut-before.result.0.now c.write.new.into c.split_at_mut-into.result.1.now c.args.at
    c.split_at_mut-before.ensures.front_len c.write.ensures.size)) c.write.ensures)
