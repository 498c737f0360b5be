use Rattle.std.proofs.Common.{◌+◌, ◌*◌, sym, subst}
use Rattle.std.specs.Prelude.{slice_range}
use Rattle.sv_form.specs.Inode.{IsInode}
use Rattle.sv_form.specs.declared.inode.DiskInode.TheVariants.{Used}
use Rattle.sv_form.proofs.InodeLemmas.{one_inode}
use Rattle.sv_files.proofs.body.read_line.Goals as goal

pub returns-in-Some-Used : goal.returns-in-Some-Used
returns-in-Some-Used c = λ body is.
    let same = one_inode _ _ (Used body) c.in-Some-Used.ensures.some
    (subst (λ k. IsInode (slice_range c.args.bytes.now (k * 64) (k * 64 + 64)) (Used body)) (sym c.from-at.ensures) is) in
    cc (same, c.in-Some-Used.field-0-is, c.in-Some-Used.body-is)

pub returns-in-Some-Free : goal.returns-in-Some-Free
returns-in-Some-Free c = λ body is.
    let same = one_inode _ _ (Used body) c.in-Some-Free.ensures.some
    (subst (λ k. IsInode (slice_range c.args.bytes.now (k * 64) (k * 64 + 64)) (Used body)) (sym c.from-at.ensures) is) in
    absurd (cc (same, c.in-Some-Free.field-0-is))

pub returns-in-None : goal.returns-in-None
returns-in-None c = λ body is.
    absurd (c.in-None.ensures.none (Used body)
    (subst (λ k. IsInode (slice_range c.args.bytes.now (k * 64) (k * 64 + 64)) (Used body)) (sym c.from-at.ensures) is))
