use Rattle.sv_buf.proofs.Sharing.{ten_blocks}
use Rattle.sv_buf.proofs.tests.threads.lines.Goals as goal

pub returns : goal.returns
returns c = rw (
  c.lines_in.ensures,
  c.lines_in-2.ensures,
  c.lines_in-3.ensures,
  c.lines_in-4.ensures,
  c.lines_in-5.ensures,
  c.lines_in-6.ensures,
  c.lines_in-7.ensures,
  c.lines_in-8.ensures,
  c.lines_in-9.ensures,
  c.lines_in-10.ensures,
)
    (ten_blocks c.args.first c.args.count)
