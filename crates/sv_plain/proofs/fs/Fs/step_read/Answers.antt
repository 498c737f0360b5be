use Rattle.std.proofs.Common.{◌≡◌, ◌≤◌, ◌+◌, true, length, Some, sym, ap, arith}
use Rattle.std.specs.FinMap as map
use Rattle.sv_plain.specs.declared.history.reply.Reply.TheVariants.{Got}
use Rattle.sv_plain.specs.Step.{read_replies}
use Rattle.sv_plain.proofs.SameBytes.{read-fits}
use Rattle.sv_plain.proofs.fs.Fs.step_read.Goals as goal

pub overflow_cast-count : goal.overflow_cast-count
overflow_cast-count c =
    let right : read_replies c.args.self.now c.args.file c.args.count (Got c.in-Got.bytes) ≡ true = cc in
    let fits = read-fits c.args.self.now c.args.file c.args.count c.in-Got.bytes c.in-Some.opening c.requires (sym c.in-Some.ensures) right in
    omega (arith, fits, c.requires.sized.greatest_fits, ap length c.as_slice.ensures)

pub overflow_add-opening : goal.overflow_add-opening
overflow_add-opening c =
    let right : read_replies c.args.self.now c.args.file c.args.count (Got c.in-Got.bytes) ≡ true = cc in
    let fits = read-fits c.args.self.now c.args.file c.args.count c.in-Got.bytes c.in-Some.opening c.requires (sym c.in-Some.ensures) right in
    omega (arith, fits, c.requires.sized.greatest_fits, ap length c.as_slice.ensures)
