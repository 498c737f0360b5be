use Rattle.std.proofs.Common.{◌≡◌, ◌+◌}
use Rattle.sv_turn.specs.Passes.{pass_view}
use Rattle.sv_store.specs.Held.{put, without}
use Rattle.sv_buf.specs.View.{View, held_of, lent_of}
use Rattle.sv_buf.specs.Changes.{written_view}
use Rattle.sv_buf.specs.Running.{IsFit}
use Rattle.sv_buf.proofs.Lists.{lent-without}
use Rattle.sv_buf.proofs.Putting.{held-put}
use Rattle.sv_buf.proofs.Writing.{ended, fit-written}
use Rattle.sv_buf.proofs.stake.CacheStakeStake.bwrite.Goals as goal

pub returns-clause-held : goal.returns-clause-held
returns-clause-held g c =
    let same = held-put c.args.buf.block c.args.buf.bytes (pass_view c.args.self.now.pass).lines in
    ended c.put_now.result (written_view c.args.buf.block c.args.buf.bytes (pass_view c.args.self.now.pass)) (pass_view c.put_now.new.pass)
    (λ (v : View). held_of v.lines ≡ put c.args.buf.block c.args.buf.bytes (held_of (pass_view c.args.self.now.pass).lines))
    c.put_now.ensures.ok c.put_now.ensures.err same same

pub returns-clause-lends : goal.returns-clause-lends
returns-clause-lends g c =
    let same = lent-without c.args.buf.block (pass_view c.args.self.now.pass).loans in
    ended c.put_now.result (written_view c.args.buf.block c.args.buf.bytes (pass_view c.args.self.now.pass)) (pass_view c.put_now.new.pass)
    (λ (v : View). lent_of v.loans ≡ without c.args.buf.block (lent_of (pass_view c.args.self.now.pass).loans))
    c.put_now.ensures.ok c.put_now.ensures.err same same

pub invariant_of-self-clause-fit : goal.invariant_of-self-clause-fit
invariant_of-self-clause-fit g c =
    ended c.put_now.result (written_view c.args.buf.block c.args.buf.bytes (pass_view c.args.self.now.pass)) (pass_view c.put_now.new.pass)
    IsFit c.put_now.ensures.ok c.put_now.ensures.err
    (fit-written (pass_view c.args.self.now.pass) c.args.buf.block c.args.buf.bytes (pass_view c.args.self.now.pass).faults
    c.put_now.ensures.size c.args.self.now.fit)
    (fit-written (pass_view c.args.self.now.pass) c.args.buf.block c.args.buf.bytes ((pass_view c.args.self.now.pass).faults + 1)
    c.put_now.ensures.size c.args.self.now.fit)
