use Rattle.std.proofs.Common.{◌*◌, ◌%◌, ◌/◌, ◌∙◌, ap, subst, sym, arith}
use Rattle.std.specs.Prelude.{IsSome}
use Rattle.sv_store.specs.Held.{Origin}
use Rattle.sv_buf.proofs.Sharing.{share-kept, share-get, share-place}
use Rattle.sv_buf.proofs.tests.threads.exchange_often.Goals as goal

pub exchange-found-requires-clause-block : goal.exchange-found-requires-clause-block
exchange-found-requires-clause-block g c _ _ =
    share-get c.args.line (c.next_number-number.result / 8589934592 % 10)
    (share-kept g.S.Stake.held g.S.Stake.lent g.S.Stake.origin c.args.stake.now c.loop.stake c.args.line 1 c.requires.share c.loop.invariant)
    (omega arith)

pub exchange-found-requires-clause-place : goal.exchange-found-requires-clause-place
exchange-found-requires-clause-place g c _ _ =
    let size = ap (λ (o : Origin). o.sizes.block_size) c.loop.invariant.home ∙ c.requires.share.size in
    omega (arith, size, c.requires.line, c.from-in-loop.ensures)

pub exchange-found-requires-clause-line : goal.exchange-found-requires-clause-line
exchange-found-requires-clause-line g c _ _ =
    subst (λ l. IsSome (g.S.Stake.held c.loop.stake (c.next_number-number.result / 8589934592 % 10) (l * 64 / 64)))
    (sym c.from-in-loop.ensures)
    (share-place c.args.line (c.next_number-number.result / 8589934592 % 10)
    (share-kept g.S.Stake.held g.S.Stake.lent g.S.Stake.origin c.args.stake.now c.loop.stake c.args.line 1 c.requires.share c.loop.invariant)
    (omega arith))
