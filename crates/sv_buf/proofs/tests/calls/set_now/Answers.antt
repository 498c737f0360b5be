-- The byte is put, and the same lines are held, also after a fault.
use Rattle.std.proofs.Common.{◌≡◌, length, set, sym, ap, ◌∙◌, is_some, arith}
use Rattle.std.specs.List.{refill}
use Rattle.std.proofs.lemmas.List.{length-set}
use Rattle.std.proofs.lemmas.Bool.{false≢true}
use Rattle.sv_store.specs.Held.{put, line_of}
use Rattle.sv_store.proofs.Lines.{refill_whole, line_of-set_other}
use Rattle.sv_store.proofs.Holding.{CanPut-got, SameLines-put, SameLines-eq, SameLines-trans}
use Rattle.sv_store.proofs.Puts.{returned}
use Rattle.sv_buf.proofs.Sharing.{whole-get, none-away}
use Rattle.sv_buf.proofs.tests.calls.set_now.Goals as goal

pub bread-requires : goal.bread-requires
bread-requires g c = whole-get c.args.block c.requires.share c.requires.block

pub bwrite-requires : goal.bwrite-requires
bwrite-requires g c =
    CanPut-got c.in_ok-buf.ensures.ok _ _ _ c.bread.ensures.held c.in_ok-buf.ensures.lends _
    (ap length whole ∙ length-set c.in_ok-buf.buf.bytes _ _)
    (λ l none. ap (λ q. line_of q l) whole
    ∙ line_of-set_other c.in_ok-buf.buf.bytes 0 9 l
    (λ e. false≢true (ap is_some (sym none ∙ ap (g.S.Stake.held c.args.stake.now c.args.block) e)
    ∙ c.requires.share.within c.args.block 0 c.requires.block (omega arith) (omega arith))))
  where
    whole : refill (length c.in_ok-buf.buf.bytes) c.in_ok-buf.buf.bytes (set c.bytes_mut-bytes.result.now 0 9)
        ≡ set c.in_ok-buf.buf.bytes 0 9
    whole =
        refill_whole c.in_ok-buf.buf.bytes (set c.bytes_mut-bytes.result.now 0 9)
        (length-set c.bytes_mut-bytes.result.now _ _ ∙ ap length c.bytes_mut-bytes.ensures.now)
        ∙ ap (λ q. set q 0 9) c.bytes_mut-bytes.ensures.now

pub returns-in_err-bwrite : goal.returns-in_err-bwrite
returns-in_err-bwrite g c = record {
  kept = record {
    lines = SameLines-trans (SameLines-eq _ _ (c.bwrite.ensures.held ∙ ap (put _ _) c.bread.ensures.held))
        (SameLines-put _ _ (g.S.Stake.held c.args.stake.now));
    away = returned c.in_ok-buf.buf.bytes c.in_ok-buf.ensures.lends c.in_ok-buf.ensures.ok.block
        (none-away c.args.block c.requires.share.idle) c.bwrite.ensures.lends;
    home = c.bwrite.ensures.origin ∙ c.bread.ensures.origin;
  };
}

pub returns : goal.returns
returns g c = record {
  kept = record {
    lines = SameLines-trans (SameLines-eq _ _ (c.bwrite.ensures.held ∙ ap (put _ _) c.bread.ensures.held))
        (SameLines-put _ _ (g.S.Stake.held c.args.stake.now));
    away = returned c.in_ok-buf.buf.bytes c.in_ok-buf.ensures.lends c.in_ok-buf.ensures.ok.block
        (none-away c.args.block c.requires.share.idle) c.bwrite.ensures.lends;
    home = c.bwrite.ensures.origin ∙ c.bread.ensures.origin;
  };
}
