-- The byte is put, and the same lines are held.
use Rattle.std.proofs.Common.{◌≡◌, length, set, sym, ap, ◌∙◌, is_some}
use Rattle.std.specs.List.{refill}
use Rattle.std.proofs.lemmas.List.{length-set}
use Rattle.std.proofs.lemmas.Bool.{false≢true}
use Rattle.sv_store.specs.Held.{put, line_of}
use Rattle.sv_store.proofs.Lines.{refill_whole, line_of-set_other}
use Rattle.sv_store.proofs.Holding.{CanPut-got, SameLines-put, SameLines-eq, SameLines-trans}
use Rattle.sv_store.proofs.Puts.{returned}
use Rattle.sv_buf.proofs.tests.exchange.Goals as goal

pub bdwrite-requires : goal.bdwrite-requires
bdwrite-requires g c =
    CanPut-got c.in_ok-buf.ensures.ok _ _ _ c.bread.ensures.held c.in_ok-buf.ensures.lends _
    (ap length whole ∙ length-set c.in_ok-buf.buf.bytes _ _)
    (λ l none. ap (λ q. line_of q l) whole
    ∙ line_of-set_other c.in_ok-buf.buf.bytes c.args.place c.args.byte l
    (λ e. false≢true (ap is_some (sym none ∙ ap (g.S.Stake.held c.args.stake.now c.args.block) e) ∙ c.requires.line)))
  where
    whole : refill (length c.in_ok-buf.buf.bytes) c.in_ok-buf.buf.bytes (set c.bytes_mut-bytes.result.now c.args.place c.args.byte)
        ≡ set c.in_ok-buf.buf.bytes c.args.place c.args.byte
    whole =
        refill_whole c.in_ok-buf.buf.bytes (set c.bytes_mut-bytes.result.now c.args.place c.args.byte)
        (length-set c.bytes_mut-bytes.result.now _ _ ∙ ap length c.bytes_mut-bytes.ensures.now)
        ∙ ap (λ q. set q c.args.place c.args.byte) c.bytes_mut-bytes.ensures.now

pub returns : goal.returns
returns g c = record {
  kept = record {
    lines = SameLines-trans (SameLines-eq _ _ (c.bdwrite.ensures.held ∙ ap (put _ _) c.bread.ensures.held))
        (SameLines-put _ _ (g.S.Stake.held c.args.stake.now));
    away = returned c.in_ok-buf.buf.bytes c.in_ok-buf.ensures.lends c.in_ok-buf.ensures.ok.block c.requires.block.away
        c.bdwrite.ensures.lends;
    home = c.bdwrite.ensures.origin ∙ c.bread.ensures.origin;
  };
}
