-- The byte is set, and all else stays.
use Rattle.std.proofs.Common.{◌≡◌, length, get_or, set, sym, ap, ◌∙◌, is_some, arith}
use Rattle.std.specs.List.{refill}
use Rattle.std.proofs.lemmas.List.{get_or-set_same, length-set}
use Rattle.std.proofs.lemmas.Bool.{false≢true}
use Rattle.sv_store.specs.Held.{put, line_of}
use Rattle.sv_store.proofs.Lines.{refill_whole, line_of-set_other}
use Rattle.sv_store.proofs.Bytes.{byte-put, put-set}
use Rattle.sv_store.proofs.Holding.{CanPut-got, SameLines-put, SameLines-eq, SameLines-trans}
use Rattle.sv_store.proofs.Puts.{returned}
use Rattle.sv_store.proofs.clients.set_byte.Goals as goal

pub bdwrite-requires : goal.bdwrite-requires
bdwrite-requires g c =
    CanPut-got c.in_ok-first.ensures.ok _ _ _ c.bread.ensures.held c.in_ok-first.ensures.lends _ (ap length whole ∙ length-set c.in_ok-first.first.bytes _ _)
    (λ l none. ap (λ q. line_of q l) whole
    ∙ line_of-set_other c.in_ok-first.first.bytes c.args.place c.args.value l (λ e. false≢true (ap is_some (sym none ∙ ap (g.S.Stake.held c.args.stake.now c.args.block) e) ∙ c.requires.line)))
  where
    whole : refill (length c.in_ok-first.first.bytes) c.in_ok-first.first.bytes (set c.bytes_mut-bytes.result.now c.args.place c.args.value) ≡ set c.in_ok-first.first.bytes c.args.place c.args.value
    whole =
        refill_whole c.in_ok-first.first.bytes (set c.bytes_mut-bytes.result.now c.args.place c.args.value) (length-set c.bytes_mut-bytes.result.now _ _ ∙ ap length c.bytes_mut-bytes.ensures.now)
        ∙ ap (λ q. set q c.args.place c.args.value) c.bytes_mut-bytes.ensures.now

pub returns-clause-held : goal.returns-clause-held
returns-clause-held g c =
    put-set c.in_ok-first.ensures.ok _ (refill (length c.in_ok-first.first.bytes) c.in_ok-first.first.bytes (set c.bytes_mut-bytes.result.now c.args.place c.args.value)) c.args.place c.args.value whole (c.bdwrite.ensures.held ∙ ap (put _ _) c.bread.ensures.held) c.requires.place
  where
    whole : refill (length c.in_ok-first.first.bytes) c.in_ok-first.first.bytes (set c.bytes_mut-bytes.result.now c.args.place c.args.value) ≡ set c.in_ok-first.first.bytes c.args.place c.args.value
    whole =
        refill_whole c.in_ok-first.first.bytes (set c.bytes_mut-bytes.result.now c.args.place c.args.value) (length-set c.bytes_mut-bytes.result.now _ _ ∙ ap length c.bytes_mut-bytes.ensures.now)
        ∙ ap (λ q. set q c.args.place c.args.value) c.bytes_mut-bytes.ensures.now

pub returns-clause-value : goal.returns-clause-value
returns-clause-value g c =
    byte-put (g.S.Stake.held c.args.stake.now) c.args.block c.in_ok-first.first.block (refill (length c.in_ok-first.first.bytes) c.in_ok-first.first.bytes (set c.bytes_mut-bytes.result.now c.args.place c.args.value)) c.args.place c.in_ok-first.ensures.ok.block (c.bdwrite.ensures.held ∙ ap (put _ _) c.bread.ensures.held) c.requires.line
    ∙ (ap (λ q. get_or q c.args.place 0) whole ∙ get_or-set_same c.in_ok-first.first.bytes c.args.place c.args.value 0 (omega (arith, c.requires.place, c.in_ok-first.ensures.ok.size)))
  where
    whole : refill (length c.in_ok-first.first.bytes) c.in_ok-first.first.bytes (set c.bytes_mut-bytes.result.now c.args.place c.args.value) ≡ set c.in_ok-first.first.bytes c.args.place c.args.value
    whole =
        refill_whole c.in_ok-first.first.bytes (set c.bytes_mut-bytes.result.now c.args.place c.args.value) (length-set c.bytes_mut-bytes.result.now _ _ ∙ ap length c.bytes_mut-bytes.ensures.now)
        ∙ ap (λ q. set q c.args.place c.args.value) c.bytes_mut-bytes.ensures.now

pub returns-clause-lines : goal.returns-clause-lines
returns-clause-lines g c =
    SameLines-trans (SameLines-eq _ _ (c.bdwrite.ensures.held ∙ ap (put _ _) c.bread.ensures.held)) (SameLines-put _ _ (g.S.Stake.held c.args.stake.now))

pub returns-clause-lends : goal.returns-clause-lends
returns-clause-lends g c = returned c.in_ok-first.first.bytes c.in_ok-first.ensures.lends c.in_ok-first.ensures.ok.block c.requires.block.away c.bdwrite.ensures.lends
