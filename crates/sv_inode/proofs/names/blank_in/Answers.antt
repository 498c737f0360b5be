-- All lines of the block are held, so that it can be put back with any bytes.
use Rattle.std.proofs.Common.{length, replicate, ap, ◌∙◌, refl}
use Rattle.sv_store.proofs.Puts.{CanPut-whole, back, lent-at, lent-with, refilled}
use Rattle.sv_store.specs.Held.{nothing_lent, put}
use Rattle.sv_store.proofs.Holding.{put-other}
use Rattle.sv_super.proofs.Counts.{other}
use Rattle.sv_bmap.proofs.Kept.{same-put}
use Rattle.sv_inode.specs.Write.{patched}
use Rattle.sv_inode.proofs.PiecePut.{holds-got}
use Rattle.sv_inode.proofs.names.blank_in.Goals as goal

pub bdwrite-requires : goal.bdwrite-requires
bdwrite-requires g c =
    CanPut-whole _ c.in_ok-buf.buf.bytes (holds-got c.in_ok-buf.ensures.held c.in_ok-buf.ensures.ok.block c.requires.block)
    (lent-at nothing_lent (lent-with c.in_ok-buf.buf.bytes c.in_ok-buf.ensures.lends c.requires.lent c.in_ok-buf.ensures.ok.block))
    c.in_ok-buf.ensures.ok.size
    (ap length (refilled c.in_ok-buf.buf.bytes c.blank.new.bytes c.bytes_mut-bytes.result.now c.bytes_mut-bytes.ensures.now
    c.blank.ensures.len) ∙ (c.blank.ensures.len ∙ ap length c.bytes_mut-bytes.ensures.now))

pub returns-clause-ok : goal.returns-clause-ok
returns-clause-ok g c = (
  c.in_ok-buf.buf,
  (
    c.in_ok-buf.ensures.ok,
    c.bdwrite.ensures.held
        ∙ (ap (λ q. put c.in_ok-buf.buf.block q (g.S.Stake.held c.bread.new.self))
        (refilled c.in_ok-buf.buf.bytes c.blank.new.bytes c.bytes_mut-bytes.result.now c.bytes_mut-bytes.ensures.now
        c.blank.ensures.len
        ∙ (c.blank.ensures.bytes ∙ ap (λ q. patched q c.args.from (replicate 16 0)) c.bytes_mut-bytes.ensures.now))
        ∙ (ap (λ q. put q (patched c.in_ok-buf.buf.bytes c.args.from (replicate 16 0)) (g.S.Stake.held c.bread.new.self))
        c.in_ok-buf.ensures.ok.block
        ∙ ap (put c.args.b (patched c.in_ok-buf.buf.bytes c.args.from (replicate 16 0))) c.in_ok-buf.ensures.held)),
  ),
)

pub returns-clause-lines : goal.returns-clause-lines
unfolding returns-clause-ok
returns-clause-lines g c = same-put c.args.b (patched c.in_ok-buf.buf.bytes c.args.from (replicate 16 0)) (returns-clause-ok g c).1.1

pub returns-clause-lends : goal.returns-clause-lends
returns-clause-lends g c = back c.in_ok-buf.buf.bytes
    (lent-with c.in_ok-buf.buf.bytes c.in_ok-buf.ensures.lends c.requires.lent c.in_ok-buf.ensures.ok.block) refl c.bdwrite.ensures.lends

pub returns-clause-others : goal.returns-clause-others
unfolding returns-clause-ok
returns-clause-others g c = λ b l apart. ap (λ q. q b l) (returns-clause-ok g c).1.1
    ∙ put-other c.args.b (patched c.in_ok-buf.buf.bytes c.args.from (replicate 16 0)) (g.S.Stake.held c.args.s.now) b l
    (other b c.args.b apart)
