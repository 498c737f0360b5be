-- The inode's line is that of the new bytes, and all others are as they were got.
use Rattle.std.proofs.Common.{◌≡◌, ◌*◌, length, ap, ◌∙◌, refl}
use Rattle.std.specs.List.{refill}
use Rattle.sv_form.specs.Geometry.{inode_place}
use Rattle.sv_store.specs.Held.{put}
use Rattle.sv_store.proofs.Puts.{back, lent-with, refilled}
use Rattle.sv_bmap.proofs.Kept.{same-put}
use Rattle.sv_inode.proofs.LinePut.{can-put-inode, puts-inode, rewritten, still-inode}
use Rattle.sv_inode.proofs.update.put_line.Goals as goal

pub bdwrite-requires : goal.bdwrite-requires
bdwrite-requires g c =
    can-put-inode c.args.number c.in_ok-buf.ensures.ok (ap (λ q. q.block) place) c.requires.inode.line _ _ _ c.bread.ensures.held
    c.in_ok-buf.ensures.lends (refill (length c.in_ok-buf.buf.bytes) c.in_ok-buf.buf.bytes c.write_line.new.bytes) (c.from.result * 64)
    (ap (λ q. q * 64) (c.from.ensures ∙ ap (λ q. q.line) place))
    (rewritten c.bytes_mut-bytes.ensures.now
    (refilled c.in_ok-buf.buf.bytes c.write_line.new.bytes c.bytes_mut-bytes.result.now c.bytes_mut-bytes.ensures.now
    c.write_line.ensures.others.len) c.write_line.ensures.others)
  where
    place : c.inode_place-place.result ≡ inode_place (g.S.Stake.origin c.args.s.now).sizes c.args.number
    place = c.inode_place-place.ensures ∙ ap (λ q. inode_place q c.args.number) c.geometry.ensures.value

pub returns-clause-puts : goal.returns-clause-puts
returns-clause-puts g c =
    puts-inode c.in_ok-buf.ensures.ok (ap (λ q. q.block) place) c.requires.inode.line c.bread.ensures.held
    (refill (length c.in_ok-buf.buf.bytes) c.in_ok-buf.buf.bytes c.write_line.new.bytes) (c.from.result * 64)
    (ap (λ q. q * 64) (c.from.ensures ∙ ap (λ q. q.line) place))
    (rewritten c.bytes_mut-bytes.ensures.now
    (refilled c.in_ok-buf.buf.bytes c.write_line.new.bytes c.bytes_mut-bytes.result.now c.bytes_mut-bytes.ensures.now
    c.write_line.ensures.others.len) c.write_line.ensures.others)
    (still-inode (c.from.result * 64)
    (refilled c.in_ok-buf.buf.bytes c.write_line.new.bytes c.bytes_mut-bytes.result.now c.bytes_mut-bytes.ensures.now
    c.write_line.ensures.others.len) c.write_line.ensures.spelled) c.bdwrite.ensures.held
  where
    place : c.inode_place-place.result ≡ inode_place (g.S.Stake.origin c.args.s.now).sizes c.args.number
    place = c.inode_place-place.ensures ∙ ap (λ q. inode_place q c.args.number) c.geometry.ensures.value

pub returns-clause-lends : goal.returns-clause-lends
returns-clause-lends g c = back c.in_ok-buf.buf.bytes
    (lent-with c.in_ok-buf.buf.bytes c.in_ok-buf.ensures.lends c.requires.lent c.in_ok-buf.ensures.ok.block) refl c.bdwrite.ensures.lends

pub returns-clause-lines : goal.returns-clause-lines
returns-clause-lines g c = same-put c.in_ok-buf.buf.block
    (refill (length c.in_ok-buf.buf.bytes) c.in_ok-buf.buf.bytes c.write_line.new.bytes)
    (c.bdwrite.ensures.held
    ∙ ap (put c.in_ok-buf.buf.block (refill (length c.in_ok-buf.buf.bytes) c.in_ok-buf.buf.bytes c.write_line.new.bytes))
    c.bread.ensures.held)
