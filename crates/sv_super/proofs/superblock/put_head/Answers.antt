-- The superblock's lines are those of the new bytes, and all others are as they were got.
use Rattle.std.proofs.Common.{◌≡◌, ◌+◌, ◌*◌, ℕ, List, length, ap, sym, ◌∙◌, refl, subst}
use Rattle.std.specs.List.{refill}
use Rattle.sv_form.specs.Geometry.{super_place}
use Rattle.sv_store.proofs.Puts.{back, lent-with, refilled}
use Rattle.sv_super.proofs.Supers.{can-put-super, puts-super, rewritten, still-super, super-fits}
use Rattle.sv_super.proofs.superblock.put_head.Goals as goal

pub bdwrite-requires : goal.bdwrite-requires
bdwrite-requires g c =
    can-put-super c.in_ok-buf.ensures.ok (ap (λ q. q.block) place) c.requires.lines _ _ _ c.bread.ensures.held c.in_ok-buf.ensures.lends (refill (length c.in_ok-buf.buf.bytes) c.in_ok-buf.buf.bytes c.write_head.new.bytes) (c.from.result * 64)
    (ap (λ q. q * 64) (c.from.ensures ∙ ap (λ q. q.line) place)) (rewritten c.bytes_mut-bytes.ensures.now (refilled c.in_ok-buf.buf.bytes c.write_head.new.bytes c.bytes_mut-bytes.result.now c.bytes_mut-bytes.ensures.now c.write_head.ensures.others.len) c.write_head.ensures.others)
  where
    place : c.super_place-place.result ≡ super_place (g.S.Stake.origin c.args.s.now).sizes
    place = c.super_place-place.ensures ∙ ap super_place c.geometry.ensures.value

pub returns-clause-ok : goal.returns-clause-ok
returns-clause-ok g c =
    puts-super c.in_ok-buf.ensures.ok (ap (λ q. q.block) place) c.requires.lines c.bread.ensures.held (refill (length c.in_ok-buf.buf.bytes) c.in_ok-buf.buf.bytes c.write_head.new.bytes) (c.from.result * 64)
    (ap (λ q. q * 64) (c.from.ensures ∙ ap (λ q. q.line) place)) (rewritten c.bytes_mut-bytes.ensures.now (refilled c.in_ok-buf.buf.bytes c.write_head.new.bytes c.bytes_mut-bytes.result.now c.bytes_mut-bytes.ensures.now c.write_head.ensures.others.len) c.write_head.ensures.others)
    (super-fits c.geometry.result (c.from.result * 64) c.geometry.ensures.value c.geometry.ensures.sizes c.in_ok-buf.ensures.ok (ap (λ q. q * 64) (c.from.ensures ∙ ap (λ q. q.line) place)))
    (still-super (c.from.result * 64) (refilled c.in_ok-buf.buf.bytes c.write_head.new.bytes c.bytes_mut-bytes.result.now c.bytes_mut-bytes.ensures.now c.write_head.ensures.others.len) c.write_head.ensures.spelled) c.bdwrite.ensures.held
  where
    place : c.super_place-place.result ≡ super_place (g.S.Stake.origin c.args.s.now).sizes
    place = c.super_place-place.ensures ∙ ap super_place c.geometry.ensures.value

pub returns-clause-lends : goal.returns-clause-lends
returns-clause-lends g c = back c.in_ok-buf.buf.bytes (lent-with c.in_ok-buf.buf.bytes c.in_ok-buf.ensures.lends c.requires.lent c.in_ok-buf.ensures.ok.block) refl c.bdwrite.ensures.lends
