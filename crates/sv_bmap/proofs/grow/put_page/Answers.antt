-- The zero bytes are all written over.
use Rattle.std.proofs.Common.{ℕ, length, ap, ◌∙◌, sym, refl}
use Rattle.std.proofs.lemmas.List.{length-replicate}
use Rattle.sv_store.specs.Held.{nothing_lent}
use Rattle.sv_store.proofs.Puts.{CanPut-whole, back, holds-put, lent-at, lent-with, refilled}
use Rattle.sv_bmap.proofs.Writes.{put-anew}
use Rattle.sv_bmap.proofs.grow.put_page.Goals as goal

pub bdwrite-requires : goal.bdwrite-requires
bdwrite-requires g c =
    CanPut-whole _ c.in_ok-buf.buf.bytes
    (holds-put c.args.b c.in_ok-buf.buf.bytes c.fresh.ensures.origin c.in_ok-buf.ensures.puts c.in_ok-buf.ensures.ok.block
    c.requires.block)
    (lent-at nothing_lent (lent-with c.in_ok-buf.buf.bytes c.in_ok-buf.ensures.lends c.requires.lent c.in_ok-buf.ensures.ok.block))
    (ap length c.in_ok-buf.ensures.ok.zeros
    ∙ (length-replicate {A = ℕ} (g.S.Stake.origin c.args.s.now).sizes.block_size 0
    ∙ sym (ap (λ q. q.sizes.block_size) c.fresh.ensures.origin)))
    (ap length (refilled c.in_ok-buf.buf.bytes c.copy_from_slice.new.self c.bytes_mut-old.result.now c.bytes_mut-old.ensures.now
    c.copy_from_slice.ensures.len) ∙ (c.copy_from_slice.ensures.len ∙ ap length c.bytes_mut-old.ensures.now))

pub returns-clause-ok : goal.returns-clause-ok
returns-clause-ok g c =
    put-anew (g.S.Stake.held c.args.s.now) _ c.in_ok-buf.buf.bytes c.bdwrite.ensures.held c.in_ok-buf.ensures.ok.block
    (refilled c.in_ok-buf.buf.bytes c.copy_from_slice.new.self c.bytes_mut-old.result.now c.bytes_mut-old.ensures.now
    c.copy_from_slice.ensures.len ∙ c.copy_from_slice.ensures.after) c.in_ok-buf.ensures.puts

pub returns-clause-lends : goal.returns-clause-lends
returns-clause-lends g c = back c.in_ok-buf.buf.bytes
    (lent-with c.in_ok-buf.buf.bytes c.in_ok-buf.ensures.lends c.requires.lent c.in_ok-buf.ensures.ok.block) refl c.bdwrite.ensures.lends
