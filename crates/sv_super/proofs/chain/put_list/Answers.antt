-- The zero bytes are written over from the begin of the block on.
use Rattle.std.proofs.Common.{◌≡◌, ℕ, List, length, take, ap, ◌∙◌, sym, refl, subst}
use Rattle.std.specs.List.{refill}
use Rattle.std.proofs.lemmas.List.{length-replicate}
use Rattle.sv_form.specs.Geometry.{IsGeometry}
use Rattle.sv_form.specs.LinkBlock.{IsLinkBlock}
use Rattle.sv_form.specs.declared.geometry.Geometry.{Geometry}
use Rattle.sv_store.specs.Held.{nothing_lent}
use Rattle.sv_store.proofs.Puts.{CanPut-whole, back, holds-put, lent-at, lent-with, refilled}
use Rattle.sv_super.proofs.Writes.{puts-list}
use Rattle.sv_super.proofs.chain.put_list.Goals as goal

pub bdwrite-requires : goal.bdwrite-requires
bdwrite-requires g c =
    CanPut-whole _ c.in_ok-buf.buf.bytes (holds-put c.args.b c.in_ok-buf.buf.bytes c.fresh.ensures.origin c.in_ok-buf.ensures.puts c.in_ok-buf.ensures.ok.block c.requires.block)
    (lent-at nothing_lent (lent-with c.in_ok-buf.buf.bytes c.in_ok-buf.ensures.lends c.requires.lent c.in_ok-buf.ensures.ok.block))
    (ap length c.in_ok-buf.ensures.ok.zeros ∙ (length-replicate {A = ℕ} (g.S.Stake.origin c.args.s.now).sizes.block_size 0 ∙ sym (ap (λ q. q.sizes.block_size) c.fresh.ensures.origin)))
    (ap length whole ∙ (long ∙ ap length c.bytes_mut-bytes.ensures.now))
  where
    long : length c.write_list.new.bytes ≡ length c.bytes_mut-bytes.result.now
    long = c.write_list.auto.bytes

    whole : refill (length c.in_ok-buf.buf.bytes) c.in_ok-buf.buf.bytes c.write_list.new.bytes ≡ c.write_list.new.bytes
    whole = refilled c.in_ok-buf.buf.bytes c.write_list.new.bytes c.bytes_mut-bytes.result.now c.bytes_mut-bytes.ensures.now long

pub returns-clause-ok : goal.returns-clause-ok
returns-clause-ok g c =
    puts-list (refill (length c.in_ok-buf.buf.bytes) c.in_ok-buf.buf.bytes c.write_list.new.bytes) c.in_ok-buf.buf.bytes c.args.list.now.numbers.items c.requires.block
    (let P : Geometry → Type 0 = IsGeometry in subst P c.geometry-sizes.ensures.value c.geometry-sizes.ensures.sizes) c.in_ok-buf.ensures.puts c.in_ok-buf.ensures.ok.block c.bdwrite.ensures.held
    (ap length whole ∙ (long ∙ (ap length c.bytes_mut-bytes.ensures.now ∙ (ap length c.in_ok-buf.ensures.ok.zeros ∙ length-replicate {A = ℕ} (g.S.Stake.origin c.args.s.now).sizes.block_size 0))))
    (let P : List ℕ → Type 0 = λ q. IsLinkBlock (take 204 q) c.args.list.now in subst P (sym whole) c.write_list.ensures)
  where
    long : length c.write_list.new.bytes ≡ length c.bytes_mut-bytes.result.now
    long = c.write_list.auto.bytes

    whole : refill (length c.in_ok-buf.buf.bytes) c.in_ok-buf.buf.bytes c.write_list.new.bytes ≡ c.write_list.new.bytes
    whole = refilled c.in_ok-buf.buf.bytes c.write_list.new.bytes c.bytes_mut-bytes.result.now c.bytes_mut-bytes.ensures.now long

pub returns-clause-lends : goal.returns-clause-lends
returns-clause-lends g c = back c.in_ok-buf.buf.bytes (lent-with c.in_ok-buf.buf.bytes c.in_ok-buf.ensures.lends c.requires.lent c.in_ok-buf.ensures.ok.block) refl c.bdwrite.ensures.lends
