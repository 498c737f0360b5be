-- The bytes that are lent are those of the vector, which keeps its length.
use Rattle.std.proofs.Common.{◌≡◌, length, refl, ap, ◌∙◌}
use Rattle.std.specs.List.{refill}
use Rattle.sv_store.proofs.buf.Buf.bytes_mut.Goals as goal

pub returns : goal.returns
returns c =
    ((refl, λ w. λ i. record { block = (c.self.view_is i).block; bytes = refill (same i) ((c.self.view_is i).bytes) w }), record { lends = tt; now = c.as_mut_slice.ensures.value ∙ ap (λ q. q.bytes) c.self.view_is })
  where
    same : c.self.inside.bytes.len ≡ length c.args.self.now.bytes
    same = c.self.inside.bytes.ok.0 ∙ ap (λ q. length q.bytes) c.self.view_is
