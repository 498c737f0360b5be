-- All lines are held, also after one of them was written.
use Rattle.std.proofs.Common.{ap, ◌∙◌, arith}
use Rattle.sv_store.proofs.tests.content_of.Goals as goal

pub into_content-requires-clause-lines : goal.into_content-requires-clause-lines
into_content-requires-clause-lines g c = λ b low. record {
  at = λ l line.
      c.set_byte-set.ensures.lines.at b l
      ∙ c.in_ok-stake.ensures.held b l (omega (arith, low, ap (λ q. q.sizes.blocks) c.set_byte-set.ensures.origin, ap (λ q. q.sizes.blocks) c.in_ok-stake.ensures.sizes)) (omega (arith, line, ap (λ q. q.sizes.block_size) c.set_byte-set.ensures.origin, ap (λ q. q.sizes.block_size) c.in_ok-stake.ensures.sizes));
}
