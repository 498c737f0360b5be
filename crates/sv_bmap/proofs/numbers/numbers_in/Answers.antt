-- Each number is added.
use Rattle.std.proofs.Common.{◌*◌, ◌++◌, ◌∷◌, [], map, ap, sym, ◌∙◌, arith}
use Rattle.std.specs.List.{range_with_len}
use Rattle.std.proofs.lemmas.List.FromFn.{map-range_with_len_more}
use Rattle.sv_form.specs.Number.{number32}
use Rattle.sv_bmap.proofs.numbers.numbers_in.Goals as goal

pub loop-k-preserved : goal.loop-k-preserved
loop-k-preserved c = record {
  numbers =
      c.in_ok-push.ensures.items
      ∙ (ap (λ q. q ++ c.number32.result ∷ []) c.loop-k.invariant.numbers
      ∙ (ap (λ q. map (λ k. number32 c.args.bytes.now (k * 4)) (range_with_len 0 c.loop-k.k) ++ q ∷ []) c.number32.ensures
      ∙ sym (map-range_with_len_more (λ k. number32 c.args.bytes.now (k * 4)) 0 c.loop-k.k c.loop-k.k (omega arith))));
}
