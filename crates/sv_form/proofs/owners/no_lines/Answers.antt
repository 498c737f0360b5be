-- Each list is empty.
use Rattle.std.proofs.Common.{◌≡◌, ◌++◌, ◌∷◌, [], ℕ, List, ap, length, length-append, map, get_or, ◌∙◌, arith}
use Rattle.std.proofs.lemmas.List.{map_push}
use Rattle.sv_form.specs.declared.owners.LineRange.{LineRange}
use Rattle.sv_form.proofs.OwnerLemmas.{none_more}
use Rattle.sv_form.proofs.owners.no_lines.Goals as goal

pub loop-place-preserved : goal.loop-place-preserved
loop-place-preserved c = record {
  count = omega (arith, ap length c.in_ok-push.ensures.items, length-append c.loop-place.all.items (c.new.result ∷ []), c.loop-place.invariant.count);
  none = λ n.
      ap (λ all. get_or (map (λ ranges. ranges.items) all) n []) c.in_ok-push.ensures.items
      ∙ (ap (λ rows. get_or rows n []) (map_push (λ ranges. ranges.items) c.loop-place.all.items c.new.result)
      ∙ (ap (λ (row : List LineRange). get_or (map (λ ranges. ranges.items) c.loop-place.all.items ++ row ∷ []) n []) c.new.ensures.items
      ∙ none_more (map (λ ranges. ranges.items) c.loop-place.all.items) c.loop-place.invariant.none n));
}
