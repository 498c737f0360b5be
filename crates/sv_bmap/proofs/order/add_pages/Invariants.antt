use Rattle.std.proofs.Common.{◌≡◌, ◌++◌, ◌==◌, ◌∷◌, [], cond, get_or}
use Rattle.std.specs.List.{flat_map, range_with_len}
use Rattle.sv_bmap.proofs.order.add_pages.Given as goal

abbrev pub invariant-loop-slot : goal.invariant-loop-slot
invariant-loop-slot l = record {
  blocks : l.blocks.items ≡ l.initial.blocks.items ++ flat_map (λ slot. cond (get_or l.a slot 0 == 0) [] (get_or l.a slot 0 ∷ []))
      (range_with_len 0 l.slot);
}
