use Rattle.std.proofs.Common.{◌≡◌, ◌++◌, ◌==◌, ◌∷◌, [], cond, take}
use Rattle.std.specs.List.{flat_map}
use Rattle.sv_bmap.proofs.order.add_each.Given as goal

abbrev pub invariant-loop-b : goal.invariant-loop-b
invariant-loop-b l = record {
  blocks : l.blocks.items ≡ l.fn.blocks.items ++ flat_map (λ b. cond (b == 0) [] (b ∷ [])) (take l.b-index l.numbers);
}
