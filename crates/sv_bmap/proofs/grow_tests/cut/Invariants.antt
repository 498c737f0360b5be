use Rattle.std.proofs.Common.{◌≡◌, map}
use Rattle.std.specs.List.{All}
use Rattle.sv_store.specs.Held.{nothing_lent}
use Rattle.sv_store.specs.OwnBlock.{held_of, lent_of}
use Rattle.sv_bmap.specs.Cut.{IsCut}
use Rattle.sv_bmap.proofs.Cut.{origin_of}
use Rattle.sv_bmap.proofs.grow_tests.cut.Given as goal

abbrev pub invariant-loop-k : goal.invariant-loop-k
invariant-loop-k l = record {
  cut : IsCut l.k (held_of l.stake.blocks) (map (λ s. held_of s.blocks) l.parts.items);
  away : All (λ s. lent_of s.blocks ≡ nothing_lent) l.parts.items;
  home : All (λ s. origin_of s.tally s.sizes ≡ origin_of l.fn.stake.tally l.fn.stake.sizes) l.parts.items;
  lends : lent_of l.stake.blocks ≡ nothing_lent;
  origin : origin_of l.stake.tally l.stake.sizes ≡ origin_of l.fn.stake.tally l.fn.stake.sizes;
}
