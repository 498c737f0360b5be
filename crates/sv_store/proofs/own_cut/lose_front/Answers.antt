-- The first entry loses the lines, and goes where it has no other.
use Rattle.std.proofs.Common.{◌∷◌, [], not}
use Rattle.sv_store.specs.Held.{in_ranges}
use Rattle.sv_store.specs.OwnBlock.{masked}
use Rattle.sv_store.proofs.OwnCut.{lose-front}
use Rattle.sv_store.proofs.own_cut.lose_front.Goals as goal

pub returns : goal.returns
returns c = lose-front (masked (λ b l. not (in_ranges (c.args.range ∷ []) b l))) c.args.blocks.now c.in-Some.own.now c.lose.new.self c.drop_empty.new.blocks c.requires.some c.in-Some.ensures.value c.lose.ensures c.drop_empty.ensures
