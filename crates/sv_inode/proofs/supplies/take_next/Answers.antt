-- The block comes with all its lines.
use Rattle.std.proofs.Common.{◌++◌, ◌∷◌, [], ap, ◌∙◌}
use Rattle.sv_inode.proofs.supplies.take_next.Goals as goal

pub returns-clause-taken : goal.returns-clause-taken
returns-clause-taken g c = record {
  b = c.in_ok-b.b;
  part = c.in_ok-b.part;
  pushed = c.push_cut.ensures.items ∙ ap (λ q. q ++ (c.in_ok-b.b, c.in_ok-b.part) ∷ []) c.in_ok-reserve.ensures.items;
  cut = record {
    lines = c.in_ok-b.ensures.lines.theirs;
    away = c.in_ok-b.ensures.part.away;
    home = c.in_ok-b.ensures.part.home;
    unforced = c.in_ok-b.ensures.part.unforced;
    none = c.in_ok-b.ensures.part.none;
  };
  free = c.in_ok-b.ensures.block;
  left = c.in_ok-b.ensures.lines.mine;
}
