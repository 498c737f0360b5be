use Rattle.std.proofs.Common.{ap, sym, subst}
use Rattle.sv_turn.specs.Passes.{pass_view, first_view}
use Rattle.sv_buf.specs.View.{View}
use Rattle.sv_buf.specs.Ending.{HoldsAll}
use Rattle.sv_buf.proofs.Ending.{disk-holds-all, none-lent}
use Rattle.sv_buf.proofs.tests.open.Goals as goal

pub returns-in-Ok-clause-all : goal.returns-in-Ok-clause-all
returns-in-Ok-clause-all g c =
    let first = c.in-Ok.ensures.first in
    let opening = (first_view c.in-Ok.cache.turn).opening in
    record {
      own = first.0;
      away = first.1;
      fit = c.in-Ok.ensures.fit;
      opened = ap (λ (v : View). v.opening) first.2;
      idle = none-lent (pass_view c.in-Ok.first) (ap (λ (v : View). v.loans) first.2);
      all = subst (HoldsAll opening.sizes) (sym c.in-Ok.ensures.held) (disk-holds-all opening.sizes opening.disk.content);
    }
