use Rattle.std.proofs.Common.{ℕ, List, IfOk, subst}
use Rattle.sv_store.specs.Calls.{Gets}
use Rattle.sv_buf.specs.View.{View, held_of}
use Rattle.sv_buf.proofs.get.get.Goals as goal

pub returns-in-Ok-clause-gets : goal.returns-in-Ok-clause-gets
returns-in-Ok-clause-gets g c =
    subst (λ (x : View). IfOk c.lend_or_read.result (λ buf. (id : List ℕ)
    → Gets (record { id = id; sizes = x.opening.sizes }) (held_of x.lines) c.args.block buf)) c.in-Ok.ensures.view
    c.lend_or_read.ensures.gets
