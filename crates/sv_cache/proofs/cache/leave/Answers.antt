use Rattle.std.proofs.Common.{◌≡◌, ℕ, List, ap, sym, Option, Some, None, MatchOption, false, ◌∙◌}
use Rattle.std.specs.Option.{is_some}
use Rattle.sv_links.specs.Arrangement.{Arrangement, IsOn, IsOnNone}
use Rattle.sv_links.proofs.Times.{map-without_absent}
use Rattle.sv_cache.proofs.cache.leave.Goals as goal

on_none : (a : Arrangement) (x : ℕ) (r : Option ℕ) → MatchOption r (IsOnNone a x) (λ l. IsOn a l x) → is_some r ≡ false → IsOnNone a x
on_none a x None h e = h
on_none a x (Some l) h e = absurd cc

pub returns-else-is_some-clause-left : goal.returns-else-is_some-clause-left
returns-else-is_some-clause-left c =
    let absent = on_none c.args.queues.now c.args.buffer c.list_of.result c.list_of.ensures.on (sym c.is_some.ensures ∙ c.if-is_some.false) in
    ap (λ (ls : List (List ℕ)). record c.args.queues.now { lists = ls }) (sym (map-without_absent c.args.buffer c.args.queues.now.lists absent))
