use Rattle.std.proofs.Common.{refl, Some, sym, subst}
use Rattle.sv_cache.proofs.New.{kept-new, view-new}
use Rattle.sv_cache.specs.Fresh.{IsFreshFirst}
use Rattle.sv_cache.proofs.Fresh.{fresh-new}
use Rattle.sv_cache.proofs.Kept.{kept_there, seen}
use Rattle.sv_cache.proofs.cache.CacheCore.new.Goals as goal

pub invariant_of-result : goal.invariant_of-result
invariant_of-result g c = kept_there c.in-Ok-new.ensures.ok (kept-new _ c.args.disk c.args.buffers c.args.geometry c.in-Ok.ensures.headers c.in-Ok.ensures.queues c.in-Ok.ensures.free refl refl)

pub returns-in-Ok-new-clause-lawful : goal.returns-in-Ok-new-clause-lawful
returns-in-Ok-new-clause-lawful g c =
    let kept = kept_there c.in-Ok-new.ensures.ok (kept-new _ c.args.disk c.args.buffers c.args.geometry c.in-Ok.ensures.headers c.in-Ok.ensures.queues c.in-Ok.ensures.free refl refl) in
    kept.lawful

pub returns-in-Ok-new-clause-fresh : goal.returns-in-Ok-new-clause-fresh
returns-in-Ok-new-clause-fresh g c =
    let view = seen c.in-Ok-new.ensures.ok (view-new (record { headers = c.in-Ok.parts.headers; queues = c.in-Ok.parts.queues; free = c.in-Ok.parts.free; geometry = c.args.geometry; device = Some c.args.disk }) c.args.disk c.args.buffers c.args.geometry c.in-Ok.ensures.headers c.in-Ok.ensures.free refl refl) in
    subst (λ v. IsFreshFirst v) (sym view) (fresh-new c.args.disk c.args.buffers c.args.geometry)
