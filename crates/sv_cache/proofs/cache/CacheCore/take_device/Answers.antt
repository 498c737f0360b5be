use Rattle.std.proofs.Common.{sym, subst}
use Rattle.sv_cache.specs.Fresh.{IsFreshFirst}
use Rattle.sv_cache.specs.Lawful.{cache}
use Rattle.sv_cache.proofs.Fresh.{fresh-device}
use Rattle.sv_cache.proofs.Kept.{seen}
use Rattle.sv_cache.proofs.cache.CacheCore.take_device.Goals as goal

pub returns-clause-fresh : goal.returns-clause-fresh
returns-clause-fresh g c = λ first. fresh-device (cache c.deref_mut.result.now) _ (subst (λ v. IsFreshFirst v) (sym (seen c.deref_mut.ensures.value c.self.view_is)) first)
