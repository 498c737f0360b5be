use Rattle.sv_cache.proofs.Kept.{kept_there, kept-taken_off}
use Rattle.sv_cache.proofs.cache.CacheCore.take_off.Goals as goal

pub invariant_of-self : goal.invariant_of-self
invariant_of-self g c = kept-taken_off c.deref_mut.result.now c.args.buffer c.unlink.new.self (kept_there c.deref_mut.ensures.value c.self.invariant) c.unlink.ensures.unlinked

pub returns-clause-lawful : goal.returns-clause-lawful
returns-clause-lawful g c =
    let kept = kept-taken_off c.deref_mut.result.now c.args.buffer c.unlink.new.self (kept_there c.deref_mut.ensures.value c.self.invariant) c.unlink.ensures.unlinked in
    kept.lawful
