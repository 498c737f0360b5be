use Rattle.std.proofs.Common.{sym, subst, ap, ◌∙◌, None}
use Rattle.sv_cache.specs.Cache.{Buffer, IsBusy}
use Rattle.sv_cache.proofs.Kept.{seen, kept_there, kept-lend, header-buffer}
use Rattle.sv_cache.specs.Lawful.{cache}
use Rattle.sv_cache.specs.Fresh.{IsFreshFirst}
use Rattle.sv_cache.proofs.Laws.{changed}
use Rattle.sv_cache.proofs.Fresh.{fresh-lend}
use Rattle.sv_cache.proofs.cache.CacheCore.lend.Goals as goal

pub invariant_of-self : goal.invariant_of-self
invariant_of-self g c =
    let busy = subst (λ v. IsBusy v c.args.buffer) (sym (seen c.deref_mut.ensures.value c.self.view_is)) c.requires.busy in
    kept-lend c.deref_mut.result.now c.args.buffer c.lend.new.self (kept_there c.deref_mut.ensures.value c.self.invariant) busy (c.lend.ensures.rest ∙ ap (λ (x : Buffer). record x { bytes = None }) (header-buffer c.deref_mut.result.now c.args.buffer c.index_mut.result.now busy.in_range c.index_mut.ensures.value))

pub returns-clause-lawful : goal.returns-clause-lawful
returns-clause-lawful g c =
    let busy = subst (λ v. IsBusy v c.args.buffer) (sym (seen c.deref_mut.ensures.value c.self.view_is)) c.requires.busy in
    let kept = kept-lend c.deref_mut.result.now c.args.buffer c.lend.new.self (kept_there c.deref_mut.ensures.value c.self.invariant) busy (c.lend.ensures.rest ∙ ap (λ (x : Buffer). record x { bytes = None }) (header-buffer c.deref_mut.result.now c.args.buffer c.index_mut.result.now busy.in_range c.index_mut.ensures.value)) in
    kept.lawful

pub returns-clause-fresh : goal.returns-clause-fresh
returns-clause-fresh g c = λ first.
    let busy = subst (λ v. IsBusy v c.args.buffer) (sym (seen c.deref_mut.ensures.value c.self.view_is)) c.requires.busy in
    let lent = c.lend.ensures.rest ∙ ap (λ (x : Buffer). record x { bytes = None }) (header-buffer c.deref_mut.result.now c.args.buffer c.index_mut.result.now busy.in_range c.index_mut.ensures.value) in
    subst (λ (x : Buffer). IsFreshFirst (changed (cache c.deref_mut.result.now) c.args.buffer x)) (sym lent)
    (fresh-lend (cache c.deref_mut.result.now) c.args.buffer (subst (λ v. IsFreshFirst v) (sym (seen c.deref_mut.ensures.value c.self.view_is)) first) busy.in_range)
