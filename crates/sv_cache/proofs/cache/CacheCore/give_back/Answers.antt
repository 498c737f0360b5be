use Rattle.std.proofs.Common.{ap, refl, subst, sym, ◌∙◌}
use Rattle.sv_links.specs.Arrangement.{list_at}
use Rattle.sv_cache.specs.Brelse.{released, freed, after_release}
use Rattle.sv_cache.specs.Cache.{Cache, IsBusy}
use Rattle.sv_cache.proofs.Kept.{seen, kept_there, Freed, freed-kept, freed-view, header-buffer}
use Rattle.sv_cache.proofs.cache.CacheCore.give_back.Given.{Over}
use Rattle.sv_cache.specs.Fresh.{IsFreshFirst}
use Rattle.sv_cache.proofs.Fresh.{fresh-release}
use Rattle.sv_cache.proofs.cache.CacheCore.give_back.Goals as goal
use Rattle.sv_cache.proofs.cache.CacheCore.give_back.Goals.{After-put_on}

-- what a release leaves of the buffer and of its place on the free list
freeing : (g : Over) (c : After-put_on g) → Freed c.deref_mut-all.result.now c.args.buffer c.args.bytes.items c.args.how c.give_back.new.self c.put_on.new.free (freed (list_at c.deref_mut-all.result.now.free 0) c.args.buffer c.args.how)
freeing g c =
    let busy_now = subst (λ v. IsBusy v c.args.buffer) (sym (seen c.deref_mut-all.ensures.value c.self.view_is)) c.requires.busy in
    record {
      busy = busy_now;
      size = sym c.args.bytes.ok.0 ∙ c.requires.size ∙ ap (λ (v : Cache g.row.D.Denot). v.geometry.block_size) (sym (seen c.deref_mut-all.ensures.value c.self.view_is));
      buffer = c.give_back.ensures ∙ ap (λ x. released x c.args.bytes.items c.args.how) (header-buffer c.deref_mut-all.result.now c.args.buffer c.index_mut.result.now busy_now.in_range c.index_mut.ensures.value);
      pushed = c.put_on.ensures.put;
      place = refl;
    }

pub invariant_of-self : goal.invariant_of-self
invariant_of-self g c = freed-kept c.deref_mut-all.result.now c.args.buffer c.args.bytes.items c.args.how _ _ _ (kept_there c.deref_mut-all.ensures.value c.self.invariant) (freeing g (goal.at.invariant_of-self g c).After-put_on)

pub returns : goal.returns
returns g c =
    let kept = freed-kept c.deref_mut-all.result.now c.args.buffer c.args.bytes.items c.args.how _ _ _ (kept_there c.deref_mut-all.ensures.value c.self.invariant) (freeing g (goal.at.returns g c).After-put_on) in
    let view = freed-view c.deref_mut-all.result.now c.args.buffer c.args.bytes.items c.args.how _ _ _ (kept_there c.deref_mut-all.ensures.value c.self.invariant) (freeing g (goal.at.returns g c).After-put_on) ∙ ap (λ v. after_release v c.args.buffer c.args.bytes.items c.args.how) (seen c.deref_mut-all.ensures.value c.self.view_is) in
    record {
      after = view;
      fresh = λ tail first. subst (λ v. IsFreshFirst v) (sym view) (fresh-release c.args.self.now c.args.buffer c.args.bytes.items c.args.how first c.requires.busy tail);
      lawful = kept.lawful;
    }
