use Rattle.std.proofs.Common.{◌<◌, length, sym, subst, ap, ◌∙◌, arith}
use Rattle.std.proofs.lemmas.List.{length-map}
use Rattle.sv_links.specs.Arrangement.{Arrangement, without}
use Rattle.sv_cache.specs.Cache.{Cache, buffer_at}
use Rattle.sv_cache.specs.Getblk.{IsUnnamed, renamed}
use Rattle.sv_cache.proofs.Laws.{changed}
use Rattle.sv_cache.proofs.Kept.{seen, kept_there, Renamed, renamed-kept, renamed-view, header-buffer, left-absent}
use Rattle.sv_cache.proofs.cache.CacheCore.rename.Given.{Over}
use Rattle.sv_cache.proofs.cache.CacheCore.rename.Goals as goal
use Rattle.sv_cache.proofs.cache.CacheCore.rename.Goals.{After-rename}

pub leave-requires : goal.leave-requires
leave-requires g c =
    let inside = subst (λ (v : Cache g.row.D.Denot). c.args.buffer < length v.buffers) (sym (seen c.deref_mut-all.ensures.value c.self.view_is)) c.requires.in_range in
    record { in_range = omega (arith, (kept_there c.deref_mut-all.ensures.value c.self.invariant).lists.queued) }

pub push_tail-requires : goal.push_tail-requires
push_tail-requires g c =
    let inside = subst (λ (v : Cache g.row.D.Denot). c.args.buffer < length v.buffers) (sym (seen c.deref_mut-all.ensures.value c.self.view_is)) c.requires.in_range in
    let lists = ap (λ (f : Arrangement). length f.lists) c.leave.ensures.left ∙ length-map c.deref_mut-all.result.now.queues.lists (without c.args.buffer) ∙ (kept_there c.deref_mut-all.ensures.value c.self.invariant).lists.queues in
    let numbers = ap (λ (f : Arrangement). f.numbers) c.leave.ensures.left ∙ (kept_there c.deref_mut-all.ensures.value c.self.invariant).lists.queued in
    record {
      list_in_range = omega arith;
      number_in_range = omega arith;
      on_none = left-absent c.deref_mut-all.result.now.queues c.leave.new.queues c.args.buffer c.leave.ensures.left;
    }

moved : (g : Over) (c : After-rename g) → Renamed c.deref_mut-all.result.now c.args.buffer c.args.block c.rename.new.self c.leave.new.queues c.push_tail.new.self
moved g c =
    let inside_now : c.args.buffer < length c.deref_mut-all.result.now.headers.items = subst (λ (v : Cache g.row.D.Denot). c.args.buffer < length v.buffers) (sym (seen c.deref_mut-all.ensures.value c.self.view_is)) c.requires.in_range in
    record {
      inside = inside_now;
      unnamed = subst (λ v. IsUnnamed v c.args.block) (sym (seen c.deref_mut-all.ensures.value c.self.view_is)) c.requires.unnamed;
      buffer = c.rename.ensures ∙ ap (λ x. renamed x c.args.block) (header-buffer c.deref_mut-all.result.now c.args.buffer c.index_mut.result.now inside_now c.index_mut.ensures.value);
      left_all = c.leave.ensures.left;
      moved_to = c.push_tail.ensures.pushed;
    }

pub invariant_of-self : goal.invariant_of-self
invariant_of-self g c = renamed-kept c.deref_mut-all.result.now c.args.buffer c.args.block _ _ _ (kept_there c.deref_mut-all.ensures.value c.self.invariant) (moved g (goal.at.invariant_of-self g c).After-rename)

pub returns : goal.returns
returns g c =
    let m = moved g (goal.at.returns g c).After-rename in
    let kept = renamed-kept c.deref_mut-all.result.now c.args.buffer c.args.block _ _ _ (kept_there c.deref_mut-all.ensures.value c.self.invariant) m in
    record {
      after = renamed-view c.deref_mut-all.result.now c.args.buffer c.args.block _ _ _ m ∙ ap (λ v. changed v c.args.buffer (renamed (buffer_at v c.args.buffer) c.args.block)) (seen c.deref_mut-all.ensures.value c.self.view_is);
      lawful = kept.lawful;
    }
