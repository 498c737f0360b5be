use Rattle.std.proofs.Common.{◌<◌, ◌∙◌, List, Bool, ℕ, true, sym, ap, length, slice_index, slice_set, arith}
use Rattle.std.proofs.lemmas.List.{length-set}
use Rattle.sv_check.specs.ChainSteps.{met_in}
use Rattle.sv_check.specs.InodeCache.{is_cacheable}
use Rattle.sv_check.proofs.CacheSteps.{cache_one, cache_stop, cache_end}
use Rattle.sv_check.proofs.ChainWalk.{met_set}
use Rattle.sv_check.proofs.sound.inode_cache.first_uncacheable.Goals as goal

pub returns-then-not-may_stand : goal.returns-then-not-may_stand
returns-then-not-may_stand c = record {
  first = λ image is.
      cache_stop c.args.sizes.now image (met_in c.loop-n.met.items) c.args.cache.now c.loop-n.n-index (c.loop-n.invariant.left image is) c.loop-n-test.true
      (ap (λ (l : List Bool). is_cacheable c.args.sizes.now image (met_in l) (slice_index c.args.cache.now c.loop-n.n-index)) (sym c.deref.ensures.value)
      ∙ sym (c.if-not-may_stand.ensures.result image is));
}

pub loop-n-preserved : goal.loop-n-preserved
loop-n-preserved c =
    let inside : slice_index c.args.cache.now c.loop-n.n-index < length c.loop-n.met.items = omega (arith, c.if-not-may_stand.ensures.in_range, c.loop-n.invariant.len) in
    record {
      len = length-set c.loop-n.met.items c.from.result true ∙ c.loop-n.invariant.len;
      left = λ image is.
          cache_one c.args.sizes.now image (met_in c.loop-n.met.items) c.args.cache.now c.loop-n.n-index (c.loop-n.invariant.left image is) (met_in (slice_set c.loop-n.met.items c.from.result true)) c.loop-n-test.true
          (ap (λ (l : List Bool). is_cacheable c.args.sizes.now image (met_in l) (slice_index c.args.cache.now c.loop-n.n-index)) (sym c.deref.ensures.value)
          ∙ sym (c.if-not-may_stand.ensures.result image is))
          (met_set c.loop-n.met.items (slice_set c.loop-n.met.items c.from.result true) (slice_index c.args.cache.now c.loop-n.n-index) inside
          (ap (λ (x : ℕ). slice_set c.loop-n.met.items x true) c.from.ensures));
    }

pub returns : goal.returns
returns c = record {
  first = λ image is. cache_end c.args.sizes.now image (met_in c.loop-n.met.items) c.args.cache.now c.loop-n.n-index (c.loop-n.invariant.left image is) c.loop-n-test.false;
}
