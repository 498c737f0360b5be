use Rattle.std.proofs.Common.{◌∙◌, ap, sym}
use Rattle.sv_form.specs.declared.geometry.Geometry.{Geometry}
use Rattle.sv_check.specs.Directories.{root_flaw}
use Rattle.sv_check.specs.InodeCache.{cache_flaw}
use Rattle.sv_check.proofs.CacheSteps.{flags_length, cache_found, rooted, unrooted}
use Rattle.sv_check.proofs.Flaws.{fails_12, fails_13, found_at, found_none, none_here}
use Rattle.sv_check.proofs.sound.conditions.check_free.Goals as goal

pub first_uncacheable-requires-clause-flags : goal.first_uncacheable-requires-clause-flags
first_uncacheable-requires-clause-flags g c = flags_length c.args.sizes.now (g.D.Disk.content c.args.disk.now) _ (c.deref.ensures.value ∙ c.requires.used)

pub returns-in-Some-clause-err : goal.returns-in-Some-clause-err
returns-in-Some-clause-err g c =
    let found = cache_found c.args.sizes.now (g.D.Disk.content c.args.disk.now) c.in_ok-bad.bad c.as_slice.result.now c.args.head.now
    (c.in_ok-bad.ensures.first (g.D.Disk.content c.args.disk.now) (c.deref.ensures.value ∙ c.requires.used)) c.as_slice.ensures.value c.requires.head in
    fails_12 _ c.in_ok-check_free_blocks.ensures.chained _ (found_at cache_flaw _ c.args.sizes.now _ c.requires.sizes found _ _ c.in-Some.is c.from.ensures)

pub returns-then-not-list-clause-err : goal.returns-then-not-list-clause-err
returns-then-not-list-clause-err g c =
    let found = cache_found c.args.sizes.now (g.D.Disk.content c.args.disk.now) c.in_ok-bad.bad c.as_slice.result.now c.args.head.now
    (c.in_ok-bad.ensures.first (g.D.Disk.content c.args.disk.now) (c.deref.ensures.value ∙ c.requires.used)) c.as_slice.ensures.value c.requires.head in
    fails_13 _ c.in_ok-check_free_blocks.ensures.chained _ (found_none cache_flaw _ c.args.sizes.now _ c.requires.sizes found (none_here _ c.in_default.not-Some))
    (ap (λ (s : Geometry). root_flaw s (g.D.Disk.content c.args.disk.now)) (sym c.requires.sizes)
    ∙ unrooted c.args.sizes.now (g.D.Disk.content c.args.disk.now) c.args.list.now.root c.requires.root c.if-not-list.true)

pub returns-clause-rooted : goal.returns-clause-rooted
returns-clause-rooted g c =
    let found = cache_found c.args.sizes.now (g.D.Disk.content c.args.disk.now) c.in_ok-bad.bad c.as_slice.result.now c.args.head.now
    (c.in_ok-bad.ensures.first (g.D.Disk.content c.args.disk.now) (c.deref.ensures.value ∙ c.requires.used)) c.as_slice.ensures.value c.requires.head in
    record {
      chained = c.in_ok-check_free_blocks.ensures.chained;
      cache = found_none cache_flaw _ c.args.sizes.now _ c.requires.sizes found (none_here _ c.in_default.not-Some);
      root = ap (λ (s : Geometry). root_flaw s (g.D.Disk.content c.args.disk.now)) (sym c.requires.sizes)
          ∙ rooted c.args.sizes.now (g.D.Disk.content c.args.disk.now) c.args.list.now.root c.requires.root c.if-not-list.false;
    }
