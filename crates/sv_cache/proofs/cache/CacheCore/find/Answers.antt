use Rattle.std.proofs.Common.{◌≡◌, ◌<◌, ◌%◌, length, sym, ap, ◌∙◌, arith}
use Rattle.sv_links.specs.Arrangement.{list_at}
use Rattle.sv_links.proofs.Walk.{search-first, search-next, search-found, search-end, search-smaller}
use Rattle.sv_cache.specs.declared.TheConstants.{HASH_QUEUES}
use Rattle.sv_cache.specs.Cache.{Cache, Buffer, is_block, holder}
use Rattle.sv_cache.specs.Lawful.{cache}
use Rattle.sv_cache.proofs.Kept.{seen, kept_there, header-buffer}
use Rattle.sv_cache.proofs.Holder.{names, queue-holder}
use Rattle.sv_cache.proofs.cache.CacheCore.find.Given.{Over}
use Rattle.sv_cache.proofs.cache.CacheCore.find.Goals as goal
use Rattle.sv_cache.proofs.cache.CacheCore.find.Goals.{In-Some, After-names}

pub loop-next-init : goal.loop-next-init
loop-next-init g c = search-first (names (cache c.deref-all.result.now) c.args.block) (list_at c.deref-all.result.now.queues (c.args.block % HASH_QUEUES)) c.first-next.result c.first-next.ensures.head

inside : (g : Over) (c : In-Some g) → c.in-Some.buffer < length c.deref-all.result.now.headers.items
inside g c =
    let on = c.loop-next.invariant.on c.in-Some.buffer c.in-Some.is in
    let in_range = c.first-next.ensures.arranged.in_range (c.args.block % HASH_QUEUES) c.in-Some.buffer on in
    omega (arith, (kept_there c.deref-all.ensures c.self.invariant).lists.queued)

named : (g : Over) (c : After-names g) → c.in-Some.buffer < length c.deref-all.result.now.headers.items → names (cache c.deref-all.result.now) c.args.block c.in-Some.buffer ≡ c.names.result
named g c h = sym (c.names.ensures ∙ ap (λ (x : Buffer). is_block x.block c.args.block) (header-buffer c.deref-all.result.now c.in-Some.buffer c.index.result.now h c.index.ensures))

pub index-requires : goal.index-requires
index-requires g c = omega (arith, inside g c, c.deref-all.result.now.headers.ok.0)

pub next-next-requires : goal.next-next-requires
next-next-requires g c = record { on_a_list = (c.args.block % HASH_QUEUES, c.loop-next.invariant.on c.in-Some.buffer c.in-Some.is) }

pub loop-next-preserved : goal.loop-next-preserved
loop-next-preserved g c =
    let on = c.loop-next.invariant.on c.in-Some.buffer c.in-Some.is in
    search-next (names (cache c.deref-all.result.now) c.args.block) (list_at c.deref-all.result.now.queues (c.args.block % HASH_QUEUES)) c.in-Some.buffer c.loop-next.next c.next-next.result
    (c.first-next.ensures.arranged.once (c.args.block % HASH_QUEUES)) c.loop-next.invariant c.in-Some.is
    (named g (goal.at.loop-next-preserved g c).After-names (inside g (goal.at.loop-next-preserved g c).In-Some) ∙ c.if-names.false)
    (c.next-next.ensures.next (c.args.block % HASH_QUEUES) on)

pub loop-next-smaller : goal.loop-next-smaller
loop-next-smaller g c =
    let on = c.loop-next.invariant.on c.in-Some.buffer c.in-Some.is in
    search-smaller (list_at c.deref-all.result.now.queues (c.args.block % HASH_QUEUES)) c.in-Some.buffer c.loop-next.next c.next-next.result
    (c.first-next.ensures.arranged.once (c.args.block % HASH_QUEUES)) c.in-Some.is
    (c.next-next.ensures.next (c.args.block % HASH_QUEUES) on)

pub returns-then-names-clause-holder : goal.returns-then-names-clause-holder
returns-then-names-clause-holder g c =
    let passes = named g (goal.at.returns-then-names-clause-holder g c).After-names (inside g (goal.at.returns-then-names-clause-holder g c).In-Some) ∙ c.if-names.true in
    sym (search-found (names (cache c.deref-all.result.now) c.args.block) (list_at c.deref-all.result.now.queues (c.args.block % HASH_QUEUES)) c.in-Some.buffer c.loop-next.next c.loop-next.invariant c.in-Some.is passes)
    ∙ queue-holder c.deref-all.result.now c.args.block (kept_there c.deref-all.ensures c.self.invariant) ∙ ap (λ (v : Cache g.row.D.Denot). holder v c.args.block) (seen c.deref-all.ensures c.self.view_is)

pub returns-clause-holder : goal.returns-clause-holder
returns-clause-holder g c =
    sym (search-end (names (cache c.deref-all.result.now) c.args.block) (list_at c.deref-all.result.now.queues (c.args.block % HASH_QUEUES)) c.loop-next.next c.loop-next.invariant c.in_default.is)
    ∙ queue-holder c.deref-all.result.now c.args.block (kept_there c.deref-all.ensures c.self.invariant) ∙ ap (λ (v : Cache g.row.D.Denot). holder v c.args.block) (seen c.deref-all.ensures c.self.view_is)
