use Rattle.std.proofs.Common.{◌≡◌, ◌<◌, length, find, sym, ap, ◌∙◌, arith}
use Rattle.sv_links.specs.Arrangement.{list_at}
use Rattle.sv_links.proofs.Walk.{search-first, search-next, search-found, search-end, search-smaller}
use Rattle.sv_cache.specs.Cache.{Cache, Buffer, is_delayed}
use Rattle.sv_cache.specs.Lawful.{cache}
use Rattle.sv_cache.proofs.Kept.{seen, kept_there, header-buffer}
use Rattle.sv_cache.proofs.cache.CacheCore.next_delayed.Given.{Over}
use Rattle.sv_cache.proofs.cache.CacheCore.next_delayed.Goals as goal
use Rattle.sv_cache.proofs.cache.CacheCore.next_delayed.Goals.{In-Some, After-is_delayed}

pub loop-next-init : goal.loop-next-init
loop-next-init g c = search-first (is_delayed (cache c.deref-all.result.now)) (list_at c.deref-all.result.now.free 0) c.first-next.result c.first-next.ensures.head

inside : (g : Over) (c : In-Some g) → c.in-Some.buffer < length c.deref-all.result.now.headers.items
inside g c =
    let on = c.loop-next.invariant.on c.in-Some.buffer c.in-Some.is in
    let in_range = c.first-next.ensures.arranged.in_range 0 c.in-Some.buffer on in
    omega (arith, (kept_there c.deref-all.ensures c.self.invariant).lists.freed)

named : (g : Over) (c : After-is_delayed g) → c.in-Some.buffer < length c.deref-all.result.now.headers.items → is_delayed (cache c.deref-all.result.now) c.in-Some.buffer ≡ c.is_delayed.result
named g c h = sym (c.is_delayed.ensures ∙ ap (λ (x : Buffer). x.delayed) (header-buffer c.deref-all.result.now c.in-Some.buffer c.index.result.now h c.index.ensures))

pub index-requires : goal.index-requires
index-requires g c = omega (arith, inside g c, c.deref-all.result.now.headers.ok.0)

pub next-next-requires : goal.next-next-requires
next-next-requires g c = record { on_a_list = (0, c.loop-next.invariant.on c.in-Some.buffer c.in-Some.is) }

pub loop-next-preserved : goal.loop-next-preserved
loop-next-preserved g c =
    let on = c.loop-next.invariant.on c.in-Some.buffer c.in-Some.is in
    search-next (is_delayed (cache c.deref-all.result.now)) (list_at c.deref-all.result.now.free 0) c.in-Some.buffer c.loop-next.next c.next-next.result
    (c.first-next.ensures.arranged.once 0) c.loop-next.invariant c.in-Some.is
    (named g (goal.at.loop-next-preserved g c).After-is_delayed (inside g (goal.at.loop-next-preserved g c).In-Some) ∙ c.if-is_delayed.false)
    (c.next-next.ensures.next 0 on)

pub loop-next-smaller : goal.loop-next-smaller
loop-next-smaller g c =
    let on = c.loop-next.invariant.on c.in-Some.buffer c.in-Some.is in
    search-smaller (list_at c.deref-all.result.now.free 0) c.in-Some.buffer c.loop-next.next c.next-next.result
    (c.first-next.ensures.arranged.once 0) c.in-Some.is
    (c.next-next.ensures.next 0 on)

pub returns-then-is_delayed-clause-first : goal.returns-then-is_delayed-clause-first
returns-then-is_delayed-clause-first g c =
    let passes = named g (goal.at.returns-then-is_delayed-clause-first g c).After-is_delayed (inside g (goal.at.returns-then-is_delayed-clause-first g c).In-Some) ∙ c.if-is_delayed.true in
    sym (search-found (is_delayed (cache c.deref-all.result.now)) (list_at c.deref-all.result.now.free 0) c.in-Some.buffer c.loop-next.next c.loop-next.invariant c.in-Some.is passes)
    ∙ ap (λ (v : Cache g.row.D.Denot). find (is_delayed v) v.free) (seen c.deref-all.ensures c.self.view_is)

pub returns-clause-first : goal.returns-clause-first
returns-clause-first g c =
    sym (search-end (is_delayed (cache c.deref-all.result.now)) (list_at c.deref-all.result.now.free 0) c.loop-next.next c.loop-next.invariant c.in_default.is)
    ∙ ap (λ (v : Cache g.row.D.Denot). find (is_delayed v) v.free) (seen c.deref-all.ensures c.self.view_is)
