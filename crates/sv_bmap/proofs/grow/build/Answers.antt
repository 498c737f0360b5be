-- The blocks are written from the last on, each in the part at its place, and what is above the first was there.
use Rattle.std.proofs.Common.{◌≡◌, ◌<◌, ◌-◌, ◌+◌, inr, length, get_or, take, suc, refl, sym, ap, ◌∙◌, arith}
use Rattle.std.proofs.lemmas.List.{length-map}
use Rattle.sv_form.specs.PagePath.{block_numbers}
use Rattle.sv_store.proofs.Holding.{SameLines-eq}
use Rattle.sv_bmap.proofs.Built.{ready, front-held, built-from}
use Rattle.sv_bmap.proofs.Kept.{keeps-all, keeps-set, rose-set, holds-read, same-put, has-bytes, has-bytes-yet, leads-none, leads-more}
use Rattle.sv_bmap.proofs.Kept.{home-kept}
use Rattle.sv_bmap.proofs.Links.{if_err-from, on_ok-from}
use Rattle.sv_bmap.proofs.Parts.{len-is}
use Rattle.sv_bmap.proofs.grow.build.Goals as goal

pub overflow_sub-last : goal.overflow_sub-last
overflow_sub-last g c = let rd = ready c.geometry-sizes.result c.geometry-sizes.ensures.value c.geometry-sizes.ensures.sizes
    c.requires.page c.requires.new c.path_of.result c.path_of.ensures.path c.path_of.ensures.page c.spot_of-spot.ensures.slot
    c.spot_of-spot.ensures.places in omega (arith, rd.miss.some)

pub overflow_sub-above : goal.overflow_sub-above
overflow_sub-above g c = let rd = ready c.geometry-sizes.result c.geometry-sizes.ensures.value c.geometry-sizes.ensures.sizes
    c.requires.page c.requires.new c.path_of.result c.path_of.ensures.path c.path_of.ensures.page c.spot_of-spot.ensures.slot
    c.spot_of-spot.ensures.places in omega (arith, rd.miss.few)

pub index_mut-requires : goal.index_mut-requires
index_mut-requires g c =
    let rd = ready c.geometry-sizes.result c.geometry-sizes.ensures.value c.geometry-sizes.ensures.sizes c.requires.page c.requires.new
    c.path_of.result c.path_of.ensures.path c.path_of.ensures.page c.spot_of-spot.ensures.slot c.spot_of-spot.ensures.places in
    let low : length c.args.blocks.now - 1 < length c.args.parts.now.items =
    omega (arith, rd.miss.some, c.requires.new.as_many, length-map c.args.parts.now.items g.S.Stake.held) in
    omega (arith, low, len-is c.args.parts.now)

pub bounds-blocks-last : goal.bounds-blocks-last
bounds-blocks-last g c = let rd = ready c.geometry-sizes.result c.geometry-sizes.ensures.value c.geometry-sizes.ensures.sizes
    c.requires.page c.requires.new c.path_of.result c.path_of.ensures.path c.path_of.ensures.page c.spot_of-spot.ensures.slot
    c.spot_of-spot.ensures.places in omega (arith, rd.miss.some)

pub put_page-requires-clause-block : goal.put_page-requires-clause-block
put_page-requires-clause-block g c _ _ =
    let rd = ready c.geometry-sizes.result c.geometry-sizes.ensures.value c.geometry-sizes.ensures.sizes c.requires.page c.requires.new
    c.path_of.result c.path_of.ensures.path c.path_of.ensures.page c.spot_of-spot.ensures.slot c.spot_of-spot.ensures.places in
    let low : length c.args.blocks.now - 1 < length c.args.parts.now.items =
    omega (arith, rd.miss.some, c.requires.new.as_many, length-map c.args.parts.now.items g.S.Stake.held) in
    let home = ap g.S.Stake.origin c.index_mut.ensures.value ∙ c.requires.home (length c.args.blocks.now - 1) c.index_mut.result.now low in
    let first = keeps-all g.S.Stake.held g.S.Stake.lent g.S.Stake.origin g.S.Stake.forced g.S.Stake.faults c.args.parts.now.items
    c.requires.away in
    holds-read first (length c.args.blocks.now - 1) (get_or c.args.blocks.now (length c.args.blocks.now - 1) 0) c.index_mut.result.now
    c.index_mut.ensures.value low home (c.requires.new.whole (length c.args.blocks.now - 1) (omega (arith, rd.miss.some)))

pub put_page-requires-clause-size : goal.put_page-requires-clause-size
put_page-requires-clause-size g c _ _ =
    let rd = ready c.geometry-sizes.result c.geometry-sizes.ensures.value c.geometry-sizes.ensures.sizes c.requires.page c.requires.new
    c.path_of.result c.path_of.ensures.path c.path_of.ensures.page c.spot_of-spot.ensures.slot c.spot_of-spot.ensures.places in
    let low : length c.args.blocks.now - 1 < length c.args.parts.now.items =
    omega (arith, rd.miss.some, c.requires.new.as_many, length-map c.args.parts.now.items g.S.Stake.held) in
    let home = ap g.S.Stake.origin c.index_mut.ensures.value ∙ c.requires.home (length c.args.blocks.now - 1) c.index_mut.result.now low in
    c.requires.size ∙ sym (ap (λ q. q.sizes.block_size) home)

pub put_page-requires-clause-lent : goal.put_page-requires-clause-lent
put_page-requires-clause-lent g c _ _ =
    let rd = ready c.geometry-sizes.result c.geometry-sizes.ensures.value c.geometry-sizes.ensures.sizes c.requires.page c.requires.new
    c.path_of.result c.path_of.ensures.path c.path_of.ensures.page c.spot_of-spot.ensures.slot c.spot_of-spot.ensures.places in
    let low : length c.args.blocks.now - 1 < length c.args.parts.now.items =
    omega (arith, rd.miss.some, c.requires.new.as_many, length-map c.args.parts.now.items g.S.Stake.held) in
    ap g.S.Stake.lent c.index_mut.ensures.value ∙ c.requires.away (length c.args.blocks.now - 1) c.index_mut.result.now low

pub returns-in_err-put_page-clause-parts : goal.returns-in_err-put_page-clause-parts
returns-in_err-put_page-clause-parts g c =
    let rd = ready c.geometry-sizes.result c.geometry-sizes.ensures.value c.geometry-sizes.ensures.sizes c.requires.page c.requires.new
    c.path_of.result c.path_of.ensures.path c.path_of.ensures.page c.spot_of-spot.ensures.slot c.spot_of-spot.ensures.places in
    let low : length c.args.blocks.now - 1 < length c.args.parts.now.items =
    omega (arith, rd.miss.some, c.requires.new.as_many, length-map c.args.parts.now.items g.S.Stake.held) in
    let first = keeps-all g.S.Stake.held g.S.Stake.lent g.S.Stake.origin g.S.Stake.forced g.S.Stake.faults c.args.parts.now.items
    c.requires.away in
    keeps-set (length c.args.blocks.now - 1) c.put_page.new.s c.index_mut.result.now c.index_mut.ensures.value first low
    (SameLines-eq _ _ c.in_err-put_page.ensures.err) c.put_page.ensures.lends c.put_page.ensures.origin c.put_page.ensures.forced
    c.put_page.ensures.cause.no_less

pub returns-in_err-put_page-clause-cause : goal.returns-in_err-put_page-clause-cause
returns-in_err-put_page-clause-cause g c =
    let rd = ready c.geometry-sizes.result c.geometry-sizes.ensures.value c.geometry-sizes.ensures.sizes c.requires.page c.requires.new
    c.path_of.result c.path_of.ensures.path c.path_of.ensures.page c.spot_of-spot.ensures.slot c.spot_of-spot.ensures.places in
    let low : length c.args.blocks.now - 1 < length c.args.parts.now.items =
    omega (arith, rd.miss.some, c.requires.new.as_many, length-map c.args.parts.now.items g.S.Stake.held) in
    let first = keeps-all g.S.Stake.held g.S.Stake.lent g.S.Stake.origin g.S.Stake.forced g.S.Stake.faults c.args.parts.now.items
    c.requires.away in
    if_err-from c.from_residual.result c.in_err-put_page.field-0.0 _ c.from_residual.ensures.1
    (record {
      is = c.in_err-put_page.ensures.cause.rose.0;
      rose =
          inr (rose-set (length c.args.blocks.now - 1) c.put_page.new.s c.index_mut.result.now c.index_mut.ensures.value first low
          c.in_err-put_page.ensures.cause.rose.1);
    })

pub loop-done-init : goal.loop-done-init
loop-done-init g c =
    let rd = ready c.geometry-sizes.result c.geometry-sizes.ensures.value c.geometry-sizes.ensures.sizes c.requires.page c.requires.new
    c.path_of.result c.path_of.ensures.path c.path_of.ensures.page c.spot_of-spot.ensures.slot c.spot_of-spot.ensures.places in
    let low : length c.args.blocks.now - 1 < length c.args.parts.now.items =
    omega (arith, rd.miss.some, c.requires.new.as_many, length-map c.args.parts.now.items g.S.Stake.held) in
    let first = keeps-all g.S.Stake.held g.S.Stake.lent g.S.Stake.origin g.S.Stake.forced g.S.Stake.faults c.args.parts.now.items
    c.requires.away in
    let holds = holds-read first (length c.args.blocks.now - 1) (get_or c.args.blocks.now (length c.args.blocks.now - 1) 0)
    c.index_mut.result.now c.index_mut.ensures.value low refl
    (c.requires.new.whole (length c.args.blocks.now - 1) (omega (arith, rd.miss.some))) in
    record {
      keeps = keeps-set (length c.args.blocks.now - 1) c.put_page.new.s c.index_mut.result.now c.index_mut.ensures.value first low
          (same-put _ _ c.in_ok-put_page.ensures.ok) c.put_page.ensures.lends c.put_page.ensures.origin c.put_page.ensures.forced
          c.put_page.ensures.cause.no_less;
      last = has-bytes g.S.Stake.held c.args.parts.now.items (length c.args.blocks.now - 1)
          (get_or c.args.blocks.now (length c.args.blocks.now - 1) 0) c.args.bytes.now c.put_page.new.s c.index_mut.result.now low holds
          c.in_ok-put_page.ensures.ok;
      row = leads-none _ _ (omega arith);
    }

pub bounds-places-above : goal.bounds-places-above
bounds-places-above g c = let rd = ready c.geometry-sizes.result c.geometry-sizes.ensures.value c.geometry-sizes.ensures.sizes
    c.requires.page c.requires.new c.path_of.result c.path_of.ensures.path c.path_of.ensures.page c.spot_of-spot.ensures.slot
    c.spot_of-spot.ensures.places in omega (arith, rd.miss.few, rd.miss.some, c.loop-done-test.true)

pub put_indirect-requires-clause-block : goal.put_indirect-requires-clause-block
put_indirect-requires-clause-block g c _ _ =
    let rd = ready c.geometry-sizes.result c.geometry-sizes.ensures.value c.geometry-sizes.ensures.sizes c.requires.page c.requires.new
    c.path_of.result c.path_of.ensures.path c.path_of.ensures.page c.spot_of-spot.ensures.slot c.spot_of-spot.ensures.places in
    let inv = c.loop-done.invariant in
    let low : length c.args.blocks.now - 1 - 1 - c.loop-done.done < length c.loop-done.parts.items =
    omega (arith, c.loop-done-test.true, inv.keeps.count, c.requires.new.as_many, length-map c.args.parts.now.items g.S.Stake.held) in
    let within : length c.args.blocks.now - 1 - 1 - c.loop-done.done < length c.args.blocks.now = omega (arith, c.loop-done-test.true) in
    let home = ap g.S.Stake.origin c.index_mut-in-loop-done.ensures.value
    ∙ home-kept inv.keeps refl c.requires.home (length c.args.blocks.now - 1 - 1 - c.loop-done.done)
    c.index_mut-in-loop-done.result.now low in
    let holds = holds-read inv.keeps (length c.args.blocks.now - 1 - 1 - c.loop-done.done)
    (get_or c.args.blocks.now (length c.args.blocks.now - 1 - 1 - c.loop-done.done) 0) c.index_mut-in-loop-done.result.now
    c.index_mut-in-loop-done.ensures.value (omega (arith, low, inv.keeps.count)) home
    (c.requires.new.whole (length c.args.blocks.now - 1 - 1 - c.loop-done.done) within) in
    holds

pub put_indirect-requires-clause-place : goal.put_indirect-requires-clause-place
put_indirect-requires-clause-place g c _ _ =
    let rd = ready c.geometry-sizes.result c.geometry-sizes.ensures.value c.geometry-sizes.ensures.sizes c.requires.page c.requires.new
    c.path_of.result c.path_of.ensures.path c.path_of.ensures.page c.spot_of-spot.ensures.slot c.spot_of-spot.ensures.places in
    let inv = c.loop-done.invariant in
    let low : length c.args.blocks.now - 1 - 1 - c.loop-done.done < length c.loop-done.parts.items =
    omega (arith, c.loop-done-test.true, inv.keeps.count, c.requires.new.as_many, length-map c.args.parts.now.items g.S.Stake.held) in
    let home = ap g.S.Stake.origin c.index_mut-in-loop-done.ensures.value
    ∙ home-kept inv.keeps refl c.requires.home (length c.args.blocks.now - 1 - 1 - c.loop-done.done)
    c.index_mut-in-loop-done.result.now low in
    omega (
      arith,
      rd.miss.spot.places
          (length (take c.spot_of-spot.result.depth c.spot_of-spot.result.places) - (length c.args.blocks.now - 1)
          + (length c.args.blocks.now - 1 - 1 - c.loop-done.done)) (omega (arith, rd.miss.few, rd.miss.some, c.loop-done-test.true)),
      ap
          (λ q. block_numbers q.sizes) home,
    )

pub put_indirect-requires-clause-lent : goal.put_indirect-requires-clause-lent
put_indirect-requires-clause-lent g c _ _ =
    let rd = ready c.geometry-sizes.result c.geometry-sizes.ensures.value c.geometry-sizes.ensures.sizes c.requires.page c.requires.new
    c.path_of.result c.path_of.ensures.path c.path_of.ensures.page c.spot_of-spot.ensures.slot c.spot_of-spot.ensures.places in
    let inv = c.loop-done.invariant in
    let low : length c.args.blocks.now - 1 - 1 - c.loop-done.done < length c.loop-done.parts.items =
    omega (arith, c.loop-done-test.true, inv.keeps.count, c.requires.new.as_many, length-map c.args.parts.now.items g.S.Stake.held) in
    ap g.S.Stake.lent c.index_mut-in-loop-done.ensures.value
    ∙ inv.keeps.away (length c.args.blocks.now - 1 - 1 - c.loop-done.done) c.index_mut-in-loop-done.result.now low

pub returns-in_err-put_indirect-clause-parts : goal.returns-in_err-put_indirect-clause-parts
returns-in_err-put_indirect-clause-parts g c =
    let rd = ready c.geometry-sizes.result c.geometry-sizes.ensures.value c.geometry-sizes.ensures.sizes c.requires.page c.requires.new
    c.path_of.result c.path_of.ensures.path c.path_of.ensures.page c.spot_of-spot.ensures.slot c.spot_of-spot.ensures.places in
    let inv = c.loop-done.invariant in
    let low : length c.args.blocks.now - 1 - 1 - c.loop-done.done < length c.loop-done.parts.items =
    omega (arith, c.loop-done-test.true, inv.keeps.count, c.requires.new.as_many, length-map c.args.parts.now.items g.S.Stake.held) in
    keeps-set (length c.args.blocks.now - 1 - 1 - c.loop-done.done) c.put_indirect.new.s c.index_mut-in-loop-done.result.now
    c.index_mut-in-loop-done.ensures.value inv.keeps low (SameLines-eq _ _ c.in_err-put_indirect.ensures.err)
    c.put_indirect.ensures.lends c.put_indirect.ensures.origin c.put_indirect.ensures.forced c.put_indirect.ensures.cause.no_less

pub returns-in_err-put_indirect-clause-cause : goal.returns-in_err-put_indirect-clause-cause
returns-in_err-put_indirect-clause-cause g c =
    let rd = ready c.geometry-sizes.result c.geometry-sizes.ensures.value c.geometry-sizes.ensures.sizes c.requires.page c.requires.new
    c.path_of.result c.path_of.ensures.path c.path_of.ensures.page c.spot_of-spot.ensures.slot c.spot_of-spot.ensures.places in
    let inv = c.loop-done.invariant in
    let low : length c.args.blocks.now - 1 - 1 - c.loop-done.done < length c.loop-done.parts.items =
    omega (arith, c.loop-done-test.true, inv.keeps.count, c.requires.new.as_many, length-map c.args.parts.now.items g.S.Stake.held) in
    if_err-from c.from_residual-in_err-put_indirect.result c.in_err-put_indirect.field-0.0 _ c.from_residual-in_err-put_indirect.ensures.1
    (record {
      is = c.in_err-put_indirect.ensures.cause.rose.0;
      rose =
          inr (rose-set (length c.args.blocks.now - 1 - 1 - c.loop-done.done) c.put_indirect.new.s c.index_mut-in-loop-done.result.now
          c.index_mut-in-loop-done.ensures.value inv.keeps low c.in_err-put_indirect.ensures.cause.rose.1);
    })

pub loop-done-preserved : goal.loop-done-preserved
loop-done-preserved g c =
    let rd = ready c.geometry-sizes.result c.geometry-sizes.ensures.value c.geometry-sizes.ensures.sizes c.requires.page c.requires.new
    c.path_of.result c.path_of.ensures.path c.path_of.ensures.page c.spot_of-spot.ensures.slot c.spot_of-spot.ensures.places in
    let inv = c.loop-done.invariant in
    let low : length c.args.blocks.now - 1 - 1 - c.loop-done.done < length c.loop-done.parts.items =
    omega (arith, c.loop-done-test.true, inv.keeps.count, c.requires.new.as_many, length-map c.args.parts.now.items g.S.Stake.held) in
    let within : length c.args.blocks.now - 1 - 1 - c.loop-done.done < length c.args.blocks.now = omega (arith, c.loop-done-test.true) in
    let home = ap g.S.Stake.origin c.index_mut-in-loop-done.ensures.value
    ∙ home-kept inv.keeps refl c.requires.home (length c.args.blocks.now - 1 - 1 - c.loop-done.done)
    c.index_mut-in-loop-done.result.now low in
    let holds = holds-read inv.keeps (length c.args.blocks.now - 1 - 1 - c.loop-done.done)
    (get_or c.args.blocks.now (length c.args.blocks.now - 1 - 1 - c.loop-done.done) 0) c.index_mut-in-loop-done.result.now
    c.index_mut-in-loop-done.ensures.value (omega (arith, low, inv.keeps.count)) home
    (c.requires.new.whole (length c.args.blocks.now - 1 - 1 - c.loop-done.done) within) in
    let at : length (take c.spot_of-spot.result.depth c.spot_of-spot.result.places) - (length c.args.blocks.now - 1)
    + (length c.args.blocks.now - 1 - 1 - c.loop-done.done) ≡ length (take c.spot_of-spot.result.depth c.spot_of-spot.result.places)
    + 1 - length c.args.blocks.now + (length c.args.blocks.now - 1 - 1 - c.loop-done.done) = omega (arith, rd.miss.few, rd.miss.some) in
    let below = rd.miss.spot.places
    (length (take c.spot_of-spot.result.depth c.spot_of-spot.result.places) - (length c.args.blocks.now - 1)
    + (length c.args.blocks.now - 1 - 1 - c.loop-done.done)) (omega (arith, rd.miss.few, rd.miss.some, c.loop-done-test.true)) in
    let next : length c.args.blocks.now - 1 - 1 - c.loop-done.done + 1 ≡ suc (length c.args.blocks.now - 1 - 1 - c.loop-done.done) =
    omega arith in
    record {
      keeps = keeps-set (length c.args.blocks.now - 1 - 1 - c.loop-done.done) c.put_indirect.new.s c.index_mut-in-loop-done.result.now
          c.index_mut-in-loop-done.ensures.value inv.keeps low (same-put _ _ c.in_ok-put_indirect.ensures.ok.puts)
          c.put_indirect.ensures.lends c.put_indirect.ensures.origin c.put_indirect.ensures.forced c.put_indirect.ensures.cause.no_less;
      last = has-bytes-yet g.S.Stake.held c.loop-done.parts.items (length c.args.blocks.now - 1 - 1 - c.loop-done.done)
          (length c.args.blocks.now - 1) (get_or c.args.blocks.now (length c.args.blocks.now - 1) 0) c.args.bytes.now c.put_indirect.new.s
          (λ e. omega (arith, e, c.loop-done-test.true)) inv.last;
      row = leads-more g.S.Stake.held c.loop-done.parts.items (length c.args.blocks.now - 1 - 1 - c.loop-done.done)
          (length c.args.blocks.now - 1 - c.loop-done.done) (length c.args.blocks.now - 1 - (c.loop-done.done + 1)) _ _
          c.put_indirect.new.s c.index_mut-in-loop-done.result.now (omega (arith, c.loop-done-test.true)) (omega arith) low holds
          (omega (arith, ap (λ q. q.sizes.block_size) home))
          (ap (λ q. get_or (take c.spot_of-spot.result.depth c.spot_of-spot.result.places) q 0) at)
          (ap (λ q. get_or c.args.blocks.now q 0) next) below c.in_ok-put_indirect.ensures.ok inv.row;
    }

pub bounds-blocks-0 : goal.bounds-blocks-0
bounds-blocks-0 g c = let rd = ready c.geometry-sizes.result c.geometry-sizes.ensures.value c.geometry-sizes.ensures.sizes c.requires.page
    c.requires.new c.path_of.result c.path_of.ensures.path c.path_of.ensures.page c.spot_of-spot.ensures.slot
    c.spot_of-spot.ensures.places in omega (arith, rd.miss.some)

pub hang-requires-clause-blocks : goal.hang-requires-clause-blocks
hang-requires-clause-blocks g c _ _ =
    let rd = ready c.geometry-sizes.result c.geometry-sizes.ensures.value c.geometry-sizes.ensures.sizes c.requires.page c.requires.new
    c.path_of.result c.path_of.ensures.path c.path_of.ensures.page c.spot_of-spot.ensures.slot
    c.spot_of-spot.ensures.places in front-held
    (length (take c.spot_of-spot.result.depth c.spot_of-spot.result.places) - (length c.args.blocks.now - 1)) c.requires.tree rd.miss
    (omega (arith, rd.miss.few, rd.miss.some))

pub returns-clause-ok : goal.returns-clause-ok
returns-clause-ok g c =
    let rd = ready c.geometry-sizes.result c.geometry-sizes.ensures.value c.geometry-sizes.ensures.sizes c.requires.page c.requires.new
    c.path_of.result c.path_of.ensures.path c.path_of.ensures.page c.spot_of-spot.ensures.slot c.spot_of-spot.ensures.places in
    on_ok-from c.hang.result
    (λ links. built-from rd (omega (arith, rd.miss.few, rd.miss.some))
    (omega (arith, c.loop-done-test.false)) c.loop-done.invariant.last c.loop-done.invariant.row links) c.hang.ensures.ok
