-- Each page adds its piece, and takes what it needs.
use Rattle.std.proofs.Common.{is_some, ◌≡◌, ◌<◌, ◌+◌, ◌-◌, ◌/◌, ◌%◌, ℕ, false, is_err, take, slice_range, suc, length, ap, arith, sym}
use Rattle.std.proofs.Common.{subst, refl, ◌∙◌}
use Rattle.sv_form.specs.Geometry.{IsGeometry}
use Rattle.sv_form.specs.Node.{Node}
use Rattle.sv_form.specs.NodeChanges.{put, touched}
use Rattle.sv_form.specs.PagePath.{IsPage}
use Rattle.sv_form.specs.declared.geometry.Geometry.{Geometry}
use Rattle.sv_form.specs.declared.inode.InodeBody.{InodeBody}
use Rattle.sv_store.specs.Held.{Origin}
use Rattle.sv_bmap.specs.Need.{need_of}
use Rattle.sv_inode.specs.StandsFor.{StandsFor}
use Rattle.sv_inode.proofs.OwnLines.{only-moved}
use Rattle.sv_inode.proofs.PagesHeld.{size_some}
use Rattle.sv_inode.proofs.PagesPut.{all-done, need-done, need-enough, needs-next, on-err, on-ok, piece-written, is-piece, range-page}
use Rattle.sv_inode.proofs.PagesPut.{reached-same, rooms-first, uses-next, uses-nothing}
use Rattle.sv_inode.proofs.PieceEnds.{IsPiece, IsReached, first-count, reached-begin, reached-next}
use Rattle.sv_inode.proofs.WrittenNode.{put-begin}
use Rattle.sv_inode.proofs.write.write_pages.Goals as goal

pub loop-page-init : goal.loop-page-init
loop-page-init g c = record {
  first = omega arith;
  reached = reached-same (omega arith) (reached-begin c.geometry-sizes.result.block_size c.args.at pos (length c.args.from.now));
  node = λ node stands.
      (let P : Node → Type 0 = λ q. StandsFor (g.S.Stake.origin c.args.inode.now.stake)
      (g.S.Stake.held c.args.inode.now.stake) c.args.inode.now.body q in
      subst P (sym (put-begin c.geometry-sizes.result.block_size node c.args.at c.args.from.now)) stands);
  cuts = λ h can. uses-nothing (g.S.Stake.held c.args.inode.now.stake) c.args.supplies.now.cuts.items can;
  needs = λ n low. ap (λ q. need_of (g.S.Stake.origin c.args.inode.now.stake).sizes
      (g.S.Stake.held c.args.inode.now.stake) c.args.inode.now.body.addresses (c.args.at / c.geometry-sizes.result.block_size) q
      + length c.args.supplies.now.cuts.items) (omega arith);
  only = λ n was. was;
  before = λ b l low is. refl;
  rooms = rooms-first c.geometry-sizes.result.block_size c.args.at (length c.args.from.now) (length c.args.supplies.now.rooms.items) _ _
      pos c.requires.some (omega (
        arith,
        c.requires.rooms.enough,
        ap (λ q. length (touched q.block_size c.args.at (length c.args.from.now)))
            c.geometry-sizes.ensures.value,
      )) refl refl;
  empty = c.requires.rooms.empty;
  roomy = c.requires.rooms.roomy;
  bytes = c.requires.rooms.size;
  body = refl;
  number = refl;
  faults = omega arith;
  lends = c.requires.lent;
  forced = refl;
  origin = refl;
}
  where
    pos : 0 < c.geometry-sizes.result.block_size
    pos = size_some _ c.geometry-sizes.ensures.sizes

pub write_page-requires-clause-stands : goal.write_page-requires-clause-stands
write_page-requires-clause-stands g c κs within = (_, c.loop-page.invariant.node c.requires.stands.0 c.requires.stands.1)

pub write_page-requires-clause-enough : goal.write_page-requires-clause-enough
write_page-requires-clause-enough g c κs within =
    omega (
      arith,
      ap (λ q. need_of q.sizes (g.S.Stake.held c.loop-page.inode.stake) c.loop-page.inode.body.addresses c.loop-page.page 1)
          c.loop-page.invariant.origin,
      need-enough (g.S.Stake.origin c.args.inode.now.stake).sizes c.geometry-sizes.result.block_size c.args.at (length c.args.from.now)
          (c.loop-page.page - c.args.at / c.geometry-sizes.result.block_size) (c.args.at / c.geometry-sizes.result.block_size)
          ((c.args.at + length c.args.from.now - 1) / c.geometry-sizes.result.block_size) c.loop-page.page
          (length c.loop-page.supplies.cuts.items) (length c.args.supplies.now.cuts.items)
          (g.S.Stake.held c.args.inode.now.stake) (g.S.Stake.held c.loop-page.inode.stake) c.args.inode.now.body.addresses
          c.loop-page.inode.body.addresses
          (size_some _ c.geometry-sizes.ensures.sizes) (ap (λ q. q.block_size) c.geometry-sizes.ensures.value) c.requires.some refl refl
          (omega (arith, c.loop-page.invariant.first, c.loop-page-test.true))
          (c.loop-page.invariant.needs 1 (omega (arith, c.loop-page-test.true))) c.requires.enough,
    )

pub returns-then-is_err-clause-only : goal.returns-then-is_err-clause-only
returns-then-is_err-clause-only g c = λ n was.
    only-moved c.loop-page.invariant.origin (c.write_page.ensures.only n) (c.loop-page.invariant.only n was)

pub returns-then-is_err-clause-front : goal.returns-then-is_err-clause-front
returns-then-is_err-clause-front g c = record {
  stake = record {
    away = c.write_page.ensures.front.stake.away;
    as_forced = c.write_page.ensures.front.stake.as_forced ∙ c.loop-page.invariant.forced;
    home = c.write_page.ensures.front.stake.home ∙ c.loop-page.invariant.origin;
    no_less = omega (arith, c.write_page.ensures.front.stake.no_less, c.loop-page.invariant.faults);
  };
  before = λ b l low is.
      c.write_page.ensures.front.before b l (omega (arith, low, ap (λ q. q.sizes.first_data) c.loop-page.invariant.origin))
      (ap is_some (c.loop-page.invariant.before b l low is) ∙ is)
      ∙ c.loop-page.invariant.before b l low is;
}

pub returns-clause-front : goal.returns-clause-front
returns-clause-front g c = record {
  stake = record {
    away = c.loop-page.invariant.lends;
    as_forced = c.loop-page.invariant.forced;
    home = c.loop-page.invariant.origin;
    no_less = c.loop-page.invariant.faults;
  };
  before = c.loop-page.invariant.before;
}

pub write_page-requires-clause-rooms : goal.write_page-requires-clause-rooms
write_page-requires-clause-rooms g c κs within = record {
  enough = omega (arith, c.loop-page.invariant.rooms, c.loop-page-test.true);
  empty = c.loop-page.invariant.empty;
  roomy = c.loop-page.invariant.roomy;
  size = c.loop-page.invariant.bytes ∙ sym (ap (λ q. q.sizes.block_size) c.loop-page.invariant.origin);
}

pub returns-then-is_err-clause-cuts : goal.returns-then-is_err-clause-cuts
returns-then-is_err-clause-cuts g c = λ h can. uses-next c.args.supplies.now.cuts.items c.loop-page.supplies.cuts.items
    c.write_page.new.supplies.cuts.items c.loop-page.invariant.origin (c.loop-page.invariant.cuts h can) (c.write_page.ensures.cuts h)

pub returns-then-is_err-clause-need : goal.returns-then-is_err-clause-need
returns-then-is_err-clause-need g c =
    need-done (g.S.Stake.origin c.args.inode.now.stake).sizes c.geometry-sizes.result.block_size c.args.at (length c.args.from.now)
    (c.loop-page.page - c.args.at / c.geometry-sizes.result.block_size) c.loop-page.done
    (c.args.at / c.geometry-sizes.result.block_size) (length c.write_page.new.supplies.cuts.items)
    (length c.args.supplies.now.cuts.items)
    (g.S.Stake.held c.args.inode.now.stake) (g.S.Stake.held c.loop-page.inode.stake) c.args.inode.now.body.addresses
    c.loop-page.inode.body.addresses c.loop-page.page
    (size_some _ c.geometry-sizes.ensures.sizes) (ap (λ q. q.block_size) c.geometry-sizes.ensures.value) c.requires.some refl
    c.loop-page.invariant.reached (omega (arith, c.loop-page-test.true))
    (omega (
      arith,
      c.loop-page.invariant.needs 0 (omega (arith, c.loop-page-test.true)),
      on-err c.write_page.result
          (sym c.is_err.ensures.value ∙ c.if-is_err.true) c.write_page.ensures.count,
    ))

pub loop-page-preserved : goal.loop-page-preserved
loop-page-preserved g c = record {
  first = omega (arith, c.loop-page.invariant.first);
  reached = reached-same (omega (arith, c.loop-page.invariant.first))
      (reached-next c.geometry-sizes.result.block_size c.args.at pos c.args.from.now c.loop-page.done
      (c.loop-page.done + c.min.result) c.loop-page.page _ _ (c.loop-page.page - c.args.at / c.geometry-sizes.result.block_size) part
      c.loop-page.invariant.reached);
  node = λ node stands.
      (let was : StandsFor (g.S.Stake.origin c.loop-page.inode.stake) (g.S.Stake.held c.loop-page.inode.stake) c.loop-page.inode.body
      (put c.geometry-sizes.result.block_size node c.args.at (take c.loop-page.done c.args.from.now)) =
      c.loop-page.invariant.node node stands in
      let P : ℕ → Type 0 = λ q. StandsFor (g.S.Stake.origin c.write_page.new.inode.stake) (g.S.Stake.held c.write_page.new.inode.stake)
      (record c.write_page.new.inode.body { size = q })
      (put c.geometry-sizes.result.block_size node c.args.at (take (c.loop-page.done + c.min.result) c.args.from.now)) in
      subst P (sym c.max-inode.ensures)
      (piece-written node c.geometry-sizes.result.block_size c.args.at c.args.from.now c.loop-page.done
      (c.loop-page.done + c.min.result) c.loop-page.page inside
      (slice_range c.args.from.now c.loop-page.done (c.loop-page.done + c.min.result))
      here_sizes here_size is part was
      (on-ok c.write_page.result passed
      (c.write_page.ensures.node (put c.geometry-sizes.result.block_size node c.args.at (take c.loop-page.done c.args.from.now))
      was))));
  cuts = λ h can. uses-next c.args.supplies.now.cuts.items c.loop-page.supplies.cuts.items c.write_page.new.supplies.cuts.items
      c.loop-page.invariant.origin (c.loop-page.invariant.cuts h can) (c.write_page.ensures.cuts h);
  needs = λ n low.
      needs-next (g.S.Stake.held c.loop-page.inode.stake) (g.S.Stake.held c.write_page.new.inode.stake)
      (g.S.Stake.held c.args.inode.now.stake) c.args.inode.now.body.addresses c.loop-page.inode.body.addresses
      c.write_page.new.inode.body.addresses c.geometry-sizes.result.block_size c.args.at (length c.args.from.now)
      (c.args.at / c.geometry-sizes.result.block_size) ((c.args.at + length c.args.from.now - 1) / c.geometry-sizes.result.block_size)
      c.loop-page.page n
      (length c.loop-page.supplies.cuts.items) (length c.write_page.new.supplies.cuts.items)
      (length c.args.supplies.now.cuts.items) c.loop-page.invariant.origin its_sizes
      (ap (λ q. q.block_size) c.geometry-sizes.ensures.value) c.requires.some c.requires.end refl refl c.loop-page.invariant.first low
      (c.loop-page.invariant.needs (suc n) (omega (arith, low))) (on-ok c.write_page.result passed c.write_page.ensures.need n);
  only = λ n was. only-moved c.loop-page.invariant.origin (c.write_page.ensures.only n) (c.loop-page.invariant.only n was);
  before = λ b l low is.
      c.write_page.ensures.front.before b l (omega (arith, low, ap (λ q. q.sizes.first_data) c.loop-page.invariant.origin))
      (ap is_some (c.loop-page.invariant.before b l low is) ∙ is)
      ∙ c.loop-page.invariant.before b l low is;
  rooms = omega (arith, c.loop-page.invariant.rooms, c.write_page.ensures.rooms.enough);
  empty = c.write_page.ensures.rooms.empty;
  roomy = c.write_page.ensures.rooms.roomy;
  bytes = c.write_page.ensures.rooms.size ∙ ap (λ q. q.sizes.block_size) c.loop-page.invariant.origin;
  body = ap (λ (b : InodeBody). record b { size = c.max-inode.result })
      (c.write_page.ensures.body
      ∙ ap (λ (b : InodeBody). record b { addresses = c.write_page.new.inode.body.addresses }) c.loop-page.invariant.body);
  number = c.write_page.ensures.number ∙ c.loop-page.invariant.number;
  faults = omega (arith, c.write_page.ensures.front.stake.no_less, c.loop-page.invariant.faults);
  lends = c.write_page.ensures.front.stake.away;
  forced = c.write_page.ensures.front.stake.as_forced ∙ c.loop-page.invariant.forced;
  origin = c.write_page.ensures.front.stake.home ∙ c.loop-page.invariant.origin;
}
  where
    pos : 0 < c.geometry-sizes.result.block_size
    pos = size_some _ c.geometry-sizes.ensures.sizes

    its_sizes : IsGeometry (g.S.Stake.origin c.args.inode.now.stake).sizes
    its_sizes = (let P : Geometry → Type 0 = IsGeometry in subst P c.geometry-sizes.ensures.value c.geometry-sizes.ensures.sizes)

    here_sizes : IsGeometry (g.S.Stake.origin c.loop-page.inode.stake).sizes
    here_sizes = (let P : Origin → Type 0 = λ q. IsGeometry q.sizes in subst P (sym c.loop-page.invariant.origin) its_sizes)

    here_size : c.geometry-sizes.result.block_size ≡ (g.S.Stake.origin c.loop-page.inode.stake).sizes.block_size
    here_size = ap (λ q. q.block_size) c.geometry-sizes.ensures.value ∙ sym (ap (λ q. q.sizes.block_size) c.loop-page.invariant.origin)

    is : IsPage (g.S.Stake.origin c.loop-page.inode.stake).sizes c.loop-page.page
    is = range-page c.geometry-sizes.result.block_size c.args.at (length c.args.from.now) (c.args.at / c.geometry-sizes.result.block_size)
        ((c.args.at + length c.args.from.now - 1) / c.geometry-sizes.result.block_size) c.loop-page.page c.loop-page.invariant.origin
        its_sizes (ap (λ q. q.block_size) c.geometry-sizes.ensures.value) c.requires.some c.requires.end refl refl
        c.loop-page.invariant.first (omega (arith, c.loop-page-test.true))

    passed : is_err c.write_page.result ≡ false
    passed = sym c.is_err.ensures.value ∙ c.if-is_err.false

    inside : ℕ
    inside = (c.args.at + c.loop-page.done) % c.geometry-sizes.result.block_size

    part : IsPiece c.geometry-sizes.result.block_size c.args.at c.args.from.now c.loop-page.done
        (c.loop-page.done + c.min.result) c.loop-page.page inside
        (slice_range c.args.from.now c.loop-page.done (c.loop-page.done + c.min.result))
    part = is-piece c.geometry-sizes.result.block_size c.args.at c.args.from.now c.loop-page.done c.loop-page.page
        (c.args.at / c.geometry-sizes.result.block_size) ((c.args.at + length c.args.from.now - 1) / c.geometry-sizes.result.block_size)
        inside c.min.result (c.loop-page.done + c.min.result)
        (slice_range c.args.from.now c.loop-page.done (c.loop-page.done + c.min.result))
        pos c.requires.some refl refl c.loop-page.invariant.first (omega (arith, c.loop-page-test.true)) c.loop-page.invariant.reached refl
        c.min.ensures refl refl

pub returns-clause-need : goal.returns-clause-need
returns-clause-need g c =
    need-done (g.S.Stake.origin c.args.inode.now.stake).sizes c.geometry-sizes.result.block_size c.args.at (length c.args.from.now)
    (c.loop-page.page - c.args.at / c.geometry-sizes.result.block_size) (length c.args.from.now)
    (c.args.at / c.geometry-sizes.result.block_size) (length c.loop-page.supplies.cuts.items) (length c.args.supplies.now.cuts.items)
    (g.S.Stake.held c.args.inode.now.stake) (g.S.Stake.held c.loop-page.inode.stake) c.args.inode.now.body.addresses
    c.loop-page.inode.body.addresses c.loop-page.page
    (size_some _ c.geometry-sizes.ensures.sizes) (ap (λ q. q.block_size) c.geometry-sizes.ensures.value) c.requires.some refl
    (let P : ℕ → Type 0 = λ q. IsReached c.geometry-sizes.result.block_size c.args.at (length c.args.from.now)
    (c.loop-page.page - c.args.at / c.geometry-sizes.result.block_size) q in
    subst P (all-done c.geometry-sizes.result.block_size c.args.at (length c.args.from.now)
    (c.loop-page.page - c.args.at / c.geometry-sizes.result.block_size) c.loop-page.done
    (c.args.at / c.geometry-sizes.result.block_size) ((c.args.at + length c.args.from.now - 1) / c.geometry-sizes.result.block_size)
    c.loop-page.page (size_some _ c.geometry-sizes.ensures.sizes) c.requires.some refl refl refl
    (omega (arith, c.loop-page-test.false)) c.loop-page.invariant.reached) c.loop-page.invariant.reached)
    (omega (
      arith,
      c.loop-page.auto.page-end,
      first-count c.geometry-sizes.result.block_size c.args.at
          (size_some _ c.geometry-sizes.ensures.sizes) (length c.args.from.now) c.requires.some,
    ))
    (c.loop-page.invariant.needs 0
    (omega (
      arith,
      c.loop-page.auto.page-end,
      first-count c.geometry-sizes.result.block_size c.args.at
          (size_some _ c.geometry-sizes.ensures.sizes) (length c.args.from.now) c.requires.some,
    )))
