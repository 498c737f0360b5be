-- The last blocks of those at hand become the page, and the indirect blocks above it.
use Rattle.std.proofs.Common.{◌∙◌, ap, arith, length, refl, sym, subst}
use Rattle.sv_form.specs.Geometry.{IsGeometry}
use Rattle.sv_form.specs.declared.geometry.Geometry.{Geometry}
use Rattle.std.specs.FinMap as fmap
use Rattle.std.proofs.lemmas.List.{length-map}
use Rattle.sv_store.specs.Held.{Origin}
use Rattle.sv_inode.specs.StandsFor.{StandsFor}
use Rattle.sv_inode.proofs.OwnLines.{only-grown, only-same}
use Rattle.sv_inode.proofs.PageMade.{all-away, all-home, attaches-since, blocks-in-data, can-attach, count-moved, has-fault, kept-paired}
use Rattle.sv_inode.proofs.PageMade.{later-rose, need-few, none-forced, same-held, uses-more, uses-none}
use Rattle.sv_inode.proofs.WrittenNeed.{need-attached}
use Rattle.sv_inode.proofs.WrittenTree.{attached-before, attached-stands}
use Rattle.sv_inode.proofs.fill.add_page.Goals as goal

pub attach-requires-clause-away : goal.attach-requires-clause-away
attach-requires-clause-away g c κs within = all-away c.take_out.new.names.items c.take_out.new.parts.items
    (c.take_out.ensures.parts (g.S.Stake.origin c.args.inode.now.stake) c.requires.cuts.0 c.requires.cuts.1.each)

pub attach-requires-clause-home : goal.attach-requires-clause-home
attach-requires-clause-home g c κs within = all-home c.take_out.new.names.items c.take_out.new.parts.items
    (c.take_out.ensures.parts (g.S.Stake.origin c.args.inode.now.stake) c.requires.cuts.0 c.requires.cuts.1.each) c.need.ensures.stake.home

pub attach-requires-clause-new : goal.attach-requires-clause-new
attach-requires-clause-new g c κs within =
    can-attach c.args.inode.now.body.addresses c.args.page c.take_out.new.names.items c.take_out.new.parts.items c.take_out.new.cuts.items
    c.args.cuts.now.items
    (let P : Geometry → Type 0 = IsGeometry in subst P c.geometry-sizes.ensures.value c.geometry-sizes.ensures.sizes)
    c.requires.hole.hole (c.take_out.ensures.count ∙ c.in-Ok.ensures.need) c.requires.cuts.1 c.take_out.ensures.names
    (c.take_out.ensures.parts (g.S.Stake.origin c.args.inode.now.stake) c.requires.cuts.0 c.requires.cuts.1.each) c.as_slice.ensures.value
    c.need.ensures.stake.home c.need.ensures.stake.lines

pub put_back-requires-clause-room : goal.put_back-requires-clause-room
put_back-requires-clause-room g c κs within =
    omega (
      arith,
      count-moved c.take_out.new.cuts.items c.args.cuts.now.items c.take_out.new.names.items c.take_out.ensures.names,
      c.take_out.ensures.capacity,
      c.args.cuts.now.ok.0,
      c.args.cuts.now.ok.1,
    )

pub returns-in-Err-attach-clause-cause : goal.returns-in-Err-attach-clause-cause
returns-in-Err-attach-clause-cause g c = later-rose c.need.ensures.cause.no_less
    (has-fault g.S.Stake.faults c.take_out.new.parts.items c.in-Err-attach.parts.items c.take_out.new.cuts.items c.put_back.new.cuts.items
    c.in-Err-attach.ensures.cause c.put_back.ensures.faults)

pub take_out-requires-clause-few : goal.take_out-requires-clause-few
take_out-requires-clause-few g c κs within =
    omega (
      arith,
      c.in-Ok.ensures.need,
      need-few (g.S.Stake.origin c.args.inode.now.stake).sizes
          (g.S.Stake.held c.args.inode.now.stake) c.args.inode.now.body.addresses c.args.page,
    )

pub put_back-requires-clause-count : goal.put_back-requires-clause-count
put_back-requires-clause-count g c κs within = c.in-Err-attach.ensures.back.count
    ∙ (c.take_out.ensures.parts (g.S.Stake.origin c.args.inode.now.stake) c.requires.cuts.0 c.requires.cuts.1.each).count

pub returns-in-Ok-attach-clause-node : goal.returns-in-Ok-attach-clause-node
returns-in-Ok-attach-clause-node g c = λ node stands.
    (let P : Origin → Type 0 = λ q. StandsFor q (g.S.Stake.held c.attach.new.s)
    (record c.args.inode.now.body { addresses = c.attach.new.a })
    (record node { pages = fmap.insert node.pages c.args.page c.args.bytes.now }) in
    subst P (sym (c.attach.ensures.origin ∙ c.need.ensures.stake.home))
    (attached-stands (let P : Geometry → Type 0 = IsGeometry in subst P c.geometry-sizes.ensures.value c.geometry-sizes.ensures.sizes)
    c.requires.hole.is_page stands
    (attaches-since c.need.ensures.stake.home c.need.ensures.stake.lines c.as_slice.ensures.value c.in-Ok-attach.ensures.ok)
    (blocks-in-data c.take_out.new.names.items c.take_out.new.cuts.items c.args.cuts.now.items c.requires.cuts.1 c.take_out.ensures.names)
    c.requires.size))

pub returns-in-Ok-attach-clause-cuts : goal.returns-in-Ok-attach-clause-cuts
returns-in-Ok-attach-clause-cuts g c = λ h can.
    uses-more c.take_out.new.names.items c.take_out.new.parts.items c.take_out.new.cuts.items c.args.cuts.now.items can
    c.take_out.ensures.names
    (c.take_out.ensures.left (g.S.Stake.origin c.args.inode.now.stake) h can.each)
    (c.take_out.ensures.parts (g.S.Stake.origin c.args.inode.now.stake) h can.each)
    (attaches-since c.need.ensures.stake.home c.need.ensures.stake.lines c.as_slice.ensures.value c.in-Ok-attach.ensures.ok).lines

pub returns-in-Ok-attach-clause-need : goal.returns-in-Ok-attach-clause-need
returns-in-Ok-attach-clause-need g c = λ n is.
    omega (
      arith,
      count-moved c.take_out.new.cuts.items c.args.cuts.now.items c.take_out.new.names.items c.take_out.ensures.names,
      need-attached {o = g.S.Stake.origin c.args.inode.now.stake} c.args.page n
          (let P : Geometry → Type 0 = IsGeometry in subst P c.geometry-sizes.ensures.value c.geometry-sizes.ensures.sizes) is
          c.requires.stands.1.tree (c.take_out.ensures.count ∙ c.in-Ok.ensures.need)
          (attaches-since c.need.ensures.stake.home c.need.ensures.stake.lines c.as_slice.ensures.value c.in-Ok-attach.ensures.ok),
    )

pub returns-in-Err-attach-clause-cuts : goal.returns-in-Err-attach-clause-cuts
returns-in-Err-attach-clause-cuts g c = λ h can.
    uses-none c.put_back.new.cuts.items c.args.cuts.now.items can (same-held (c.in-Err-attach.ensures.held ∙ c.need.ensures.stake.lines))
    (c.put_back.ensures.names ∙ c.take_out.ensures.names)
    (c.put_back.ensures.each (g.S.Stake.origin c.args.inode.now.stake) h
    (c.take_out.ensures.left (g.S.Stake.origin c.args.inode.now.stake) h can.each)
    (kept-paired c.take_out.new.names.items c.take_out.new.parts.items c.in-Err-attach.parts.items
    (c.take_out.ensures.parts (g.S.Stake.origin c.args.inode.now.stake) h can.each) c.in-Err-attach.ensures.back))

pub returns-in-Err-attach-clause-count : goal.returns-in-Err-attach-clause-count
returns-in-Err-attach-clause-count g c =
    omega (
      arith,
      ap length (c.put_back.ensures.names ∙ c.take_out.ensures.names),
      length-map c.put_back.new.cuts.items
          (λ x. x.0),
      length-map c.args.cuts.now.items (λ x. x.0),
    )

pub returns-in-Err-clause-front : goal.returns-in-Err-clause-front
returns-in-Err-clause-front g c = record {
  stake = record {
    away = c.need.ensures.stake.away;
    as_forced = c.need.ensures.stake.as_forced;
    home = c.need.ensures.stake.home;
    no_less =
        c.need.ensures.cause.no_less;
  };
  before = λ b l low is. ap (λ q. q b l) c.need.ensures.stake.lines;
}

pub returns-in-Ok-attach-clause-front : goal.returns-in-Ok-attach-clause-front
returns-in-Ok-attach-clause-front g c = record {
  stake = record {
    away = c.attach.ensures.lends;
    as_forced = none-forced c.take_out.new.names.items c.take_out.new.parts.items
        (c.take_out.ensures.parts (g.S.Stake.origin c.args.inode.now.stake) c.requires.cuts.0 c.requires.cuts.1.each)
        c.in-Ok-attach.ensures.forced ∙ c.need.ensures.stake.as_forced;
    home = c.attach.ensures.origin ∙ c.need.ensures.stake.home;
    no_less = omega (arith, c.attach.ensures.faults, c.need.ensures.cause.no_less);
  };
  before = attached-before c.requires.stands.1.tree c.requires.stands.1.data_blocks
      (attaches-since c.need.ensures.stake.home c.need.ensures.stake.lines c.as_slice.ensures.value c.in-Ok-attach.ensures.ok);
}

pub returns-in-Err-attach-clause-front : goal.returns-in-Err-attach-clause-front
returns-in-Err-attach-clause-front g c = record {
  stake = record {
    away = c.attach.ensures.lends;
    as_forced = c.in-Err-attach.ensures.unforced ∙ c.need.ensures.stake.as_forced;
    home = c.attach.ensures.origin ∙ c.need.ensures.stake.home;
    no_less = omega (arith, c.attach.ensures.faults, c.need.ensures.cause.no_less);
  };
  before = λ b l low is. ap (λ q. q b l) (c.in-Err-attach.ensures.held ∙ c.need.ensures.stake.lines);
}

pub returns-in-Err-clause-only : goal.returns-in-Err-clause-only
returns-in-Err-clause-only g c = λ n was. only-same c.need.ensures.stake.lines refl was

pub returns-in-Ok-attach-clause-only : goal.returns-in-Ok-attach-clause-only
returns-in-Ok-attach-clause-only g c = λ n was.
    only-grown c.take_out.new.names.items c.take_out.new.parts.items n c.requires.stands.1.tree
    (attaches-since c.need.ensures.stake.home c.need.ensures.stake.lines c.as_slice.ensures.value c.in-Ok-attach.ensures.ok)
    (c.take_out.ensures.parts (g.S.Stake.origin c.args.inode.now.stake) c.requires.cuts.0 c.requires.cuts.1.each) was

pub returns-in-Err-attach-clause-only : goal.returns-in-Err-attach-clause-only
returns-in-Err-attach-clause-only g c = λ n was.
    only-same (c.in-Err-attach.ensures.held ∙ c.need.ensures.stake.lines) c.in-Err-attach.ensures.addresses was
