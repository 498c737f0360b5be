-- A page that is present is written in place; a hole becomes a page of zeros with the piece in it.
use Rattle.std.proofs.Common.{arith, ◌∷◌, ◌++◌, drop, length, length-append, ◌≡◌, ◌≤◌, [], is_some, vec_capacity, ap, sym, ◌∙◌, subst, refl}
use Rattle.std.proofs.lemmas.List.{length-drop, length-take}
use Rattle.std.proofs.lemmas.Result.{IfOk-weaker}
use Rattle.sv_form.specs.Geometry.{IsGeometry}
use Rattle.sv_form.specs.declared.geometry.Geometry.{Geometry}
use Rattle.sv_inode.specs.Write.{patched}
use Rattle.sv_inode.proofs.OwnLines.{on-either, only-moved, only-same, only-written}
use Rattle.sv_inode.proofs.PageMade.{uses-none}
use Rattle.sv_inode.proofs.PiecePut.{all-of-front, all-of-last, need-put, need-since, piece-present, some-held, stands-since}
use Rattle.sv_inode.proofs.WrittenTree.{page-in-data}
use Rattle.sv_inode.proofs.fill.write_page.Goals as goal

pub overwrite-requires-clause-block : goal.overwrite-requires-clause-block
overwrite-requires-clause-block g c κs within =
    some-held c.args.inode.now.body.addresses c.args.page c.in-Some.b
    (let P : Geometry → Type 0 = IsGeometry in subst P c.geometry-sizes.ensures.value c.geometry-sizes.ensures.sizes)
    c.requires.piece.is_page c.requires.stands.1.tree (sym c.in_ok-block.ensures.block ∙ c.in-Some.is) c.lookup.ensures.stake.home
    c.lookup.ensures.stake.lines

pub add_page-requires-clause-stands : goal.add_page-requires-clause-stands
add_page-requires-clause-stands g c κs within =
    (c.requires.stands.0, stands-since c.lookup.ensures.stake.home c.lookup.ensures.stake.lines c.requires.stands.1)

pub add_page-requires-clause-room : goal.add_page-requires-clause-room
add_page-requires-clause-room g c κs within = record {
  empty = all-of-last (λ room. room.items ≡ []) c.args.supplies.now.rooms.items c.pop.new.self.items c.in-Some-pop.room
      c.in-Some-pop.ensures.items c.requires.rooms.empty;
  roomy = all-of-last (λ room. 4 ≤ vec_capacity room) c.args.supplies.now.rooms.items c.pop.new.self.items c.in-Some-pop.room
      c.in-Some-pop.ensures.items c.requires.rooms.roomy;
}

pub returns-in-Some-clause-node : goal.returns-in-Some-clause-node
returns-in-Some-clause-node g c = λ node stands.
    IfOk-weaker c.overwrite.result _ _ (λ _ got.
    piece-present c.args.page c.args.from c.args.piece.now
    (let P : Geometry → Type 0 = IsGeometry in subst P c.geometry-sizes.ensures.value c.geometry-sizes.ensures.sizes)
    c.requires.piece.is_page c.requires.piece.fits stands (sym c.in_ok-block.ensures.block ∙ c.in-Some.is) c.lookup.ensures.stake.home
    c.lookup.ensures.stake.lines c.overwrite.ensures.origin got.1.0 got.1.1) c.overwrite.ensures.ok

pub returns-in-Some-clause-cuts : goal.returns-in-Some-clause-cuts
returns-in-Some-clause-cuts g c = λ h can.
    uses-none c.args.supplies.now.cuts.items c.args.supplies.now.cuts.items can
    (record { at = λ b l. c.overwrite.ensures.lines.at b l ∙ ap (λ q. is_some (q b l)) c.lookup.ensures.stake.lines }) refl can.each

pub returns-in-Some-clause-need : goal.returns-in-Some-clause-need
returns-in-Some-clause-need g c =
    IfOk-weaker c.overwrite.result _ _ (λ _ got.
    need-put c.args.inode.now.body.addresses c.args.page c.in-Some.b _ (patched got.0.bytes c.args.from c.args.piece.now)
    (let P : Geometry → Type 0 = IsGeometry in subst P c.geometry-sizes.ensures.value c.geometry-sizes.ensures.sizes)
    c.requires.stands.1.tree (sym c.in_ok-block.ensures.block ∙ c.in-Some.is) c.lookup.ensures.stake.lines got.1.1) c.overwrite.ensures.ok

pub returns-in-Some-pop-clause-need : goal.returns-in-Some-pop-clause-need
returns-in-Some-pop-clause-need g c =
    need-since (g.S.Stake.held c.add_page.new.inode.stake) c.args.inode.now.body.addresses c.add_page.new.inode.body.addresses c.args.page
    _ _ c.add_page.result c.lookup.ensures.stake.home c.lookup.ensures.stake.lines c.add_page.ensures.need

pub returns-in-Some-clause-rooms : goal.returns-in-Some-clause-rooms
returns-in-Some-clause-rooms g c = record {
  enough = omega arith;
  empty = c.requires.rooms.empty;
  roomy = c.requires.rooms.roomy;
  size = c.requires.rooms.size;
}

pub returns-in-Some-pop-clause-rooms : goal.returns-in-Some-pop-clause-rooms
returns-in-Some-pop-clause-rooms g c = record {
  enough = omega (arith, ap length c.in-Some-pop.ensures.items, length-append c.pop.new.self.items (c.in-Some-pop.room ∷ []));
  empty = all-of-front (λ room. room.items ≡ []) c.args.supplies.now.rooms.items c.pop.new.self.items c.in-Some-pop.room
      c.in-Some-pop.ensures.items c.requires.rooms.empty;
  roomy = all-of-front (λ room. 4 ≤ vec_capacity room) c.args.supplies.now.rooms.items c.pop.new.self.items c.in-Some-pop.room
      c.in-Some-pop.ensures.items c.requires.rooms.roomy;
  size = omega (
    arith,
    length-take c.args.supplies.now.page.len (c.lay_out.new.bytes ++ drop (length c.lay_out.new.bytes) c.args.supplies.now.page.items),
    length-append c.lay_out.new.bytes (drop (length c.lay_out.new.bytes) c.args.supplies.now.page.items),
    length-drop (length c.lay_out.new.bytes) c.args.supplies.now.page.items,
    c.args.supplies.now.page.ok.0,
    c.requires.rooms.size,
  );
}

pub returns-in-Some-clause-front : goal.returns-in-Some-clause-front
returns-in-Some-clause-front g c = record {
  stake = record {
    away = c.overwrite.ensures.lends;
    as_forced = c.overwrite.ensures.forced ∙ c.lookup.ensures.stake.as_forced;
    home = c.overwrite.ensures.origin ∙ c.lookup.ensures.stake.home;
    no_less = omega (arith, c.overwrite.ensures.cause.no_less, c.lookup.ensures.cause.no_less);
  };
  before = λ b l low is.
      c.overwrite.ensures.others b l
      (λ same. absurd (omega (
        arith,
        same,
        low,
        (page-in-data c.args.page
            (let P : Geometry → Type 0 = IsGeometry in subst P c.geometry-sizes.ensures.value c.geometry-sizes.ensures.sizes)
            c.requires.piece.is_page c.requires.stands.1.data_blocks (sym c.in_ok-block.ensures.block ∙ c.in-Some.is)).least,
      )))
      ∙ ap (λ q. q b l) c.lookup.ensures.stake.lines;
}

pub returns-in-Some-pop-clause-front : goal.returns-in-Some-pop-clause-front
returns-in-Some-pop-clause-front g c = record {
  stake = record {
    away = c.add_page.ensures.front.stake.away;
    as_forced = c.add_page.ensures.front.stake.as_forced ∙ c.lookup.ensures.stake.as_forced;
    home = c.add_page.ensures.front.stake.home ∙ c.lookup.ensures.stake.home;
    no_less = omega (arith, c.add_page.ensures.front.stake.no_less, c.lookup.ensures.cause.no_less);
  };
  before = λ b l low is.
      c.add_page.ensures.front.before b l (omega (arith, low, ap (λ q. q.sizes.first_data) c.lookup.ensures.stake.home))
      (ap (λ q. is_some (q b l)) c.lookup.ensures.stake.lines ∙ is)
      ∙ ap (λ q. q b l) c.lookup.ensures.stake.lines;
}

pub returns-in-Some-clause-only : goal.returns-in-Some-clause-only
returns-in-Some-clause-only g c = λ n was.
    on-either c.overwrite.result
    (λ got. only-written c.args.page (patched got.0.bytes c.args.from c.args.piece.now) n
    (let P : Geometry → Type 0 = IsGeometry in subst P c.geometry-sizes.ensures.value c.geometry-sizes.ensures.sizes)
    c.requires.piece.is_page c.requires.stands.1.tree (sym c.in_ok-block.ensures.block ∙ c.in-Some.is) c.lookup.ensures.stake.lines got.1.1
    was)
    (λ same. only-same (same ∙ c.lookup.ensures.stake.lines) refl was) c.overwrite.ensures.ok c.overwrite.ensures.err

pub returns-in-Some-pop-clause-only : goal.returns-in-Some-pop-clause-only
returns-in-Some-pop-clause-only g c = λ n was.
    only-moved c.lookup.ensures.stake.home (λ q. c.add_page.ensures.only n (only-same c.lookup.ensures.stake.lines refl q)) was
