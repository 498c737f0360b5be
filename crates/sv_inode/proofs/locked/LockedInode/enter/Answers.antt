-- The entry is put at the place that was found, and nothing is taken where none could be looked for.
use Rattle.std.proofs.Common.{◌*◌, ap, arith, is_some, refl, ◌∙◌}
use Rattle.sv_inode.specs.Enter.{entered_by, entry_place}
use Rattle.sv_inode.proofs.Entered.{entry-need, moves-none, moves-since, node-entered, room-none, room-since}
use Rattle.sv_inode.proofs.OwnLines.{only-moved, only-same}
use Rattle.sv_inode.proofs.PiecePut.{stands-since}
use Rattle.sv_inode.proofs.PutBack.{no-need}
use Rattle.sv_inode.proofs.locked.LockedInode.enter.Goals as goal

pub put_entry-requires-clause-stands : goal.put_entry-requires-clause-stands
put_entry-requires-clause-stands g c κs within =
    (c.requires.fits.node, stands-since c.find_place.ensures.stake.home c.find_place.ensures.stake.lines c.requires.fits.stands)

pub returns-in-Ok-clause-node : goal.returns-in-Ok-clause-node
returns-in-Ok-clause-node g c = λ node stands. node-entered c.put_entry.result node c.in-Ok.place c.args.inode c.spell.new.into
    c.args.name.now c.find_place.ensures.stake.home (c.in-Ok.ensures.place node stands) c.spell.ensures
    (c.put_entry.ensures.node node (stands-since c.find_place.ensures.stake.home c.find_place.ensures.stake.lines stands))

pub returns-in-Ok-clause-moves : goal.returns-in-Ok-clause-moves
returns-in-Ok-clause-moves g c = λ node stands. moves-since
    (entry-need c.args.self.now.body.addresses node c.in-Ok.place (entered_by c.put_entry.result) c.find_place.ensures.stake.home
    c.find_place.ensures.stake.lines (c.in-Ok.ensures.place node stands)) c.find_place.ensures.stake.lines c.put_entry.ensures.moves

pub returns-in-Ok-clause-only : goal.returns-in-Ok-clause-only
returns-in-Ok-clause-only g c = λ n was. only-moved c.find_place.ensures.stake.home (c.put_entry.ensures.only n)
    (only-same c.find_place.ensures.stake.lines refl was)

pub returns-in-Ok-clause-spare : goal.returns-in-Ok-clause-spare
returns-in-Ok-clause-spare g c = λ node stands. room-since
    (entry-need c.args.self.now.body.addresses node c.in-Ok.place 16 c.find_place.ensures.stake.home
    c.find_place.ensures.stake.lines (c.in-Ok.ensures.place node stands))
    (entry-need c.args.self.now.body.addresses node c.in-Ok.place (entered_by c.put_entry.result) c.find_place.ensures.stake.home
    c.find_place.ensures.stake.lines (c.in-Ok.ensures.place node stands)) c.put_entry.ensures.spare

pub returns-in-Ok-clause-front : goal.returns-in-Ok-clause-front
returns-in-Ok-clause-front g c = record {
  stake = record {
    away = c.put_entry.ensures.front.stake.away;
    as_forced = c.put_entry.ensures.front.stake.as_forced ∙ c.find_place.ensures.stake.as_forced;
    home = c.put_entry.ensures.front.stake.home ∙ c.find_place.ensures.stake.home;
    no_less = omega (arith, c.put_entry.ensures.front.stake.no_less, c.find_place.ensures.cause.no_less);
  };
  before = λ b l low is.
      c.put_entry.ensures.front.before b l (omega (arith, low, ap (λ q. q.sizes.first_data) c.find_place.ensures.stake.home))
      (ap (λ q. is_some (q b l)) c.find_place.ensures.stake.lines ∙ is) ∙ ap (λ q. q b l) c.find_place.ensures.stake.lines;
}

pub returns-in-Err-clause-moves : goal.returns-in-Err-clause-moves
returns-in-Err-clause-moves g c = λ node stands. moves-none c.args.core.now
    (no-need (g.S.Stake.origin c.args.self.now.stake).sizes (g.S.Stake.held c.args.self.now.stake) c.args.self.now.body.addresses
    (16 * entry_place (g.S.Stake.origin c.args.self.now.stake).sizes.block_size node) 0 refl) c.find_place.ensures.stake.lines

pub returns-in-Err-clause-spare : goal.returns-in-Err-clause-spare
returns-in-Err-clause-spare g c = λ node stands. room-none
    (no-need (g.S.Stake.origin c.args.self.now.stake).sizes (g.S.Stake.held c.args.self.now.stake) c.args.self.now.body.addresses
    (16 * entry_place (g.S.Stake.origin c.args.self.now.stake).sizes.block_size node) 0 refl)
