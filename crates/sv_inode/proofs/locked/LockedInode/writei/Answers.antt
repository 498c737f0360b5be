-- All that is needed is taken first; what was not used is free again.
use Rattle.std.proofs.Common.{is_some, Err, length, take, ap, arith, refl, sym, ◌∙◌}
use Rattle.std.proofs.lemmas.Bool.{eqb-true}
use Rattle.std.proofs.lemmas.List.{length-map, length-take}
use Rattle.sv_inode.specs.Truncate.{CanFreeAll}
use Rattle.sv_inode.specs.Write.{TakesBlocks, done_by, write_need}
use Rattle.sv_inode.proofs.OwnLines.{only-moved, only-same}
use Rattle.sv_inode.proofs.PutBack.{can-use, need-same, no-need, room-kept, room-unused, room-used, node-same, node-since, none-done}
use Rattle.sv_inode.proofs.PutBack.{others-kept, stands-all, takes-apart, takes-blocks, takes-inode, takes-left, takes-none, takes-since}
use Rattle.sv_inode.proofs.PutBack.{takes-together}
use Rattle.sv_inode.proofs.TakenFirst.{can-return}
use Rattle.sv_inode.proofs.locked.LockedInode.writei.Goals as goal

pub returns-then-is_empty-clause-node : goal.returns-then-is_empty-clause-node
returns-then-is_empty-clause-node g c = λ node stands. node-same _ c.args.at (take (length c.args.from.now) c.args.from.now)
    (length-take (length c.args.from.now) c.args.from.now
    ∙ omega (arith, eqb-true (length c.args.from.now) 0 (sym c.is_empty.ensures ∙ c.if-is_empty.true))) stands

pub put_bytes-requires-clause-stands : goal.put_bytes-requires-clause-stands
put_bytes-requires-clause-stands g c κs within =
    (c.requires.stands.0, stands-all c.prepare.ensures.stake.home c.prepare.ensures.held c.prepare.ensures.body c.requires.stands.1)

pub put_bytes-requires-clause-cuts : goal.put_bytes-requires-clause-cuts
put_bytes-requires-clause-cuts g c κs within = (
  g.S.Stake.held c.args.core.now.stake,
  (
    can-use (c.prepare.ensures.stake.home ∙ sym c.requires.origin) c.prepare.ensures.held c.in-Ok.ensures.supplies.from
        c.in-Ok.ensures.supplies.are c.requires.apart,
    can-return c.prepare.ensures.core.home c.in-Ok.ensures.supplies.from c.in-Ok.ensures.supplies.are,
  ),
)

pub returns-in-Ok-clause-node : goal.returns-in-Ok-clause-node
returns-in-Ok-clause-node g c = λ node stands. node-since node c.args.at
    (take (done_by (length c.args.from.now) c.put_bytes.result) c.args.from.now) c.prepare.ensures.stake.home
    (c.put_bytes.ensures.node node (stands-all c.prepare.ensures.stake.home c.prepare.ensures.held c.prepare.ensures.body stands))

pub returns-in-Err-clause-node : goal.returns-in-Err-clause-node
returns-in-Err-clause-node g c = λ node stands. node-same _ c.args.at _
    (length-take (done_by {T = Unit {0}} (length c.args.from.now) (Err c.at_once.result)) c.args.from.now
    ∙ omega (arith, none-done (Unit {0}) (length c.args.from.now) c.in-Err.refusal c.at_once.ensures))
    (stands-all c.prepare.ensures.stake.home c.prepare.ensures.held c.prepare.ensures.body stands)

pub returns-then-is_empty-clause-moves : goal.returns-then-is_empty-clause-moves
returns-then-is_empty-clause-moves g c = record {
  takes = takes-none (no-need _ _ _ c.args.at (length c.args.from.now)
      (eqb-true (length c.args.from.now) 0 (sym c.is_empty.ensures ∙ c.if-is_empty.true))) (λ b. refl) (record { at = λ b l. refl }) refl;
  left = omega (
    arith,
    no-need (g.S.Stake.origin c.args.self.now.stake).sizes
        (g.S.Stake.held c.args.self.now.stake) c.args.self.now.body.addresses c.args.at (length c.args.from.now)
        (eqb-true (length c.args.from.now) 0 (sym c.is_empty.ensures ∙ c.if-is_empty.true)),
  );
  together = record { at = λ b l. refl };
  others = λ b l gone. refl;
}

pub returns-then-is_empty-clause-spare : goal.returns-then-is_empty-clause-spare
returns-then-is_empty-clause-spare g c =
    room-kept (no-need (g.S.Stake.origin c.args.self.now.stake).sizes (g.S.Stake.held c.args.self.now.stake) c.args.self.now.body.addresses
    c.args.at
    (length c.args.from.now) (eqb-true (length c.args.from.now) 0 (sym c.is_empty.ensures ∙ c.if-is_empty.true)))
    (no-need (g.S.Stake.origin c.args.self.now.stake).sizes (g.S.Stake.held c.args.self.now.stake) c.args.self.now.body.addresses c.args.at
    (length c.args.from.now) (eqb-true (length c.args.from.now) 0 (sym c.is_empty.ensures ∙ c.if-is_empty.true)))

pub returns-then-is_empty-clause-front : goal.returns-then-is_empty-clause-front
returns-then-is_empty-clause-front g c = record {
  stake = record { away = c.requires.lent; as_forced = refl; home = refl; no_less = omega arith };
  before = λ b l low is. refl;
}

pub returns-in-Ok-clause-moves : goal.returns-in-Ok-clause-moves
returns-in-Ok-clause-moves g c = record {
  takes = takes;
  left = omega (
    arith,
    need-same c.args.at (done_by (length c.args.from.now) c.put_bytes.result) c.prepare.ensures.stake.home c.prepare.ensures.held
        (ap (λ q. q.addresses) c.prepare.ensures.body),
    takes-left c.args.core.now (c.put_bytes.ensures.back (g.S.Stake.held c.args.core.now.stake)
        (can-use (c.prepare.ensures.stake.home ∙ sym c.requires.origin) c.prepare.ensures.held c.in-Ok.ensures.supplies.from
        c.in-Ok.ensures.supplies.are c.requires.apart)
        (can-return c.prepare.ensures.core.home c.in-Ok.ensures.supplies.from c.in-Ok.ensures.supplies.are))
        (omega (arith, c.in-Ok.ensures.supplies.left, length-map c.in-Ok.supplies.cuts.items (λ x. x.0))),
  );
  together = takes-together takes;
  others = others-kept c.args.core.now (c.put_bytes.ensures.back (g.S.Stake.held c.args.core.now.stake)
      (can-use (c.prepare.ensures.stake.home ∙ sym c.requires.origin) c.prepare.ensures.held c.in-Ok.ensures.supplies.from
      c.in-Ok.ensures.supplies.are c.requires.apart)
      (can-return c.prepare.ensures.core.home c.in-Ok.ensures.supplies.from c.in-Ok.ensures.supplies.are))
      c.in-Ok.ensures.supplies.from.left c.in-Ok.ensures.supplies.taken;
}
  where
    mine : CanFreeAll g.S.Stake.held g.S.Stake.lent g.S.Stake.origin g.S.Stake.forced (g.S.Stake.origin c.prepare.new.inode.stake)
        (g.S.Stake.held c.args.core.now.stake) (g.S.Stake.held c.prepare.new.inode.stake) c.in-Ok.supplies.cuts.items
    mine = can-use (c.prepare.ensures.stake.home ∙ sym c.requires.origin) c.prepare.ensures.held c.in-Ok.ensures.supplies.from
        c.in-Ok.ensures.supplies.are c.requires.apart

    theirs : CanFreeAll g.S.Stake.held g.S.Stake.lent g.S.Stake.origin g.S.Stake.forced (g.S.Stake.origin c.prepare.new.core.stake)
        (g.S.Stake.held c.args.core.now.stake) (g.S.Stake.held c.prepare.new.core.stake) c.in-Ok.supplies.cuts.items
    theirs = can-return c.prepare.ensures.core.home c.in-Ok.ensures.supplies.from c.in-Ok.ensures.supplies.are

    takes : TakesBlocks g.S.Stake.held (write_need (g.S.Stake.origin c.args.self.now.stake).sizes (g.S.Stake.held c.args.self.now.stake)
        c.args.self.now.body.addresses c.args.at (done_by (length c.args.from.now) c.put_bytes.result)) c.args.core.now c.put_bytes.new.core
        (g.S.Stake.held c.args.self.now.stake) (g.S.Stake.held c.put_bytes.new.inode.stake)
    takes =
        takes-since (need-same c.args.at (done_by (length c.args.from.now) c.put_bytes.result) c.prepare.ensures.stake.home
        c.prepare.ensures.held (ap (λ q. q.addresses) c.prepare.ensures.body)) c.prepare.ensures.held
        (takes-blocks (c.put_bytes.ensures.back (g.S.Stake.held c.args.core.now.stake) mine theirs) c.in-Ok.ensures.supplies.from.left
        c.in-Ok.ensures.supplies.taken c.in-Ok.ensures.supplies.are.once mine.apart)

pub returns-in-Ok-clause-apart : goal.returns-in-Ok-clause-apart
returns-in-Ok-clause-apart g c = takes-apart (returns-in-Ok-clause-moves g c).takes c.requires.apart

pub returns-in-Ok-clause-inode : goal.returns-in-Ok-clause-inode
returns-in-Ok-clause-inode g c = λ inode. takes-inode c.args.self.now.number _ (returns-in-Ok-clause-moves g c).takes
    (c.put_bytes.ensures.front.stake.home ∙ c.prepare.ensures.stake.home) (c.put_bytes.ensures.number ∙ c.prepare.ensures.number) inode

pub returns-in-Ok-clause-front : goal.returns-in-Ok-clause-front
returns-in-Ok-clause-front g c = record {
  stake = record {
    away = c.put_bytes.ensures.front.stake.away;
    as_forced = c.put_bytes.ensures.front.stake.as_forced ∙ c.prepare.ensures.stake.as_forced;
    home = c.put_bytes.ensures.front.stake.home ∙ c.prepare.ensures.stake.home;
    no_less = omega (arith, c.put_bytes.ensures.front.stake.no_less, c.prepare.ensures.stake.no_less);
  };
  before = λ b l low is.
      c.put_bytes.ensures.front.before b l (omega (arith, low, ap (λ q. q.sizes.first_data) c.prepare.ensures.stake.home))
      (ap (λ q. is_some (q b l)) c.prepare.ensures.held ∙ is) ∙ ap (λ q. q b l) c.prepare.ensures.held;
}

pub returns-in-Ok-clause-core : goal.returns-in-Ok-clause-core
returns-in-Ok-clause-core g c = record {
  inodes = c.put_bytes.ensures.core.inodes ∙ c.prepare.ensures.core.inodes;
  head = c.put_bytes.ensures.core.head ∙ c.prepare.ensures.core.head;
  away = c.put_bytes.ensures.core.away;
  as_forced = c.put_bytes.ensures.core.as_forced ∙ c.prepare.ensures.core.as_forced;
  home = c.put_bytes.ensures.core.home ∙ c.prepare.ensures.core.home;
  no_less = omega (arith, c.put_bytes.ensures.core.no_less, c.prepare.ensures.core.no_less);
}

pub returns-in-Ok-clause-only : goal.returns-in-Ok-clause-only
returns-in-Ok-clause-only g c = λ n was.
    only-moved c.prepare.ensures.stake.home (c.put_bytes.ensures.only n)
    (only-same c.prepare.ensures.held (ap (λ q. q.addresses) c.prepare.ensures.body) was)

pub returns-in-Ok-clause-spare : goal.returns-in-Ok-clause-spare
returns-in-Ok-clause-spare g c = room-used
    (c.in-Ok.ensures.spare)
    (need-same c.args.at (length c.args.from.now) c.prepare.ensures.stake.home c.prepare.ensures.held
    (ap (λ q. q.addresses) c.prepare.ensures.body))
    (need-same c.args.at (done_by (length c.args.from.now) c.put_bytes.result) c.prepare.ensures.stake.home c.prepare.ensures.held
    (ap (λ q. q.addresses) c.prepare.ensures.body))
    c.put_bytes.ensures.spare

pub returns-in-Err-clause-moves : goal.returns-in-Err-clause-moves
returns-in-Err-clause-moves g c = record {
  takes = takes;
  left = omega (
    arith,
    c.in-Err.ensures.left_kept,
    no-need (g.S.Stake.origin c.args.self.now.stake).sizes
        (g.S.Stake.held c.args.self.now.stake) c.args.self.now.body.addresses c.args.at
        (done_by {T = Unit {0}} (length c.args.from.now) (Err c.at_once.result))
        (none-done (Unit {0}) (length c.args.from.now) c.in-Err.refusal c.at_once.ensures),
  );
  together = takes-together takes;
  others = c.in-Err.ensures.back.others;
}
  where
    takes : TakesBlocks g.S.Stake.held (write_need (g.S.Stake.origin c.args.self.now.stake).sizes (g.S.Stake.held c.args.self.now.stake)
        c.args.self.now.body.addresses c.args.at (done_by {T = Unit {0}} (length c.args.from.now) (Err c.at_once.result))) c.args.core.now
        c.prepare.new.core (g.S.Stake.held c.args.self.now.stake) (g.S.Stake.held c.prepare.new.inode.stake)
    takes = takes-none (no-need _ _ _ c.args.at _ (none-done (Unit {0}) (length c.args.from.now) c.in-Err.refusal c.at_once.ensures))
        c.in-Err.ensures.back.each c.in-Err.ensures.back.lines c.prepare.ensures.held

pub returns-in-Err-clause-apart : goal.returns-in-Err-clause-apart
returns-in-Err-clause-apart g c = takes-apart (returns-in-Err-clause-moves g c).takes c.requires.apart

pub returns-in-Err-clause-front : goal.returns-in-Err-clause-front
returns-in-Err-clause-front g c = record {
  stake = c.prepare.ensures.stake;
  before = λ b l low is. ap (λ q. q b l) c.prepare.ensures.held;
}

pub returns-in-Err-clause-only : goal.returns-in-Err-clause-only
returns-in-Err-clause-only g c = λ n was. only-same c.prepare.ensures.held (ap (λ q. q.addresses) c.prepare.ensures.body) was

pub returns-in-Err-clause-spare : goal.returns-in-Err-clause-spare
returns-in-Err-clause-spare g c = room-unused c.in-Err.ensures.spare_kept
    (no-need (g.S.Stake.origin c.args.self.now.stake).sizes (g.S.Stake.held c.args.self.now.stake) c.args.self.now.body.addresses c.args.at
    (done_by {T = Unit {0}} (length c.args.from.now) (Err c.at_once.result))
    (none-done (Unit {0}) (length c.args.from.now) c.in-Err.refusal c.at_once.ensures))
