-- A write of an entry that is refused has put none of its bytes, and has taken no block.
use Rattle.std.proofs.Common.{◌≡◌, ◌*◌, Err, length, take, ap, arith, refl, sym, ◌∙◌}
use Rattle.std.proofs.lemmas.List.{length-take}
use Rattle.sv_inode.specs.Write.{done_by, write_need}
use Rattle.sv_inode.proofs.Entered.{moves-since, room-since, stopped-none, unput}
use Rattle.sv_inode.proofs.enter.put_entry.Goals as goal

none : (g : _) (c : goal.After-refusal_of g) → done_by {T = Unit {0}} (length c.args.bytes.now) (Err c.in-Err.stop) ≡ 0
none g c = stopped-none (Unit {0}) _ (g.S.Stake.origin c.args.inode.now.stake).sizes.block_size c.args.place (length c.args.bytes.now)
    c.in-Err.stop (ap (λ q. q.block_size) (sym c.geometry-sizes.ensures.value) ∙ c.geometry-sizes.ensures.sizes.block_size)
    c.requires.bytes c.in-Err.ensures.stop

pub returns-in-Err-clause-node : goal.returns-in-Err-clause-node
returns-in-Err-clause-node g c = λ node stands. unput (g.S.Stake.origin c.args.inode.now.stake).sizes.block_size (16 * c.args.place)
    (take (done_by {T = Unit {0}} (length c.args.bytes.now) (Err c.in-Err.stop)) c.args.bytes.now)
    (length-take (done_by {T = Unit {0}} (length c.args.bytes.now) (Err c.in-Err.stop)) c.args.bytes.now ∙ omega (arith, none g c))
    (c.in-Err.ensures.node node stands)

pub returns-in-Err-clause-moves : goal.returns-in-Err-clause-moves
returns-in-Err-clause-moves g c = moves-since
    (ap (write_need (g.S.Stake.origin c.args.inode.now.stake).sizes (g.S.Stake.held c.args.inode.now.stake)
    c.args.inode.now.body.addresses (16 * c.args.place)) (none g c)) refl c.in-Err.ensures.moves

pub returns-in-Err-clause-spare : goal.returns-in-Err-clause-spare
returns-in-Err-clause-spare g c = room-since
    (ap (write_need (g.S.Stake.origin c.args.inode.now.stake).sizes (g.S.Stake.held c.args.inode.now.stake)
    c.args.inode.now.body.addresses (16 * c.args.place)) c.requires.bytes)
    (ap (write_need (g.S.Stake.origin c.args.inode.now.stake).sizes (g.S.Stake.held c.args.inode.now.stake)
    c.args.inode.now.body.addresses (16 * c.args.place)) (none g c)) c.in-Err.ensures.spare
