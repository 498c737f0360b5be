use Rattle.std.proofs.Common.{◌∙◌, ◌/◌, ◌*◌, ◌+◌, length, sym, ap, refl, arith}
use Rattle.std.specs.List.{slice_range}
use Rattle.sv_check.specs.Standings.{after, standing_of}
use Rattle.sv_check.proofs.StandingSteps.{piece_below, piece_told, told-none}
use Rattle.sv_check.proofs.sound.standings.Standings.tell_entries.Goals as goal

pub loop-k-init : goal.loop-k-init
loop-k-init c = record { told = ap (after (standing_of c.args.self.now)) (sym (told-none c.args.directory c.args.first)); len = refl }

pub tell-requires-clause-inode : goal.tell-requires-clause-inode
tell-requires-clause-inode c =
    let below = piece_below (length c.args.self.now.of.items) c.loop-k.k (length c.args.bytes.now / 16) c.args.bytes.now c.requires.inodes c.loop-k-test.true in
    omega (arith, below, c.loop-k.invariant.len)

pub loop-k-preserved : goal.loop-k-preserved
loop-k-preserved c = record {
  told = piece_told (standing_of c.args.self.now) (standing_of c.loop-k.self) (standing_of c.tell.new.self) c.args.directory c.args.first c.loop-k.k c.args.bytes.now
      (slice_range c.args.bytes.now (16 * c.loop-k.k) (16 * c.loop-k.k + 16)) refl c.loop-k.invariant.told c.tell.ensures.told;
  len = c.tell.ensures.len ∙ c.loop-k.invariant.len;
}
