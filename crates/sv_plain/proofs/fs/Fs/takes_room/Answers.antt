use Rattle.std.proofs.Common.{ℕ, ap, nat_le, ◌==◌, ◌&&◌, ◌∙◌}
use Rattle.sv_plain.specs.Needs.{need_of}
use Rattle.sv_plain.proofs.RoomNeeds.{takes, takes_not}
use Rattle.sv_plain.proofs.fs.Fs.takes_room.Goals as goal

pub returns-in-Some : goal.returns-in-Some
returns-in-Some c = takes _ (need_of c.args.self.now c.args.need.now) _ c.args.blocks c.in-Some.ensures
    ∙ ap (λ (r : ℕ). nat_le (need_of c.args.self.now c.args.need.now) r && (c.args.blocks == need_of c.args.self.now c.args.need.now)) c.room.ensures

pub returns-in-None : goal.returns-in-None
returns-in-None c = takes_not _ (need_of c.args.self.now c.args.need.now) c.args.blocks c.in-None.ensures
    ∙ ap (λ (r : ℕ). nat_le (need_of c.args.self.now c.args.need.now) r && (c.args.blocks == need_of c.args.self.now c.args.need.now)) c.room.ensures
