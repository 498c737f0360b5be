use Rattle.std.proofs.Common.{ℕ, ap, nat_lt, ◌∙◌}
use Rattle.sv_plain.specs.Needs.{need_of}
use Rattle.sv_plain.proofs.RoomNeeds.{exceeds, exceeds_not}
use Rattle.sv_plain.proofs.fs.Fs.exceeds_room.Goals as goal

pub returns-in-Some : goal.returns-in-Some
returns-in-Some c = exceeds_not _ (need_of c.args.self.now c.args.need.now) _ c.in-Some.ensures ∙ ap (λ (r : ℕ). nat_lt r (need_of c.args.self.now c.args.need.now)) c.room.ensures

pub returns-in-None : goal.returns-in-None
returns-in-None c = exceeds _ (need_of c.args.self.now c.args.need.now) c.in-None.ensures ∙ ap (λ (r : ℕ). nat_lt r (need_of c.args.self.now c.args.need.now)) c.room.ensures
