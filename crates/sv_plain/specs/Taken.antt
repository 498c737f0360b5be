-- How a step is taken or refused.
use Rattle.std.specs.Prelude.{◌≡◌, ℕ, true, false}
use Rattle.sv_plain.specs.declared.history.op.Op.{Op}
use Rattle.sv_plain.specs.declared.history.reply.Reply.{Reply}
use Rattle.sv_plain.specs.declared.history.illegal.Illegal.{Illegal}
use Rattle.sv_plain.specs.declared.history.illegal.Illegal.TheVariants as illegal
use Rattle.sv_plain.specs.Fs.{Fs}
use Rattle.sv_plain.specs.Step.{condition, replies, change_of}

-- the op may be asked, the reply is one of its replies, and the state is what it leaves: of a purge that came late, the one
-- in which no node goes
pub record IsTaken (fs : Fs) (p : ℕ) (op : Op) (reply : Reply) (after : Fs) : Type 0 where
  pub allowed : condition fs p op ≡ true
  pub right : replies fs p op reply ≡ true
  pub changed : after ≡ change_of fs p op reply

-- why it is refused: each cause where it holds, and no other. Want of memory refuses only what would be taken
abbrev pub IsRefused : Fs → ℕ → Op → Reply → Illegal → Type 0
IsRefused fs p op reply illegal.Condition = condition fs p op ≡ false
IsRefused fs p op reply illegal.Reply = (condition fs p op ≡ true) × (replies fs p op reply ≡ false)
IsRefused fs p op reply illegal.NoMemory = (condition fs p op ≡ true) × (replies fs p op reply ≡ true)
