-- What holds of the steps themselves.
use Rattle.std.specs.Prelude.{ℕ}
use Rattle.sv_form.specs.Name.{IsName}
use Rattle.sv_plain.specs.declared.history.op.Op.{Op}
use Rattle.sv_plain.specs.declared.history.op.Op.TheVariants.{Create, Enter}
use Rattle.sv_plain.specs.declared.history.reply.Reply.{Reply}
use Rattle.sv_plain.specs.Fs.{Fs}
use Rattle.sv_plain.specs.Whole.{IsWhole}
use Rattle.sv_plain.specs.Step.{Step}

-- what is entered into a directory is a name: 1 to 14 bytes, none of them a slash or zero
abbrev pub EntersName : Op → Type 0
EntersName (Create dir name kind mode) = IsName name
EntersName (Enter dir name ino) = IsName name
EntersName _ = Unit {0}

-- every step of this op leaves a whole file system whole
abbrev pub KeepsWhole : Op → Type 0
KeepsWhole op = (fs after : Fs) (p : ℕ) (reply : Reply) → IsWhole fs → Step fs p op reply after → IsWhole after
