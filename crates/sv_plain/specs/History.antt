-- Histories: lists of steps, one after another.
use Rattle.std.specs.Prelude.{◌≡◌, ◌==◌, ℕ, true, List, [], ◌∷◌}
use Rattle.std.specs.List.{filter}
use Rattle.sv_plain.specs.declared.history.entry.Entry.{Entry}
use Rattle.sv_plain.specs.Fs.{Fs}
use Rattle.sv_plain.specs.Step.{Step, condition, replies, change_of}

-- the entries take a to b, one step an entry
abbrev pub Leads : List Entry → Fs → Fs → Type 0
Leads [] a b = b ≡ a
Leads (e ∷ h) a b = (c : Fs) × Step a e.process e.op e.reply c × Leads h c b

-- where the entries take a. A purge that came late is taken as one in which no node went
abbrev pub after : List Entry → Fs → Fs
after [] a = a
after (e ∷ h) a = after h (change_of a e.process e.op e.reply)

-- an entry may stand here
pub record IsAllowed (a : Fs) (e : Entry) : Type 0 where
  pub allowed : condition a e.process e.op ≡ true
  pub right : replies a e.process e.op e.reply ≡ true

-- each entry is a step from where the entries before it lead
abbrev pub IsLegal : List Entry → Fs → Type 0
IsLegal [] a = Unit {0}
IsLegal (e ∷ h) a = IsAllowed a e × IsLegal h (change_of a e.process e.op e.reply)

-- the entries of one process
abbrev pub own : List Entry → ℕ → List Entry
own h p = filter (λ e. e.process == p) h
