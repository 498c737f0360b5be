-- What holds of histories, one entry after another.
use Rattle.std.specs.Prelude.{◌≡◌, ◌==◌, ◌++◌, ℕ, List, [], ◌∷◌, if◌then◌else◌}
use Rattle.sv_plain.specs.declared.history.entry.Entry.{Entry}
use Rattle.sv_plain.specs.Fs.{Fs}
use Rattle.sv_plain.specs.History.{IsLegal, Leads, own}
use Rattle.sv_plain.specs.Step.{Step}

-- the sizes, and the numbers of data blocks, of inodes and of places, are the same
pub record HasSizesOf (a b : Fs) : Type 0 where
  pub block : b.block ≡ a.block
  pub greatest : b.greatest ≡ a.greatest
  pub data_blocks : b.data_blocks ≡ a.data_blocks
  pub inodes : b.inodes ≡ a.inodes
  pub places : b.places ≡ a.places

-- what leads somewhere is legal, also past a purge that came late
abbrev pub LeadsLegally : Type 0
LeadsLegally = (h : List Entry) (a b : Fs) → Leads h a b → IsLegal h a

abbrev pub LeadsKeepSizes : Type 0
LeadsKeepSizes = (h : List Entry) (a b : Fs) → Leads h a b → HasSizesOf a b

-- one entry more
abbrev pub LeadsFurther : Type 0
LeadsFurther = (h : List Entry) (e : Entry) (a b c : Fs) → Leads h a b → Step b e.process e.op e.reply c → Leads (h ++ e ∷ []) a c

-- it is its process's own, and no other process's
abbrev pub OwnsFurther : Type 0
OwnsFurther = (h : List Entry) (e : Entry) (p : ℕ) → own (h ++ e ∷ []) p ≡ (if e.process == p then own h p ++ e ∷ [] else own h p)
