-- A buffer whose bytes are still to be written, while its holder has them out.
use Rattle.std.specs.Prelude.{◌<◌, ◌*◌, ⊤, ℕ, true, None, IsSome, slice_set}
use Rattle.sv_cache.specs.declared.scenario.Release.{Release}
use Rattle.sv_cache.specs.declared.scenario.Release.TheVariants.{Valid, Old, Invalid, Delayed, FailedWrite}
use Rattle.sv_cache.specs.Cache.{Cache, buffer_at}
use Rattle.sv_buf.specs.View.{View, held_of}

-- the bytes of buffer k are its block's and still to be written; they are out
abbrev pub delayed_at : {D : Type 0} → Cache D → ℕ → Cache D
delayed_at c k = record c { buffers = slice_set c.buffers k (record (buffer_at c k) { valid = true; delayed = true; bytes = None }) }

-- all lines of block b are held
pub record NotesBlock (v : View) (b : ℕ) : Type 0 where
  pub at : (l : ℕ) → l * 64 < v.opening.sizes.block_size → IsSome (held_of v.lines b l)

-- a release after which the bytes of a buffer are its block's, and nothing is to be written
abbrev pub IsClean : Release → Type 0
IsClean Valid = ⊤
IsClean Old = ⊤
IsClean Invalid = ⊥
IsClean Delayed = ⊥
IsClean FailedWrite = ⊥
