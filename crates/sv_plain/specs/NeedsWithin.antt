-- Needs that there is room for.
use Rattle.std.specs.Prelude.{ℕ, Option, Some, None, nat_le, if◌then◌else◌}

-- a need that is at most `most`
abbrev pub within : ℕ → ℕ → Option ℕ
within most need = if nat_le need most then Some need else None
