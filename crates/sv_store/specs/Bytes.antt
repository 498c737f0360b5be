-- One byte of what is held.
use Rattle.std.specs.Prelude.{◌/◌, ◌%◌, ◌==◌, ◌&&◌, ℕ, [], set, slice_index, unwrap_or, option_map, if◌then◌else◌}
use Rattle.sv_store.specs.Held.{Held}

-- byte `place` of block b, where its line is held
unfoldable pub byte_in : Held → ℕ → ℕ → ℕ
byte_in h b place = slice_index (unwrap_or (h b (place / 64)) []) (place % 64)

-- byte `place` of block b is x, where its line is held, and all else is as before
unfoldable pub with_byte : ℕ → ℕ → ℕ → Held → Held
with_byte b place x h = λ c l. if (c == b) && (l == place / 64) then option_map (λ line. set line (place % 64) x) (h c l) else h c l
