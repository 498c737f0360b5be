-- What a single word of a line can be.
use Rattle.std.specs.Prelude.{◌==◌, nat_le, ◌&&◌, not, if◌then◌else◌, ℕ, ℤ, pos, neg_ℤ, Bool, List, [], length, drop, slice_index, codes}
use Rattle.std.specs.Prelude.{nat_eq, Option, Some, None, Result, Ok, Err}
use Rattle.std.specs.List.{list_all}
use Rattle.std.specs.Cmp.Lexicographic.{pointwise}
use Rattle.hex.specs.Hex.{decode_of}
use Rattle.hex.specs.declared.error.FromHexError.{FromHexError}
use Rattle.sv_form.specs.declared.kind.Kind.{Kind}
use Rattle.sv_form.specs.declared.kind.Kind.TheVariants.{File, Dir}
use Rattle.sv_plain.specs.declared.fs.mode.Mode.{Mode}
use Rattle.sv_plain.specs.declared.fs.mode.Mode.TheVariants.{R, W, RW}
use Rattle.sv_journal.specs.Outcome.{◌>>=◌}
-- numbers, and which bytes are digits of bytes
pub use Rattle.sv_plain.specs.Digits.{are_digits, has_leading_zero, is_lower_hex, number_of, value_of}

-- ---- numbers

-- a number behind a minus sign; none is zero
abbrev pub below_zero : ℕ → Option ℤ
below_zero n = if n == 0 then None else Some (neg_ℤ (pos n))

-- a number of 64 bits, with a minus sign exactly where it is below zero
abbrev pub offset_of : List ℕ → Option ℤ
offset_of word =
    if slice_index word 0 == 45 then (number_of 10 9223372036854775808 (drop 1 word) >>= below_zero) else
    (number_of 10 9223372036854775807 word >>= λ n. Some (pos n))

-- ---- bytes

-- an odd number of digits spells no bytes
abbrev pub decoded : Result (List ℕ) FromHexError → Option (List ℕ)
decoded (Ok bytes) = Some bytes
decoded (Err e) = None

-- the bytes that an even number of lower case hexadecimal digits spell
abbrev pub hex_of : List ℕ → Option (List ℕ)
hex_of word = if list_all is_lower_hex word then decoded (decode_of word) else None

-- a dash for none, or the digits of some bytes
abbrev pub bytes_of : List ℕ → Option (List ℕ)
bytes_of word = if pointwise nat_eq word (codes "-") then Some [] else if length word == 0 then None else hex_of word

-- 1 to 14 bytes without slash or zero byte
abbrev pub is_name : List ℕ → Bool
is_name bytes = nat_le 1 (length bytes) && nat_le (length bytes) 14 && list_all (λ b. not (b == 0) && not (b == 47)) bytes

abbrev pub name_from : List ℕ → Option (List ℕ)
name_from bytes = if is_name bytes then Some bytes else None

-- the digits of a name
abbrev pub name_of : List ℕ → Option (List ℕ)
name_of word = hex_of word >>= name_from

-- ---- letters

abbrev pub kind_of : List ℕ → Option Kind
kind_of word = if pointwise nat_eq word (codes "f") then Some File else if pointwise nat_eq word (codes "d") then Some Dir else None

abbrev pub mode_of : List ℕ → Option Mode
mode_of word =
    if pointwise nat_eq word (codes "r") then Some R else if pointwise nat_eq word (codes "w") then Some W
    else if pointwise nat_eq word (codes "rw") then Some RW else None
