-- Numbers that digits spell, and which bytes are digits of bytes.
use Rattle.std.specs.Prelude.{◌==◌, nat_lt, nat_le, ◌&&◌, ◌||◌, if◌then◌else◌, ℕ, Bool, List, length, slice_index, Option, Some, None}
use Rattle.std.specs.List.{list_all}
use Rattle.std.specs.Char.{digit_value}
use Rattle.std.specs.Str.Parse.{digits_value}

-- some digits of that base, and nothing else
abbrev pub are_digits : ℕ → List ℕ → Bool
are_digits base word = nat_lt 0 (length word) && list_all (λ c. nat_lt (digit_value c) base) word

-- the digits' value, of at most so much
abbrev pub value_of : ℕ → ℕ → List ℕ → Option ℕ
value_of base most word = if are_digits base word && nat_le (digits_value base word) most then Some (digits_value base word) else None

-- a zero with digits after it
abbrev pub has_leading_zero : List ℕ → Bool
has_leading_zero word = nat_lt 1 (length word) && slice_index word 0 == 48

-- a number of at most so much, in that base, without sign or leading zero
abbrev pub number_of : ℕ → ℕ → List ℕ → Option ℕ
number_of base most word = if has_leading_zero word then None else value_of base most word

-- a digit of bytes, in lower case
abbrev pub is_lower_hex : ℕ → Bool
is_lower_hex c = (nat_le 48 c && nat_le c 57) || (nat_le 97 c && nat_le c 102)
