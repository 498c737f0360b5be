-- How words follow one another.
use Rattle.std.specs.Prelude.{◌==◌, ◌||◌, ℕ, Bool, List, [], ◌∷◌, Option, Some, None, nat_eq, drop, if◌then◌else◌}
use Rattle.std.specs.List.{before_first, position_or_len}
use Rattle.std.specs.Cmp.Lexicographic.{pointwise}
use Rattle.sv_journal.specs.Outcome.{◌>>=◌}

-- a word ends before a space or a newline byte
abbrev pub ends_word : ℕ → Bool
ends_word byte = byte == 32 || byte == 10

-- the word at the front of a text, and what follows it
unfoldable pub first_word : List ℕ → List ℕ × List ℕ
first_word text = (before_first ends_word text, drop (position_or_len ends_word text) text)

-- what is behind a byte that must stand here
abbrev pub next_byte : ℕ → List ℕ → Option (Unit {0} × List ℕ)
next_byte byte [] = None
next_byte byte (first ∷ text) = if first == byte then Some (tt, text) else None

-- the word behind a space, and what follows it
abbrev pub next_word : List ℕ → Option (List ℕ × List ℕ)
next_word text = next_byte 32 text >>= λ r. Some (first_word r.1)

-- what is behind a newline byte
abbrev pub next_line : List ℕ → Option (Unit {0} × List ℕ)
next_line text = next_byte 10 text

-- what is behind a space and a word that must stand here
abbrev pub this_word : List ℕ → List ℕ → Option (Unit {0} × List ℕ)
this_word word text = next_word text >>= λ r. if pointwise nat_eq r.0 word then Some (tt, r.1) else None
