-- How a text is cut into lines, and a line into words.
use Rattle.std.specs.Prelude.{◌≡◌, ◌≢◌, ◌==◌, ◌≤◌, ℕ, Bool, List, [], ◌∷◌, length, All, Result, Ok, Err}
use Rattle.std.specs.List.{slice_split}
use Rattle.sv_script.specs.declared.fault.ScriptFault.{ScriptFault}
use Rattle.sv_script.specs.declared.fault.ScriptFault.TheVariants as faults

abbrev pub is_space : ℕ → Bool
is_space byte = byte == 32

abbrev pub is_newline : ℕ → Bool
is_newline byte = byte == 10

-- a line is cut at each space, so a word can be empty
unfoldable pub words_of : List ℕ → List (List ℕ)
words_of line = slice_split is_space line

-- the words that stand after a word: none where nothing follows it, and else what the space after it parts
unfoldable pub words_after : List ℕ → List (List ℕ)
words_after [] = []
words_after (space ∷ bytes) = words_of bytes

-- the last piece of a text is a line only if it has a byte
abbrev pub with_last : List (List ℕ) → List (List ℕ)
with_last [] = []
with_last ([] ∷ []) = []
with_last ((byte ∷ piece) ∷ []) = (byte ∷ piece) ∷ []
with_last (piece ∷ other ∷ pieces) = piece ∷ with_last (other ∷ pieces)

-- lines end with a newline byte
unfoldable pub lines_of : List ℕ → List (List ℕ)
lines_of text = with_last (slice_split is_newline text)

-- so many further words, and no other number of them
abbrev pub none : List (List ℕ) → Result Unit ScriptFault
none [] = Ok tt
none (a ∷ words) = Err faults.Count

abbrev pub one : List (List ℕ) → Result (List ℕ) ScriptFault
one (a ∷ []) = Ok a
one words = Err faults.Count

abbrev pub two : List (List ℕ) → Result (List ℕ × List ℕ) ScriptFault
two (a ∷ b ∷ []) = Ok (a, b)
two words = Err faults.Count

abbrev pub three : List (List ℕ) → Result (List ℕ × List ℕ × List ℕ) ScriptFault
three (a ∷ b ∷ c ∷ []) = Ok (a, b, c)
three words = Err faults.Count

-- a part of a line: no newline byte, and no longer than a script
pub record IsPart (bytes : List ℕ) : Type 0 where
  pub most : length bytes ≤ 16777216
  pub no_newline : All (λ b. b ≢ 10) bytes

-- a word of a line, which has no space besides; each is a path
pub record IsPath (path : List ℕ) : Type 0 where
  pub most : length path ≤ 16777216
  pub no_newline : All (λ b. b ≢ 10) path
  pub no_space : All (λ b. b ≢ 32) path

-- a line begins with this word, which the rest follows
pub record BeginsWith (words : List (List ℕ)) (word rest : List ℕ) : Type 0 where
  pub cut : words ≡ word ∷ words_after rest
  pub first : IsPath word
  pub others : IsPart rest
