-- What a line holds at its words: each is read behind a space, and what follows it is left.
use Rattle.std.specs.Prelude.{ℕ, ℤ, List, Option, Some}
use Rattle.sv_form.specs.declared.kind.Kind.{Kind}
use Rattle.sv_plain.specs.declared.fs.mode.Mode.{Mode}
use Rattle.sv_journal.specs.Cut.{first_word, next_word}
use Rattle.sv_journal.specs.Outcome.{◌>>=◌}
use Rattle.sv_journal.specs.Word.{bytes_of, kind_of, mode_of, name_of, number_of, offset_of}

-- what the next word is read as
abbrev pub field : {A : Type 0} → (List ℕ → Option A) → List ℕ → Option (A × List ℕ)
field read text = next_word text >>= λ r. read r.0 >>= λ x. Some (x, r.1)

-- a number of at most so much
abbrev pub number : ℕ → List ℕ → Option (ℕ × List ℕ)
number most text = field (number_of 10 most) text

-- the same at the front of a text, behind no space
abbrev pub first_number : ℕ → List ℕ → Option (ℕ × List ℕ)
first_number most text = number_of 10 most (first_word text).0 >>= λ n. Some (n, (first_word text).1)

abbrev pub offset : List ℕ → Option (ℤ × List ℕ)
offset text = field offset_of text

-- the mode of an inode, in octal
abbrev pub mode_bits : List ℕ → Option (ℕ × List ℕ)
mode_bits text = field (number_of 8 65535) text

abbrev pub kind : List ℕ → Option (Kind × List ℕ)
kind text = field kind_of text

-- what a file is opened for
abbrev pub open_mode : List ℕ → Option (Mode × List ℕ)
open_mode text = field mode_of text

abbrev pub name : List ℕ → Option (List ℕ × List ℕ)
name text = field name_of text

abbrev pub bytes : List ℕ → Option (List ℕ × List ℕ)
bytes text = field bytes_of text

-- a directory, and a name in it
abbrev pub place : List ℕ → Option ((ℕ × List ℕ) × List ℕ)
place text = do
  dir ← number 65535 text
  named ← name dir.1
  Some ((dir.0, named.0), named.1)

-- what is made
abbrev pub made : List ℕ → Option ((Kind × ℕ) × List ℕ)
made text = do
  k ← kind text
  bits ← mode_bits k.1
  Some ((k.0, bits.0), bits.1)
