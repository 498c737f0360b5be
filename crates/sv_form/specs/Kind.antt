-- The letters by which answers and listings name a kind.
use Rattle.std.specs.Prelude.{ℕ}
use Rattle.sv_form.specs.declared.kind.Kind.{Kind}
use Rattle.sv_form.specs.declared.kind.Kind.TheVariants.{File, Dir}

-- f for a regular file, d for a directory
abbrev pub letter : Kind → ℕ
letter File = 102
letter Dir = 100
