-- The names that were seen in a directory, as a set in memory.
use Rattle.std.specs.Prelude.{◌≡◌, ℕ, List, All, drop}
use Rattle.std.specs.List.{list_any}
use Rattle.std.specs.Ordering.{nat_cmp}
use Rattle.std.specs.Cmp.Lexicographic.{slice_cmp}
use Rattle.std.specs.BTreeSet.{contains}
use Rattle.sv_form.specs.Entry.{filled}
use Rattle.sv_plain.specs.Names.{same_bytes}
use Rattle.sv_check.specs.declared.sound.entries.SeenNames.{SeenNames}
use Rattle.sv_check.specs.Directories.{name_in}

-- the bytes that an entry has for its name are the name filled up
abbrev pub IsNamed : List ℕ → Type 0
IsNamed entry = drop 2 entry ≡ filled (name_in entry)

-- the set has the names of the entries that were seen, and no others
pub record HasSeen (names : SeenNames) (seen : List (List ℕ)) : Type 0 where
  pub fields : (field : List ℕ) → contains (slice_cmp nat_cmp) names.fields field ≡ list_any (λ s. same_bytes (drop 2 s) field) seen
  pub named : All IsNamed seen
