-- How far the entries of a directory were gone through.
use Rattle.std.specs.Prelude.{◌≡◌, ◌==◌, ◌&&◌, ◌++◌, ℕ, Bool, true, false, List, [], ◌∷◌, Option, MatchOption, IfSome, is_some, unwrap_or}
use Rattle.std.specs.Prelude.{if◌then◌else◌}
use Rattle.std.specs.List.{list_any}
use Rattle.sv_form.specs.declared.geometry.Geometry.{Geometry}
use Rattle.sv_form.specs.declared.entry.Entry.{Entry}
use Rattle.sv_form.specs.Entry.{IsEntry}
use Rattle.sv_plain.specs.Names.{same_bytes}
use Rattle.sv_check.specs.Directories.{leads_somewhere, name_in, named_by, reads_entry}

-- What was read of the bytes of an entry is what they spell. The test holds exactly where they spell one, and the number
-- and the name that stand there are its own.
pub record IsEntryRead (bytes : List ℕ) (read : Option Entry) : Type 0 where
  pub format : MatchOption read ((e : Entry) → IsEntry bytes e → ⊥) (λ e. IsEntry bytes e)
  pub test : reads_entry bytes ≡ is_some read
  pub inode : IfSome read (λ e. named_by bytes ≡ e.inode)
  pub name : IfSome read (λ e. name_in bytes ≡ unwrap_or e.name [])

-- the entry by itself is in order
abbrev pub is_good : Geometry → List ℕ → List ℕ → Bool
is_good g image entry = reads_entry entry && leads_somewhere g image entry

-- an entry that was seen has this name
abbrev pub is_taken : List (List ℕ) → List ℕ → Bool
is_taken seen name = list_any (λ s. same_bytes (name_in s) name) seen

-- the entries with a name that are seen after one more
abbrev pub with_entry : List (List ℕ) → List ℕ → List (List ℕ)
with_entry seen entry = if named_by entry == 0 then seen else entry ∷ seen

-- the same after these
abbrev pub seen_after : List (List ℕ) → List (List ℕ) → List (List ℕ)
seen_after seen [] = seen
seen_after seen (e ∷ es) = seen_after (with_entry seen e) es

-- the entries are in order after those that were seen: each by itself, and no name comes twice
unfoldable pub are_good_after : Geometry → List ℕ → List (List ℕ) → List (List ℕ) → Bool
are_good_after g image seen [] = true
are_good_after g image seen (e ∷ es) =
    if is_good g image e then (if named_by e == 0 then are_good_after g image seen es else
    (if is_taken seen (name_in e) then false else are_good_after g image (e ∷ seen) es))
    else false

-- these entries were gone through and are in order so far, or one was not, and then the directory's are not
abbrev pub Takes : Geometry → List ℕ → List (List ℕ) → List (List ℕ) → Bool → Type 0
Takes g image seen es true = (rest : List (List ℕ)) → are_good_after g image seen (es ++ rest)
    ≡ are_good_after g image (seen_after seen es) rest
Takes g image seen es false = (rest : List (List ℕ)) → are_good_after g image seen (es ++ rest) ≡ false
