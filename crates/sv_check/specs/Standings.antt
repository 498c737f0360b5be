-- What the entries of directories say of each inode, entry by entry.
use Rattle.std.specs.Prelude.{◌≡◌, ◌==◌, ◌&&◌, ◌||◌, ◌+◌, ◌-◌, ◌^◌, ℕ, false, List, [], ◌∷◌, map, flat_map, get_or, min, nat_le}
use Rattle.std.specs.Prelude.{if◌then◌else◌}
use Rattle.std.specs.List.{enumerate_from}
use Rattle.sv_form.specs.declared.geometry.Geometry.{Geometry}
use Rattle.sv_plain.specs.Names.{same_bytes}
use Rattle.sv_check.specs.declared.sound.standings.Standing.{Standing}
use Rattle.sv_check.specs.declared.sound.standings.Standings.{Standings}
use Rattle.sv_check.specs.Directories.{directories, dot, dots, entries, name_in, named_by}

-- an entry: the directory in which it stands, its place there from 0, and its bytes
pub record Told : Type 0 where
  pub directory : ℕ
  pub place : ℕ
  pub entry : List ℕ

-- of an inode of which no entry says anything
abbrev pub unnamed : Standing
unnamed = record { times = 0; held = 0; holder = 0; above = 0; dot = false }

-- one more, up to 65,535
abbrev pub one_more : ℕ → ℕ
one_more n = min (n + 1) (2 ^ 16 - 1)

-- after one more entry that names the inode
abbrev pub named : Told → Standing → Standing
named t s = record {
  times = one_more s.times;
  held = if nat_le 2 t.place then one_more s.held else s.held;
  holder = if nat_le 2 t.place then t.directory else s.holder;
  above = s.above;
  dot = s.dot;
}

-- after one more entry of the directory whose the standing is
abbrev pub with_dots : Told → Standing → Standing
with_dots t s = record {
  times = s.times;
  held = s.held;
  holder = s.holder;
  above = if (t.place == 1) && same_bytes (name_in t.entry) dots then named_by t.entry else s.above;
  dot = s.dot || ((t.place == 0) && ((named_by t.entry == t.directory) && same_bytes (name_in t.entry) dot));
}

-- all standings, with that of inode n
abbrev pub put : ℕ → Standing → (ℕ → Standing) → ℕ → Standing
put n s all x = if n == x then s else all x

-- all standings after one more entry
unfoldable pub step : (ℕ → Standing) → Told → ℕ → Standing
step all t =
    put t.directory (with_dots t (put (named_by t.entry) (named t (all (named_by t.entry))) all t.directory))
    (put (named_by t.entry) (named t (all (named_by t.entry))) all)

-- and after these
abbrev pub after : (ℕ → Standing) → List Told → ℕ → Standing
after all [] = all
after all (t ∷ ts) = after (step all t) ts

-- these entries of directory d, the first of which stands at this place
unfoldable pub told_from : ℕ → ℕ → List (List ℕ) → List Told
told_from d first es = map (λ e. record { directory = d; place = e.0; entry = e.1 }) (enumerate_from first es)

-- all entries of directory d, and of all directories
abbrev pub told_in : Geometry → List ℕ → ℕ → List Told
told_in g image d = told_from d 0 (entries g image d)

unfoldable pub told : Geometry → List ℕ → List Told
told g image = flat_map (told_in g image) (directories g image)

-- the standings in memory, by the numbers of the inodes
abbrev pub standing_of : Standings → ℕ → Standing
standing_of s = λ n. get_or s.of.items n unnamed

-- the standings are what the entries of all directories say
abbrev pub HaveTold : Geometry → List ℕ → Standings → Type 0
HaveTold g image s = standing_of s ≡ after (λ n. unnamed) (told g image)
