-- The way along `..` from directory to directory.
use Rattle.std.specs.Prelude.{◌==◌, ◌&&◌, ℕ, zero, suc, Bool, not, if◌then◌else◌}
use Rattle.sv_check.specs.declared.sound.standings.Standing.{Standing}

-- where so many steps lead
unfoldable pub climbed : (ℕ → ℕ) → ℕ → ℕ → ℕ
climbed up zero n = n
climbed up (suc k) n = up (climbed up k n)

-- where one step leads from inode n, whose standing it is: from the root to itself, and to 0 where no `..` leads on
abbrev pub step_up : (ℕ → Standing) → ℕ → ℕ
step_up all n = if n == 2 then 2 else (all n).above

-- Directory n has its `.`, and its `..` leads somewhere. The `..` of the root is the root, and no other entry names it. Any
-- other directory is named by one other entry, which stands in the directory that its `..` names.
abbrev pub is_well_placed : ℕ → Standing → Bool
is_well_placed n s =
    s.dot && not (s.above == 0) && (if n == 2 then (s.above == 2) && (s.held == 0) else (s.held == 1) && (s.holder == s.above))
