-- How many blocks a step takes at most: what a process has promised to it.
use Rattle.std.specs.Prelude.{◌+◌, ◌||◌, ℕ, Bool, not, List, is_some, if◌then◌else◌}
use Rattle.std.specs.FinMap as map
unfoldable pub use Rattle.sv_form.specs.NodeNeeds.{blocks_added}
pub use Rattle.sv_form.specs.NodeNeeds.{range_need, entry_need}
use Rattle.sv_plain.specs.declared.history.need.Need.{Need}
use Rattle.sv_plain.specs.declared.history.need.Need.TheVariants.{Write, Enter, Make}
use Rattle.sv_plain.specs.Totals.{at_or_0}
use Rattle.sv_plain.specs.Fs.{Fs}
use Rattle.sv_plain.specs.Names.{is_open_to_names, child}

-- what a write of `count` bytes takes
abbrev pub write_need : Fs → ℕ → ℕ → ℕ
write_need fs file count = at_or_0 (λ f. at_or_0 (λ node. range_need fs.block node f.offset count) (map.get fs.nodes f.inode))
    (map.get fs.files file)

-- nothing can be entered in d under this name
abbrev pub enters_nothing : Fs → ℕ → List ℕ → Bool
enters_nothing fs d name = not (is_open_to_names fs d) || is_some (child fs d name)

abbrev pub enter_need : Fs → ℕ → List ℕ → ℕ
enter_need fs d name = if enters_nothing fs d name then 0 else at_or_0 (entry_need fs.block) (map.get fs.nodes d)

-- a new directory takes one page more
abbrev pub make_need : Fs → ℕ → List ℕ → ℕ
make_need fs d name = if enters_nothing fs d name then 0 else at_or_0 (entry_need fs.block) (map.get fs.nodes d) + 1

abbrev pub need_of : Fs → Need → ℕ
need_of fs (Write file count) = write_need fs file count
need_of fs (Enter dir name) = enter_need fs dir name
need_of fs (Make dir name) = make_need fs dir name
