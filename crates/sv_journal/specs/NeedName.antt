-- The word for what blocks are promised for.
use Rattle.std.specs.Prelude.{List, ℕ, [], ◌∷◌, Option, codes, find, nat_eq}
use Rattle.std.specs.Cmp.Lexicographic.{pointwise}
use Rattle.sv_journal.specs.declared.need_name.NeedName.{NeedName}
use Rattle.sv_journal.specs.declared.need_name.NeedName.TheVariants as names

abbrev pub need_name_text : NeedName → List ℕ
need_name_text names.Write = codes "write"
need_name_text names.Enter = codes "enter"
need_name_text names.Make = codes "make"

abbrev pub all_need_names : List NeedName
all_need_names = names.Write ∷ names.Enter ∷ names.Make ∷ []

-- the need that has this word for its name, if there is one
abbrev pub need_name : List ℕ → Option NeedName
need_name word = find (λ name. pointwise nat_eq (need_name_text name) word) all_need_names
