-- The word that an op begins with.
use Rattle.std.specs.Prelude.{List, ℕ, [], ◌∷◌, Option, codes, find, nat_eq}
use Rattle.std.specs.Cmp.Lexicographic.{pointwise}
use Rattle.sv_journal.specs.declared.op_name.OpName.{OpName}
use Rattle.sv_journal.specs.declared.op_name.OpName.TheVariants as names

abbrev pub op_name_text : OpName → List ℕ
op_name_text names.Look = codes "look"
op_name_text names.Drop = codes "drop"
op_name_text names.Create = codes "create"
op_name_text names.AddLink = codes "addlink"
op_name_text names.Enter = codes "enter"
op_name_text names.SubLink = codes "sublink"
op_name_text names.Unlink = codes "unlink"
op_name_text names.Rmdir = codes "rmdir"
op_name_text names.OpenFile = codes "open"
op_name_text names.CloseFile = codes "close"
op_name_text names.DupFile = codes "dup"
op_name_text names.Read = codes "read"
op_name_text names.Write = codes "write"
op_name_text names.Seek = codes "seek"
op_name_text names.Trunc = codes "trunc"
op_name_text names.Stat = codes "stat"
op_name_text names.Promise = codes "promise"
op_name_text names.Forgo = codes "forgo"
op_name_text names.Sync = codes "sync"
op_name_text names.Purge = codes "purge"

abbrev pub all_op_names : List OpName
all_op_names = names.Look ∷ names.Drop ∷ names.Create ∷ names.AddLink ∷ names.Enter ∷ names.SubLink ∷ names.Unlink ∷ names.Rmdir
    ∷ names.OpenFile ∷ names.CloseFile ∷ names.DupFile ∷ names.Read ∷ names.Write ∷ names.Seek ∷ names.Trunc ∷ names.Stat ∷ names.Promise
    ∷ names.Forgo ∷ names.Sync ∷ names.Purge ∷ []

-- the op that has this word for its name, if there is one
abbrev pub op_name : List ℕ → Option OpName
op_name word = find (λ name. pointwise nat_eq (op_name_text name) word) all_op_names
