-- The first word of a line.
use Rattle.std.specs.Prelude.{ℕ, List, [], ◌∷◌, Option, codes, find, nat_eq}
use Rattle.std.specs.Cmp.Lexicographic.{pointwise}
use Rattle.sv_script.specs.declared.call.Call.{Call}
use Rattle.sv_script.specs.declared.call.Call.TheVariants as calls
use Rattle.sv_script.specs.declared.verb.Verb.{Verb}
use Rattle.sv_script.specs.declared.verb.Verb.TheVariants as verbs

abbrev pub verb_text : Verb → List ℕ
verb_text verbs.Open = codes "open"
verb_text verbs.Creat = codes "creat"
verb_text verbs.Mkdir = codes "mkdir"
verb_text verbs.Read = codes "read"
verb_text verbs.Write = codes "write"
verb_text verbs.Fill = codes "fill"
verb_text verbs.Lseek = codes "lseek"
verb_text verbs.Close = codes "close"
verb_text verbs.Dup = codes "dup"
verb_text verbs.Link = codes "link"
verb_text verbs.Unlink = codes "unlink"
verb_text verbs.Rmdir = codes "rmdir"
verb_text verbs.Chdir = codes "chdir"
verb_text verbs.Stat = codes "stat"
verb_text verbs.Fstat = codes "fstat"
verb_text verbs.Sync = codes "sync"

abbrev pub all_verbs : List Verb
all_verbs = verbs.Open ∷ verbs.Creat ∷ verbs.Mkdir ∷ verbs.Read ∷ verbs.Write ∷ verbs.Fill ∷ verbs.Lseek ∷ verbs.Close ∷ verbs.Dup
    ∷ verbs.Link ∷ verbs.Unlink ∷ verbs.Rmdir ∷ verbs.Chdir ∷ verbs.Stat ∷ verbs.Fstat ∷ verbs.Sync ∷ []

-- the verb with this text, if there is one
abbrev pub verb_of : List ℕ → Option Verb
verb_of word = find (λ verb. pointwise nat_eq (verb_text verb) word) all_verbs

-- the verb that asks for a call
abbrev pub verb_of_call : Call → Verb
verb_of_call (calls.Open path mode) = verbs.Open
verb_of_call (calls.Creat path mode) = verbs.Creat
verb_of_call (calls.Mkdir path mode) = verbs.Mkdir
verb_of_call (calls.Read fd count) = verbs.Read
verb_of_call (calls.Write fd bytes) = verbs.Write
verb_of_call (calls.Fill fd count byte) = verbs.Fill
verb_of_call (calls.Lseek fd offset whence) = verbs.Lseek
verb_of_call (calls.Close fd) = verbs.Close
verb_of_call (calls.Dup fd) = verbs.Dup
verb_of_call (calls.Link first second) = verbs.Link
verb_of_call (calls.Unlink path) = verbs.Unlink
verb_of_call (calls.Rmdir path) = verbs.Rmdir
verb_of_call (calls.Chdir path) = verbs.Chdir
verb_of_call (calls.Stat path) = verbs.Stat
verb_of_call (calls.Fstat fd) = verbs.Fstat
verb_of_call calls.Sync = verbs.Sync
