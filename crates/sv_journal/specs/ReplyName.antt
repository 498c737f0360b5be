-- The word that a reply begins with.
use Rattle.std.specs.Prelude.{List, ℕ, [], ◌∷◌, Option, codes, find, nat_eq}
use Rattle.std.specs.Cmp.Lexicographic.{pointwise}
use Rattle.sv_journal.specs.declared.reply_name.ReplyName.{ReplyName}
use Rattle.sv_journal.specs.declared.reply_name.ReplyName.TheVariants as names

abbrev pub reply_name_text : ReplyName → List ℕ
reply_name_text names.Found = codes "found"
reply_name_text names.NotFound = codes "notfound"
reply_name_text names.NotDir = codes "notdir"
reply_name_text names.Gone = codes "gone"
reply_name_text names.Full = codes "full"
reply_name_text names.Fault = codes "fault"
reply_name_text names.Kept = codes "kept"
reply_name_text names.Freed = codes "freed"
reply_name_text names.Late = codes "late"
reply_name_text names.LateMemory = codes "latememory"
reply_name_text names.Made = codes "made"
reply_name_text names.ManyLinks = codes "manylinks"
reply_name_text names.NoInode = codes "noinode"
reply_name_text names.Raised = codes "raised"
reply_name_text names.IsDir = codes "isdir"
reply_name_text names.Entered = codes "entered"
reply_name_text names.Exists = codes "exists"
reply_name_text names.Lowered = codes "lowered"
reply_name_text names.Removed = codes "removed"
reply_name_text names.Plain = codes "plain"
reply_name_text names.NotEmpty = codes "notempty"
reply_name_text names.Opened = codes "opened"
reply_name_text names.Dupped = codes "dupped"
reply_name_text names.Got = codes "got"
reply_name_text names.Wrote = codes "wrote"
reply_name_text names.FaultAfter = codes "faultafter"
reply_name_text names.At = codes "at"
reply_name_text names.Bad = codes "bad"
reply_name_text names.Done = codes "done"
reply_name_text names.Status = codes "is"
reply_name_text names.Granted = codes "granted"
reply_name_text names.NoSpace = codes "nospace"
reply_name_text names.TooBig = codes "toobig"

abbrev pub all_reply_names : List ReplyName
all_reply_names = names.Found ∷ names.NotFound ∷ names.NotDir ∷ names.Gone ∷ names.Full ∷ names.Fault ∷ names.Kept ∷ names.Freed
    ∷ names.Late ∷ names.LateMemory ∷ names.Made ∷ names.ManyLinks ∷ names.NoInode ∷ names.Raised ∷ names.IsDir ∷ names.Entered
    ∷ names.Exists ∷ names.Lowered ∷ names.Removed ∷ names.Plain ∷ names.NotEmpty ∷ names.Opened ∷ names.Dupped ∷ names.Got ∷ names.Wrote
    ∷ names.FaultAfter ∷ names.At ∷ names.Bad ∷ names.Done ∷ names.Status ∷ names.Granted ∷ names.NoSpace ∷ names.TooBig ∷ []

-- the reply that has this word for its name, if there is one
abbrev pub reply_name : List ℕ → Option ReplyName
reply_name word = find (λ name. pointwise nat_eq (reply_name_text name) word) all_reply_names
