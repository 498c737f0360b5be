-- The names of ops, needs and replies, read and spelled.
use Rattle.std.proofs.Common.{◌≡◌, ℕ, List, Option, Some, None, IfSome, nat_le, nat_eq, sym, refl, true}
use Rattle.std.specs.Cmp.Lexicographic.{pointwise}
use Rattle.std.specs.List.{list_all}
use Rattle.sv_journal.specs.declared.need_name.NeedName.{NeedName}
use Rattle.sv_journal.specs.declared.need_name.NeedName.TheVariants as need_names
use Rattle.sv_journal.specs.NeedName.{all_need_names, need_name, need_name_text}
use Rattle.sv_journal.specs.declared.op_name.OpName.{OpName}
use Rattle.sv_journal.specs.declared.op_name.OpName.TheVariants as op_names
use Rattle.sv_journal.specs.OpName.{all_op_names, op_name, op_name_text}
use Rattle.sv_journal.specs.declared.reply_name.ReplyName.{ReplyName}
use Rattle.sv_journal.specs.declared.reply_name.ReplyName.TheVariants as reply_names
use Rattle.sv_journal.specs.ReplyName.{all_reply_names, reply_name, reply_name_text}
use Rattle.sv_journal.proofs.WordCuts.{Reads, found_passes, literal_word, same_text}

-- a name that was found is that of its text
named : {N : Type 0} (text : N → List ℕ) (word : List ℕ) (o : Option N) → IfSome o (λ n. pointwise nat_eq (text n) word ≡ true) → IfSome o (λ n. Unit {0} × (word ≡ text n))
named text word None h = tt
named text word (Some n) h = (tt, sym (same_text (text n) word h))

-- ----

need_name-back : (n : NeedName) → need_name (need_name_text n) ≡ Some n
need_name-back need_names.Write = refl
need_name-back need_names.Enter = refl
need_name-back need_names.Make = refl

need_name-plain : (n : NeedName) → list_all (λ c. nat_le 33 c) (need_name_text n) ≡ true
need_name-plain need_names.Write = refl
need_name-plain need_names.Enter = refl
need_name-plain need_names.Make = refl

pub need_name-reads : Reads need_name need_name_text (λ _. Unit {0})
need_name-reads = record {
  sound = λ w. named need_name_text w (need_name w) (found_passes (λ n. pointwise nat_eq (need_name_text n) w) all_need_names);
  back = λ n _. need_name-back n;
  word = λ n _. literal_word (need_name_text n) (need_name-plain n);
}

-- ----

op_name-back : (n : OpName) → op_name (op_name_text n) ≡ Some n
op_name-back op_names.Look = refl
op_name-back op_names.Drop = refl
op_name-back op_names.Create = refl
op_name-back op_names.AddLink = refl
op_name-back op_names.Enter = refl
op_name-back op_names.SubLink = refl
op_name-back op_names.Unlink = refl
op_name-back op_names.Rmdir = refl
op_name-back op_names.OpenFile = refl
op_name-back op_names.CloseFile = refl
op_name-back op_names.DupFile = refl
op_name-back op_names.Read = refl
op_name-back op_names.Write = refl
op_name-back op_names.Seek = refl
op_name-back op_names.Trunc = refl
op_name-back op_names.Stat = refl
op_name-back op_names.Promise = refl
op_name-back op_names.Forgo = refl
op_name-back op_names.Sync = refl
op_name-back op_names.Purge = refl

op_name-plain : (n : OpName) → list_all (λ c. nat_le 33 c) (op_name_text n) ≡ true
op_name-plain op_names.Look = refl
op_name-plain op_names.Drop = refl
op_name-plain op_names.Create = refl
op_name-plain op_names.AddLink = refl
op_name-plain op_names.Enter = refl
op_name-plain op_names.SubLink = refl
op_name-plain op_names.Unlink = refl
op_name-plain op_names.Rmdir = refl
op_name-plain op_names.OpenFile = refl
op_name-plain op_names.CloseFile = refl
op_name-plain op_names.DupFile = refl
op_name-plain op_names.Read = refl
op_name-plain op_names.Write = refl
op_name-plain op_names.Seek = refl
op_name-plain op_names.Trunc = refl
op_name-plain op_names.Stat = refl
op_name-plain op_names.Promise = refl
op_name-plain op_names.Forgo = refl
op_name-plain op_names.Sync = refl
op_name-plain op_names.Purge = refl

pub op_name-reads : Reads op_name op_name_text (λ _. Unit {0})
op_name-reads = record {
  sound = λ w. named op_name_text w (op_name w) (found_passes (λ n. pointwise nat_eq (op_name_text n) w) all_op_names);
  back = λ n _. op_name-back n;
  word = λ n _. literal_word (op_name_text n) (op_name-plain n);
}

-- ----

reply_name-back : (n : ReplyName) → reply_name (reply_name_text n) ≡ Some n
reply_name-back reply_names.Found = refl
reply_name-back reply_names.NotFound = refl
reply_name-back reply_names.NotDir = refl
reply_name-back reply_names.Gone = refl
reply_name-back reply_names.Full = refl
reply_name-back reply_names.Fault = refl
reply_name-back reply_names.Kept = refl
reply_name-back reply_names.Freed = refl
reply_name-back reply_names.Late = refl
reply_name-back reply_names.LateMemory = refl
reply_name-back reply_names.Made = refl
reply_name-back reply_names.ManyLinks = refl
reply_name-back reply_names.NoInode = refl
reply_name-back reply_names.Raised = refl
reply_name-back reply_names.IsDir = refl
reply_name-back reply_names.Entered = refl
reply_name-back reply_names.Exists = refl
reply_name-back reply_names.Lowered = refl
reply_name-back reply_names.Removed = refl
reply_name-back reply_names.Plain = refl
reply_name-back reply_names.NotEmpty = refl
reply_name-back reply_names.Opened = refl
reply_name-back reply_names.Dupped = refl
reply_name-back reply_names.Got = refl
reply_name-back reply_names.Wrote = refl
reply_name-back reply_names.FaultAfter = refl
reply_name-back reply_names.At = refl
reply_name-back reply_names.Bad = refl
reply_name-back reply_names.Done = refl
reply_name-back reply_names.Status = refl
reply_name-back reply_names.Granted = refl
reply_name-back reply_names.NoSpace = refl
reply_name-back reply_names.TooBig = refl

reply_name-plain : (n : ReplyName) → list_all (λ c. nat_le 33 c) (reply_name_text n) ≡ true
reply_name-plain reply_names.Found = refl
reply_name-plain reply_names.NotFound = refl
reply_name-plain reply_names.NotDir = refl
reply_name-plain reply_names.Gone = refl
reply_name-plain reply_names.Full = refl
reply_name-plain reply_names.Fault = refl
reply_name-plain reply_names.Kept = refl
reply_name-plain reply_names.Freed = refl
reply_name-plain reply_names.Late = refl
reply_name-plain reply_names.LateMemory = refl
reply_name-plain reply_names.Made = refl
reply_name-plain reply_names.ManyLinks = refl
reply_name-plain reply_names.NoInode = refl
reply_name-plain reply_names.Raised = refl
reply_name-plain reply_names.IsDir = refl
reply_name-plain reply_names.Entered = refl
reply_name-plain reply_names.Exists = refl
reply_name-plain reply_names.Lowered = refl
reply_name-plain reply_names.Removed = refl
reply_name-plain reply_names.Plain = refl
reply_name-plain reply_names.NotEmpty = refl
reply_name-plain reply_names.Opened = refl
reply_name-plain reply_names.Dupped = refl
reply_name-plain reply_names.Got = refl
reply_name-plain reply_names.Wrote = refl
reply_name-plain reply_names.FaultAfter = refl
reply_name-plain reply_names.At = refl
reply_name-plain reply_names.Bad = refl
reply_name-plain reply_names.Done = refl
reply_name-plain reply_names.Status = refl
reply_name-plain reply_names.Granted = refl
reply_name-plain reply_names.NoSpace = refl
reply_name-plain reply_names.TooBig = refl

pub reply_name-reads : Reads reply_name reply_name_text (λ _. Unit {0})
reply_name-reads = record {
  sound = λ w. named reply_name_text w (reply_name w) (found_passes (λ n. pointwise nat_eq (reply_name_text n) w) all_reply_names);
  back = λ n _. reply_name-back n;
  word = λ n _. literal_word (reply_name_text n) (reply_name-plain n);
}
