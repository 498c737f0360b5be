-- What a line says, word by word: each function gives what stands at the front of a text, and what is left behind it.
use Rattle.std.specs.Prelude.{◌==◌, nat_le, ◌&&◌, not, if◌then◌else◌, ℕ, List, Bool, codes, nat_eq, Option, Some, None}
use Rattle.std.specs.Cmp.Lexicographic.{pointwise}
use Rattle.sv_plain.specs.declared.history.entry.Entry.{Entry}
use Rattle.sv_plain.specs.declared.history.need.Need.{Need}
use Rattle.sv_plain.specs.declared.history.need.Need.TheVariants as needs
use Rattle.sv_plain.specs.declared.history.op.Op.{Op}
use Rattle.sv_plain.specs.declared.history.op.Op.TheVariants as ops
use Rattle.sv_plain.specs.declared.history.reply.Reply.{Reply}
use Rattle.sv_plain.specs.declared.history.reply.Reply.TheVariants as replies
use Rattle.sv_journal.specs.declared.need_name.NeedName.{NeedName}
use Rattle.sv_journal.specs.declared.need_name.NeedName.TheVariants as need_names
use Rattle.sv_journal.specs.declared.op_name.OpName.{OpName}
use Rattle.sv_journal.specs.declared.op_name.OpName.TheVariants as op_names
use Rattle.sv_journal.specs.declared.reply_name.ReplyName.{ReplyName}
use Rattle.sv_journal.specs.declared.reply_name.ReplyName.TheVariants as reply_names
use Rattle.sv_journal.specs.Allowed.{is_reply_of}
use Rattle.sv_journal.specs.Cut.{first_word, next_line, this_word}
use Rattle.sv_journal.specs.Fields.{bytes, field, first_number, made, number, offset, open_mode, place}
use Rattle.sv_journal.specs.NeedName.{need_name}
use Rattle.sv_journal.specs.OpName.{op_name}
use Rattle.sv_journal.specs.Outcome.{◌>>=◌}
use Rattle.sv_journal.specs.ReplyName.{reply_name}

-- ---- what is asked

abbrev pub need_by : NeedName → List ℕ → Option (Need × List ℕ)
need_by need_names.Write text = do
  file ← number 65535 text
  count ← number 4294967295 file.1
  Some (needs.Write file.0 count.0, count.1)
need_by need_names.Enter text = place text >>= λ p. Some (needs.Enter p.0.0 p.0.1, p.1)
need_by need_names.Make text = place text >>= λ p. Some (needs.Make p.0.0 p.0.1, p.1)

abbrev pub need_at : List ℕ → Option (Need × List ℕ)
need_at text = field need_name text >>= λ r. need_by r.0 r.1

-- an op with one number
abbrev pub of_number : (ℕ → Op) → List ℕ → Option (Op × List ℕ)
of_number make text = number 65535 text >>= λ n. Some (make n.0, n.1)

-- an op on a name in a directory
abbrev pub of_place : (ℕ → List ℕ → Op) → List ℕ → Option (Op × List ℕ)
of_place make text = place text >>= λ p. Some (make p.0.0 p.0.1, p.1)

abbrev pub op_by : OpName → List ℕ → Option (Op × List ℕ)
op_by op_names.Look text = of_place (λ dir name. ops.Look dir name) text
op_by op_names.Drop text = of_number (λ ino. ops.Drop ino) text
op_by op_names.Create text = do
  p ← place text
  m ← made p.1
  Some (ops.Create p.0.0 p.0.1 m.0.0 m.0.1, m.1)
op_by op_names.AddLink text = of_number (λ ino. ops.AddLink ino) text
op_by op_names.Enter text = do
  p ← place text
  ino ← number 65535 p.1
  Some (ops.Enter p.0.0 p.0.1 ino.0, ino.1)
op_by op_names.SubLink text = of_number (λ ino. ops.SubLink ino) text
op_by op_names.Unlink text = of_place (λ dir name. ops.Unlink dir name) text
op_by op_names.Rmdir text = of_place (λ dir name. ops.Rmdir dir name) text
op_by op_names.OpenFile text = do
  ino ← number 65535 text
  mode ← open_mode ino.1
  Some (ops.OpenFile ino.0 mode.0, mode.1)
op_by op_names.CloseFile text = of_number (λ file. ops.CloseFile file) text
op_by op_names.DupFile text = of_number (λ file. ops.DupFile file) text
op_by op_names.Read text = do
  file ← number 65535 text
  count ← number 4294967295 file.1
  Some (ops.Read file.0 count.0, count.1)
op_by op_names.Write text = do
  file ← number 65535 text
  written ← bytes file.1
  Some (ops.Write file.0 written.0, written.1)
op_by op_names.Seek text = do
  file ← number 65535 text
  to ← offset file.1
  whence ← number 255 to.1
  Some (ops.Seek file.0 to.0 whence.0, whence.1)
op_by op_names.Trunc text = of_number (λ ino. ops.Trunc ino) text
op_by op_names.Stat text = of_number (λ ino. ops.Stat ino) text
op_by op_names.Promise text = need_at text >>= λ need. Some (ops.Promise need.0, need.1)
op_by op_names.Forgo text = Some (ops.Forgo, text)
op_by op_names.Sync text = Some (ops.Sync, text)
op_by op_names.Purge text = Some (ops.Purge, text)

abbrev pub op_at : List ℕ → Option (Op × List ℕ)
op_at text = field op_name text >>= λ r. op_by r.0 r.1

-- ---- what is answered

-- a reply with one number of at most so much
abbrev pub with_number : ℕ → (ℕ → Reply) → List ℕ → Option (Reply × List ℕ)
with_number most make text = number most text >>= λ n. Some (make n.0, n.1)

abbrev pub status : List ℕ → Option (Reply × List ℕ)
status text = do
  m ← made text
  links ← number 65535 m.1
  size ← number 4294967295 links.1
  Some (replies.Status m.0.0 m.0.1 links.0 size.0, size.1)

abbrev pub reply_by : ReplyName → List ℕ → Option (Reply × List ℕ)
reply_by reply_names.Found text = with_number 65535 (λ n. replies.Found n) text
reply_by reply_names.NotFound text = Some (replies.NotFound, text)
reply_by reply_names.NotDir text = Some (replies.NotDir, text)
reply_by reply_names.Gone text = Some (replies.Gone, text)
reply_by reply_names.Full text = Some (replies.Full, text)
reply_by reply_names.Fault text = Some (replies.Fault, text)
reply_by reply_names.Kept text = Some (replies.Kept, text)
reply_by reply_names.Freed text = Some (replies.Freed, text)
reply_by reply_names.Late text = Some (replies.Late, text)
reply_by reply_names.LateMemory text = Some (replies.LateMemory, text)
reply_by reply_names.Made text = with_number 65535 (λ n. replies.Made n) text
reply_by reply_names.ManyLinks text = Some (replies.ManyLinks, text)
reply_by reply_names.NoInode text = Some (replies.NoInode, text)
reply_by reply_names.Raised text = Some (replies.Raised, text)
reply_by reply_names.IsDir text = Some (replies.IsDir, text)
reply_by reply_names.Entered text = Some (replies.Entered, text)
reply_by reply_names.Exists text = Some (replies.Exists, text)
reply_by reply_names.Lowered text = Some (replies.Lowered, text)
reply_by reply_names.Removed text = with_number 65535 (λ n. replies.Removed n) text
reply_by reply_names.Plain text = Some (replies.Plain, text)
reply_by reply_names.NotEmpty text = Some (replies.NotEmpty, text)
reply_by reply_names.Opened text = with_number 65535 (λ n. replies.Opened n) text
reply_by reply_names.Dupped text = Some (replies.Dupped, text)
reply_by reply_names.Got text = bytes text >>= λ got. Some (replies.Got got.0, got.1)
reply_by reply_names.Wrote text = with_number 4294967295 (λ n. replies.Wrote n) text
reply_by reply_names.FaultAfter text = with_number 4294967295 (λ n. replies.FaultAfter n) text
reply_by reply_names.At text = with_number 4294967295 (λ n. replies.At n) text
reply_by reply_names.Bad text = Some (replies.Bad, text)
reply_by reply_names.Done text = Some (replies.Done, text)
reply_by reply_names.Status text = status text
reply_by reply_names.Granted text = with_number 4294967295 (λ n. replies.Granted n) text
reply_by reply_names.NoSpace text = Some (replies.NoSpace, text)
reply_by reply_names.TooBig text = Some (replies.TooBig, text)

abbrev pub reply_at : List ℕ → Option (Reply × List ℕ)
reply_at text = field reply_name text >>= λ r. reply_by r.0 r.1

-- ---- lines

-- who asked, for what, and what was answered
abbrev pub said : List ℕ → Option (Entry × List ℕ)
said text = do
  process ← first_number 255 text
  op ← op_at process.1
  equals ← this_word (codes "=") op.1
  reply ← reply_at equals.1
  end ← next_line reply.1
  Some (record { process = process.0; op = op.0; reply = reply.0 }, end.1)

-- a purge is the system's, and nothing else
abbrev pub is_asked_by : Op → ℕ → Bool
is_asked_by ops.Purge process = process == 0
is_asked_by _ process = not (process == 0)

-- an entry of one of so many processes, or of the system
abbrev pub is_allowed : ℕ → Entry → Bool
is_allowed processes e = nat_le e.process processes && is_asked_by e.op e.process && is_reply_of e.op e.reply

-- the entry that a line is
abbrev pub entry : ℕ → List ℕ → Option (Entry × List ℕ)
entry processes text = said text >>= λ r. if is_allowed processes r.0 then Some r else None

-- how many processes a journal speaks of, and how many inodes their table holds
abbrev pub sizes : List ℕ → Option ((ℕ × ℕ) × List ℕ)
sizes text = do
  processes ← number 16 text
  table ← number 400 processes.1
  end ← next_line table.1
  if nat_le 1 processes.0 && nat_le 2 table.0 then Some ((processes.0, table.0), end.1) else None

-- the first line
abbrev pub head : List ℕ → Option ((ℕ × ℕ) × List ℕ)
head text = if pointwise nat_eq (first_word text).0 (codes "svj") then (this_word (codes "1") (first_word text).1 >>= λ form. sizes form.1)
    else None
