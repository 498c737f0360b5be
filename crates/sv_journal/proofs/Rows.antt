-- Worked lines: what a run wrote that makes a directory and a file, writes, reads and looks at it.
use Rattle.std.proofs.Common.{◌≡◌, ℕ, pos, negsuc, List, [], ◌∷◌, codes, refl, true, false}
use Rattle.std.specs.Fmt.{digits}
use Rattle.hex.specs.Hex.{encode_with}
use Rattle.sv_form.specs.declared.kind.Kind.TheVariants.{File, Dir}
use Rattle.sv_plain.specs.declared.fs.mode.Mode.TheVariants.{RW}
use Rattle.sv_plain.specs.declared.history.need.Need.TheVariants as need
use Rattle.sv_plain.specs.declared.history.op.Op.{Op}
use Rattle.sv_plain.specs.declared.history.op.Op.TheVariants.{Look, Drop, Create, OpenFile, Read, Write, Seek, Stat, Promise, Forgo, Purge}
use Rattle.sv_plain.specs.declared.history.reply.Reply.{Reply}
use Rattle.sv_plain.specs.declared.history.reply.Reply.TheVariants.{Found, Kept, Made, Opened, Got, Wrote, At, Bad, Done, Status, Granted, LateMemory}
use Rattle.sv_journal.specs.Allowed.{is_reply_of}
use Rattle.sv_journal.specs.Spelling.{entry_line, head_line, journal_text}

-- the name `home`
abbrev home : List ℕ
home = 104 ∷ 111 ∷ 109 ∷ 101 ∷ []

abbrev by_1 : Op → Reply → List ℕ
by_1 op reply = entry_line (record { process = 1; op = op; reply = reply })

pub first_line : head_line 1 100 ≡ codes "svj 1 1 100\n"
unfolding digits
first_line = refl

pub promise_line : by_1 (Promise (need.Make 2 home)) (Granted 1) ≡ codes "1 promise make 2 686f6d65 = granted 1\n"
unfolding digits encode_with
promise_line = refl

pub create_line : by_1 (Create 2 home Dir 493) (Made 3) ≡ codes "1 create 2 686f6d65 d 755 = made 3\n"
unfolding digits encode_with
create_line = refl

pub open_line : by_1 (OpenFile 4 RW) (Opened 0) ≡ codes "1 open 4 rw = opened 0\n"
unfolding digits
open_line = refl

pub write_line : by_1 (Write 0 (104 ∷ 101 ∷ 108 ∷ 108 ∷ 111 ∷ 10 ∷ [])) (Wrote 6) ≡ codes "1 write 0 68656c6c6f0a = wrote 6\n"
unfolding digits encode_with
write_line = refl

pub read_line : by_1 (Read 0 4) (Got (101 ∷ 108 ∷ 108 ∷ 111 ∷ [])) ≡ codes "1 read 0 4 = got 656c6c6f\n"
unfolding digits encode_with
read_line = refl

-- no bytes
pub read_none_line : by_1 (Read 0 4) (Got []) ≡ codes "1 read 0 4 = got -\n"
unfolding digits encode_with
read_none_line = refl

pub seek_line : by_1 (Seek 0 (pos 1) 0) (At 1) ≡ codes "1 seek 0 1 0 = at 1\n"
unfolding digits
seek_line = refl

-- backwards by 3
pub seek_back_line : by_1 (Seek 0 (negsuc 2) 1) Bad ≡ codes "1 seek 0 -3 1 = bad\n"
unfolding digits
seek_back_line = refl

pub stat_line : by_1 (Stat 4) (Status File 420 1 6) ≡ codes "1 stat 4 = is f 644 1 6\n"
unfolding digits
stat_line = refl

pub short_journal : journal_text 1 100 (record { process = 1; op = Drop 2; reply = Kept } ∷ record { process = 0; op = Purge; reply = Done } ∷ []) ≡ codes "svj 1 1 100\n1 drop 2 = kept\n0 purge = done\n"
unfolding journal_text digits
short_journal = refl

-- ---- which replies stand behind which op

pub look_finds : is_reply_of (Look 2 home) (Found 3) ≡ true
look_finds = refl

pub purge_keeps_nothing : is_reply_of Purge Kept ≡ false
purge_keeps_nothing = refl

pub drop_is_late : is_reply_of (Drop 2) LateMemory ≡ true
drop_is_late = refl

pub forgo_does_not_fail : is_reply_of Forgo (Wrote 6) ≡ false
forgo_does_not_fail = refl
