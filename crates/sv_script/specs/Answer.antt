-- The text of answers.
use Rattle.std.specs.Prelude.{◌≡◌, ◌<◌, ◌^◌, ◌++◌, ◌==◌, Bool, true, false, if◌then◌else◌, ℕ, List, length, codes}
use Rattle.std.specs.Fmt.{decimal, digits}
use Rattle.hex.specs.Hex.{encode_lower}
use Rattle.sv_form.specs.declared.kind.Kind.{Kind}
use Rattle.sv_form.specs.declared.kind.Kind.TheVariants as kinds
use Rattle.sv_script.specs.declared.answer.Answer.{Answer}
use Rattle.sv_script.specs.declared.answer.Answer.TheVariants as answers
use Rattle.sv_script.specs.declared.answer.Errno.{Errno}
use Rattle.sv_script.specs.declared.answer.Errno.TheVariants as errors
use Rattle.sv_script.specs.declared.call.Call.{Call}
use Rattle.sv_form.specs.Number.{AreBytes}
use Rattle.sv_script.specs.declared.verb.Verb.{Verb}
use Rattle.sv_script.specs.declared.verb.Verb.TheVariants as verbs
use Rattle.sv_script.specs.Verb.{verb_of_call, verb_text}

abbrev pub errno_text : Errno → List ℕ
errno_text errors.EIO = codes "EIO"
errno_text errors.ENOSPC = codes "ENOSPC"
errno_text errors.ENOENT = codes "ENOENT"
errno_text errors.EEXIST = codes "EEXIST"
errno_text errors.ENOTDIR = codes "ENOTDIR"
errno_text errors.EISDIR = codes "EISDIR"
errno_text errors.ENFILE = codes "ENFILE"
errno_text errors.EMFILE = codes "EMFILE"
errno_text errors.EBADF = codes "EBADF"
errno_text errors.EINVAL = codes "EINVAL"
errno_text errors.EMLINK = codes "EMLINK"
errno_text errors.EFBIG = codes "EFBIG"
errno_text errors.ENOTEMPTY = codes "ENOTEMPTY"
errno_text errors.ENOMEM = codes "ENOMEM"

abbrev pub kind_text : Kind → List ℕ
kind_text kinds.File = codes "f"
kind_text kinds.Dir = codes "d"

-- the number of bytes that were read, and their digits, or a dash for none
abbrev pub read_text : List ℕ → List ℕ
read_text bytes = decimal (length bytes) ++ codes " " ++ (if length bytes == 0 then codes "-" else encode_lower bytes)

-- octal without leading zeros
abbrev pub octal : ℕ → List ℕ
octal n = digits 8 false n

abbrev pub result_text : Answer → List ℕ
result_text answers.Zero = codes "0"
result_text (answers.Number n) = decimal n
result_text (answers.Read bytes) = read_text bytes
result_text (answers.Stat ino kind mode links size) =
    decimal ino ++ codes " " ++ kind_text kind ++ codes " " ++ octal mode ++ codes " " ++ decimal links ++ codes " " ++ decimal size
result_text (answers.Error errno) = errno_text errno
result_text (answers.ErrorAfter count) = codes "EIO " ++ decimal count

-- the line's number, the call's name, and what it answered
abbrev pub answer_text : ℕ → Call → Answer → List ℕ
answer_text line call answer = decimal line ++ codes " " ++ verb_text (verb_of_call call) ++ codes " = " ++ result_text answer

-- whether what a call answers, where nothing goes wrong, is a number; else it is 0, the bytes read, or a status
abbrev pub answers_number : Verb → Bool
answers_number verbs.Open = true
answers_number verbs.Creat = true
answers_number verbs.Mkdir = false
answers_number verbs.Read = false
answers_number verbs.Write = true
answers_number verbs.Fill = true
answers_number verbs.Lseek = true
answers_number verbs.Close = false
answers_number verbs.Dup = true
answers_number verbs.Link = false
answers_number verbs.Unlink = false
answers_number verbs.Rmdir = false
answers_number verbs.Chdir = false
answers_number verbs.Stat = false
answers_number verbs.Fstat = false
answers_number verbs.Sync = false

-- an answer that a call can give: Zero and a number never both; bytes and numbers are in their types
abbrev pub IsAnswer : Call → Answer → Type 0
IsAnswer call answers.Zero = answers_number (verb_of_call call) ≡ false
IsAnswer call (answers.Number n) = (answers_number (verb_of_call call) ≡ true) × (n < 2 ^ 32)
IsAnswer call (answers.Read bytes) = AreBytes bytes × (length bytes < 2 ^ 32)
IsAnswer call (answers.Stat ino kind mode links size) = (ino < 2 ^ 32) × (mode < 2 ^ 32) × (links < 2 ^ 32) × (size < 2 ^ 32)
IsAnswer call (answers.Error errno) = Unit {0}
IsAnswer call (answers.ErrorAfter count) = count < 2 ^ 32

-- no two answers of a call have one text
abbrev pub HaveOwnTexts : Type 0
HaveOwnTexts = (line : ℕ) (call : Call) (a b : Answer) → IsAnswer call a → IsAnswer call b
    → answer_text line call a ≡ answer_text line call b → a ≡ b
