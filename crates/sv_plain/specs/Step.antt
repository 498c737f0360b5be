-- The steps of the one-process file system: for each op its condition, its replies in the order in which they are tried,
-- and what each reply changes. A reply has its whole cause: the causes of the replies before it are excluded by the words
-- that they share. A fault is always among the replies of the ops that have it: whether the device failed is not said
-- here.
use Rattle.std.specs.Prelude.{◌≡◌, ◌+◌, ◌-◌, ◌%◌, ◌==◌, ◌&&◌, ◌||◌, ℕ, ℤ, pos, negsuc, ◌+ℤ◌, Bool, true, false, not, List, [], ◌∷◌, length}
use Rattle.std.specs.Prelude.{take, min, Option, Some, None, nat_le, nat_lt, if◌then◌else◌}
use Rattle.std.specs.FinMap as map
use Rattle.sv_form.specs.declared.kind.Kind.{Kind}
use Rattle.sv_form.specs.declared.kind.Kind.TheVariants.{File, Dir}
use Rattle.sv_form.specs.Node.{Node, bytes_of}
use Rattle.sv_plain.specs.declared.fs.mode.Mode.{Mode}
use Rattle.sv_plain.specs.declared.fs.mode.Mode.TheVariants.{R, W, RW}
use Rattle.sv_plain.specs.declared.fs.opening.Opening.{Opening}
use Rattle.sv_plain.specs.declared.history.need.Need.{Need}
use Rattle.sv_plain.specs.declared.history.need.Need.TheVariants as need
use Rattle.sv_plain.specs.declared.history.op.Op.{Op}
use Rattle.sv_plain.specs.declared.history.op.Op.TheVariants.{Look, Drop, Create, AddLink, Enter, SubLink, Unlink, Rmdir, OpenFile, CloseFile}
use Rattle.sv_plain.specs.declared.history.op.Op.TheVariants.{DupFile, Read, Write, Seek, Trunc, Stat, Promise, Forgo, Sync, Purge}
use Rattle.sv_plain.specs.declared.history.reply.Reply.{Reply}
use Rattle.sv_plain.specs.declared.history.reply.Reply.TheVariants.{Found, NotFound, NotDir, Gone, Full, Fault, Kept, Freed, Late, LateMemory, Made}
use Rattle.sv_plain.specs.declared.history.reply.Reply.TheVariants.{ManyLinks, NoInode, Raised, IsDir, Entered, Exists, Lowered, Removed, Plain}
use Rattle.sv_plain.specs.declared.history.reply.Reply.TheVariants.{NotEmpty, Opened, Dupped, Got, Wrote, FaultAfter, At, Bad, Done, Status}
use Rattle.sv_plain.specs.declared.history.reply.Reply.TheVariants.{Granted, NoSpace, TooBig}
use Rattle.sv_plain.specs.Totals.{at_or_0}
use Rattle.sv_plain.specs.Fs.{Fs, is_referenced, is_full_for, free_inodes, room, changed}
use Rattle.sv_plain.specs.Names.{some_and, same_bytes, same_kind, has_more, is_directory, links_of, is_missing, child_passes, has_reference}
use Rattle.sv_plain.specs.Names.{promise_of, is_pending, is_opened, is_lowest_unused, is_table_full, is_idle, is_lost}
use Rattle.sv_plain.specs.Needs.{write_need, enter_need, make_need, need_of}
use Rattle.sv_form.specs.NodeChanges.{put, emptied}
use Rattle.sv_plain.specs.Change.{with_entry, without_entry, with_links, new_node, one_more, one_less, spent, changed_file, with_offset}
use Rattle.sv_plain.specs.Change.{with_reference, without_reference, without_share, without_node, without_lost}

-- ---- Look

abbrev pub look_allowed : Fs → ℕ → ℕ → Bool
look_allowed fs p d = has_reference fs p d

abbrev pub look_replies : Fs → ℕ → List ℕ → Reply → Bool
look_replies fs d name NotDir = not (is_directory fs d)
look_replies fs d name Gone = is_directory fs d && (links_of fs d == 0)
look_replies fs d name NotFound = is_missing fs d name
look_replies fs d name Full = child_passes fs d name (is_full_for fs)
look_replies fs d name (Found i) = child_passes fs d name (λ c. (c == i) && not (is_full_for fs c))
look_replies fs d name Fault = true
look_replies fs d name _ = false

abbrev pub look_change : Fs → ℕ → Reply → Fs
look_change fs p (Found i) = with_reference fs p i
look_change fs p _ = fs

-- ---- Drop

abbrev pub drop_allowed : Fs → ℕ → ℕ → Bool
drop_allowed fs p i = has_reference fs p i

-- no link leads to inode i, and nothing refers to it
abbrev pub is_left : Fs → ℕ → Bool
is_left fs i = (links_of fs i == 0) && not (is_referenced fs i)

abbrev pub last_replies : Bool → Reply → Bool
last_replies last Kept = not last
last_replies last Freed = last
last_replies last Late = last
last_replies last LateMemory = last
last_replies last _ = false

abbrev pub drop_replies : Fs → ℕ → ℕ → Reply → Bool
drop_replies fs p i reply = last_replies (is_left (without_reference fs p i) i) reply

abbrev pub drop_change : Fs → ℕ → ℕ → Reply → Fs
drop_change fs p i Freed = without_node (without_reference fs p i) i
drop_change fs p i _ = without_reference fs p i

-- ---- Create

abbrev pub create_need : Fs → ℕ → List ℕ → Kind → ℕ
create_need fs d name File = enter_need fs d name
create_need fs d name Dir = make_need fs d name

abbrev pub create_allowed : Fs → ℕ → ℕ → List ℕ → Kind → ℕ → Bool
create_allowed fs p d name kind mode = has_reference fs p d && (nat_le mode 4095 && nat_le (create_need fs d name kind) (promise_of fs p))

-- a directory has a link of each directory in it
abbrev pub has_many_links : Fs → ℕ → Kind → Bool
has_many_links fs d File = false
has_many_links fs d Dir = links_of fs d == 1000

-- the name is missing, and one file or directory more may have it
abbrev pub takes_one_more : Fs → ℕ → List ℕ → Kind → Bool
takes_one_more fs d name kind = is_missing fs d name && not (has_many_links fs d kind)

abbrev pub has_inode : Fs → ℕ → List ℕ → Kind → Bool
has_inode fs d name kind = takes_one_more fs d name kind && not (free_inodes fs == 0)

-- i is a number from 2 to the inode count without a node
abbrev pub is_free : Fs → ℕ → Bool
is_free fs i = nat_le 2 i && (nat_le i fs.inodes && not (map.contains_key fs.nodes i))

abbrev pub create_replies : Fs → ℕ → List ℕ → Kind → Reply → Bool
create_replies fs d name kind NotDir = not (is_directory fs d)
create_replies fs d name kind Gone = is_directory fs d && (links_of fs d == 0)
create_replies fs d name kind (Found i) = child_passes fs d name (λ c. (c == i) && not (is_full_for fs c))
create_replies fs d name kind ManyLinks = is_missing fs d name && has_many_links fs d kind
create_replies fs d name kind NoInode = takes_one_more fs d name kind && (free_inodes fs == 0)
create_replies fs d name kind Full = child_passes fs d name (is_full_for fs) || (has_inode fs d name kind && is_table_full fs)
create_replies fs d name kind (Made i) = has_inode fs d name kind && (not (is_table_full fs) && is_free fs i)
create_replies fs d name kind Fault = true
create_replies fs d name kind _ = false

-- the links of a directory once a file or a directory was made in it
abbrev pub links_made : Kind → ℕ → ℕ
links_made File links = links
links_made Dir links = links + 1

abbrev pub create_change : Fs → ℕ → ℕ → List ℕ → Kind → ℕ → Reply → Fs
create_change fs p d name kind mode (Found i) = with_reference fs p i
create_change fs p d name kind mode (Made i) = record fs {
  nodes = map.insert (changed fs.nodes d (λ node. with_links (links_made kind) (with_entry fs.block i name node))) i
      (new_node fs.block i d mode kind);
  references = one_more fs p i;
  promises = spent fs p (create_need fs d name kind);
}
create_change fs p d name kind mode _ = fs

-- ---- AddLink

abbrev pub add_link_allowed : Fs → ℕ → ℕ → Bool
add_link_allowed fs p i = has_reference fs p i && not (map.contains_key fs.pending p)

abbrev pub add_link_replies : Fs → ℕ → Reply → Bool
add_link_replies fs i IsDir = is_directory fs i
add_link_replies fs i Gone = not (is_directory fs i) && (links_of fs i == 0)
add_link_replies fs i ManyLinks = not (is_directory fs i) && (links_of fs i == 1000)
add_link_replies fs i Raised = not (is_directory fs i) && (not (links_of fs i == 0) && not (links_of fs i == 1000))
add_link_replies fs i Fault = true
add_link_replies fs i _ = false

abbrev pub add_link_change : Fs → ℕ → ℕ → Reply → Fs
add_link_change fs p i Raised = record fs {
  nodes = changed fs.nodes i (with_links (λ links. links + 1));
  pending = map.insert fs.pending p i;
}
add_link_change fs p i _ = fs

-- ---- Enter

abbrev pub enter_allowed : Fs → ℕ → ℕ → List ℕ → ℕ → Bool
enter_allowed fs p d name i = has_reference fs p d && (is_pending fs p i && nat_le (enter_need fs d name) (promise_of fs p))

abbrev pub enter_replies : Fs → ℕ → List ℕ → Reply → Bool
enter_replies fs d name NotDir = not (is_directory fs d)
enter_replies fs d name Gone = is_directory fs d && (links_of fs d == 0)
enter_replies fs d name Exists = child_passes fs d name (λ _. true)
enter_replies fs d name Entered = is_missing fs d name
enter_replies fs d name Fault = true
enter_replies fs d name _ = false

abbrev pub enter_change : Fs → ℕ → ℕ → List ℕ → ℕ → Reply → Fs
enter_change fs p d name i Entered = record fs {
  nodes = changed fs.nodes d (with_entry fs.block i name);
  promises = spent fs p (enter_need fs d name);
  pending = map.remove fs.pending p;
}
enter_change fs p d name i _ = fs

-- ---- SubLink

abbrev pub sub_link_allowed : Fs → ℕ → ℕ → Bool
sub_link_allowed fs p i = has_reference fs p i && is_pending fs p i

abbrev pub sub_link_replies : Reply → Bool
sub_link_replies Lowered = true
sub_link_replies _ = false

abbrev pub sub_link_change : Fs → ℕ → ℕ → Reply → Fs
sub_link_change fs p i Lowered = record fs {
  nodes = changed fs.nodes i (with_links (λ links. links - 1));
  pending = map.remove fs.pending p;
}
sub_link_change fs p i _ = fs

-- ---- Unlink

-- the names that each directory has for itself and for the one above are never removed
abbrev pub is_dots : List ℕ → Bool
is_dots name = same_bytes name (46 ∷ []) || same_bytes name (46 ∷ 46 ∷ [])

abbrev pub unlink_allowed : Fs → ℕ → ℕ → List ℕ → Bool
unlink_allowed fs p d name = has_reference fs p d && not (is_dots name)

abbrev pub unlink_replies : Fs → ℕ → List ℕ → Reply → Bool
unlink_replies fs d name NotDir = not (is_directory fs d)
unlink_replies fs d name Gone = is_directory fs d && (links_of fs d == 0)
unlink_replies fs d name NotFound = is_missing fs d name
unlink_replies fs d name Full = child_passes fs d name (is_full_for fs)
unlink_replies fs d name IsDir = child_passes fs d name (λ c. not (is_full_for fs c) && is_directory fs c)
unlink_replies fs d name (Removed i) = child_passes fs d name (λ c. (c == i) && (not (is_full_for fs c) && not (is_directory fs c)))
unlink_replies fs d name Fault = true
unlink_replies fs d name _ = false

abbrev pub unlink_change : Fs → ℕ → ℕ → List ℕ → Reply → Fs
unlink_change fs p d name (Removed i) = record fs {
  nodes = changed (changed fs.nodes d (without_entry fs.block name)) i (with_links (λ links. links - 1));
  references = one_more fs p i;
}
unlink_change fs p d name _ = fs

-- ---- Rmdir

-- directory i has an entry besides `.` and `..`
abbrev pub is_in_use : Fs → ℕ → Bool
is_in_use fs i = some_and (map.get fs.nodes i) (has_more fs.block)

abbrev pub rmdir_replies : Fs → ℕ → List ℕ → Reply → Bool
rmdir_replies fs d name NotDir = not (is_directory fs d)
rmdir_replies fs d name Gone = is_directory fs d && (links_of fs d == 0)
rmdir_replies fs d name NotFound = is_missing fs d name
rmdir_replies fs d name Full = child_passes fs d name (is_full_for fs)
rmdir_replies fs d name Plain = child_passes fs d name (λ c. not (is_full_for fs c) && not (is_directory fs c))
rmdir_replies fs d name NotEmpty = child_passes fs d name (λ c. not (is_full_for fs c) && (is_directory fs c && is_in_use fs c))
rmdir_replies fs d name (Removed i) = child_passes fs d name (λ c. (c == i)
    && (not (is_full_for fs c) && (is_directory fs c && not (is_in_use fs c))))
rmdir_replies fs d name Fault = true
rmdir_replies fs d name _ = false

abbrev pub rmdir_change : Fs → ℕ → ℕ → List ℕ → Reply → Fs
rmdir_change fs p d name (Removed i) = record fs {
  nodes = changed (changed fs.nodes d (λ node. with_links (λ links. links - 1) (without_entry fs.block name node))) i (with_links (λ _. 0));
  references = one_more fs p i;
}
rmdir_change fs p d name _ = fs

-- ---- OpenFile

abbrev pub open_allowed : Fs → ℕ → ℕ → Bool
open_allowed fs p i = has_reference fs p i && nat_lt (map.len fs.files) 640

abbrev pub reads : Mode → Bool
reads R = true
reads W = false
reads RW = true

abbrev pub writes : Mode → Bool
writes R = false
writes W = true
writes RW = true

abbrev pub open_replies : Fs → ℕ → Mode → Reply → Bool
open_replies fs i mode IsDir = is_directory fs i && writes mode
open_replies fs i mode (Opened f) = not (is_directory fs i && writes mode) && is_lowest_unused fs f
open_replies fs i mode Fault = true
open_replies fs i mode _ = false

abbrev pub open_change : Fs → ℕ → ℕ → Mode → Reply → Fs
open_change fs p i mode (Opened f) = record fs {
  references = one_less fs p i;
  files = map.insert fs.files f (record { inode = i; mode = mode; offset = 0; count = 1 });
}
open_change fs p i mode _ = fs

-- ---- CloseFile

abbrev pub has_file : Fs → ℕ → Bool
has_file fs file = map.contains_key fs.files file

abbrev pub inode_of_file : Fs → ℕ → ℕ
inode_of_file fs file = at_or_0 (λ f. f.inode) (map.get fs.files file)

-- the last share goes, and with it the last that refers to an inode without links
abbrev pub closes_last : Fs → ℕ → Bool
closes_last fs file = not (has_file (without_share fs file) file) && is_left (without_share fs file) (inode_of_file fs file)

abbrev pub close_replies : Fs → ℕ → Reply → Bool
close_replies fs file reply = last_replies (closes_last fs file) reply

abbrev pub close_change : Fs → ℕ → Reply → Fs
close_change fs file Freed = without_node (without_share fs file) (inode_of_file fs file)
close_change fs file _ = without_share fs file

-- ---- DupFile

abbrev pub dup_replies : Reply → Bool
dup_replies Dupped = true
dup_replies _ = false

abbrev pub dup_change : Fs → ℕ → Reply → Fs
dup_change fs file Dupped = record fs { files = changed_file fs file (λ f. record f { count = f.count + 1 }) }
dup_change fs file _ = fs

-- ---- Read

abbrev pub read_allowed : Fs → ℕ → Bool
read_allowed fs file = some_and (map.get fs.files file) (λ f. reads f.mode)

-- the bytes from the offset on, at most `count`, up to the size
abbrev pub file_bytes : ℕ → Node → ℕ → ℕ → List ℕ
file_bytes block node offset count = bytes_of block node offset (min count (node.size - offset))

abbrev pub read_replies : Fs → ℕ → ℕ → Reply → Bool
read_replies fs file count (Got bytes) =
    some_and (map.get fs.files file) (λ f. some_and (map.get fs.nodes f.inode)
    (λ node. same_bytes bytes (file_bytes fs.block node f.offset count)))
read_replies fs file count Fault = true
read_replies fs file count _ = false

abbrev pub read_change : Fs → ℕ → Reply → Fs
read_change fs file (Got bytes) = record fs { files = changed_file fs file (λ f. with_offset (f.offset + length bytes) f) }
read_change fs file _ = fs

-- ---- Write

abbrev pub write_allowed : Fs → ℕ → ℕ → List ℕ → Bool
write_allowed fs p file bytes =
    some_and (map.get fs.files file) (λ f. writes f.mode && nat_le (f.offset + length bytes) fs.greatest)
    && nat_le (write_need fs file (length bytes)) (promise_of fs p)

-- k bytes from the offset on end at the boundary of a page
abbrev pub ends_page : Fs → ℕ → ℕ → Bool
ends_page fs file k = some_and (map.get fs.files file) (λ f. (f.offset + k) % fs.block == 0)

abbrev pub write_replies : Fs → ℕ → List ℕ → Reply → Bool
write_replies fs file bytes (Wrote n) = n == length bytes
write_replies fs file bytes (FaultAfter k) = nat_lt k (length bytes) && ((k == 0) || ends_page fs file k)
write_replies fs file bytes _ = false

abbrev pub written_at : Fs → ℕ → ℕ → List ℕ → Option Opening → Fs
written_at fs p file bytes None = fs
written_at fs p file bytes (Some f) = record fs {
  nodes = changed fs.nodes f.inode (λ node. put fs.block node f.offset bytes);
  files = map.insert fs.files file (with_offset (f.offset + length bytes) f);
  promises = spent fs p (write_need fs file (length bytes));
}

-- the state once these bytes were written
abbrev pub written : Fs → ℕ → ℕ → List ℕ → Fs
written fs p file bytes = written_at fs p file bytes (map.get fs.files file)

abbrev pub write_change : Fs → ℕ → ℕ → List ℕ → Reply → Fs
write_change fs p file bytes (Wrote n) = written fs p file bytes
write_change fs p file bytes (FaultAfter k) = written fs p file (take k bytes)
write_change fs p file bytes _ = fs

-- ---- Seek

abbrev pub seek_allowed : Fs → ℕ → ℕ → Bool
seek_allowed fs file whence = has_file fs file && nat_le whence 2

-- from where an offset counts: the beginning, where the file is, or the end
abbrev pub seek_base : Fs → ℕ → Opening → ℕ
seek_base fs whence f =
    if whence == 0 then 0
    else (if whence == 1 then f.offset
    else at_or_0 (λ node. node.size) (map.get fs.nodes f.inode))

abbrev pub not_negative : ℤ → Option ℕ
not_negative (pos n) = Some n
not_negative (negsuc n) = None

-- where a file gets to, unless that is before its beginning
abbrev pub seek_target : Fs → ℕ → ℤ → ℕ → Option ℕ
seek_target fs file offset whence = not_negative (pos (at_or_0 (seek_base fs whence) (map.get fs.files file)) +ℤ offset)

abbrev pub seek_replies : Fs → ℕ → ℤ → ℕ → Reply → Bool
seek_replies fs file offset whence Bad = not (some_and (seek_target fs file offset whence) (λ n. nat_le n fs.greatest))
seek_replies fs file offset whence (At n) = some_and (seek_target fs file offset whence) (λ t. (t == n) && nat_le t fs.greatest)
seek_replies fs file offset whence _ = false

abbrev pub seek_change : Fs → ℕ → Reply → Fs
seek_change fs file (At n) = record fs { files = changed_file fs file (with_offset n) }
seek_change fs file _ = fs

-- ---- Trunc

abbrev pub trunc_replies : Fs → ℕ → Reply → Bool
trunc_replies fs i IsDir = is_directory fs i
trunc_replies fs i Done = not (is_directory fs i)
trunc_replies fs i Fault = true
trunc_replies fs i _ = false

abbrev pub trunc_change : Fs → ℕ → Reply → Fs
trunc_change fs i Done = record fs { nodes = changed fs.nodes i emptied }
trunc_change fs i _ = fs

-- ---- Stat

abbrev pub stat_allowed : Fs → ℕ → ℕ → Bool
stat_allowed fs p i = has_reference fs p i || is_opened fs i

abbrev pub stat_replies : Fs → ℕ → Reply → Bool
stat_replies fs i (Status kind mode links size) =
    some_and (map.get fs.nodes i) (λ node. same_kind node.kind kind && ((node.mode == mode)
    && ((node.links == links) && (node.size == size))))
stat_replies fs i Fault = true
stat_replies fs i _ = false

-- ---- Promise

abbrev pub promise_allowed : Fs → ℕ → Need → Bool
promise_allowed fs p (need.Write file count) = not (map.contains_key fs.promises p) && some_and (map.get fs.files file) (λ f. writes f.mode)
promise_allowed fs p (need.Enter d name) = not (map.contains_key fs.promises p) && has_reference fs p d
promise_allowed fs p (need.Make d name) = not (map.contains_key fs.promises p) && has_reference fs p d

-- the write would end past the greatest size of a file
abbrev pub is_too_big : Fs → Need → Bool
is_too_big fs (need.Write file count) = nat_lt 0 count && some_and (map.get fs.files file) (λ f. nat_lt fs.greatest (f.offset + count))
is_too_big fs (need.Enter d name) = false
is_too_big fs (need.Make d name) = false

abbrev pub promise_replies : Fs → Need → Reply → Bool
promise_replies fs n TooBig = is_too_big fs n
promise_replies fs n NoSpace = not (is_too_big fs n) && nat_lt (room fs) (need_of fs n)
promise_replies fs n (Granted blocks) = not (is_too_big fs n) && (nat_le (need_of fs n) (room fs) && (blocks == need_of fs n))
promise_replies fs n Fault = true
promise_replies fs n _ = false

abbrev pub promise_change : Fs → ℕ → Reply → Fs
promise_change fs p (Granted blocks) = record fs { promises = map.insert fs.promises p blocks }
promise_change fs p _ = fs

-- ---- Forgo and Sync

abbrev pub forgo_replies : Reply → Bool
forgo_replies Done = true
forgo_replies _ = false

abbrev pub forgo_change : Fs → ℕ → Reply → Fs
forgo_change fs p Done = record fs { promises = map.remove fs.promises p }
forgo_change fs p _ = fs

abbrev pub sync_replies : Reply → Bool
sync_replies Done = true
sync_replies Fault = true
sync_replies _ = false

-- ---- Purge

abbrev pub purge_allowed : Fs → ℕ → Bool
purge_allowed fs p = (p == 0) && is_idle fs

-- some node is there that no name leads to
abbrev pub has_lost : Fs → Bool
has_lost fs = not (map.len (without_lost fs).nodes == map.len fs.nodes)

abbrev pub purge_replies : Fs → Reply → Bool
purge_replies fs Done = true
purge_replies fs Late = has_lost fs
purge_replies fs LateMemory = has_lost fs
purge_replies fs _ = false

abbrev pub purge_change : Fs → Reply → Fs
purge_change fs Done = without_lost fs
purge_change fs _ = fs

-- ---- all ops

-- the condition of an op: where it fails, the op is illegal
abbrev pub condition : Fs → ℕ → Op → Bool
condition fs p (Look dir name) = look_allowed fs p dir
condition fs p (Drop ino) = drop_allowed fs p ino
condition fs p (Create dir name kind mode) = create_allowed fs p dir name kind mode
condition fs p (AddLink ino) = add_link_allowed fs p ino
condition fs p (Enter dir name ino) = enter_allowed fs p dir name ino
condition fs p (SubLink ino) = sub_link_allowed fs p ino
condition fs p (Unlink dir name) = unlink_allowed fs p dir name
condition fs p (Rmdir dir name) = unlink_allowed fs p dir name
condition fs p (OpenFile ino mode) = open_allowed fs p ino
condition fs p (CloseFile file) = has_file fs file
condition fs p (DupFile file) = has_file fs file
condition fs p (Read file count) = read_allowed fs file
condition fs p (Write file bytes) = write_allowed fs p file bytes
condition fs p (Seek file offset whence) = seek_allowed fs file whence
condition fs p (Trunc ino) = has_reference fs p ino
condition fs p (Stat ino) = stat_allowed fs p ino
condition fs p (Promise n) = promise_allowed fs p n
condition fs p Forgo = true
condition fs p Sync = true
condition fs p Purge = purge_allowed fs p

-- the replies that an op may have
abbrev pub replies : Fs → ℕ → Op → Reply → Bool
replies fs p (Look dir name) reply = look_replies fs dir name reply
replies fs p (Drop ino) reply = drop_replies fs p ino reply
replies fs p (Create dir name kind mode) reply = create_replies fs dir name kind reply
replies fs p (AddLink ino) reply = add_link_replies fs ino reply
replies fs p (Enter dir name ino) reply = enter_replies fs dir name reply
replies fs p (SubLink ino) reply = sub_link_replies reply
replies fs p (Unlink dir name) reply = unlink_replies fs dir name reply
replies fs p (Rmdir dir name) reply = rmdir_replies fs dir name reply
replies fs p (OpenFile ino mode) reply = open_replies fs ino mode reply
replies fs p (CloseFile file) reply = close_replies fs file reply
replies fs p (DupFile file) reply = dup_replies reply
replies fs p (Read file count) reply = read_replies fs file count reply
replies fs p (Write file bytes) reply = write_replies fs file bytes reply
replies fs p (Seek file offset whence) reply = seek_replies fs file offset whence reply
replies fs p (Trunc ino) reply = trunc_replies fs ino reply
replies fs p (Stat ino) reply = stat_replies fs ino reply
replies fs p (Promise n) reply = promise_replies fs n reply
replies fs p Forgo reply = forgo_replies reply
replies fs p Sync reply = sync_replies reply
replies fs p Purge reply = purge_replies fs reply

-- the state after a reply. Of a purge that came late, the one in which no node goes
abbrev pub change_of : Fs → ℕ → Op → Reply → Fs
change_of fs p (Look dir name) reply = look_change fs p reply
change_of fs p (Drop ino) reply = drop_change fs p ino reply
change_of fs p (Create dir name kind mode) reply = create_change fs p dir name kind mode reply
change_of fs p (AddLink ino) reply = add_link_change fs p ino reply
change_of fs p (Enter dir name ino) reply = enter_change fs p dir name ino reply
change_of fs p (SubLink ino) reply = sub_link_change fs p ino reply
change_of fs p (Unlink dir name) reply = unlink_change fs p dir name reply
change_of fs p (Rmdir dir name) reply = rmdir_change fs p dir name reply
change_of fs p (OpenFile ino mode) reply = open_change fs p ino mode reply
change_of fs p (CloseFile file) reply = close_change fs file reply
change_of fs p (DupFile file) reply = dup_change fs file reply
change_of fs p (Read file count) reply = read_change fs file reply
change_of fs p (Write file bytes) reply = write_change fs p file bytes reply
change_of fs p (Seek file offset whence) reply = seek_change fs file reply
change_of fs p (Trunc ino) reply = trunc_change fs ino reply
change_of fs p (Stat ino) reply = fs
change_of fs p (Promise n) reply = promise_change fs p reply
change_of fs p Forgo reply = forgo_change fs p reply
change_of fs p Sync reply = fs
change_of fs p Purge reply = purge_change fs reply

-- ---- a step

-- some of the nodes that no name leads to and that nothing refers to went, and at least one stays
pub record HasPurgedSome (fs after : Fs) : Type 0 where
  pub gone : ℕ → Bool
  pub lost : (i : ℕ) → gone i ≡ true → is_lost fs i ≡ true
  pub stays : (i : ℕ) × (is_lost fs i ≡ true) × (gone i ≡ false)
  pub changed : after ≡ record fs { nodes = map.retain_keys fs.nodes (λ i. not (gone i)) }

abbrev pub HasPurged : Fs → Reply → Fs → Type 0
HasPurged fs Late after = HasPurgedSome fs after
HasPurged fs LateMemory after = HasPurgedSome fs after
HasPurged fs reply after = after ≡ purge_change fs reply

-- the state after a reply: one state, but where a purge came late
abbrev pub HasChanged : Fs → ℕ → Op → Reply → Fs → Type 0
HasChanged fs p Purge reply after = HasPurged fs reply after
HasChanged fs p op reply after = after ≡ change_of fs p op reply

-- process p takes fs to `after` by this op with this reply
pub record Step (fs : Fs) (p : ℕ) (op : Op) (reply : Reply) (after : Fs) : Type 0 where
  pub allowed : condition fs p op ≡ true
  pub right : replies fs p op reply ≡ true
  pub changed : HasChanged fs p op reply after
