-- A file system stays whole where bytes are written to an open file.
use Rattle.std.proofs.Common.{◌≡◌, ◌≤◌, ℕ, suc, ◌+◌, ◌==◌, inr, ◌||◌, true, ◌&&◌, List, length, take, Some, nat_le, nat_lt, sym, refl, ap, subst, ◌∙◌, arith}
use Rattle.std.proofs.lemmas.Bool.{leb-true}
use Rattle.std.proofs.lemmas.List.{length-take-le}
use Rattle.std.specs.FinMap as map
use Rattle.sv_form.specs.declared.kind.Kind.{Kind}
use Rattle.sv_form.specs.declared.kind.Kind.TheVariants.{File, Dir}
use Rattle.sv_form.specs.Node.{Node, used}
use Rattle.sv_plain.specs.declared.fs.mode.Mode.{Mode}
use Rattle.sv_plain.specs.declared.fs.mode.Mode.TheVariants.{R}
use Rattle.sv_plain.specs.declared.fs.opening.Opening.{Opening}
use Rattle.sv_plain.specs.declared.history.reply.Reply.{Reply}
use Rattle.sv_plain.specs.declared.history.reply.Reply.TheVariants.{Wrote, FaultAfter}
use Rattle.sv_plain.specs.Totals.{at_or_0}
use Rattle.sv_plain.specs.Fs.{Fs}
use Rattle.sv_plain.specs.Whole.{IsWhole}
use Rattle.sv_plain.specs.Names.{some_and, promise_of}
use Rattle.sv_plain.specs.Needs.{range_need, write_need}
use Rattle.sv_form.specs.NodeChanges.{put}
use Rattle.sv_plain.specs.Change.{spent, with_offset}
use Rattle.sv_plain.specs.Step.{writes, write_allowed, written, written_at, ends_page, write_replies, write_change}
use Rattle.sv_plain.proofs.Got.{and_left, and_right}
use Rattle.sv_plain.proofs.Used.{used_by_all-insert}
use Rattle.sv_plain.proofs.PagesPut.{used-put, need-fewer, node-put}
use Rattle.sv_plain.proofs.EntryRoom.{promised-spent}
use Rattle.sv_plain.proofs.KeepsReferences.{some_item}
use Rattle.sv_plain.proofs.KeepsRemoval.{Nodes}
use Rattle.sv_plain.proofs.KeepsFile.{keeps-file}
use Rattle.sv_plain.proofs.KeepsFiles.{keeps-same_file}
use Rattle.sv_plain.proofs.KeepsLinks.{changed-there}
use Rattle.sv_plain.proofs.KeepsNames.{some_bytes}
use Rattle.sv_plain.proofs.KeepsWhole.{passes}

-- what is open for writing is a regular file
written_kind : (k : Kind) (m : Mode) → (k ≡ Dir → m ≡ R) → writes m ≡ true → k ≡ File
written_kind File m only w = refl
written_kind Dir m only w = (let reads : writes m ≡ writes R = ap writes (only refl) in cc)

-- what a write to this file takes
pub need-is : (fs : Fs) (file count : ℕ) (f : Opening) (node : Node) → map.get fs.files file ≡ Some f → map.get fs.nodes f.inode ≡ Some node → write_need fs file count ≡ range_need fs.block node f.offset count
need-is fs file count f node on there =
    ap (at_or_0 (λ (g : Opening). at_or_0 (λ (n : Node). range_need fs.block n g.offset count) (map.get fs.nodes g.inode))) on
    ∙ ap (at_or_0 (λ (n : Node). range_need fs.block n f.offset count)) there

-- bytes that end at the greatest size at most, and that the promise pays for
keeps-written : (fs : Fs) (p file : ℕ) (bytes : List ℕ) (f : Opening) (node : Node) → IsWhole fs → map.get fs.files file ≡ Some f → map.get fs.nodes f.inode ≡ Some node → node.kind ≡ File
    → f.offset + length bytes ≤ fs.greatest → write_need fs file (length bytes) ≤ promise_of fs p → IsWhole (written fs p file bytes)
unfolding put
keeps-written fs p file bytes f node w on there plain fits paid =
    let need : ℕ = write_need fs file (length bytes) in
    let new : Node = put fs.block node f.offset bytes in
    let is = need-is fs file (length bytes) f node on there in
    let takes = used-put fs.block f.offset node bytes in
    let before : at_or_0 (used fs.block) (map.get fs.nodes f.inode) ≡ used fs.block node = ap (at_or_0 (used fs.block)) there in
    let links = w.links f.inode node there in
    let with_nodes : IsWhole (record fs { nodes = map.insert fs.nodes f.inode new; pending = fs.pending; promises = spent fs p need }) =
    keeps-file fs f.inode node new fs.pending (spent fs p need) w there plain
    (record {
      file = plain;
      node = node-put fs.block fs.greatest fs.inodes f.inode node f.offset bytes (some_bytes fs w) (w.nodes f.inode node there) fits;
      few = links.0;
      links = links.1;
      others = λ j ne. refl;
      on = λ q j e. inr e;
      blocks = omega (arith, w.blocks, used_by_all-insert fs.block fs.nodes f.inode new, before, takes, is, promised-spent fs p need paid);
    }) in
    let whole = keeps-same_file (record fs { nodes = map.insert fs.nodes f.inode new; pending = fs.pending; promises = spent fs p need }) file f (with_offset (f.offset + length bytes) f) with_nodes on
    (record { inode = refl; mode = refl; shared = (w.files file f on).shared; offset = fits }) in
    subst (λ o. IsWhole (written_at fs p file bytes o)) (sym on)
    (subst (λ (m : Nodes). IsWhole (record fs { nodes = m; files = map.insert fs.files file (with_offset (f.offset + length bytes) f); promises = spent fs p need }))
    (changed-there fs.nodes f.inode (λ n. put fs.block n f.offset bytes) node there)
    whole)

-- the first bytes of those that may be written, or all of them
keeps-first : (fs : Fs) (p file : ℕ) (bytes first : List ℕ) → IsWhole fs → write_allowed fs p file bytes ≡ true → length first ≤ length bytes → IsWhole (written fs p file first)
keeps-first fs p file bytes first w allowed few =
    let f = passes (map.get fs.files file) (λ (g : Opening). writes g.mode && nat_le (g.offset + length bytes) fs.greatest) (and_left _ (nat_le (write_need fs file (length bytes)) (promise_of fs p)) allowed) in
    let fits = leb-true (f.0.offset + length bytes) fs.greatest (and_right (writes f.0.mode) (nat_le (f.0.offset + length bytes) fs.greatest) f.2) in
    let paid = leb-true (write_need fs file (length bytes)) (promise_of fs p) (and_right (some_and (map.get fs.files file) (λ (g : Opening). writes g.mode && nat_le (g.offset + length bytes) fs.greatest)) _ allowed) in
    let opening = w.files file f.0 f.1 in
    let node = some_item (map.get fs.nodes f.0.inode) opening.there in
    let plain = written_kind node.0.kind f.0.mode (opening.read_only node.0 node.1) (and_left (writes f.0.mode) (nat_le (f.0.offset + length bytes) fs.greatest) f.2) in
    let fewer = need-fewer fs.block f.0.offset (length first) (length bytes) node.0 (some_bytes fs w) few in
    keeps-written fs p file first f.0 node.0 w f.1 node.1 plain (omega (arith, fits, few))
    (omega (arith, paid, fewer, need-is fs file (length first) f.0 node.0 f.1 node.1, need-is fs file (length bytes) f.0 node.0 f.1 node.1))

pub keeps-write : (fs : Fs) (p file : ℕ) (bytes : List ℕ) (reply : Reply) → IsWhole fs → write_allowed fs p file bytes ≡ true → write_replies fs file bytes reply ≡ true → IsWhole (write_change fs p file bytes reply)
keeps-write fs p file bytes (Wrote n) w allowed right = keeps-first fs p file bytes bytes w allowed (omega arith)
keeps-write fs p file bytes (FaultAfter k) w allowed right =
    let less = and_left (nat_lt k (length bytes)) ((k == 0) || ends_page fs file k) right in
    let low : k ≤ length bytes = (let h = leb-true (suc k) (length bytes) less in omega (arith, h)) in
    let few = length-take-le k bytes low in
    keeps-first fs p file bytes (take k bytes) w allowed (omega (arith, few, low))
keeps-write fs p file bytes _ w allowed right = w
