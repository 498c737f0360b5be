-- Each step leaves a whole file system whole, op by op.
use Rattle.std.proofs.Common.{◌≡◌, ◌≢◌, ◌≤◌, ◌<◌, ℕ, ◌==◌, Bool, true, false, not, ◌&&◌, List, Option, Some, None, IsSome, option_map, option_and_then, length, get_or, nat_le, nat_lt, sym, refl, ap, subst, ◌∙◌, arith, ◌+◌, ◌-◌, ℤ, suc, [], ◌∷◌, min, nat_eq}
use Rattle.std.proofs.lemmas.Bool.{false≢true, eqb-true, leb-true}
use Rattle.std.proofs.lemmas.Bool.Decides.{nat_tests}
use Rattle.std.proofs.lemmas.List.Quantifiers.{position-Some}
use Rattle.std.proofs.lemmas.List.FromFn.{length-range_with_len, length-map-range_with_len, get_or-range_with_len}
use Rattle.std.specs.List.{range_with_len}
use Rattle.std.specs.FinMap as map
use Rattle.sv_form.specs.Node.{Node, is_dir, byte_of, bytes_of, entry_inode, entry_count}
use Rattle.sv_plain.specs.declared.fs.mode.Mode.{Mode}
use Rattle.sv_plain.specs.declared.fs.opening.Opening.{Opening}
use Rattle.sv_plain.specs.declared.history.need.Need.{Need}
use Rattle.sv_plain.specs.declared.history.reply.Reply.{Reply}
use Rattle.sv_plain.specs.declared.history.reply.Reply.TheVariants.{Found, Freed, Opened, Dupped, Got, At, Done, Granted}
use Rattle.sv_plain.specs.Totals.{at_or_0}
use Rattle.sv_plain.specs.Fs.{Fs, holders, is_full_for, is_live, is_referenced, room}
use Rattle.sv_plain.specs.Whole.{IsWhole}
use Rattle.sv_plain.specs.Names.{some_and, same_bytes, is_lowest_unused, is_entry, place_of, child_of, child, is_directory, is_open_to_names, has_reference, links_of}
use Rattle.sv_plain.specs.Needs.{need_of}
use Rattle.sv_plain.specs.Change.{with_offset, without_reference, without_share}
use Rattle.sv_plain.specs.Step.{writes, open_replies, open_change, has_file, inode_of_file, close_replies, close_change, dup_change, seek_target, seek_replies, seek_change, file_bytes, read_replies, read_change, look_replies, look_change, drop_replies, drop_change, is_left, is_too_big, promise_replies, promise_change, forgo_change}
use Rattle.sv_plain.proofs.Got.{and_left, and_right, not_true}
use Rattle.sv_plain.proofs.KeepsReferences.{held, keeps-one_more, keeps-one_less, number_within}
use Rattle.sv_plain.proofs.KeepsPromises.{keeps-promise, keeps-forgo}
use Rattle.sv_plain.proofs.KeepsRemoval.{keeps-removal, holders-some_reference}
use Rattle.sv_plain.proofs.KeepsFiles.{keeps-new_file, keeps-changed_file, keeps-one_share_less}

-- ---- names

-- a test that passes has something to pass on
pub passes : {X : Type 0} (o : Option X) (test : X → Bool) → some_and o test ≡ true → (x : X) × (o ≡ Some x) × (test x ≡ true)
passes None test e = absurd (false≢true e)
passes (Some x) test e = (x, refl, e)

pub found : (f : ℕ → ℕ) (o : Option ℕ) (c : ℕ) → option_map f o ≡ Some c → (j : ℕ) × (o ≡ Some j) × (f j ≡ c)
found f None c e = cc
found f (Some j) c e = (j, refl, cc)

pub found_in : (f : Node → Option ℕ) (o : Option Node) (c : ℕ) → option_and_then f o ≡ Some c → (n : Node) × (o ≡ Some n) × (f n ≡ Some c)
found_in f None c e = cc
found_in f (Some n) c e = (n, refl, e)

-- the place of a name is one of the directory's entries, and not an empty one
pub place-of : (block : ℕ) (node : Node) (name : List ℕ) (j : ℕ) → place_of block node name ≡ Some j → (j < entry_count node) × (is_entry block node name j ≡ true)
unfolding place_of
place-of block node name j e =
    let all : List ℕ = range_with_len 0 (entry_count node) in
    let at = position-Some (is_entry block node name) all j 0 e in
    let within : j < entry_count node = omega (arith, at.0, length-range_with_len 0 (entry_count node)) in
    let is : get_or all j 0 ≡ j = omega (arith, get_or-range_with_len 0 (entry_count node) j 0 within) in
    (within, ap (is_entry block node name) (sym is) ∙ at.1)

alive : (b : Bool) (n : ℕ) → b ≡ true → not (n == 0) ≡ true → (b && nat_lt 0 n) ≡ true
alive true n e h = grind (arith, nat_tests)
alive false n e h = cc

pub occupied : (n : ℕ) → not (n == 0) ≡ true → n ≢ 0
occupied n e s = false≢true (sym (ap (λ m. not (m == 0)) s) ∙ e)

-- a directory that is open to names has links
pub live-of : (fs : Fs) (d : ℕ) (node : Node) → map.get fs.nodes d ≡ Some node → is_open_to_names fs d ≡ true → is_live node ≡ true
live-of fs d node there opened =
    let dir : is_dir node.kind ≡ true = ap (λ o. some_and o (λ (n : Node). is_dir n.kind)) (sym there) ∙ and_left (is_directory fs d) (not (links_of fs d == 0)) opened in
    let links : not (node.links == 0) ≡ true = ap (λ o. not (at_or_0 (λ (n : Node). n.links) o == 0)) (sym there) ∙ and_right (is_directory fs d) (not (links_of fs d == 0)) opened in
    alive (is_dir node.kind) node.links dir links

-- what a name leads to in a directory with links is a node
pub child-there : (fs : Fs) (d : ℕ) (name : List ℕ) (c : ℕ) → IsWhole fs → is_open_to_names fs d ≡ true → child fs d name ≡ Some c → IsSome (map.get fs.nodes c)
child-there fs d name c w opened e =
    let dir = found_in (λ node. child_of fs.block node name) (map.get fs.nodes d) c e in
    let node : Node = dir.0 in
    let place = found (entry_inode fs.block node) (place_of fs.block node name) c dir.2 in
    let at = place-of fs.block node name place.0 place.1 in
    let some : entry_inode fs.block node place.0 ≢ 0 = occupied (entry_inode fs.block node place.0) (and_left (not (entry_inode fs.block node place.0 == 0)) _ at.1) in
    subst (λ (i : ℕ). IsSome (map.get fs.nodes i)) place.2
    (w.named d node dir.1 (live-of fs d node dir.1 opened) place.0 at.0 some)

-- ---- op by op

pub keeps-look : (fs : Fs) (p d : ℕ) (name : List ℕ) (reply : Reply) → IsWhole fs → look_replies fs d name reply ≡ true → IsWhole (look_change fs p reply)
keeps-look fs p d name (Found i) w right =
    let opened = and_left (is_open_to_names fs d) (some_and (child fs d name) (λ c. (c == i) && not (is_full_for fs c))) right in
    let c = passes (child fs d name) (λ c. (c == i) && not (is_full_for fs c)) (and_right (is_open_to_names fs d) _ right) in
    let is : c.0 ≡ i = eqb-true c.0 i (and_left (c.0 == i) (not (is_full_for fs c.0)) c.2) in
    let place : is_full_for fs i ≡ false = ap (is_full_for fs) (sym is) ∙ not_true (is_full_for fs c.0) (and_right (c.0 == i) (not (is_full_for fs c.0)) c.2) in
    let there : IsSome (map.get fs.nodes i) = child-there fs d name i w opened (c.1 ∙ ap Some is) in
    keeps-one_more fs p i w there (number_within fs i w there) place
keeps-look fs p d name _ w right = w

pub keeps-drop : (fs : Fs) (p i : ℕ) (reply : Reply) → IsWhole fs → has_reference fs p i ≡ true → drop_replies fs p i reply ≡ true → IsWhole (drop_change fs p i reply)
keeps-drop fs p i Freed w has right =
    let after : Fs = without_reference fs p i in
    keeps-removal after i (keeps-one_less fs p i w has)
    (eqb-true (links_of after i) 0 (and_left (links_of after i == 0) (not (is_referenced after i)) right))
    (not_true (is_referenced after i) (and_right (links_of after i == 0) (not (is_referenced after i)) right))
keeps-drop fs p i _ w has right = keeps-one_less fs p i w has

pub keeps-promised : (fs : Fs) (p : ℕ) (n : Need) (reply : Reply) → IsWhole fs → promise_replies fs n reply ≡ true → IsWhole (promise_change fs p reply)
keeps-promised fs p n (Granted blocks) w right =
    let rest = and_right (not (is_too_big fs n)) (nat_le (need_of fs n) (room fs) && (blocks == need_of fs n)) right in
    let fits = leb-true (need_of fs n) (room fs) (and_left (nat_le (need_of fs n) (room fs)) (blocks == need_of fs n) rest) in
    let is = eqb-true blocks (need_of fs n) (and_right (nat_le (need_of fs n) (room fs)) (blocks == need_of fs n) rest) in
    keeps-promise fs p blocks w (omega (arith, fits, is))
keeps-promised fs p n _ w right = w

pub keeps-forgone : (fs : Fs) (p : ℕ) (reply : Reply) → IsWhole fs → IsWhole (forgo_change fs p reply)
keeps-forgone fs p Done w = keeps-forgo fs p w
keeps-forgone fs p _ w = w

-- ---- files

some_holders : (n : ℕ) → 1 ≤ n → not (n == 0) ≡ true
some_holders n h = grind (arith, nat_tests)

holder-of : (fs : Fs) (p i : ℕ) → has_reference fs p i ≡ true → is_referenced fs i ≡ true
holder-of fs p i has =
    let one = held (map.get fs.references (p, i)) has in
    some_holders (holders fs.references fs.files i) (holders-some_reference fs p i one.0 one.1)

pub keeps-open : (fs : Fs) (p i : ℕ) (mode : Mode) (reply : Reply) → IsWhole fs → has_reference fs p i ≡ true → open_replies fs i mode reply ≡ true → IsWhole (open_change fs p i mode reply)
keeps-open fs p i mode (Opened f) w has right =
    let one = held (map.get fs.references (p, i)) has in
    let there = (w.references p i one.0 one.1).1 in
    let may = and_left (not (is_directory fs i && writes mode)) (is_lowest_unused fs f) right in
    let unused = not_true (map.contains_key fs.files f) (and_left (not (map.contains_key fs.files f)) _ (and_right (not (is_directory fs i && writes mode)) (is_lowest_unused fs f) right)) in
    keeps-one_less (record fs { files = map.insert fs.files f (record { inode = i; mode = mode; offset = 0; count = 1 }) }) p i
    (keeps-new_file fs f i mode w there (holder-of fs p i has) may unused)
    has
keeps-open fs p i mode _ w has right = w

pub keeps-close : (fs : Fs) (file : ℕ) (reply : Reply) → IsWhole fs → close_replies fs file reply ≡ true → IsWhole (close_change fs file reply)
keeps-close fs file Freed w right =
    let after : Fs = without_share fs file in
    let i : ℕ = inode_of_file fs file in
    let lost = and_right (not (has_file after file)) (is_left after i) right in
    keeps-removal after i (keeps-one_share_less fs file w)
    (eqb-true (links_of after i) 0 (and_left (links_of after i == 0) (not (is_referenced after i)) lost))
    (not_true (is_referenced after i) (and_right (links_of after i == 0) (not (is_referenced after i)) lost))
keeps-close fs file _ w right = keeps-one_share_less fs file w

pub keeps-dup : (fs : Fs) (file : ℕ) (reply : Reply) → IsWhole fs → IsWhole (dup_change fs file reply)
keeps-dup fs file Dupped w =
    keeps-changed_file fs file (λ f. record f { count = f.count + 1 }) w
    (λ g there. record { inode = refl; mode = refl; shared = omega arith; offset = (w.files file g there).offset })
keeps-dup fs file _ w = w

pub keeps-seek : (fs : Fs) (file : ℕ) (offset : ℤ) (whence : ℕ) (reply : Reply) → IsWhole fs → seek_replies fs file offset whence reply ≡ true → IsWhole (seek_change fs file reply)
keeps-seek fs file offset whence (At n) w right =
    let t = passes (seek_target fs file offset whence) (λ t. (t == n) && nat_le t fs.greatest) right in
    let is = eqb-true t.0 n (and_left (t.0 == n) (nat_le t.0 fs.greatest) t.2) in
    let fits = leb-true t.0 fs.greatest (and_right (t.0 == n) (nat_le t.0 fs.greatest) t.2) in
    keeps-changed_file fs file (with_offset n) w
    (λ g there. record { inode = refl; mode = refl; shared = (w.files file g there).shared; offset = omega (arith, is, fits) })
keeps-seek fs file offset whence _ w right = w

same_length : (xs ys : List ℕ) → same_bytes xs ys ≡ true → length xs ≡ length ys
same_length [] [] e = refl
same_length [] (y ∷ ys) e = cc
same_length (x ∷ xs) [] e = cc
same_length (x ∷ xs) (y ∷ ys) e = ap suc (same_length xs ys (and_right (nat_eq x y) _ e))

length-file_bytes : (block : ℕ) (node : Node) (offset count : ℕ) → length (file_bytes block node offset count) ≡ min count (node.size - offset)
unfolding bytes_of
length-file_bytes block node offset count = length-map-range_with_len (byte_of block node) offset (min count (node.size - offset))

within_size : (offset size count greatest : ℕ) → offset ≤ greatest → size ≤ greatest → offset + min count (size - offset) ≤ greatest
within_size offset size count greatest h k = omega (arith, h, k)

pub keeps-read : (fs : Fs) (file count : ℕ) (reply : Reply) → IsWhole fs → read_replies fs file count reply ≡ true → IsWhole (read_change fs file reply)
keeps-read fs file count (Got bytes) w right =
    let f = passes (map.get fs.files file) (λ f. some_and (map.get fs.nodes f.inode) (λ node. same_bytes bytes (file_bytes fs.block node f.offset count))) right in
    let node = passes (map.get fs.nodes f.0.inode) (λ node. same_bytes bytes (file_bytes fs.block node f.0.offset count)) f.2 in
    let long = same_length bytes (file_bytes fs.block node.0 f.0.offset count) node.2 ∙ length-file_bytes fs.block node.0 f.0.offset count in
    let fits = within_size f.0.offset node.0.size count fs.greatest (w.files file f.0 f.1).offset (w.nodes f.0.inode node.0 node.1).size in
    keeps-changed_file fs file (λ g. with_offset (g.offset + length bytes) g) w
    (λ g there.
    (let same : Some g ≡ Some f.0 = sym there ∙ f.1 in
    let is : g ≡ f.0 = cc in
    let offset : g.offset ≡ f.0.offset = ap (λ (x : Opening). x.offset) is in
    record { inode = refl; mode = refl; shared = (w.files file g there).shared; offset = omega (arith, long, fits, offset) }))
keeps-read fs file count _ w right = w
