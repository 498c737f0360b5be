-- An entry that is found in the bytes of a page is the entry of the node, and the first one leads where the name leads.
use Rattle.std.proofs.Common.{◌≡◌, ◌≤◌, ◌^◌, ◌<◌, ◌+◌, ◌-◌, ◌*◌, ◌/◌, ◌%◌, ◌==◌, ◌&&◌, ℕ, Bool, true, false, cond, not, List, [], ◌∷◌}
use Rattle.std.proofs.Common.{length, min, take, drop, get_or, slice_range, Option, Some, None, option_map, unwrap_or, nat_lt, arith, refl}
use Rattle.std.proofs.Common.{sym, ap, ◌∙◌, subst}
use Rattle.std.specs.FinMap as fmap
use Rattle.std.specs.List.{range_with_len, position, position_or_len}
use Rattle.std.proofs.lemmas.Bool.Decides.{nat_tests}
use Rattle.std.proofs.lemmas.List.{get_or-drop, get_or-take, length-drop, length-take}
use Rattle.std.proofs.lemmas.List.FromFn.{length-range_with_len, get_or-range_with_len}
use Rattle.std.proofs.lemmas.List.Recursion.{is_position_or_len}
use Rattle.std.proofs.lemmas.List.Sums.{position_or_len_is}
use Rattle.sv_form.specs.Entries.{until_zero}
use Rattle.sv_form.specs.Geometry.{IsGeometry}
use Rattle.sv_form.specs.Node.{Node, byte_of, bytes_of, entry_count, entry_inode, entry_name, page_byte}
use Rattle.sv_form.specs.NodeNames.{child_of, empty_place, is_entry, place_of, same_bytes}
use Rattle.sv_form.specs.Number.{number16}
use Rattle.sv_form.specs.PagePath.{IsPage}
use Rattle.sv_form.specs.declared.inode.InodeBody.{InodeBody}
use Rattle.sv_store.specs.Calls.{Gets}
use Rattle.sv_store.specs.Held.{Held, Origin}
use Rattle.sv_store.specs.Loan.{Loan}
use Rattle.sv_inode.specs.Contents.{block_of}
use Rattle.sv_inode.specs.Enter.{entry_place}
use Rattle.sv_inode.specs.Names.{Finds, IsFirst, inode_in, is_at, is_named, is_sought_at, is_sought_in_hole}
use Rattle.sv_inode.specs.StandsFor.{StandsFor}
use Rattle.sv_inode.proofs.PageParts.{list_is_map}
use Rattle.sv_inode.proofs.WrittenTree.{page-got, page-hole}

-- ---- what stands before the first zero byte

long : (xs : List ℕ) → length (until_zero xs) ≡ position_or_len (λ b. b == 0) xs
long xs = is_position_or_len (λ ys. length (until_zero ys)) (λ b. b == 0) refl (λ y ys. by (y == 0) y ys) xs
  where
    by : (t : Bool) (y : ℕ) (ys : List ℕ) → length (cond t [] (y ∷ until_zero ys)) ≡ cond t 0 (1 + length (until_zero ys))
    by true y ys = refl
    by false y ys = omega arith

front : (xs : List ℕ) → take (length (until_zero xs)) xs ≡ until_zero xs
front [] = refl
front (x ∷ xs) = by (x == 0) (front xs)
  where
    by : (t : Bool) → take (length (until_zero xs)) xs ≡ until_zero xs
        → take (length (cond t [] (x ∷ until_zero xs))) (x ∷ xs) ≡ cond t [] (x ∷ until_zero xs)
    by true e = refl
    by false e = ap (λ ys. x ∷ ys) e

-- where the first zero byte stands, or the end
pub until-zero : (xs : List ℕ) (n : ℕ) → n ≤ length xs → ((k : ℕ) → k < n → get_or xs k 0 ≡ 0 → ⊥) → (n < length xs → get_or xs n 0 ≡ 0)
    → take n xs ≡ until_zero xs
until-zero xs n low before zero = ap (λ m. take m xs) (sym at ∙ sym (long xs)) ∙ front xs
  where
    other : (a : ℕ) → (a ≡ 0 → ⊥) → (a == 0) ≡ false
    other a h = grind (nat_tests, arith)

    none : (a : ℕ) → a ≡ 0 → (a == 0) ≡ true
    none a h = grind (nat_tests, arith)

    at : position_or_len (λ b. b == 0) xs ≡ n
    at = position_or_len_is (λ b. b == 0) xs n 0 low (λ k below. other (get_or xs k 0) (before k below))
        (λ inside. none (get_or xs n 0) (zero inside))

-- ---- the entries of a page

-- byte r of a page
page-byte : (block : ℕ) (node : Node) (page r : ℕ) → block ≡ 1024 → r < 1024
    → byte_of block node (1024 * page + r) ≡ page_byte (fmap.get node.pages page) r
unfolding byte_of
page-byte block node page r e low =
    ap (λ q. page_byte (fmap.get node.pages q) ((1024 * page + r) % block)) (ap (λ b. (1024 * page + r) / b) e ∙ whole)
    ∙ ap (λ q. page_byte (fmap.get node.pages page) q) (ap (λ b. (1024 * page + r) % b) e ∙ part)
  where
    whole : (1024 * page + r) / 1024 ≡ page
    whole = omega (arith, low)

    part : (1024 * page + r) % 1024 ≡ r
    part = omega (arith, low)

entry-byte : (block : ℕ) (node : Node) (page j k r : ℕ) (x : Option (List ℕ)) → block ≡ 1024 → fmap.get node.pages page ≡ x
    → k ≡ 16 * (64 * page + j) + (r - 16 * j) → 16 * j ≤ r → r < 1024 → byte_of block node k ≡ page_byte x r
entry-byte block node page j k r x e there at least low =
    ap (byte_of block node) (omega (arith, at, least)) ∙ (page-byte block node page r e low ∙ ap (λ q. page_byte q r) there)

inode-there : (block : ℕ) (node : Node) (page j : ℕ) (bytes : List ℕ) → block ≡ 1024 → fmap.get node.pages page ≡ Some bytes → j < 64
    → entry_inode block node (64 * page + j) ≡ number16 bytes (16 * j)
unfolding entry_inode
inode-there block node page j bytes e there low =
    ap (λ q. q + 256 * byte_of block node (16 * (64 * page + j) + 1))
    (entry-byte block node page j (16 * (64 * page + j)) (16 * j) (Some bytes) e there (omega arith) (omega arith) (omega (arith, low)))
    ∙ ap (λ q. get_or bytes (16 * j) 0 + 256 * q)
    (entry-byte block node page j (16 * (64 * page + j) + 1) (16 * j + 1) (Some bytes) e there (omega arith) (omega arith)
    (omega (arith, low)))

inode-hole : (block : ℕ) (node : Node) (page j : ℕ) → block ≡ 1024 → fmap.get node.pages page ≡ None → j < 64
    → entry_inode block node (64 * page + j) ≡ 0
unfolding entry_inode
inode-hole block node page j e there low =
    let one = entry-byte block node page j (16 * (64 * page + j)) (16 * j) None e there (omega arith) (omega arith) (omega (arith, low)) in
    let two =
    entry-byte block node page j (16 * (64 * page + j) + 1) (16 * j + 1) None e there (omega arith) (omega arith) (omega (arith, low)) in
    omega (arith, one, two)

-- in a hole no entry has an inode
pub place-hole : {o : Origin} {h : Held} {body : InodeBody} (node : Node) (page place : ℕ) → IsGeometry o.sizes → IsPage o.sizes page
    → page ≡ 16 * place / 1024 → StandsFor o h body node → block_of o.sizes h body.addresses page ≡ None
    → entry_inode o.sizes.block_size node place ≡ 0
place-hole {o} node page place sizes is at stands hole =
    let whole : place ≡ 64 * page + place % 64 = omega (arith, at) in
    ap (entry_inode o.sizes.block_size node) whole
    ∙ inode-hole o.sizes.block_size node page (place % 64) sizes.block_size (page-hole page sizes is stands hole) (omega arith)

name-there : (block : ℕ) (node : Node) (page j : ℕ) (bytes : List ℕ) → block ≡ 1024 → fmap.get node.pages page ≡ Some bytes → j < 64
    → 16 * j + 16 ≤ length bytes → entry_name block node (64 * page + j) ≡ until_zero (slice_range bytes (16 * j + 2) (16 * j + 16))
unfolding entry_name bytes_of
name-there block node page j bytes e there low fits =
    ap until_zero
    (sym (list_is_map (slice_range bytes (16 * j + 2) (16 * j + 16)) (byte_of block node) (16 * (64 * page + j) + 2) 14 size each))
  where
    size : length (take (16 * j + 16 - (16 * j + 2)) (drop (16 * j + 2) bytes)) ≡ 14
    size = length-take (16 * j + 16 - (16 * j + 2)) (drop (16 * j + 2) bytes) ∙ omega (arith, fits, length-drop (16 * j + 2) bytes)

    each : (k : ℕ) → k < 14
        → get_or (take (16 * j + 16 - (16 * j + 2)) (drop (16 * j + 2) bytes)) k 0 ≡ byte_of block node (16 * (64 * page + j) + 2 + k)
    each k below =
        get_or-take (16 * j + 16 - (16 * j + 2)) (drop (16 * j + 2) bytes) k 0 (omega (arith, below))
        ∙ (get_or-drop (16 * j + 2) bytes k 0
        ∙ sym (entry-byte block node page j (16 * (64 * page + j) + 2 + k) (16 * j + 2 + k) (Some bytes) e there (omega arith) (omega arith)
        (omega (arith, low, below))))

entry-there : (block : ℕ) (node : Node) (name : List ℕ) (page j : ℕ) (bytes : List ℕ) → block ≡ 1024
    → fmap.get node.pages page ≡ Some bytes → j < 64 → 16 * j + 16 ≤ length bytes
    → is_entry block node name (64 * page + j) ≡ is_named bytes name (16 * j)
entry-there block node name page j bytes e there low fits =
    ap (λ q. not (q == 0) && same_bytes (entry_name block node (64 * page + j)) name) (inode-there block node page j bytes e there low)
    ∙ ap (λ q. not (number16 bytes (16 * j) == 0) && same_bytes q name) (name-there block node page j bytes e there low fits)

-- the same is found by tests that agree
finds-alike : {test test' : ℕ → Bool} {inodes inodes' : ℕ → ℕ} {count : ℕ} (found : Option (ℕ × ℕ))
    → ((k : ℕ) → k < count → test' k ≡ test k) → ((k : ℕ) → k < count → inodes' k ≡ inodes k) → Finds test inodes count found
    → Finds test' inodes' count found
finds-alike None same alike finds = λ k low. same k low ∙ finds k low
finds-alike {count = count} (Some found) same alike finds = record {
  within = finds.within;
  here = same found.0 finds.within ∙ finds.here;
  before = λ k low. same k (omega (arith, low, finds.within)) ∙ finds.before k low;
  inode = finds.inode ∙ sym (alike found.0 finds.within);
}

gets-since : {o o' : Origin} {h h' : Held} {b : ℕ} {buf : Loan} → o' ≡ o → h' ≡ h → Gets o' h' b buf → Gets o h b buf
gets-since {o} {o'} {h} {h'} {b} {buf} e f gets =
    let P : Origin → Type 0 = λ q. Gets q h b buf in
    let Q : Held → Type 0 = λ q. Gets o' q b buf in
    subst P e (subst Q f gets)

pub found-since : {o o' : Origin} {h h' : Held} {body : InodeBody} (page count : ℕ) (name : Option (List ℕ)) (found : Option (ℕ × ℕ)) → o' ≡ o
    → h' ≡ h
    → ((node : Node) → StandsFor o' h' body node → Finds (λ j. is_at o'.sizes.block_size node name (64 * page + j))
    (λ j. entry_inode o'.sizes.block_size node (64 * page + j)) count found)
    → (node : Node) → StandsFor o h body node → Finds (λ j. is_at o.sizes.block_size node name (64 * page + j))
    (λ j. entry_inode o.sizes.block_size node (64 * page + j)) count found
found-since {o} {o'} {h} {h'} {body} page count name found e f each =
    let P : Origin → Type 0 = λ q. (node : Node) → StandsFor q h body node
    → Finds (λ j. is_at q.sizes.block_size node name (64 * page + j))
    (λ j. entry_inode q.sizes.block_size node (64 * page + j)) count found in
    let Q : Held → Type 0 = λ q. (node : Node) → StandsFor o' q body node
    → Finds (λ j. is_at o'.sizes.block_size node name (64 * page + j))
    (λ j. entry_inode o'.sizes.block_size node (64 * page + j)) count found in
    subst P e (subst Q f each)

-- entry j of a page is sought in its bytes and in the node
sought-there : (block : ℕ) (node : Node) (name : Option (List ℕ)) (page j : ℕ) (bytes : List ℕ) → block ≡ 1024
    → fmap.get node.pages page ≡ Some bytes → j < 64 → 16 * j + 16 ≤ length bytes
    → is_at block node name (64 * page + j) ≡ is_sought_at bytes name j
sought-there block node None page j bytes e there low fits = ap (λ q. q == 0) (inode-there block node page j bytes e there low)
sought-there block node (Some name) page j bytes e there low fits = entry-there block node name page j bytes e there low fits

-- what is found in the bytes of a page is found in the node
pub page-found : {o o' : Origin} {h h' : Held} {body : InodeBody} (node : Node) {p : ℕ} {buf : Loan} (page count : ℕ)
    (name : Option (List ℕ)) (found : Option (ℕ × ℕ)) → IsGeometry o.sizes → IsPage o.sizes page → 16 * count ≤ o.sizes.block_size
    → StandsFor o h body node → block_of o.sizes h body.addresses page ≡ Some p → o' ≡ o → h' ≡ h → Gets o' h' p buf
    → Finds (is_sought_at buf.bytes name) (inode_in buf.bytes) count found
    → Finds (λ j. is_at o.sizes.block_size node name (64 * page + j))
    (λ j. entry_inode o.sizes.block_size node (64 * page + j)) count found
page-found {o} {o'} {h} {h'} {body} node {p} {buf} page count name found sizes is few stands there e f gets finds =
    finds-alike found
    (λ k low. sought-there o.sizes.block_size node name page k buf.bytes sizes.block_size got
    (omega (arith, low, few, sizes.block_size)) (omega (arith, low, few, mine.size)))
    (λ k low. inode-there o.sizes.block_size node page k buf.bytes sizes.block_size got (omega (arith, low, few, sizes.block_size))) finds
  where
    mine : Gets o h p buf
    mine = gets-since e f gets

    got : fmap.get node.pages page ≡ Some buf.bytes
    got = page-got page sizes is stands there mine

-- all entries of a hole are empty
pub hole-found : {o : Origin} {h : Held} {body : InodeBody} (node : Node) (page count : ℕ) (name : Option (List ℕ))
    (found : Option (ℕ × ℕ)) → IsGeometry o.sizes → IsPage o.sizes page → 16 * count ≤ o.sizes.block_size → StandsFor o h body node
    → block_of o.sizes h body.addresses page ≡ None → Finds (is_sought_in_hole name) (λ j. 0) count found
    → Finds (λ j. is_at o.sizes.block_size node name (64 * page + j))
    (λ j. entry_inode o.sizes.block_size node (64 * page + j)) count found
hole-found {o} node page count name found sizes is few stands hole finds =
    finds-alike found (λ k low. by name k low) (λ k low. empty k low) finds
  where
    empty : (k : ℕ) → k < count → entry_inode o.sizes.block_size node (64 * page + k) ≡ 0
    empty k low = inode-hole o.sizes.block_size node page k sizes.block_size (page-hole page sizes is stands hole)
        (omega (arith, low, few, sizes.block_size))

    by : (sought : Option (List ℕ)) (k : ℕ) → k < count
        → is_at o.sizes.block_size node sought (64 * page + k) ≡ is_sought_in_hole sought k
    by None k low = ap (λ q. q == 0) (empty k low)
    by (Some other) k low =
        ap (λ q. not (q == 0) && same_bytes (entry_name o.sizes.block_size node (64 * page + k)) other) (empty k low)

-- ---- page by page

-- how many entries of the file lie in a page
in-page : (block size page count k : ℕ) → block ≡ 1024 → count ≡ min (size - page * block) block / 16 → 64 * page ≤ k → k < 64 * page + 64
    → k < size / 16 → k - 64 * page < count
in-page block size page count k e is least most low =
    let many : count ≡ min (size - page * 1024) 1024 / 16 = is ∙ ap (λ b. min (size - page * b) b / 16) e in
    omega (arith, many, least, most, low)

pub none-more : (test : ℕ → Bool) (block size page count : ℕ) → block ≡ 1024 → count ≡ min (size - page * block) block / 16
    → ((k : ℕ) → k < 64 * page → k < size / 16 → test k ≡ false) → ((k : ℕ) → k < count → test (64 * page + k) ≡ false)
    → (k : ℕ) → k < 64 * (page + 1) → k < size / 16 → test k ≡ false
none-more test block size page count e is before here k most low = by (nat_lt k (64 * page)) refl
  where
    yes : (a b : ℕ) → nat_lt a b ≡ true → a < b
    yes a b h = grind (nat_tests, arith)

    no : (a b : ℕ) → nat_lt a b ≡ false → b ≤ a
    no a b h = grind (nat_tests, arith)

    by : (t : Bool) → nat_lt k (64 * page) ≡ t → test k ≡ false
    by true h = before k (yes k (64 * page) h) low
    by false h =
        let least = no k (64 * page) h in
        let same : 64 * page + (k - 64 * page) ≡ k = omega (arith, least) in
        ap test (sym same) ∙ here (k - 64 * page) (in-page block size page count k e is least (omega (arith, most)) low)

pub first-more : (test : ℕ → Bool) (inodes : ℕ → ℕ) (block size page count : ℕ) (found : ℕ × ℕ) → block ≡ 1024
    → page * block ≤ size → count ≡ min (size - page * block) block / 16
    → ((k : ℕ) → k < 64 * page → k < size / 16 → test k ≡ false)
    → IsFirst (λ j. test (64 * page + j)) (λ j. inodes (64 * page + j)) count found
    → IsFirst test inodes (size / 16) (64 * page + found.0, found.1)
first-more test inodes block size page count found e starts is before finds = record {
  within = omega (arith, finds.within, many, begins);
  here = finds.here;
  before = λ k low. by k low (nat_lt k (64 * page)) refl;
  inode = finds.inode;
}
  where
    many : count ≡ min (size - page * 1024) 1024 / 16
    many = is ∙ ap (λ b. min (size - page * b) b / 16) e

    begins : page * 1024 ≤ size
    begins = let P : ℕ → Type 0 = λ b. page * b ≤ size in subst P e starts

    yes : (a b : ℕ) → nat_lt a b ≡ true → a < b
    yes a b h = grind (nat_tests, arith)

    no : (a b : ℕ) → nat_lt a b ≡ false → b ≤ a
    no a b h = grind (nat_tests, arith)

    by : (k : ℕ) → k < 64 * page + found.0 → (t : Bool) → nat_lt k (64 * page) ≡ t → test k ≡ false
    by k low true h = before k (yes k (64 * page) h) (omega (arith, yes k (64 * page) h, begins))
    by k low false h =
        let least = no k (64 * page) h in
        let same : 64 * page + (k - 64 * page) ≡ k = omega (arith, least) in
        ap test (sym same) ∙ finds.before (k - 64 * page) (omega (arith, least, low))

-- the place of an entry is a number of four bytes
pub place-fits : (block size page pages count place : ℕ) → block ≡ 1024 → size < 2 ^ 32 → pages ≡ size / block + min 1 (size % block)
    → page < pages → count ≡ min (size - page * block) block / 16 → place < count → 64 * page + place < 2 ^ 32
place-fits block size page pages count place e fits is low many within =
    let all : pages ≡ size / 1024 + min 1 (size % 1024) = is ∙ ap (λ b. size / b + min 1 (size % b)) e in
    let few : count ≡ min (size - page * 1024) 1024 / 16 = many ∙ ap (λ b. min (size - page * b) b / 16) e in
    omega (arith, all, few, fits, low, within)

-- past the last page there is none
pub none-left : (test : ℕ → Bool) (block size page pages : ℕ) → block ≡ 1024 → pages ≡ size / block + min 1 (size % block) → pages ≤ page
    → ((k : ℕ) → k < 64 * page → k < size / 16 → test k ≡ false) → (k : ℕ) → k < size / 16 → test k ≡ false
none-left test block size page pages e is most before k low =
    let all : pages ≡ size / 1024 + min 1 (size % 1024) = is ∙ ap (λ b. size / b + min 1 (size % b)) e in
    before k (omega (arith, all, most, low)) low

-- ---- where the name leads

-- the first place of a range that passes a test
first-place : (p : ℕ → Bool) (n i : ℕ) → i ≤ n → ((k : ℕ) → k < i → p k ≡ false) → (i < n → p i ≡ true)
    → position_or_len p (range_with_len 0 n) ≡ i
first-place p n i within before here =
    let size = length-range_with_len 0 n in
    position_or_len_is p (range_with_len 0 n) i 0 (omega (arith, size, within))
    (λ k below. ap p (own k (omega (arith, below, within))) ∙ before k below)
    (λ inside. let short : i < n = omega (arith, inside, size) in ap p (own i short) ∙ here short)
  where
    own : (k : ℕ) → k < n → get_or (range_with_len 0 n) k 0 ≡ k
    own k h = omega (arith, get_or-range_with_len 0 n k 0 h)

found-first : (p : ℕ → Bool) (n i : ℕ) → i < n → ((k : ℕ) → k < i → p k ≡ false) → p i ≡ true
    → position p (range_with_len 0 n) ≡ Some i
found-first p n i within before here =
    ap (λ j. cond (nat_lt j (length (range_with_len 0 n))) (Some j) None)
    (first-place p n i (omega (arith, within)) before (λ _. here)) ∙ ap (λ t. cond t (Some i) None) inside
  where
    yes : (a b : ℕ) → a < b → nat_lt a b ≡ true
    yes a b h = grind (nat_tests, arith)

    inside : nat_lt i (length (range_with_len 0 n)) ≡ true
    inside = yes i (length (range_with_len 0 n)) (omega (arith, within, length-range_with_len 0 n))

none-first : (p : ℕ → Bool) (n : ℕ) → ((k : ℕ) → k < n → p k ≡ false) → position p (range_with_len 0 n) ≡ None
none-first p n none =
    ap (λ j. cond (nat_lt j (length (range_with_len 0 n))) (Some j) None)
    (first-place p n n (omega arith) none (λ low. absurd (omega (arith, low)))) ∙ ap (λ t. cond t (Some n) None) outside
  where
    no : (a b : ℕ) → b ≤ a → nat_lt a b ≡ false
    no a b h = grind (nat_tests, arith)

    outside : nat_lt n (length (range_with_len 0 n)) ≡ false
    outside = no n (length (range_with_len 0 n)) (omega (arith, length-range_with_len 0 n))

-- where the first entry with the name stands
pub place-first : (block : ℕ) (node : Node) (name : List ℕ) (n : ℕ) (found : ℕ × ℕ) → n ≡ entry_count node
    → IsFirst (is_entry block node name) (entry_inode block node) n found → place_of block node name ≡ Some found.0
unfolding place_of
place-first block node name n found size finds =
    found-first (is_entry block node name) (entry_count node) found.0 (omega (arith, size, finds.within)) finds.before finds.here

pub no-place : (block : ℕ) (node : Node) (name : List ℕ) (n : ℕ) → n ≡ entry_count node
    → ((k : ℕ) → k < n → is_entry block node name k ≡ false) → place_of block node name ≡ None
unfolding place_of
no-place block node name n size none =
    none-first (is_entry block node name) (entry_count node) (λ k low. none k (omega (arith, low, size)))

-- where a name is entered: into the first empty entry, or after the last one
pub place-empty : (block : ℕ) (node : Node) (n : ℕ) (found : ℕ × ℕ) → n ≡ entry_count node
    → IsFirst (is_at block node None) (entry_inode block node) n found → found.0 ≡ entry_place block node
unfolding empty_place
place-empty block node n found size finds =
    sym (ap (λ q. unwrap_or q (entry_count node))
    (found-first (is_at block node None) (entry_count node) found.0 (omega (arith, size, finds.within)) finds.before finds.here))

pub place-last : (block : ℕ) (node : Node) (n : ℕ) → n ≡ entry_count node
    → ((k : ℕ) → k < n → is_at block node None k ≡ false) → n ≡ entry_place block node
unfolding empty_place
place-last block node n size none =
    size ∙ sym (ap (λ q. unwrap_or q (entry_count node))
    (none-first (is_at block node None) (entry_count node) (λ k low. none k (omega (arith, low, size)))))

-- it is no later than the end
pub place-most : (block : ℕ) (node : Node) → entry_place block node ≤ entry_count node
unfolding empty_place
place-most block node = by (nat_lt j (length (range_with_len 0 n))) refl
  where
    n : ℕ
    n = entry_count node

    j : ℕ
    j = position_or_len (is_at block node None) (range_with_len 0 n)

    yes : (a b : ℕ) → nat_lt a b ≡ true → a < b
    yes a b h = grind (nat_tests, arith)

    by : (t : Bool) → nat_lt j (length (range_with_len 0 n)) ≡ t → unwrap_or (cond t (Some j) None) n ≤ n
    by true e = omega (arith, yes j (length (range_with_len 0 n)) e, length-range_with_len 0 n)
    by false e = omega arith

pub looked : (block : ℕ) (node : Node) (name : List ℕ) (n : ℕ) (found : ℕ × ℕ) → n ≡ entry_count node
    → IsFirst (is_entry block node name) (entry_inode block node) n found → Some found.1 ≡ child_of block node name
looked block node name n found size finds =
    ap (λ q. Some q) finds.inode ∙ sym (ap (option_map (entry_inode block node)) (place-first block node name n found size finds))

pub none-looked : (block : ℕ) (node : Node) (name : List ℕ) (n : ℕ) → n ≡ entry_count node
    → ((k : ℕ) → k < n → is_entry block node name k ≡ false) → None ≡ child_of block node name
none-looked block node name n size none = sym (ap (option_map (entry_inode block node)) (no-place block node name n size none))
