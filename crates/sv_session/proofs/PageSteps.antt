-- The pages of a file, one after another, gathered into pieces.
use Rattle.std.proofs.Common.{◌≡◌, ◌≢◌, ◌+◌, ◌-◌, ◌*◌, ◌/◌, ◌%◌, ◌<◌, ◌≤◌, ℕ, zero, suc, List, [], ◌∷◌, ◌++◌, length, get_or, take, map, replicate, min, Option, Some, None, arith, refl, sym, ◌∙◌, ap, subst, inl, inr}
use Rattle.std.specs.List.{range_with_len}
use Rattle.std.proofs.lemmas.Grind.{common_steps, div_ceil_times}
use Rattle.std.proofs.lemmas.List.{same_lists, length-replicate, get_or-replicate, length-take, length-drop, append_assoc, append-nil, map-append, length-append, length-take-le, take-append-le, take-append-drop, append_cancel_left}
use Rattle.std.proofs.lemmas.List.FromFn.{fill_by_all, take-map-range_with_len, length-map-range_with_len, get_or-map-range_with_len}
use Rattle.std.proofs.lemmas.Nat.{div-mul-add, mod-mul-add}
use Rattle.std.proofs.Math.Seq.{take-append-add}
use Rattle.std.proofs.Math.Nat.{mul-le-mul_right, zero-add, add-zero, suc-add}
use Rattle.sv_dev.specs.Told.{grown, AppendsFront}
use Rattle.sv_form.specs.declared.geometry.Geometry.{Geometry}
use Rattle.sv_form.specs.Geometry.{IsGeometry}
use Rattle.sv_form.specs.Image.{block_of}
use Rattle.sv_plain.specs.Front.{page_byte, file_byte, file_bytes}
use Rattle.sv_session.specs.Pages.{IsGathered, page_bytes}

-- ---- one page

-- byte k of a hole is 0
page_byte_hole : (g : Geometry) (image : List ℕ) (k : ℕ) → page_byte g image 0 k ≡ 0
unfolding page_byte
page_byte_hole g image k = refl

-- byte k of a page that is none is that of its block
page_byte_block : (g : Geometry) (image : List ℕ) (address k : ℕ) → address ≢ 0 → page_byte g image address k ≡ get_or (block_of g image address) k 0
unfolding page_byte
page_byte_block g image address k ne = grind (arith, common_steps)

-- a page of zero bytes is a hole
pub hole_page : (g : Geometry) (image block : List ℕ) (address n : ℕ) → address ≡ 0 → n ≡ g.block_size → block ≡ replicate n 0
    → block ≡ page_bytes g image address
hole_page g image block address n e size zeros =
    zeros ∙ fill_by_all (page_byte g image address) (replicate n 0) g.block_size 0 (length-replicate n 0 ∙ size)
    (λ k h. get_or-replicate n k 0 0 (omega arith) ∙ subst (λ (a : ℕ). 0 ≡ page_byte g image a k) (sym e) (sym (page_byte_hole g image k)))

length-block_of : (g : Geometry) (image : List ℕ) (b : ℕ) → IsGeometry g → length image ≡ g.blocks * g.block_size → b < g.blocks → length (block_of g image b) ≡ g.block_size
unfolding block_of
length-block_of g image b sizes len h =
    let whole : (b + 1) * g.block_size ≤ g.blocks * g.block_size = mul-le-mul_right g.block_size (omega arith) in
    simp (length-take, length-drop) (omega arith)

-- the block that an address names is its page
pub block_page : (g : Geometry) (image : List ℕ) (address : ℕ) → address ≢ 0 → IsGeometry g → length image ≡ g.blocks * g.block_size → address < g.blocks
    → block_of g image address ≡ page_bytes g image address
block_page g image address ne sizes len h =
    fill_by_all (page_byte g image address) (block_of g image address) g.block_size 0 (length-block_of g image address sizes len h)
    (λ k _. sym (page_byte_block g image address k ne))

-- ---- the file

range_split : (a m n : ℕ) → range_with_len a (m + n) ≡ range_with_len a m ++ range_with_len (a + m) n
range_split a zero n = rw (zero-add, add-zero) refl
range_split a (suc m) n =
    rw (suc-add) (ap (λ (r : List ℕ). a ∷ r) (range_split (a + 1) m n ∙ ap (λ (k : ℕ). range_with_len (a + 1) m ++ range_with_len k n) (omega arith)))

-- byte j of page p of the file
file_byte-page : (g : Geometry) (image : List ℕ) (address : ℕ → ℕ) (p j : ℕ) → j < g.block_size
    → file_byte g image address (p * g.block_size + j) ≡ page_byte g image (address p) j
unfolding file_byte
file_byte-page g image address p j h = rw (div-mul-add, mod-mul-add) refl

-- the bytes of a file up to the end of so many bytes of page p are those of the pages before it, and then those of the page
pub file_bytes_more : (g : Geometry) (image : List ℕ) (address : ℕ → ℕ) (p count : ℕ) → count ≤ g.block_size
    → file_bytes g image address (p * g.block_size + count)
    ≡ file_bytes g image address (p * g.block_size) ++ map (page_byte g image (address p)) (range_with_len 0 count)
unfolding file_bytes
file_bytes_more g image address p count fits =
    let before = p * g.block_size in
    let f = file_byte g image address in
    let here = page_byte g image (address p) in
    let same : map f (range_with_len (0 + before) count) ≡ map here (range_with_len 0 count) =
    same_lists _ _ (length-map-range_with_len f (0 + before) count ∙ sym (length-map-range_with_len here 0 count))
    (λ k d h.
    let below : k < count = subst (λ (n : ℕ). k < n) (length-map-range_with_len f (0 + before) count) h in
    get_or-map-range_with_len f (0 + before) count k (before + k) d below (omega arith)
    ∙ file_byte-page g image address p k (omega arith)
    ∙ sym (get_or-map-range_with_len here 0 count k k d below (omega arith)))
    in ap (map f) (range_split 0 before count) ∙ map-append f (range_with_len 0 before) (range_with_len (0 + before) count)
    ∙ ap (λ (t : List ℕ). map f (range_with_len 0 before) ++ t) same

-- a front of a file's bytes is the bytes of a shorter file
pub take-file_bytes : (g : Geometry) (image : List ℕ) (address : ℕ → ℕ) (n size : ℕ) → n ≤ size
    → take n (file_bytes g image address size) ≡ file_bytes g image address n
unfolding file_bytes
take-file_bytes g image address n size h = take-map-range_with_len (file_byte g image address) 0 size n h

pub length-file_bytes : (g : Geometry) (image : List ℕ) (address : ℕ → ℕ) (size : ℕ) → length (file_bytes g image address size) ≡ size
unfolding file_bytes
length-file_bytes g image address size = length-map-range_with_len (file_byte g image address) 0 size

-- no bytes of a file
pub file_bytes_none : (g : Geometry) (image : List ℕ) (address : ℕ → ℕ) → file_bytes g image address 0 ≡ []
unfolding file_bytes
file_bytes_none g image address = refl

-- ---- what a sink has got

grown-grown : (told : Option (List ℕ)) (a b : List ℕ) → grown (grown told a) b ≡ grown told (a ++ b)
grown-grown None a b = refl
grown-grown (Some old) a b = ap Some (append_assoc old a b)

grown-nil : (told : Option (List ℕ)) → told ≡ grown told []
grown-nil None = refl
grown-nil (Some old) = ap Some (sym (append-nil old))

-- a page before the last one begins below the size
pub page_below : (size b pages p : ℕ) → 0 < b → pages ≡ size / b + min 1 (size % b) → p < pages → p * b < size
page_below size b pages p pos e h =
    let short = (div_ceil_times size b pos).1 in
    let more : (p + 1) * b ≤ pages * b = mul-le-mul_right b (omega arith) in
    let f : pages * b < size + b = subst (λ (n : ℕ). n * b < size + b) (sym e) short in
    omega arith

-- before the first page
pub no_page : (g : Geometry) (image : List ℕ) (address : ℕ → ℕ) (told : Option (List ℕ)) (size : ℕ) → told ≡ grown told (file_bytes g image address (min (0 * g.block_size) size))
no_page g image address told size =
    let none : 0 ≡ min (0 * g.block_size) size = omega arith in
    grown-nil told ∙ ap (grown told) (sym (file_bytes_none g image address)) ∙ ap (λ (n : ℕ). grown told (file_bytes g image address n)) none

-- one page more
pub page_more : (g : Geometry) (image : List ℕ) (address : ℕ → ℕ) (told before after : Option (List ℕ)) (size p count : ℕ)
    → p * g.block_size < size → count ≡ min g.block_size (size - p * g.block_size)
    → before ≡ grown told (file_bytes g image address (min (p * g.block_size) size))
    → after ≡ grown before (map (page_byte g image (address p)) (range_with_len 0 count))
    → after ≡ grown told (file_bytes g image address (min ((p + 1) * g.block_size) size))
page_more g image address told before after size p count h e was grew =
    let start : min (p * g.block_size) size ≡ p * g.block_size = omega arith in
    let end : p * g.block_size + count ≡ min ((p + 1) * g.block_size) size = omega arith in
    grew ∙ ap (λ (o : Option (List ℕ)). grown o (map (page_byte g image (address p)) (range_with_len 0 count)))
    (was ∙ ap (λ (n : ℕ). grown told (file_bytes g image address n)) start)
    ∙ grown-grown told _ _ ∙ ap (grown told) (sym (file_bytes_more g image address p count (omega arith)))
    ∙ ap (λ (n : ℕ). grown told (file_bytes g image address n)) end

-- ---- what is written, and what is gathered behind it

-- all that is written and gathered is the file's bytes up to this page, and what is written is a front of them
pub record IsUnderWay (g : Geometry) (image : List ℕ) (address : ℕ → ℕ) (size page : ℕ) (told now : Option (List ℕ)) (gathered : List ℕ) : Type 0 where
  pub sum : grown now gathered ≡ grown told (file_bytes g image address (min (page * g.block_size) size))
  pub front : AppendsFront told now (file_bytes g image address size)

-- the bytes up to a page are a front of all
up_to : (g : Geometry) (image : List ℕ) (address : ℕ → ℕ) (size page : ℕ) → file_bytes g image address (min (page * g.block_size) size) ≡ take (min (page * g.block_size) size) (file_bytes g image address size)
up_to g image address size page = sym (take-file_bytes g image address (min (page * g.block_size) size) size (omega arith))

few_bytes : (g : Geometry) (image : List ℕ) (address : ℕ → ℕ) (size page : ℕ) → min (page * g.block_size) size ≤ length (file_bytes g image address size)
few_bytes g image address size page = subst (λ (m : ℕ). min (page * g.block_size) size ≤ m) (sym (length-file_bytes g image address size)) (omega arith)

-- at the begin nothing is written and nothing gathered
pub under_way_begun : (g : Geometry) (image : List ℕ) (address : ℕ → ℕ) (size : ℕ) (told : Option (List ℕ)) → IsUnderWay g image address size 0 told told []
under_way_begun g image address size told = record {
  sum = sym (grown-nil told) ∙ no_page g image address told size;
  front = (0, omega arith, grown-nil told);
}

-- whatever of it is written, it is the same together
together : (now after : Option (List ℕ)) (gathered left : List ℕ) → IsGathered now after gathered left → grown after left ≡ grown now gathered
together now after gathered left (inl kept) = ap (λ (o : Option (List ℕ)). grown o left) kept.0 ∙ ap (grown now) kept.1
together now after gathered left (inr wrote) = ap (grown after) wrote.1 ∙ sym (grown-nil after) ∙ wrote.0

still_front : (told now after : Option (List ℕ)) (gathered left whole : List ℕ) (n : ℕ) → n ≤ length whole → grown now gathered ≡ grown told (take n whole) → AppendsFront told now whole
    → IsGathered now after gathered left → AppendsFront told after whole
still_front told now after gathered left whole n few sum front (inl kept) = subst (λ (o : Option (List ℕ)). AppendsFront told o whole) (sym kept.0) front
still_front told now after gathered left whole n few sum front (inr wrote) = (n, few, wrote.0 ∙ sum)

-- what is gathered may be written
pub under_way_written : (g : Geometry) (image : List ℕ) (address : ℕ → ℕ) (size page : ℕ) (told now after : Option (List ℕ)) (gathered left : List ℕ)
    → IsUnderWay g image address size page told now gathered → IsGathered now after gathered left → IsUnderWay g image address size page told after left
under_way_written g image address size page told now after gathered left h moved = record {
  sum = together now after gathered left moved ∙ h.sum;
  front = still_front told now after gathered left _ _ (few_bytes g image address size page) (h.sum ∙ ap (grown told) (up_to g image address size page)) h.front moved;
}

-- a part of a page behind what is gathered
page_behind : (g : Geometry) (image gathered piece : List ℕ) (address filled count : ℕ) → count ≤ g.block_size → length gathered ≡ filled
    → take (filled + g.block_size) piece ≡ gathered ++ page_bytes g image address
    → take (filled + count) piece ≡ gathered ++ map (page_byte g image address) (range_with_len 0 count)
page_behind g image gathered piece address filled count fits len e =
    let page = page_bytes g image address in
    let size : length page ≡ g.block_size = length-map-range_with_len (page_byte g image address) 0 g.block_size in
    let whole : length (take (filled + g.block_size) piece) ≡ filled + g.block_size = ap length e ∙ length-append gathered page ∙ omega (arith, len, size) in
    let shorter : take (filled + count) piece ≡ take (filled + count) (take (filled + g.block_size) piece) =
    ap (take (filled + count)) (sym (take-append-drop (filled + g.block_size) piece)) ∙ take-append-le (filled + count) _ _ (omega (arith, whole)) in
    let at : take (filled + count) (gathered ++ page) ≡ gathered ++ take count page =
    subst (λ (n : ℕ). take (n + count) (gathered ++ page) ≡ gathered ++ take count page) len (take-append-add gathered page count) in
    shorter ∙ ap (take (filled + count)) e ∙ at ∙ ap (λ (t : List ℕ). gathered ++ t) (take-map-range_with_len (page_byte g image address) 0 g.block_size count fits)

-- one page more is gathered
pub under_way_more : (g : Geometry) (image : List ℕ) (address : ℕ → ℕ) (size page : ℕ) (told now : Option (List ℕ)) (gathered piece : List ℕ) (filled count : ℕ)
    → page * g.block_size < size → count ≡ min g.block_size (size - page * g.block_size) → length gathered ≡ filled
    → take (filled + g.block_size) piece ≡ gathered ++ page_bytes g image (address page)
    → IsUnderWay g image address size page told now gathered → IsUnderWay g image address size (page + 1) told now (take (filled + count) piece)
under_way_more g image address size page told now gathered piece filled count below e len put h =
    let behind = page_behind g image gathered piece (address page) filled count (omega arith) len put in
    record {
      sum = page_more g image address told (grown now gathered) (grown now (take (filled + count) piece)) size page count below e h.sum (ap (grown now) behind ∙ sym (grown-grown now gathered _));
      front = h.front;
    }

-- a front of what is gathered, behind a front of the whole
front_of_some : (t whole p : List ℕ) (m n k : ℕ) → m ≤ length whole → n ≤ length whole → k ≤ length p → (t ++ take m whole) ++ p ≡ t ++ take n whole
    → (m + k ≤ length whole) × ((t ++ take m whole) ++ take k p ≡ t ++ take (m + k) whole)
front_of_some t whole p m n k few short part is =
    let same : take m whole ++ p ≡ take n whole = append_cancel_left t _ _ (sym (append_assoc t (take m whole) p) ∙ is) in
    let len : length (take m whole) ≡ m = length-take-le m whole few in
    let all : length (take n whole) ≡ n = length-take-le n whole short in
    let sum : m + length p ≡ n = omega (arith, ap length same, length-append (take m whole) p, len, all) in
    let front : take (m + k) whole ≡ take (m + k) (take n whole) =
    ap (take (m + k)) (sym (take-append-drop n whole)) ∙ take-append-le (m + k) _ _ (omega (arith, all, sum)) in
    let added : take (m + k) (take m whole ++ p) ≡ take m whole ++ take k p =
    subst (λ (j : ℕ). take (j + k) (take m whole ++ p) ≡ take m whole ++ take k p) len (take-append-add (take m whole) p k) in
    (omega (arith, sum), append_assoc t (take m whole) (take k p) ∙ ap (λ (u : List ℕ). t ++ u) (sym added ∙ ap (take (m + k)) same ∙ sym front))

front_on : (told now after : Option (List ℕ)) (p whole : List ℕ) (n : ℕ) → n ≤ length whole → AppendsFront told now whole → grown now p ≡ grown told (take n whole)
    → AppendsFront now after p → AppendsFront told after whole
front_on None None after p whole n few front is part = (0, omega arith, part.2)
front_on None (Some x) after p whole n few front is part = absurd (cc (front.2))
front_on (Some t) None after p whole n few front is part = absurd (cc (front.2))
front_on (Some t) (Some x) after p whole n few front is part =
    let here : x ≡ t ++ take front.0 whole = cc (front.2) in
    let sum : x ++ p ≡ t ++ take n whole = cc is in
    let both = front_of_some t whole p front.0 n part.0 front.1 few part.1 (subst (λ (y : List ℕ). y ++ p ≡ t ++ take n whole) here sum) in
    (front.0 + part.0, both.0, part.2 ∙ ap Some (ap (λ (y : List ℕ). y ++ take part.0 p) here ∙ both.1))

-- a front of what is gathered is written, and then the sink failed
pub under_way_failed : (g : Geometry) (image : List ℕ) (address : ℕ → ℕ) (size page : ℕ) (told now after : Option (List ℕ)) (gathered : List ℕ)
    → IsUnderWay g image address size page told now gathered → AppendsFront now after gathered → AppendsFront told after (file_bytes g image address size)
under_way_failed g image address size page told now after gathered h part =
    front_on told now after gathered _ _ (few_bytes g image address size page) h.front (h.sum ∙ ap (grown told) (up_to g image address size page)) part

-- all pages are written or gathered
pub under_way_whole : (g : Geometry) (image : List ℕ) (address : ℕ → ℕ) (size pages : ℕ) (told now : Option (List ℕ)) (gathered : List ℕ) → 0 < g.block_size
    → pages ≡ size / g.block_size + min 1 (size % g.block_size) → IsUnderWay g image address size pages told now gathered → grown now gathered ≡ grown told (file_bytes g image address size)
under_way_whole g image address size pages told now gathered pos e h =
    let all : size ≤ (size / g.block_size + min 1 (size % g.block_size)) * g.block_size = (div_ceil_times size g.block_size pos).0 in
    let most : size ≤ pages * g.block_size = subst (λ (n : ℕ). size ≤ n * g.block_size) (sym e) all in
    let end : min (pages * g.block_size) size ≡ size = omega arith in
    h.sum ∙ ap (λ (n : ℕ). grown told (file_bytes g image address n)) end
