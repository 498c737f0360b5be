-- Parts of pages, one after another, are the bytes of a file.
use Rattle.std.proofs.Common.{◌≡◌, ◌+◌, ◌-◌, ◌*◌, ◌/◌, ◌%◌, ◌<◌, ◌≤◌, ℕ, zero, suc, List, [], ◌∷◌, ◌++◌, length, get_or, drop, map}
use Rattle.std.proofs.Common.{replicate, min, max, Option, Some, None, IsSome, IfSome, unwrap_or, slice_range, arith, refl, sym, ◌∙◌, ap}
use Rattle.std.proofs.Common.{subst}
use Rattle.std.specs.List.{range_with_len}
use Rattle.std.proofs.lemmas.Bool.{false≢true}
use Rattle.std.proofs.lemmas.Grind.{div_ceil_times}
use Rattle.std.proofs.lemmas.List.{same_lists, places, length-replicate, get_or-replicate, length-take, length-drop, get_or-take}
use Rattle.std.proofs.lemmas.List.{get_or-drop, map-append, append_assoc, replicate-append-replicate}
use Rattle.std.proofs.lemmas.List.FromFn.{length-map-range_with_len, get_or-map-range_with_len}
use Rattle.std.proofs.lemmas.Nat.{div-mul-add, mod-mul-add}
use Rattle.std.proofs.Math.Nat.{mul-le-mul_right, zero-add, add-zero, suc-add, lt-div-mul-add, div-mul-le_self}
use Rattle.sv_form.specs.declared.geometry.Geometry.{Geometry}
use Rattle.sv_store.specs.Held.{Held, Origin, HoldsBlock, line_of}
use Rattle.sv_store.specs.Calls.{Gets}
use Rattle.sv_store.specs.Loan.{Loan}
use Rattle.sv_store.proofs.Lines.{get_or-by_line}
use Rattle.sv_inode.specs.Contents.{part_byte, part_bytes, block_of, file_byte, file_bytes}

get_or_other : (zs : List ℕ) (k d e : ℕ) → k < length zs → get_or zs k d ≡ get_or zs k e
get_or_other zs k d e below = grind (arith, places)

-- two ranges of one length with the same values
pub same_map : (f g : ℕ → ℕ) (a b n : ℕ) → ((k : ℕ) → k < n → f (a + k) ≡ g (b + k))
    → map f (range_with_len a n) ≡ map g (range_with_len b n)
same_map f g a b n each =
    same_lists _ _ (length-map-range_with_len f a n ∙ sym (length-map-range_with_len g b n))
    (λ k d h.
    let below : k < n = subst (λ (m : ℕ). k < m) (length-map-range_with_len f a n) h in
    get_or-map-range_with_len f a n k (a + k) d below refl ∙ (each k below ∙ sym (get_or-map-range_with_len g b n k (b + k) d below refl)))

-- a list that has the values of a range
pub list_is_map : (xs : List ℕ) (f : ℕ → ℕ) (a n : ℕ) → length xs ≡ n → ((k : ℕ) → k < n → get_or xs k 0 ≡ f (a + k))
    → xs ≡ map f (range_with_len a n)
list_is_map xs f a n size each =
    same_lists _ _ (size ∙ sym (length-map-range_with_len f a n))
    (λ k d h.
    let below : k < n = subst (λ (m : ℕ). k < m) size h in
    get_or_other xs k d 0 h ∙ (each k below ∙ sym (get_or-map-range_with_len f a n k (a + k) d below refl)))

-- one zero more
pub zero_more : (xs : List ℕ) (n : ℕ) → (xs ++ replicate n 0) ++ 0 ∷ [] ≡ xs ++ replicate (n + 1) 0
zero_more xs n = append_assoc xs (replicate n 0) (0 ∷ []) ∙ ap (λ q. xs ++ q) (replicate-append-replicate n 1 0)

-- a part of a hole is zeros
pub hole_part : (h : Held) (from count : ℕ) → replicate count 0 ≡ part_bytes h None from count
unfolding part_bytes
hole_part h from count =
    list_is_map (replicate count 0) (part_byte h None) from count (length-replicate count 0) (λ k low. get_or-replicate count k 0 0 low)

-- the bytes that were got are those of the page
pub part_got : {o : Origin} {h : Held} {b : ℕ} {buf : Loan} → Gets o h b buf → HoldsBlock o h b → (from count : ℕ)
    → from + count ≤ o.sizes.block_size
    → slice_range buf.bytes from (from + count) ≡ part_bytes h (Some b) from count
unfolding part_bytes
part_got {o} {h} {b} {buf} gets holds from count fits =
    list_is_map (slice_range buf.bytes from (from + count)) (part_byte h (Some b)) from count size each
  where
    size : length (slice_range buf.bytes from (from + count)) ≡ count
    size =
        length-take (from + count - from) (drop from buf.bytes)
        ∙ (ap (λ q. min (from + count - from) q) (length-drop from buf.bytes)
        ∙ (let big : length buf.bytes ≡ o.sizes.block_size = gets.size in omega arith))

    line : (r : ℕ) (x : Option (List ℕ)) → IsSome x → IfSome x (λ y. line_of buf.bytes (r / 64) ≡ y)
        → line_of buf.bytes (r / 64) ≡ unwrap_or x []
    line r None is e = absurd (false≢true is)
    line r (Some y) is e = e

    byte : (r : ℕ) → r < o.sizes.block_size → get_or buf.bytes r 0 ≡ part_byte h (Some b) r
    byte r low =
        get_or-by_line buf.bytes r
        ∙ ap (λ q. get_or q (r % 64) 0) (line r (h b (r / 64)) (holds.at (r / 64) (omega arith)) (gets.lines (r / 64)))

    each : (k : ℕ) → k < count → get_or (slice_range buf.bytes from (from + count)) k 0 ≡ part_byte h (Some b) (from + k)
    each k low =
        get_or-take (from + count - from) (drop from buf.bytes) k 0 (omega arith)
        ∙ (get_or-drop from buf.bytes k 0 ∙ byte (from + k) (omega arith))

-- ---- the file

range_split : (a m n : ℕ) → range_with_len a (m + n) ≡ range_with_len a m ++ range_with_len (a + m) n
range_split a zero n = rw (zero-add, add-zero) refl
range_split a (suc m) n =
    rw (suc-add) (ap (λ (r : List ℕ). a ∷ r)
    (range_split (a + 1) m n ∙ ap (λ (k : ℕ). range_with_len (a + 1) m ++ range_with_len k n) (omega arith)))

-- byte j of page p of the file
file_byte-page : (g : Geometry) (h : Held) (a : List ℕ) (p j : ℕ) → j < g.block_size
    → file_byte g h a (p * g.block_size + j) ≡ part_byte h (block_of g h a p) j
unfolding file_byte
file_byte-page g h a p j low =
    ap (λ q. part_byte h (block_of g h a q) ((p * g.block_size + j) % g.block_size)) (div-mul-add p g.block_size j low)
    ∙ ap (part_byte h (block_of g h a p)) (mod-mul-add p g.block_size j low)

-- so many bytes of the file, and then some of the next page
file_bytes_and : (g : Geometry) (h : Held) (a : List ℕ) (at n p from count : ℕ) → at + n ≡ p * g.block_size + from
    → from + count ≤ g.block_size
    → file_bytes g h a at (n + count) ≡ file_bytes g h a at n ++ part_bytes h (block_of g h a p) from count
unfolding file_byte file_bytes part_bytes
file_bytes_and g h a at n p from count here fits =
    ap (map (file_byte g h a)) (range_split at n count)
    ∙ (map-append (file_byte g h a) (range_with_len at n) (range_with_len (at + n) count)
    ∙ ap (λ q. map (file_byte g h a) (range_with_len at n) ++ q)
    (same_map (file_byte g h a) (part_byte h (block_of g h a p)) (at + n) from count
    (λ k low.
    let place : at + n + k ≡ p * g.block_size + (from + k) = omega arith in
    ap (file_byte g h a) place ∙ file_byte-page g h a p (from + k) (omega arith))))

-- no bytes of a file
pub file_bytes_none : (g : Geometry) (h : Held) (a : List ℕ) (at n : ℕ) → n ≡ 0 → file_bytes g h a at n ≡ []
unfolding file_byte file_bytes
file_bytes_none g h a at n e = ap (λ q. map (file_byte g h a) (range_with_len at q)) e

-- the bytes before the first page: none
pub file_bytes_first : (g : Geometry) (h : Held) (a : List ℕ) (at end p : ℕ) → 0 < g.block_size → p ≡ at / g.block_size
    → [] ≡ file_bytes g h a at (min (p * g.block_size) end - at)
file_bytes_first g h a at end p pos e =
    let low : p * g.block_size ≤ at = subst (λ (q : ℕ). q * g.block_size ≤ at) (sym e) (div-mul-le_self at g.block_size) in
    sym (file_bytes_none g h a at (min (p * g.block_size) end - at) (omega arith))

-- one page more
pub file_bytes_more : (g : Geometry) (h : Held) (a : List ℕ) (at end p from upto : ℕ) → p * g.block_size < end
    → at < (p + 1) * g.block_size → at < end
    → from ≡ max at (p * g.block_size) - p * g.block_size → upto ≡ min (end - p * g.block_size) g.block_size
    → (before after : List ℕ) → before ≡ file_bytes g h a at (min (p * g.block_size) end - at)
    → after ≡ before ++ part_bytes h (block_of g h a p) from (upto - from)
    → after ≡ file_bytes g h a at (min ((p + 1) * g.block_size) end - at)
file_bytes_more g h a at end p from upto below over some begins ends before after was grew =
    let n : ℕ = min (p * g.block_size) end - at in
    let next : (p + 1) * g.block_size ≡ p * g.block_size + g.block_size = grind arith in
    let here : at + n ≡ p * g.block_size + from = omega arith in
    let fits : from + (upto - from) ≤ g.block_size = omega arith in
    let whole : n + (upto - from) ≡ min ((p + 1) * g.block_size) end - at = omega arith in
    grew ∙ (ap (λ q. q ++ part_bytes h (block_of g h a p) from (upto - from)) was
    ∙ (sym (file_bytes_and g h a at n p from (upto - from) here fits) ∙ ap (file_bytes g h a at) whole))

-- after the last page
pub file_bytes_last : (g : Geometry) (h : Held) (a : List ℕ) (at count p end : ℕ) → 0 < g.block_size → end ≡ at + count
    → p ≡ end / g.block_size + min 1 (end % g.block_size)
    → file_bytes g h a at (min (p * g.block_size) end - at) ≡ file_bytes g h a at count
file_bytes_last g h a at count p end pos ends e =
    let reach : end ≤ p * g.block_size = subst (λ (q : ℕ). end ≤ q * g.block_size) (sym e) (div_ceil_times end g.block_size pos).0 in
    let same : min (p * g.block_size) end - at ≡ count = omega arith in
    ap (file_bytes g h a at) same

-- ---- which pages there are

-- a page before the last one begins below the end
pub page_below : (end b pages p : ℕ) → 0 < b → pages ≡ end / b + min 1 (end % b) → p < pages → p * b < end
page_below end b pages p pos e low =
    let short = (div_ceil_times end b pos).1 in
    let more : (p + 1) * b ≤ pages * b = mul-le-mul_right b (omega arith) in
    let next : (p + 1) * b ≡ p * b + b = grind arith in
    let f : pages * b < end + b = subst (λ (n : ℕ). n * b < end + b) (sym e) short in
    omega arith

-- the first page, and each after it, ends past the first byte
pub page_over : (at b first p : ℕ) → 0 < b → first ≡ at / b → first ≤ p → at < (p + 1) * b
page_over at b first p pos e low =
    let past : at < at / b * b + b = lt-div-mul-add pos in
    let begin : at < first * b + b = subst (λ (q : ℕ). at < q * b + b) (sym e) past in
    let more : first * b ≤ p * b = mul-le-mul_right b low in
    let next : (p + 1) * b ≡ p * b + b = grind arith in
    omega arith
