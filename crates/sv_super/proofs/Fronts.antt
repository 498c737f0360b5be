-- The bytes with which a block begins, and the list that stands there.
use Rattle.std.proofs.Common.{◌≡◌, ◌<◌, ◌≤◌, ◌+◌, ◌*◌, ◌/◌, ◌%◌, ℕ, List, [], length, map, take, get_or, Option, Some, None, IsSome, IfSome, unwrap_or, arith, sym, ap, ◌∙◌, subst}
use Rattle.std.specs.List.{range_with_len}
use Rattle.std.proofs.lemmas.Bool.{false≢true}
use Rattle.std.proofs.lemmas.List.{ext_get_or, get_or-take, length-take}
use Rattle.std.proofs.lemmas.List.FromFn.{get_or-map-range_with_len, length-map-range_with_len}
use Rattle.sv_form.specs.Geometry.{IsGeometry}
use Rattle.sv_form.specs.declared.geometry.Geometry.{Geometry}
use Rattle.sv_form.specs.LinkBlock.{IsLinkBlock}
use Rattle.sv_form.specs.Number.{number16, number32}
use Rattle.sv_form.specs.declared.link_block.LinkBlock.{LinkBlock}
use Rattle.sv_form.proofs.LinkBlocks.{one_link_block}
use Rattle.sv_store.specs.Held.{Held, Origin, HoldsBlock, line_of}
use Rattle.sv_store.specs.Calls.{Gets}
use Rattle.sv_store.specs.Loan.{Loan}
use Rattle.sv_store.proofs.Lines.{get_or-by_line}
use Rattle.sv_super.specs.FreeList.{HasList, byte_of, front, list_of}

-- the list that has these numbers
abbrev pub block_list : List ℕ → LinkBlock
block_list list = record { numbers = record { items = list } }

-- where the first lines are those of a block, its first bytes are the front
pub front-is : (lines : ℕ → Option (List ℕ)) (bytes : List ℕ) → 204 ≤ length bytes → ((l : ℕ) → l < 4 → lines l ≡ Some (line_of bytes l)) → front lines ≡ take 204 bytes
unfolding front
front-is lines bytes size same =
    ext_get_or 0 (map (byte_of lines) (range_with_len 0 204)) (take 204 bytes) (long ∙ sym short) (λ k low. byte k (omega (arith, low, long)))
  where
    long : length (map (byte_of lines) (range_with_len 0 204)) ≡ 204
    long = length-map-range_with_len (byte_of lines) 0 204

    short : length (take 204 bytes) ≡ 204
    short = length-take 204 bytes ∙ omega arith

    byte : (k : ℕ) → k < 204 → get_or (map (byte_of lines) (range_with_len 0 204)) k 0 ≡ get_or (take 204 bytes) k 0
    byte k low =
        get_or-map-range_with_len (byte_of lines) 0 204 k k 0 low (omega arith)
        ∙ (ap (λ q. get_or (unwrap_or q []) (k % 64) 0) (same (k / 64) (omega arith))
        ∙ (sym (get_or-by_line bytes k) ∙ sym (get_or-take 204 bytes k 0 low)))

-- a line of a block that was got
pub line-got : {o : Origin} {h : Held} {b : ℕ} {buf : Loan} → Gets o h b buf → HoldsBlock o h b → (l : ℕ) → l * 64 < o.sizes.block_size → h b l ≡ Some (line_of buf.bytes l)
line-got {o} {h} {b} {buf} gets holds l low = by (h b l) (gets.lines l) (holds.at l low)
  where
    by : (p : Option (List ℕ)) → IfSome p (λ bytes. line_of buf.bytes l ≡ bytes) → IsSome p → p ≡ Some (line_of buf.bytes l)
    by None e is = absurd (false≢true is)
    by (Some x) e is = ap Some (sym e)

-- a list fixes what is read
pub list_of-is : (lines : ℕ → Option (List ℕ)) (list : List ℕ) → HasList lines list → list_of lines ≡ list
list_of-is lines list has =
    ext_get_or 0 (map number (range_with_len 0 (number16 (front lines) 0))) list (long ∙ has.spelled.numbers.count)
    (λ k low. get_or-map-range_with_len number 0 (number16 (front lines) 0) k k 0 (omega (arith, low, long)) (omega arith) ∙ has.spelled.numbers.table k (omega (arith, low, long, has.spelled.numbers.count, has.spelled.numbers.fits)))
  where
    number : ℕ → ℕ
    number k = number32 (front lines) (4 + 4 * k)

    long : length (map number (range_with_len 0 (number16 (front lines) 0))) ≡ number16 (front lines) 0
    long = length-map-range_with_len number 0 (number16 (front lines) 0)

-- what is read at the begin of a block that was got is its list
pub read-is : (lines : ℕ → Option (List ℕ)) (bytes list : List ℕ) (l : LinkBlock) → front lines ≡ take 204 bytes → HasList lines list → IsLinkBlock (take 204 bytes) l → l.numbers.items ≡ list
read-is lines bytes list l same has is =
    ap (λ q. q.numbers.items) (one_link_block (take 204 bytes) l (block_list list) is (let P : List ℕ → Type 0 = λ q. IsLinkBlock q (block_list list) in subst P same has.spelled))

-- the begin of a block that was got
pub got-front : {o : Origin} {h : Held} {b : ℕ} {buf : Loan} (sizes : Geometry) → sizes ≡ o.sizes → IsGeometry sizes → Gets o h b buf → HoldsBlock o h b → front (h b) ≡ take 204 buf.bytes
got-front {o} {h} {b} {buf} sizes value is gets holds =
    let long : o.sizes.block_size ≡ 1024 = sym (ap (λ q. q.block_size) value) ∙ is.block_size in
    front-is (h b) buf.bytes (omega (arith, gets.size, long)) (λ l low. line-got gets holds l (omega (arith, low, long)))
