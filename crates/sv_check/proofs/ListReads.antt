-- The test on a link block holds exactly where its bytes spell a list, and reads the numbers of that list.
use Rattle.std.proofs.Common.{◌≡◌, ◌≢◌, ◌≤◌, ◌<◌, ◌+◌, ◌*◌, ◌==◌, ◌&&◌, ◌⊎◌, ◌∙◌, ℕ, zero, suc, Bool, not, true, false, List, Option, Some, None, IfSome, IfNone, ap, sym, refl, inl, inr, if◌then◌else◌, map, take, length, slice_index, nat_le, zero-add, arith}
use Rattle.std.specs.List.{list_all, range_with_len}
use Rattle.std.proofs.lemmas.Bool.{cases_eq, cases_lt, eqb-true, false≢true}
use Rattle.std.proofs.lemmas.List.{get_or-take, get_or_past, length-take-le}
use Rattle.std.proofs.lemmas.List.FromFn.{get_or-map-range_with_len, length-map-range_with_len}
use Rattle.sv_form.specs.declared.link_block.LinkBlock.{LinkBlock}
use Rattle.sv_form.specs.LinkBlock.{IsLinkBlock}
use Rattle.sv_form.specs.Number.{number16, number32}
use Rattle.sv_check.specs.Blocks.{IsListRead}
use Rattle.sv_check.specs.Chain.{is_filled, list_in, reads_list}
use Rattle.sv_check.proofs.ChainStart.{table_list}
use Rattle.sv_check.proofs.InodeReads.{and_first, and_second}

-- ---- a test of a range of numbers

all_range : (p : ℕ → Bool) (a n : ℕ) → ((k : ℕ) → a ≤ k → k < a + n → p k ≡ true) → list_all p (range_with_len a n) ≡ true
all_range p a zero each = refl
all_range p a (suc n) each =
    ap (λ (t : Bool). t && list_all p (range_with_len (a + 1) n)) (each a (omega arith) (omega arith))
    ∙ all_range p (a + 1) n (λ k low high. each k (omega (arith, low)) (omega (arith, high)))

each_step : (p : ℕ → Bool) (a k : ℕ) → p a ≡ true → (a + 1 ≤ k → p k ≡ true) → a ≤ k → (a ≡ k) ⊎ (a ≡ k → ⊥) → p k ≡ true
each_step p a k here rest low (inl e) = ap p (sym e) ∙ here
each_step p a k here rest low (inr other) = rest (omega (arith, low, other))

each_range : (p : ℕ → Bool) (a n : ℕ) → list_all p (range_with_len a n) ≡ true → (k : ℕ) → a ≤ k → k < a + n → p k ≡ true
each_range p a zero all k low high = absurd (omega (arith, low, high))
each_range p a (suc n) all k low high =
    each_step p a k (and_first (p a) (list_all p (range_with_len (a + 1) n)) all)
    (λ more. each_range p (a + 1) n (and_second (p a) (list_all p (range_with_len (a + 1) n)) all) k more (omega (arith, high))) low (cases_eq a k)

-- ---- a place that has a number exactly where the list reaches it

abbrev fills : ℕ → ℕ → ℕ → Bool
fills count k x = if nat_le count k then x == 0 else not (x == 0)

fills_if : (count k x : ℕ) → (count ≤ k → x ≡ 0) → (k < count → x ≢ 0) → (k < count) ⊎ (count ≤ k) → fills count k x ≡ true
fills_if count k x zeros some (inl below) =
    let test : nat_le count k ≡ false = grind (arith, below) in
    let there : x ≢ 0 = some below in
    let full : not (x == 0) ≡ true = grind (arith, there) in
    ap (λ (t : Bool). if t then x == 0 else not (x == 0)) test ∙ full
fills_if count k x zeros some (inr past) =
    let test : nat_le count k ≡ true = grind (arith, past) in
    ap (λ (t : Bool). if t then x == 0 else not (x == 0)) test ∙ ap (λ (y : ℕ). y == 0) (zeros past)

fills_zero : (count k x : ℕ) → fills count k x ≡ true → count ≤ k → x ≡ 0
fills_zero count k x so past =
    let test : nat_le count k ≡ true = grind (arith, past) in
    eqb-true x 0 (sym (ap (λ (t : Bool). if t then x == 0 else not (x == 0)) test) ∙ so)

fills_some : (count k x : ℕ) → fills count k x ≡ true → k < count → x ≢ 0
fills_some count k x so below none =
    let test : nat_le count k ≡ false = grind (arith, below) in
    let full : not (x == 0) ≡ true = sym (ap (λ (t : Bool). if t then x == 0 else not (x == 0)) test) ∙ so in
    false≢true (sym (ap (λ (y : ℕ). not (y == 0)) none) ∙ full)

at_most : (a b : ℕ) → nat_le a b ≡ true → a ≤ b
at_most a b e = grind (arith, e)

-- ---- the first 204 bytes of a block

module _ (block : List ℕ) where
  abbrev front : List ℕ
  front = take 204 block

  byte : (k : ℕ) → k < 204 → slice_index front k ≡ slice_index block k
  byte k below = get_or-take 204 block k 0 below

  front16 : (at : ℕ) → at + 2 ≤ 204 → number16 front at ≡ number16 block at
  front16 at within =
      ap (λ (x : ℕ). x + 256 * slice_index front (at + 1)) (byte at (omega (arith, within))) ∙ ap (λ (x : ℕ). slice_index block at + 256 * x) (byte (at + 1) (omega (arith, within)))

  front32 : (at : ℕ) → at + 4 ≤ 204 → number32 front at ≡ number32 block at
  front32 at within =
      ap (λ (x : ℕ). x + 65536 * number16 front (at + 2)) (front16 at (omega (arith, within))) ∙ ap (λ (x : ℕ). number16 block at + 65536 * x) (front16 (at + 2) (omega (arith, within)))

  abbrev number_of : ℕ → ℕ
  number_of k = number32 block (4 + 4 * k)

  abbrev count : ℕ
  count = number16 block 0

  -- ---- bytes that spell a list

  module _ (l : LinkBlock) (is : IsLinkBlock front l) where
    counted : count ≡ length l.numbers.items
    counted = sym (front16 0 (omega arith)) ∙ is.numbers.count

    number : (k : ℕ) → k < 50 → number_of k ≡ slice_index l.numbers.items k
    number k below = sym (front32 (4 + 4 * k) (omega (arith, below))) ∙ is.numbers.table k below

    filled_at : (k : ℕ) → 1 ≤ k → k < 50 → is_filled block k ≡ true
    filled_at k low high =
        fills_if count k (number_of k) (λ past. number k high ∙ get_or_past l.numbers.items k 0 (omega (arith, past, counted)))
        (λ below none. is.blocks k low (omega (arith, below, counted)) (sym (number k high) ∙ none)) (cases_lt k count)

    pub spelled_list : reads_list block ≡ true
    spelled_list =
        let all : Bool = list_all (is_filled block) (range_with_len 1 49) in
        let least : nat_le 1 count ≡ true = grind (arith, counted, is.numbers.some) in
        let most : nat_le count 50 ≡ true = grind (arith, counted, is.numbers.fits) in
        let second : slice_index block 2 ≡ 0 = sym (byte 2 (omega arith)) ∙ is.zero 2 (omega arith) (omega arith) in
        let third : slice_index block 3 ≡ 0 = sym (byte 3 (omega arith)) ∙ is.zero 3 (omega arith) (omega arith) in
        ap (λ (t : Bool). t && nat_le count 50 && (slice_index block 2 == 0) && (slice_index block 3 == 0) && all) least
        ∙ ap (λ (t : Bool). t && (slice_index block 2 == 0) && (slice_index block 3 == 0) && all) most
        ∙ ap (λ (x : ℕ). (x == 0) && (slice_index block 3 == 0) && all) second ∙ ap (λ (x : ℕ). (x == 0) && all) third
        ∙ all_range (is_filled block) 1 49 (λ k low high. filled_at k low (omega (arith, high)))

    pub list_of : l.numbers.items ≡ list_in block
    list_of =
        sym (ap (λ (n : ℕ). map number_of (range_with_len 0 n)) counted
        ∙ table_list number_of l.numbers.items (λ k less. number k (omega (arith, less, is.numbers.fits))))

  -- ---- a block that passes the test

  module _ (size : 204 ≤ length block) (reads : reads_list block ≡ true) where
    abbrev all_filled : Bool
    all_filled = list_all (is_filled block) (range_with_len 1 49)

    abbrev two : Bool
    two = nat_le 1 count && nat_le count 50

    before_last : (two && (slice_index block 2 == 0) && (slice_index block 3 == 0)) ≡ true
    before_last = and_first (two && (slice_index block 2 == 0) && (slice_index block 3 == 0)) all_filled reads

    before_third : (two && (slice_index block 2 == 0)) ≡ true
    before_third = and_first (two && (slice_index block 2 == 0)) (slice_index block 3 == 0) before_last

    both : two ≡ true
    both = and_first two (slice_index block 2 == 0) before_third

    some : 1 ≤ count
    some = at_most 1 count (and_first (nat_le 1 count) (nat_le count 50) both)

    fits : count ≤ 50
    fits = at_most count 50 (and_second (nat_le 1 count) (nat_le count 50) both)

    is_filled_at : (k : ℕ) → 1 ≤ k → k < 50 → fills count k (number_of k) ≡ true
    is_filled_at k low high =
        each_range (is_filled block) 1 49 (and_second (two && (slice_index block 2 == 0) && (slice_index block 3 == 0)) all_filled reads) k low (omega (arith, high))

    abbrev items : List ℕ
    items = list_in block

    len : length items ≡ count
    len = length-map-range_with_len number_of 0 count

    item : (k : ℕ) → k < count → slice_index items k ≡ number_of k
    item k below = get_or-map-range_with_len number_of 0 count k k 0 below (zero-add k)

    table_at : (k : ℕ) → k < 50 → (k < count) ⊎ (count ≤ k) → number32 front (4 + 4 * k) ≡ slice_index items k
    table_at k high (inl below) = front32 (4 + 4 * k) (omega (arith, high)) ∙ sym (item k below)
    table_at k high (inr past) =
        front32 (4 + 4 * k) (omega (arith, high)) ∙ fills_zero count k (number_of k) (is_filled_at k (omega (arith, past, some)) high) past
        ∙ sym (get_or_past items k 0 (omega (arith, past, len)))

    zero_at : (k : ℕ) → 2 ≤ k → k < 4 → (k ≡ 2) ⊎ (k ≡ 2 → ⊥) → slice_index front k ≡ 0
    zero_at k low high (inl e) =
        byte k (omega (arith, high)) ∙ ap (slice_index block) e ∙ eqb-true (slice_index block 2) 0 (and_second two (slice_index block 2 == 0) before_third)
    zero_at k low high (inr other) =
        let e : k ≡ 3 = omega (arith, low, high, other) in
        byte k (omega (arith, high)) ∙ ap (slice_index block) e
        ∙ eqb-true (slice_index block 3) 0 (and_second (two && (slice_index block 2 == 0)) (slice_index block 3 == 0) before_last)

    found : LinkBlock
    found = record { numbers = record { items = items } }

    pub reads_spelled : (l : LinkBlock) × IsLinkBlock front l
    unfolding found
    reads_spelled = (
      found,
      record {
        size = length-take-le 204 block size;
        numbers = record {
          count = front16 0 (omega arith) ∙ sym len;
          some = omega (arith, len, some);
          fits = omega (arith, len, fits);
          table = λ k below. table_at k below (cases_lt k count);
        };
        zero = λ k low high. zero_at k low high (cases_eq k 2);
        blocks = λ k low high none.
            let below : k < count = omega (arith, high, len) in
            fills_some count k (number_of k) (is_filled_at k low (omega (arith, below, fits))) below (sym (item k below) ∙ none);
      },
    )

  unread : 204 ≤ length block → ((l : LinkBlock) → IsLinkBlock front l → ⊥) → (t : Bool) → reads_list block ≡ t → t ≡ false
  unread size none false e = refl
  unread size none true e = let found = reads_spelled size e in absurd (none found.0 found.1)

  pub list_read : (read : Option LinkBlock) → 204 ≤ length block → IfSome read (λ l. IsLinkBlock front l) → IfNone read ((l : LinkBlock) → IsLinkBlock front l → ⊥) → IsListRead block read
  list_read None size is none = record { format = none; test = unread size none (reads_list block) refl; list = tt }
  list_read (Some l) size is none = record { format = is; test = spelled_list l is; list = list_of l is }
