-- The tests on the bytes of an inode hold exactly where the bytes spell an inode, and read its numbers.
use Rattle.std.proofs.Common.{◌≡◌, ◌≤◌, ◌+◌, ◌%◌, ◌==◌, ◌&&◌, ◌||◌, ◌∷◌, [], ◌∙◌, ℕ, zero, suc, Bool, true, false, List, Option, Some, None, IfSome, IfNone, ap, sym, refl, inl, inr, map, length, slice_index, zero-add, arith}
use Rattle.std.specs.List.{range_with_len}
use Rattle.std.proofs.lemmas.Bool.{cases_lt, eqb-true, false≢true}
use Rattle.std.proofs.lemmas.List.{get_or_past}
use Rattle.std.proofs.lemmas.List.FromFn.{get_or-map-range_with_len, length-map-range_with_len}
use Rattle.sv_form.specs.declared.kind.Kind.{Kind}
use Rattle.sv_form.specs.declared.kind.Kind.TheVariants.{File, Dir}
use Rattle.sv_form.specs.declared.inode.InodeBody.{InodeBody}
use Rattle.sv_form.specs.declared.inode.DiskInode.{DiskInode}
use Rattle.sv_form.specs.declared.inode.DiskInode.TheVariants.{Free, Used}
use Rattle.sv_form.specs.Inode.{IsBody, IsInode, address_place, kind_code, time_place}
use Rattle.sv_form.specs.Node.{is_dir}
use Rattle.sv_form.specs.Number.{IsZero, IsTable, number16, number24, number32}
use Rattle.sv_check.specs.Blocks.{IsInodeRead, ShowsBody, ShowsInode}
use Rattle.sv_check.specs.InodeList.{all_zero, is_directory, is_free, is_regular, kind_bits, reads_inode}

pub and_first : (a b : Bool) → (a && b) ≡ true → a ≡ true
and_first true b e = refl
and_first false b e = e

pub and_second : (a b : Bool) → (a && b) ≡ true → b ≡ true
and_second true b e = e
and_second false b e = absurd (false≢true e)

-- ---- zero bytes

pub zero_each : (xs : List ℕ) (k : ℕ) → all_zero xs ≡ true → slice_index xs k ≡ 0
zero_each [] k all = refl
zero_each (x ∷ xs) zero all = eqb-true x 0 (and_first (x == 0) (all_zero xs) all)
zero_each (x ∷ xs) (suc k) all = zero_each xs k (and_second (x == 0) (all_zero xs) all)

pub zero_all : (xs : List ℕ) → ((k : ℕ) → slice_index xs k ≡ 0) → all_zero xs ≡ true
zero_all [] each = refl
zero_all (x ∷ xs) each = ap (λ (y : ℕ). (y == 0) && all_zero xs) (each 0) ∙ zero_all xs (λ k. each (suc k))

module _ (bytes : List ℕ) (size : length bytes ≡ 64) where
  zeros_at : IsZero bytes 0 64 → (k : ℕ) → slice_index bytes k ≡ 0
  zeros_at zeros k =
      elim (cases_lt k 64) as (λ _. slice_index bytes k ≡ 0) [
        | inl below ↦ zeros k (omega arith) below
        | inr past ↦ get_or_past bytes k 0 (omega (arith, size, past))
      ]

  free_reads : IsZero bytes 0 64 → is_free bytes ≡ true
  free_reads zeros = zero_all bytes (zeros_at zeros)

-- ---- the kind

code_some : (k : Kind) → 4 ≤ kind_code k
code_some File = omega arith
code_some Dir = omega arith

dir_bits : (k : Kind) (n : ℕ) → n ≡ kind_code k → (n == 4) ≡ is_dir k
dir_bits File n e = ap (λ (x : ℕ). x == 4) e
dir_bits Dir n e = ap (λ (x : ℕ). x == 4) e

kind_known : (k : Kind) (n : ℕ) → n ≡ kind_code k → ((n == 8) || (n == 4)) ≡ true
kind_known File n e = ap (λ (x : ℕ). (x == 8) || (x == 4)) e
kind_known Dir n e = ap (λ (x : ℕ). (x == 8) || (x == 4)) e

kind_from : (n : ℕ) (t : Bool) → (n == 8) ≡ t → (t || (n == 4)) ≡ true → (k : Kind) × (n ≡ kind_code k)
kind_from n true eight some = (File, eqb-true n 8 eight)
kind_from n false eight some = (Dir, eqb-true n 4 some)

-- ---- bytes that spell a used inode

module _ (bytes : List ℕ) (b : InodeBody) (is : IsBody bytes b) where
  bits : kind_bits bytes ≡ kind_code b.kind
  bits = omega (arith, is.kind, is.mode)

  not_free : (t : Bool) → is_free bytes ≡ t → t ≡ false
  not_free false e = refl
  not_free true e =
      let low : slice_index bytes 0 ≡ 0 = zero_each bytes 0 e in
      let high : slice_index bytes (0 + 1) ≡ 0 = zero_each bytes (0 + 1) e in
      absurd (omega (arith, low, high, is.kind, code_some b.kind))

  pub shows_body : ShowsBody bytes b
  shows_body = record {
    used = not_free (is_free bytes) refl;
    directory = dir_bits b.kind (kind_bits bytes) bits;
    links = is.links;
    size = is.size;
    addresses = is.addresses;
  }

  used_reads : reads_inode bytes ≡ true
  used_reads =
      let known : (is_regular bytes || is_directory bytes) ≡ true = kind_known b.kind (kind_bits bytes) bits in
      let spare : slice_index bytes 51 ≡ 0 = is.zero 51 (omega arith) (omega arith) in
      ap (λ (t : Bool). t || ((is_regular bytes || is_directory bytes) && (slice_index bytes 51 == 0))) (not_free (is_free bytes) refl)
      ∙ ap (λ (t : Bool). t && (slice_index bytes 51 == 0)) known ∙ ap (λ (x : ℕ). x == 0) spare

pub spelled_reads : (bytes : List ℕ) (i : DiskInode) → IsInode bytes i → reads_inode bytes ≡ true
spelled_reads bytes Free is =
    ap (λ (t : Bool). t || ((is_regular bytes || is_directory bytes) && (slice_index bytes 51 == 0))) (free_reads bytes is.size is.spelled)
spelled_reads bytes (Used b) is = used_reads bytes b is.spelled

pub shows_inode : (bytes : List ℕ) (i : DiskInode) → IsInode bytes i → ShowsInode bytes i
shows_inode bytes Free is = free_reads bytes is.size is.spelled
shows_inode bytes (Used b) is = shows_body bytes b is.spelled

-- ---- bytes that pass the test

module _ (bytes : List ℕ) (size : length bytes ≡ 64) where
  body_of : Kind → InodeBody
  body_of k = record {
    kind = k;
    mode = number16 bytes 0 % 4096;
    links = number16 bytes 2;
    owner = number16 bytes 4;
    group = number16 bytes 6;
    size = number32 bytes 8;
    addresses = map (λ j. number24 bytes (address_place j)) (range_with_len 0 13);
    times = map (λ j. number32 bytes (time_place j)) (range_with_len 0 3);
  }

  table_of : (f : ℕ → ℕ) (n : ℕ) → IsTable f n (map f (range_with_len 0 n))
  table_of f n k below = sym (get_or-map-range_with_len f 0 n k k 0 below (zero-add k))

  body_spelled : (k : Kind) → kind_bits bytes ≡ kind_code k → (slice_index bytes 51 == 0) ≡ true → IsBody bytes (body_of k)
  unfolding body_of
  body_spelled k bits spare = record {
    kind = omega (arith, bits);
    mode = omega arith;
    links = refl;
    owner = refl;
    group = refl;
    size = refl;
    addresses = table_of (λ j. number24 bytes (address_place j)) 13;
    address_count = length-map-range_with_len (λ j. number24 bytes (address_place j)) 0 13;
    zero = λ k low high. ap (slice_index bytes) (omega (arith, low, high)) ∙ eqb-true (slice_index bytes 51) 0 spare;
    times = table_of (λ j. number32 bytes (time_place j)) 3;
    time_count = length-map-range_with_len (λ j. number32 bytes (time_place j)) 0 3;
  }

  by_freedom : (t : Bool) → is_free bytes ≡ t → (t || ((is_regular bytes || is_directory bytes) && (slice_index bytes 51 == 0))) ≡ true → (i : DiskInode) × IsInode bytes i
  by_freedom true free reads = (Free, record { size = size; spelled = λ k low high. zero_each bytes k free })
  by_freedom false free reads =
      let kind = kind_from (kind_bits bytes) (is_regular bytes) refl (and_first (is_regular bytes || is_directory bytes) (slice_index bytes 51 == 0) reads) in
      let spare = and_second (is_regular bytes || is_directory bytes) (slice_index bytes 51 == 0) reads in
      (Used (body_of kind.0), record { size = size; spelled = body_spelled kind.0 kind.1 spare })

  pub reads_spelled : reads_inode bytes ≡ true → (i : DiskInode) × IsInode bytes i
  reads_spelled reads = by_freedom (is_free bytes) refl reads

  unread : ((i : DiskInode) → IsInode bytes i → ⊥) → (t : Bool) → reads_inode bytes ≡ t → t ≡ false
  unread none false e = refl
  unread none true e = let found = reads_spelled e in absurd (none found.0 found.1)

  pub inode_read : (read : Option DiskInode) → IfSome read (λ i. IsInode bytes i) → IfNone read ((i : DiskInode) → IsInode bytes i → ⊥) → IsInodeRead bytes read
  inode_read None some none = record { format = none; test = unread none (reads_inode bytes) refl; shows = tt }
  inode_read (Some i) some none = record { format = some; test = spelled_reads bytes i some; shows = shows_inode bytes i some }

-- a free inode is no directory
pub no_directory : (bytes : List ℕ) → is_free bytes ≡ true → is_directory bytes ≡ false
no_directory bytes free =
    let low : slice_index bytes 0 ≡ 0 = zero_each bytes 0 free in
    let high : slice_index bytes (0 + 1) ≡ 0 = zero_each bytes (0 + 1) free in
    let none : kind_bits bytes ≡ 0 = omega (arith, low, high) in
    ap (λ (x : ℕ). x == 4) none
