-- The test on the bytes of an entry holds exactly where the bytes spell one, and reads its number and its name.
use Rattle.std.proofs.Common.{◌≡◌, ◌≢◌, ◌≤◌, ◌<◌, ◌+◌, ◌-◌, ◌==◌, ◌&&◌, ◌++◌, ◌∷◌, [], ◌∙◌, ℕ, zero, suc, Bool, not, true, false, List, Option, Some, None, IfSome, IfNone, All, ap, sym, refl, if◌then◌else◌, drop, length, replicate, MatchOption, unwrap_or, slice_index, get_or, arith}
use Rattle.std.specs.List.{list_all}
use Rattle.std.specs.Cmp.Lexicographic.{same_text, other_text}
use Rattle.std.proofs.lemmas.Bool.{eqb-true, false≢true}
use Rattle.std.proofs.lemmas.List.{drop-drop, drop_at, get_or-drop, length-drop}
use Rattle.sv_form.specs.declared.entry.Entry.{Entry}
use Rattle.sv_form.specs.Entry.{IsEntry, filled}
use Rattle.sv_form.specs.Name.{IsName, IsNameByte}
use Rattle.sv_form.specs.Node.{until_zero}
use Rattle.sv_form.proofs.EntryLemmas.{filled_is, zero_field}
use Rattle.sv_plain.specs.Names.{same_bytes}
use Rattle.sv_check.specs.Directories.{name_in, named_by, reads_entry}
use Rattle.sv_check.specs.EntrySteps.{IsEntryRead}
use Rattle.sv_check.specs.InodeList.{all_zero}
use Rattle.sv_check.proofs.InodeReads.{and_first, and_second, zero_all, zero_each}

-- ---- the front of bytes up to the first zero

zeros : (n k : ℕ) → slice_index (replicate n 0) k ≡ 0
zeros zero k = refl
zeros (suc n) zero = refl
zeros (suc n) (suc k) = zeros n k

until-zeros : (n : ℕ) → until_zero (replicate n 0) ≡ []
until-zeros zero = refl
until-zeros (suc n) = refl

some_byte : (x : ℕ) → x ≢ 0 → (x == 0) ≡ false
some_byte x some = grind (arith, some)

pub until-filled : (name : List ℕ) (n : ℕ) → All IsNameByte name → until_zero (name ++ replicate n 0) ≡ name
until-filled [] n plain = until-zeros n
until-filled (x ∷ xs) n plain =
    ap (λ (t : Bool). if t then [] else x ∷ until_zero (xs ++ replicate n 0)) (some_byte x (plain 0 0 (omega arith)).no_zero)
    ∙ ap (λ (l : List ℕ). x ∷ l) (until-filled xs n (λ k d below. plain (suc k) d (omega (arith, below))))

until-short : (xs : List ℕ) → length (until_zero xs) ≤ length xs
until-short [] = omega arith
until-short (x ∷ xs) = by_test (x == 0) (until-short xs) where
  by_test : (t : Bool) → length (until_zero xs) ≤ length xs → length (if t then [] else x ∷ until_zero xs) ≤ suc (length xs)
  by_test true less = omega arith
  by_test false less = omega (arith, less)

until-rest : (xs : List ℕ) → until_zero xs ++ drop (length (until_zero xs)) xs ≡ xs
until-rest [] = refl
until-rest (x ∷ xs) = by_test (x == 0) (until-rest xs) where
  by_test : (t : Bool) → until_zero xs ++ drop (length (until_zero xs)) xs ≡ xs
      → (if t then [] else x ∷ until_zero xs) ++ drop (length (if t then [] else x ∷ until_zero xs)) (x ∷ xs) ≡ x ∷ xs
  by_test true same = refl
  by_test false same = ap (λ (l : List ℕ). x ∷ l) same

until-no_zero : (xs : List ℕ) (k d : ℕ) → k < length (until_zero xs) → get_or (until_zero xs) k d ≢ 0
until-no_zero [] k d below = absurd (omega (arith, below))
until-no_zero (x ∷ xs) k d below = by_test (x == 0) refl k below (until-no_zero xs) where
  by_test : (t : Bool) → (x == 0) ≡ t → (k : ℕ) → k < length (if t then [] else x ∷ until_zero xs)
      → ((j e : ℕ) → j < length (until_zero xs) → get_or (until_zero xs) j e ≢ 0) → get_or (if t then [] else x ∷ until_zero xs) k d ≢ 0
  by_test true is k below rest = absurd (omega (arith, below))
  by_test false is zero below rest = grind (arith, is)
  by_test false is (suc k) below rest = rest k d (omega (arith, below))

-- ---- names without a slash

slashes_none : (name : List ℕ) → All IsNameByte name → list_all (λ b. not (b == 47)) name ≡ true
slashes_none [] plain = refl
slashes_none (x ∷ xs) plain =
    let first : not (x == 47) ≡ true = grind (arith, (plain 0 0 (omega arith)).no_slash) in
    ap (λ (t : Bool). t && list_all (λ b. not (b == 47)) xs) first ∙ slashes_none xs (λ k d below. plain (suc k) d (omega (arith, below)))

no_slash : (name : List ℕ) → list_all (λ b. not (b == 47)) name ≡ true → (k d : ℕ) → k < length name → get_or name k d ≢ 47
no_slash [] all k d below = absurd (omega (arith, below))
no_slash (x ∷ xs) all zero d below = let first = and_first (not (x == 47)) (list_all (λ b. not (b == 47)) xs) all in grind (arith, first)
no_slash (x ∷ xs) all (suc k) d below = no_slash xs (and_second (not (x == 47)) (list_all (λ b. not (b == 47)) xs) all) k d (omega (arith, below))

-- ---- bytes that spell an entry

-- the test, for an entry with a name
abbrev has_name : List ℕ → List ℕ → Bool
has_name entry name = not (length name == 0) && list_all (λ b. not (b == 47)) name && all_zero (drop (2 + length name) entry)

module _ (bytes name : List ℕ) (is : IsName name) (field : drop 2 bytes ≡ filled name) where
  spelled_name : name_in bytes ≡ name
  spelled_name = ap until_zero field ∙ until-filled name (14 - length name) is.plain

  spelled_rest : drop (2 + length name) bytes ≡ replicate (14 - length name) 0
  spelled_rest = sym (drop-drop (length name) 2 bytes) ∙ ap (drop (length name)) field ∙ drop_at name (replicate (14 - length name) 0) (length name) refl

  spelled_test : has_name bytes (name_in bytes) ≡ true
  spelled_test =
      let some : not (length name == 0) ≡ true = grind (arith, is.some) in
      let rest : all_zero (drop (2 + length name) bytes) ≡ true = ap (λ (l : List ℕ). all_zero l) spelled_rest ∙ zero_all (replicate (14 - length name) 0) (zeros (14 - length name)) in
      ap (has_name bytes) spelled_name ∙ ap (λ (t : Bool). t && list_all (λ b. not (b == 47)) name && all_zero (drop (2 + length name) bytes)) some
      ∙ ap (λ (t : Bool). t && all_zero (drop (2 + length name) bytes)) (slashes_none name is.plain) ∙ rest

module _ (bytes : List ℕ) where
  zero_byte : named_by bytes ≡ 0 → drop 2 bytes ≡ replicate 14 0 → (k : ℕ) → slice_index bytes k ≡ 0
  zero_byte none field zero = omega (arith, none)
  zero_byte none field (suc zero) = let here : slice_index bytes (0 + 1) ≡ 0 = omega (arith, none) in here
  zero_byte none field (suc (suc k)) =
      let at : 2 + k ≡ suc (suc k) = omega arith in
      ap (slice_index bytes) (sym at) ∙ sym (get_or-drop 2 bytes k 0) ∙ ap (λ (l : List ℕ). slice_index l k) field ∙ zeros 14 k

  by_name : (inode : ℕ) (name : Option (List ℕ)) → named_by bytes ≡ inode → drop 2 bytes ≡ filled (unwrap_or name []) → MatchOption name (inode ≡ 0) (λ n. (inode ≢ 0) × IsName n)
      → (reads_entry bytes ≡ true) × (name_in bytes ≡ unwrap_or name [])
  by_name inode None is field none =
      let empty : named_by bytes ≡ 0 = is ∙ none in
      (ap (λ (x : ℕ). if x == 0 then all_zero bytes else has_name bytes (name_in bytes)) empty ∙ zero_all bytes (zero_byte empty field), ap until_zero field)
  by_name inode (Some n) is field named =
      let some : (named_by bytes == 0) ≡ false = some_byte (named_by bytes) (λ e. named.0 (sym is ∙ e)) in
      (ap (λ (t : Bool). if t then all_zero bytes else has_name bytes (name_in bytes)) some ∙ spelled_test bytes n named.1 field, spelled_name bytes n named.1 field)

  module _ (e : Entry) (is : IsEntry bytes e) where
    pub spelled_reads : reads_entry bytes ≡ true
    spelled_reads = (by_name e.inode e.name is.inode is.name is.spelled).0

    pub spelled_name_in : name_in bytes ≡ unwrap_or e.name []
    spelled_name_in = (by_name e.inode e.name is.inode is.name is.spelled).1

-- ---- bytes that pass the test

module _ (bytes : List ℕ) (size : length bytes ≡ 16) where
  field_size : length (drop 2 bytes) ≡ 14
  field_size = length-drop 2 bytes ∙ omega (arith, size)

  -- the field of an entry that reads and has a name
  module _ (named : (named_by bytes == 0) ≡ false) (reads : reads_entry bytes ≡ true) where
    test : has_name bytes (name_in bytes) ≡ true
    test = sym (ap (λ (t : Bool). if t then all_zero bytes else has_name bytes (name_in bytes)) named) ∙ reads

    front_test : (not (length (name_in bytes) == 0) && list_all (λ b. not (b == 47)) (name_in bytes)) ≡ true
    front_test = and_first (not (length (name_in bytes) == 0) && list_all (λ b. not (b == 47)) (name_in bytes)) (all_zero (drop (2 + length (name_in bytes)) bytes)) test

    rest_test : all_zero (drop (length (name_in bytes)) (drop 2 bytes)) ≡ true
    rest_test =
        ap (λ (l : List ℕ). all_zero l) (drop-drop (length (name_in bytes)) 2 bytes)
        ∙ and_second (not (length (name_in bytes) == 0) && list_all (λ b. not (b == 47)) (name_in bytes)) (all_zero (drop (2 + length (name_in bytes)) bytes)) test

    pub is_filled : drop 2 bytes ≡ filled (name_in bytes)
    is_filled =
        let cut : name_in bytes ++ drop (length (name_in bytes)) (drop 2 bytes) ≡ drop 2 bytes = until-rest (drop 2 bytes) in
        sym cut
        ∙ filled_is (name_in bytes) (drop (length (name_in bytes)) (drop 2 bytes)) (ap length cut ∙ field_size)
        (λ k low below. zero_each (drop (length (name_in bytes)) (drop 2 bytes)) k rest_test)

    pub is_name : IsName (name_in bytes)
    is_name =
        let some = and_first (not (length (name_in bytes) == 0)) (list_all (λ b. not (b == 47)) (name_in bytes)) front_test in
        let plain = and_second (not (length (name_in bytes) == 0)) (list_all (λ b. not (b == 47)) (name_in bytes)) front_test in
        record {
          some = grind (arith, some);
          fits = omega (arith, until-short (drop 2 bytes), field_size);
          plain = λ k d below. record { no_zero = until-no_zero (drop 2 bytes) k d below; no_slash = no_slash (name_in bytes) plain k d below };
        }

  by_number : (t : Bool) → (named_by bytes == 0) ≡ t → reads_entry bytes ≡ true → (e : Entry) × IsEntry bytes e
  by_number true none reads =
      let all : all_zero bytes ≡ true = sym (ap (λ (t : Bool). if t then all_zero bytes else has_name bytes (name_in bytes)) none) ∙ reads in
      (record { inode = 0; name = None }, record { len = size; inode = eqb-true (named_by bytes) 0 none; name = zero_field bytes size (λ k low high. zero_each bytes k all); spelled = refl })
  by_number false some reads = (
    record { inode = named_by bytes; name = Some (name_in bytes) },
    record {
      len = size;
      inode = refl;
      name = is_filled some reads;
      spelled = (λ e. false≢true (sym some ∙ ap (λ (x : ℕ). x == 0) e), is_name some reads);
    },
  )

  unread : ((e : Entry) → IsEntry bytes e → ⊥) → (t : Bool) → reads_entry bytes ≡ t → t ≡ false
  unread none false e = refl
  unread none true e = let found = by_number (named_by bytes == 0) refl e in absurd (none found.0 found.1)

  pub entry_read : (read : Option Entry) → IfSome read (λ e. IsEntry bytes e) → IfNone read ((e : Entry) → IsEntry bytes e → ⊥) → IsEntryRead bytes read
  entry_read None some none = record { format = none; test = unread none (reads_entry bytes) refl; inode = tt; name = tt }
  entry_read (Some e) some none = record { format = some; test = spelled_reads bytes e some; inode = some.inode; name = spelled_name_in bytes e some }

-- ---- two names

same_iff : (x y u v : List ℕ) → (x ≡ y → u ≡ v) → (u ≡ v → x ≡ y) → (s t : Bool) → s ≡ same_bytes x y → t ≡ same_bytes u v → s ≡ t
same_iff x y u v one two true true e f = refl
same_iff x y u v one two false false e f = refl
same_iff x y u v one two true false e f = absurd (other_text u v f (one (same_text x y e)))
same_iff x y u v one two false true e f = absurd (other_text x y e (two (same_text u v f)))

-- two entries that read have one name exactly if their last fourteen bytes are the same
pub same_fields : (a b : List ℕ) → drop 2 a ≡ filled (name_in a) → drop 2 b ≡ filled (name_in b) → same_bytes (name_in a) (name_in b) ≡ same_bytes (drop 2 a) (drop 2 b)
same_fields a b in_a in_b =
    same_iff (name_in a) (name_in b) (drop 2 a) (drop 2 b) (λ e. in_a ∙ ap filled e ∙ sym in_b) (λ e. ap until_zero e) (same_bytes (name_in a) (name_in b)) (same_bytes (drop 2 a) (drop 2 b)) refl refl
