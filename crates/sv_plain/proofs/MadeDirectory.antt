-- A directory as it is made: a page with the entries `.` and `..`.
use Rattle.std.proofs.Common.{◌≡◌, ◌≢◌, ◌≤◌, ◌<◌, ℕ, zero, suc, ◌+◌, ◌-◌, ◌*◌, ◌/◌, ◌%◌, ◌==◌, inl, inr, Bool, List, [], ◌∷◌, ◌++◌, length, map, get_or, replicate, Some, None, IsSome, sym, refl, ap, subst, ◌∙◌, arith}
use Rattle.std.proofs.lemmas.Bool.{cases_eq, cases_lt}
use Rattle.std.proofs.lemmas.List.{length-append, length-replicate, get_or-replicate, get_or_past, get_or-append_right}
use Rattle.std.proofs.lemmas.Nat.{div-mul-add}
use Rattle.std.proofs.Math.Nat.{mod-eq_of_lt}
use Rattle.std.specs.List.{range_with_len}
use Rattle.std.specs.Ordering.{nat_cmp}
use Rattle.std.specs.Cmp.{nat_cmp_total}
use Rattle.std.specs.FinMap as fmap
use Rattle.std.specs.FinMap.{nat_cmp-IsAntisymmetric}
use Rattle.sv_form.specs.declared.kind.Kind.TheVariants.{Dir}
use Rattle.sv_form.specs.Name.{IsName, IsNameByte}
use Rattle.sv_form.specs.Entry.{filled}
use Rattle.sv_form.specs.Node.{Node, byte_of, page_byte, bytes_of, entry_inode, entry_name, name_bytes, until_zero}
use Rattle.sv_plain.specs.Totals.{one_if}
use Rattle.sv_plain.specs.Fs.{naming_count}
use Rattle.sv_plain.specs.Whole.{IsPage, IsNode, IsEntryAt, IsDirectory}
use Rattle.sv_plain.specs.Change.{entry_bytes, new_node}
use Rattle.sv_plain.proofs.Got.{got}
use Rattle.sv_plain.proofs.Counts.{count-cons}
use Rattle.sv_plain.proofs.EntryPut.{map_alike}

-- ---- `.` and `..` are names

dot_byte : IsNameByte 46
dot_byte = record { no_zero = λ s. absurd (omega (arith, s)); no_slash = λ s. absurd (omega (arith, s)) }

one_dot : (k d : ℕ) → k < 1 → IsNameByte (get_or (46 ∷ []) k d)
one_dot zero d low = dot_byte
one_dot (suc k) d low = absurd (omega (arith, low))

two_dots : (k d : ℕ) → k < 2 → IsNameByte (get_or (46 ∷ 46 ∷ []) k d)
two_dots zero d low = dot_byte
two_dots (suc zero) d low = dot_byte
two_dots (suc (suc k)) d low = absurd (omega (arith, low))

dot_is_name : IsName (46 ∷ [])
dot_is_name = record { some = omega arith; fits = omega arith; plain = λ k d low. one_dot k d low }

dots_is_name : IsName (46 ∷ 46 ∷ [])
dots_is_name = record { some = omega arith; fits = omega arith; plain = λ k d low. two_dots k d low }

all_zeros : (n k : ℕ) → get_or {A = ℕ} (replicate n 0) k 0 ≡ 0
all_zeros n k =
    elim (cases_lt k n) [
      | inl low ↦ get_or-replicate n k 0 0 low
      | inr far ↦ get_or_past {X = ℕ} (replicate n 0) k 0 (let e = length-replicate {A = ℕ} n 0 in omega (arith, e, far))
    ]

first_page : (block k : ℕ) → 32 ≤ block → k * block < 32 → k ≡ 0
first_page block zero two low = refl
first_page block (suc k) two low = absurd (let e : suc k * block ≡ block + k * block = grind arith in omega (arith, e, two, low))

module _ (block i d mode : ℕ) (two : 32 ≤ block) (some_i : i ≢ 0) (some_d : d ≢ 0) where
  abbrev y : Node
  y = new_node block i d mode Dir

  abbrev first : List ℕ
  first = entry_bytes i (46 ∷ [])

  abbrev second : List ℕ
  second = entry_bytes d (46 ∷ 46 ∷ [])

  abbrev page : List ℕ
  page = first ++ second ++ replicate (block - 32) 0

  byte-made : (k : ℕ) → k < block → byte_of block y k ≡ get_or page k 0
  unfolding byte_of
  byte-made k low =
      let at : k / block ≡ 0 = ap (λ n. n / block) (omega arith) ∙ div-mul-add 0 block k low in
      let place : k % block ≡ k = mod-eq_of_lt low in
      ap (λ p. page_byte (fmap.get y.pages p) (k % block)) at
      ∙ ap (λ o. page_byte o (k % block)) (fmap.get-insert nat_cmp_total fmap.empty 0 page 0)
      ∙ ap (λ r. get_or page r 0) place

  names-made : (a : ℕ) → a + 14 ≤ 32 → map (byte_of block y) (range_with_len a 14) ≡ map (λ k. get_or page k 0) (range_with_len a 14)
  names-made a low = map_alike (byte_of block y) (λ k. get_or page k 0) a 14 (λ k _ high. byte-made k (omega (arith, low, high, two)))

  pub first-inode : entry_inode block y 0 ≡ i
  unfolding entry_inode
  first-inode =
      let a : byte_of block y 0 ≡ i % 256 = byte-made 0 (omega (arith, two)) in
      let b : byte_of block y 1 ≡ i / 256 = byte-made 1 (omega (arith, two)) in
      omega (arith, a, b)

  pub second-inode : entry_inode block y 1 ≡ d
  unfolding entry_inode
  second-inode =
      let a : byte_of block y 16 ≡ d % 256 = byte-made 16 (omega (arith, two)) in
      let b : byte_of block y 17 ≡ d / 256 = byte-made 17 (omega (arith, two)) in
      omega (arith, a, b)

  first-bytes : name_bytes block y 0 ≡ filled (46 ∷ [])
  unfolding bytes_of
  first-bytes = names-made 2 (omega arith)

  second-bytes : name_bytes block y 1 ≡ filled (46 ∷ 46 ∷ [])
  unfolding bytes_of
  second-bytes = names-made 18 (omega arith)

  first-name : entry_name block y 0 ≡ 46 ∷ []
  unfolding entry_name
  first-name = ap until_zero first-bytes

  second-name : entry_name block y 1 ≡ 46 ∷ 46 ∷ []
  unfolding entry_name
  second-name = ap until_zero second-bytes

  page_made : IsPage block 32 0 page
  page_made = record {
    whole =
        (let a = length-append first (second ++ replicate (block - 32) 0) in
        let b = length-append second (replicate (block - 32) 0) in
        let c = length-replicate {A = ℕ} (block - 32) 0 in
        omega (arith, a, b, c, two));
    within = omega arith;
    tail = λ r far. get_or-append_right first (second ++ replicate (block - 32) 0) 16 r 0 refl (omega (arith, far))
        ∙ get_or-append_right second (replicate (block - 32) 0) 16 (r - 16) 0 refl (omega (arith, far))
        ∙ all_zeros (block - 32) (r - 16 - 16);
  }

  pub node-made : (greatest inodes : ℕ) → 2 ≤ i → i ≤ inodes → mode ≤ 4095 → 32 ≤ greatest → IsNode block greatest inodes i y
  node-made greatest inodes least most fits room = record {
    least = least;
    most = most;
    mode = fits;
    size = room;
    pages = λ k bytes e. elim (got nat_cmp_total nat_cmp-IsAntisymmetric fmap.empty 0 page k bytes e) [
      | inl h ↦ subst (λ (n : ℕ). IsPage block 32 n bytes) (sym h.0) (subst (λ (bs : List ℕ). IsPage block 32 0 bs) (sym h.1) page_made)
      | inr h ↦ (let none : None ≡ Some bytes = sym (fmap.get-empty nat_cmp k) ∙ h in cc)
    ];
  }

  entry-first : IsEntryAt block y 0
  entry-first = record {
    empty = λ e. absurd (some_i (sym first-inode ∙ e));
    named = λ _. subst IsName (sym first-name) dot_is_name;
    rest = λ _. first-bytes ∙ ap filled (sym first-name);
  }

  entry-second : IsEntryAt block y 1
  entry-second = record {
    empty = λ e. absurd (some_d (sym second-inode ∙ e));
    named = λ _. subst IsName (sym second-name) dots_is_name;
    rest = λ _. second-bytes ∙ ap filled (sym second-name);
  }

  pub directory-made : IsDirectory block i y
  directory-made = record {
    least = omega arith;
    entries = refl;
    present = λ k low. subst (λ (n : ℕ). IsSome (fmap.get y.pages n)) (sym (first_page block k two low))
        (subst IsSome (sym (fmap.get-insert nat_cmp_total fmap.empty 0 page 0)) refl);
    reads = λ j low. elim (cases_eq j 0) [
      | inl is ↦ subst (λ (n : ℕ). IsEntryAt block y n) (sym is) entry-first
      | inr ne ↦ (let is : j ≡ 1 = omega (arith, ne, low) in subst (λ (n : ℕ). IsEntryAt block y n) (sym is) entry-second)
    ];
    once = λ j k less low _ _ same.
        (let a : j ≡ 0 = omega (arith, less, low) in
        let b : k ≡ 1 = omega (arith, less, low) in
        let names : 46 ∷ [] ≡ 46 ∷ 46 ∷ [] = sym (ap (entry_name block y) a ∙ first-name) ∙ same ∙ ap (entry_name block y) b ∙ second-name in
        let lengths : 1 ≡ 2 = ap length names in
        absurd (omega (arith, lengths)));
    dot = first-inode;
    dot_name = first-name;
    dots = λ e. some_d (sym second-inode ∙ e);
    dots_name = second-name;
  }

  -- its entries name itself and the directory above
  pub all-made : (k : ℕ) → naming_count block y 0 k ≡ one_if (i == k) + one_if (d == k)
  unfolding naming_count
  all-made k =
      let p : ℕ → Bool = λ j. entry_inode block y j == k in
      let a : one_if (p 0) ≡ one_if (i == k) = ap (λ n. one_if (n == k)) first-inode in
      let b : one_if (p 1) ≡ one_if (d == k) = ap (λ n. one_if (n == k)) second-inode in
      omega (arith, a, b, count-cons p 0 (1 ∷ []), count-cons p 1 [])

  pub more-made : (k : ℕ) → naming_count block y 2 k ≡ 0
  unfolding naming_count
  more-made k = refl
