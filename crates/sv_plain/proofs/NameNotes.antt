-- What an index of names knows, as places change.
use Rattle.std.proofs.Common.{◌≡◌, ◌≢◌, ◌≤◌, ◌<◌, ◌+◌, ◌-◌, ◌*◌, ◌/◌, ◌%◌, ◌^◌, ◌==◌, ◌&&◌, ◌||◌, ◌⊎◌, inl, inr, ℕ, zero, suc, Bool}
use Rattle.std.proofs.Common.{true, false, cond, not, if◌then◌else◌, List, [], ◌∷◌, map, drop, take, slice_index, length, length-drop}
use Rattle.std.proofs.Common.{get_or, Option, Some, None, IfSome, sym, refl, ap, ◌∙◌, arith, subst}
use Rattle.std.proofs.lemmas.Bool.{eq-eqb, ne_eqb, false≢true, cases_eq}
use Rattle.std.proofs.lemmas.Nat.{div-mul-add, mod-mul-add}
use Rattle.std.proofs.Math.Nat.{div-add-mod, mod-lt, mul_comm, mul_assoc}
use Rattle.std.proofs.lemmas.Slice.Eq.{bytes_eq-Decides}
use Rattle.std.proofs.Math.Seq.{drop-cons}
use Rattle.std.proofs.lemmas.List.{get_or-drop, get_or-take}
use Rattle.std.specs.List.{range_with_len, slice_range}
use Rattle.std.specs.Ordering.{nat_cmp, is_eq, eq_by_cmp}
use Rattle.std.specs.Cmp.{nat_cmp_total, Equal-is, tied_itself}
use Rattle.std.specs.BTreeMap as tree
use Rattle.std.specs.BTreeMap.{BTreeMap}
use Rattle.std.specs.FinMap as fmap
use Rattle.std.specs.FinMap.{nat_cmp-IsAntisymmetric}
use Rattle.std.specs.FinSet as set
use Rattle.sv_plain.specs.declared.maps.name_index.NameIndex.{NameIndex}
use Rattle.sv_form.specs.FileBytes.{page_byte}
use Rattle.sv_form.specs.Node.{Node, byte_of, bytes_of, entry_inode, entry_name, name_bytes, until_zero}
use Rattle.sv_plain.specs.Totals.{at_or_0}
use Rattle.sv_plain.specs.Names.{is_entry}
use Rattle.sv_plain.specs.NameIndex.{HasIndex, Notes, covered_after, inode_at, key_from, name_at, name_key, slot_inode, slot_key}
use Rattle.sv_plain.proofs.Got.{and_left, and_right}

-- ---- numbers of names

pub key-ends : (key b : ℕ) (bs : List ℕ) → b ≡ 0 → key_from key (b ∷ bs) ≡ key
key-ends key b bs e = ap (λ t. if t then key else key_from (key % 2 ^ 120 * 256 + b) bs) (eq-eqb b 0 e)

pub key-more : (key b : ℕ) (bs : List ℕ) → b ≢ 0 → key_from key (b ∷ bs) ≡ key_from (key % 2 ^ 120 * 256 + b) bs
key-more key b bs ne = ap (λ t. if t then key else key_from (key % 2 ^ 120 * 256 + b) bs) (ne_eqb b 0 ne)

pub rest : (bytes : List ℕ) (k : ℕ) → k < length bytes → drop k bytes ≡ get_or bytes k 0 ∷ drop (k + 1) bytes
rest bytes k within = let more : suc k ≡ k + 1 = omega arith in drop-cons bytes k 0 within ∙ ap (λ n. get_or bytes k 0 ∷ drop n bytes) more

no_rest : (bytes : List ℕ) → length bytes ≡ 0 → bytes ≡ []
no_rest [] e = refl
no_rest (b ∷ bs) e = absurd (omega arith)

pub key-over : (key k : ℕ) (bytes : List ℕ) → k ≡ length bytes → key_from key (drop k bytes) ≡ key
key-over key k bytes e = ap (key_from key) (no_rest (drop k bytes) (omega (arith, length-drop k bytes, e)))

pub ranged : (f : ℕ → ℕ) (at k : ℕ) → k < 14
    → map f (range_with_len (at + k) (14 - k)) ≡ f (at + k) ∷ map f (range_with_len (at + (k + 1)) (14 - (k + 1)))
ranged f at k low =
    let left : 14 - k ≡ suc (14 - (k + 1)) = omega (arith, low) in
    let next : at + k + 1 ≡ at + (k + 1) = omega arith in
    (λ i. map f (range_with_len (at + k) (left i))) ∙ ap (λ a. f (at + k) ∷ map f (range_with_len a (14 - (k + 1)))) next

-- ---- one place

apart : (k q : ℕ) → k ≢ q → is_eq (nat_cmp k q) ≡ false
apart k q ne =
    elim (is_eq (nat_cmp k q)) as (λ b. is_eq (nat_cmp k q) ≡ b → b ≡ false) [
      | true ↦ λ e. absurd (ne (nat_cmp-IsAntisymmetric k q ((Equal-is (nat_cmp k q)).0 e)))
      | false ↦ λ _. refl
    ] refl

tied : (k : ℕ) → eq_by_cmp nat_cmp k k ≡ true
tied k = ap is_eq (tied_itself nat_cmp_total k)

added : (s : set.FinSet nat_cmp) (j : ℕ) → set.contains (set.insert s j) j ≡ true
added s j = set.contains-insert nat_cmp_total s j j ∙ ap (λ b. b || set.contains s j) (tied j)

or_right : (a b : Bool) → b ≡ true → (a || b) ≡ true
or_right true b e = refl
or_right false b e = e

still : (s : set.FinSet nat_cmp) (j i : ℕ) → set.contains s i ≡ true → set.contains (set.insert s j) i ≡ true
still s j i e = set.contains-insert nat_cmp_total s j i ∙ or_right (eq_by_cmp nat_cmp i j) (set.contains s i) e

others : (s : set.FinSet nat_cmp) (j i : ℕ) → i ≢ j → set.contains s i ≡ true → set.contains (set.remove s j) i ≡ true
others s j i ne e = set.contains-remove nat_cmp_total s j i ∙ ap (λ b. not b && set.contains s i) (apart i j ne) ∙ e

covered_more : (covered j i : ℕ) → i ≢ j → i < covered_after covered j → i < covered
covered_more covered j i ne low = elim (cases_eq covered j) [
  | inl e ↦ (let after : covered_after covered j ≡ j + 1 = ap (λ t. if t then j + 1 else covered) (eq-eqb covered j e) in
      omega (arith, e, ne, low, after))
  | inr other ↦ (let after : covered_after covered j ≡ covered = ap (λ t. if t then j + 1 else covered) (ne_eqb covered j other) in
      omega (arith, low, after))
]

module _ (old new : NameIndex) (j : ℕ) where
  module _ (is : new ≡ record old { empty = set.insert old.empty j; covered = covered_after old.covered j }) where
    pub empty-put : (key : ℕ) → Notes new j 0 key
    empty-put key = record {
      named = λ some. absurd (some refl);
      free = λ _ _. ap
          (λ (ix : NameIndex). set.contains ix.empty j) is ∙ added old.empty j;
    }

    pub empty-kept : (i inode key : ℕ) → i ≢ j → Notes old i inode key → Notes new i inode key
    empty-kept i inode key ne h = record {
      named = λ some. ap (λ (ix : NameIndex). tree.get nat_cmp ix.places key) is ∙ h.named some;
      free = λ low none. ap (λ (ix : NameIndex). set.contains ix.empty i) is
          ∙ still old.empty j i (h.free (covered_more old.covered j i ne (subst (λ (n : ℕ). i < n) (ap
          (λ (ix : NameIndex). ix.covered) is) low)) none);
    }

  module _ (key : ℕ) (absent : tree.get nat_cmp old.places key
      ≡ None) (places : tree.Updates nat_cmp old.places new.places key (Some j)) (empty : new.empty
      ≡ set.remove old.empty j) (covered : new.covered ≡ covered_after old.covered j) where
    pub name-put : (inode : ℕ) → inode ≢ 0 → Notes new j inode key
    name-put inode some = record { named = λ _. places.1; free = λ _ none. absurd (some none) }

    pub name-kept : (i inode k : ℕ) → i ≢ j → Notes old i inode k → Notes new i inode k
    name-kept i inode k ne h = record {
      named = λ some. elim (cases_eq key k) [
        | inl e ↦ (let no : None ≡ Some i = sym absent ∙ ap (tree.get nat_cmp old.places) e ∙ h.named some in cc)
        | inr other ↦ places.2 k (apart key k other) ∙ h.named some
      ];
      free = λ low none. ap (λ s. set.contains s i) empty
          ∙ others old.empty j i ne (h.free (covered_more old.covered j i ne (subst (λ (n : ℕ). i < n) covered low)) none);
    }

-- ---- the places of a page

-- the first r of the places of a page have what comes, and the others what they had
abbrev pub PageNotes : NameIndex → NameIndex → ℕ → ℕ → ℕ → Option (List ℕ) → Option (List ℕ) → Type 0
PageNotes old new first slots r before after =
    ((i : ℕ) → i < slots → Notes old (first + i) (slot_inode before i) (slot_key before i))
    → ((i : ℕ) → i < r → Notes new (first + i) (slot_inode after i) (slot_key after i))
    × ((j inode key : ℕ) → ((i : ℕ) → i < r → j ≢ first + i) → Notes old j inode key → Notes new j inode key)

pub page-begins : (old : NameIndex) (first slots : ℕ) (before after : Option (List ℕ)) → PageNotes old old first slots 0 before after
page-begins old first slots before after = λ _. (λ i low. absurd (omega (arith, low)), λ j inode key _ h. h)

pub page-more : (old mid new : NameIndex) (first slots r : ℕ) (before after : Option (List ℕ)) → r < slots
    → (Notes mid (first + r) (slot_inode before r) (slot_key before r) → Notes new (first + r) (slot_inode after r) (slot_key after r))
    → (Notes mid (first + r) (slot_inode before r) (slot_key before r) → (i inode key : ℕ) → i ≢ first + r
    → Notes mid i inode key → Notes new i inode key)
    → PageNotes old mid first slots r before after → PageNotes old new first slots (r + 1) before after
page-more old mid new first slots r before after within put kept so_far = λ was.
    (let done = (so_far was).0 in
    let left = (so_far was).1 in
    let here : Notes mid (first + r) (slot_inode before r) (slot_key before r) = left (first + r) _ _
    (λ i low e. absurd (omega (arith, low, e))) (was r within) in (
      λ i low. elim (cases_eq i r) [
        | inl e ↦ subst (λ (n : ℕ). Notes new (first + n) (slot_inode after n) (slot_key after n)) (sym e) (put here)
        | inr other ↦ kept here (first + i) _ _ (λ e. other (omega (arith, e))) (done i (omega (arith, low, other)))
      ],
      λ j inode key apart_all h. kept here j inode key (apart_all r (omega arith)) (left j inode key
          (λ i low. apart_all i (omega (arith, low))) h),
    ))

got_new : (pages : fmap.FinMap nat_cmp (List ℕ)) (page q : ℕ) (after : List ℕ) → q ≡ page
    → fmap.get (fmap.insert pages page after) q ≡ Some after
got_new pages page q after e = fmap.get-insert nat_cmp_total pages page after q
    ∙ ap (λ b. cond b (Some after) (fmap.get pages q)) (ap (λ n. eq_by_cmp nat_cmp n page) e ∙ tied page)

got_old : (pages : fmap.FinMap nat_cmp (List ℕ)) (page q : ℕ) (after : List ℕ) → q ≢ page
    → fmap.get (fmap.insert pages page after) q ≡ fmap.get pages q
got_old pages page q after ne = fmap.get-insert nat_cmp_total pages page after q
    ∙ ap (λ b. cond b (Some after) (fmap.get pages q)) (apart q page ne)

-- what is known of place j of these pages
abbrev At : NameIndex → ℕ → fmap.FinMap nat_cmp (List ℕ) → ℕ → Type 0
At index slots pages j = Notes index j (inode_at slots pages j) (name_at slots pages j)

at_place : (index : NameIndex) (slots page i : ℕ) (pages : fmap.FinMap nat_cmp (List ℕ)) (before : Option (List ℕ)) → i < slots
    → fmap.get pages page ≡ before
    → At index slots pages (page * slots + i) → Notes index (page * slots + i) (slot_inode before i) (slot_key before i)
at_place index slots page i pages before low is h =
    let over : (page * slots + i) / slots ≡ page = div-mul-add page slots i low in
    let rest_is : (page * slots + i) % slots ≡ i = mod-mul-add page slots i low in
    let got : fmap.get pages ((page * slots + i) / slots) ≡ before = ap (fmap.get pages) over ∙ is in
    subst (λ (p : Option (List ℕ)). Notes index (page * slots + i) (slot_inode p i) (slot_key p i)) got
    (subst (λ (n : ℕ). Notes index (page * slots + i) (slot_inode (fmap.get pages ((page * slots + i) / slots)) n) (slot_key
    (fmap.get pages ((page * slots + i) / slots)) n)) rest_is h)

swapped : (s q r : ℕ) → q * s + r ≡ s * q + r
swapped s q r = ap (λ n. n + r) (mul_comm q s)

pub page-ends : (old new : NameIndex) (page : ℕ) (before : Option (List ℕ)) (after : List ℕ) → new.slots ≡ old.slots
    → PageNotes old new (page * old.slots) old.slots old.slots before (Some after)
    → (pages : fmap.FinMap nat_cmp (List ℕ)) → fmap.get pages page ≡ before → HasIndex old pages
    → HasIndex new (fmap.insert pages page after)
page-ends old new page before after same page_notes pages is has =
    let s : ℕ = old.slots in
    let all = page_notes (λ i low. at_place old s page i pages before low is (has.notes (page * s + i))) in
    let notes : (j : ℕ) → At new s (fmap.insert pages page after) j =
    λ j.
    (let whole : s * (j / s) + j % s ≡ j = div-add-mod j s in
    let low : j % s < s = mod-lt j has.some in
    elim (cases_eq (j / s) page) [
      | inl e ↦
          (let place : page * s + j % s ≡ j = ap (λ n. n * s + j % s) (sym e) ∙ swapped s (j / s) (j % s) ∙ whole in
          subst (λ (p : Option (List ℕ)). Notes new j (slot_inode p (j % s)) (slot_key p (j % s))) (sym (got_new pages page
          (j / s) after e))
          (subst (λ (n : ℕ). Notes new n (slot_inode (Some after) (j % s)) (slot_key (Some after) (j % s))) place (all.0 (j % s) low)))
      | inr other ↦
          subst (λ (p : Option (List ℕ)). Notes new j (slot_inode p (j % s)) (slot_key p (j % s))) (sym (got_old pages page
          (j / s) after other))
          (all.1 j _ _ (λ i within e. other (ap (λ n. n / s) e ∙ div-mul-add page s i within)) (has.notes j))
    ]) in
    record {
      some = subst (λ (n : ℕ). 0 < n) (sym same) has.some;
      few = subst (λ (n : ℕ). n ≤ 64) (sym same) has.few;
      notes = subst (λ (n : ℕ). (j : ℕ) → At new n (fmap.insert pages page after) j) (sym same) notes;
    }

-- an index of no pages
pub none_there : (index : NameIndex) → 0 < index.slots → index.slots ≤ 64 → index.covered ≡ 0 → HasIndex index fmap.empty
unfolding slot_inode
none_there index some few none = record {
  some = some;
  few = few;
  notes = λ j. record {
    named = λ there. absurd (there (ap
        (λ (p : Option (List ℕ)). slot_inode p (j % index.slots)) (fmap.get-empty nat_cmp (j / index.slots))));
    free = λ low _. absurd (omega (arith, low, none));
  };
}

-- ---- the entries of a directory

joined : (m r j c w : ℕ) → m + r ≡ j → w ≡ 16 * m → 16 * j + c ≡ w + (16 * r + c)
joined m r j c w whole wide = omega (arith, whole, wide)

split : (s j c : ℕ) → 16 * j + c ≡ j / s * (16 * s) + (16 * (j % s) + c)
split s j c = joined (s * (j / s)) (j % s) j c (j / s * (16 * s)) (div-add-mod j s) (mul_comm (j / s) (16 * s) ∙ mul_assoc 16 s (j / s))

map_alike : (f g : ℕ → ℕ) (a b n : ℕ) → ((i : ℕ) → i < n → f (a + i) ≡ g (b + i)) → map f (range_with_len a n) ≡ map g (range_with_len b n)
map_alike f g a b zero h = refl
map_alike f g a b (suc n) h =
    let here : f a ≡ g b = (let fa : a ≡ a + 0 = omega arith in let gb : b + 0 ≡ b = omega arith in ap f fa ∙ h 0 (omega arith)
    ∙ ap g gb) in
    (λ i. here i ∷ map_alike f g (a + 1) (b + 1) n
    (λ k low. let fa : a + 1 + k ≡ a + suc k = omega arith in let gb : b + suc k ≡ b + 1 + k = omega arith in ap f fa
    ∙ h (suc k) (omega (arith, low)) ∙ ap g gb) i)

key-until : (key : ℕ) (bytes : List ℕ) → key_from key (until_zero bytes) ≡ key_from key bytes
key-until key [] = refl
key-until key (b ∷ bs) = elim (cases_eq b 0) [
  | inl e ↦ ap (λ t. key_from key (if t then [] else b ∷ until_zero bs)) (eq-eqb b 0 e) ∙ sym (key-ends key b bs e)
  | inr some ↦ ap (λ t. key_from key (if t then [] else b ∷ until_zero bs)) (ne_eqb b 0 some)
      ∙ key-more key b (until_zero bs) some ∙ key-until (key % 2 ^ 120 * 256 + b) bs ∙ sym (key-more key b bs some)
]

module _ (block s : ℕ) (node : Node) (some : 0 < s) (is : block ≡ 16 * s) (j : ℕ) where
  byte-in : (c : ℕ) → c < 16 → byte_of block node (16 * j + c) ≡ page_byte (fmap.get node.pages (j / s)) (16 * (j % s) + c)
  unfolding byte_of
  byte-in c low =
      let rest_low : j % s < s = mod-lt j some in
      let inside : 16 * (j % s) + c < 16 * s = omega (arith, low, rest_low) in
      let over : (16 * j + c) / block ≡ j / s = (λ i. split s j c i / is i) ∙ div-mul-add (j / s) (16 * s) (16 * (j % s) + c) inside in
      let left : (16 * j + c) % block ≡ 16 * (j % s) + c = (λ i. split s j c i % is i)
      ∙ mod-mul-add (j / s) (16 * s) (16 * (j % s) + c) inside in
      (λ i. page_byte (fmap.get node.pages (over i)) (left i))

  pub slot-inode : entry_inode block node j ≡ inode_at s node.pages j
  unfolding entry_inode slot_inode
  slot-inode =
      let at : 16 * j ≡ 16 * j + 0 = omega arith in
      let place : 16 * (j % s) + 0 ≡ 16 * (j % s) = omega arith in
      (λ i. (ap (byte_of block node) at ∙ byte-in 0 (omega arith)
      ∙ ap (page_byte (fmap.get node.pages (j / s))) place) i + 256 * byte-in 1 (omega arith) i)

  pub slot-key : name_key (entry_name block node j) ≡ name_at s node.pages j
  unfolding entry_name slot_key bytes_of
  slot-key =
      key-until 0 (name_bytes block node j)
      ∙ ap name_key (map_alike (byte_of block node) (page_byte (fmap.get node.pages (j / s))) (16 * j + 2) (16 * (j % s) + 2) 14
      (λ c low. let at : 16 * j + 2 + c ≡ 16 * j + (2 + c) = omega arith in
      let place : 16 * (j % s) + (2 + c) ≡ 16 * (j % s) + 2 + c = omega arith in
      ap (byte_of block node) at ∙ byte-in (2 + c) (omega (arith, low)) ∙ ap (page_byte (fmap.get node.pages (j / s))) place))

  -- an entry with this name is one that the index was asked for
  pub slot-named : (name : List ℕ) → is_entry block node name j ≡ true
      → (inode_at s node.pages j ≢ 0) × (name_at s node.pages j ≡ name_key name)
  slot-named name e = (
    λ none. false≢true (sym (ap (λ b. not b) (eq-eqb (entry_inode block node j) 0 (slot-inode ∙ none))) ∙ and_left _ _ e),
    sym slot-key ∙ ap name_key ((bytes_eq-Decides (entry_name block node j) name).0 (and_right _ _ e)),
  )

-- sixteen bytes that are the same are the same entry
same-at : (xs ys : List ℕ) (a i : ℕ) → take 16 (drop a xs) ≡ take 16 (drop a ys) → i < 16 → slice_index xs (a + i) ≡ slice_index ys (a + i)
same-at xs ys a i e low =
    sym (get_or-take 16 (drop a xs) i 0 low ∙ get_or-drop a xs i 0)
    ∙ ap (λ (l : List ℕ). slice_index l i) e
    ∙ get_or-take 16 (drop a ys) i 0 low ∙ get_or-drop a ys i 0

pub same-range : (xs ys : List ℕ) (a b : ℕ) → b ≡ a + 16 → slice_range xs a b ≡ slice_range ys a b → (i : ℕ) → i < 16
    → slice_index xs (a + i) ≡ slice_index ys (a + i)
same-range xs ys a b is e i low =
    let wide : b - a ≡ 16 = omega (arith, is) in
    same-at xs ys a i (ap (λ n. take n (drop a xs)) (sym wide) ∙ e ∙ ap (λ n. take n (drop a ys)) wide) low

module _ (p q : Option (List ℕ)) (r : ℕ) (same : (i : ℕ) → i < 16 → page_byte p (16 * r + i) ≡ page_byte q (16 * r + i)) where
  pub same-inode : slot_inode p r ≡ slot_inode q r
  unfolding slot_inode
  same-inode =
      let at : 16 * r ≡ 16 * r + 0 = omega arith in
      (λ i. (ap (page_byte p) at ∙ same 0 (omega arith) ∙ ap (page_byte q) (sym at)) i + 256 * same 1 (omega arith) i)

  pub same-key : slot_key p r ≡ slot_key q r
  unfolding slot_key
  same-key = ap name_key (map_alike (page_byte p) (page_byte q) (16 * r + 2) (16 * r + 2) 14
      (λ c low. let at : 16 * r + 2 + c ≡ 16 * r + (2 + c) = omega arith in ap (page_byte p) at
      ∙ same (2 + c) (omega (arith, low)) ∙ ap (page_byte q) (sym at)))

-- sixteen bytes an entry
pub whole_entries : (block : ℕ) → block % 16 ≡ 0 → block ≡ 16 * (block / 16)
whole_entries block e = let whole : 16 * (block / 16) + block % 16 ≡ block = div-add-mod block 16 in omega (arith, whole, e)

pub refuted : (b : Bool) → (b ≡ true → ⊥) → b ≡ false
refuted true no_way = absurd (no_way refl)
refuted false no_way = refl

pub some_slots : (block : ℕ) → block % 16 ≡ 0 → 0 < block → 0 < block / 16
some_slots block e some = let whole = whole_entries block e in omega (arith, whole, some)

pub for_some : (o : Option (Option ℕ)) (P Q : Option ℕ → Type 0) → ((p : Option ℕ) → P p → Q p) → IfSome o P → IfSome o Q
for_some None P Q f h = h
for_some (Some p) P Q f h = f p h

pub same_place : (place : Option ℕ) (j k : ℕ) → place ≡ Some j → place ≡ Some k → k ≡ j
same_place place j k is is_too = ap (at_or_0 (λ n. n)) (sym is_too ∙ is)

pub no_place_here : (place : Option ℕ) (k : ℕ) → place ≡ None → place ≡ Some k → ⊥
no_place_here place k is is_too = let no_way : None ≡ Some k = sym is ∙ is_too in cc
