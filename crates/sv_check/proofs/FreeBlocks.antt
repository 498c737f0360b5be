-- The blocks that no inode owns are as many as the chain of free blocks has numbers.
use Rattle.std.proofs.Common.{◌≡◌, ◌≢◌, ◌≤◌, ◌<◌, ◌+◌, ◌-◌, ◌*◌, ◌^◌, ◌/◌, ◌==◌, ◌&&◌, ◌||◌, ◌++◌, ◌∷◌, [], ◌⊎◌, ◌∙◌, ℕ, zero, suc, Bool, not, true, false, List, Some, None, ap, sym, refl, subst, inl, inr, cond, if◌then◌else◌, find, filter, flat_map, length, map, unwrap_or, arith}
use Rattle.std.specs.List.{range_with_len, list_any}
use Rattle.std.specs.Int.{from_bool}
use Rattle.std.proofs.lemmas.Bool.{cases_eq, false≢true}
use Rattle.std.proofs.lemmas.List.{length-append, length-map, map-append}
use Rattle.std.proofs.lemmas.List.Elements.{filter-append}
use Rattle.std.proofs.lemmas.List.FromFn.{length-range_with_len}
use Rattle.std.proofs.lemmas.List.Folds.{list_any-append}
use Rattle.sv_form.specs.declared.geometry.Geometry.{Geometry}
use Rattle.sv_form.specs.declared.owners.Mounted.{Mounted}
use Rattle.sv_form.specs.declared.place.Place.{Place}
use Rattle.sv_form.specs.Geometry.{IsGeometry, inode_count, inode_place}
use Rattle.sv_form.specs.Image.{block_of, geometry_of, inode_of}
use Rattle.sv_form.specs.Owners.{owner_of}
use Rattle.sv_check.specs.declared.sound.met.Met.{Met}
use Rattle.sv_check.specs.Chain.{Chained, number, list, chain, chain_flaw, chained, chained_number, first_broken, lost_flaw, reads_list, walked}
use Rattle.sv_check.specs.InodeList.{is_free, used_flags, used_inodes, inode_numbers}
use Rattle.sv_check.specs.Progress.{met_at}
use Rattle.sv_check.specs.Sound.{IsMountedFrom, line_owner, owns}
use Rattle.sv_check.specs.Walk.{Reached, is_among, is_data_block, is_new, met_of, reached, walk, with_met}
use Rattle.sv_check.proofs.InodeReads.{and_first, and_second}
use Rattle.sv_check.proofs.InodeSteps.{none_in_range, range_suc}
use Rattle.sv_check.proofs.WholeWalk.{met_two}

-- ---- how many numbers of a range pass a test

abbrev pub passing : (ℕ → Bool) → ℕ → ℕ → ℕ
passing p a n = length (filter p (range_with_len a n))

one_more : (p : ℕ → Bool) (x : ℕ) (t : Bool) → p x ≡ t → length (filter p (x ∷ [])) ≡ (if t then 1 else 0)
one_more p x t is = ap (λ (u : Bool). length (cond u (x ∷ []) [])) is ∙ by_test t where
  by_test : (u : Bool) → length (cond u (x ∷ []) []) ≡ (if u then 1 else 0)
  by_test true = refl
  by_test false = refl

pub passing_more : (p : ℕ → Bool) (a n x : ℕ) (t : Bool) → a + n ≡ x → p x ≡ t → passing p a (suc n) ≡ passing p a n + (if t then 1 else 0)
passing_more p a n x t at is =
    ap (λ (l : List ℕ). length (filter p l)) (range_suc a n) ∙ ap (λ (l : List ℕ). length l) (filter-append p (range_with_len a n) ((a + n) ∷ []))
    ∙ length-append (filter p (range_with_len a n)) (filter p ((a + n) ∷ [])) ∙ ap (λ (k : ℕ). passing p a n + k) (one_more p (a + n) t (ap p at ∙ is))

front : (p : ℕ → Bool) (a n : ℕ) (t : Bool) → p a ≡ t → passing p a (suc n) ≡ (if t then 1 else 0) + passing p (a + 1) n
front p a n t is = ap (λ (u : Bool). length (cond u (a ∷ filter p (range_with_len (a + 1) n)) (filter p (range_with_len (a + 1) n)))) is ∙ by_test t where
  by_test : (u : Bool) → length (cond u (a ∷ filter p (range_with_len (a + 1) n)) (filter p (range_with_len (a + 1) n))) ≡ (if u then 1 else 0) + passing p (a + 1) n
  by_test true = omega arith
  by_test false = omega arith

same_above : (p q : ℕ → Bool) (n a : ℕ) → ((x : ℕ) → a ≤ x → q x ≡ p x) → passing q a n ≡ passing p a n
same_above p q zero a same = refl
same_above p q (suc n) a same =
    front q a n (p a) (same a (omega arith)) ∙ ap (λ (k : ℕ). (if p a then 1 else 0) + k) (same_above p q n (a + 1) (λ x low. same x (omega (arith, low)))) ∙ sym (front p a n (p a) refl)

same_within : (p q : ℕ → Bool) (n a : ℕ) → ((x : ℕ) → a ≤ x → x < a + n → q x ≡ p x) → passing q a n ≡ passing p a n
same_within p q zero a same = refl
same_within p q (suc n) a same =
    front q a n (p a) (same a (omega arith) (omega arith))
    ∙ ap (λ (k : ℕ). (if p a then 1 else 0) + k) (same_within p q n (a + 1) (λ x low high. same x (omega (arith, low)) (omega (arith, high)))) ∙ sym (front p a n (p a) refl)

none_pass : (p : ℕ → Bool) (n a : ℕ) → ((x : ℕ) → a ≤ x → x < a + n → p x ≡ false) → passing p a n ≡ 0
none_pass p zero a no_one = refl
none_pass p (suc n) a no_one =
    let here : passing p a (suc n) ≡ 0 + passing p (a + 1) n = front p a n false (no_one a (omega arith) (omega arith)) in
    let rest : passing p (a + 1) n ≡ 0 = none_pass p n (a + 1) (λ x low high. no_one x (omega (arith, low)) (omega (arith, high))) in
    omega (arith, here, rest)

-- one number fewer passes
less_one : (p q : ℕ → Bool) (b n a : ℕ) → a ≤ b → b < a + n → p b ≡ true → q b ≡ false → ((x : ℕ) → x ≢ b → q x ≡ p x) → passing p a n ≡ passing q a n + 1
less_one p q b zero a low high so not_so same = absurd (omega (arith, low, high))
less_one p q b (suc n) a low high so not_so same = here_or_later (cases_eq a b) (λ more. less_one p q b n (a + 1) more (omega (arith, high)) so not_so same) where
  here_or_later : (a ≡ b) ⊎ (a ≡ b → ⊥) → (a + 1 ≤ b → passing p (a + 1) n ≡ passing q (a + 1) n + 1) → passing p a (suc n) ≡ passing q a (suc n) + 1
  here_or_later (inl e) later =
      let first_p : passing p a (suc n) ≡ 1 + passing p (a + 1) n = front p a n true (ap p e ∙ so) in
      let first_q : passing q a (suc n) ≡ 0 + passing q (a + 1) n = front q a n false (ap q e ∙ not_so) in
      let rest : passing q (a + 1) n ≡ passing p (a + 1) n = same_above p q n (a + 1) (λ x above. same x (λ f. omega (arith, above, e, f))) in
      omega (arith, first_p, first_q, rest)
  here_or_later (inr other) later =
      let first_p : passing p a (suc n) ≡ (if p a then 1 else 0) + passing p (a + 1) n = front p a n (p a) refl in
      let first_q : passing q a (suc n) ≡ (if p a then 1 else 0) + passing q (a + 1) n = front q a n (p a) (same a other) in
      let rest : passing p (a + 1) n ≡ passing q (a + 1) n + 1 = later (omega (arith, low, other)) in
      omega (arith, first_p, first_q, rest)

-- ---- the numbers of the chain

not_true : (t : Bool) → not t ≡ true → t ≡ false
not_true true e = absurd (false≢true e)
not_true false e = refl

module _ (g : Geometry) (image : List ℕ) (sizes : IsGeometry g) where
  numbers : List Chained → List ℕ
  numbers entries = flat_map chained_number entries

  not_broken : (before : ℕ → Bool) (b : ℕ) (rest : List Chained) (t : Bool) → cond t (first_broken g image (with_met before b) rest) (Some b) ≡ None → (t ≡ true) × (first_broken g image (with_met before b) rest ≡ None)
  not_broken before b rest true e = (refl, e)
  not_broken before b rest false e = let no : ⊥ = cc e in absurd no

  reads : (before : ℕ → Bool) (b : ℕ) (rest : List Chained) (t : Bool) → cond t (first_broken g image before rest) (Some b) ≡ None → first_broken g image before rest ≡ None
  reads before b rest true e = e
  reads before b rest false e = let no : ⊥ = cc e in absurd no

  inside : (b : ℕ) → is_data_block g b ≡ true → (g.first_data ≤ b) × (b < g.first_data + (g.blocks - g.first_data))
  inside b is = (grind (arith, is), grind (arith, is, sizes.some_data))

  data_here : (x : ℕ) → g.first_data ≤ x → x < g.first_data + (g.blocks - g.first_data) → is_data_block g x ≡ true
  data_here x low high = grind (arith, low, high, sizes.some_data)

  met_other : (b x : ℕ) (t : Bool) → x ≢ b → (x == b) ≡ false
  met_other b x t other = grind (arith, other)

  free_as_chained : (entries : List Chained) (before : ℕ → Bool) → first_broken g image before entries ≡ None
      → ((x : ℕ) → is_data_block g x ≡ true → (before x || is_among (flat_map chained_number entries) x) ≡ true)
      → passing (λ x. not (before x)) g.first_data (g.blocks - g.first_data) ≡ length (flat_map chained_number entries)
  unfolding first_broken
  free_as_chained [] before none cover =
      none_pass (λ x. not (before x)) (g.blocks - g.first_data) g.first_data (λ x low high. ap not (or_nothing (before x) (cover x (data_here x low high)))) where
        or_nothing : (t : Bool) → (t || false) ≡ true → t ≡ true
        or_nothing true e = refl
        or_nothing false e = e
  free_as_chained (number b ∷ rest) before none cover =
      let parts = not_broken before b rest (is_new g before b) none in
      let is : is_data_block g b ≡ true = and_first (is_data_block g b) (not (before b)) parts.0 in
      let range = inside b is in
      let fresh : not (before b) ≡ true = and_second (is_data_block g b) (not (before b)) parts.0 in
      let itself : (b == b) ≡ true = grind arith in
      let gone : not (with_met before b b) ≡ false = ap (λ (t : Bool). not (t || before b)) itself in
      let one : passing (λ x. not (before x)) g.first_data (g.blocks - g.first_data) ≡ passing (λ x. not (with_met before b x)) g.first_data (g.blocks - g.first_data) + 1 =
      less_one (λ x. not (before x)) (λ x. not (with_met before b x)) b (g.blocks - g.first_data) g.first_data range.0 range.1 fresh gone
      (λ x other. ap (λ (t : Bool). not (t || before x)) (met_other b x true other)) in
      let more : passing (λ x. not (with_met before b x)) g.first_data (g.blocks - g.first_data) ≡ length (flat_map chained_number rest) =
      free_as_chained rest (with_met before b) parts.1 (λ x data_x. met_two b x (before x) (is_among (flat_map chained_number rest) x) ∙ cover x data_x) in
      omega (arith, one, more)
  free_as_chained (list b ∷ rest) before none cover = free_as_chained rest before (reads before b rest (reads_list (block_of g image b)) none) cover

  both_cover : chain_flaw g image ≡ None → lost_flaw g image ≡ None → (x : ℕ) → is_data_block g x ≡ true → (is_among (walked g image) x || is_among (chained g image) x) ≡ true
  unfolding lost_flaw
  both_cover chain_holds lost x is =
      let range = inside x is in
      sym (list_any-append (λ (n : ℕ). n == x) (walked g image) (chained g image))
      ∙ not_false (is_among (walked g image ++ chained g image) x)
      (none_in_range (λ b. not (is_among (walked g image ++ chained g image) b)) g.first_data (g.blocks - g.first_data) lost x range.0 range.1) where
        not_false : (t : Bool) → not t ≡ false → t ≡ true
        not_false true e = refl
        not_false false e = sym e

  pub free_blocks : chain_flaw g image ≡ None → lost_flaw g image ≡ None
      → passing (λ x. not (is_among (walked g image) x)) g.first_data (g.blocks - g.first_data) ≡ length (chained g image)
  unfolding chain_flaw
  free_blocks chain_holds lost = free_as_chained (chain g image) (is_among (walked g image)) chain_holds (both_cover chain_holds lost)

  -- ---- blocks without an owner

  module _ (b : ℕ) (is : g.first_data ≤ b) where
    abbrev at : Place
    at = record { block = b; line = 0 }

    abbrev used : ℕ → Bool
    used n = not (is_free (inode_of g image n))

    abbrev blocks_of : ℕ → List ℕ
    blocks_of n = map (λ m. m.block) (met_of g image n)

    -- an inode of the list does not stand in a data block
    before_data : (n : ℕ) → 1 ≤ n → n ≤ inode_count g → ((inode_place g n).block == b) ≡ false
    before_data n least most =
        let per : g.block_size / 64 ≡ 16 = ap (λ (s : ℕ). s / 64) sizes.block_size in
        let all : inode_count g ≡ (g.first_data - 2) * 16 = ap (λ (s : ℕ). (g.first_data - 2) * s / 64) sizes.block_size ∙ omega arith in
        let row : (n - 1) / (g.block_size / 64) + 2 ≡ (n - 1) / 16 + 2 = ap (λ (s : ℕ). (n - 1) / s + 2) per in
        let low : (n - 1) / 16 + 2 < g.first_data = omega (arith, least, most, all, sizes.least_first) in
        grind (arith, row, low, is)

    reaches : (rs : List Reached) (n : ℕ) → list_any (λ r. r.block == b) rs ≡ is_among (map (λ m. m.block) (met_at n rs)) b
    reaches [] n = refl
    reaches (r ∷ rs) n = ap (λ (t : Bool). (r.block == b) || t) (reaches rs n)

    owns_it : (n : ℕ) → 1 ≤ n → n ≤ inode_count g → owns g image at n ≡ is_among (blocks_of n) b
    owns_it n least most =
        ap (λ (t : Bool). (t && ((inode_place g n).line == 0)) || list_any (λ r. r.block == b) (reached g image (inode_of g image n))) (before_data n least most)
        ∙ reaches (reached g image (inode_of g image n)) n

    abbrev NotOwned : List ℕ → Type 0
    NotOwned ns = (unwrap_or (find (owns g image at) ns) 0 == 0) ≡ not (is_among (map (λ m. m.block) (flat_map (met_of g image) ns)) b)

    owner_first : (a : ℕ) (rest : List ℕ) (t : Bool) → 1 ≤ a → a ≤ inode_count g → owns g image at a ≡ t → NotOwned rest → NotOwned (a ∷ rest)
    owner_first a rest t least most is_owner later =
        ap (λ (u : Bool). unwrap_or (cond u (Some a) (find (owns g image at) rest)) 0 == 0) is_owner ∙ by_test t later
        ∙ ap not (ap (λ (u : Bool). u || is_among (map (λ m. m.block) (flat_map (met_of g image) rest)) b) (sym is_owner ∙ owns_it a least most)
        ∙ sym (list_any-append (λ (n : ℕ). n == b) (blocks_of a) (map (λ m. m.block) (flat_map (met_of g image) rest)))
        ∙ ap (λ (l : List ℕ). is_among l b) (sym (map-append (λ (m : Met). m.block) (met_of g image a) (flat_map (met_of g image) rest)))) where
          by_test : (u : Bool) → NotOwned rest → (unwrap_or (cond u (Some a) (find (owns g image at) rest)) 0 == 0) ≡ not (u || is_among (map (λ m. m.block) (flat_map (met_of g image) rest)) b)
          by_test true more = grind (arith, least)
          by_test false more = more

    owner_test : (n a : ℕ) → 1 ≤ a → a + n ≤ inode_count g + 1 → NotOwned (filter used (range_with_len a n))
    owner_test zero a least most = refl
    owner_test (suc n) a least most = by_use (used a) (owner_test n (a + 1) (omega arith) (omega (arith, most))) where
      by_use : (t : Bool) → NotOwned (filter used (range_with_len (a + 1) n)) → NotOwned (cond t (a ∷ filter used (range_with_len (a + 1) n)) (filter used (range_with_len (a + 1) n)))
      by_use false later = later
      by_use true later = owner_first a (filter used (range_with_len (a + 1) n)) (owns g image at a) least (omega (arith, most)) refl later

    pub no_owner : (line_owner g image at == 0) ≡ not (is_among (walked g image) b)
    unfolding line_owner used_inodes walk
    no_owner = owner_test (inode_count g) 1 (omega arith) (omega arith)

-- ---- used inodes

pub flags_count : (f : ℕ → Bool) (ns : List ℕ) → length (filter (λ t. t) (map f ns)) ≡ length (filter f ns)
flags_count f [] = refl
flags_count f (n ∷ ns) = by_test (f n) (flags_count f ns) where
  by_test : (t : Bool) → length (filter (λ u. u) (map f ns)) ≡ length (filter f ns) → length (cond t (t ∷ filter (λ u. u) (map f ns)) (filter (λ u. u) (map f ns))) ≡ length (cond t (n ∷ filter f ns) (filter f ns))
  by_test true same = ap suc same
  by_test false same = same

pub used_as_flags : (g : Geometry) (image : List ℕ) (flags : List Bool) → flags ≡ used_flags g image → length (filter (λ t. t) flags) ≡ length (used_inodes g image)
unfolding used_flags used_inodes
used_as_flags g image flags is = ap (λ (l : List Bool). length (filter (λ t. t) l)) is ∙ flags_count (λ n. not (is_free (inode_of g image n))) (inode_numbers g)

-- ---- what a check of a sound image leaves

module _ (image : List ℕ) (m : Mounted) (from : IsMountedFrom image m) where
  owner_free : IsGeometry (geometry_of image) → (b : ℕ) → (geometry_of image).first_data ≤ b → b < (geometry_of image).blocks
      → (owner_of m.owners (record { block = b; line = 0 }) == 0) ≡ not (is_among (walked (geometry_of image) image) b)
  owner_free sizes b low high =
      let lines : (geometry_of image).block_size / 64 ≡ 16 = ap (λ (s : ℕ). s / 64) sizes.block_size in
      ap (λ (n : ℕ). n == 0) (from.owners (record { block = b; line = 0 }) (record { block = high; line = omega (arith, lines) })) ∙ no_owner (geometry_of image) image sizes b low

  pub free_as_unowned : IsGeometry (geometry_of image) → chain_flaw (geometry_of image) image ≡ None → lost_flaw (geometry_of image) image ≡ None
      → passing (λ b. owner_of m.owners (record { block = b; line = 0 }) == 0) m.geometry.first_data (m.geometry.blocks - m.geometry.first_data) ≡ length (chained m.geometry image)
  free_as_unowned sizes chain_holds lost =
      subst (λ (g : Geometry). passing (λ b. owner_of m.owners (record { block = b; line = 0 }) == 0) g.first_data (g.blocks - g.first_data) ≡ length (chained g image)) (sym from.geometry)
      (same_within (λ x. not (is_among (walked (geometry_of image) image) x)) (λ b. owner_of m.owners (record { block = b; line = 0 }) == 0)
      ((geometry_of image).blocks - (geometry_of image).first_data) (geometry_of image).first_data (λ x low high. owner_free sizes x low (omega (arith, high)))
      ∙ free_blocks (geometry_of image) image sizes chain_holds lost)

-- ---- one number more

pub flag_small : (t : Bool) → (if t then 1 else 0) ≤ 1
flag_small true = omega arith
flag_small false = omega arith

pub flag_of : (t : Bool) (r : ℕ) → r ≡ from_bool t → r ≡ (if t then 1 else 0)
flag_of true r is = is
flag_of false r is = is

pub flag_last : (flags : List Bool) (t : Bool) → length (filter (λ u. u) (flags ++ t ∷ [])) ≡ length (filter (λ u. u) flags) + (if t then 1 else 0)
flag_last flags t =
    ap (λ (l : List Bool). length l) (filter-append (λ (u : Bool). u) flags (t ∷ [])) ∙ length-append (filter (λ u. u) flags) (filter (λ u. u) (t ∷ []))
    ∙ ap (λ (k : ℕ). length (filter (λ u. u) flags) + k) (one t) where
      one : (u : Bool) → length (filter (λ v. v) (u ∷ [])) ≡ (if u then 1 else 0)
      one true = refl
      one false = refl

-- there are few of them
pub flags_few : (image : List ℕ) (m : Mounted) → IsMountedFrom image m → length m.used.items < 2 ^ 16
unfolding used_flags
flags_few image m from =
    let g : Geometry = geometry_of image in
    let sizes : IsGeometry g = from.sound.sized.sizes.bounds in
    let all : inode_count g ≡ (g.first_data - 2) * 16 = ap (λ (s : ℕ). (g.first_data - 2) * s / 64) sizes.block_size ∙ omega arith in
    let count : length m.used.items ≡ inode_count g =
    ap (λ (l : List Bool). length l) from.used ∙ length-map (inode_numbers g) (λ n. not (is_free (inode_of g image n))) ∙ length-range_with_len 1 (inode_count g) in
    omega (arith, count, all, sizes.most_first)
