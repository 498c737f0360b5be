-- Whose each line is: an inode's own line, or one of a block that it reaches.
use Rattle.std.proofs.Common.{◌≡◌, ◌≢◌, ◌≤◌, ◌<◌, ◌+◌, ◌-◌, ◌*◌, ◌/◌, ◌%◌, ◌∷◌, [], ◌==◌, ◌&&◌, ◌||◌, ◌⊎◌, ◌∙◌, ℕ, Bool, not, true, false, List, Option, Some, None, ap, sym, refl, inl, inr, cond, find, flat_map, map, get_or, nat_le, nat_lt, slice_index, unwrap_or, zero-add, arith}
use Rattle.std.specs.List.{range_with_len, list_any}
use Rattle.std.proofs.lemmas.Bool.{eqb-true, eq-eqb, false≢true}
use Rattle.std.proofs.lemmas.List.{map-append}
use Rattle.std.proofs.lemmas.List.Folds.{list_any-append}
use Rattle.std.proofs.lemmas.List.FromFn.{get_or-map-range_with_len}
use Rattle.sv_form.specs.declared.geometry.Geometry.{Geometry}
use Rattle.sv_form.specs.declared.place.Place.{Place}
use Rattle.sv_form.specs.Geometry.{IsGeometry, IsPlace, block_lines, inode_count, inode_place, line_count, line_number}
use Rattle.sv_form.specs.Image.{geometry_of, inode_of, superblock_of}
use Rattle.sv_form.specs.Number.{number16, number32}
use Rattle.sv_form.specs.Superblock.{IsSuper, sizes_of}
use Rattle.sv_form.specs.declared.superblock.Super.{Super}
use Rattle.sv_check.specs.BlockOwners.{block_owner, line_owners, place_of, reaches}
use Rattle.sv_check.specs.InodeList.{is_free, used_flags, used_inodes}
use Rattle.sv_check.specs.Sound.{line_owner, owns}
use Rattle.sv_check.specs.Walk.{first_bad, is_among, is_data_block, met_of, nothing_met, reached, walk}
use Rattle.sv_check.proofs.OwnedBlocks.{among_met, each_new}
use Rattle.sv_check.proofs.ToldPlaces.{among_filter, find_alike}

-- ---- lists

any_from : (p : ℕ → Bool) (ns : List ℕ) (n : ℕ) → is_among ns n ≡ true → p n ≡ true → list_any p ns ≡ true
any_from p [] n among so = absurd (false≢true among)
any_from p (x ∷ xs) n among so = by_test (x == n) refl among (any_from p xs n) where
  by_test : (t : Bool) → (x == n) ≡ t → (t || is_among xs n) ≡ true → (is_among xs n ≡ true → p n ≡ true → list_any p xs ≡ true) → (p x || list_any p xs) ≡ true
  by_test true here among rest = ap (λ (t : Bool). t || list_any p xs) (ap p (eqb-true x n here) ∙ so)
  by_test false here among rest = or_second (p x) (list_any p xs) (rest among so) where
    or_second : (a b : Bool) → b ≡ true → (a || b) ≡ true
    or_second true b e = refl
    or_second false b e = e

find_one : (ns : List ℕ) (n : ℕ) → find (λ x. x == n) ns ≡ cond (is_among ns n) (Some n) None
find_one [] n = refl
find_one (x ∷ xs) n = by_test (x == n) refl (find_one xs n) where
  by_test : (t : Bool) → (x == n) ≡ t → find (λ x. x == n) xs ≡ cond (is_among xs n) (Some n) None → cond t (Some x) (find (λ x. x == n) xs) ≡ cond (t || is_among xs n) (Some n) None
  by_test true here rest = ap (λ (y : ℕ). Some y) (eqb-true x n here)
  by_test false here rest = rest

or_false : (t : Bool) → (t || false) ≡ t
or_false true = refl
or_false false = refl

among_true : (a b c : Bool) → (a && (b && c)) ≡ true → (b ≡ true) × (c ≡ true)
among_true true true true e = (refl, refl)
among_true true true false e = absurd (false≢true e)
among_true true false c e = absurd (false≢true e)
among_true false b c e = absurd (false≢true e)

-- ---- the place of an inode

module _ (g : Geometry) (sizes : IsGeometry g) where
  abbrev at_place : Place → ℕ → Bool
  at_place p n = ((inode_place g n).block == p.block) && ((inode_place g n).line == p.line)

  lines_are : block_lines g ≡ 16
  lines_are = ap (λ (s : ℕ). s / 64) sizes.block_size

  count_is : inode_count g ≡ (g.first_data - 2) * 1024 / 64
  count_is = ap (λ (s : ℕ). (g.first_data - 2) * s / 64) sizes.block_size

  block_is : (n : ℕ) → (inode_place g n).block ≡ (n - 1) / 16 + 2
  block_is n = ap (λ (s : ℕ). (n - 1) / s + 2) lines_are

  line_is : (n : ℕ) → (inode_place g n).line ≡ (n - 1) % 16
  line_is n = ap (λ (s : ℕ). (n - 1) % s) lines_are

  apart_block : (n b : ℕ) → 1 ≤ n → n ≤ inode_count g → (b < 2) ⊎ (g.first_data ≤ b) → (inode_place g n).block ≢ b
  apart_block n b least most (inl low) e = omega (arith, e, block_is n, low)
  apart_block n b least most (inr high) e = omega (arith, e, block_is n, high, most, least, count_is, sizes.least_first)

  -- no inode stands in a block of another part
  pub elsewhere : (p : Place) (n : ℕ) → 1 ≤ n → n ≤ inode_count g → (p.block < 2) ⊎ (g.first_data ≤ p.block) → at_place p n ≡ false
  elsewhere p n least most out =
      let other = apart_block n p.block least most out in
      let test : ((inode_place g n).block == p.block) ≡ false = grind (arith, other) in
      ap (λ (t : Bool). t && ((inode_place g n).line == p.line)) test

  -- in the inode list, it is one number alone
  pub at_line : (line n m : ℕ) → 1 ≤ n → 32 ≤ line → m ≡ line - 32 + 1 → at_place (place_of g line) n ≡ (n == m)
  at_line line n m least low is =
      let block : (place_of g line).block ≡ line / 16 = ap (λ (s : ℕ). line / s) lines_are in
      let place : (place_of g line).line ≡ line % 16 = ap (λ (s : ℕ). line % s) lines_are in
      let whole : at_place (place_of g line) n ≡ (((n - 1) / 16 + 2 == line / 16) && ((n - 1) % 16 == line % 16)) =
      ap (λ (b : ℕ). (b == (place_of g line).block) && ((inode_place g n).line == (place_of g line).line)) (block_is n)
      ∙ ap (λ (b : ℕ). ((n - 1) / 16 + 2 == b) && ((inode_place g n).line == (place_of g line).line)) block
      ∙ ap (λ (b : ℕ). ((n - 1) / 16 + 2 == line / 16) && (b == (place_of g line).line)) (line_is n) ∙ ap (λ (b : ℕ). ((n - 1) / 16 + 2 == line / 16) && ((n - 1) % 16 == b)) place in
      whole ∙ by_tests ((n - 1) / 16 + 2 == line / 16) ((n - 1) % 16 == line % 16) (n == m) refl refl refl where
        by_tests : (t u v : Bool) → ((n - 1) / 16 + 2 == line / 16) ≡ t → ((n - 1) % 16 == line % 16) ≡ u → (n == m) ≡ v → (t && u) ≡ v
        by_tests true true true a b c = refl
        by_tests true true false a b c =
            let one : (n - 1) / 16 + 2 ≡ line / 16 = eqb-true ((n - 1) / 16 + 2) (line / 16) a in
            let two : (n - 1) % 16 ≡ line % 16 = eqb-true ((n - 1) % 16) (line % 16) b in
            let same : n ≡ m = omega (arith, one, two, is, least, low) in
            absurd (false≢true (sym c ∙ eq-eqb n m same))
        by_tests true false false a b c = refl
        by_tests true false true a b c =
            let same : n ≡ m = eqb-true n m c in
            let two : (n - 1) % 16 ≡ line % 16 = omega (arith, same, is, least, low) in
            absurd (false≢true (sym b ∙ eq-eqb ((n - 1) % 16) (line % 16) two))
        by_tests false u false a b c = refl
        by_tests false u true a b c =
            let same : n ≡ m = eqb-true n m c in
            let one : (n - 1) / 16 + 2 ≡ line / 16 = omega (arith, same, is, least, low) in
            absurd (false≢true (sym a ∙ eq-eqb ((n - 1) / 16 + 2) (line / 16) one))

module _ (g : Geometry) (image : List ℕ) (sizes : IsGeometry g) (none : first_bad g nothing_met (walk g image) ≡ None) where
  abbrev is_used : ℕ → Bool
  is_used n = not (is_free (inode_of g image n))

  -- ---- what the used inodes reach

  among_reached : (b : ℕ) (ns : List ℕ) → is_among (map (λ m. m.block) (flat_map (met_of g image) ns)) b ≡ list_any (reaches g image b) ns
  among_reached b [] = refl
  among_reached b (n ∷ ns) =
      ap (λ (l : List ℕ). is_among l b) (map-append (λ m. m.block) (met_of g image n) (flat_map (met_of g image) ns))
      ∙ list_any-append (λ x. x == b) (map (λ m. m.block) (met_of g image n)) (map (λ m. m.block) (flat_map (met_of g image) ns))
      ∙ ap (λ (t : Bool). t || is_among (map (λ m. m.block) (flat_map (met_of g image) ns)) b) (among_met n b (reached g image (inode_of g image n)))
      ∙ ap (λ (t : Bool). reaches g image b n || t) (among_reached b ns)

  -- a block that is no data block is nobody's
  not_reached : (b n : ℕ) → is_data_block g b ≡ false → is_among (used_inodes g image) n ≡ true → reaches g image b n ≡ false
  unfolding walk
  not_reached b n outside among = by_test (reaches g image b n) refl where
    by_test : (t : Bool) → reaches g image b n ≡ t → t ≡ false
    by_test false e = refl
    by_test true e =
        let met = among_reached b (used_inodes g image) ∙ any_from (reaches g image b) (used_inodes g image) n among e in
        absurd (false≢true (sym outside ∙ (each_new g nothing_met (walk g image) b none met).0))

  used_is : (n : ℕ) → is_among (used_inodes g image) n ≡ (is_used n && (nat_le 1 n && nat_lt n (1 + inode_count g)))
  unfolding used_inodes
  used_is n = among_filter is_used (inode_count g) 1 n

  in_list : (n : ℕ) → is_among (used_inodes g image) n ≡ true → (1 ≤ n) × (n ≤ inode_count g)
  in_list n among =
      let parts = among_true (is_used n) (nat_le 1 n) (nat_lt n (1 + inode_count g)) (sym (used_is n) ∙ among) in
      (grind (arith, parts.0), grind (arith, parts.1))

  -- ---- the owner of a line

  module _ (line : ℕ) where
    abbrev p : Place
    p = place_of g line

    pub of_block : (owner : ℕ) → (p.block < 2) ⊎ (g.first_data ≤ p.block) → owner ≡ block_owner g image p.block → owner ≡ line_owner g image p
    unfolding block_owner line_owner
    of_block owner out is =
        let same : find (owns g image p) (used_inodes g image) ≡ find (reaches g image p.block) (used_inodes g image) =
        find_alike (owns g image p) (reaches g image p.block) (used_inodes g image)
        (λ n among. let bounds = in_list n among in ap (λ (t : Bool). t || reaches g image p.block n) (elsewhere g sizes p n bounds.0 bounds.1 out)) in
        is ∙ ap (λ (o : Option ℕ). unwrap_or o 0) (sym same)

    module _ (low : 2 ≤ p.block) (high : p.block < g.first_data) where
      at_least : 32 ≤ line
      at_least =
          let block : p.block ≡ line / 16 = ap (λ (s : ℕ). line / s) (lines_are g sizes) in
          omega (arith, block, low)

      pub inside_list : line - 32 < inode_count g
      inside_list =
          let block : p.block ≡ line / 16 = ap (λ (s : ℕ). line / s) (lines_are g sizes) in
          omega (arith, block, high, low, count_is g sizes)

      listed : (m : ℕ) → m ≡ line - 32 + 1 → line_owner g image p ≡ unwrap_or (cond (is_used m) (Some m) None) 0
      unfolding line_owner
      listed m is =
          let outside : is_data_block g p.block ≡ false = grind (arith, high) in
          let same : find (owns g image p) (used_inodes g image) ≡ find (λ n. n == m) (used_inodes g image) =
          find_alike (owns g image p) (λ n. n == m) (used_inodes g image)
          (λ n among.
          let bounds = in_list n among in
          ap (λ (t : Bool). at_place g sizes p n || t) (not_reached p.block n outside among) ∙ or_false (at_place g sizes p n) ∙ at_line g sizes line n m bounds.0 at_least is) in
          let least : 1 ≤ m = omega (arith, is) in
          let most : m ≤ inode_count g = omega (arith, is, inside_list) in
          let first : nat_le 1 m ≡ true = grind (arith, least) in
          let last : nat_lt m (1 + inode_count g) ≡ true = grind (arith, most) in
          let there : is_among (used_inodes g image) m ≡ is_used m =
          used_is m ∙ ap (λ (t : Bool). is_used m && (t && nat_lt m (1 + inode_count g))) first ∙ ap (λ (t : Bool). is_used m && t) last ∙ and_true (is_used m) in
          ap (λ (o : Option ℕ). unwrap_or o 0) (same ∙ find_one (used_inodes g image) m ∙ ap (λ (t : Bool). cond t (Some m) None) there) where
            and_true : (t : Bool) → (t && true) ≡ t
            and_true true = refl
            and_true false = refl

      flag_is : (used : List Bool) (d : Bool) → used ≡ used_flags g image → get_or used (line - 32) d ≡ is_used (line - 32 + 1)
      unfolding used_flags
      flag_is used d is =
          let at : 1 + (line - 32) ≡ line - 32 + 1 = omega arith in
          ap (λ (l : List Bool). get_or l (line - 32) d) is
          ∙ get_or-map-range_with_len (λ k. not (is_free (inode_of g image k))) 1 (inode_count g) (line - 32) (line - 32 + 1) d inside_list at

      pub of_used : (used : List Bool) (d : Bool) (m : ℕ) → used ≡ used_flags g image → get_or used (line - 32) d ≡ true → m ≡ line - 32 + 1 → m ≡ line_owner g image p
      of_used used d m is so e =
          let here : is_used m ≡ true = ap is_used e ∙ sym (flag_is used d is) ∙ so in
          sym (listed m e ∙ ap (λ (t : Bool). unwrap_or (cond t (Some m) None) 0) here)

      pub of_free : (used : List Bool) (d : Bool) → used ≡ used_flags g image → get_or used (line - 32) d ≡ false → 0 ≡ line_owner g image p
      of_free used d is so =
          let here : is_used (line - 32 + 1) ≡ false = sym (flag_is used d is) ∙ so in
          sym (listed (line - 32 + 1) refl ∙ ap (λ (t : Bool). unwrap_or (cond t (Some (line - 32 + 1)) None) 0) here)

  -- ---- all lines

  pub owner_at : (owners : List ℕ) (p : Place) → IsPlace g p → owners ≡ line_owners g image → slice_index owners (line_number g p) ≡ line_owner g image p
  unfolding line_owners
  owner_at owners p at are =
      let lines = lines_are g sizes in
      let number : line_number g p ≡ p.block * 16 + p.line = ap (λ (s : ℕ). p.block * s + p.line) lines in
      let many : line_count g ≡ g.blocks * 16 = ap (λ (s : ℕ). g.blocks * s) lines in
      let short : p.line < 16 = omega (arith, at.line, lines) in
      let below : line_number g p < line_count g = omega (arith, number, many, short, at.block) in
      let block : line_number g p / block_lines g ≡ p.block = ap (λ (s : ℕ). line_number g p / s) lines ∙ omega (arith, number, short) in
      let line : line_number g p % block_lines g ≡ p.line = ap (λ (s : ℕ). line_number g p % s) lines ∙ omega (arith, number, short) in
      ap (λ (l : List ℕ). slice_index l (line_number g p)) are
      ∙ get_or-map-range_with_len (λ k. line_owner g image (place_of g k)) 0 (line_count g) (line_number g p) (line_number g p) 0 below (zero-add (line_number g p))
      ∙ ap (λ (b : ℕ). line_owner g image (record { block = b; line = line_number g p % block_lines g })) block
      ∙ ap (λ (l : ℕ). line_owner g image (record { block = p.block; line = l })) line

pub all_lines : (g : Geometry) (image : List ℕ) (n : ℕ) (owners : List ℕ) → n ≡ line_count g → owners ≡ map (λ line. line_owner g image (place_of g line)) (range_with_len 0 n) → owners ≡ line_owners g image
unfolding line_owners
all_lines g image n owners e are = are ∙ ap (λ (m : ℕ). map (λ line. line_owner g image (place_of g line)) (range_with_len 0 m)) e

-- the sizes that the superblock names are those of the image
pub sizes_same : (image : List ℕ) (s : Super) → IsSuper (superblock_of image) s → sizes_of s ≡ geometry_of image
sizes_same image s is =
    let blocks : s.blocks ≡ number32 (superblock_of image) 8 = sym is.blocks in
    let first : s.first_data ≡ number16 (superblock_of image) 6 = sym is.first_data in
    λ i. record { block_size = 1024; blocks = blocks i; first_data = first i }
