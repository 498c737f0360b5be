-- What the passes over the inode list find where it has the root alone: one used inode, which is a directory and has one page.
use Rattle.std.proofs.Common.{◌≡◌, ◌≢◌, ◌≤◌, ◌<◌, ◌+◌, ◌*◌, ◌/◌, ◌%◌, ◌==◌, ◌&&◌, ◌||◌, ◌++◌, ◌∙◌, ℕ, zero, suc, Bool, not, true, false, List, [], ◌∷◌, Some, None, map, filter, find, flat_map, drop, cond, refl, inl, inr, sym, ap, subst, nat_le, nat_lt, arith}
use Rattle.std.specs.List.{list_any, range_with_len}
use Rattle.std.proofs.lemmas.Bool.{cases_eq}
use Rattle.sv_form.specs.declared.geometry.Geometry.{Geometry}
use Rattle.sv_form.specs.Geometry.{inode_count}
use Rattle.sv_form.specs.Image.{inode_of}
use Rattle.sv_plain.specs.Front.{address_of, size_of}
use Rattle.sv_check.specs.declared.sound.met.Met.{Met}
use Rattle.sv_check.specs.Chain.{walked}
use Rattle.sv_check.specs.Directories.{directories}
use Rattle.sv_check.specs.InodeList.{all_zero, is_directory, is_free, is_misread, is_missized, kind_flaw, size_flaw, used_inodes}
use Rattle.sv_check.specs.MadeBlocks.{root_page_bytes}
use Rattle.sv_check.specs.MadeRoot.{HasRootAlone, root_inode, root_page}
use Rattle.sv_check.specs.PastSize.{has_tail, is_past, past_size_flaw, some_reached, tail_flaw}
use Rattle.sv_check.specs.Walk.{Reached, addressed, first_bad, first_page, height_of, met_of, nothing_met, range_flaw, reached, reached_under, twice_flaw, walk}
use Rattle.sv_check.proofs.BooleanTests.{at_most-test, below-test}
use Rattle.sv_check.proofs.Flaws.{no_range, no_twice}
use Rattle.sv_check.proofs.MadeInodes.{sizes}

-- ---- tests over ranges

module _ (p : ℕ → Bool) where
  none_passes : (n a : ℕ) → ((k : ℕ) → a ≤ k → k < a + n → p k ≡ false) → filter p (range_with_len a n) ≡ []
  none_passes zero a fails = refl
  none_passes (suc n) a fails =
      ap (λ (t : Bool). cond t (a ∷ filter p (range_with_len (a + 1) n)) (filter p (range_with_len (a + 1) n))) (fails a (omega arith) (omega arith))
      ∙ none_passes n (a + 1) (λ k low high. fails k (omega (arith, low)) (omega (arith, high)))

  none_found : (n a : ℕ) → ((k : ℕ) → a ≤ k → k < a + n → p k ≡ false) → find p (range_with_len a n) ≡ None
  none_found zero a fails = refl
  none_found (suc n) a fails =
      ap (λ (t : Bool). cond t (Some a) (find p (range_with_len (a + 1) n))) (fails a (omega arith) (omega arith))
      ∙ none_found n (a + 1) (λ k low high. fails k (omega (arith, low)) (omega (arith, high)))

  -- 2 alone passes
  second_passes : (n : ℕ) → 2 ≤ n → p 2 ≡ true → ((k : ℕ) → 1 ≤ k → k ≤ n → k ≢ 2 → p k ≡ false) → filter p (range_with_len 1 n) ≡ 2 ∷ []
  second_passes zero least so others = absurd (let no : ⊥ = omega (arith, least) in no)
  second_passes (suc zero) least so others = absurd (let no : ⊥ = omega (arith, least) in no)
  second_passes (suc (suc n)) least so others =
      ap (λ (t : Bool). cond t (1 ∷ filter p (range_with_len 2 (suc n))) (filter p (range_with_len 2 (suc n)))) (others 1 (omega arith) (omega arith) (omega arith))
      ∙ (ap (λ (t : Bool). cond t (2 ∷ filter p (range_with_len 3 n)) (filter p (range_with_len 3 n))) so
      ∙ ap (λ (xs : List ℕ). 2 ∷ xs) (none_passes n 3 (λ k low high. others k (omega (arith, low)) (omega (arith, high)) (omega (arith, low)))))

-- ---- the root's inode

pub root_used : (page : ℕ) → is_free (root_inode page) ≡ false
unfolding root_inode
root_used page = refl

pub root_directory : (page : ℕ) → is_directory (root_inode page) ≡ true
unfolding root_inode
root_directory page = refl

pub root_size : (page : ℕ) → size_of (root_inode page) ≡ 32
unfolding root_inode
root_size page = refl

root_reads : (page : ℕ) → is_misread 2 (root_inode page) ≡ false
unfolding root_inode
root_reads page = refl

root_sized : (blocks first page : ℕ) → is_missized (sizes blocks first) (root_inode page) ≡ false
unfolding root_inode
root_sized blocks first page = refl

root_address : (page : ℕ) → address_of (root_inode page) 0 ≡ page
unfolding root_inode
root_address page = let e : page % 65536 % 256 + 256 * (page % 65536 / 256) + 65536 * (page / 65536) ≡ page = omega arith in e

root_addressed : (page : ℕ) → page ≢ 0 → addressed (root_inode page) ≡ 0 ∷ []
unfolding root_inode
root_addressed page some =
    let first : not (address_of (root_inode page) 0 == 0) ≡ true = ap (λ (k : ℕ). not (k == 0)) (root_address page) ∙ grind (arith, some) in
    ap (λ (t : Bool). cond t (0 ∷ []) []) first

root_reached : (g : Geometry) (image : List ℕ) (page : ℕ) → page ≢ 0 → reached g image (root_inode page) ≡ record { height = 0; page = 0; block = page } ∷ []
unfolding Rattle.sv_form.specs.AddressTree.reached Rattle.sv_form.specs.AddressTree.reached_under
root_reached g image page some =
    ap (λ (ks : List ℕ). flat_map (λ k. reached_under g image (height_of k) (first_page g k) (address_of (root_inode page) k)) ks) (root_addressed page some)
    ∙ ap (λ (b : ℕ). record { height = 0; page = 0; block = b } ∷ []) (root_address page)

-- ---- an image that has the root alone

false_after : (t : Bool) → (t && false) ≡ false
false_after true = refl
false_after false = refl

module _ (blocks first : ℕ) (image : List ℕ) (has : HasRootAlone (sizes blocks first) image) where
  pub other_free : (n : ℕ) → 1 ≤ n → n ≤ inode_count (sizes blocks first) → n ≢ 2 → is_free (inode_of (sizes blocks first) image n) ≡ true
  other_free n low high apart = ap is_free (has.others n low high apart)

  pub used_is : used_inodes (sizes blocks first) image ≡ 2 ∷ []
  unfolding used_inodes
  used_is =
      second_passes (λ n. not (is_free (inode_of (sizes blocks first) image n))) (inode_count (sizes blocks first)) (omega (arith, has.least)) (ap (λ (q : List ℕ). not (is_free q)) has.root ∙ ap not (root_used first))
      (λ k low high apart. ap not (other_free k low high apart))

  pub directories_are : directories (sizes blocks first) image ≡ 2 ∷ []
  unfolding directories
  directories_are =
      second_passes (λ n. is_directory (inode_of (sizes blocks first) image n)) (inode_count (sizes blocks first)) (omega (arith, has.least)) (ap is_directory has.root ∙ root_directory first)
      (λ k low high apart. ap is_directory (has.others k low high apart))

  pub reached_is : reached (sizes blocks first) image (inode_of (sizes blocks first) image 2) ≡ record { height = 0; page = 0; block = first } ∷ []
  reached_is = ap (λ (q : List ℕ). reached (sizes blocks first) image q) has.root ∙ root_reached (sizes blocks first) image first (omega (arith, has.least))

  walk_is : walk (sizes blocks first) image ≡ record { inode = 2; block = first } ∷ []
  unfolding walk
  walk_is =
      ap (λ (ns : List ℕ). flat_map (met_of (sizes blocks first) image) ns) used_is
      ∙ ap (λ (rs : List Reached). map (λ (r : Reached). record { inode = 2; block = r.block }) rs ++ []) reached_is

  pub walked_is : walked (sizes blocks first) image ≡ first ∷ []
  walked_is = ap (λ (ms : List Met). map (λ (m : Met). m.block) ms) walk_is

  -- ---- conditions 4 to 9

  pub kind_holds : kind_flaw (sizes blocks first) image ≡ None
  unfolding kind_flaw
  kind_holds = none_found (λ n. is_misread n (inode_of (sizes blocks first) image n)) (inode_count (sizes blocks first)) 1 reads where
    reads : (k : ℕ) → 1 ≤ k → k < 1 + inode_count (sizes blocks first) → is_misread k (inode_of (sizes blocks first) image k) ≡ false
    reads k low high =
        elim (cases_eq k 2) as (λ _. is_misread k (inode_of (sizes blocks first) image k) ≡ false) [
          | inl is ↦ subst (λ (n : ℕ). is_misread n (inode_of (sizes blocks first) image n) ≡ false) (sym is) (ap (is_misread 2) has.root ∙ root_reads first)
          | inr apart ↦ ap (is_misread k) (has.others k low (omega (arith, high)) apart) ∙ false_after (k == 1)
        ]

  pub size_holds : size_flaw (sizes blocks first) image ≡ None
  unfolding size_flaw
  size_holds = none_found (λ n. is_missized (sizes blocks first) (inode_of (sizes blocks first) image n)) (inode_count (sizes blocks first)) 1 fits where
    fits : (k : ℕ) → 1 ≤ k → k < 1 + inode_count (sizes blocks first) → is_missized (sizes blocks first) (inode_of (sizes blocks first) image k) ≡ false
    fits k low high =
        elim (cases_eq k 2) as (λ _. is_missized (sizes blocks first) (inode_of (sizes blocks first) image k) ≡ false) [
          | inl is ↦ subst (λ (n : ℕ). is_missized (sizes blocks first) (inode_of (sizes blocks first) image n) ≡ false) (sym is)
              (ap (is_missized (sizes blocks first)) has.root ∙ root_sized blocks first first)
          | inr apart ↦ ap (is_missized (sizes blocks first)) (has.others k low (omega (arith, high)) apart)
        ]

  no_bad : None ≡ first_bad (sizes blocks first) nothing_met (walk (sizes blocks first) image)
  unfolding first_bad
  no_bad =
      let low : nat_le first first ≡ true = at_most-test first first (omega arith) in
      let high : nat_lt first blocks ≡ true = below-test first blocks has.most in
      sym
      (ap (λ (ms : List Met). first_bad (sizes blocks first) nothing_met ms) walk_is
      ∙ (ap (λ (t : Bool). cond (t && nat_lt first blocks && true) None (Some (record { inode = 2; block = first }))) low
      ∙ ap (λ (t : Bool). cond (true && t && true) None (Some (record { inode = 2; block = first }))) high))

  pub range_holds : range_flaw (sizes blocks first) image ≡ None
  range_holds = no_range (sizes blocks first) image no_bad

  pub twice_holds : twice_flaw (sizes blocks first) image ≡ None
  twice_holds = no_twice (sizes blocks first) image no_bad

  -- a test of the blocks of the used inodes is one of the root's page
  of_page : (test : ℕ → Reached → Bool) → test 32 (record { height = 0; page = 0; block = first }) ≡ false
      → find (some_reached (sizes blocks first) image test) (used_inodes (sizes blocks first) image) ≡ None
  of_page test fails =
      let long : size_of (inode_of (sizes blocks first) image 2) ≡ 32 = ap size_of has.root ∙ root_size first in
      let one : some_reached (sizes blocks first) image test 2 ≡ false =
      ap (λ (rs : List Reached). list_any (test (size_of (inode_of (sizes blocks first) image 2))) rs) reached_is
      ∙ (ap (λ (n : ℕ). test n (record { height = 0; page = 0; block = first }) || false) long ∙ ap (λ (t : Bool). t || false) fails) in
      ap (λ (ns : List ℕ). find (some_reached (sizes blocks first) image test) ns) used_is ∙ ap (λ (t : Bool). cond t (Some 2) None) one

  pub past_size_holds : past_size_flaw (sizes blocks first) image ≡ None
  unfolding past_size_flaw
  past_size_holds = of_page (is_past (sizes blocks first) image) refl

  pub tail_holds : tail_flaw (sizes blocks first) image ≡ None
  unfolding tail_flaw root_page root_page_bytes
  tail_holds = of_page (has_tail (sizes blocks first) image) (ap (λ (q : List ℕ). not (all_zero (drop 32 q))) has.page)
