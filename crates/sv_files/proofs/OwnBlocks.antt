-- The blocks that a used inode reaches are its own: each is met once, is a data block, and its lines are held where those of
-- the inode are.
use Rattle.std.proofs.Common.{◌≡◌, ◌≤◌, ◌<◌, ◌+◌, ◌*◌, ◌/◌, ◌%◌, ◌==◌, ◌&&◌, ◌||◌, ◌⊎◌, ℕ, Bool, true, false, not, List, [], ◌∷◌, inl, inr}
use Rattle.std.proofs.Common.{Option, Some, None, All, slice_index, unwrap_or, cond, arith, ap, refl, sym, ◌∙◌}
use Rattle.std.specs.List.{AllByRecursion, list_any}
use Rattle.std.proofs.lemmas.Bool.{cases_eq, cases_lt, eq-eqb, eqb-true, false≢true}
use Rattle.std.proofs.lemmas.List.Elements.{All-from_recursion, All-weaker}
use Rattle.sv_form.specs.declared.geometry.Geometry.{Geometry}
use Rattle.sv_form.specs.declared.place.Place.{Place}
use Rattle.sv_form.specs.Geometry.{IsDataBlock, IsGeometry, inode_count, inode_place}
use Rattle.sv_form.specs.Image.{block_of, inode_of}
use Rattle.sv_form.specs.Number.{number32}
use Rattle.sv_form.specs.AddressTree as tree
use Rattle.sv_form.specs.AddressTree.{Reached}
use Rattle.sv_form.specs.PagePath.{IsSpot, block_numbers}
use Rattle.sv_form.specs.Readers.{AgreeAt, IsSameTree}
use Rattle.sv_form.proofs.ReaderLemmas.{same_tree}
use Rattle.sv_plain.specs.Front.{address_of}
use Rattle.sv_check.proofs.WalkMet.{Met}
use Rattle.sv_check.specs.InodeList.{is_free, used_inodes}
use Rattle.sv_check.specs.Sound.{line_owner, owns}
use Rattle.sv_check.specs.Walk.{first_bad, image_numbers, is_data_block, is_new, met_of, nothing_met, reached, walk, with_met}
use Rattle.sv_check.proofs.FileBlocks.{data_of}
use Rattle.sv_check.proofs.InodeReads.{and_first, and_second}
use Rattle.sv_check.proofs.BooleanTests.{not_true, or_true}
use Rattle.sv_store.specs.Held.{Held, line_of}
use Rattle.sv_bmap.specs.Tree as bmap
use Rattle.sv_bmap.specs.Tree.{number_in}
use Rattle.sv_bmap.proofs.Paths.{number-line}
use Rattle.sv_super.specs.Count.{one_if}
use Rattle.sv_files.specs.FromImage.{HoldsLinesOf, IsUsedInode}
use Rattle.sv_files.proofs.Hits.{any-hits, find-only, hits, hits-any, hits-map, one-of, two-of}
use Rattle.sv_files.proofs.TreeSpots.{is_at}
use Rattle.sv_files.proofs.Walked.{elsewhere}

-- ---- none is met twice where none is bad

abbrev pub met_is : ℕ → Met → Bool
met_is b m = m.block == b

once_step : (before : ℕ → Bool) (x b k : ℕ) (t : Bool) → (x == b) ≡ t → before x ≡ false → (k ≤ 1) × (with_met before x b ≡ true → k ≡ 0)
    → (one_if t + k ≤ 1) × (before b ≡ true → one_if t + k ≡ 0)
once_step before x b k true is old rest =
    let same : x ≡ b = eqb-true x b is in
    let now : with_met before x b ≡ true = ap (λ (t : Bool). t || before b) (eq-eqb b x (sym same)) in
    let none : k ≡ 0 = rest.1 now in
    (omega (arith, none), λ e. absurd (false≢true (sym old ∙ ap before same ∙ e)))
once_step before x b k false is old rest =
    let few = rest.0 in
    (omega (arith, few), λ e. (let none : k ≡ 0 = rest.1 (ap (λ (t : Bool). (b == x) || t) e ∙ or_true (b == x)) in omega (arith, none)))

module _ (g : Geometry) where
  bad_parts : (before : ℕ → Bool) (m : Met) (rest : List Met) (t : Bool)
      → cond t (first_bad g (with_met before m.block) rest) (Some m) ≡ None
      → (t ≡ true) × (first_bad g (with_met before m.block) rest ≡ None)
  bad_parts before m rest true e = (refl, e)
  bad_parts before m rest false e = let no : ⊥ = cc e in absurd no

  pub bad-once : (before : ℕ → Bool) (ms : List Met) (b : ℕ) → first_bad g before ms ≡ None
      → (hits (met_is b) ms ≤ 1) × (before b ≡ true → hits (met_is b) ms ≡ 0)
  unfolding first_bad
  bad-once before [] b none = (omega arith, λ _. refl)
  bad-once before (m ∷ ms) b none =
      let parts = bad_parts before m ms (is_new g before m.block) none in
      let old : before m.block ≡ false = not_true (before m.block) (and_second (is_data_block g m.block) (not (before m.block)) parts.0) in
      once_step before m.block b (hits (met_is b) ms) (m.block == b) refl old (bad-once (with_met before m.block) ms b parts.1)

  data_step : (x b k : ℕ) (t : Bool) → (x == b) ≡ t → is_data_block g x ≡ true → (0 < k → is_data_block g b ≡ true) → 0 < one_if t + k
      → is_data_block g b ≡ true
  data_step x b k true is here rest some = ap (is_data_block g) (sym (eqb-true x b is)) ∙ here
  data_step x b k false is here rest some = rest (omega (arith, some))

  pub bad-data : (before : ℕ → Bool) (ms : List Met) (b : ℕ) → first_bad g before ms ≡ None → 0 < hits (met_is b) ms
      → is_data_block g b ≡ true
  unfolding first_bad
  bad-data before [] b none some = absurd (omega (arith, some))
  bad-data before (m ∷ ms) b none some =
      let parts = bad_parts before m ms (is_new g before m.block) none in
      data_step m.block b (hits (met_is b) ms) (m.block == b) refl (and_first (is_data_block g m.block) (not (before m.block)) parts.0)
      (bad-data (with_met before m.block) ms b parts.1) some

-- each that is met is hit
pub all-hit : (all xs : List Reached) → ((c : ℕ) → hits (is_at c) xs ≤ hits (is_at c) all)
    → AllByRecursion (λ r. 0 < hits (is_at r.block) all) xs
all-hit all [] more = tt
all-hit all (r ∷ rs) more =
    let here : one_if (r.block == r.block) ≡ 1 = ap one_if (eq-eqb r.block r.block refl) in
    let some = more r.block in
    (omega (arith, here, some), all-hit all rs (λ c. (let most = more c in omega (arith, most))))

module _ (g : Geometry) (image : List ℕ) (sizes : IsGeometry g) (none : first_bad g nothing_met (walk g image) ≡ None) where
  abbrev pub blocks : ℕ → List Reached
  blocks n = reached g image (inode_of g image n)

  abbrev is_used : ℕ → Bool
  is_used n = not (is_free (inode_of g image n))

  met-hits : (b n : ℕ) → hits (met_is b) (met_of g image n) ≡ hits (is_at b) (blocks n)
  met-hits b n = hits-map (met_is b) (λ (r : Reached). record { inode = n; block = r.block }) (blocks n)

  pub reached-once : (n : ℕ) → IsUsedInode g image n → (b : ℕ) → hits (is_at b) (blocks n) ≤ 1
  unfolding walk used_inodes
  reached-once n u b =
      let least = u.least in
      let most = u.most in
      let part = one-of (met_is b) (met_of g image) is_used (inode_count g) 1 n least (omega (arith, most)) (ap not u.used) in
      let once = (bad-once g nothing_met (walk g image) b none).0 in
      omega (arith, part, once, met-hits b n)

  pub reached-data : (n : ℕ) → IsUsedInode g image n → (b : ℕ) → 0 < hits (is_at b) (blocks n) → is_data_block g b ≡ true
  unfolding walk used_inodes
  reached-data n u b some =
      let least = u.least in
      let most = u.most in
      let part = one-of (met_is b) (met_of g image) is_used (inode_count g) 1 n least (omega (arith, most)) (ap not u.used) in
      bad-data g nothing_met (walk g image) b none (omega (arith, part, some, met-hits b n))

  two_apart : (n m b : ℕ) → n < m → IsUsedInode g image n → IsUsedInode g image m → 0 < hits (is_at b) (blocks n)
      → 0 < hits (is_at b) (blocks m) → ⊥
  unfolding walk used_inodes
  two_apart n m b less u v one two =
      let least = u.least in
      let most = v.most in
      let both =
      two-of (met_is b) (met_of g image) is_used (inode_count g) 1 n m least less (omega (arith, most)) (ap not u.used) (ap not v.used) in
      let once = (bad-once g nothing_met (walk g image) b none).0 in
      absurd (omega (arith, both, once, one, two, met-hits b n, met-hits b m))

  pub reached-by-one : (n m b : ℕ) → IsUsedInode g image n → IsUsedInode g image m → 0 < hits (is_at b) (blocks n)
      → 0 < hits (is_at b) (blocks m) → n ≡ m
  reached-by-one n m b u v one two =
      elim (cases_lt n m) as (λ _. n ≡ m) [
        | inl less ↦ absurd (two_apart n m b less u v one two)
        | inr past ↦ elim (cases_eq n m) as (λ _. n ≡ m) [
          | inl e ↦ e
          | inr ne ↦ absurd (two_apart m n b (omega (arith, past, ne)) v u two one)
        ]
      ]

  used_is : (k : ℕ) → 1 ≤ k → k < 1 + inode_count g → is_used k ≡ true → IsUsedInode g image k
  used_is k low high is = record { least = low; most = omega (arith, high); used = not_true (is_free (inode_of g image k)) is }

  pub owner-is : (n : ℕ) → IsUsedInode g image n → (b : ℕ) → 0 < hits (is_at b) (blocks n) → (l : ℕ)
      → line_owner g image (record { block = b; line = l }) ≡ n
  unfolding line_owner used_inodes
  owner-is n u b some l =
      let p : Place = record { block = b; line = l } in
      let inside : IsDataBlock g b = data_of g b (reached-data n u b some) in
      let out : (b < 2) ⊎ (g.first_data ≤ b) = inr inside.least in
      let least = u.least in
      let most = u.most in
      let any : list_any (is_at b) (blocks n) ≡ true = hits-any (is_at b) (blocks n) some in
      let mine : owns g image p n ≡ true =
      ap (λ (t : Bool). ((inode_place g n).block == b && (inode_place g n).line == l) || t) any
      ∙ or_true ((inode_place g n).block == b && (inode_place g n).line == l) in
      let only : (k : ℕ) → 1 ≤ k → k < 1 + inode_count g → is_used k ≡ true → owns g image p k ≡ true → k ≡ n =
      λ k low high is so.
      (let not_there = elsewhere g sizes p k low (omega (arith, high)) out in
      let reaches : list_any (is_at b) (blocks k) ≡ true = sym (ap (λ (t : Bool). t || list_any (is_at b) (blocks k)) not_there) ∙ so in
      reached-by-one k n b (used_is k low high is) u (any-hits (is_at b) (blocks k) reaches) some) in
      ap (λ (o : Option ℕ). unwrap_or o 0)
      (find-only (owns g image p) is_used (inode_count g) 1 n least (omega (arith, most)) (ap not u.used) mine only)

  -- ---- what is held

  module _ (n : ℕ) (u : IsUsedInode g image n) (h : Held) (holds : HoldsLinesOf g image n h) where
    pub held-line : (b : ℕ) → 0 < hits (is_at b) (blocks n) → (l : ℕ) → l * 64 < g.block_size
        → h b l ≡ Some (line_of (block_of g image b) l)
    held-line b some l low =
        let inside : IsDataBlock g b = data_of g b (reached-data n u b some) in
        let bytes = sizes.block_size in
        holds.own b l (record { block = inside.most; line = omega (arith, low, bytes) }) (owner-is n u b some l)

    pub held-number : (b : ℕ) → 0 < hits (is_at b) (blocks n) → (k : ℕ) → k < block_numbers g → number_in h b k ≡ image_numbers g image b k
    unfolding number_in
    held-number b some k low =
        let bytes = sizes.block_size in
        let turn : k * 4 ≡ 4 * k = omega arith in
        ap (λ (o : Option (List ℕ)). number32 (unwrap_or o []) (k % 16 * 4)) (held-line b some (k / 16) (omega (arith, low, bytes)))
        ∙ number-line (block_of g image b) k ∙ ap (λ (x : ℕ). number32 (block_of g image b) x) turn

    agree : All (AgreeAt (block_numbers g) (image_numbers g image) (number_in h)) (blocks n)
    agree =
        All-weaker (λ (r : Reached). 0 < hits (is_at r.block) (blocks n)) (AgreeAt (block_numbers g) (image_numbers g image) (number_in h))
        (λ r some high k low. held-number r.block some k low) (blocks n)
        (All-from_recursion (λ (r : Reached). 0 < hits (is_at r.block) (blocks n)) (blocks n)
        (all-hit (blocks n) (blocks n) (λ c. omega arith)))

    -- the held lines have the tree of the image
    pub same-held : IsSameTree (block_numbers g) (image_numbers g image) (number_in h) (address_of (inode_of g image n))
    same-held = same_tree (block_numbers g) (image_numbers g image) (number_in h) (address_of (inode_of g image n)) agree

    module _ (a : List ℕ) (named : (k : ℕ) → k < 13 → address_of (inode_of g image n) k ≡ slice_index a k) where
      -- the block at a spot, in the image
      abbrev pub in_image : ℕ → List ℕ → ℕ
      in_image slot ks = tree.block_at (image_numbers g image) (address_of (inode_of g image n)) slot ks

      pub same-block : (slot : ℕ) (ks : List ℕ) → IsSpot (block_numbers g) slot ks → bmap.block_at h a slot ks ≡ in_image slot ks
      same-block slot ks spot = ap (λ (x : ℕ). tree.down (number_in h) x ks) (sym (named slot spot.among)) ∙ same-held.spots slot ks spot
