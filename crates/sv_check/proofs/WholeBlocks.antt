-- The nodes of the tree of a sound image use no more blocks than there are data blocks.
use Rattle.std.proofs.Common.{◌≡◌, ◌≤◌, ◌+◌, ◌-◌, ◌==◌, ◌||◌, ◌∷◌, [], ℕ, Bool, not, true, false, List, Some, None, ap, refl, cond, flat_map, length, nat_le, arith}
use Rattle.std.specs.List.{count_by, range_with_len, sum_by}
use Rattle.std.proofs.lemmas.Bool.{ne_eqb}
use Rattle.std.proofs.lemmas.List.{length-append, length-map}
use Rattle.std.proofs.lemmas.List.Sums.{sum_by-cons}
use Rattle.sv_form.specs.declared.geometry.Geometry.{Geometry}
use Rattle.sv_form.specs.Geometry.{inode_count}
use Rattle.sv_form.specs.Image.{geometry_of, inode_of}
use Rattle.sv_form.specs.Node.{used}
use Rattle.sv_plain.specs.Fs as fs
use Rattle.sv_plain.specs.Totals.{one_if}
use Rattle.sv_plain.proofs.Counts.{count_all, count_changed}
use Rattle.sv_check.specs.declared.sound.met.Met.{Met}
use Rattle.sv_check.specs.InodeList.{used_inodes}
use Rattle.sv_check.specs.Sound.{IsSound, node_of}
use Rattle.sv_check.specs.Walk.{Reached, first_bad, is_data_block, is_new, met_of, nothing_met, reached, walk, with_met}
use Rattle.sv_check.proofs.BooleanTests.{and_left, and_right, at_most, below}
use Rattle.sv_check.proofs.LoadedTree.{nodes_to}
use Rattle.sv_check.proofs.ReachedBlocks.{used-few}
use Rattle.sv_check.proofs.ReadyDirectories.{no_bad_number}
use Rattle.sv_check.proofs.SoundParts.{AreMet, are_met}
use Rattle.sv_check.proofs.TreeCounts.{total_range}

-- ---- numbers that are all new are no more than the data blocks

module _ (g : Geometry) where
  -- the data blocks that were not met
  abbrev left : (ℕ → Bool) → ℕ
  left before = count_by (λ b. not (before b)) (range_with_len g.first_data (g.blocks - g.first_data))

  new_first : (before : ℕ → Bool) (m : Met) (rest : List Met) (t : Bool) → cond t (first_bad g (with_met before m.block) rest) (Some m) ≡ None → (t ≡ true) × (first_bad g (with_met before m.block) rest ≡ None)
  new_first before m rest true e = (refl, e)
  new_first before m rest false e = let bad : ⊥ = cc e in absurd bad

  one_less : (before : ℕ → Bool) (b : ℕ) → is_new g before b ≡ true → left (with_met before b) + 1 ≡ left before
  one_less before b new =
      let data_block = and_left (is_data_block g b) _ new in
      let free = and_right (is_data_block g b) _ new in
      let low = at_most g.first_data b (and_left (nat_le g.first_data b) _ data_block) in
      let high = below b g.blocks (and_right (nat_le g.first_data b) _ data_block) in
      let step = count_changed (λ x. not (with_met before b x)) (λ x. not (before x)) b g.first_data (g.blocks - g.first_data) low (omega (arith, low, high))
      (λ i ne. ap (λ t. not (t || before i)) (ne_eqb i b ne)) in
      let was : one_if (not (before b)) ≡ 1 = ap one_if free in
      let itself : (b == b) ≡ true = grind arith in
      let now : one_if (not (with_met before b b)) ≡ 0 = ap (λ t. one_if (not (t || before b))) itself in
      omega (arith, step, was, now)

  all_new : (list : List Met) (before : ℕ → Bool) → first_bad g before list ≡ None → length list ≤ left before
  unfolding first_bad
  all_new [] before e = omega arith
  all_new (m ∷ rest) before e =
      let parts = new_first before m rest (is_new g before m.block) e in
      let less = one_less before m.block parts.0 in
      let others = all_new rest (with_met before m.block) parts.1 in
      omega (arith, less, others)

-- ---- sums

sum_few : {X : Type 0} (f : ℕ → ℕ) (h : ℕ → List X) → ((m : ℕ) → f m ≤ length (h m)) → (ms : List ℕ) → sum_by f ms ≤ length (flat_map h ms)
sum_few f h few [] = omega arith
sum_few f h few (m ∷ ms) =
    let first = few m in
    let rest = sum_few f h few ms in
    omega (arith, first, rest, sum_by-cons f m ms, length-append (h m) (flat_map h ms))

module _ (image : List ℕ) (sound : IsSound image) where
  abbrev g : Geometry
  g = geometry_of image

  abbrev met : AreMet g image
  met = are_met image sound

  few : (m : ℕ) → used g.block_size (node_of g image (inode_of g image m)) ≤ length (met_of g image m)
  few m =
      let same : length (met_of g image m) ≡ length (reached g image (inode_of g image m)) = length-map (reached g image (inode_of g image m)) (λ (r : Reached). record { inode = m; block = r.block }) in
      let least = used-few g image (omega arith) (inode_of g image m) in
      omega (arith, same, least)

  walk-few : length (walk g image) ≤ g.blocks - g.first_data
  walk-few =
      let new = all_new g (walk g image) nothing_met (no_bad_number g image met.size met.range met.twice) in
      let all : left g nothing_met ≡ g.blocks - g.first_data = count_all (λ b. not (nothing_met b)) g.first_data (g.blocks - g.first_data) (λ i. refl) in
      omega (arith, new, all)

  pub blocks_few : fs.used_by_all g.block_size (nodes_to g image (inode_count g)) ≤ g.blocks - g.first_data
  unfolding fs.used_by_all walk used_inodes
  blocks_few =
      let all = total_range g image (λ _ n. used g.block_size n) (inode_count g) 1 in
      let sums = sum_few (λ m. used g.block_size (node_of g image (inode_of g image m))) (met_of g image) few (used_inodes g image) in
      let most = walk-few in
      omega (arith, all, sums, most)
