-- What the first conditions say of single numbers and places: no number of the walk is bad, and no inode stands in another part.
use Rattle.std.proofs.Common.{◌≡◌, ◌≢◌, ◌≤◌, ◌<◌, ◌+◌, ◌-◌, ◌*◌, ◌/◌, ◌%◌, ◌==◌, ◌&&◌, ◌⊎◌, ℕ, Bool, true, false, List, inl, inr, Option}
use Rattle.std.proofs.Common.{Some, None, cond, arith, ap, refl, sym, ◌∙◌}
use Rattle.std.specs.Prelude.{option_and_then, if◌then◌else◌}
use Rattle.std.proofs.lemmas.Bool.{eqb-true, false≢true}
use Rattle.std.proofs.lemmas.Bool.Decides.{nat_tests}
use Rattle.sv_form.specs.declared.geometry.Geometry.{Geometry}
use Rattle.sv_form.specs.declared.place.Place.{Place}
use Rattle.sv_form.specs.Geometry.{IsGeometry, block_lines, inode_count, inode_place}
use Rattle.sv_check.proofs.WalkMet.{Met}
use Rattle.sv_check.specs.Walk.{first_bad, is_data_block, nothing_met, range_flaw, twice_flaw, walk}

no_bad : (g : Geometry) (o : Option Met) → option_and_then (λ (m : Met). if is_data_block g m.block then None else Some m.inode) o ≡ None
    → option_and_then (λ (m : Met). if is_data_block g m.block then Some m.block else None) o ≡ None → o ≡ None
no_bad g None e f = refl
no_bad g (Some m) e f = by (is_data_block g m.block) e f where
  by : (t : Bool) → cond t None (Some m.inode) ≡ None → cond t (Some m.block) None ≡ None → Some m ≡ None
  by true e f = let no : ⊥ = cc f in absurd no
  by false e f = let no : ⊥ = cc e in absurd no

pub none-bad : (g : Geometry) (image : List ℕ) → range_flaw g image ≡ None → twice_flaw g image ≡ None
    → first_bad g nothing_met (walk g image) ≡ None
unfolding range_flaw twice_flaw
none-bad g image range twice = no_bad g (first_bad g nothing_met (walk g image)) range twice

module _ (g : Geometry) (sizes : IsGeometry g) where
  abbrev pub stands_at : Place → ℕ → Bool
  stands_at p n = ((inode_place g n).block == p.block) && ((inode_place g n).line == p.line)

  lines : block_lines g ≡ 16
  lines = ap (λ (s : ℕ). s / 64) sizes.block_size

  count : inode_count g ≡ (g.first_data - 2) * 1024 / 64
  count = ap (λ (s : ℕ). (g.first_data - 2) * s / 64) sizes.block_size

  block_is : (n : ℕ) → (inode_place g n).block ≡ (n - 1) / 16 + 2
  block_is n = ap (λ (s : ℕ). (n - 1) / s + 2) lines

  line_is : (n : ℕ) → (inode_place g n).line ≡ (n - 1) % 16
  line_is n = ap (λ (s : ℕ). (n - 1) % s) lines

  other_block : (n b : ℕ) → 1 ≤ n → n ≤ inode_count g → (b < 2) ⊎ (g.first_data ≤ b) → (inode_place g n).block ≢ b
  other_block n b least most (inl low) e = let is = block_is n in absurd (omega (arith, e, is, low))
  other_block n b least most (inr high) e =
      let is = block_is n in let first = sizes.least_first in absurd (omega (arith, e, is, high, most, least, count, first))

  -- no inode stands in a block of another part
  pub elsewhere : (p : Place) (n : ℕ) → 1 ≤ n → n ≤ inode_count g → (p.block < 2) ⊎ (g.first_data ≤ p.block) → stands_at p n ≡ false
  elsewhere p n least most out =
      let other = other_block n p.block least most out in
      let test : ((inode_place g n).block == p.block) ≡ false = grind (nat_tests, arith, other) in
      ap (λ (t : Bool). t && ((inode_place g n).line == p.line)) test

  both : (s t : Bool) → (s && t) ≡ true → (s ≡ true) × (t ≡ true)
  both true t e = (refl, e)
  both false t e = absurd (false≢true e)

  -- two inodes at one place are one
  pub one-place : (n k : ℕ) → 1 ≤ n → 1 ≤ k → stands_at (inode_place g n) k ≡ true → k ≡ n
  one-place n k least some e =
      let parts = both ((inode_place g k).block == (inode_place g n).block) ((inode_place g k).line == (inode_place g n).line) e in
      let block : (inode_place g k).block ≡ (inode_place g n).block = eqb-true (inode_place g k).block (inode_place g n).block parts.0 in
      let line : (inode_place g k).line ≡ (inode_place g n).line = eqb-true (inode_place g k).line (inode_place g n).line parts.1 in
      let rows : (k - 1) / 16 + 2 ≡ (n - 1) / 16 + 2 = sym (block_is k) ∙ block ∙ block_is n in
      let columns : (k - 1) % 16 ≡ (n - 1) % 16 = sym (line_is k) ∙ line ∙ line_is n in
      omega (arith, rows, columns, least, some)

  -- an inode stands in none of the data blocks
  pub in-list : (n : ℕ) → 1 ≤ n → n ≤ inode_count g → is_data_block g (inode_place g n).block ≡ false
  in-list n least most =
      let is = block_is n in
      let first = sizes.least_first in
      let low : (inode_place g n).block < g.first_data = omega (arith, is, least, most, count, first) in
      grind (nat_tests, arith, low)
