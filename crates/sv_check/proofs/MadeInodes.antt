-- The inode list of an image made anew has the root alone.
use Rattle.std.proofs.Common.{◌≡◌, ◌≢◌, ◌≤◌, ◌<◌, ◌+◌, ◌-◌, ◌*◌, ◌/◌, ◌%◌, ◌++◌, ◌∙◌, ℕ, zero, suc, List, take, drop, replicate, refl, inl, inr, ap, arith}
use Rattle.std.proofs.Math.Seq.{drop-append-add}
use Rattle.std.proofs.lemmas.Bool.{cases_eq}
use Rattle.std.proofs.lemmas.List.{drop-replicate, take-replicate}
use Rattle.sv_form.specs.declared.geometry.Geometry.{Geometry}
use Rattle.sv_form.specs.Geometry.{inode_count}
use Rattle.sv_form.specs.Image.{block_of, inode_of, line_of}
use Rattle.sv_check.specs.MadeBlocks.{filled_to, made_block, root_inode_bytes}
use Rattle.sv_check.specs.MadeRoot.{HasRootAlone, root_inode, root_page}
use Rattle.sv_check.proofs.BlockBytes.{before_is, inodes_are, root_is}

-- sizes in blocks of 1,024 bytes
abbrev pub sizes : (blocks first : ℕ) → Geometry
sizes blocks first = record { block_size = 1024; blocks = blocks; first_data = first }

-- 64 bytes of zero bytes
zero_line : (k n : ℕ) → 64 + k ≤ n → take {A = ℕ} 64 (drop k (replicate n 0)) ≡ replicate 64 0
zero_line k n fits = ap (λ (q : List ℕ). take 64 q) (drop-replicate k n 0) ∙ take-replicate 64 (n - k) 0 (omega (arith, fits))

-- block 2, line by line
list_block : ℕ → List ℕ
list_block page = (replicate 64 0 ++ root_inode page) ++ replicate 896 0

list_block_is : (page : ℕ) → filled_to 1024 (root_inode_bytes page) ≡ list_block page
unfolding root_inode_bytes root_inode list_block
list_block_is page = refl

root_line : (page : ℕ) → take 64 (drop 64 (list_block page)) ≡ root_inode page
unfolding root_inode list_block
root_line page = refl

other_line : (page l : ℕ) → l < 16 → l ≢ 1 → take 64 (drop (64 * l) (list_block page)) ≡ replicate 64 0
unfolding list_block root_inode
other_line page zero low apart = refl
other_line page (suc zero) low apart = absurd (apart refl)
other_line page (suc (suc l)) low apart =
    let at : 64 * suc (suc l) ≡ 128 + 64 * l = omega arith in
    ap (λ (k : ℕ). take 64 (drop k (list_block page))) at
    ∙ (ap (λ (q : List ℕ). take 64 q) (drop-append-add (replicate 64 0 ++ root_inode page) (replicate 896 0) (64 * l)) ∙ zero_line (64 * l) 896 (omega (arith, low)))

-- ---- in an image

line_is : (g : Geometry) (image bytes : List ℕ) (b l : ℕ) → block_of g image b ≡ bytes → line_of g image (record { block = b; line = l }) ≡ take 64 (drop (64 * l) bytes)
unfolding line_of
line_is g image bytes b l is =
    let width : 64 * l + 64 - 64 * l ≡ 64 = omega arith in
    ap (λ (k : ℕ). take k (drop (64 * l) (block_of g image b))) width ∙ ap (λ (q : List ℕ). take 64 (drop (64 * l) q)) is

module _ (blocks first : ℕ) (image : List ℕ) (least : 3 ≤ first) (most : first < blocks) (stand : (b : ℕ) → b < blocks → block_of (sizes blocks first) image b ≡ made_block (sizes blocks first) b) where
  second : block_of (sizes blocks first) image 2 ≡ list_block first
  second = stand 2 (omega (arith, least, most)) ∙ (ap (λ (q : List ℕ). filled_to 1024 q) (inodes_are (sizes blocks first) 2 (omega arith) refl) ∙ list_block_is first)

  later : (b : ℕ) → 3 ≤ b → b < first → block_of (sizes blocks first) image b ≡ replicate 1024 0
  later b low high =
      stand b (omega (arith, most, high))
      ∙ ap (λ (q : List ℕ). filled_to 1024 q) (before_is (sizes blocks first) b (omega (arith, low)) (omega (arith, low)) (omega (arith, high)) high)

  other : (n : ℕ) → 1 ≤ n → n ≤ inode_count (sizes blocks first) → n ≢ 2 → inode_of (sizes blocks first) image n ≡ replicate 64 0
  other n low high apart =
      elim (cases_eq ((n - 1) / 16) 0) as (λ _. inode_of (sizes blocks first) image n ≡ replicate 64 0) [
        | inl is ↦ (let here : (n - 1) / 16 + 2 ≡ 2 = omega (arith, is) in
            line_is (sizes blocks first) image (list_block first) ((n - 1) / 16 + 2) ((n - 1) % 16) (ap (λ (b : ℕ). block_of (sizes blocks first) image b) here ∙ second)
            ∙ other_line first ((n - 1) % 16) (omega arith) (omega (arith, low, apart, is)))
        | inr past ↦ line_is (sizes blocks first) image (replicate 1024 0) ((n - 1) / 16 + 2) ((n - 1) % 16) (later ((n - 1) / 16 + 2) (omega (arith, past)) (omega (arith, low, high, least)))
            ∙ zero_line (64 * ((n - 1) % 16)) 1024 (omega arith)
      ]

  page_is : block_of (sizes blocks first) image first ≡ root_page
  unfolding root_page
  page_is = stand first most ∙ ap (λ (q : List ℕ). filled_to 1024 q) (root_is (sizes blocks first) first (omega (arith, least)) (omega (arith, least)) refl)

  pub root_alone : HasRootAlone (sizes blocks first) image
  root_alone = record {
    least = least;
    most = most;
    root = line_is (sizes blocks first) image (list_block first) 2 1 second ∙ root_line first;
    others = other;
    page = page_is;
  }
