-- The bytes of held lines are those of the image.
use Rattle.std.proofs.Common.{◌≡◌, ◌≤◌, ◌<◌, ◌+◌, ◌-◌, ◌*◌, ◌/◌, ◌%◌, ◌∙◌, ℕ, List, [], Option, Some, None, IsSome, is_some, ap, sym, refl}
use Rattle.std.proofs.Common.{get_or, drop, length, unwrap_or, slice_index, arith}
use Rattle.std.specs.List.{slice_range}
use Rattle.std.proofs.lemmas.List.{ext_get_or, get_or-drop, get_or-take, length-drop, length-take}
use Rattle.std.proofs.lemmas.List.FromFn.{get_or-map-range_with_len, length-map-range_with_len}
use Rattle.sv_form.specs.declared.geometry.Geometry.{Geometry}
use Rattle.sv_form.specs.declared.place.Place.{Place}
use Rattle.sv_form.specs.Geometry.{IsGeometry, super_place}
use Rattle.sv_form.specs.Image as form
use Rattle.sv_form.specs.Image.{block_of, superblock_of}
use Rattle.sv_store.specs.Held.{Held, Origin, line_of}
use Rattle.sv_store.proofs.Lines.{get_or-by_line}
use Rattle.sv_super.specs.Core.{HoldsSuper}
use Rattle.sv_super.specs.FreeList.{byte_of}
use Rattle.sv_super.specs.Written.{super_bytes}
use Rattle.sv_files.specs.ConverseLines.{HasLines}

-- two words for a line of a block
pub same_line : (g : Geometry) (image : List ℕ) (p : Place) → form.line_of g image p ≡ line_of (block_of g image p.block) p.line
unfolding line_of form.line_of
same_line g image p =
    let turned : 64 * p.line ≡ p.line * 64 = omega arith in
    ap (λ (x : ℕ). slice_range (block_of g image p.block) x (x + 64)) turned

-- a byte of a block is a byte of the image
pub block-byte : (g : Geometry) (image : List ℕ) (b k : ℕ) → k < g.block_size
    → get_or (block_of g image b) k 0 ≡ get_or image (b * g.block_size + k) 0
unfolding block_of
block-byte g image b k below =
    get_or-take (b * g.block_size + g.block_size - b * g.block_size) (drop (b * g.block_size) image) k 0 (omega (arith, below))
    ∙ get_or-drop (b * g.block_size) image k 0

super-byte : (image : List ℕ) (k : ℕ) → k < 512 → get_or (superblock_of image) k 0 ≡ get_or image (512 + k) 0
unfolding superblock_of
super-byte image k below = get_or-take (1024 - 512) (drop 512 image) k 0 (omega (arith, below)) ∙ get_or-drop 512 image k 0

super-long : (image : List ℕ) → 1024 ≤ length image → length (superblock_of image) ≡ 512
unfolding superblock_of
super-long image long = omega (arith, long, length-take (1024 - 512) (drop 512 image), length-drop 512 image)

module _ (g : Geometry) (image : List ℕ) (h : Held) (lines : HasLines g image h) where
  byte_by : (b k : ℕ) (o : Option (List ℕ)) → h b (k / 64) ≡ o → IsSome o
      → slice_index (unwrap_or o []) (k % 64) ≡ get_or (block_of g image b) k 0
  byte_by b k None is some = let bad : ⊥ = cc some in absurd bad
  byte_by b k (Some line) is some =
      ap (λ (x : List ℕ). get_or x (k % 64) 0) (lines.at b (k / 64) line is) ∙ sym (get_or-by_line (block_of g image b) k)

  -- a byte of a block by its held lines
  pub held-byte : (b k : ℕ) → IsSome (h b (k / 64)) → byte_of (h b) k ≡ get_or (block_of g image b) k 0
  held-byte b k some = byte_by b k (h b (k / 64)) refl some

module _ (o : Origin) (image : List ℕ) (h : Held) (sizes : IsGeometry o.sizes) (long : length image ≡ o.sizes.blocks * o.sizes.block_size)
    (lines : HasLines o.sizes image h) (super : HoldsSuper o h) where
  abbrev g : Geometry
  g = o.sizes

  first-block : (super_place g).block ≡ 0
  first-block = ap (λ (s : ℕ). 512 / s) sizes.block_size

  eighth-line : (super_place g).line ≡ 8
  eighth-line = ap (λ (s : ℕ). 512 % s / 64) sizes.block_size

  pub has-1024 : 1024 ≤ length image
  has-1024 =
      let size = sizes.block_size in
      let all : length image ≡ g.blocks * 1024 = long ∙ ap (λ (s : ℕ). g.blocks * s) size in
      let some = sizes.least_blocks in
      omega (arith, all, some)

  held-super : (m k : ℕ) → k < 512 → 512 + k ≡ m → IsSome (h (super_place g).block (m / 64))
  held-super m k below is =
      let at : (super_place g).line + k / 64 ≡ m / 64 = omega (arith, eighth-line, is) in
      ap (λ (l : ℕ). is_some (h (super_place g).block l)) (sym at) ∙ super.at (k / 64) (omega (arith, below))

  super-here : (k : ℕ) → k < 512 → get_or (super_bytes g h) k 0 ≡ get_or (superblock_of image) k 0
  unfolding super_bytes
  super-here k below =
      let m : ℕ = (super_place g).line * 64 + k in
      let is : 512 + k ≡ m = omega (arith, eighth-line) in
      let none : (super_place g).block * g.block_size ≡ 0 * g.block_size = ap (λ (b : ℕ). b * g.block_size) first-block in
      let at : (super_place g).block * g.block_size + m ≡ 512 + k = omega (arith, none, is) in
      let size = sizes.block_size in
      get_or-map-range_with_len (byte_of (h (super_place g).block)) ((super_place g).line * 64) 512 k m 0 below refl
      ∙ held-byte g image h lines (super_place g).block m (held-super m k below is)
      ∙ block-byte g image (super_place g).block m (omega (arith, is, below, size))
      ∙ ap (λ (x : ℕ). get_or image x 0) at ∙ sym (super-byte image k below)

  super-size : length (super_bytes g h) ≡ 512
  unfolding super_bytes
  super-size = length-map-range_with_len (byte_of (h (super_place g).block)) ((super_place g).line * 64) 512

  -- the superblock by the held lines is that of the image
  pub super-is : super_bytes g h ≡ superblock_of image
  super-is =
      ext_get_or 0 (super_bytes g h) (superblock_of image) (super-size ∙ sym (super-long image has-1024))
      (λ k below. super-here k (omega (arith, below, super-size)))
