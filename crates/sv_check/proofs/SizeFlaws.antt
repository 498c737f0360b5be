-- What the reading of a superblock shows of the first three conditions.
use Rattle.std.proofs.Common.{◌≡◌, ◌≤◌, ◌*◌, ℕ, List, length, refl, sym, ◌∙◌, ap, subst, inl, inr}
use Rattle.sv_form.specs.declared.superblock.Super.{Super}
use Rattle.sv_form.specs.Geometry.{IsGeometry}
use Rattle.sv_form.specs.Image.{superblock_of, geometry_of}
use Rattle.sv_form.specs.Number.{number16, number32}
use Rattle.sv_form.specs.Superblock.{IsSuper, magic, sizes_of}
use Rattle.sv_form.proofs.Images.{geometry_of-spelled}
use Rattle.sv_check.specs.Sizes.{HasMagic, HasBlockType, IsSized, SizesFlaw}

module _ (image bytes : List ℕ) (e : bytes ≡ superblock_of image) where
  pub no_magic : (number32 bytes 0 ≡ magic → ⊥) → SizesFlaw image 1 0
  no_magic ne = inl (record { is_number = refl; is_place = refl; fails = λ has. ne (ap (λ (b : List ℕ). number32 b 0) e ∙ has.magic) })

  pub has_magic : 1024 ≤ length image → number32 bytes 0 ≡ magic → HasMagic image
  has_magic long is = record { long = long; magic = ap (λ (b : List ℕ). number32 b 0) (sym e) ∙ is }

  pub wrong_type : (n : ℕ) → HasMagic image → n ≡ number16 bytes 4 → (n ≡ 2 → ⊥) → SizesFlaw image 2 n
  wrong_type n has is ne =
      let here : n ≡ number16 (superblock_of image) 4 = is ∙ ap (λ (b : List ℕ). number16 b 4) e in
      inr (inl (record { magic = has; is_number = refl; is_place = here; fails = λ type. ne (here ∙ type.type) }))

  pub has_type : (n : ℕ) → n ≡ number16 bytes 4 → n ≡ 2 → HasBlockType image
  has_type n is two = record { type = ap (λ (b : List ℕ). number16 b 4) (sym e) ∙ sym is ∙ two }

  pub spelled : (s : Super) → IsSuper bytes s → IsSuper (superblock_of image) s
  spelled s = subst (λ (b : List ℕ). IsSuper b s) e

  pub unreadable : HasMagic image → HasBlockType image → ((s : Super) → IsSuper bytes s → ⊥) → SizesFlaw image 3 0
  unreadable has type none =
      inr (inr (record {
        magic = has;
        type = type;
        is_number = refl;
        is_place = refl;
        fails = λ sizes. none sizes.reads.0 (subst (λ (b : List ℕ). IsSuper b sizes.reads.0) (sym e) sizes.reads.1);
      }))

  pub unfit : (s : Super) (n : ℕ) → n ≡ length image → HasMagic image → HasBlockType image → IsSuper bytes s
      → (IsGeometry (sizes_of s) × (n ≡ (sizes_of s).blocks * (sizes_of s).block_size) → ⊥) → SizesFlaw image 3 0
  unfit s n long has type is not =
      let same : geometry_of image ≡ sizes_of s = geometry_of-spelled image s (spelled s is) in
      inr (inr (record {
        magic = has;
        type = type;
        is_number = refl;
        is_place = refl;
        fails = λ sizes. not (subst IsGeometry same sizes.bounds, long ∙ sizes.length ∙ ap (λ g. g.blocks * g.block_size) same);
      }))

  pub sized : (s : Super) (n : ℕ) → n ≡ length image → HasMagic image → HasBlockType image → IsSuper bytes s
      → IsGeometry (sizes_of s) × (n ≡ (sizes_of s).blocks * (sizes_of s).block_size) → IsSized image
  sized s n long has type is fit =
      let same : geometry_of image ≡ sizes_of s = geometry_of-spelled image s (spelled s is) in
      record {
        magic = has;
        type = type;
        sizes = record {
          reads = (s, spelled s is);
          bounds = subst IsGeometry (sym same) fit.0;
          length = sym long ∙ fit.1 ∙ sym (ap (λ g. g.blocks * g.block_size) same);
        };
      }
