-- What is read of a part of a block is read of the image.
use Rattle.std.proofs.Common.{◌≡◌, ◌+◌, ◌*◌, ℕ, List, ap, ◌∙◌}
use Rattle.std.specs.List.{slice_range}
use Rattle.sv_form.specs.declared.geometry.Geometry.{Geometry}
use Rattle.sv_form.specs.declared.place.Place.{Place}
use Rattle.sv_form.specs.Image.{block_of, line_of}

-- the part of a block that a line is
pub line_of-is : (g : Geometry) (image : List ℕ) (p q : Place) → p ≡ q → (block : List ℕ) → block ≡ block_of g image p.block → (l : ℕ) → l ≡ p.line
    → slice_range block (64 * l) (64 * l + 64) ≡ line_of g image q
unfolding line_of
line_of-is g image p q same block b l at =
    let e : slice_range block (64 * l) (64 * l + 64) ≡ slice_range (block_of g image p.block) (64 * p.line) (64 * p.line + 64) = cc in
    e ∙ ap (λ (r : Place). slice_range (block_of g image r.block) (64 * r.line) (64 * r.line + 64)) same
