-- What making an image anew writes: the blocks that do not stand there already.
use Rattle.std.specs.Prelude.{◌≡◌, ◌≢◌, ◌+◌, ◌*◌, ℕ, Bool, not, List, length, count_by, nat_eq, slice_range}
use Rattle.std.specs.List.{range_with_len}
use Rattle.std.specs.Cmp.Lexicographic.{pointwise}
use Rattle.sv_dev.specs.Causes.{counted}
use Rattle.sv_form.specs.declared.geometry.Geometry.{Geometry}
use Rattle.sv_check.specs.MadeBlocks.{made_block}

-- do these bytes stand there already
abbrev pub stands_at : List ℕ → ℕ → List ℕ → Bool
stands_at content at bytes = pointwise nat_eq (slice_range content at (at + length bytes)) bytes

-- how many of the first n blocks of the content are others than those of the image
abbrev pub unlike_blocks : Geometry → List ℕ → ℕ → ℕ
unlike_blocks g content n = count_by (λ b. not (stands_at content (b * 1024) (made_block g b))) (range_with_len 0 n)

-- a count of calls after n more; none of them leaves it as it was
pub record HasCounted (old n new : ℕ) : Type 0 where
  pub none : n ≡ 0 → new ≡ old
  pub some : n ≢ 0 → new ≡ counted old n
