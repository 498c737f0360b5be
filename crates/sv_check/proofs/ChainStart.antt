-- Where the chain of free blocks begins: the blocks that the walk met, and the list in the superblock.
use Rattle.std.proofs.Common.{◌≡◌, ◌<◌, ◌≤◌, ◌+◌, ◌*◌, ◌==◌, ◌++◌, ◌⊎◌, ◌∙◌, ℕ, Bool, not, false, List, Option, inl, inr, ap, sym, length, map, get_or, slice_index, zero-add, arith}
use Rattle.std.specs.List.{range_with_len}
use Rattle.std.proofs.Math.Path.{fun_ext}
use Rattle.std.proofs.lemmas.Bool.{cases_lt}
use Rattle.std.proofs.lemmas.List.{ext_get_or, get_or-map, get_or_past, length-map}
use Rattle.std.proofs.lemmas.List.FromFn.{get_or-map-range_with_len, length-map-range_with_len}
use Rattle.std.proofs.lemmas.List.Folds.{list_any-append}
use Rattle.sv_form.specs.declared.geometry.Geometry.{Geometry}
use Rattle.sv_form.specs.declared.superblock.Super.{Super}
use Rattle.sv_form.specs.Image.{superblock_of}
use Rattle.sv_form.specs.Number.{number32}
use Rattle.sv_form.specs.Superblock.{IsSuper}
use Rattle.sv_check.specs.Chain.{chain_flaw, chain_from, chain, chained, first_broken, free_list, walked}
use Rattle.sv_check.specs.ChainSteps.{met_in, numbers_of, with_each}
use Rattle.sv_check.specs.Progress.{met_by}
use Rattle.sv_check.specs.Walk.{is_among}

abbrev flag_of : ℕ → Bool
flag_of owner = not (owner == 0)

flag_at : (owners : List ℕ) (b : ℕ) → (b < length owners) ⊎ (length owners ≤ b) → get_or (map flag_of owners) b false ≡ flag_of (get_or owners b 0)
flag_at owners b (inl inside) = get_or-map flag_of owners b 0 false inside
flag_at owners b (inr outside) =
    let past : length (map flag_of owners) ≤ b = omega (arith, length-map owners flag_of, outside) in
    get_or_past (map flag_of owners) b false past ∙ ap flag_of (sym (get_or_past owners b 0 outside))

-- the flags of the blocks that have an owner
pub flags_met : (owners : List ℕ) (met : List Bool) → met ≡ map (λ o. not (o == 0)) owners → met_in met ≡ met_by (slice_index owners)
flags_met owners met is = ap met_in is ∙ fun_ext (λ b. flag_at owners b (cases_lt b (length owners)))

-- a table has the numbers of a list
pub table_list : (f : ℕ → ℕ) (list : List ℕ) → ((k : ℕ) → k < length list → f k ≡ slice_index list k) → map f (range_with_len 0 (length list)) ≡ list
table_list f list same =
    ext_get_or 0 (map f (range_with_len 0 (length list))) list (length-map-range_with_len f 0 (length list)) (λ i less.
    let inside : i < length list = omega (arith, less, length-map-range_with_len f 0 (length list)) in
    get_or-map-range_with_len f 0 (length list) i i 0 inside (zero-add i) ∙ same i inside)

-- the list in the superblock is its free block cache
pub free_list-read : (image : List ℕ) (s : Super) → IsSuper (superblock_of image) s → free_list image ≡ s.free.items
free_list-read image s is =
    let f : ℕ → ℕ = λ k. number32 (superblock_of image) (16 + 4 * k) in
    ap (λ (n : ℕ). map f (range_with_len 0 n)) is.free.count ∙ table_list f s.free.items (λ k less. is.free.table k (omega (arith, less, is.free.fits)))

module _ (g : Geometry) (image : List ℕ) (found : Option ℕ) (before : ℕ → Bool) (owners first : List ℕ) (s : Super) (start : before ≡ met_by (slice_index owners))
    (owned : (b : ℕ) → met_by (slice_index owners) b ≡ is_among (walked g image) b) (numbers : first ≡ s.free.items) (head : IsSuper (superblock_of image) s) where
  -- what was found of the chain from there is where the condition fails
  pub chain_found : found ≡ first_broken g image before (chain_from g image g.blocks first) → found ≡ chain_flaw g image
  unfolding chain_flaw chain
  chain_found is =
      is ∙ ap (λ (met : ℕ → Bool). first_broken g image met (chain_from g image g.blocks first)) (start ∙ fun_ext owned)
      ∙ ap (λ (l : List ℕ). first_broken g image (is_among (walked g image)) (chain_from g image g.blocks l)) (numbers ∙ sym (free_list-read image s head))

  -- the blocks that are met after it are those of the walk and of the chain
  pub all_met : (met : ℕ → Bool) → ((b : ℕ) → met b ≡ with_each before (numbers_of (chain_from g image g.blocks first)) b) → (b : ℕ) → met b ≡ is_among (walked g image ++ chained g image) b
  unfolding chain
  all_met met is b =
      is b ∙ ap (λ (old : ℕ → Bool). with_each old (numbers_of (chain_from g image g.blocks first)) b) (start ∙ fun_ext owned)
      ∙ ap (λ (l : List ℕ). with_each (is_among (walked g image)) (numbers_of (chain_from g image g.blocks l)) b) (numbers ∙ sym (free_list-read image s head))
      ∙ sym (list_any-append (λ n. n == b) (walked g image) (chained g image))
