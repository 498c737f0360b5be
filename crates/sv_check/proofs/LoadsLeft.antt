-- What is left to be put in, in the loops over the numbers of an indirect block and over the addresses of an inode.
use Rattle.std.proofs.Common.{◌≡◌, ◌≢◌, ◌≤◌, ◌<◌, ◌+◌, ◌-◌, ◌*◌, ◌^◌, ◌++◌, [], ◌∙◌, ℕ, zero, suc, Bool, true, List, None, IsSome, ap, sym, subst, if◌then◌else◌, flat_map, nat_le, arith}
use Rattle.std.specs.List.{list_all}
use Rattle.std.specs.FinMap as fmap
use Rattle.sv_form.specs.declared.geometry.Geometry.{Geometry}
use Rattle.sv_form.specs.Image.{block_of}
use Rattle.sv_form.specs.PagePath.{block_numbers}
use Rattle.sv_plain.specs.Front.{address_of}
use Rattle.sv_plain.specs.Fs.{Fs, page_of, with_page_of}
use Rattle.sv_check.specs.Loaded.{is_inside, with_all_reached}
use Rattle.sv_check.specs.Pages.{IsAscending, pages_among}
use Rattle.sv_check.specs.Walk.{Reached, reached_under, first_page, height_of, number_in, filled}
use Rattle.sv_check.proofs.AddressSteps.{under}
use Rattle.sv_check.proofs.LoadSteps.{all-append, all-none, all-indirect, all-page, block-all, inside-first, inside-left, inside-right, inside-rest, stays-all, there-all}
use Rattle.sv_check.proofs.PageOrder.{ascending-raise, next, start, top, under-ascends}
use Rattle.sv_check.proofs.WalkSteps.{below, below_from, below-all, below-page}

-- What is left, put into what stands, gives the whole. It lies in the image, and no page from this one on is there yet.
pub record IsLeft (g : Geometry) (image : List ℕ) (n : ℕ) (whole fs : Fs) (left : List Reached) (from : ℕ) : Type 0 where
  pub there : IsSome (fmap.get fs.nodes n)
  pub block : fs.block ≡ g.block_size
  pub absent : (j : ℕ) → from ≤ j → page_of fs n j ≡ None
  pub inside : list_all (is_inside g) left ≡ true
  pub leads : with_all_reached g image n fs left ≡ whole

module _ (g : Geometry) (image : List ℕ) (n : ℕ) (whole fs : Fs) (left : List Reached) (from : ℕ) (is : IsLeft g image n whole fs left from) where
  pub left_same : (more : List Reached) (later : ℕ) → left ≡ more → from ≤ later → IsLeft g image n whole fs more later
  left_same more later e past = record {
    there = is.there;
    block = is.block;
    absent = λ j high. is.absent j (omega (arith, past, high));
    inside = ap (list_all (is_inside g)) (sym e) ∙ is.inside;
    leads = ap (with_all_reached g image n fs) (sym e) ∙ is.leads;
  }

  pub left_on : (one more : List Reached) (later : ℕ) (new : Fs) → left ≡ one ++ more → IsAscending from (pages_among one) later → from ≤ later → new ≡ with_all_reached g image n fs one
      → IsLeft g image n whole new more later
  left_on one more later new e up past now = record {
    there = subst (λ (s : Fs). IsSome (fmap.get s.nodes n)) (sym now) (there-all g image n fs one is.there);
    block = ap (λ (s : Fs). s.block) now ∙ block-all g image n fs one ∙ is.block;
    absent = λ j high. ap (λ (s : Fs). page_of s n j) now ∙ stays-all g image n j from later high one fs up ∙ is.absent j (omega (arith, past, high));
    inside = inside-right g one more (ap (list_all (is_inside g)) (sym e) ∙ is.inside);
    leads = ap (λ (s : Fs). with_all_reached g image n s more) now ∙ sym (all-append g image n fs one more) ∙ ap (with_all_reached g image n fs) (sym e) ∙ is.leads;
  }

  pub left_end : left ≡ [] → fs ≡ whole
  left_end e = sym (all-none g image n fs) ∙ ap (with_all_reached g image n fs) (sym e) ∙ is.leads

  -- the first part of what is left lies in the image
  pub left_inside : (one more : List Reached) → left ≡ one ++ more → list_all (is_inside g) one ≡ true
  left_inside one more e = inside-left g one more (ap (list_all (is_inside g)) (sym e) ∙ is.inside)

-- the same call at equal things
pub calls_same : (g : Geometry) (img image : List ℕ) (n : ℕ) (fs new : Fs) (given list : List Reached) → img ≡ image → given ≡ list → new ≡ with_all_reached g img n fs given
    → new ≡ with_all_reached g image n fs list
calls_same g img image n fs new given list same is now =
    now ∙ ap (λ (im : List ℕ). with_all_reached g im n fs given) same ∙ ap (with_all_reached g image n fs) is

-- ---- below the numbers of an indirect block

module _ (g : Geometry) (image : List ℕ) (page b : ℕ) where
  pub below_is : (img : List ℕ) (h k number first span : ℕ) → img ≡ image → number ≡ number_in (block_of g image b) k → first ≡ page + k * span → span ≡ block_numbers g ^ h
      → reached_under g img h first number ≡ below g image page b h k
  below_is img h k number first span same is at wide =
      ap (λ (im : List ℕ). reached_under g im h first number) same ∙ ap (reached_under g image h first) is
      ∙ ap (λ (x : ℕ). reached_under g image h x (number_in (block_of g image b) k)) (at ∙ ap (λ (s : ℕ). page + k * s) wide)

  pub below-ascends : (h k : ℕ) → IsAscending (page + k * block_numbers g ^ h) (pages_among (below g image page b h k)) (page + (k + 1) * block_numbers g ^ h)
  below-ascends h k =
      let wide : page + k * block_numbers g ^ h + block_numbers g ^ h ≡ page + (k + 1) * block_numbers g ^ h = grind arith in
      subst (λ (x : ℕ). IsAscending (page + k * block_numbers g ^ h) (pages_among (below g image page b h k)) x) wide
      (under-ascends g image h (page + k * block_numbers g ^ h) (number_in (block_of g image b) k))

  pub below-later : (h k : ℕ) → page + k * block_numbers g ^ h ≤ page + (k + 1) * block_numbers g ^ h
  below-later h k =
      let wide : (k + 1) * block_numbers g ^ h ≡ k * block_numbers g ^ h + block_numbers g ^ h = grind arith in
      omega (arith, wide)

  pub left_first : (n : ℕ) (fs : Fs) (height : ℕ) → height ≢ 0 → IsSome (fmap.get fs.nodes n) → fs.block ≡ g.block_size → ((j : ℕ) → page ≤ j → page_of fs n j ≡ None)
      → list_all (is_inside g) (reached_under g image height page b) ≡ true
      → IsLeft g image n (with_all_reached g image n fs (reached_under g image height page b)) fs (below_from g image page b (height - 1) 0) (page + 0 * block_numbers g ^ (height - 1))
  left_first n fs height above there block absent inside =
      let whole = below-all g image page b height above in
      record {
        there = there;
        block = block;
        absent = λ j high. absent j (omega (arith, high));
        inside = inside-rest g (record { height = height; page = page; block = b }) (below_from g image page b (height - 1) 0) (ap (list_all (is_inside g)) (sym whole) ∙ inside);
        leads = sym (all-indirect g image n fs height page b (below_from g image page b (height - 1) 0) above) ∙ ap (with_all_reached g image n fs) (sym whole);
      }

-- ---- below the addresses of an inode

module _ (g : Geometry) (image inode : List ℕ) where
  pub under_is : (img : List ℕ) (k height page number : ℕ) → img ≡ image → number ≡ address_of inode k → page ≡ first_page g k → height ≡ height_of k
      → reached_under g img height page number ≡ under g image inode k
  under_is img k height page number same is at high =
      ap (λ (im : List ℕ). reached_under g im height page number) same ∙ ap (reached_under g image height page) is
      ∙ ap (λ (x : ℕ). reached_under g image height x (address_of inode k)) at ∙ ap (λ (x : ℕ). reached_under g image x (first_page g k) (address_of inode k)) high

  pub start-is : (k : ℕ) → k < 13 → start g image k ≡ first_page g k
  start-is k below =
      let known : nat_le k 12 ≡ true = grind (arith, below) in
      ap (λ (t : Bool). if t then first_page g k else top g image) known

  pub start-later : (k : ℕ) → k < 13 → start g image k ≤ start g image (k + 1)
  start-later k below =
      let is = start-is k below in
      let past = next g image k below in
      omega (arith, is, past)

  pub address-ascends : (k : ℕ) → k < 13 → IsAscending (start g image k) (pages_among (under g image inode k)) (start g image (k + 1))
  address-ascends k below =
      subst (λ (x : ℕ). IsAscending x (pages_among (under g image inode k)) (start g image (k + 1))) (sym (start-is k below))
      (ascending-raise (first_page g k) (first_page g k + block_numbers g ^ height_of k) (start g image (k + 1)) (pages_among (under g image inode k)) (next g image k below)
      (under-ascends g image (height_of k) (first_page g k) (address_of inode k)))

-- ---- one block

module _ (g : Geometry) (image : List ℕ) (page b : ℕ) where
  -- the block itself lies in the image
  pub first_inside : (height : ℕ) → list_all (is_inside g) (reached_under g image height page b) ≡ true → b < g.blocks
  unfolding Rattle.sv_form.specs.AddressTree.reached_under
  first_inside zero all = inside-first g zero page b [] all
  first_inside (suc h) all =
      inside-first g (suc h) page b (flat_map (λ k. reached_under g image h (page + k * block_numbers g ^ h) (number_in (block_of g image b) k)) (filled g (block_of g image b))) all

  pub one_page : (n : ℕ) (fs new : Fs) (bytes : List ℕ) (height : ℕ) → height ≡ 0 → bytes ≡ block_of g image b → new ≡ with_page_of fs n page bytes
      → new ≡ with_all_reached g image n fs (reached_under g image height page b)
  one_page n fs new bytes height flat is now =
      now ∙ ap (with_page_of fs n page) is ∙ sym (all-page g image n fs page b) ∙ ap (with_all_reached g image n fs) (sym (below-page g image page b height flat))
