-- Which blocks the chain of free blocks has met, number by number and list by list; and the first block that nothing met.
use Rattle.std.proofs.Common.{◌≡◌, ◌≢◌, ◌≤◌, ◌<◌, ◌+◌, ◌-◌, ◌++◌, ◌∷◌, [], ◌==◌, ◌||◌, ◌∙◌, ℕ, Bool, not, true, false, List, Option, Some, None, ap, sym, refl, cond, map, find, drop, length, slice_index, arith}
use Rattle.std.specs.List.{range_with_len}
use Rattle.std.proofs.Math.Path.{fun_ext}
use Rattle.std.proofs.Math.ListN.{drop_of_length-le}
use Rattle.std.proofs.lemmas.List.Concat.{flat_map-append}
use Rattle.std.proofs.lemmas.List.Folds.{list_any-append}
use Rattle.sv_form.specs.declared.geometry.Geometry.{Geometry}
use Rattle.sv_form.specs.Image.{block_of}
use Rattle.sv_check.specs.Chain.{Chained, number, chained_number, list_in, chain_from, chained, walked, lost_flaw}
use Rattle.sv_check.specs.ChainSteps.{met_of_list, numbers_of, with_each}
use Rattle.sv_check.specs.Walk.{is_among, with_met}
use Rattle.sv_check.proofs.ChainWalk.{drop-at, list-none, list-some, behind, behind-none, behind-some, chain-turn, chain-end}
use Rattle.sv_check.proofs.WalkSteps.{range_from}
use Rattle.sv_check.proofs.WholeWalk.{met_two, or_false_after, or_or}

-- ---- the numbers of one list

module _ (before now : ℕ → Bool) (numbers : List ℕ) (i : ℕ) where
  pub each_one : (next : ℕ → Bool) → i < length numbers → next ≡ with_met now (slice_index numbers i)
      → ((b : ℕ) → with_each now (drop i numbers) b ≡ with_each before numbers b) → (b : ℕ) → with_each next (drop (i + 1) numbers) b ≡ with_each before numbers b
  each_one next inside e was b =
      ap (λ (met : ℕ → Bool). with_each met (drop (i + 1) numbers) b) e ∙ met_two (slice_index numbers i) b (now b) (is_among (drop (i + 1) numbers) b)
      ∙ ap (λ (l : List ℕ). with_each now l b) (sym (drop-at numbers i inside)) ∙ was b

  pub each_end : length numbers ≤ i → ((b : ℕ) → with_each now (drop i numbers) b ≡ with_each before numbers b) → (b : ℕ) → now b ≡ with_each before numbers b
  each_end over was b = sym (or_false_after (now b)) ∙ ap (λ (l : List ℕ). with_each now l b) (sym (drop_of_length-le numbers {i = i} over)) ∙ was b

pub numbers_of-map : (numbers : List ℕ) → numbers_of (map number numbers) ≡ numbers
numbers_of-map [] = refl
numbers_of-map (x ∷ xs) = ap (λ (l : List ℕ). x ∷ l) (numbers_of-map xs)

-- ---- a list and its link

module _ (before now : ℕ → Bool) (numbers : List ℕ) where
  pub listed_none : slice_index numbers 0 ≡ 0 → ((b : ℕ) → now b ≡ with_each before (drop 1 numbers) b) → (b : ℕ) → now b ≡ with_each before (numbers_of (met_of_list numbers)) b
  listed_none none was b = was b ∙ ap (λ (l : List ℕ). with_each before l b) (sym (numbers_of-map (drop 1 numbers)) ∙ ap numbers_of (list-none numbers none))

  pub listed_some : slice_index numbers 0 ≢ 0 → ((b : ℕ) → now b ≡ with_each before numbers b) → (b : ℕ) → now b ≡ with_each before (numbers_of (met_of_list numbers)) b
  listed_some some was b = was b ∙ ap (λ (l : List ℕ). with_each before l b) (sym (numbers_of-map numbers) ∙ ap numbers_of (list-some numbers some))

-- ---- the whole chain

-- with the chain from the present list on, the blocks that are met are those of before and of the whole chain
pub record Gathers (g : Geometry) (image : List ℕ) (before : ℕ → Bool) (whole : List Chained) (now : ℕ → Bool) (k : ℕ) (numbers : List ℕ) : Type 0 where
  pub same : (b : ℕ) → with_each now (numbers_of (chain_from g image (g.blocks - k) numbers)) b ≡ with_each before (numbers_of whole) b

with_both : (met : ℕ → Bool) (xs ys : List ℕ) (b : ℕ) → with_each met (xs ++ ys) b ≡ with_each (with_each met xs) ys b
with_both met xs ys b = ap (λ (t : Bool). met b || t) (list_any-append (λ n. n == b) xs ys) ∙ sym (or_or (met b) (is_among xs b) (is_among ys b))

module _ (g : Geometry) (image : List ℕ) (before now next : ℕ → Bool) (whole : List Chained) (k : ℕ) (numbers : List ℕ) (below : k < g.blocks) (was : Gathers g image before whole now k numbers)
    (met : (b : ℕ) → next b ≡ with_each now (numbers_of (met_of_list numbers)) b) where
  turn : (b : ℕ) → with_each next (numbers_of (behind g image (g.blocks - (k + 1)) numbers)) b ≡ with_each before (numbers_of whole) b
  turn b =
      let more : List Chained = behind g image (g.blocks - (k + 1)) numbers in
      ap (λ (t : Bool). t || is_among (numbers_of more) b) (met b) ∙ sym (with_both now (numbers_of (met_of_list numbers)) (numbers_of more) b)
      ∙ ap (λ (l : List ℕ). with_each now l b) (sym (flat_map-append chained_number (met_of_list numbers) more))
      ∙ ap (λ (l : List Chained). with_each now (numbers_of l) b) (sym (chain-turn g image g.blocks k numbers below)) ∙ was.same b

  pub gathers_none : slice_index numbers 0 ≡ 0 → (b : ℕ) → next b ≡ with_each before (numbers_of whole) b
  gathers_none e b =
      sym (or_false_after (next b)) ∙ ap (λ (l : List Chained). with_each next (numbers_of l) b) (sym (behind-none g image (g.blocks - (k + 1)) numbers e)) ∙ turn b

  pub gathers_on : (b : ℕ) (more : List ℕ) → slice_index numbers 0 ≢ 0 → b ≡ slice_index numbers 0 → more ≡ list_in (block_of g image b) → Gathers g image before whole next (k + 1) more
  gathers_on b more some e is =
      let rest : more ≡ list_in (block_of g image (slice_index numbers 0)) = is ∙ ap (λ (x : ℕ). list_in (block_of g image x)) e in
      record {
        same = λ x.
            ap (λ (l : List ℕ). with_each next (numbers_of (chain_from g image (g.blocks - (k + 1)) l)) x) rest
            ∙ ap (λ (l : List Chained). with_each next (numbers_of l) x) (sym (behind-some g image (g.blocks - (k + 1)) numbers some)) ∙ turn x;
      }

pub gathers_end : (g : Geometry) (image : List ℕ) (before now : ℕ → Bool) (whole : List Chained) (k : ℕ) (numbers : List ℕ) → g.blocks ≤ k → Gathers g image before whole now k numbers
    → (b : ℕ) → now b ≡ with_each before (numbers_of whole) b
gathers_end g image before now whole k numbers over was b =
    sym (or_false_after (now b)) ∙ ap (λ (l : List Chained). with_each now (numbers_of l) b) (sym (chain-end g image g.blocks k numbers over)) ∙ was.same b

pub gathers_first : (g : Geometry) (image : List ℕ) (before : ℕ → Bool) (numbers : List ℕ) → Gathers g image before (chain_from g image g.blocks numbers) before 0 numbers
gathers_first g image before numbers =
    let all : g.blocks - 0 ≡ g.blocks = omega arith in
    record { same = λ b. ap (λ (n : ℕ). with_each before (numbers_of (chain_from g image n numbers)) b) all }

-- ---- the first block that nothing met

pub find-step : (p : ℕ → Bool) (m k : ℕ) → k < m → p k ≡ false → find p (range_with_len k (m - k)) ≡ find p (range_with_len (k + 1) (m - (k + 1)))
find-step p m k below not_so = ap (find p) (range_from m k below) ∙ ap (λ (t : Bool). cond t (Some k) (find p (range_with_len (k + 1) (m - (k + 1))))) not_so

pub find-here : (p : ℕ → Bool) (m k : ℕ) → k < m → p k ≡ true → find p (range_with_len k (m - k)) ≡ Some k
find-here p m k below so = ap (find p) (range_from m k below) ∙ ap (λ (t : Bool). cond t (Some k) (find p (range_with_len (k + 1) (m - (k + 1))))) so

pub find-end : (p : ℕ → Bool) (m k : ℕ) → m ≤ k → find p (range_with_len k (m - k)) ≡ None
find-end p m k over =
    let none : m - k ≡ 0 = omega (arith, over) in
    ap (λ (n : ℕ). find p (range_with_len k n)) none

pub lost_found : (g : Geometry) (image : List ℕ) (found : Option ℕ) (met : ℕ → Bool) → found ≡ find (λ b. not (met b)) (range_with_len g.first_data (g.blocks - g.first_data))
    → ((b : ℕ) → met b ≡ is_among (walked g image ++ chained g image) b) → found ≡ lost_flaw g image
unfolding lost_flaw
lost_found g image found met is all = is ∙ ap (λ (m : ℕ → Bool). find (λ b. not (m b)) (range_with_len g.first_data (g.blocks - g.first_data))) (fun_ext all)
