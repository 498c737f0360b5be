-- The chain of free blocks, number by number and list by list.
use Rattle.std.proofs.Common.{◌≡◌, ◌≢◌, ◌≤◌, ◌<◌, ◌+◌, ◌-◌, ◌++◌, ◌∷◌, [], ◌==◌, ◌||◌, ◌&&◌, ◌∙◌, ℕ, suc, Bool, not, true, false, List, Some, None, ap, sym, refl, subst, cond, map, flat_map, drop, length, set, get_or, slice_index, slice_set, arith}
use Rattle.std.specs.List.{range_with_len, list_all}
use Rattle.std.specs.Bool.{OnTrue}
use Rattle.std.proofs.Math.Path.{fun_ext}
use Rattle.std.proofs.Math.ListN.{drop_of_length-le}
use Rattle.std.proofs.Math.Seq.{drop-cons}
use Rattle.std.proofs.lemmas.List.{append-nil}
use Rattle.std.proofs.lemmas.Grind.{common_steps}
use Rattle.sv_form.specs.declared.geometry.Geometry.{Geometry}
use Rattle.sv_form.specs.Image.{block_of}
use Rattle.sv_check.specs.Chain.{Chained, number, list, link_of, list_in, reads_list, chain_from, first_broken}
use Rattle.sv_check.specs.ChainSteps.{Follows, met_in, met_of_list}
use Rattle.sv_check.specs.Walk.{is_new, with_met}
use Rattle.sv_check.proofs.WalkSteps.{range_from}

-- ---- a test of all numbers from one on

pub all-step : (p : ℕ → Bool) (m k : ℕ) → k < m → p k ≡ true → list_all p (range_with_len k (m - k)) ≡ list_all p (range_with_len (k + 1) (m - (k + 1)))
all-step p m k below passes = ap (list_all p) (range_from m k below) ∙ ap (λ (t : Bool). t && list_all p (range_with_len (k + 1) (m - (k + 1)))) passes

pub all-stop : (p : ℕ → Bool) (m k : ℕ) → k < m → p k ≡ false → list_all p (range_with_len k (m - k)) ≡ false
all-stop p m k below not_so = ap (list_all p) (range_from m k below) ∙ ap (λ (t : Bool). t && list_all p (range_with_len (k + 1) (m - (k + 1)))) not_so

pub all-end : (p : ℕ → Bool) (m k : ℕ) → m ≤ k → list_all p (range_with_len k (m - k)) ≡ true
all-end p m k over =
    let none : m - k ≡ 0 = omega (arith, over) in
    ap (λ (n : ℕ). list_all p (range_with_len k n)) none

-- ---- the flags of the blocks that were met

set_at : (met : List Bool) (b x : ℕ) → b < length met → (t : Bool) → (x == b) ≡ t → get_or (set met b true) x false ≡ (t || get_or met x false)
set_at met b x inside true is = grind (arith, common_steps, is)
set_at met b x inside false is = grind (arith, common_steps, is)

pub met_set : (met new : List Bool) (b : ℕ) → b < length met → new ≡ slice_set met b true → met_in new ≡ with_met (met_in met) b
met_set met new b inside e = ap met_in e ∙ fun_ext (λ x. set_at met b x inside (x == b) refl)

module _ (g : Geometry) (image : List ℕ) where
  pub meets_new : (before now : ℕ → Bool) (b : ℕ) (rest : List Chained) → is_new g before b ≡ true → now ≡ with_met before b
      → first_broken g image before (number b ∷ rest) ≡ first_broken g image now rest
  unfolding first_broken
  meets_new before now b rest new e =
      ap (λ (t : Bool). cond t (first_broken g image (with_met before b) rest) (Some b)) new ∙ ap (λ (met : ℕ → Bool). first_broken g image met rest) (sym e)

  pub meets_bad : (before : ℕ → Bool) (b : ℕ) (rest : List Chained) → is_new g before b ≡ false → first_broken g image before (number b ∷ rest) ≡ Some b
  unfolding first_broken
  meets_bad before b rest old = ap (λ (t : Bool). cond t (first_broken g image (with_met before b) rest) (Some b)) old

  pub reads_on : (now : ℕ → Bool) (b : ℕ) (rest : List Chained) → reads_list (block_of g image b) ≡ true → first_broken g image now (list b ∷ rest) ≡ first_broken g image now rest
  unfolding first_broken
  reads_on now b rest reads = ap (λ (t : Bool). cond t (first_broken g image now rest) (Some b)) reads

  pub reads_not : (now : ℕ → Bool) (b : ℕ) (rest : List Chained) → reads_list (block_of g image b) ≡ false → first_broken g image now (list b ∷ rest) ≡ Some b
  unfolding first_broken
  reads_not now b rest reads = ap (λ (t : Bool). cond t (first_broken g image now rest) (Some b)) reads

  pub nothing_left : (now : ℕ → Bool) → first_broken g image now [] ≡ None
  unfolding first_broken
  nothing_left now = refl

  -- ---- the numbers of one list

  pub record Meets (before : ℕ → Bool) (numbers : List ℕ) (now : ℕ → Bool) (left : List ℕ) : Type 0 where
    pub same : (rest : List Chained) → first_broken g image before (map number numbers ++ rest) ≡ first_broken g image now (map number left ++ rest)

-- number i, and those after it
pub drop-at : (numbers : List ℕ) (i : ℕ) → i < length numbers → drop i numbers ≡ slice_index numbers i ∷ drop (i + 1) numbers
drop-at numbers i inside =
    let next : suc i ≡ i + 1 = omega arith in
    drop-cons numbers i 0 inside ∙ ap (λ (j : ℕ). get_or numbers i 0 ∷ drop j numbers) next

module _ (g : Geometry) (image : List ℕ) (before now : ℕ → Bool) (numbers : List ℕ) (i : ℕ) where
  pub meets_one : (next : ℕ → Bool) → i < length numbers → is_new g now (slice_index numbers i) ≡ true → next ≡ with_met now (slice_index numbers i)
      → Meets g image before numbers now (drop i numbers) → Meets g image before numbers next (drop (i + 1) numbers)
  meets_one next inside new e was = record {
    same = λ rest. was.same rest ∙ ap (λ (l : List ℕ). first_broken g image now (map number l ++ rest)) (drop-at numbers i inside)
        ∙ meets_new g image now next (slice_index numbers i) (map number (drop (i + 1) numbers) ++ rest) new e;
  }

  pub meets_stop : (b : ℕ) → i < length numbers → is_new g now (slice_index numbers i) ≡ false → slice_index numbers i ≡ b → Meets g image before numbers now (drop i numbers)
      → (rest : List Chained) → first_broken g image before (map number numbers ++ rest) ≡ Some b
  meets_stop b inside old is was rest =
      was.same rest ∙ ap (λ (l : List ℕ). first_broken g image now (map number l ++ rest)) (drop-at numbers i inside)
      ∙ meets_bad g image now (slice_index numbers i) (map number (drop (i + 1) numbers) ++ rest) old ∙ ap (λ (x : ℕ). Some x) is

  pub meets_end : length numbers ≤ i → Meets g image before numbers now (drop i numbers) → (rest : List Chained)
      → first_broken g image before (map number numbers ++ rest) ≡ first_broken g image now rest
  meets_end over was rest = was.same rest ∙ ap (λ (l : List ℕ). first_broken g image now (map number l ++ rest)) (drop_of_length-le numbers {i = i} over)

-- ---- a list and its link

pub link-none : (numbers : List ℕ) → slice_index numbers 0 ≡ 0 → link_of numbers ≡ []
link-none [] e = refl
link-none (x ∷ xs) e = ap (λ (y : ℕ). cond (not (y == 0)) (x ∷ []) []) e

pub link-some : (numbers : List ℕ) → slice_index numbers 0 ≢ 0 → link_of numbers ≡ slice_index numbers 0 ∷ []
link-some [] some = absurd (some refl)
link-some (x ∷ xs) some =
    let test : not (x == 0) ≡ true = grind (arith, some) in
    ap (λ (t : Bool). cond t (x ∷ []) []) test

pub list-none : (numbers : List ℕ) → slice_index numbers 0 ≡ 0 → map number (drop 1 numbers) ≡ met_of_list numbers
list-none numbers e = ap (λ (l : List ℕ). map number (l ++ drop 1 numbers)) (sym (link-none numbers e))

pub list-some : (numbers : List ℕ) → slice_index numbers 0 ≢ 0 → map number numbers ≡ met_of_list numbers
list-some [] some = absurd (some refl)
list-some (x ∷ xs) some = ap (λ (l : List ℕ). map number (l ++ xs)) (sym (link-some (x ∷ xs) some))

pub follows_same : (g : Geometry) (image : List ℕ) (before now : ℕ → Bool) (xs ys : List Chained) (ok : Bool) (bad : ℕ) → xs ≡ ys → Follows g image before xs ok bad now → Follows g image before ys ok bad now
follows_same g image before now xs ys ok bad e f = subst (λ (l : List Chained). Follows g image before l ok bad now) e f

module _ (g : Geometry) (image : List ℕ) where
  -- what the chain meets after a list
  abbrev pub behind : ℕ → List ℕ → List Chained
  behind n numbers = flat_map (λ b. list b ∷ chain_from g image n (list_in (block_of g image b))) (link_of numbers)

  pub chain-turn : (m k : ℕ) (numbers : List ℕ) → k < m → chain_from g image (m - k) numbers ≡ met_of_list numbers ++ behind (m - (k + 1)) numbers
  unfolding chain_from
  chain-turn m k numbers below =
      let more : m - k ≡ suc (m - (k + 1)) = omega (arith, below) in
      ap (λ (n : ℕ). chain_from g image n numbers) more

  pub chain-end : (m k : ℕ) (numbers : List ℕ) → m ≤ k → chain_from g image (m - k) numbers ≡ []
  unfolding chain_from
  chain-end m k numbers over =
      let none : m - k ≡ 0 = omega (arith, over) in
      ap (λ (n : ℕ). chain_from g image n numbers) none

  pub behind-none : (n : ℕ) (numbers : List ℕ) → slice_index numbers 0 ≡ 0 → behind n numbers ≡ []
  behind-none n numbers e = ap (flat_map (λ b. list b ∷ chain_from g image n (list_in (block_of g image b)))) (link-none numbers e)

  pub behind-some : (n : ℕ) (numbers : List ℕ) → slice_index numbers 0 ≢ 0
      → behind n numbers ≡ list (slice_index numbers 0) ∷ chain_from g image n (list_in (block_of g image (slice_index numbers 0)))
  behind-some n numbers some =
      ap (flat_map (λ b. list b ∷ chain_from g image n (list_in (block_of g image b)))) (link-some numbers some)
      ∙ append-nil (list (slice_index numbers 0) ∷ chain_from g image n (list_in (block_of g image (slice_index numbers 0))))

-- the chain from the present list on tells what the whole chain tells
pub record Leads (g : Geometry) (image : List ℕ) (before : ℕ → Bool) (whole : List Chained) (now : ℕ → Bool) (k : ℕ) (numbers : List ℕ) : Type 0 where
  pub same : first_broken g image before whole ≡ first_broken g image now (chain_from g image (g.blocks - k) numbers)

module _ (g : Geometry) (image : List ℕ) (before now next : ℕ → Bool) (whole : List Chained) (k : ℕ) (numbers : List ℕ) (below : k < g.blocks) (was : Leads g image before whole now k numbers) where
  turn : first_broken g image before whole ≡ first_broken g image now (met_of_list numbers ++ behind g image (g.blocks - (k + 1)) numbers)
  turn = was.same ∙ ap (first_broken g image now) (chain-turn g image g.blocks k numbers below)

  pub leads_bad : (bad : ℕ) → Follows g image now (met_of_list numbers) false bad next → Some bad ≡ first_broken g image before whole
  leads_bad bad follows = sym (turn ∙ follows (behind g image (g.blocks - (k + 1)) numbers))

  module _ (went_to : ℕ) (follows : Follows g image now (met_of_list numbers) true went_to next) where
    pub leads_none : slice_index numbers 0 ≡ 0 → None ≡ first_broken g image before whole
    leads_none e =
        sym (turn ∙ follows (behind g image (g.blocks - (k + 1)) numbers) ∙ ap (first_broken g image next) (behind-none g image (g.blocks - (k + 1)) numbers e) ∙ nothing_left g image next)

    to_list : slice_index numbers 0 ≢ 0 → first_broken g image before whole
        ≡ first_broken g image next (list (slice_index numbers 0) ∷ chain_from g image (g.blocks - (k + 1)) (list_in (block_of g image (slice_index numbers 0))))
    to_list some = turn ∙ follows (behind g image (g.blocks - (k + 1)) numbers) ∙ ap (first_broken g image next) (behind-some g image (g.blocks - (k + 1)) numbers some)

    pub leads_unread : (b : ℕ) → slice_index numbers 0 ≢ 0 → b ≡ slice_index numbers 0 → reads_list (block_of g image b) ≡ false → Some b ≡ first_broken g image before whole
    leads_unread b some e unread =
        let here : reads_list (block_of g image (slice_index numbers 0)) ≡ false = subst (λ (x : ℕ). reads_list (block_of g image x) ≡ false) e unread in
        ap (λ (x : ℕ). Some x) e ∙ sym (to_list some ∙ reads_not g image next _ _ here)

    pub leads_on : (b : ℕ) (more : List ℕ) → slice_index numbers 0 ≢ 0 → b ≡ slice_index numbers 0 → reads_list (block_of g image b) ≡ true → more ≡ list_in (block_of g image b)
        → Leads g image before whole next (k + 1) more
    leads_on b more some e reads is =
        let here : reads_list (block_of g image (slice_index numbers 0)) ≡ true = subst (λ (x : ℕ). reads_list (block_of g image x) ≡ true) e reads in
        let rest : list_in (block_of g image (slice_index numbers 0)) ≡ more = ap (λ (x : ℕ). list_in (block_of g image x)) (sym e) ∙ sym is in
        record { same = to_list some ∙ reads_on g image next _ _ here ∙ ap (λ (l : List ℕ). first_broken g image next (chain_from g image (g.blocks - (k + 1)) l)) rest }

pub leads_end : (g : Geometry) (image : List ℕ) (before now : ℕ → Bool) (whole : List Chained) (k : ℕ) (numbers : List ℕ) → g.blocks ≤ k → Leads g image before whole now k numbers
    → None ≡ first_broken g image before whole
leads_end g image before now whole k numbers over was =
    sym (was.same ∙ ap (first_broken g image now) (chain-end g image g.blocks k numbers over) ∙ nothing_left g image now)

pub leads_first : (g : Geometry) (image : List ℕ) (before : ℕ → Bool) (numbers : List ℕ) → Leads g image before (chain_from g image g.blocks numbers) before 0 numbers
leads_first g image before numbers =
    let all : g.blocks ≡ g.blocks - 0 = omega arith in
    record { same = ap (λ (n : ℕ). first_broken g image before (chain_from g image n numbers)) all }

pub some_number : (numbers : List ℕ) → slice_index numbers 0 ≢ 0 → 0 < length numbers
some_number [] some = absurd (some refl)
some_number (x ∷ xs) some = omega arith

pub on_weaker : {P Q : Type 0} (t : Bool) → (P → Q) → OnTrue t P → OnTrue t Q
on_weaker true f p = f p
on_weaker false f p = p
