-- The chain of free blocks of an image made anew: each of its numbers is a new data block, each link block reads, and the
-- root's page and the chain are all data blocks.
use Rattle.std.proofs.Common.{◌≡◌, ◌≢◌, ◌≤◌, ◌<◌, ◌+◌, ◌-◌, ◌*◌, ◌/◌, ◌%◌, ◌==◌, ◌&&◌, ◌||◌, ◌++◌, ◌∙◌, ℕ, zero, suc, Bool, true, false, not, List, [], ◌∷◌, Some, None, cond, map, find, nat_le, nat_lt, refl, inl, inr, sym, ap, arith}
use Rattle.std.specs.List.{range_with_len}
use Rattle.std.proofs.Math.Path.{fun_ext}
use Rattle.std.proofs.lemmas.Bool.{cases_eq, cases_lt, cond-true, cond-false, eq-eqb}
use Rattle.std.proofs.lemmas.Bool.Decides.{nat_tests}
use Rattle.std.proofs.lemmas.List.Concat.{flat_map-append}
use Rattle.std.proofs.lemmas.List.Folds.{list_any-append}
use Rattle.sv_form.specs.declared.geometry.Geometry.{Geometry}
use Rattle.sv_form.specs.Image.{block_of}
use Rattle.sv_check.specs.Chain.{Chained, number, list, chained_number, chain_from, chain, chain_flaw, chained, first_broken, free_list, list_in, lost_flaw, walked}
use Rattle.sv_check.specs.ChainSteps.{met_of_list, numbers_of}
use Rattle.sv_check.specs.Mkfs as mkfs
use Rattle.sv_check.specs.Walk.{is_among, is_new, with_met}
use Rattle.sv_check.proofs.ChainMet.{numbers_of-map}
use Rattle.sv_check.proofs.ChainWalk.{behind, behind-none, behind-some, list-none, list-some, meets_new, nothing_left, reads_on}
use Rattle.sv_check.proofs.MadeLists.{HasList}

-- ---- what was met: the blocks from the first up to one, and those from another up to a third

abbrev pub below : ℕ → ℕ → ℕ → Bool
below f lo c = nat_le f c && nat_lt c lo

abbrev pub met_up : ℕ → ℕ → ℕ → ℕ → ℕ → Bool
met_up f lo hi top c = below f lo c || (nat_le hi c && nat_lt c top)

nothing_more : (f lo hi : ℕ) → below f lo ≡ met_up f lo hi hi
nothing_more f lo hi = fun_ext (λ c. grind (nat_tests, arith))

all_met : (f lo top : ℕ) → f ≤ lo → lo ≤ top → met_up f lo lo top ≡ below f top
all_met f lo top low high = fun_ext (λ c. grind (nat_tests, arith, low, high))

one_more : (f lo k top c : ℕ) → f ≤ lo → lo + k + 1 ≤ top → met_up f lo (lo + k) top c ≡ with_met (met_up f lo (lo + suc k) top) (lo + k) c
one_more f lo k top c first high = grind (nat_tests, arith, first, high)

link_met : (f lo upto c : ℕ) → met_up f lo upto (upto + 1) c ≡ with_met (below f lo) upto c
link_met f lo upto c = grind (nat_tests, arith)

is_next : (g : Geometry) (lo k top : ℕ) → g.first_data ≤ lo → lo + k + 1 ≤ top → top ≤ g.blocks → is_new g (met_up g.first_data lo (lo + suc k) top) (lo + k) ≡ true
is_next g lo k top first high last = grind (nat_tests, arith, first, high, last)

is_link : (g : Geometry) (from upto : ℕ) → g.first_data ≤ from → from ≤ upto → upto < g.blocks → is_new g (below g.first_data from) upto ≡ true
is_link g from upto first low high = grind (nat_tests, arith, first, low, high)

-- ---- the lists

abbrev rest_of : ℕ → ℕ → List ℕ
rest_of from upto = mkfs.down_to from (upto - from)

last_list : (blocks from upto : ℕ) → upto ≡ blocks → mkfs.free_list blocks from upto ≡ 0 ∷ rest_of from upto
last_list blocks from upto is = ap (λ (x : ℕ). x ∷ rest_of from upto) (cond-true _ _ _ (eq-eqb upto blocks is))

linked_list : (blocks from upto : ℕ) → upto < blocks → mkfs.free_list blocks from upto ≡ upto ∷ rest_of from upto
linked_list blocks from upto low =
    let other : (upto == blocks) ≡ false = grind (nat_tests, arith, low) in
    ap (λ (x : ℕ). x ∷ rest_of from upto) (cond-false _ _ _ other)

later : (s t : Bool) → t ≡ true → (s || t) ≡ true
later true t is = refl
later false t is = is

module _ (g : Geometry) (image : List ℕ) where
  turn : (n : ℕ) (numbers : List ℕ) → chain_from g image (suc n) numbers ≡ met_of_list numbers ++ behind g image n numbers
  unfolding chain_from
  turn n numbers = refl

  -- a list without a link
  ends : (n : ℕ) (xs : List ℕ) → chain_from g image (suc n) (0 ∷ xs) ≡ map number xs ++ []
  ends n xs = turn n (0 ∷ xs) ∙ (ap (λ (q : List Chained). q ++ behind g image n (0 ∷ xs)) (sym (list-none (0 ∷ xs) refl)) ∙ ap (λ (q : List Chained). map number xs ++ q) (behind-none g image n (0 ∷ xs) refl))

  -- a list with one
  goes_on : (n upto : ℕ) (xs : List ℕ) → upto ≢ 0 → chain_from g image (suc n) (upto ∷ xs) ≡ map number (upto ∷ xs) ++ (list upto ∷ chain_from g image n (list_in (block_of g image upto)))
  goes_on n upto xs some =
      turn n (upto ∷ xs)
      ∙ (ap (λ (q : List Chained). q ++ behind g image n (upto ∷ xs)) (sym (list-some (upto ∷ xs) some)) ∙ ap (λ (q : List Chained). map number (upto ∷ xs) ++ q) (behind-some g image n (upto ∷ xs) some))

  -- ---- condition 10

  down_met : (lo k top : ℕ) (rest : List Chained) → g.first_data ≤ lo → lo + k ≤ top → top ≤ g.blocks
      → first_broken g image (met_up g.first_data lo (lo + k) top) (map number (mkfs.down_to lo k) ++ rest) ≡ first_broken g image (met_up g.first_data lo lo top) rest
  down_met lo zero top rest first high last = let same : lo + 0 ≡ lo = omega arith in ap (λ (x : ℕ). first_broken g image (met_up g.first_data lo x top) rest) same
  down_met lo (suc k) top rest first high last =
      meets_new g image (met_up g.first_data lo (lo + suc k) top) (met_up g.first_data lo (lo + k) top) (lo + k) (map number (mkfs.down_to lo k) ++ rest) (is_next g lo k top first (omega (arith, high)) last)
      (fun_ext (λ c. one_more g.first_data lo k top c first (omega (arith, high))))
      ∙ down_met lo k top rest first (omega (arith, high)) last

  -- the numbers of a list below a block, where those before it were met and those up to another
  rest_met : (from upto top : ℕ) (rest : List Chained) → g.first_data ≤ from → from ≤ upto → upto ≤ top → top ≤ g.blocks
      → first_broken g image (met_up g.first_data from upto top) (map number (rest_of from upto) ++ rest) ≡ first_broken g image (below g.first_data top) rest
  rest_met from upto top rest first low high last =
      let same : upto ≡ from + (upto - from) = omega (arith, low) in
      ap (λ (x : ℕ). first_broken g image (met_up g.first_data from x top) (map number (rest_of from upto) ++ rest)) same
      ∙ (down_met from (upto - from) top rest first (omega (arith, low, high)) last ∙ ap (λ (met : ℕ → Bool). first_broken g image met rest) (all_met g.first_data from top first (omega (arith, low, high))))

  module _ (first : 3 ≤ g.first_data) (lists : (b : ℕ) → g.first_data < b → b < g.blocks → (g.blocks - b) % 50 ≡ 0 → HasList g image b) where
    pub unbroken : (q n from upto : ℕ) → upto + 50 * q ≡ g.blocks → q < n → g.first_data < from → from ≤ upto
        → first_broken g image (below g.first_data from) (chain_from g image n (mkfs.free_list g.blocks from upto)) ≡ None
    unbroken q zero from upto end fuel start low = absurd (omega (arith, fuel))
    unbroken zero (suc n) from upto end fuel start low =
        ap (λ (l : List ℕ). first_broken g image (below g.first_data from) (chain_from g image (suc n) l)) (last_list g.blocks from upto (omega (arith, end)))
        ∙ (ap (λ (l : List Chained). first_broken g image (below g.first_data from) l) (ends n (rest_of from upto))
        ∙ (ap (λ (met : ℕ → Bool). first_broken g image met (map number (rest_of from upto) ++ [])) (nothing_more g.first_data from upto)
        ∙ (rest_met from upto upto [] (omega (arith, start)) low (omega arith) (omega (arith, end)) ∙ nothing_left g image (below g.first_data upto))))
    unbroken (suc q) (suc n) from upto end fuel start low =
        let here : HasList g image upto = lists upto (omega (arith, start, low)) (omega (arith, end)) (omega (arith, end)) in
        let more : List Chained = list upto ∷ chain_from g image n (list_in (block_of g image upto)) in
        ap (λ (l : List ℕ). first_broken g image (below g.first_data from) (chain_from g image (suc n) l)) (linked_list g.blocks from upto (omega (arith, end)))
        ∙ (ap (λ (l : List Chained). first_broken g image (below g.first_data from) l) (goes_on n upto (rest_of from upto) (omega (arith, start, low)))
        ∙ (meets_new g image (below g.first_data from) (met_up g.first_data from upto (upto + 1)) upto (map number (rest_of from upto) ++ more) (is_link g from upto (omega (arith, start)) low (omega (arith, end)))
        (fun_ext (λ c. link_met g.first_data from upto c))
        ∙ (rest_met from upto (upto + 1) more (omega (arith, start)) low (omega arith) (omega (arith, end))
        ∙ (reads_on g image (below g.first_data (upto + 1)) upto (chain_from g image n (list_in (block_of g image upto))) here.reads
        ∙ (ap (λ (l : List ℕ). first_broken g image (below g.first_data (upto + 1)) (chain_from g image n l)) here.list
        ∙ unbroken q n (upto + 1) (upto + 50) (omega (arith, end)) (omega (arith, fuel)) (omega (arith, start, low)) (omega arith))))))

    -- ---- condition 11

    is_down : (lo k b : ℕ) → lo ≤ b → b < lo + k → is_among (mkfs.down_to lo k) b ≡ true
    is_down lo zero b low high = absurd (omega (arith, low, high))
    is_down lo (suc k) b low high =
        elim (cases_eq (lo + k) b) as (λ _. is_among (mkfs.down_to lo (suc k)) b ≡ true) [
          | inl is ↦ ap (λ (t : Bool). t || is_among (mkfs.down_to lo k) b) (eq-eqb (lo + k) b is)
          | inr other ↦ later (lo + k == b) (is_among (mkfs.down_to lo k) b) (is_down lo k b low (omega (arith, high, other)))
        ]

    among_both : (xs ys : List ℕ) (b : ℕ) → is_among (xs ++ ys) b ≡ (is_among xs b || is_among ys b)
    among_both xs ys b = list_any-append (λ n. n == b) xs ys

    numbers_both : (xs : List ℕ) (ys : List Chained) → numbers_of (map number xs ++ ys) ≡ xs ++ numbers_of ys
    numbers_both xs ys = flat_map-append chained_number (map number xs) ys ∙ ap (λ (q : List ℕ). q ++ numbers_of ys) (numbers_of-map xs)

    earlier : (s t : Bool) → s ≡ true → (s || t) ≡ true
    earlier s t is = ap (λ (x : Bool). x || t) is

    in_rest : (from upto b : ℕ) → from ≤ b → b < upto → is_among (rest_of from upto) b ≡ true
    in_rest from upto b low high = is_down from (upto - from) b low (omega (arith, low, high))

    pub reached : (q n from upto b : ℕ) → upto + 50 * q ≡ g.blocks → q < n → g.first_data < from → from ≤ upto → from ≤ b → b < g.blocks
        → is_among (numbers_of (chain_from g image n (mkfs.free_list g.blocks from upto))) b ≡ true
    reached q zero from upto b end fuel start low least most = absurd (omega (arith, fuel))
    reached zero (suc n) from upto b end fuel start low least most =
        let all : numbers_of (chain_from g image (suc n) (mkfs.free_list g.blocks from upto)) ≡ rest_of from upto ++ [] =
        ap (λ (l : List ℕ). numbers_of (chain_from g image (suc n) l)) (last_list g.blocks from upto (omega (arith, end))) ∙ (ap numbers_of (ends n (rest_of from upto)) ∙ numbers_both (rest_of from upto) []) in
        ap (λ (l : List ℕ). is_among l b) all
        ∙ (among_both (rest_of from upto) [] b ∙ earlier (is_among (rest_of from upto) b) false (in_rest from upto b least (omega (arith, end, most))))
    reached (suc q) (suc n) from upto b end fuel start low least most =
        let here : HasList g image upto = lists upto (omega (arith, start, low)) (omega (arith, end)) (omega (arith, end)) in
        let more : List Chained = list upto ∷ chain_from g image n (list_in (block_of g image upto)) in
        let numbers : List ℕ = upto ∷ rest_of from upto in
        let all : numbers_of (chain_from g image (suc n) (mkfs.free_list g.blocks from upto)) ≡ numbers ++ numbers_of more =
        ap (λ (l : List ℕ). numbers_of (chain_from g image (suc n) l)) (linked_list g.blocks from upto (omega (arith, end)))
        ∙ (ap numbers_of (goes_on n upto (rest_of from upto) (omega (arith, start, low))) ∙ numbers_both numbers more) in
        let next : b ≢ upto → upto ≤ b → is_among (numbers_of more) b ≡ true = λ other past.
        ap (λ (l : List ℕ). is_among (numbers_of (chain_from g image n l)) b) here.list
        ∙ reached q n (upto + 1) (upto + 50) b (omega (arith, end)) (omega (arith, fuel)) (omega (arith, start, low)) (omega arith) (omega (arith, other, past)) most in
        ap (λ (l : List ℕ). is_among l b) all
        ∙ (among_both numbers (numbers_of more) b
        ∙ elim (cases_lt b upto) as (λ _. (is_among numbers b || is_among (numbers_of more) b) ≡ true) [
          | inl before ↦ earlier (is_among numbers b) (is_among (numbers_of more) b) (later (upto == b) (is_among (rest_of from upto) b) (in_rest from upto b least before))
          | inr past ↦ elim (cases_eq b upto) as (λ _. (is_among numbers b || is_among (numbers_of more) b) ≡ true) [
            | inl is ↦ earlier (is_among numbers b) (is_among (numbers_of more) b) (earlier (upto == b) (is_among (rest_of from upto) b) (eq-eqb upto b (sym is)))
            | inr other ↦ later (is_among numbers b) (is_among (numbers_of more) b) (next other past)
          ]
        ])

    -- ---- the whole chain: the walk has met the first data block alone

    module _ (walk : walked g image ≡ g.first_data ∷ []) (head : free_list image ≡ mkfs.free_cache g) (some : g.first_data < g.blocks) where
      abbrev behind_root : ℕ
      behind_root = g.first_data + 1

      abbrev first_upto : ℕ
      first_upto = behind_root + (g.blocks - behind_root) % 50

      abbrev lists_left : ℕ
      lists_left = (g.blocks - behind_root) / 50

      root_alone : (c : ℕ) → is_among (g.first_data ∷ []) c ≡ below g.first_data behind_root c
      root_alone c = grind (nat_tests, arith)

      pub chain_holds : chain_flaw g image ≡ None
      unfolding chain_flaw chain
      chain_holds =
          ap (λ (l : List ℕ). first_broken g image (is_among l) (chain_from g image g.blocks (free_list image))) walk
          ∙ (ap (λ (met : ℕ → Bool). first_broken g image met (chain_from g image g.blocks (free_list image))) (fun_ext root_alone)
          ∙ (ap (λ (l : List ℕ). first_broken g image (below g.first_data behind_root) (chain_from g image g.blocks l)) head
          ∙ unbroken lists_left g.blocks behind_root first_upto (omega (arith, some)) (omega (arith, some)) (omega arith) (omega arith)))

      in_chain : (b : ℕ) → behind_root ≤ b → b < g.blocks → is_among (chained g image) b ≡ true
      unfolding chain
      in_chain b low high =
          ap (λ (l : List ℕ). is_among (numbers_of (chain_from g image g.blocks l)) b) head
          ∙ reached lists_left g.blocks behind_root first_upto b (omega (arith, some)) (omega (arith, some)) (omega arith) (omega arith) low high

      is_found : (b : ℕ) → g.first_data ≤ b → b < g.blocks → is_among (walked g image ++ chained g image) b ≡ true
      is_found b low high =
          among_both (walked g image) (chained g image) b
          ∙ (ap (λ (l : List ℕ). is_among l b || is_among (chained g image) b) walk
          ∙ elim (cases_eq b g.first_data) as (λ _. (is_among (g.first_data ∷ []) b || is_among (chained g image) b) ≡ true) [
            | inl is ↦ earlier (is_among (g.first_data ∷ []) b) (is_among (chained g image) b) (earlier (g.first_data == b) false (eq-eqb g.first_data b (sym is)))
            | inr other ↦ later (is_among (g.first_data ∷ []) b) (is_among (chained g image) b) (in_chain b (omega (arith, low, other)) high)
          ])

      none_lost : (n k : ℕ) → k + n ≡ g.blocks → g.first_data ≤ k → find (λ b. not (is_among (walked g image ++ chained g image) b)) (range_with_len k n) ≡ None
      none_lost zero k end low = refl
      none_lost (suc n) k end low =
          ap (λ (t : Bool). cond (not t) (Some k) (find (λ b. not (is_among (walked g image ++ chained g image) b)) (range_with_len (k + 1) n))) (is_found k low (omega (arith, end)))
          ∙ none_lost n (k + 1) (omega (arith, end)) (omega (arith, low))

      pub lost_holds : lost_flaw g image ≡ None
      unfolding lost_flaw
      lost_holds = none_lost (g.blocks - g.first_data) g.first_data (omega (arith, some)) (omega arith)
