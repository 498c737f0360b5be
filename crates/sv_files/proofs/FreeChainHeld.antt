-- The chain of free blocks of an image is one of the held lines: it has each free block once, and no other.
use Rattle.std.proofs.Common.{◌≡◌, ◌≢◌, ◌≤◌, ◌<◌, ◌+◌, ◌-◌, ◌*◌, ◌/◌, ◌%◌, ◌==◌, ◌&&◌, ◌||◌, ◌++◌, ◌⊎◌, ℕ, zero, suc, Bool, true, false}
use Rattle.std.proofs.Common.{not, List, [], ◌∷◌, inl, inr, Option, Some, None, IsSome, flat_map, length, map, nat_le, nat_lt, take}
use Rattle.std.proofs.Common.{unwrap_or, cond, append_assoc, arith, ap, refl, sym, subst, ◌∙◌}
use Rattle.std.specs.List.{list_any}
use Rattle.std.proofs.Common.{length-append}
use Rattle.std.proofs.lemmas.Bool.{cases_eq, eq-eqb, eqb-true, false≢true, ne_eqb}
use Rattle.std.proofs.lemmas.Bool.Decides.{nat_tests}
use Rattle.std.proofs.lemmas.List.{append-nil}
use Rattle.std.proofs.lemmas.List.Folds.{list_any-append}
use Rattle.sv_form.specs.declared.geometry.Geometry.{Geometry}
use Rattle.sv_form.specs.declared.superblock.Super.{Super}
use Rattle.sv_form.specs.Geometry.{IsDataBlock, IsGeometry, block_lines, inode_count, super_place}
use Rattle.sv_form.specs.Image.{block_of, geometry_of, inode_of, superblock_of}
use Rattle.sv_form.specs.LinkBlock.{IsLinkBlock}
use Rattle.sv_form.specs.OwnerTable.{OwnerTable}
use Rattle.sv_form.specs.Owners.{owner_of}
use Rattle.sv_form.specs.Superblock.{IsSuper}
use Rattle.sv_check.proofs.WalkMet.{Met}
use Rattle.sv_check.specs.Chain.{Chained, number, list, chain, chain_flaw, chain_from, chained, chained_number, first_broken, free_list}
use Rattle.sv_check.specs.Chain.{link_of, list_in, lost_flaw, reads_list, walked}
use Rattle.sv_check.specs.InodeList.{is_free, used_inodes}
use Rattle.sv_check.specs.Sound.{IsChained, line_owner, owns}
use Rattle.sv_check.specs.Walk.{Reached, first_bad, is_among, is_data_block, is_new, met_of, nothing_met, reached, walk, with_met}
use Rattle.sv_check.proofs.BooleanTests.{not_false, not_true, or_true}
use Rattle.sv_check.proofs.ChainStart.{free_list-read}
use Rattle.sv_check.proofs.FileBlocks.{data_of}
use Rattle.sv_check.proofs.InodeReads.{and_first, and_second}
use Rattle.sv_check.proofs.InodeSteps.{none_in_range}
use Rattle.sv_check.proofs.ListReads.{list_of, reads_spelled}
use Rattle.sv_check.proofs.WholeNodes.{length-block}
use Rattle.sv_store.specs.Held.{Held, HoldsBlock, Lent, Origin, line_of, nothing_lent}
use Rattle.sv_super.specs.Calls.{CanMount, is_free as is_free_block, owned_lines}
use Rattle.sv_super.specs.Core.{HoldsOnly, HoldsSuper}
use Rattle.sv_super.specs.Count.{one_if, sum_below, times}
use Rattle.sv_super.specs.FreeList.{HasList, IsChain, front}
use Rattle.sv_super.proofs.Chains.{after-link, after-snoc, chain-empty, chain-more, next-link, next-snoc}
use Rattle.sv_super.proofs.Counts.{few, times-append, times-cons, times-nil, times-snoc}
use Rattle.sv_super.proofs.Fronts.{front-is}
use Rattle.sv_files.specs.FromImage.{HoldsLinesOf, HoldsNoOther, IsUsedInode, TellsOwners}
use Rattle.sv_files.proofs.Hits.{any-hits, find-never, hits, hits-any, hits-map, one-of, some-of}
use Rattle.sv_files.proofs.OwnBlocks.{bad-data, met_is, owner-is}
use Rattle.sv_files.proofs.TreeSpots.{is_at}
use Rattle.sv_files.proofs.Walked.{elsewhere, none-bad}

-- ---- lists

-- the last first
abbrev pub turned : List ℕ → List ℕ
turned [] = []
turned (x ∷ xs) = turned xs ++ x ∷ []

times-turned : (b : ℕ) (xs : List ℕ) → times b (turned xs) ≡ times b xs
times-turned b [] = refl
times-turned b (x ∷ xs) =
    let rest =
    times-turned b xs in let last = times-snoc b x (turned xs) in let first = times-cons b x xs in omega (arith, rest, last, first)

-- numbers that are added to a list are taken first, the last one first
snoc-chain : (h : Held) (start ys rest : List ℕ) → 1 ≤ length start → ((y : ℕ) → 0 < times y ys → y ≢ 0) → IsChain h start rest
    → IsChain h (start ++ ys) (turned ys ++ rest)
snoc-chain h start [] rest some named is = subst (λ (l : List ℕ). IsChain h l rest) (sym (append-nil start)) is
snoc-chain h start (y ∷ ys) rest some named is =
    let here : y ≢ 0 =
    named y (let e = times-cons y y ys in let one : one_if (y == y) ≡ 1 = ap one_if (eq-eqb y y refl) in omega (arith, e, one)) in
    let one : IsChain h (start ++ y ∷ []) (y ∷ rest) =
    chain-more h (start ++ y ∷ []) start y rest (next-snoc h start y some here) (after-snoc h start y some) is in
    let long : length (start ++ y ∷ []) ≡ length start + 1 = length-append start (y ∷ []) in
    let all : IsChain h ((start ++ y ∷ []) ++ ys) (turned ys ++ (y ∷ rest)) =
    snoc-chain h (start ++ y ∷ []) ys (y ∷ rest) (omega (arith, long))
    (λ z low. named z (let e = times-cons z y ys in omega (arith, e, low))) one in
    subst (λ (l : List ℕ). IsChain h l ((turned ys ++ y ∷ []) ++ rest)) (append_assoc start (y ∷ []) ys)
    (subst (λ (l : List ℕ). IsChain h ((start ++ y ∷ []) ++ ys) l) (sym (append_assoc (turned ys) (y ∷ []) rest)) all)

-- ---- the numbers of a chain

module _ (g : Geometry) (image : List ℕ) where
  -- the list that stands in a block
  abbrev list_at : ℕ → List ℕ
  list_at b = list_in (block_of g image b)

  -- what the chain of at most so many lists meets
  abbrev met_from : ℕ → List ℕ → List ℕ
  met_from n numbers = flat_map chained_number (chain_from g image n numbers)

  -- the same in the order in which it is taken
  abbrev pub order_from : ℕ → List ℕ → List ℕ
  order_from zero numbers = []
  order_from (suc n) [] = []
  order_from (suc n) (x ∷ ys) = turned ys ++ cond (x == 0) [] (x ∷ order_from n (list_at x))

  plain : (xs : List ℕ) (rest : List Chained) → flat_map chained_number (map number xs ++ rest) ≡ xs ++ flat_map chained_number rest
  plain [] rest = refl
  plain (x ∷ xs) rest = ap (λ (l : List ℕ). x ∷ l) (plain xs rest)

  link_is : (x : ℕ) (ys : List ℕ) (t : Bool) → (x == 0) ≡ t → link_of (x ∷ ys) ≡ cond t [] (x ∷ [])
  link_is x ys true e = ap (λ (t : Bool). cond (not t) (x ∷ []) []) e
  link_is x ys false e = ap (λ (t : Bool). cond (not t) (x ∷ []) []) e

  -- the chain behind a list with this link
  abbrev chain_by : ℕ → List ℕ → List ℕ → List Chained
  chain_by n link ys = map number (link ++ ys) ++ flat_map (λ b. list b ∷ chain_from g image n (list_at b)) link

  chain_is : (n x : ℕ) (ys : List ℕ) → chain_from g image (suc n) (x ∷ ys) ≡ chain_by n (link_of (x ∷ ys)) ys
  unfolding chain_from
  chain_is n x ys = refl

  chain-hole : (n x : ℕ) (ys : List ℕ) → x ≡ 0 → chain_from g image (suc n) (x ∷ ys) ≡ map number ys ++ []
  chain-hole n x ys e = chain_is n x ys ∙ ap (λ (l : List ℕ). chain_by n l ys) (link_is x ys true (eq-eqb x 0 e))

  chain-link : (n x : ℕ) (ys : List ℕ) → x ≢ 0
      → chain_from g image (suc n) (x ∷ ys) ≡ map number (x ∷ ys) ++ ((list x ∷ chain_from g image n (list_at x)) ++ [])
  chain-link n x ys some = chain_is n x ys ∙ ap (λ (l : List ℕ). chain_by n l ys) (link_is x ys false (ne_eqb x 0 some))

  chain-none : (numbers : List ℕ) → chain_from g image 0 numbers ≡ []
  unfolding chain_from
  chain-none numbers = refl

  chain-empty-list : (n : ℕ) → chain_from g image (suc n) [] ≡ []
  unfolding chain_from
  chain-empty-list n = refl

  met-hole : (n x : ℕ) (ys : List ℕ) → x ≡ 0 → met_from (suc n) (x ∷ ys) ≡ ys
  met-hole n x ys e = ap (flat_map chained_number) (chain-hole n x ys e) ∙ plain ys [] ∙ append-nil ys

  met-link : (n x : ℕ) (ys : List ℕ) → x ≢ 0 → met_from (suc n) (x ∷ ys) ≡ (x ∷ ys) ++ met_from n (list_at x)
  met-link n x ys some =
      ap (flat_map chained_number) (chain-link n x ys some) ∙ plain (x ∷ ys) ((list x ∷ chain_from g image n (list_at x)) ++ [])
      ∙ ap (λ (l : List Chained). (x ∷ ys) ++ flat_map chained_number l) (append-nil (list x ∷ chain_from g image n (list_at x)))

  -- both orders have the same numbers equally often
  times-order : (b n : ℕ) (numbers : List ℕ) → times b (order_from n numbers) ≡ times b (met_from n numbers)
  times-order b zero numbers = sym (ap (λ (l : List Chained). times b (flat_map chained_number l)) (chain-none numbers))
  times-order b (suc n) [] = sym (ap (λ (l : List Chained). times b (flat_map chained_number l)) (chain-empty-list n))
  times-order b (suc n) (x ∷ ys) = by (cases_eq x 0) (times-order b n (list_at x)) where
    by : (x ≡ 0) ⊎ (x ≢ 0) → times b (order_from n (list_at x)) ≡ times b (met_from n (list_at x))
        → times b (turned ys ++ cond (x == 0) [] (x ∷ order_from n (list_at x))) ≡ times b (met_from (suc n) (x ∷ ys))
    by (inl e) rest =
        ap (λ (t : Bool). times b (turned ys ++ cond t [] (x ∷ order_from n (list_at x)))) (eq-eqb x 0 e)
        ∙ ap (times b) (append-nil (turned ys)) ∙ times-turned b ys ∙ ap (times b) (sym (met-hole n x ys e))
    by (inr some) rest =
        let one = times-append b (turned ys) (x ∷ order_from n (list_at x)) in
        let two = times-cons b x (order_from n (list_at x)) in
        let three = times-append b (x ∷ ys) (met_from n (list_at x)) in
        let four = times-cons b x ys in
        let sums : times b (turned ys ++ x ∷ order_from n (list_at x)) ≡ times b ((x ∷ ys) ++ met_from n (list_at x)) =
        omega (arith, one, two, three, four, rest, times-turned b ys) in
        ap (λ (t : Bool). times b (turned ys ++ cond t [] (x ∷ order_from n (list_at x)))) (ne_eqb x 0 some) ∙ sums
        ∙ ap (times b) (sym (met-link n x ys some))

  -- ---- where the chain is not broken

  good_number : (before : ℕ → Bool) (b : ℕ) (rest : List Chained) (t : Bool)
      → cond t (first_broken g image (with_met before b) rest) (Some b) ≡ None
      → (t ≡ true) × (first_broken g image (with_met before b) rest ≡ None)
  good_number before b rest true e = (refl, e)
  good_number before b rest false e = let no : ⊥ = cc e in absurd no

  good_list : (before : ℕ → Bool) (b : ℕ) (rest : List Chained) (t : Bool) → cond t (first_broken g image before rest) (Some b) ≡ None
      → (t ≡ true) × (first_broken g image before rest ≡ None)
  good_list before b rest true e = (refl, e)
  good_list before b rest false e = let no : ⊥ = cc e in absurd no

  -- a number is met once, is a data block, and was not met before
  pub record IsMetOnce (before : ℕ → Bool) (b k : ℕ) : Type 0 where
    pub once : k ≤ 1
    pub fresh : before b ≡ true → k ≡ 0
    pub inside : 0 < k → is_data_block g b ≡ true

  once_step : (before : ℕ → Bool) (x b k : ℕ) (t : Bool) → (x == b) ≡ t → is_new g before x ≡ true → IsMetOnce (with_met before x) b k
      → IsMetOnce before b (one_if t + k)
  once_step before x b k true is new rest =
      let same : x ≡ b = eqb-true x b is in
      let old : before x ≡ false = not_true (before x) (and_second (is_data_block g x) (not (before x)) new) in
      let none : k ≡ 0 = rest.fresh (ap (λ (t : Bool). t || before b) (eq-eqb b x (sym same))) in
      record {
        once = omega (arith, none);
        fresh = λ e. absurd (false≢true (sym old ∙ ap before same ∙ e));
        inside = λ _. ap
            (is_data_block g) (sym same) ∙ and_first (is_data_block g x) (not (before x)) new;
      }
  once_step before x b k false is new rest =
      let few_left = rest.once in
      record {
        once = omega (arith, few_left);
        fresh = λ e. (let none : k ≡ 0 = rest.fresh (ap (λ (t : Bool). (b == x) || t) e ∙ or_true (b == x)) in omega (arith, none));
        inside = λ some. rest.inside (omega (arith, some));
      }

  met-once : (before : ℕ → Bool) (entries : List Chained) (b : ℕ) → first_broken g image before entries ≡ None
      → IsMetOnce before b (times b (flat_map chained_number entries))
  unfolding first_broken times
  met-once before [] b none = record { once = omega arith; fresh = λ _. refl; inside = λ some. absurd (omega (arith, some)) }
  met-once before (number x ∷ rest) b none =
      let parts = good_number before x rest (is_new g before x) none in
      once_step before x b (times b (flat_map chained_number rest)) (x == b) refl parts.0 (met-once (with_met before x) rest b parts.1)
  met-once before (list x ∷ rest) b none =
      let parts = good_list before x rest (reads_list (block_of g image x)) none in
      met-once before rest b parts.1

  -- what is left of a chain is not broken either
  record GoesOn (entries : List Chained) : Type 0 where
    pub before : ℕ → Bool
    pub none : first_broken g image before entries ≡ None

  past_numbers : (before : ℕ → Bool) (xs : List ℕ) (rest : List Chained) → first_broken g image before (map number xs ++ rest) ≡ None
      → GoesOn rest
  unfolding first_broken
  past_numbers before [] rest none = record { before = before; none = none }
  past_numbers before (x ∷ xs) rest none =
      past_numbers (with_met before x) xs rest (good_number before x (map number xs ++ rest) (is_new g before x) none).1

  -- the list in a link block reads, and the chain goes on there
  record ReadsOn (n x : ℕ) : Type 0 where
    pub reads : reads_list (block_of g image x) ≡ true
    pub rest : GoesOn (chain_from g image n (list_at x))

  past_link : (n x : ℕ) → GoesOn ((list x ∷ chain_from g image n (list_at x)) ++ []) → ReadsOn n x
  unfolding first_broken
  past_link n x on =
      let parts = good_list on.before x (chain_from g image n (list_at x) ++ []) (reads_list (block_of g image x)) on.none in
      let same = ap (first_broken g image on.before) (sym (append-nil (chain_from g image n (list_at x)))) in
      record { reads = parts.0; rest = record { before = on.before; none = same ∙ parts.1 } }

  reads-on : (n x : ℕ) (ys : List ℕ) → x ≢ 0 → GoesOn (chain_from g image (suc n) (x ∷ ys)) → ReadsOn n x
  reads-on n x ys some on =
      past_link n x (past_numbers on.before (x ∷ ys) ((list x ∷ chain_from g image n (list_at x)) ++ [])
      (ap (first_broken g image on.before) (sym (chain-link n x ys some)) ∙ on.none))

  -- ---- the chain ends

  -- it comes to a link of 0 within so many lists
  abbrev Ends : ℕ → List ℕ → Type 0
  Ends zero numbers = ⊥
  Ends (suc n) [] = ⊥
  Ends (suc n) (x ∷ ys) = (x ≡ 0) ⊎ ((x ≢ 0) × Ends n (list_at x))

  long_block : IsGeometry g → length image ≡ g.blocks * g.block_size → (x : ℕ) → is_data_block g x ≡ true
      → 204 ≤ length (block_of g image x)
  long_block sizes long x is_in =
      let most = (data_of g x is_in).most in
      let all = length-block g image x sizes long most in
      let size = sizes.block_size in
      omega (arith, all, size)

  spelled : (x : ℕ) → 204 ≤ length (block_of g image x) → reads_list (block_of g image x) ≡ true
      → IsLinkBlock (take 204 (block_of g image x)) (record { numbers = record { items = list_at x } })
  spelled x long reads =
      let found = reads_spelled (block_of g image x) long reads in
      subst (λ (l : List ℕ). IsLinkBlock (take 204 (block_of g image x)) (record { numbers = record { items = l } }))
      (list_of (block_of g image x) found.0 found.1) found.1

  named : IsGeometry g → (x : ℕ) → is_data_block g x ≡ true → x ≢ 0
  named sizes x is_in e =
      let least = (data_of g x is_in).least in
      let first = sizes.least_first in
      absurd (omega (arith, least, first, e))

  -- a number that a chain meets is a data block
  met-data : (entries : List Chained) → GoesOn entries → (b : ℕ) → 0 < times b (flat_map chained_number entries) → is_data_block g b ≡ true
  met-data entries on b some = (met-once on.before entries b on.none).inside some

  first-met : (n x : ℕ) (ys : List ℕ) → x ≢ 0 → 0 < times x (met_from (suc n) (x ∷ ys))
  first-met n x ys some =
      let one : one_if (x == x) ≡ 1 = ap one_if (eq-eqb x x refl) in
      let two = times-cons x x ys in
      let three = times-append x (x ∷ ys) (met_from n (list_at x)) in
      let same = ap (times x) (met-link n x ys some) in
      omega (arith, one, two, three, same)

  later-met : (n x y : ℕ) (ys : List ℕ) → 0 < times y ys → 0 < times y (met_from (suc n) (x ∷ ys))
  later-met n x y ys some =
      elim (cases_eq x 0) [
        | inl e ↦ let same = ap (times y) (met-hole n x ys e) in omega (arith, same, some)
        | inr there ↦
            let two = times-cons y x ys in
            let three = times-append y (x ∷ ys) (met_from n (list_at x)) in
            let same = ap (times y) (met-link n x ys there) in
            omega (arith, two, three, same, some)
      ]

  more-met : (n x b : ℕ) (ys : List ℕ) → x ≢ 0 → 0 < times b (met_from n (list_at x)) → 0 < times b (met_from (suc n) (x ∷ ys))
  more-met n x b ys there some =
      let three = times-append b (x ∷ ys) (met_from n (list_at x)) in
      let same = ap (times b) (met-link n x ys there) in
      omega (arith, three, same, some)

  module _ (sizes : IsGeometry g) (long : length image ≡ g.blocks * g.block_size) where
    -- one link further
    record LinksOn (n x : ℕ) : Type 0 where
      pub list_is : IsLinkBlock (take 204 (block_of g image x)) (record { numbers = record { items = list_at x } })
      pub on : GoesOn (chain_from g image n (list_at x))
      pub data_is : is_data_block g x ≡ true

    links-on : (n x : ℕ) (ys : List ℕ) → x ≢ 0 → GoesOn (chain_from g image (suc n) (x ∷ ys)) → LinksOn n x
    links-on n x ys some on =
        let next = reads-on n x ys some on in
        let data_x = met-data (chain_from g image (suc n) (x ∷ ys)) on x (first-met n x ys some) in
        record { list_is = spelled x (long_block sizes long x data_x) next.reads; on = next.rest; data_is = data_x }

    -- it ends, or meets a number for each list
    ends-or-many : (n : ℕ) (numbers : List ℕ) → GoesOn (chain_from g image n numbers) → 1 ≤ length numbers
        → Ends n numbers ⊎ (n ≤ length (met_from n numbers))
    ends-or-many zero numbers on some = inr (omega arith)
    ends-or-many (suc n) [] on some = absurd (omega (arith, some))
    ends-or-many (suc n) (x ∷ ys) on some =
        by (cases_eq x 0) (λ there. (let next = links-on n x ys there on in ends-or-many n (list_at x) next.on next.list_is.numbers.some))
      where
        by : (x ≡ 0) ⊎ (x ≢ 0) → (x ≢ 0 → Ends n (list_at x) ⊎ (n ≤ length (met_from n (list_at x))))
            → Ends (suc n) (x ∷ ys) ⊎ (suc n ≤ length (met_from (suc n) (x ∷ ys)))
        by (inl e) rest = inl (inl e)
        by (inr there) rest = further there (rest there) where
          further : x ≢ 0 → Ends n (list_at x) ⊎ (n ≤ length (met_from n (list_at x)))
              → Ends (suc n) (x ∷ ys) ⊎ (suc n ≤ length (met_from (suc n) (x ∷ ys)))
          further there (inl ends) = inl (inr (there, ends))
          further there (inr many) =
              let same = ap (λ (l : List ℕ). length l) (met-link n x ys there) in
              let all : length ((x ∷ ys) ++ met_from n (list_at x)) ≡ length (x ∷ ys) + length (met_from n (list_at x)) =
              length-append (x ∷ ys) (met_from n (list_at x)) in
              inr (omega (arith, same, all, many))

    chain-held : (h : Held) (n : ℕ) (numbers : List ℕ) → GoesOn (chain_from g image n numbers) → Ends n numbers
        → ((b : ℕ) → 0 < times b (met_from n numbers) → front (h b) ≡ take 204 (block_of g image b))
        → IsChain h numbers (order_from n numbers)
    chain-held h zero numbers on ends holds = absurd ends
    chain-held h (suc n) [] on ends holds = absurd ends
    chain-held h (suc n) (x ∷ ys) on ends holds =
        by ends (λ there rest. (let next = links-on n x ys there on in
        chain-held h n (list_at x) next.on rest (λ b some. holds b (more-met n x b ys there some)))) where
          each : (y : ℕ) → 0 < times y ys → y ≢ 0
          each y some = named sizes y (met-data (chain_from g image (suc n) (x ∷ ys)) on y (later-met n x y ys some))

          by : Ends (suc n) (x ∷ ys) → (x ≢ 0 → Ends n (list_at x) → IsChain h (list_at x) (order_from n (list_at x)))
              → IsChain h (x ∷ ys) (turned ys ++ cond (x == 0) [] (x ∷ order_from n (list_at x)))
          by (inl e) rest =
              subst (λ (t : Bool). IsChain h (x ∷ ys) (turned ys ++ cond t [] (x ∷ order_from n (list_at x)))) (sym (eq-eqb x 0 e))
              (snoc-chain h (x ∷ []) ys [] (omega arith) each (chain-empty h (x ∷ []) (ap (λ (z : ℕ). z ∷ []) e)))
          by (inr there) rest =
              let next = links-on n x ys there.0 on in
              let has : HasList (h x) (list_at x) =
              record {
                spelled = subst (λ (l : List ℕ). IsLinkBlock l (record { numbers = record { items = list_at x } }))
                    (sym (holds x (first-met n x ys there.0))) next.list_is;
              } in
              let more : IsChain h (x ∷ []) (x ∷ order_from n (list_at x)) =
              chain-more h (x ∷ []) (list_at x) x (order_from n (list_at x)) (next-link h (list_at x) x has there.0)
              (after-link h (list_at x) x has) (rest there.0 there.1) in
              subst (λ (t : Bool). IsChain h (x ∷ ys) (turned ys ++ cond t [] (x ∷ order_from n (list_at x)))) (sym (ne_eqb x 0 there.0))
              (snoc-chain h (x ∷ []) ys (x ∷ order_from n (list_at x)) (omega arith) each more)

    -- a chain meets fewer numbers than the image has blocks
    met-few : (n : ℕ) (numbers : List ℕ) → GoesOn (chain_from g image n numbers) → length (met_from n numbers) < g.blocks
    met-few n numbers on = (let most = few g.blocks (0 ∷ met_from n numbers) [] low once in omega (arith, most)) where
      no_zero : times 0 (met_from n numbers) ≡ 0
      no_zero =
          elim (cases_eq (times 0 (met_from n numbers)) 0) [
            | inl none ↦ none
            | inr some ↦ absurd (named sizes 0 (met-data (chain_from g image n numbers) on 0 (omega (arith, some))) refl)
          ]

      low : (b : ℕ) → 0 < times b (0 ∷ met_from n numbers) + times b [] → b < g.blocks
      low b some =
          elim (cases_eq 0 b) as (λ _. b < g.blocks) [
            | inl e ↦ let least = sizes.least_blocks in omega (arith, e, least)
            | inr other ↦
                let one = times-cons b 0 (met_from n numbers) in
                let none : one_if (0 == b) ≡ 0 = ap one_if (ne_eqb 0 b other) in
                (data_of g b (met-data (chain_from g image n numbers) on b (omega (arith, some, one, none, times-nil b)))).most
          ]

      once : (b : ℕ) → times b (0 ∷ met_from n numbers) + times b [] ≤ 1
      once b =
          let one = times-cons b 0 (met_from n numbers) in
          let most = (met-once on.before (chain_from g image n numbers) b on.none).once in
          elim (cases_eq 0 b) as (λ _. times b (0 ∷ met_from n numbers) + times b [] ≤ 1) [
            | inl e ↦
                let zero_here : times b (met_from n numbers) ≡ 0 = ap (λ (x : ℕ). times x (met_from n numbers)) (sym e) ∙ no_zero in
                let flag : one_if (0 == b) ≡ 1 = ap one_if (eq-eqb 0 b e) in
                omega (arith, one, zero_here, flag, times-nil b)
            | inr other ↦ let none : one_if (0 == b) ≡ 0 = ap one_if (ne_eqb 0 b other) in omega (arith, one, none, most, times-nil b)
          ]

    ends : (numbers : List ℕ) → GoesOn (chain_from g image g.blocks numbers) → 1 ≤ length numbers → Ends g.blocks numbers
    ends numbers on some =
        elim (ends-or-many g.blocks numbers on some) as (λ _. Ends g.blocks numbers) [
          | inl is ↦ is
          | inr many ↦ let less = met-few g.blocks numbers on in absurd (omega (arith, many, less))
        ]

-- ---- lines that no inode owns

module _ (g : Geometry) (image : List ℕ) (sizes : IsGeometry g) where
  abbrev is_used : ℕ → Bool
  is_used n = not (is_free (inode_of g image n))

  met_walk : (b n : ℕ) → 1 ≤ n → n < 1 + inode_count g → is_used n ≡ true → 0 < hits (is_at b) (reached g image (inode_of g image n))
      → is_among (walked g image) b ≡ true
  unfolding walk used_inodes
  met_walk b n low high is some =
      let part = one-of (met_is b) (met_of g image) is_used (inode_count g) 1 n low (omega (arith, high)) is in
      let one = hits-map (met_is b) (λ (r : Reached). record { inode = n; block = r.block }) (reached g image (inode_of g image n)) in
      let all = hits-map (λ n. n == b) (λ (m : Met). m.block) (walk g image) in
      hits-any (λ n. n == b) (map (λ m. m.block) (walk g image)) (omega (arith, part, one, all, some))

  no_one : (b l n : ℕ) → (b < 2) ⊎ (g.first_data ≤ b) → is_among (walked g image) b ≡ false → 1 ≤ n → n < 1 + inode_count g
      → is_used n ≡ true → owns g image (record { block = b; line = l }) n ≡ false
  no_one b l n out unmet low high is =
      ap (λ (t : Bool). t || list_any (is_at b) (reached g image (inode_of g image n)))
      (elsewhere g sizes (record { block = b; line = l }) n low (omega (arith, high)) out)
      ∙ by (list_any (is_at b) (reached g image (inode_of g image n))) refl where
        by : (t : Bool) → list_any (is_at b) (reached g image (inode_of g image n)) ≡ t → t ≡ false
        by false e = refl
        by true e = absurd (false≢true (sym unmet ∙ met_walk b n low high is (any-hits (is_at b) (reached g image (inode_of g image n)) e)))

  pub nobodys : (b l : ℕ) → (b < 2) ⊎ (g.first_data ≤ b) → is_among (walked g image) b ≡ false
      → line_owner g image (record { block = b; line = l }) ≡ 0
  unfolding line_owner used_inodes
  nobodys b l out unmet =
      ap (λ (o : Option ℕ). unwrap_or o 0)
      (find-never (owns g image (record { block = b; line = l })) is_used (inode_count g) 1
      (λ k low high is. no_one b l k out unmet low high is))

-- ---- the mount

sum_some : (n : ℕ) (f : ℕ → ℕ) → 0 < n → 0 < f 0 → 0 < sum_below n f
unfolding sum_below
sum_some zero f low some = absurd (omega (arith, low))
sum_some (suc zero) f low some = omega (arith, some)
sum_some (suc (suc n)) f low some = let rest = sum_some (suc n) f (omega arith) some in omega (arith, rest)

sum_nothing : (n : ℕ) (f : ℕ → ℕ) → ((k : ℕ) → k < n → f k ≡ 0) → sum_below n f ≡ 0
unfolding sum_below
sum_nothing zero f none = refl
sum_nothing (suc n) f none =
    let rest = sum_nothing n f (λ k low. none k (omega (arith, low))) in
    let last = none n (omega arith) in
    omega (arith, rest, last)

is_held : (o : Option (List ℕ)) (x : List ℕ) → o ≡ Some x → IsSome o
is_held None x e = let no : ⊥ = cc e in absurd no
is_held (Some y) x e = refl

all_three : (s t u : Bool) → s ≡ true → t ≡ true → u ≡ true → (s && (t && u)) ≡ true
all_three true true u e f d = d
all_three true false u e f d = f
all_three false t u e f d = e

module _ (o : Origin) (image : List ℕ) (sizes : IsGeometry o.sizes) (long : length image ≡ o.sizes.blocks * o.sizes.block_size)
    (none : first_bad o.sizes nothing_met (walk o.sizes image) ≡ None)
    (chain_holds : chain_flaw o.sizes image ≡ None) (lost : lost_flaw o.sizes image ≡ None) (t : OwnerTable)
    (tells : TellsOwners o.sizes image t) (h : Held) (holds : HoldsLinesOf o.sizes image 0 h) where
  abbrev g : Geometry
  g = o.sizes

  abbrev first : List ℕ
  first = free_list image

  abbrev pub order : List ℕ
  order = order_from g image g.blocks first

  lines : block_lines g ≡ 16
  lines = ap (λ (s : ℕ). s / 64) sizes.block_size

  on : GoesOn g image (chain_from g image g.blocks first)
  unfolding chain_flaw chain
  on = record { before = is_among (walked g image); none = chain_holds }

  pub met : (b : ℕ) → IsMetOnce g image (is_among (walked g image)) b (times b order)
  unfolding chain_flaw chain
  met b =
      subst (λ (k : ℕ). IsMetOnce g image (is_among (walked g image)) b k) (sym (times-order g image b g.blocks first))
      (met-once g image (is_among (walked g image)) (chain_from g image g.blocks first) b chain_holds)

  unwalked : (b : ℕ) → 0 < times b order → is_among (walked g image) b ≡ false
  unwalked b some = by (is_among (walked g image) b) refl where
    by : (t : Bool) → is_among (walked g image) b ≡ t → t ≡ false
    by false e = refl
    by true e = let gone = (met b).fresh e in absurd (omega (arith, some, gone))

  pub data_in : (b : ℕ) → 0 < times b order → IsDataBlock g b
  data_in b some = data_of g b ((met b).inside some)

  free-line : (b l : ℕ) → 0 < times b order → l * 64 < g.block_size → h b l ≡ Some (line_of (block_of g image b) l)
  free-line b l some low =
      let data_b = data_in b some in
      let size = sizes.block_size in
      holds.own b l (record { block = data_b.most; line = omega (arith, low, size, lines) })
      (nobodys g image sizes b l (inr data_b.least) (unwalked b some))

  fronts-are : (b : ℕ) → 0 < times b (flat_map chained_number (chain_from g image g.blocks first))
      → front (h b) ≡ take 204 (block_of g image b)
  fronts-are b some =
      let here : 0 < times b order = (let same = times-order g image b g.blocks first in omega (arith, same, some)) in
      let size = sizes.block_size in
      front-is (h b) (block_of g image b) (long_block g image sizes long b ((met b).inside here))
      (λ l low. free-line b l here (omega (arith, low, size)))

  whole : (b : ℕ) → 0 < times b order → HoldsBlock o h b
  whole b some = record { at = λ l low. is_held (h b l) (line_of (block_of g image b) l) (free-line b l some low) }

  -- ---- whose lines of a block are

  owner-at : (b l : ℕ) → b < g.blocks → l < block_lines g
      → owner_of t (record { block = b; line = l }) ≡ line_owner g image (record { block = b; line = l })
  owner-at b l low high = tells.owners (record { block = b; line = l }) (record { block = low; line = high })

  lines_t : block_lines t.geometry ≡ block_lines g
  lines_t = ap block_lines tells.geometry

  unowned : (b : ℕ) → b < g.blocks → (b < 2) ⊎ (g.first_data ≤ b) → is_among (walked g image) b ≡ false → owned_lines t b ≡ 0
  unowned b low out unmet =
      sum_nothing (block_lines t.geometry) (λ l. one_if (nat_lt 0 (owner_of t (record { block = b; line = l }))))
      (λ l less.
      (let here : owner_of t (record { block = b; line = l }) ≡ 0 = owner-at b l low (omega (arith, less, lines_t))
      ∙ nobodys g image sizes b l out unmet in
      ap (λ (n : ℕ). one_if (nat_lt 0 n)) here))

  -- a block that an inode reaches has an owner
  pub owner-some : (b l : ℕ) → is_among (walked g image) b ≡ true → line_owner g image (record { block = b; line = l }) ≢ 0
  unfolding walk used_inodes
  owner-some b l among =
      let all = hits-map (λ n. n == b) (λ (m : Met). m.block) (walk g image) in
      let hit = any-hits (λ n. n == b) (map (λ m. m.block) (walk g image)) among in
      let part =
      some-of (met_is b) (met_of g image) (λ n. not (is_free (inode_of g image n))) (inode_count g) 1 (omega (arith, all, hit)) in
      let one =
      hits-map (met_is b) (λ (r : Reached). record { inode = part.part; block = r.block })
      (reached g image (inode_of g image part.part)) in
      let low = part.low in
      let high = part.high in
      let some = part.some in
      let u : IsUsedInode g image part.part =
      record { least = low; most = omega (arith, high); used = not_true (is_free (inode_of g image part.part)) part.passes } in
      let is = owner-is g image sizes none part.part u b (omega (arith, one, some)) l in
      λ e. absurd (omega (arith, is, e, low))

  owned : (b : ℕ) → b < g.blocks → is_among (walked g image) b ≡ true → owned_lines t b ≢ 0
  owned b low among e =
      let at : owner_of t (record { block = b; line = 0 }) ≡ line_owner g image (record { block = b; line = 0 }) =
      owner-at b 0 low (omega (arith, lines)) in
      let there : owner_of t (record { block = b; line = 0 }) ≢ 0 = λ z. owner-some b 0 among (sym at ∙ z) in
      let flag : nat_lt 0 (owner_of t (record { block = b; line = 0 })) ≡ true = grind (nat_tests, arith, there) in
      let one : one_if (nat_lt 0 (owner_of t (record { block = b; line = 0 }))) ≡ 1 = ap one_if flag in
      let sum =
      sum_some (block_lines t.geometry) (λ l. one_if (nat_lt 0 (owner_of t (record { block = b; line = l }))))
      (omega (arith, lines_t, lines)) (omega (arith, one)) in
      absurd (omega (arith, sum, e))

  free-test : (b : ℕ) → is_free_block t b ≡ (nat_le g.first_data b && (nat_lt b g.blocks && (owned_lines t b == 0)))
  free-test b = ap (λ (x : Geometry). nat_le x.first_data b && (nat_lt b x.blocks && (owned_lines t b == 0))) tells.geometry

  free-if : (b : ℕ) → 0 < times b order → is_free_block t b ≡ true
  free-if b some =
      let data_b = data_in b some in
      let least = data_b.least in
      let most = data_b.most in
      let one : nat_le g.first_data b ≡ true = grind (arith, least) in
      let two : nat_lt b g.blocks ≡ true = grind (arith, most) in
      free-test b ∙ all_three (nat_le g.first_data b) (nat_lt b g.blocks) (owned_lines t b == 0) one two
      (eq-eqb (owned_lines t b) 0 (unowned b most (inr least) (unwalked b some)))

  either : (s u : Bool) → (s || u) ≡ true → u ≡ false → s ≡ true
  either true u e f = refl
  either false u e f = absurd (false≢true (sym f ∙ e))

  among_times : (b : ℕ) (xs : List ℕ) → times b xs ≡ 0 → is_among xs b ≡ false
  unfolding times
  among_times b [] e = refl
  among_times b (x ∷ xs) e = by (x == b) refl (among_times b xs (omega (arith, e))) where
    by : (t : Bool) → (x == b) ≡ t → is_among xs b ≡ false → (t || is_among xs b) ≡ false
    by true is rest = let one : one_if (x == b) ≡ 1 = ap one_if is in absurd (omega (arith, e, one))
    by false is rest = rest

  -- a data block that is not in the chain is reached
  pub reached-if : (b : ℕ) → times b order ≡ 0 → g.first_data ≤ b → b < g.blocks → is_among (walked g image) b ≡ true
  unfolding lost_flaw chain
  reached-if b gone least most =
      let both : is_among (walked g image ++ chained g image) b ≡ true =
      not_false (is_among (walked g image ++ chained g image) b)
      (none_in_range (λ x. not (is_among (walked g image ++ chained g image) x)) g.first_data (g.blocks - g.first_data) lost b least
      (omega (arith, least, most))) in
      let absent : is_among (chained g image) b ≡ false =
      among_times b (chained g image) (sym (times-order g image b g.blocks first) ∙ gone) in
      either (is_among (walked g image) b) (is_among (chained g image) b)
      (sym (list_any-append (λ (n : ℕ). n == b) (walked g image) (chained g image)) ∙ both) absent

  not-free : (b : ℕ) → times b order ≡ 0 → is_free_block t b ≡ false
  not-free b gone = free-test b ∙ by (nat_le g.first_data b) refl (nat_lt b g.blocks) refl where
    by : (s : Bool) → nat_le g.first_data b ≡ s → (u : Bool) → nat_lt b g.blocks ≡ u → (s && (u && (owned_lines t b == 0))) ≡ false
    by false e u f = refl
    by true e false f = refl
    by true e true f =
        let least : g.first_data ≤ b = grind (nat_tests, arith) in
        let most : b < g.blocks = grind (nat_tests, arith) in
        ne_eqb (owned_lines t b) 0 (owned b most (reached-if b gone least most))

  each : (b : ℕ) → times b order ≡ one_if (is_free_block t b)
  each b =
      elim (cases_eq (times b order) 0) [
        | inl gone ↦ gone ∙ sym (ap one_if (not-free b gone))
        | inr some ↦ let once = (met b).once in let flag = ap one_if (free-if b (omega (arith, some))) in omega (arith, some, once, flag)
      ]

  -- a data block of which a line belongs to no inode is free
  own-free : (b l : ℕ) → IsDataBlock g b → line_owner g image (record { block = b; line = l }) ≡ 0 → is_free_block t b ≡ true
  own-free b l data_b own =
      free-test b ∙ all_three (nat_le g.first_data b) (nat_lt b g.blocks) (owned_lines t b == 0) one two
      (eq-eqb (owned_lines t b) 0 (unowned b most (inr least) (unmet (is_among (walked g image) b) refl)))
    where
      least : g.first_data ≤ b
      least = data_b.least

      most : b < g.blocks
      most = data_b.most

      one : nat_le g.first_data b ≡ true
      one = grind (arith, least)

      two : nat_lt b g.blocks ≡ true
      two = grind (arith, most)

      unmet : (t : Bool) → is_among (walked g image) b ≡ t → is_among (walked g image) b ≡ false
      unmet false e = e
      unmet true e = absurd (owner-some b l e own)

  pub free-alone : HoldsNoOther g image 0 h → HoldsOnly o h (λ b. one_if (is_free_block t b))
  free-alone alone = record {
    only = λ b l is data_b. (let flag = ap one_if (own-free b l data_b (alone.only b l is)) in omega (arith, flag));
  }

  -- ---- the superblock

  zero_unmet : is_among (walked g image) 0 ≡ false
  zero_unmet = by (is_among (walked g image) 0) refl where
    by : (t : Bool) → is_among (walked g image) 0 ≡ t → t ≡ false
    by false e = refl
    by true e = absurd (false≢true (sym (no_data 0 (omega arith)) ∙ met_data e)) where
      met_data : is_among (walked g image) 0 ≡ true → is_data_block g 0 ≡ true
      met_data among =
          let all = hits-map (λ n. n == 0) (λ (m : Met). m.block) (walk g image) in
          let hit = any-hits (λ n. n == 0) (map (λ m. m.block) (walk g image)) among in
          bad-data g nothing_met (walk g image) 0 none (omega (arith, all, hit))

      no_data : (b : ℕ) → b < 3 → is_data_block g b ≡ false
      no_data b low =
          let least = sizes.least_first in
          let before : nat_le g.first_data b ≡ false = grind (nat_tests, arith, least, low) in
          ap (λ (t : Bool). t && nat_lt b g.blocks) before

  super-block : (super_place g).block ≡ 0
  super-block = ap (λ (s : ℕ). 512 / s) sizes.block_size

  super-line : (super_place g).line ≡ 8
  super-line = ap (λ (s : ℕ). 512 % s / 64) sizes.block_size

  super-held : HoldsSuper o h
  super-held = record {
    at = λ l low.
        (let line : (super_place g).line + l < block_lines g = omega (arith, super-line, low, lines) in
        let least = sizes.least_blocks in
        let block : (super_place g).block < g.blocks = omega (arith, super-block, least) in
        let unmet : is_among (walked g image) (super_place g).block ≡ false = ap (is_among (walked g image)) super-block ∙ zero_unmet in
        is_held (h (super_place g).block ((super_place g).line + l))
        (line_of (block_of g image (super_place g).block) ((super_place g).line + l))
        (holds.own (super_place g).block ((super_place g).line + l) (record { block = block; line = line })
        (nobodys g image sizes (super_place g).block ((super_place g).line + l) (inl (omega (arith, super-block))) unmet)));
  }

  pub can-mount : (m : Lent) → m ≡ nothing_lent → (s : Super) → IsSuper (superblock_of image) s → CanMount o h m t s.free.items
  can-mount m away s is =
      let read : free_list image ≡ s.free.items = free_list-read image s is in
      let some : 1 ≤ length first =
      (let long_list = ap (λ (l : List ℕ). length l) read in let least = is.free.some in omega (arith, long_list, least)) in
      record {
        table = tells.table;
        sizes = tells.geometry;
        lent = away;
        super = super-held;
        order = order;
        chain =
            subst (λ (l : List ℕ). IsChain h l order) read
            (chain-held g image sizes long h g.blocks first on (ends g image sizes long first on some) fronts-are);
        each = each;
        whole = whole;
      }

  -- the chain is in this order
  pub mounted-order : (m : Lent) (away : m ≡ nothing_lent) (s : Super) (is : IsSuper (superblock_of image) s)
      → (can-mount m away s is).order ≡ order
  unfolding can-mount
  mounted-order m away s is = refl

pub mounts-blocks : (image : List ℕ) → IsChained image → (t : OwnerTable) → TellsOwners (geometry_of image) image t → (o : Origin)
    → o.sizes ≡ geometry_of image → (h : Held) → HoldsLinesOf (geometry_of image) image 0 h
    → (s : Super) → IsSuper (superblock_of image) s → (m : Lent) → m ≡ nothing_lent → CanMount o h m t s.free.items
mounts-blocks image c t tells o e h holds s is m away =
    let w = c.walked in
    let at : Origin = record o { sizes = geometry_of image } in
    let same : o ≡ at = λ i. record o { sizes = e i } in
    subst (λ (x : Origin). CanMount x h m t s.free.items) (sym same)
    (can-mount at image w.sized.sizes.bounds w.sized.sizes.length
    (none-bad (geometry_of image) image w.range w.twice) c.chain c.lost t tells h holds m away s is)

pub mounts-alone : (image : List ℕ) → IsChained image → (t : OwnerTable) → TellsOwners (geometry_of image) image t → (o : Origin)
    → o.sizes ≡ geometry_of image → (h : Held) → HoldsLinesOf (geometry_of image) image 0 h → HoldsNoOther (geometry_of image) image 0 h
    → HoldsOnly o h (λ b. one_if (is_free_block t b))
mounts-alone image c t tells o e h holds alone =
    let w = c.walked in
    let at : Origin = record o { sizes = geometry_of image } in
    let same : o ≡ at = λ i. record o { sizes = e i } in
    subst (λ (x : Origin). HoldsOnly x h (λ b. one_if (is_free_block t b))) (sym same)
    (free-alone at image w.sized.sizes.bounds w.sized.sizes.length
    (none-bad (geometry_of image) image w.range w.twice) c.chain c.lost t tells h holds alone)
