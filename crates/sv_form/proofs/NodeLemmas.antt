-- What a node uses, computed.
use Rattle.std.proofs.Common.{◌≡◌, ◌+◌, ◌-◌, ◌*◌, ◌/◌, ◌<◌, ◌≤◌, ◌==◌, ◌++◌, T, ℕ, zero, suc, Bool, true, false, cond, List, [], ◌∷◌, Option, Some, None, length, map, replicate, take, drop, get_or, All, if◌then◌else◌, arith, ap, refl, sym, subst, ◌∙◌, unwrap_or}
use Rattle.std.specs.List.{flat_map, list_any, range_with_len}
use Rattle.std.specs.Ordering.{nat_cmp, eq_by_cmp}
use Rattle.std.specs.FinMap.{is_sorted}
use Rattle.std.specs.FinMap as fmap
use Rattle.std.specs.FinSet as set
use Rattle.sv_form.specs.Pair.{pair_cmp, pair_cmp_total}
use Rattle.sv_form.specs.Node.{Node, used, block_set, blocks_at, above, numbers_per}
use Rattle.sv_form.specs.declared.kind.Kind.TheVariants.{File}

-- how many different pairs a list has
abbrev pub different : List (ℕ × ℕ) → ℕ
different [] = 0
different (p ∷ ps) = if list_any (eq_by_cmp pair_cmp p) ps then different ps else different ps + 1

pub len_is_different : (ps : List (ℕ × ℕ)) → set.len (set.from_list {R = pair_cmp} ps) ≡ different ps
len_is_different [] = set.len-empty pair_cmp
len_is_different (p ∷ ps) =
    set.len-insert pair_cmp_total (set.from_list ps) p
    ∙ ap (λ (b : Bool). cond b (set.len (set.from_list {R = pair_cmp} ps)) (set.len (set.from_list {R = pair_cmp} ps) + 1)) (set.contains-from_list pair_cmp_total ps p)
    ∙ ap (λ (n : ℕ). cond (list_any (eq_by_cmp pair_cmp p) ps) n (n + 1)) (len_is_different ps)

-- how many blocks a node uses, as it is computed from the numbers of its pages
pub used_is : (block : ℕ) (node : Node) → used block node ≡ different (flat_map (blocks_at (numbers_per block)) (fmap.keys node.pages))
unfolding used block_set
used_is block node = len_is_different (flat_map (blocks_at (numbers_per block)) (fmap.keys node.pages))

-- ---- worked examples, with blocks of 1,024 bytes

-- a file with these pages, whose numbers ascend
abbrev with_pages : List (ℕ × List ℕ) → Node
with_pages pages = record { kind = File; mode = 0; links = 1; size = 0; pages = fmap.from_sorted pages }

abbrev uses : List (ℕ × List ℕ) → ℕ
uses pages = used 1024 (with_pages pages)

uses_is : (pages : List (ℕ × List ℕ)) → T (is_sorted nat_cmp pages) → uses pages ≡ different (flat_map (blocks_at 256) (map (λ e. e.0) pages))
uses_is pages sorted =
    used_is 1024 (with_pages pages) ∙ ap (λ (es : List (ℕ × List ℕ)). different (flat_map (blocks_at 256) (map (λ e. e.0) es))) (fmap.entries-from_sorted nat_cmp pages sorted)

-- no page, and a direct one
uses_none : uses [] ≡ 0
uses_none = uses_is [] tt

uses_direct : uses ((9, []) ∷ []) ≡ 1
uses_direct = uses_is ((9, []) ∷ []) tt

-- the pages 9 and 10: the single indirect block
uses_single : uses ((9, []) ∷ (10, []) ∷ []) ≡ 3
uses_single = uses_is ((9, []) ∷ (10, []) ∷ []) tt

-- the pages 265 and 266: the single one, and two blocks of the double one
uses_double : uses ((265, []) ∷ (266, []) ∷ []) ≡ 5
uses_double = uses_is ((265, []) ∷ (266, []) ∷ []) tt

-- page 65,801 alone, at the end of the double one, and page 65,802, at the beginning of the triple one
uses_last_double : uses ((65801, []) ∷ []) ≡ 3
uses_last_double = uses_is ((65801, []) ∷ []) tt

uses_triple : uses ((65802, []) ∷ []) ≡ 4
uses_triple = uses_is ((65802, []) ∷ []) tt

-- the next page shares all of its blocks, and the one 256 pages on all but the lowest
uses_next : uses ((65802, []) ∷ (65803, []) ∷ []) ≡ 5
uses_next = uses_is ((65802, []) ∷ (65803, []) ∷ []) tt

uses_far : uses ((65802, []) ∷ (66058, []) ∷ []) ≡ 6
uses_far = uses_is ((65802, []) ∷ (66058, []) ∷ []) tt

-- the pages 9, 10 and 65,802: the single indirect block, and three blocks of the triple one
uses_seven : uses ((9, []) ∷ (10, []) ∷ (65802, []) ∷ []) ≡ 7
uses_seven = uses_is ((9, []) ∷ (10, []) ∷ (65802, []) ∷ []) tt
