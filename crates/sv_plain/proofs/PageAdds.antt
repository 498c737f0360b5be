-- How many blocks a page adds to those that a node uses: those of its blocks that the node lacks.
use Rattle.std.proofs.Common.{◌≡◌, ◌≤◌, ◌<◌, ℕ, ◌+◌, ◌-◌, ◌*◌, ◌/◌, Bool, true, false, cond, not, ◌||◌, List, [], ◌∷◌, ◌++◌, nat_lt, if◌then◌else◌, Option, Some, None, option_map, sym, refl, ap, ◌∙◌, arith}
use Rattle.std.proofs.lemmas.List.Sums.{sum_by-cons}
use Rattle.std.specs.List.{count_by}
use Rattle.std.specs.Ordering.{eq_by_cmp}
use Rattle.std.specs.Cmp.{Equal-is}
use Rattle.std.specs.FinMap as map
use Rattle.std.specs.FinSet as set
use Rattle.sv_form.specs.Pair.{pair_cmp, pair_cmp_total, pair_cmp-IsAntisymmetric}
use Rattle.sv_form.specs.Node.{Node, blocks_at, block_set, numbers_per}
use Rattle.sv_plain.specs.Blocks.{with_blocks}
use Rattle.sv_plain.specs.Totals.{at_or_0, one_if}
use Rattle.sv_plain.specs.Needs.{blocks_added}
use Rattle.sv_plain.specs.declared.fs.Fs.TheInside.{Inside}
use Rattle.sv_plain.specs.Keeping.{IsKept}
use Rattle.sv_plain.proofs.UsedPages.{block_set-snoc}

-- the set lacks the block
abbrev pub lacks : set.FinSet pair_cmp → ℕ × ℕ → Bool
lacks s b = not (set.contains s b)

-- the heights of the blocks rise from `low` on
abbrev Rises : ℕ → List (ℕ × ℕ) → Type 0
Rises low [] = Unit {0}
Rises low (b ∷ bs) = (low ≤ b.0) × Rises (b.0 + 1) bs

count-pair : (p : ℕ × ℕ → Bool) (b : ℕ × ℕ) (bs : List (ℕ × ℕ)) → count_by p (b ∷ bs) ≡ one_if (p b) + count_by p bs
count-pair p b bs = sum_by-cons (λ q. cond (p q) 1 0) b bs

-- blocks of two heights are two
other_height : (b q : ℕ × ℕ) → b.0 < q.0 → eq_by_cmp pair_cmp q b ≡ false
other_height b q h =
    elim (eq_by_cmp pair_cmp q b) as (λ t. eq_by_cmp pair_cmp q b ≡ t → t ≡ false) [
      | true ↦ λ e. (let same : q.0 ≡ b.0 = ap (λ (p : ℕ × ℕ). p.0) (pair_cmp-IsAntisymmetric q b ((Equal-is (pair_cmp q b)).0 e)) in absurd (omega (arith, same, h)))
      | false ↦ λ _. refl
    ] refl

-- a block below them takes nothing from what a set lacks
count-insert : (s : set.FinSet pair_cmp) (b : ℕ × ℕ) (low : ℕ) (bs : List (ℕ × ℕ)) → b.0 < low → Rises low bs → count_by (lacks (set.insert s b)) bs ≡ count_by (lacks s) bs
count-insert s b low [] h r = refl
count-insert s b low (q ∷ qs) h r =
    let here : one_if (lacks (set.insert s b) q) ≡ one_if (lacks s q) =
    ap (λ t. one_if (not t)) (set.contains-insert pair_cmp_total s b q ∙ ap (λ t. t || set.contains s q) (other_height b q (omega (arith, h, r.0)))) in
    omega (arith, here, count-insert s b (q.0 + 1) qs (omega (arith, h, r.0)) r.1, count-pair (lacks (set.insert s b)) q qs, count-pair (lacks s) q qs)

one_in : (t : Bool) (n : ℕ) → cond t n (n + 1) ≡ n + one_if (not t)
one_in true n = omega arith
one_in false n = omega arith

-- blocks of rising heights add those that the set lacks
grown : (s : set.FinSet pair_cmp) (low : ℕ) (bs : List (ℕ × ℕ)) → Rises low bs → set.len (with_blocks s bs) ≡ set.len s + count_by (lacks s) bs
grown s low [] r = omega arith
grown s low (b ∷ bs) r =
    let one : set.len (set.insert s b) ≡ set.len s + one_if (lacks s b) = set.len-insert pair_cmp_total s b ∙ one_in (set.contains s b) (set.len s) in
    omega (arith, one, grown (set.insert s b) (b.0 + 1) bs r.1, count-insert s b (b.0 + 1) bs (omega arith) r.1, count-pair (lacks s) b bs)

rising : (a b c : Bool) (p x y : ℕ) → Rises 0 ((0, p) ∷ (if a then [] else (1, x) ∷ (if b then [] else (2, y) ∷ (if c then [] else (3, 0) ∷ []))))
rising true b c p x y = (omega arith, tt)
rising false true c p x y = (omega arith, (omega arith, tt))
rising false false true p x y = (omega arith, (omega arith, (omega arith, tt)))
rising false false false p x y = (omega arith, (omega arith, (omega arith, (omega arith, tt))))

blocks-rise : (per page : ℕ) → Rises 0 (blocks_at per page)
blocks-rise per page =
    rising (nat_lt page 10) (nat_lt page (10 + per)) (nat_lt page (10 + per + per * per)) page ((page - 10) / per) ((page - (10 + per)) / (per * per))

-- a page adds those of its blocks that are missing
pub page-adds : (block page : ℕ) (node : Node)
    → count_by (lacks (block_set (numbers_per block) (map.keys node.pages))) (blocks_at (numbers_per block) page) ≡ blocks_added block node (page ∷ [])
unfolding blocks_added
page-adds block page node =
    let per : ℕ = numbers_per block in
    let before : set.FinSet pair_cmp = block_set per (map.keys node.pages) in
    let now : set.len (block_set per (map.keys node.pages ++ page ∷ [])) ≡ set.len (with_blocks before (blocks_at per page)) = ap set.len (block_set-snoc per (map.keys node.pages) page) in
    omega (arith, now, grown before 0 (blocks_at per page) (blocks-rise per page))

missing-of : (block page : ℕ) (s : set.FinSet pair_cmp) (o : Option Node) → Some s ≡ option_map (λ node. block_set (numbers_per block) (map.keys node.pages)) o
    → count_by (lacks s) (blocks_at (numbers_per block) page) ≡ at_or_0 (λ node. blocks_added block node (page ∷ [])) o
missing-of block page s None e = cc
missing-of block page s (Some node) e =
    let is : s ≡ block_set (numbers_per block) (map.keys node.pages) = cc in
    ap (λ t. count_by (lacks t) (blocks_at (numbers_per block) page)) is ∙ page-adds block page node

nothing-of : (block page : ℕ) (o : Option Node) → None ≡ option_map (λ node. block_set (numbers_per block) (map.keys node.pages)) o → 0 ≡ at_or_0 (λ node. blocks_added block node (page ∷ [])) o
nothing-of block page None e = refl
nothing-of block page (Some node) e = cc

-- the same by what is kept of the blocks
pub kept-adds : (a : Inside) (i page : ℕ) (s : set.FinSet pair_cmp) → IsKept a → map.get a.blocks i ≡ Some s
    → count_by (lacks s) (blocks_at (numbers_per a.block_size) page) ≡ at_or_0 (λ node. blocks_added a.block_size node (page ∷ [])) (map.get a.nodes i)
kept-adds a i page s k there = missing-of a.block_size page s (map.get a.nodes i) (sym there ∙ k.blocks i)

pub kept-none : (a : Inside) (i page : ℕ) → IsKept a → map.get a.blocks i ≡ None → 0 ≡ at_or_0 (λ node. blocks_added a.block_size node (page ∷ [])) (map.get a.nodes i)
kept-none a i page k none = nothing-of a.block_size page (map.get a.nodes i) (sym none ∙ k.blocks i)
