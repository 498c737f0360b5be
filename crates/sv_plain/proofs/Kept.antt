-- What is kept beside the maps stays true as the maps change.
use Rattle.std.proofs.Common.{◌≡◌, ◌≤◌, ℕ, ◌+◌, ◌-◌, Bool, Option, List, [], ◌∷◌, length, ◌*◌, ◌/◌, nat_lt, if◌then◌else◌, true, false, cond, Some, None, IsSome, is_some, option_map, Result, Ok, Err, is_ok, OnOk, OnErr, sym, refl, ap, subst, ◌∙◌, arith}
use Rattle.std.specs.Ordering.{nat_cmp, eq_by_cmp}
use Rattle.std.specs.Cmp.{nat_cmp_total}
use Rattle.std.specs.FinMap as map
use Rattle.std.specs.FinMap.{nat_cmp-IsAntisymmetric}
use Rattle.std.specs.FinSet as set
use Rattle.sv_form.specs.declared.kind.Kind.{Kind}
use Rattle.sv_form.specs.Pair.{pair_cmp}
use Rattle.sv_form.specs.Node.{Node, block_set, blocks_at, numbers_per, used}
use Rattle.sv_plain.specs.declared.fs.Fs.TheInside.{Inside}
use Rattle.sv_plain.specs.Blocks.{with_blocks}
use Rattle.sv_plain.specs.Totals.{at_or_0}
use Rattle.std.proofs.lemmas.Bool.{false≢true}
use Rattle.sv_plain.specs.Fs.{Fs, used_by_all, node_without_pages, with_page, insert_some, changed, free_inodes}
use Rattle.sv_plain.specs.Whole.{IsWhole}
use Rattle.sv_plain.specs.Keeping.{IsKept, AreBlocksOf}
use Rattle.sv_plain.proofs.Counts.{count_missing, same_key}
use Rattle.sv_plain.proofs.Undone.{remove-insert, insert-known}
use Rattle.sv_plain.proofs.Used.{block_set-empty, block_set-insert, len-with_blocks, used-none, used_by_all-insert}

mapped : {A B : Type 0} (f : A → B) (b : Bool) (x : A) (o : Option A) → cond b (Some (f x)) (option_map f o) ≡ option_map f (cond b (Some x) o)
mapped f true x o = refl
mapped f false x o = refl

-- the set of blocks that belongs to a node
abbrev pub its_blocks : ℕ → Node → set.FinSet pair_cmp
its_blocks block node = block_set (numbers_per block) (map.keys node.pages)

pub blocks-insert : (block : ℕ) (nodes : map.FinMap nat_cmp Node) (blocks : map.FinMap nat_cmp (set.FinSet pair_cmp)) (n : ℕ) (node : Node)
    → AreBlocksOf block nodes blocks → AreBlocksOf block (map.insert nodes n node) (map.insert blocks n (its_blocks block node))
blocks-insert block nodes blocks n node h i =
    map.get-insert nat_cmp_total blocks n (its_blocks block node) i
    ∙ ap (cond (eq_by_cmp nat_cmp i n) (Some (its_blocks block node))) (h i)
    ∙ mapped (its_blocks block) (eq_by_cmp nat_cmp i n) node (map.get nodes i)
    ∙ ap (option_map (its_blocks block)) (sym (map.get-insert nat_cmp_total nodes n node i))

-- a node without pages is added
pub kept-add_node : (a : Inside) (n : ℕ) (kind : Kind) (mode links size : ℕ) → map.get a.nodes n ≡ None → IsKept a
    → IsKept (record a { nodes = map.insert a.nodes n (node_without_pages kind mode links size); blocks = map.insert a.blocks n set.empty })
kept-add_node a n kind mode links size absent k = record {
  blocks = subst (λ (s : set.FinSet pair_cmp). AreBlocksOf a.block_size (map.insert a.nodes n (node_without_pages kind mode links size)) (map.insert a.blocks n s))
      (block_set-empty (numbers_per a.block_size))
      (blocks-insert a.block_size a.nodes a.blocks n (node_without_pages kind mode links size) k.blocks);
  used =
      (let node : Node = node_without_pages kind mode links size in
      let changed = used_by_all-insert a.block_size a.nodes n node in
      let none : used a.block_size node ≡ 0 = used-none a.block_size node refl in
      let before : at_or_0 (used a.block_size) (map.get a.nodes n) ≡ 0 = ap (at_or_0 (used a.block_size)) absent in
      omega (arith, k.used, changed, none, before));
  sized = k.sized;
  promised = k.promised;
  taken = k.taken;
  held = k.held;
}

pub some_of : {A : Type 0} (o : Option A) → is_some o ≡ true → (x : A) × (o ≡ Some x)
some_of None e = absurd (false≢true e)
some_of (Some x) e = (x, refl)

-- the numbers without a node and the nodes are all numbers from 2 on
pub free_inodes-len : (fs : Fs) → IsWhole fs → free_inodes fs + map.len fs.nodes ≡ fs.inodes - 1
free_inodes-len fs w =
    count_missing 2 (fs.inodes - 1) fs.nodes
    (λ i some. let node = some_of (map.get fs.nodes i) some in let n = w.nodes i node.0 node.1 in (n.least, omega (arith, n.least, n.most)))

-- a node that was added is taken out again
pub kept-undone : (a : Inside) (n : ℕ) (node : Node) → map.get a.nodes n ≡ None → map.remove (map.insert a.nodes n node) n ≡ a.nodes
kept-undone a n node absent = remove-insert nat_cmp_total nat_cmp-IsAntisymmetric a.nodes n node absent

-- a page is added to a node
pub kept-put_page : (a : Inside) (n page : ℕ) (bytes : List ℕ) (node : Node) → map.get a.nodes n ≡ Some node → IsKept a
    → (let more : set.FinSet pair_cmp = with_blocks (its_blocks a.block_size node) (blocks_at (numbers_per a.block_size) page) in
    IsKept (record a { nodes = map.insert a.nodes n (with_page page bytes node); blocks = map.insert a.blocks n more; used = a.used + (set.len more - set.len (its_blocks a.block_size node)) }))
unfolding used
kept-put_page a n page bytes node there k =
    let per : ℕ = numbers_per a.block_size in
    let more : set.FinSet pair_cmp = with_blocks (its_blocks a.block_size node) (blocks_at per page) in
    let same : its_blocks a.block_size (with_page page bytes node) ≡ more = block_set-insert per node.pages page bytes in
    record {
      sized = k.sized;
      blocks = subst (λ (s : set.FinSet pair_cmp). AreBlocksOf a.block_size (map.insert a.nodes n (with_page page bytes node)) (map.insert a.blocks n s))
          same
          (blocks-insert a.block_size a.nodes a.blocks n (with_page page bytes node) k.blocks);
      used =
          (let changed = used_by_all-insert a.block_size a.nodes n (with_page page bytes node) in
          let before : at_or_0 (used a.block_size) (map.get a.nodes n) ≡ set.len (its_blocks a.block_size node) = ap (at_or_0 (used a.block_size)) there in
          let after : used a.block_size (with_page page bytes node) ≡ set.len more = ap set.len same in
          let grown = len-with_blocks (its_blocks a.block_size node) (blocks_at per page) in
          omega (arith, k.used, changed, before, after, grown.0));
      promised = k.promised;
      taken = k.taken;
      held = k.held;
    }

-- the blocks of a node that is there
pub blocks-there : (a : Inside) (n : ℕ) (node : Node) → map.get a.nodes n ≡ Some node → IsKept a → map.get a.blocks n ≡ Some (its_blocks a.block_size node)
blocks-there a n node there k = k.blocks n ∙ ap (option_map (its_blocks a.block_size)) there

-- a page is added to a node, or nothing is
pub kept-page_or_not : (b : Bool) (a : Inside) (n page : ℕ) (bytes : List ℕ) (node : Node) → map.get a.nodes n ≡ Some node → IsKept a
    → (let old : set.FinSet pair_cmp = its_blocks a.block_size node in
    let new : set.FinSet pair_cmp = cond b (with_blocks old (blocks_at (numbers_per a.block_size) page)) old in
    IsKept (record a { nodes = map.insert a.nodes n (cond b (with_page page bytes node) node); blocks = map.insert a.blocks n new; used = a.used + (set.len new - set.len old) }))
kept-page_or_not true a n page bytes node there k = kept-put_page a n page bytes node there k
kept-page_or_not false a n page bytes node there k =
    let nodes : map.insert a.nodes n node ≡ a.nodes = insert-known nat_cmp_total nat_cmp-IsAntisymmetric a.nodes n node there in
    let blocks : map.insert a.blocks n (its_blocks a.block_size node) ≡ a.blocks = insert-known nat_cmp_total nat_cmp-IsAntisymmetric a.blocks n _ (blocks-there a n node there k) in
    let same : used_by_all a.block_size (map.insert a.nodes n node) ≡ used_by_all a.block_size a.nodes = ap (used_by_all a.block_size) nodes in
    record {
      sized = k.sized;
      blocks = rw (nodes, blocks) k.blocks;
      used = omega (arith, same, k.used);
      promised = k.promised;
      taken = k.taken;
      held = k.held;
    }

three : (a b c : Bool) (p q r : ℕ × ℕ) → length (p ∷ (if a then [] else q ∷ (if b then [] else r ∷ (if c then [] else (3, 0) ∷ [])))) ≤ 4
three true b c p q r = omega arith
three false true c p q r = omega arith
three false false true p q r = omega arith
three false false false p q r = omega arith

at_most_four : (per page : ℕ) → length (blocks_at per page) ≤ 4
at_most_four per page =
    three (nat_lt page 10) (nat_lt page (10 + per)) (nat_lt page (10 + per + per * per)) (0, page) (1, (page - 10) / per) (2, (page - (10 + per)) / (per * per))

pub page-grown : (b : Bool) (per page : ℕ) (s : set.FinSet pair_cmp) → (set.len s ≤ set.len (cond b (with_blocks s (blocks_at per page)) s)) × (set.len (cond b (with_blocks s (blocks_at per page)) s) ≤ set.len s + 4)
page-grown true per page s =
    let grown = len-with_blocks s (blocks_at per page) in
    (grown.0, omega (arith, grown.1, at_most_four per page))
page-grown false per page s = (omega arith, omega arith)

pub page-added : (nodes : map.FinMap nat_cmp Node) (n page : ℕ) (bytes : List ℕ) (node : Node) → map.get nodes n ≡ Some node
    → map.insert nodes n (with_page page bytes node) ≡ changed nodes n (with_page page bytes)
page-added nodes n page bytes node there = sym (ap (λ o. insert_some nodes n (option_map (with_page page bytes) o)) there)

same_item : {A : Type 0} (x y : A) → Some x ≡ Some y → x ≡ y
same_item x y e = cc

pub its_blocks-taken : (a : Inside) (n : ℕ) (node : Node) (s : set.FinSet pair_cmp) → map.get a.nodes n ≡ Some node → map.get a.blocks n ≡ Some s → IsKept a → s ≡ its_blocks a.block_size node
its_blocks-taken a n node s there taken k = same_item s (its_blocks a.block_size node) (sym taken ∙ blocks-there a n node there k)

-- what stands at a key after two insertions
pub there-twice : {X : Type 0} (m : map.FinMap nat_cmp X) (k : ℕ) (x : X) → IsSome (map.get (map.insert m k x) k)
there-twice m k x = subst IsSome (sym (map.get-insert nat_cmp_total m k x k ∙ ap (λ b. cond b (Some x) (map.get m k)) (same_key k))) refl

pub on_ok : {T E : Type 0} (r : Result T E) (P : Type 0) → (is_ok r ≡ true → P) → OnOk r P
on_ok (Ok x) P h = h refl
on_ok (Err e) P h = tt

pub on_err : {T E : Type 0} (r : Result T E) (P : Type 0) → (is_ok r ≡ false → P) → OnErr r P
on_err (Ok x) P h = tt
on_err (Err e) P h = h refl
