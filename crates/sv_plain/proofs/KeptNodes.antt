-- What is kept beside the maps stays true as nodes change.
use Rattle.std.proofs.Common.{◌≡◌, ◌≤◌, ℕ, ◌+◌, ◌-◌, Bool, true, false, cond, Option, Some, None, IsSome, List, option_map, option_and_then, sym, refl, ap, subst, ◌∙◌, arith}
use Rattle.std.specs.Ordering.{nat_cmp, eq_by_cmp}
use Rattle.std.specs.Cmp.{nat_cmp_total}
use Rattle.std.specs.FinMap as map
use Rattle.std.specs.FinMap.{nat_cmp-IsAntisymmetric}
use Rattle.std.specs.FinSet as set
use Rattle.sv_form.specs.Pair.{pair_cmp}
use Rattle.sv_form.specs.Node.{Node, block_set, numbers_per, used}
use Rattle.sv_plain.specs.declared.fs.Fs.TheInside.{Inside}
use Rattle.sv_plain.specs.Totals.{at_or_0}
use Rattle.sv_plain.specs.Fs.{used_by_all, changed, insert_some, with_page}
use Rattle.sv_form.specs.NodeChanges.{emptied}
use Rattle.sv_plain.specs.Change.{with_links}
use Rattle.sv_plain.specs.Keeping.{IsKept, AreBlocksOf}
use Rattle.sv_plain.proofs.Undone.{insert-known, insert-insert, insert-remove}
use Rattle.sv_plain.proofs.Used.{used-none, used_by_all-insert, block_set-empty, block_set-insert}
use Rattle.sv_plain.proofs.Kept.{its_blocks, blocks-insert, some_of}
use Rattle.sv_plain.proofs.Totals.{total-remove}

abbrev pub Nodes : Type 0
Nodes = map.FinMap nat_cmp Node

passed_over : {A B : Type 0} (f : A → B) (b : Bool) (o : Option A) → cond b None (option_map f o) ≡ option_map f (cond b None o)
passed_over f true o = refl
passed_over f false o = refl

blocks-remove : (block : ℕ) (nodes : Nodes) (blocks : map.FinMap nat_cmp (set.FinSet pair_cmp)) (n : ℕ)
    → AreBlocksOf block nodes blocks → AreBlocksOf block (map.remove nodes n) (map.remove blocks n)
blocks-remove block nodes blocks n h i =
    map.get-remove nat_cmp_total blocks n i
    ∙ ap (cond (eq_by_cmp nat_cmp i n) None) (h i)
    ∙ passed_over (its_blocks block) (eq_by_cmp nat_cmp i n) (map.get nodes i)
    ∙ ap (option_map (its_blocks block)) (sym (map.get-remove nat_cmp_total nodes n i))

used_by_all-remove : (block : ℕ) (nodes : Nodes) (n : ℕ) → used_by_all block (map.remove nodes n) + at_or_0 (used block) (map.get nodes n) ≡ used_by_all block nodes
unfolding used_by_all
used_by_all-remove block nodes n = total-remove nat_cmp_total nat_cmp-IsAntisymmetric (λ (_ : ℕ) (node : Node). used block node) nodes n

len_used : (block : ℕ) (o : Option Node) → at_or_0 set.len (option_map (its_blocks block) o) ≡ at_or_0 (used block) o
unfolding used
len_used block None = refl
len_used block (Some node) = refl

-- how many blocks are kept of a node
pub blocks-len : (a : Inside) (n : ℕ) → IsKept a → at_or_0 set.len (map.get a.blocks n) ≡ at_or_0 (used a.block_size) (map.get a.nodes n)
blocks-len a n k = ap (at_or_0 set.len) (k.blocks n) ∙ len_used a.block_size (map.get a.nodes n)

module _ (a : Inside) (n : ℕ) (k : IsKept a) where
  -- no node uses more than all
  pub used-within : at_or_0 set.len (map.get a.blocks n) ≤ a.used
  used-within = omega (arith, k.used, blocks-len a n k, used_by_all-remove a.block_size a.nodes n)

  pub kept-removed : IsKept (record a { nodes = map.remove a.nodes n; blocks = map.remove a.blocks n; used = a.used - at_or_0 set.len (map.get a.blocks n) })
  kept-removed = record {
    sized = k.sized;
    blocks = blocks-remove a.block_size a.nodes a.blocks n k.blocks;
    used = omega (arith, k.used, blocks-len a n k, used_by_all-remove a.block_size a.nodes n);
    promised = k.promised;
    taken = k.taken;
    held = k.held;
  }

-- a node that has the same blocks
kept-same_blocks : (a : Inside) (n : ℕ) (node other : Node) → map.get a.nodes n ≡ Some node → its_blocks a.block_size other ≡ its_blocks a.block_size node → IsKept a → IsKept (record a { nodes = map.insert a.nodes n other })
unfolding used
kept-same_blocks a n node other there mine k =
    let blocks : map.insert a.blocks n (its_blocks a.block_size other) ≡ a.blocks =
    insert-known nat_cmp_total nat_cmp-IsAntisymmetric a.blocks n (its_blocks a.block_size other) (k.blocks n ∙ ap (option_map (its_blocks a.block_size)) there ∙ ap Some (sym mine)) in
    let before : at_or_0 (used a.block_size) (map.get a.nodes n) ≡ used a.block_size other = ap (at_or_0 (used a.block_size)) there ∙ ap set.len (sym mine) in
    record {
      sized = k.sized;
      blocks = subst (AreBlocksOf a.block_size (map.insert a.nodes n other)) blocks (blocks-insert a.block_size a.nodes a.blocks n other k.blocks);
      used = omega (arith, k.used, before, used_by_all-insert a.block_size a.nodes n other);
      promised = k.promised;
      taken = k.taken;
      held = k.held;
    }

-- a node with the same pages
pub kept-same_pages : (a : Inside) (n : ℕ) (node other : Node) → map.get a.nodes n ≡ Some node → other.pages ≡ node.pages → IsKept a → IsKept (record a { nodes = map.insert a.nodes n other })
kept-same_pages a n node other there same k =
    kept-same_blocks a n node other there (ap (λ (m : map.FinMap nat_cmp (List ℕ)). block_set (numbers_per a.block_size) (map.keys m)) same) k

-- other bytes in a page that is there take the same blocks
same_keys : (per : ℕ) (m : map.FinMap nat_cmp (List ℕ)) (p : ℕ) (old new : List ℕ) → map.get m p ≡ Some old → block_set per (map.keys (map.insert m p new)) ≡ block_set per (map.keys m)
same_keys per m p old new there =
    let back : map.insert (map.remove m p) p old ≡ m = insert-remove nat_cmp_total nat_cmp-IsAntisymmetric m p old there in
    let forth : map.insert (map.remove m p) p new ≡ map.insert m p new =
    sym (insert-insert nat_cmp_total nat_cmp-IsAntisymmetric (map.remove m p) p old new) ∙ ap (λ k. map.insert k p new) back in
    ap (λ k. block_set per (map.keys k)) (sym forth)
    ∙ block_set-insert per (map.remove m p) p new
    ∙ sym (block_set-insert per (map.remove m p) p old)
    ∙ ap (λ k. block_set per (map.keys k)) back

pub kept-replaced : (a : Inside) (n page : ℕ) (old new : List ℕ) (node : Node) → map.get a.nodes n ≡ Some node → map.get node.pages page ≡ Some old → IsKept a → IsKept (record a { nodes = map.insert a.nodes n (with_page page new node) })
kept-replaced a n page old new node there known k =
    kept-same_blocks a n node (with_page page new node) there (same_keys (numbers_per a.block_size) node.pages page old new known) k

-- the page of a node that is there
pub page-there : (o : Option Node) (page : ℕ) (node : Node) → o ≡ Some node → IsSome (option_and_then (λ (n : Node). map.get n.pages page) o) → (old : List ℕ) × (map.get node.pages page ≡ Some old)
page-there o page node there known = some_of (map.get node.pages page) (subst (λ (o : Option Node). IsSome (option_and_then (λ (n : Node). map.get n.pages page) o)) there known)

-- a node without pages in place of another
pub kept-emptied : (a : Inside) (n : ℕ) (node : Node) → node.pages ≡ map.empty → IsKept a
    → IsKept (record a { nodes = map.insert a.nodes n node; blocks = map.insert a.blocks n set.empty; used = a.used - at_or_0 set.len (map.get a.blocks n) })
kept-emptied a n node none k =
    let mine : its_blocks a.block_size node ≡ set.empty = ap (λ (m : map.FinMap nat_cmp (List ℕ)). block_set (numbers_per a.block_size) (map.keys m)) none ∙ block_set-empty (numbers_per a.block_size) in
    record {
      sized = k.sized;
      blocks = subst (λ (s : set.FinSet pair_cmp). AreBlocksOf a.block_size (map.insert a.nodes n node) (map.insert a.blocks n s)) mine (blocks-insert a.block_size a.nodes a.blocks n node k.blocks);
      used = omega (arith, k.used, blocks-len a n k, used-none a.block_size node none, used_by_all-insert a.block_size a.nodes n node);
      promised = k.promised;
      taken = k.taken;
      held = k.held;
    }

-- what is there, as it was and as it is changed
pub changed-there : (nodes : Nodes) (n : ℕ) (f : Node → Node) (node : Node) → map.get nodes n ≡ Some node → map.insert nodes n (f node) ≡ changed nodes n f
changed-there nodes n f node there = sym (ap (λ o. insert_some nodes n (option_map f o)) there)
