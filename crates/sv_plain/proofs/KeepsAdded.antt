-- A file system stays whole where a node comes at a free number: a regular file, or a directory without links.
use Rattle.std.proofs.Common.{◌≡◌, ◌≢◌, ◌≤◌, ◌<◌, T, ℕ, zero, suc, ◌+◌, ◌-◌, ◌==◌, ◌⊎◌, inl, inr, Bool, true, false, cond, if◌then◌else◌, List, [], ◌∷◌, Some, None, IsSome, sym, refl, ap, ◌∙◌, arith}
use Rattle.std.proofs.lemmas.Bool.{false≢true, ne_eqb}
use Rattle.std.proofs.lemmas.List.Sums.{sum_by-cons}
use Rattle.std.specs.List.{sum_by, range_with_len, count_by}
use Rattle.std.specs.Ordering.{nat_cmp, eq_by_cmp}
use Rattle.std.specs.Cmp.{nat_cmp_total, Equal-is}
use Rattle.std.specs.FinMap as map
use Rattle.std.specs.FinMap.{FinMap, nat_cmp-IsAntisymmetric, find, is_sorted}
use Rattle.std.specs.FinMap.Entries.{below_all}
use Rattle.sv_form.specs.declared.kind.Kind.TheVariants.{File}
use Rattle.sv_form.specs.Node.{Node, entry_inode, entry_count}
use Rattle.sv_plain.specs.Totals.{total, at_or_0}
use Rattle.sv_plain.specs.Fs.{Fs, used_by_all, promised, is_live, naming_count, namings, children, pending_on}
use Rattle.sv_plain.specs.Whole.{IsWhole, IsNode, IsDirectory, IsPlaced, parent_of, ascend}
use Rattle.sv_plain.proofs.Counts.{none_after, same_key, count_alike, count_none, left, right}
use Rattle.sv_plain.proofs.Totals.{total-insert}
use Rattle.sv_plain.proofs.KeepsRemoval.{Nodes, above-live}
use Rattle.sv_plain.proofs.KeepsReferences.{some_item}
use Rattle.sv_plain.proofs.KeepsPromises.{Promises}
use Rattle.sv_plain.proofs.KeepsFile.{get_other, get_new, still_some}
use Rattle.sv_plain.proofs.KeepsDirectory.{each_node}

-- ---- a sum of zeros

found_later : {X : Type 0} (e : ℕ × X) (es : List (ℕ × X)) → T (is_sorted nat_cmp (e ∷ es)) → (k : ℕ) (v : X) → find nat_cmp k es ≡ Some v → find nat_cmp k (e ∷ es) ≡ Some v
found_later e es s k v h =
    elim (eq_by_cmp nat_cmp k e.0) as (λ b. eq_by_cmp nat_cmp k e.0 ≡ b → cond b (Some e.1) (find nat_cmp k es) ≡ Some v) [
      | true ↦ λ t.
          (let same : k ≡ e.0 = nat_cmp-IsAntisymmetric k e.0 ((Equal-is (nat_cmp k e.0)).0 t) in
          let clash : None ≡ Some v = sym (none_after e.0 es (left _ _ s)) ∙ ap (λ n. find nat_cmp n es) (sym same) ∙ h in
          cc)
      | false ↦ λ _. h
    ] refl

sum_zero : {X : Type 0} (f : ℕ → X → ℕ) (es : List (ℕ × X)) → T (is_sorted nat_cmp es) → ((k : ℕ) (v : X) → find nat_cmp k es ≡ Some v → f k v ≡ 0) → sum_by (λ e. f e.0 e.1) es ≡ 0
sum_zero f [] s h = refl
sum_zero {X = X} f (e ∷ es) s h =
    let here : f e.0 e.1 ≡ 0 = h e.0 e.1 (ap (λ b. cond b (Some e.1) (find nat_cmp e.0 es)) (same_key e.0)) in
    let rest : sum_by (λ (e : ℕ × X). f e.0 e.1) es ≡ 0 = sum_zero f es (right (below_all nat_cmp e.0 es) (is_sorted nat_cmp es) s) (λ k v g. h k v (found_later e es s k v g)) in
    omega (arith, here, rest, sum_by-cons (λ (e : ℕ × X). f e.0 e.1) e es)

pub total-zero : {X : Type 0} (f : ℕ → X → ℕ) (m : FinMap nat_cmp X) → ((k : ℕ) (v : X) → map.get m k ≡ Some v → f k v ≡ 0) → total f m ≡ 0
unfolding total
total-zero f m h = sum_zero f (map.entries m) (map.entries_sorted m) (λ k v g. h k v (map.get-entries m k ∙ g))

live_or_0 : (b : Bool) (n : ℕ) → (b ≡ true → n ≡ 0) → (if b then n else 0) ≡ 0
live_or_0 true n h = h refl
live_or_0 false n h = refl

-- where no directory with links has an entry that names i, none is counted
pub unnamed : (block : ℕ) (nodes : Nodes) (i : ℕ) → ((d : ℕ) (x : Node) → map.get nodes d ≡ Some x → is_live x ≡ true → naming_count block x 0 i ≡ 0) → namings block nodes i ≡ 0
unfolding namings
unnamed block nodes i h = total-zero (λ (_ : ℕ) (n : Node). if is_live n then naming_count block n 0 i else 0) nodes (λ d x e. live_or_0 (is_live x) (naming_count block x 0 i) (h d x e))

pub no_children : (block : ℕ) (nodes : Nodes) (i : ℕ) → ((d : ℕ) (x : Node) → map.get nodes d ≡ Some x → is_live x ≡ true → naming_count block x 2 i ≡ 0) → children block nodes i ≡ 0
unfolding children
no_children block nodes i h = total-zero (λ (_ : ℕ) (n : Node). if is_live n then naming_count block n 2 i else 0) nodes (λ d x e. live_or_0 (is_live x) (naming_count block x 2 i) (h d x e))

-- ---- `..`, where it stays in all that is reached

pub ascend-alike : (block : ℕ) (nodes nodes' : Nodes) (P : ℕ → Type 0) → ((d : ℕ) → P d → (parent_of block nodes' d ≡ parent_of block nodes d) × P (parent_of block nodes d))
    → (k d : ℕ) → P d → ascend block nodes' k d ≡ ascend block nodes k d
ascend-alike block nodes nodes' P up zero d h = refl
ascend-alike block nodes nodes' P up (suc k) d h =
    let above = up d h in
    ap (ascend block nodes' k) above.0 ∙ ascend-alike block nodes nodes' P up k (parent_of block nodes d) above.1

abbrev pub IsLiveAt : Nodes → ℕ → Type 0
IsLiveAt nodes d = (x : Node) × (map.get nodes d ≡ Some x) × (is_live x ≡ true)

-- ---- a number without a node

pub not_absent : (nodes : Nodes) (i j : ℕ) (x : Node) → map.get nodes i ≡ None → map.get nodes j ≡ Some x → j ≢ i
not_absent nodes i j x none there s = (let clash : None ≡ Some x = sym none ∙ ap (map.get nodes) (sym s) ∙ there in cc)

pub absent-count : (fs : Fs) (w : IsWhole fs) (i : ℕ) → map.get fs.nodes i ≡ None → i ≢ 0 → (first d : ℕ) (x : Node) → map.get fs.nodes d ≡ Some x → is_live x ≡ true → naming_count fs.block x first i ≡ 0
unfolding naming_count
absent-count fs w i none some first d x e live =
    let all : List ℕ = range_with_len first (entry_count x - first) in
    let never : count_by (λ j. entry_inode fs.block x j == i) all ≡ count_by (λ _. false) all =
    count_alike (λ j. entry_inode fs.block x j == i) (λ _. false) first (entry_count x - first)
    (λ j low high. ne_eqb (entry_inode fs.block x j) i
    (λ s. (let y = some_item (map.get fs.nodes (entry_inode fs.block x j)) (w.named d x e live j (omega (arith, low, high)) (λ z. some (sym s ∙ z))) in
    absurd (not_absent fs.nodes i (entry_inode fs.block x j) y.0 none y.1 s)))) in
    omega (arith, never, count_none (λ _. false) first (entry_count x - first) (λ _. refl))

still_other : (nodes : Nodes) (i j : ℕ) (y new : Node) → map.get nodes i ≡ None → map.get nodes j ≡ Some y → map.get (map.insert nodes i new) j ≡ map.get nodes j
still_other nodes i j y new none there = get_other nodes i j new (not_absent nodes i j y none there)

-- what may come at number i, with these pending links and promises
pub record IsNewNode (fs : Fs) (i : ℕ) (new : Node) (pending promises : Promises) : Type 0 where
  pub absent : map.get fs.nodes i ≡ None
  pub dead : is_live new ≡ false
  pub node : IsNode fs.block fs.greatest fs.inodes i new
  pub few : new.links ≤ 1000
  pub links : new.links ≡ pending_on pending i
  pub others : (j : ℕ) → j ≢ i → pending_on pending j ≡ pending_on fs.pending j
  pub on : (p j : ℕ) → map.get pending p ≡ Some j → ((j ≡ i) × (new.kind ≡ File)) ⊎ (map.get fs.pending p ≡ Some j)
  pub blocks : used_by_all fs.block (map.insert fs.nodes i new) + promised promises ≤ fs.data_blocks

module _ (block : ℕ) (nodes : Nodes) (i : ℕ) (new : Node) (absent : map.get nodes i ≡ None) (dead : is_live new ≡ false) where
  no_new : (f : Node → ℕ) → (if is_live new then f new else 0) ≡ 0
  no_new f = ap (λ b. if b then f new else 0) dead

  no_old : (f : Node → ℕ) → at_or_0 (λ n. if is_live n then f n else 0) (map.get nodes i) ≡ 0
  no_old f = ap (at_or_0 (λ n. if is_live n then f n else 0)) absent

  namings-same : (j : ℕ) → namings block (map.insert nodes i new) j ≡ namings block nodes j
  unfolding namings
  namings-same j =
      omega (arith, no_old (λ n. naming_count block n 0 j), no_new (λ n. naming_count block n 0 j), total-insert nat_cmp_total nat_cmp-IsAntisymmetric (λ (_ : ℕ) (n : Node). if is_live n then naming_count block n 0 j else 0) nodes i new)

  children-same : (j : ℕ) → children block (map.insert nodes i new) j ≡ children block nodes j
  unfolding children
  children-same j =
      omega (arith, no_old (λ n. naming_count block n 2 j), no_new (λ n. naming_count block n 2 j), total-insert nat_cmp_total nat_cmp-IsAntisymmetric (λ (_ : ℕ) (n : Node). if is_live n then naming_count block n 2 j else 0) nodes i new)

  still : (d : ℕ) (x : Node) → map.get nodes d ≡ Some x → map.get (map.insert nodes i new) d ≡ Some x
  still d x e = get_other nodes i d new (not_absent nodes i d x absent e) ∙ e

pub keeps-added : (fs : Fs) (i : ℕ) (new : Node) (pending promises : Promises) → IsWhole fs → IsNewNode fs i new pending promises
    → IsWhole (record fs { nodes = map.insert fs.nodes i new; pending = pending; promises = promises })
keeps-added fs i new pending promises w o =
    let nodes' : Nodes = map.insert fs.nodes i new in
    let still : (d : ℕ) (x : Node) → map.get fs.nodes d ≡ Some x → map.get nodes' d ≡ Some x = still fs.block fs.nodes i new o.absent o.dead in
    let named : (j : ℕ) → namings fs.block nodes' j ≡ namings fs.block fs.nodes j = namings-same fs.block fs.nodes i new o.absent o.dead in
    let children' : (j : ℕ) → children fs.block nodes' j ≡ children fs.block fs.nodes j = children-same fs.block fs.nodes i new o.absent o.dead in
    let some : i ≢ 0 = (let least = o.node.least in (λ s. absurd (omega (arith, s, least)))) in
    let none : namings fs.block fs.nodes i ≡ 0 = unnamed fs.block fs.nodes i (λ d x e live. absent-count fs w i o.absent some 0 d x e live) in
    let parent-same : (d : ℕ) (x : Node) → map.get fs.nodes d ≡ Some x → parent_of fs.block nodes' d ≡ parent_of fs.block fs.nodes d = λ d x e.
    ap (at_or_0 (λ n. entry_inode fs.block n 1)) (still d x e ∙ sym e) in
    let ascends : (k d : ℕ) → IsLiveAt fs.nodes d → ascend fs.block nodes' k d ≡ ascend fs.block fs.nodes k d =
    ascend-alike fs.block fs.nodes nodes' (IsLiveAt fs.nodes) (λ d h. (parent-same d h.0 h.1, above-live fs w d h.0 h.1 h.2)) in
    let never : (A : Type 0) → is_live new ≡ true → A = λ A live. absurd (false≢true (sym o.dead ∙ live)) in
    record {
      sized = w.sized;
      nodes = each_node fs.nodes i new (λ k x. IsNode fs.block fs.greatest fs.inodes k x) o.node w.nodes;
      links = each_node fs.nodes i new (λ k x. (x.links ≤ 1000) × (x.links ≡ namings fs.block nodes' k + pending_on pending k))
          (o.few, omega (arith, o.links, named i, none))
          (λ k x e. (let before = w.links k x e in (before.0, omega (arith, before.1, named k, o.others k (not_absent fs.nodes i k x o.absent e)))));
      blocks = o.blocks;
      directories = each_node fs.nodes i new (λ k x. is_live x ≡ true → IsDirectory fs.block k x) (never _) w.directories;
      named = each_node fs.nodes i new
          (λ _ x. is_live x ≡ true → (j : ℕ) → j < entry_count x → entry_inode fs.block x j ≢ 0 → IsSome (map.get nodes' (entry_inode fs.block x j)))
          (never _)
          (λ k x e live j within some. still_some fs.nodes i (entry_inode fs.block x j) new (w.named k x e live j within some));
      root = record {
        there = (w.root.there.0, still 2 w.root.there.0 w.root.there.1, w.root.there.2);
        above = parent-same 2 w.root.there.0 w.root.there.1 ∙ w.root.above;
        unnamed = children' 2 ∙ w.root.unnamed;
      };
      placed = each_node fs.nodes i new (λ k x. is_live x ≡ true → k ≢ 2 → IsPlaced fs.block nodes' k (entry_inode fs.block x 1)) (never _)
          (λ d x e live not_root.
          (let before = w.placed d x e live not_root in
          record {
            once = children' d ∙ before.once;
            there = (before.there.0, still _ before.there.0 before.there.1, before.there.2, before.there.3);
          }));
      ascends = each_node fs.nodes i new (λ k x. is_live x ≡ true → (n : ℕ) × (ascend fs.block nodes' n k ≡ 2)) (never _)
          (λ d x e live. (let before = w.ascends d x e live in (before.0, ascends before.0 d (x, e, live) ∙ before.1)));
      references = λ p j n e. (let before = w.references p j n e in (before.0, still_some fs.nodes i j new before.1));
      files = λ n f e.
          (let before = w.files n f e in
          let y = some_item (map.get fs.nodes f.inode) before.there in
          record {
            shared = before.shared;
            offset = before.offset;
            there = still_some fs.nodes i f.inode new before.there;
            read_only = λ x g dir. before.read_only x (sym (still_other fs.nodes i f.inode y.0 new o.absent y.1) ∙ g) dir;
          });
      pending = λ p j e. elim (o.on p j e) [
        | inl h ↦ (new, ap (map.get nodes') h.0 ∙ get_new fs.nodes i new, h.1)
        | inr h ↦ (let before = w.pending p j h in (before.0, still j before.0 before.1, before.2))
      ];
      places = w.places;
    }
