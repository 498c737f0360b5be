-- A file system stays whole where an empty directory loses its links, and the entry that names it.
use Rattle.std.proofs.Common.{◌≡◌, ◌≢◌, ◌≤◌, ◌<◌, ℕ, ◌+◌, ◌==◌, inl, inr, true, false, nat_lt, if◌then◌else◌, Some, IsSome, sym, refl, ap, subst, ◌∙◌, arith}
use Rattle.std.proofs.lemmas.Bool.{false≢true, cases_eq}
use Rattle.std.specs.Cmp.{nat_cmp_total}
use Rattle.std.specs.FinMap as map
use Rattle.std.specs.FinMap.{nat_cmp-IsAntisymmetric}
use Rattle.sv_form.specs.Node.{Node, is_dir, entry_inode, entry_count}
use Rattle.sv_plain.specs.Totals.{at_or_0, one_if}
use Rattle.sv_plain.specs.Fs.{Fs, used_by_all, promised, is_live, naming_count, namings, children, pending_on}
use Rattle.sv_plain.specs.Whole.{IsWhole, IsNode, IsDirectory, IsPlaced, parent_of, ascend}
use Rattle.sv_plain.proofs.Got.{and_left}
use Rattle.sv_plain.proofs.Totals.{total-insert}
use Rattle.sv_plain.proofs.Holders.{apart, itself}
use Rattle.sv_plain.proofs.KeepsRemoval.{Nodes, above-live, without_links}
use Rattle.sv_plain.proofs.KeepsFile.{get_other}
use Rattle.sv_plain.proofs.KeepsDirectory.{some_node, no_file, each_read, namings-directory, children-directory, parent-kept}
use Rattle.sv_plain.proofs.KeepsAdded.{unnamed, ascend-alike, IsLiveAt}
use Rattle.sv_plain.proofs.KeepsCreated.{none-pending}
use Rattle.sv_plain.proofs.TwoNodes.{each_both, at_first, at_other, still_both, naming-split, two-namings, two-children, one-child, live_links}

-- directory d may become `new`, and the directory i in it, which is x, may become y
pub record IsPruned (fs : Fs) (d i : ℕ) (old new x y : Node) : Type 0 where
  pub apart : d ≢ i
  pub there : map.get fs.nodes d ≡ Some old
  pub was_live : is_live old ≡ true
  pub it : map.get fs.nodes i ≡ Some x
  pub it_live : is_live x ≡ true
  pub kind : new.kind ≡ old.kind
  pub links : new.links + 1 ≡ old.links
  pub node : IsNode fs.block fs.greatest fs.inodes d new
  pub directory : IsDirectory fs.block d new
  pub named : (j : ℕ) → j < entry_count new → entry_inode fs.block new j ≢ 0 → IsSome (map.get fs.nodes (entry_inode fs.block new j))
  pub second : entry_inode fs.block new 1 ≡ entry_inode fs.block old 1
  pub counts : (first k : ℕ) → first ≤ 2 → k ≢ 0 → naming_count fs.block new first k + one_if (i == k) ≡ naming_count fs.block old first k
  pub its_kind : y.kind ≡ x.kind
  pub its_links : y.links ≡ 0
  pub its_node : IsNode fs.block fs.greatest fs.inodes i y
  pub childless : (k : ℕ) → k ≢ 0 → naming_count fs.block x 2 k ≡ 0
  pub blocks : used_by_all fs.block (map.insert (map.insert fs.nodes d new) i y) + promised fs.promises ≤ fs.data_blocks

two_entries : (block d : ℕ) (x : Node) → IsDirectory block d x → 2 ≤ entry_count x
two_entries block d x dir = (let least = dir.least in omega (arith, least))

module _ (fs : Fs) (d i : ℕ) (old new x y : Node) (w : IsWhole fs) (o : IsPruned fs d i old new x y) where
  abbrev nodes' : Nodes
  nodes' = map.insert (map.insert fs.nodes d new) i y

  some : (k : ℕ) (z : Node) → map.get fs.nodes k ≡ Some z → k ≢ 0
  some k z e = (let least = (w.nodes k z e).least in (λ s. absurd (omega (arith, s, least))))

  dead : is_live y ≡ false
  dead = without_links (is_dir y.kind) y.links o.its_links

  -- d names i, and so i is not the root
  names_it : 1 ≤ naming_count fs.block old 2 i
  names_it = omega (arith, o.counts 2 i (omega arith) (some i x o.it), itself i)

  not_root : i ≢ 2
  not_root s =
      let one = one-child fs.block fs.nodes i d old o.there o.was_live in
      let same : children fs.block fs.nodes i ≡ children fs.block fs.nodes 2 = ap (children fs.block fs.nodes) s in
      absurd (omega (arith, one, names_it, same, w.root.unnamed))

  once : children fs.block fs.nodes i ≡ 1
  once = (w.placed i x o.it o.it_live not_root).once

  -- the `..` of i names d
  up : entry_inode fs.block x 1 ≡ d
  up =
      let above = (w.placed i x o.it o.it_live not_root).there in
      elim (cases_eq (entry_inode fs.block x 1) d) [
        | inl is ↦ is
        | inr ne ↦
            (let two = two-children fs.block fs.nodes i (entry_inode fs.block x 1) d above.0 old ne above.1 above.2 o.there o.was_live in
            absurd (omega (arith, two, above.3, names_it, once)))
      ]

  -- no `..` names i
  no_up : (k : ℕ) (z : Node) → map.get fs.nodes k ≡ Some z → is_live z ≡ true → entry_inode fs.block z 1 ≢ i
  no_up k z e live s =
      elim (cases_eq k 2) [
        | inl is ↦
            (let same : parent_of fs.block fs.nodes 2 ≡ entry_inode fs.block z 1 = ap (at_or_0 (λ n. entry_inode fs.block n 1)) (ap (map.get fs.nodes) (sym is) ∙ e) in
            absurd (not_root (sym s ∙ sym same ∙ w.root.above)))
        | inr ne ↦
            (let above = (w.placed k z e live ne).there in
            let it : above.0 ≡ x = some_node above.0 x (sym above.1 ∙ ap (map.get fs.nodes) s ∙ o.it) in
            let counts : naming_count fs.block above.0 2 k ≡ naming_count fs.block x 2 k = ap (λ n. naming_count fs.block n 2 k) it in
            absurd (omega (arith, above.3, counts, o.childless k (some k z e))))
      ]

  -- what the entries of i name
  its_names : (k : ℕ) → k ≢ 0 → naming_count fs.block x 0 k ≡ one_if (i == k) + one_if (d == k)
  its_names k nonzero =
      let dir = w.directories i x o.it o.it_live in
      let first : one_if (entry_inode fs.block x 0 == k) ≡ one_if (i == k) = ap (λ n. one_if (n == k)) dir.dot in
      let second : one_if (entry_inode fs.block x 1 == k) ≡ one_if (d == k) = ap (λ n. one_if (n == k)) up in
      omega (arith, naming-split fs.block x k (two_entries fs.block i x dir), first, second, o.childless k nonzero)

  pub live : is_live new ≡ true
  live =
      let dir = w.directories d old o.there o.was_live in
      let d_some = some d old o.there in
      let dot : one_if (entry_inode fs.block old 0 == d) ≡ one_if (d == d) = ap (λ n. one_if (n == d)) dir.dot in
      let own = naming-split fs.block old d (two_entries fs.block d old dir) in
      let two = two-namings fs.block fs.nodes d d i old x o.apart o.there o.was_live o.it o.it_live in
      let links = (w.links d old o.there).1 in
      live_links (is_dir new.kind) new.links (ap is_dir o.kind ∙ and_left (is_dir old.kind) (nat_lt 0 old.links) o.was_live)
      (omega (arith, o.links, links, two, own, dot, itself d, its_names d d_some))

  counted-it : (f : Node → ℕ) → at_or_0 (λ n. if is_live n then f n else 0) (map.get (map.insert fs.nodes d new) i) ≡ f x
  counted-it f =
      ap (at_or_0 (λ n. if is_live n then f n else 0)) (get_other fs.nodes d i new (λ s. o.apart (sym s)) ∙ o.it)
      ∙ ap (λ b. if b then f x else 0) o.it_live

  counted-dead : (f : Node → ℕ) → (if is_live y then f y else 0) ≡ 0
  counted-dead f = ap (λ b. if b then f y else 0) dead

  namings-second : (k : ℕ) → namings fs.block nodes' k + naming_count fs.block x 0 k ≡ namings fs.block (map.insert fs.nodes d new) k
  unfolding namings
  namings-second k =
      omega (arith, counted-it (λ n. naming_count fs.block n 0 k), counted-dead (λ n. naming_count fs.block n 0 k), total-insert nat_cmp_total nat_cmp-IsAntisymmetric (λ (_ : ℕ) (n : Node). if is_live n then naming_count fs.block n 0 k else 0) (map.insert fs.nodes d new) i y)

  children-second : (k : ℕ) → children fs.block nodes' k + naming_count fs.block x 2 k ≡ children fs.block (map.insert fs.nodes d new) k
  unfolding children
  children-second k =
      omega (arith, counted-it (λ n. naming_count fs.block n 2 k), counted-dead (λ n. naming_count fs.block n 2 k), total-insert nat_cmp_total nat_cmp-IsAntisymmetric (λ (_ : ℕ) (n : Node). if is_live n then naming_count fs.block n 2 k else 0) (map.insert fs.nodes d new) i y)

  namings-pruned : (k : ℕ) → k ≢ 0 → namings fs.block nodes' k + one_if (i == k) + one_if (i == k) + one_if (d == k) ≡ namings fs.block fs.nodes k
  namings-pruned k nonzero =
      omega (arith, namings-second k, namings-directory fs.block fs.nodes d old new o.there o.was_live live k, its_names k nonzero, o.counts 0 k (omega arith) nonzero)

  children-pruned : (k : ℕ) → k ≢ 0 → children fs.block nodes' k + one_if (i == k) ≡ children fs.block fs.nodes k
  children-pruned k nonzero =
      omega (arith, children-second k, children-directory fs.block fs.nodes d old new o.there o.was_live live k, o.childless k nonzero, o.counts 2 k (omega arith) nonzero)

  -- nothing names i now
  forgotten : namings fs.block nodes' i ≡ 0
  forgotten =
      let i_some = some i x o.it in
      unnamed fs.block nodes' i
      (each_both fs.nodes d i new y o.apart (λ _ z. is_live z ≡ true → naming_count fs.block z 0 i ≡ 0)
      (λ _.
      (let first : one_if (entry_inode fs.block new 0 == i) ≡ 0 = ap (λ n. one_if (n == i)) o.directory.dot ∙ apart d i (λ s. o.apart (sym s)) in
      let second : one_if (entry_inode fs.block new 1 == i) ≡ 0 = apart (entry_inode fs.block new 1) i (λ s. no_up d old o.there o.was_live (sym o.second ∙ sym s)) in
      let one = one-child fs.block fs.nodes i d old o.there o.was_live in
      omega (arith, naming-split fs.block new i (two_entries fs.block d new o.directory), first, second, one, once, o.counts 2 i (omega arith) i_some, itself i)))
      (λ is. absurd (false≢true (sym dead ∙ is)))
      (λ k z ned nei e is.
      (let dir = w.directories k z e is in
      let first : one_if (entry_inode fs.block z 0 == i) ≡ 0 = ap (λ n. one_if (n == i)) dir.dot ∙ apart k i (λ s. nei (sym s)) in
      let second : one_if (entry_inode fs.block z 1 == i) ≡ 0 = apart (entry_inode fs.block z 1) i (λ s. no_up k z e is (sym s)) in
      let two = two-children fs.block fs.nodes i k d z old ned e is o.there o.was_live in
      omega (arith, naming-split fs.block z i (two_entries fs.block k z dir), first, second, two, once, names_it))))

  -- a directory with links other than i is one still, and names what it named but i
  still : (k : ℕ) (z : Node) → map.get fs.nodes k ≡ Some z → is_live z ≡ true → k ≢ i
      → (u : Node) × (map.get nodes' k ≡ Some u) × (is_live u ≡ true) × ((l : ℕ) → l ≢ 0 → l ≢ i → naming_count fs.block u 2 l ≡ naming_count fs.block z 2 l)
  still k z e is nei =
      elim (cases_eq k d) [
        | inl at ↦
            (let it : z ≡ old = some_node z old (sym e ∙ ap (map.get fs.nodes) at ∙ o.there) in (
              new,
              ap (map.get nodes') at ∙ at_first fs.nodes d i new y o.apart,
              live,
              λ l nonzero ne. (let same : naming_count fs.block old 2 l ≡ naming_count fs.block z 2 l = ap (λ n. naming_count fs.block n 2 l) (sym it) in
                  omega (arith, same, o.counts 2 l (omega arith) nonzero, apart i l ne)),
            ))
        | inr ned ↦ (z, at_other fs.nodes d i new y o.apart k ned nei ∙ e, is, λ l _ _. refl)
      ]

  parents : (k : ℕ) → k ≢ i → parent_of fs.block nodes' k ≡ parent_of fs.block fs.nodes k
  parents k nei =
      ap (at_or_0 (λ n. entry_inode fs.block n 1)) (get_other (map.insert fs.nodes d new) i k y nei)
      ∙ parent-kept fs.block fs.nodes d old new o.there o.second k

  ascends : (n k : ℕ) → IsLiveAt fs.nodes k × (k ≢ i) → ascend fs.block nodes' n k ≡ ascend fs.block fs.nodes n k
  ascends =
      ascend-alike fs.block fs.nodes nodes' (λ k. IsLiveAt fs.nodes k × (k ≢ i))
      (λ k h. (
        parents k h.1,
        (above-live fs w k h.0.0 h.0.1 h.0.2, λ s. no_up k h.0.0 h.0.1 h.0.2 (sym (ap (at_or_0 (λ n. entry_inode fs.block n 1)) h.0.1) ∙ s)),
      ))

  placed : (k : ℕ) (z : Node) → map.get fs.nodes k ≡ Some z → is_live z ≡ true → k ≢ i → k ≢ 2 → IsPlaced fs.block nodes' k (entry_inode fs.block z 1)
  placed k z e is nei ne =
      let before = w.placed k z e is ne in
      let above = still (entry_inode fs.block z 1) before.there.0 before.there.1 before.there.2 (no_up k z e is) in
      record {
        once = omega (arith, children-pruned k (some k z e), apart i k nei, before.once);
        there = (above.0, above.1, above.2, above.3 k (some k z e) nei ∙ before.there.3);
      }

  climbs : (k : ℕ) (z : Node) → map.get fs.nodes k ≡ Some z → is_live z ≡ true → k ≢ i → (n : ℕ) × (ascend fs.block nodes' n k ≡ 2)
  climbs k z e is nei = (let before = w.ascends k z e is in (before.0, ascends before.0 k ((z, e, is), nei) ∙ before.1))

  pub keeps-pruned : IsWhole (record fs { nodes = nodes' })
  keeps-pruned =
      let each = each_both fs.nodes d i new y o.apart in
      let never : (A : Type 0) → is_live y ≡ true → A = λ A is. absurd (false≢true (sym dead ∙ is)) in
      let root = still 2 w.root.there.0 w.root.there.1 w.root.there.2 (λ s. not_root (sym s)) in
      record {
        sized = w.sized;
        nodes = each (λ k z. IsNode fs.block fs.greatest fs.inodes k z) o.node o.its_node (λ k z _ _ e. w.nodes k z e);
        links = each (λ k z. (z.links ≤ 1000) × (z.links ≡ namings fs.block nodes' k + pending_on fs.pending k))
            (let before = w.links d old o.there in
            (omega (arith, before.0, o.links), omega (arith, before.1, o.links, namings-pruned d (some d old o.there), apart i d o.apart, itself d)))
            (let none = none-pending fs i (λ p e. (let f = w.pending p i e in no_file fs.nodes i x o.it o.it_live i f.0 f.1 f.2 refl)) in
            (omega (arith, o.its_links), omega (arith, o.its_links, forgotten, none)))
            (λ k z ned nei e. (let before = w.links k z e in
            (before.0, omega (arith, before.1, namings-pruned k (some k z e), apart i k nei, apart d k ned))));
        blocks = o.blocks;
        directories = each (λ k z. is_live z ≡ true → IsDirectory fs.block k z) (λ _. o.directory) (never _) (λ k z _ _ e. w.directories k z e);
        named = each (λ _ z. is_live z ≡ true → (j : ℕ) → j < entry_count z → entry_inode fs.block z j ≢ 0 → IsSome (map.get nodes' (entry_inode fs.block z j)))
            (λ _ j within nonzero. still_both fs.nodes d i new y o.apart (entry_inode fs.block new j) (o.named j within nonzero))
            (never _)
            (λ k z _ _ e is j within nonzero. still_both fs.nodes d i new y o.apart (entry_inode fs.block z j) (w.named k z e is j within nonzero));
        root = record {
          there = (root.0, root.1, root.2);
          above = parents 2 (λ s. not_root (sym s)) ∙ w.root.above;
          unnamed = omega (arith, children-pruned 2 (omega arith), w.root.unnamed);
        };
        placed = each (λ k z. is_live z ≡ true → k ≢ 2 → IsPlaced fs.block nodes' k (entry_inode fs.block z 1))
            (λ _ ne. subst (λ (n : ℕ). IsPlaced fs.block nodes' d n) (sym o.second) (placed d old o.there o.was_live o.apart ne))
            (never _)
            (λ k z _ nei e is ne. placed k z e is nei ne);
        ascends = each (λ k z. is_live z ≡ true → (n : ℕ) × (ascend fs.block nodes' n k ≡ 2))
            (λ _. climbs d old o.there o.was_live o.apart)
            (never _)
            (λ k z _ nei e is. climbs k z e is nei);
        references = λ p j n e. (let before = w.references p j n e in (before.0, still_both fs.nodes d i new y o.apart j before.1));
        files = λ n f e.
            (let before = w.files n f e in
            record {
              shared = before.shared;
              offset = before.offset;
              there = still_both fs.nodes d i new y o.apart f.inode before.there;
              read_only = each_read (map.insert fs.nodes d new) i x y (get_other fs.nodes d i new (λ s. o.apart (sym s)) ∙ o.it) o.its_kind f.inode f.mode
                  (each_read fs.nodes d old new o.there o.kind f.inode f.mode before.read_only);
            });
        pending = λ p j e.
            (let file = w.pending p j e in
            (file.0, at_other fs.nodes d i new y o.apart j (no_file fs.nodes d old o.there o.was_live j file.0 file.1 file.2) (no_file fs.nodes i x o.it o.it_live j file.0 file.1 file.2) ∙ file.1, file.2));
        places = w.places;
      }
