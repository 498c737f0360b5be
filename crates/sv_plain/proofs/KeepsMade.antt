-- A file system stays whole where a directory with `.` and `..` comes at a free number, and an entry that names it.
use Rattle.std.proofs.Common.{◌≡◌, ◌≢◌, ◌≤◌, ◌<◌, ℕ, suc, ◌+◌, ◌==◌, ◌⊎◌, inl, inr, true, nat_lt, if◌then◌else◌, None, Some, IsSome, sym, refl, ap, subst, ◌∙◌, arith}
use Rattle.std.proofs.lemmas.Bool.{cases_eq}
use Rattle.std.specs.Cmp.{nat_cmp_total}
use Rattle.std.specs.FinMap as map
use Rattle.std.specs.FinMap.{nat_cmp-IsAntisymmetric}
use Rattle.sv_form.specs.declared.kind.Kind.TheVariants.{Dir}
use Rattle.sv_form.specs.Node.{Node, is_dir, entry_inode, entry_count}
use Rattle.sv_plain.specs.Totals.{at_or_0, one_if}
use Rattle.sv_plain.specs.Fs.{Fs, used_by_all, promised, is_live, naming_count, namings, children, pending_on}
use Rattle.sv_plain.specs.Whole.{IsWhole, IsNode, IsDirectory, IsPlaced, parent_of, ascend}
use Rattle.sv_plain.proofs.Got.{and_left}
use Rattle.sv_plain.proofs.Totals.{total-insert}
use Rattle.sv_plain.proofs.Holders.{apart, itself}
use Rattle.sv_plain.proofs.KeepsRemoval.{Nodes, above-live}
use Rattle.sv_plain.proofs.KeepsPromises.{Promises}
use Rattle.sv_plain.proofs.KeepsReferences.{some_item}
use Rattle.sv_plain.proofs.KeepsFile.{get_other}
use Rattle.sv_plain.proofs.KeepsDirectory.{some_node, no_file, each_read, namings-directory, children-directory, parent-kept}
use Rattle.sv_plain.proofs.KeepsAdded.{unnamed, no_children, absent-count, not_absent, ascend-alike, IsLiveAt}
use Rattle.sv_plain.proofs.KeepsCreated.{absent-pending}
use Rattle.sv_plain.proofs.TwoNodes.{each_both, at_first, at_second, at_other, still_both, live_links}

-- directory d may become `new`, and the directory y may come in it at number i, with these promises
pub record IsMade (fs : Fs) (d i : ℕ) (old new y : Node) (promises : Promises) : Type 0 where
  pub there : map.get fs.nodes d ≡ Some old
  pub was_live : is_live old ≡ true
  pub absent : map.get fs.nodes i ≡ None
  pub kind : new.kind ≡ old.kind
  pub links : new.links ≡ old.links + 1
  pub few : new.links ≤ 1000
  pub node : IsNode fs.block fs.greatest fs.inodes d new
  pub directory : IsDirectory fs.block d new
  pub named : (j : ℕ) → j < entry_count new → entry_inode fs.block new j ≢ 0 → (entry_inode fs.block new j ≡ i) ⊎ IsSome (map.get fs.nodes (entry_inode fs.block new j))
  pub second : entry_inode fs.block new 1 ≡ entry_inode fs.block old 1
  pub counts : (first k : ℕ) → first ≤ 2 → k ≢ 0 → naming_count fs.block new first k ≡ naming_count fs.block old first k + one_if (i == k)
  pub its_kind : y.kind ≡ Dir
  pub its_links : y.links ≡ 2
  pub its_node : IsNode fs.block fs.greatest fs.inodes i y
  pub its_directory : IsDirectory fs.block i y
  pub its_named : (j : ℕ) → j < entry_count y → (entry_inode fs.block y j ≡ i) ⊎ (entry_inode fs.block y j ≡ d)
  pub its_second : entry_inode fs.block y 1 ≡ d
  pub its_all : (k : ℕ) → naming_count fs.block y 0 k ≡ one_if (i == k) + one_if (d == k)
  pub its_more : (k : ℕ) → naming_count fs.block y 2 k ≡ 0
  pub blocks : used_by_all fs.block (map.insert (map.insert fs.nodes d new) i y) + promised promises ≤ fs.data_blocks

module _ (fs : Fs) (d i : ℕ) (old new y : Node) (promises : Promises) (w : IsWhole fs) (o : IsMade fs d i old new y promises) where
  abbrev nodes' : Nodes
  nodes' = map.insert (map.insert fs.nodes d new) i y

  some : (k : ℕ) (z : Node) → map.get fs.nodes k ≡ Some z → k ≢ 0
  some k z e = (let least = (w.nodes k z e).least in (λ s. absurd (omega (arith, s, least))))

  some_i : i ≢ 0
  some_i = (let least = o.its_node.least in (λ s. absurd (omega (arith, s, least))))

  -- the number that was free is none of those that were there
  new_number : (k : ℕ) (z : Node) → map.get fs.nodes k ≡ Some z → k ≢ i
  new_number k z e = not_absent fs.nodes i k z o.absent e

  other : d ≢ i
  other = new_number d old o.there

  live : is_live new ≡ true
  live = live_links (is_dir new.kind) new.links (ap is_dir o.kind ∙ and_left (is_dir old.kind) (nat_lt 0 old.links) o.was_live) (let more = o.links in omega (arith, more))

  its_live : is_live y ≡ true
  its_live = live_links (is_dir y.kind) y.links (ap is_dir o.its_kind) (let two = o.its_links in omega (arith, two))

  counted-none : (f : Node → ℕ) → at_or_0 (λ n. if is_live n then f n else 0) (map.get (map.insert fs.nodes d new) i) ≡ 0
  counted-none f = ap (at_or_0 (λ n. if is_live n then f n else 0)) (get_other fs.nodes d i new (λ s. other (sym s)) ∙ o.absent)

  counted-its : (f : Node → ℕ) → (if is_live y then f y else 0) ≡ f y
  counted-its f = ap (λ b. if b then f y else 0) its_live

  namings-second : (k : ℕ) → namings fs.block nodes' k ≡ namings fs.block (map.insert fs.nodes d new) k + naming_count fs.block y 0 k
  unfolding namings
  namings-second k =
      omega (arith, counted-none (λ n. naming_count fs.block n 0 k), counted-its (λ n. naming_count fs.block n 0 k), total-insert nat_cmp_total nat_cmp-IsAntisymmetric (λ (_ : ℕ) (n : Node). if is_live n then naming_count fs.block n 0 k else 0) (map.insert fs.nodes d new) i y)

  children-second : (k : ℕ) → children fs.block nodes' k ≡ children fs.block (map.insert fs.nodes d new) k + naming_count fs.block y 2 k
  unfolding children
  children-second k =
      omega (arith, counted-none (λ n. naming_count fs.block n 2 k), counted-its (λ n. naming_count fs.block n 2 k), total-insert nat_cmp_total nat_cmp-IsAntisymmetric (λ (_ : ℕ) (n : Node). if is_live n then naming_count fs.block n 2 k else 0) (map.insert fs.nodes d new) i y)

  namings-made : (k : ℕ) → k ≢ 0 → namings fs.block nodes' k ≡ namings fs.block fs.nodes k + one_if (i == k) + one_if (i == k) + one_if (d == k)
  namings-made k nonzero =
      omega (arith, namings-second k, namings-directory fs.block fs.nodes d old new o.there o.was_live live k, o.its_all k, o.counts 0 k (omega arith) nonzero)

  children-made : (k : ℕ) → k ≢ 0 → children fs.block nodes' k ≡ children fs.block fs.nodes k + one_if (i == k)
  children-made k nonzero =
      omega (arith, children-second k, children-directory fs.block fs.nodes d old new o.there o.was_live live k, o.its_more k, o.counts 2 k (omega arith) nonzero)

  unnamed_before : namings fs.block fs.nodes i ≡ 0
  unnamed_before = unnamed fs.block fs.nodes i (λ k z e is. absent-count fs w i o.absent some_i 0 k z e is)

  childless_before : children fs.block fs.nodes i ≡ 0
  childless_before = no_children fs.block fs.nodes i (λ k z e is. absent-count fs w i o.absent some_i 2 k z e is)

  -- a directory with links is one still, and names the directories that it named
  still : (k : ℕ) (z : Node) → map.get fs.nodes k ≡ Some z → is_live z ≡ true
      → (u : Node) × (map.get nodes' k ≡ Some u) × (is_live u ≡ true) × ((l : ℕ) → l ≢ 0 → l ≢ i → naming_count fs.block u 2 l ≡ naming_count fs.block z 2 l)
  still k z e is =
      elim (cases_eq k d) [
        | inl at ↦
            (let it : z ≡ old = some_node z old (sym e ∙ ap (map.get fs.nodes) at ∙ o.there) in (
              new,
              ap (map.get nodes') at ∙ at_first fs.nodes d i new y other,
              live,
              λ l nonzero ne. (let same : naming_count fs.block old 2 l ≡ naming_count fs.block z 2 l = ap (λ n. naming_count fs.block n 2 l) (sym it) in
                  omega (arith, same, o.counts 2 l (omega arith) nonzero, apart i l ne)),
            ))
        | inr ned ↦ (z, at_other fs.nodes d i new y other k ned (new_number k z e) ∙ e, is, λ l _ _. refl)
      ]

  parents : (k : ℕ) → k ≢ i → parent_of fs.block nodes' k ≡ parent_of fs.block fs.nodes k
  parents k nei =
      ap (at_or_0 (λ n. entry_inode fs.block n 1)) (get_other (map.insert fs.nodes d new) i k y nei)
      ∙ parent-kept fs.block fs.nodes d old new o.there o.second k

  ascends : (n k : ℕ) → IsLiveAt fs.nodes k → ascend fs.block nodes' n k ≡ ascend fs.block fs.nodes n k
  ascends =
      ascend-alike fs.block fs.nodes nodes' (IsLiveAt fs.nodes)
      (λ k h. (parents k (new_number k h.0 h.1), above-live fs w k h.0 h.1 h.2))

  placed : (k : ℕ) (z : Node) → map.get fs.nodes k ≡ Some z → is_live z ≡ true → k ≢ 2 → IsPlaced fs.block nodes' k (entry_inode fs.block z 1)
  placed k z e is ne =
      let before = w.placed k z e is ne in
      let above = still (entry_inode fs.block z 1) before.there.0 before.there.1 before.there.2 in
      record {
        once = omega (arith, children-made k (some k z e), apart i k (new_number k z e), before.once);
        there = (above.0, above.1, above.2, above.3 k (some k z e) (new_number k z e) ∙ before.there.3);
      }

  -- the new directory stands in d
  its_placed : IsPlaced fs.block nodes' i d
  its_placed = record {
    once = omega (arith, children-made i some_i, itself i, childless_before);
    there =
        (new, at_first fs.nodes d i new y other, live, omega (arith, o.counts 2 i (omega arith) some_i, itself i, absent-count fs w i o.absent some_i 2 d old o.there o.was_live));
  }

  climbs : (k : ℕ) (z : Node) → map.get fs.nodes k ≡ Some z → is_live z ≡ true → (n : ℕ) × (ascend fs.block nodes' n k ≡ 2)
  climbs k z e is = (let before = w.ascends k z e is in (before.0, ascends before.0 k (z, e, is) ∙ before.1))

  its_climbs : (n : ℕ) × (ascend fs.block nodes' n i ≡ 2)
  its_climbs =
      let from = climbs d old o.there o.was_live in
      let up : parent_of fs.block nodes' i ≡ d = ap (at_or_0 (λ n. entry_inode fs.block n 1)) (at_second fs.nodes d i new y other) ∙ o.its_second in
      (suc from.0, ap (ascend fs.block nodes' from.0) up ∙ from.1)

  some_new : (k : ℕ) → (k ≡ i) ⊎ IsSome (map.get fs.nodes k) → IsSome (map.get nodes' k)
  some_new k h =
      elim h [
        | inl is ↦ subst IsSome (sym (ap (map.get nodes') is ∙ at_second fs.nodes d i new y other)) refl
        | inr is ↦ still_both fs.nodes d i new y other k is
      ]

  pub keeps-made : IsWhole (record fs { nodes = nodes'; promises = promises })
  keeps-made =
      let each = each_both fs.nodes d i new y other in
      let root = still 2 w.root.there.0 w.root.there.1 w.root.there.2 in
      let root_number = new_number 2 w.root.there.0 w.root.there.1 in
      let d_there : IsSome (map.get fs.nodes d) = subst IsSome (sym o.there) refl in
      record {
        sized = w.sized;
        nodes = each (λ k z. IsNode fs.block fs.greatest fs.inodes k z) o.node o.its_node (λ k z _ _ e. w.nodes k z e);
        links = each (λ k z. (z.links ≤ 1000) × (z.links ≡ namings fs.block nodes' k + pending_on fs.pending k))
            (let before = w.links d old o.there in
            (o.few, omega (arith, before.1, o.links, namings-made d (some d old o.there), apart i d other, itself d)))
            (omega (arith, o.its_links), omega (arith, o.its_links, namings-made i some_i, unnamed_before, absent-pending fs i w o.absent, itself i, apart d i (λ s. other (sym s))))
            (λ k z ned nei e. (let before = w.links k z e in
            (before.0, omega (arith, before.1, namings-made k (some k z e), apart i k nei, apart d k ned))));
        blocks = o.blocks;
        directories = each (λ k z. is_live z ≡ true → IsDirectory fs.block k z) (λ _. o.directory) (λ _. o.its_directory) (λ k z _ _ e. w.directories k z e);
        named = each (λ _ z. is_live z ≡ true → (j : ℕ) → j < entry_count z → entry_inode fs.block z j ≢ 0 → IsSome (map.get nodes' (entry_inode fs.block z j)))
            (λ _ j within nonzero. some_new (entry_inode fs.block new j) (o.named j within nonzero))
            (λ _ j within nonzero. some_new (entry_inode fs.block y j)
            (elim (o.its_named j within) [ inl is ↦ inl is | inr is ↦ inr (subst (λ (k : ℕ). IsSome (map.get fs.nodes k)) (sym is) d_there) ]))
            (λ k z _ _ e is j within nonzero. still_both fs.nodes d i new y other (entry_inode fs.block z j) (w.named k z e is j within nonzero));
        root = record {
          there = (root.0, root.1, root.2);
          above = parents 2 root_number ∙ w.root.above;
          unnamed = omega (arith, children-made 2 (omega arith), w.root.unnamed, apart i 2 root_number);
        };
        placed = each (λ k z. is_live z ≡ true → k ≢ 2 → IsPlaced fs.block nodes' k (entry_inode fs.block z 1))
            (λ _ ne. subst (λ (n : ℕ). IsPlaced fs.block nodes' d n) (sym o.second) (placed d old o.there o.was_live ne))
            (λ _ _. subst (λ (n : ℕ). IsPlaced fs.block nodes' i n) (sym o.its_second) its_placed)
            (λ k z _ _ e is ne. placed k z e is ne);
        ascends = each (λ k z. is_live z ≡ true → (n : ℕ) × (ascend fs.block nodes' n k ≡ 2))
            (λ _. climbs d old o.there o.was_live)
            (λ _. its_climbs)
            (λ k z _ _ e is. climbs k z e is);
        references = λ p j n e. (let before = w.references p j n e in (before.0, still_both fs.nodes d i new y other j before.1));
        files = λ n f e.
            (let before = w.files n f e in
            let it = some_item (map.get fs.nodes f.inode) before.there in
            record {
              shared = before.shared;
              offset = before.offset;
              there = still_both fs.nodes d i new y other f.inode before.there;
              read_only = λ z g dir.
                  each_read fs.nodes d old new o.there o.kind f.inode f.mode before.read_only z
                  (sym (get_other (map.insert fs.nodes d new) i f.inode y (new_number f.inode it.0 it.1)) ∙ g) dir;
            });
        pending = λ p j e.
            (let file = w.pending p j e in
            (file.0, at_other fs.nodes d i new y other j (no_file fs.nodes d old o.there o.was_live j file.0 file.1 file.2) (new_number j file.0 file.1) ∙ file.1, file.2));
        places = w.places;
      }
