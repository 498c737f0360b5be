-- A tree of the root alone, as it is made, is whole.
use Rattle.std.proofs.Common.{◌≡◌, ◌≢◌, ◌≤◌, ◌<◌, ℕ, zero, suc, ◌+◌, ◌-◌, ◌*◌, ◌/◌, ◌==◌, inl, inr, true, List, Option, Some, None, IsSome, if◌then◌else◌, sym, refl, ap, subst, ◌∙◌, arith}
use Rattle.std.specs.Ordering.{nat_cmp}
use Rattle.std.specs.Cmp.{nat_cmp_total}
use Rattle.std.specs.FinMap as map
use Rattle.std.specs.FinMap.{FinMap, nat_cmp-IsAntisymmetric}
use Rattle.sv_form.specs.declared.geometry.Geometry.{Geometry}
use Rattle.sv_form.specs.declared.kind.Kind.TheVariants.{Dir}
use Rattle.sv_form.specs.Geometry.{IsGeometry, inode_count}
use Rattle.sv_form.specs.Pair.{pair_cmp}
use Rattle.sv_form.specs.Node.{Node, entry_inode, entry_count, used}
use Rattle.sv_plain.specs.declared.fs.opening.Opening.{Opening}
use Rattle.sv_plain.specs.Totals.{at_or_0, one_if}
use Rattle.sv_plain.specs.Fs.{Fs, empty_fs, used_by_all, promised, is_live, naming_count, namings, children, pending_on}
use Rattle.sv_plain.specs.Whole.{IsWhole, IsNode, IsDirectory}
use Rattle.sv_plain.specs.Change.{new_node}
use Rattle.sv_plain.proofs.Got.{got}
use Rattle.sv_plain.proofs.Holders.{apart, itself}
use Rattle.sv_plain.proofs.Totals.{total-empty, total-insert}
use Rattle.sv_plain.proofs.Used.{used_by_all-insert}
use Rattle.sv_plain.proofs.Beginnings.{sized, none_used, none_promised, no_places_taken}
use Rattle.sv_plain.proofs.KeepsFile.{get_new}
use Rattle.sv_plain.proofs.MadeDirectory.{first-inode, second-inode, node-made, directory-made, all-made, more-made}
use Rattle.sv_plain.proofs.KeepsCreatedDirectory.{used-made}

nothing_there : {X A : Type 0} (x : X) → None ≡ Some x → A
nothing_there x e = cc

module _ (g : Geometry) (h : IsGeometry g) (mode : ℕ) (fits : mode ≤ 4095) where
  abbrev root : Node
  root = new_node g.block_size 2 2 mode Dir

  abbrev nodes : FinMap nat_cmp Node
  nodes = map.insert map.empty 2 root

  abbrev pub root_alone : Fs
  root_alone = record (empty_fs g) { nodes = nodes }

  two : 32 ≤ g.block_size
  two = omega (arith, h.block_size)

  no_zero : ◌≢◌ {A = ℕ} 2 0
  no_zero s = absurd (omega (arith, s))

  at_root : map.get nodes 2 ≡ Some root
  at_root = get_new map.empty 2 root

  -- what is there is the root
  is_root : (P : ℕ → Node → Type 0) → P 2 root → (i : ℕ) (node : Node) → map.get nodes i ≡ Some node → P i node
  is_root P p i node e =
      elim (got nat_cmp_total nat_cmp-IsAntisymmetric map.empty 2 root i node e) [
        | inl is ↦ subst (λ (k : ℕ). P k node) (sym is.0) (subst (P 2) (sym is.1) p)
        | inr other ↦ nothing_there node (sym (map.get-empty nat_cmp i) ∙ other)
      ]

  all_named : (k : ℕ) → namings g.block_size nodes k ≡ one_if (2 == k) + one_if (2 == k)
  unfolding namings
  all_named k =
      let f : ℕ → Node → ℕ = λ _ n. if is_live n then naming_count g.block_size n 0 k else 0 in
      let none : at_or_0 (f 2) (map.get (map.empty {R = nat_cmp}) 2) ≡ 0 = ap (at_or_0 (f 2)) (map.get-empty nat_cmp 2) in
      omega (arith, none, total-empty nat_cmp f, total-insert nat_cmp_total nat_cmp-IsAntisymmetric f map.empty 2 root, all-made g.block_size 2 2 mode two no_zero no_zero k)

  no_children : (k : ℕ) → children g.block_size nodes k ≡ 0
  unfolding children
  no_children k =
      let f : ℕ → Node → ℕ = λ _ n. if is_live n then naming_count g.block_size n 2 k else 0 in
      let none : at_or_0 (f 2) (map.get (map.empty {R = nat_cmp}) 2) ≡ 0 = ap (at_or_0 (f 2)) (map.get-empty nat_cmp 2) in
      omega (arith, none, total-empty nat_cmp f, total-insert nat_cmp_total nat_cmp-IsAntisymmetric f map.empty 2 root, more-made g.block_size 2 2 mode two no_zero no_zero k)

  none_pending : (k : ℕ) → pending_on map.empty k ≡ 0
  unfolding pending_on
  none_pending k = total-empty nat_cmp (λ _ inode. one_if (inode == k))

  one_block : used_by_all g.block_size nodes ≤ 1
  one_block =
      let none : at_or_0 (used g.block_size) (map.get (map.empty {R = nat_cmp}) 2) ≡ 0 = ap (at_or_0 (used g.block_size)) (map.get-empty nat_cmp 2) in
      omega (arith, none, used_by_all-insert g.block_size map.empty 2 root, none_used g.block_size, used-made g.block_size 2 2 mode)

  inode_of : (j : ℕ) → j < 2 → entry_inode g.block_size root j ≡ 2
  inode_of zero low = first-inode g.block_size 2 2 mode two no_zero no_zero
  inode_of (suc zero) low = second-inode g.block_size 2 2 mode two no_zero no_zero
  inode_of (suc (suc j)) low = absurd (omega (arith, low))

  some_inodes : 2 ≤ inode_count g
  some_inodes =
      let blocks : (g.first_data - 2) * 1024 / 64 ≡ (g.first_data - 2) * 16 = omega arith in
      let same : inode_count g ≡ (g.first_data - 2) * 1024 / 64 = ap (λ b. (g.first_data - 2) * b / 64) h.block_size in
      omega (arith, blocks, same, h.least_first)

  pub root-whole : IsWhole root_alone
  root-whole =
      let s = sized g h in
      record {
        sized = s;
        nodes = is_root (IsNode g.block_size root_alone.greatest root_alone.inodes)
            (node-made g.block_size 2 2 mode two no_zero no_zero root_alone.greatest root_alone.inodes (omega arith) some_inodes fits (let room = s.names_fit in omega (arith, room, some_inodes)));
        links = is_root (λ i n. (n.links ≤ 1000) × (n.links ≡ namings g.block_size nodes i + pending_on map.empty i))
            (omega arith, omega (arith, all_named 2, itself 2, none_pending 2));
        blocks = omega (arith, one_block, none_promised, h.some_data);
        directories = λ d n e _. is_root (IsDirectory g.block_size) (directory-made g.block_size 2 2 mode two no_zero no_zero) d n e;
        named = λ d n e _. is_root (λ _ n. (j : ℕ) → j < entry_count n → entry_inode g.block_size n j ≢ 0 → IsSome (map.get nodes (entry_inode g.block_size n j)))
            (λ j low _. subst (λ (k : ℕ). IsSome (map.get nodes k)) (sym (inode_of j low)) (subst IsSome (sym at_root) refl)) d n e;
        root = record {
          there = (root, at_root, refl);
          above = ap (at_or_0 (λ (n : Node). entry_inode g.block_size n 1)) at_root ∙ second-inode g.block_size 2 2 mode two no_zero no_zero;
          unnamed = no_children 2;
        };
        placed = λ d n e _ ne. absurd (ne (is_root (λ i _. i ≡ 2) refl d n e));
        ascends = λ d n e _. (0, is_root (λ i _. i ≡ 2) refl d n e);
        references = λ p i n e. nothing_there n (sym (map.get-empty pair_cmp (p, i)) ∙ e);
        files = λ n f e. nothing_there f (sym (map.get-empty nat_cmp n) ∙ e);
        pending = λ p i e. nothing_there i (sym (map.get-empty nat_cmp p) ∙ e);
        places = omega (arith, no_places_taken root_alone.inodes);
      }
