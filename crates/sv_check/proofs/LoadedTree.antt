-- The nodes of the used inodes are put in, inode by inode.
use Rattle.std.proofs.Common.{◌≡◌, ◌≤◌, ◌<◌, ◌+◌, ◌++◌, ◌∷◌, [], ◌∙◌, ℕ, zero, suc, Bool, not, true, false, List, Some, None, ap, sym, refl, cond, if◌then◌else◌, map, filter, arith}
use Rattle.std.specs.List.{range_with_len}
use Rattle.std.specs.Ordering.{nat_cmp}
use Rattle.std.specs.Cmp.{nat_cmp_total}
use Rattle.std.specs.FinMap as fmap
use Rattle.std.specs.FinMap.{nat_cmp-IsAntisymmetric}
use Rattle.std.proofs.lemmas.List.{append-nil, map-append}
use Rattle.sv_form.specs.declared.geometry.Geometry.{Geometry}
use Rattle.sv_form.specs.Geometry.{inode_count}
use Rattle.sv_form.specs.Image.{geometry_of, inode_of}
use Rattle.sv_form.specs.Node.{Node}
use Rattle.sv_plain.specs.Fs.{Fs, empty_fs}
use Rattle.sv_check.specs.InodeList.{is_free, used_inodes}
use Rattle.sv_check.specs.Loaded.{loaded, with_inode}
use Rattle.sv_check.specs.Sound.{node_of, tree}
use Rattle.sv_check.proofs.InodeSteps.{range_more}
use Rattle.sv_check.proofs.LoadSteps.{other_key}

module _ (g : Geometry) (image : List ℕ) where
  abbrev entry : ℕ → ℕ × Node
  entry n = (n, node_of g image (inode_of g image n))

  abbrev is_used : ℕ → Bool
  is_used n = not (is_free (inode_of g image n))

  -- the nodes of the first k inodes
  abbrev pub nodes_to : ℕ → fmap.FinMap nat_cmp Node
  nodes_to k = fmap.from_entries (map entry (filter is_used (range_with_len 1 k)))

  -- what was loaded after k inodes
  abbrev pub loaded_to : ℕ → Fs
  loaded_to k = record (empty_fs g) { nodes = nodes_to k }

  none-from : (q a k : ℕ) → a + k ≤ q → fmap.find nat_cmp q (map entry (filter is_used (range_with_len a k))) ≡ None
  none-from q a zero past = refl
  none-from q a (suc k) past = by_test (is_used a) (none-from q (a + 1) k (omega (arith, past))) where
    by_test : (t : Bool) → fmap.find nat_cmp q (map entry (filter is_used (range_with_len (a + 1) k))) ≡ None
        → fmap.find nat_cmp q (map entry (cond t (a ∷ filter is_used (range_with_len (a + 1) k)) (filter is_used (range_with_len (a + 1) k)))) ≡ None
    by_test false rest = rest
    by_test true rest = ap (λ (t : Bool). cond t (Some (node_of g image (inode_of g image a))) (fmap.find nat_cmp q (map entry (filter is_used (range_with_len (a + 1) k))))) (other_key q a (λ e. omega (arith, e, past))) ∙ rest

  -- a later inode has no node yet
  pub absent-yet : (k q : ℕ) → k < q → fmap.get (nodes_to k) q ≡ None
  absent-yet k q later = fmap.get-from_entries nat_cmp_total _ q ∙ none-from q 1 k (omega (arith, later))

  pub loaded-none : empty_fs g ≡ loaded_to 0
  loaded-none = refl

  filter-more : (xs : List ℕ) (n : ℕ) → filter is_used (xs ++ n ∷ []) ≡ filter is_used xs ++ (if is_used n then n ∷ [] else [])
  filter-more [] n = refl
  filter-more (x ∷ xs) n = by_test (is_used x) (filter-more xs n) where
    by_test : (t : Bool) → filter is_used (xs ++ n ∷ []) ≡ filter is_used xs ++ (if is_used n then n ∷ [] else []) → cond t (x ∷ filter is_used (xs ++ n ∷ [])) (filter is_used (xs ++ n ∷ [])) ≡ cond t (x ∷ filter is_used xs) (filter is_used xs) ++ (if is_used n then n ∷ [] else [])
    by_test true more = ap (λ (l : List ℕ). x ∷ l) more
    by_test false more = more

  -- one inode more
  pub loaded-more : (k n : ℕ) (inode : List ℕ) → n ≡ k + 1 → inode ≡ inode_of g image n → with_inode g image (loaded_to k) n inode ≡ loaded_to n
  loaded-more k n inode next is =
      ap (with_inode g image (loaded_to k) n) is ∙ by_test (is_free (inode_of g image n)) refl where
        more : filter is_used (range_with_len 1 n) ≡ filter is_used (range_with_len 1 k) ++ (if is_used n then n ∷ [] else [])
        more =
            let at : 1 + k ≡ n = omega (arith, next) in
            ap (filter is_used) (range_more 1 k n next ∙ ap (λ (x : ℕ). range_with_len 1 k ++ x ∷ []) at) ∙ filter-more (range_with_len 1 k) n

        by_test : (t : Bool) → is_free (inode_of g image n) ≡ t → (if t then loaded_to k else record (loaded_to k) { nodes = fmap.insert (nodes_to k) n (node_of g image (inode_of g image n)) }) ≡ loaded_to n
        by_test true free =
            ap (λ (l : List ℕ). record (empty_fs g) { nodes = fmap.from_entries (map entry l) })
            (sym (more ∙ ap (λ (t : Bool). filter is_used (range_with_len 1 k) ++ (if not t then n ∷ [] else [])) free ∙ append-nil (filter is_used (range_with_len 1 k))))
        by_test false used =
            ap (λ (m : fmap.FinMap nat_cmp Node). record (empty_fs g) { nodes = m })
            (sym (fmap.from_entries_push nat_cmp_total nat_cmp-IsAntisymmetric (map entry (filter is_used (range_with_len 1 k))) n (node_of g image (inode_of g image n)) (none-from n 1 k (omega (arith, next))))
            ∙ ap fmap.from_entries (sym (ap (map entry) (more ∙ ap (λ (t : Bool). filter is_used (range_with_len 1 k) ++ (if not t then n ∷ [] else [])) used)
            ∙ map-append entry (filter is_used (range_with_len 1 k)) (n ∷ []))))

-- all inodes were put in
pub loaded-all : (image : List ℕ) (g : Geometry) → g ≡ geometry_of image → (k : ℕ) → k ≡ inode_count g → loaded_to g image k ≡ loaded image
unfolding tree used_inodes
loaded-all image g same k all = ap (loaded_to g image) all ∙ ap (λ (s : Geometry). loaded_to s image (inode_count s)) same
