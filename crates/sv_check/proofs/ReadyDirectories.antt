-- The directories that the walk kept are ready for a look at their entries.
use Rattle.std.proofs.Common.{◌≡◌, ◌≤◌, ◌<◌, ◌+◌, ◌%◌, ◌==◌, ◌&&◌, ◌||◌, ◌++◌, ◌∷◌, [], ◌⊎◌, ◌∙◌, ℕ, zero, suc, Bool, not, true, false, List, Option, Some, None, All, ap, sym, refl, subst, inl, inr, cond, if◌then◌else◌, map, filter, flat_map, option_and_then, get_or, length, nat_lt, arith}
use Rattle.std.specs.List.{range_with_len, list_all}
use Rattle.std.proofs.lemmas.Bool.{cases_eq, eqb-true, false≢true}
use Rattle.std.proofs.lemmas.List.{get_or-map, length-map}
use Rattle.std.proofs.lemmas.List.Folds.{list_all-append}
use Rattle.sv_form.specs.declared.geometry.Geometry.{Geometry}
use Rattle.sv_form.specs.Geometry.{inode_count}
use Rattle.sv_form.specs.Image.{inode_of}
use Rattle.sv_form.specs.PagePath.{greatest_size}
use Rattle.sv_plain.specs.Front.{size_of}
use Rattle.sv_check.specs.declared.sound.met.Met.{Met}
use Rattle.sv_check.specs.declared.pages.Directory.{Directory}
use Rattle.sv_check.specs.declared.pages.PageBlock.{PageBlock}
use Rattle.sv_check.specs.Directories.{directories}
use Rattle.sv_check.specs.InodeList.{is_directory, is_free, is_missized, size_flaw, used_inodes}
use Rattle.sv_check.specs.Pages.{directory_in, DirectoryPages, IsReady, kept_of, pages_among}
use Rattle.sv_check.specs.Walk.{Reached, reached, met_of, walk, first_bad, is_data_block, is_new, nothing_met, with_met, range_flaw, twice_flaw}
use Rattle.sv_check.proofs.InodeReads.{and_first, and_second, no_directory}
use Rattle.sv_check.proofs.InodeSteps.{none_in_range}

-- ---- the numbers of the directories

module _ (q : ℕ → Bool) where
  pub record IsPassed (a n k : ℕ) : Type 0 where
    pub low : a ≤ k
    pub high : k < a + n
    pub so : q k ≡ true

  passed_wider : (a n k : ℕ) → IsPassed (a + 1) n k → IsPassed a (suc n) k
  passed_wider a n k is = record { low = omega (arith, is.low); high = omega (arith, is.high); so = is.so }

  passed_step : (a n : ℕ) (t : Bool) → q a ≡ t → ((k d : ℕ) → k < length (filter q (range_with_len (a + 1) n)) → IsPassed (a + 1) n (get_or (filter q (range_with_len (a + 1) n)) k d))
      → (k d : ℕ) → k < length (cond t (a ∷ filter q (range_with_len (a + 1) n)) (filter q (range_with_len (a + 1) n)))
      → IsPassed a (suc n) (get_or (cond t (a ∷ filter q (range_with_len (a + 1) n)) (filter q (range_with_len (a + 1) n))) k d)
  passed_step a n false is rest k d below = passed_wider a n _ (rest k d below)
  passed_step a n true is rest zero d below = record { low = omega arith; high = omega arith; so = is }
  passed_step a n true is rest (suc k) d below = passed_wider a n _ (rest k d (omega (arith, below)))

  pub passed : (n a k d : ℕ) → k < length (filter q (range_with_len a n)) → IsPassed a n (get_or (filter q (range_with_len a n)) k d)
  passed zero a k d below = absurd (omega (arith, below))
  passed (suc n) a k d below = passed_step a n (q a) refl (passed n (a + 1)) k d below

-- ---- the blocks of the walk

module _ (g : Geometry) where
  abbrev pub inside : ℕ → Bool
  inside b = nat_lt b g.blocks

  pub bad_some : (before : ℕ → Bool) (m : Met) (rest : List Met) (t : Bool) → cond t (first_bad g (with_met before m.block) rest) (Some m) ≡ None → (t ≡ true) × (first_bad g (with_met before m.block) rest ≡ None)
  bad_some before m rest true e = (refl, e)
  bad_some before m rest false e = let no : ⊥ = cc e in absurd no

  pub all_inside : (before : ℕ → Bool) (list : List Met) → first_bad g before list ≡ None → list_all (λ (m : Met). inside m.block) list ≡ true
  unfolding first_bad
  all_inside before [] e = refl
  all_inside before (m ∷ rest) e =
      let parts = bad_some before m rest (is_new g before m.block) e in
      let known : is_data_block g m.block ≡ true = and_first (is_data_block g m.block) (not (before m.block)) parts.0 in
      ap (λ (t : Bool). t && list_all (λ (m : Met). inside m.block) rest) (and_second _ (inside m.block) known) ∙ all_inside (with_met before m.block) rest parts.1

  no_bad : (o : Option Met) → option_and_then (λ m. if is_data_block g m.block then None else Some m.inode) o ≡ None → option_and_then (λ m. if is_data_block g m.block then Some m.block else None) o ≡ None → o ≡ None
  no_bad None range twice = refl
  no_bad (Some m) range twice = by_test (is_data_block g m.block) range twice where
    by_test : (t : Bool) → (if t then None else Some m.inode) ≡ None → (if t then Some m.block else None) ≡ None → Some m ≡ None
    by_test true range twice = let no : ⊥ = cc twice in absurd no
    by_test false range twice = let no : ⊥ = cc range in absurd no

-- what holds of all elements of joined lists holds of those of one
module _ (p : Met → Bool) (f : ℕ → List Met) (q : ℕ → Bool) where
  one_list : (a k : ℕ) (t : Bool) (rest : List ℕ) → q a ≡ t → q k ≡ true → list_all p (flat_map f (cond t (a ∷ rest) rest)) ≡ true → (a + 1 ≤ k → list_all p (flat_map f rest) ≡ true → list_all p (f k) ≡ true)
      → a ≤ k → (a ≡ k) ⊎ (a ≡ k → ⊥) → list_all p (f k) ≡ true
  one_list a k false rest is so all later low (inl e) = absurd (false≢true (sym is ∙ ap q e ∙ so))
  one_list a k false rest is so all later low (inr other) = later (omega (arith, low, other)) all
  one_list a k true rest is so all later low (inl e) =
      ap (λ (x : ℕ). list_all p (f x)) (sym e) ∙ and_first (list_all p (f a)) (list_all p (flat_map f rest)) (sym (list_all-append p (f a) (flat_map f rest)) ∙ all)
  one_list a k true rest is so all later low (inr other) =
      later (omega (arith, low, other)) (and_second (list_all p (f a)) (list_all p (flat_map f rest)) (sym (list_all-append p (f a) (flat_map f rest)) ∙ all))

  pub each_list : (n a k : ℕ) → list_all p (flat_map f (filter q (range_with_len a n))) ≡ true → a ≤ k → k < a + n → q k ≡ true → list_all p (f k) ≡ true
  each_list zero a k all low high so = absurd (omega (arith, low, high))
  each_list (suc n) a k all low high so =
      one_list a k (q a) (filter q (range_with_len (a + 1) n)) refl so all (λ more rest. each_list n (a + 1) k rest more (omega (arith, high)) so) low (cases_eq a k)

-- the pages among blocks that stand in the image
below_from : (b m : ℕ) → nat_lt b m ≡ true → b < m
below_from b m e = grind (arith, e)

module _ (g : Geometry) (n : ℕ) where
  abbrev met_here : Reached → Met
  met_here r = record { inode = n; block = r.block }

  pages_below : (rs : List Reached) → list_all (λ (m : Met). inside g m.block) (map met_here rs) ≡ true → (k : ℕ) (d : PageBlock) → k < length (pages_among rs)
      → (get_or (pages_among rs) k d).block < g.blocks
  pages_below [] all k d below = absurd (omega (arith, below))
  pages_below (r ∷ rs) all k d below =
      by_height (r.height == 0) k below (and_first (inside g r.block) (list_all (λ (m : Met). inside g m.block) (map met_here rs)) all)
      (pages_below rs (and_second (inside g r.block) (list_all (λ (m : Met). inside g m.block) (map met_here rs)) all)) where
        by_height : (t : Bool) (k : ℕ) → k < length ((if t then record { page = r.page; block = r.block } ∷ [] else []) ++ pages_among rs) → inside g r.block ≡ true
            → ((j : ℕ) (e : PageBlock) → j < length (pages_among rs) → (get_or (pages_among rs) j e).block < g.blocks)
            → (get_or ((if t then record { page = r.page; block = r.block } ∷ [] else []) ++ pages_among rs) k d).block < g.blocks
        by_height false k below here rest = rest k d below
        by_height true zero below here rest = below_from r.block g.blocks here
        by_height true (suc k) below here rest = rest k d (omega (arith, below))

-- ---- what is kept

inodes_of : (ds : List Directory) → map (λ d. d.inode) ds ≡ map (λ q. q.inode) (map kept_of ds)
inodes_of [] = refl
inodes_of (d ∷ ds) = ap (λ (l : List ℕ). d.inode ∷ l) (inodes_of ds)

numbers_of : (g : Geometry) (image : List ℕ) (ns : List ℕ) → map (λ q. q.inode) (map (directory_in g image) ns) ≡ ns
numbers_of g image [] = refl
numbers_of g image (n ∷ ns) = ap (λ (l : List ℕ). n ∷ l) (numbers_of g image ns)

-- ---- a directory's size

not_first : (a b : Bool) → (a || b) ≡ false → b ≡ false
not_first false b e = e
not_first true b e = absurd (false≢true (sym e))

not_not : (t : Bool) → not t ≡ false → t ≡ true
not_not true e = refl
not_not false e = sym e

module _ (g : Geometry) (image : List ℕ) (size : size_flaw g image ≡ None) (range : range_flaw g image ≡ None) (twice : twice_flaw g image ≡ None) where
  whole_size : (n : ℕ) → 1 ≤ n → n < 1 + inode_count g → is_directory (inode_of g image n) ≡ true → size_of (inode_of g image n) % 16 ≡ 0
  unfolding size_flaw
  whole_size n low high so =
      let inode : List ℕ = inode_of g image n in
      let fits : is_missized g inode ≡ false = none_in_range (λ k. is_missized g (inode_of g image k)) 1 (inode_count g) size n low high in
      let part : (is_directory inode && (nat_lt (size_of inode) 32 || not (size_of inode % 16 == 0))) ≡ false = not_first (nat_lt (greatest_size g) (size_of inode)) _ fits in
      let rest : (nat_lt (size_of inode) 32 || not (size_of inode % 16 == 0)) ≡ false =
      sym (ap (λ (t : Bool). t && (nat_lt (size_of inode) 32 || not (size_of inode % 16 == 0))) so) ∙ part in
      eqb-true (size_of inode % 16) 0 (not_not (size_of inode % 16 == 0) (not_first (nat_lt (size_of inode) 32) _ rest))

  pub no_bad_number : first_bad g nothing_met (walk g image) ≡ None
  unfolding range_flaw twice_flaw
  no_bad_number = no_bad g (first_bad g nothing_met (walk g image)) range twice

  used_if : (n : ℕ) → is_directory (inode_of g image n) ≡ true → (t : Bool) → is_free (inode_of g image n) ≡ t → not t ≡ true
  used_if n so false e = refl
  used_if n so true e = absurd (false≢true (sym (no_directory (inode_of g image n) e) ∙ so))

  blocks_inside : (n : ℕ) → 1 ≤ n → n < 1 + inode_count g → is_directory (inode_of g image n) ≡ true → All (λ p. p.block < g.blocks) (pages_among (reached g image (inode_of g image n)))
  unfolding walk used_inodes
  blocks_inside n low high so =
      pages_below g n (reached g image (inode_of g image n))
      (each_list (λ (m : Met). inside g m.block) (met_of g image) (λ k. not (is_free (inode_of g image k))) (inode_count g) 1 n (all_inside g nothing_met (walk g image) no_bad_number) low high
      (used_if n so (is_free (inode_of g image n)) refl))

  module _ (ds : List Directory) (kept : map kept_of ds ≡ map (directory_in g image) (directories g image)) where
    pub numbers_kept : map (λ d. d.inode) ds ≡ directories g image
    numbers_kept = inodes_of ds ∙ ap (λ (l : List DirectoryPages). map (λ d. d.inode) l) kept ∙ numbers_of g image (directories g image)

    count : length ds ≡ length (directories g image)
    count = sym (length-map ds kept_of) ∙ ap (λ (l : List DirectoryPages). length l) kept ∙ length-map (directories g image) (directory_in g image)

    known : (k : ℕ) → k < length (directories g image) → IsPassed (λ n. is_directory (inode_of g image n)) 1 (inode_count g) (get_or (directories g image) k 0)
    unfolding directories
    known k below = passed (λ n. is_directory (inode_of g image n)) (inode_count g) 1 k 0 below

    ready_at : (k : ℕ) (d : Directory) → k < length ds → IsReady g image (get_or ds k d)
    ready_at k d below =
        let within : k < length (directories g image) = omega (arith, below, count) in
        let n : ℕ = get_or (directories g image) k 0 in
        let at : IsPassed (λ x. is_directory (inode_of g image x)) 1 (inode_count g) n = known k within in
        let same : kept_of (get_or ds k d) ≡ directory_in g image n =
        sym (get_or-map kept_of ds k d (kept_of d) below) ∙ ap (λ (l : List DirectoryPages). get_or l k (kept_of d)) kept ∙ get_or-map (directory_in g image) (directories g image) k 0 (kept_of d) within in
        record {
          is = same ∙ ap (directory_in g image) (sym (ap (λ (q : DirectoryPages). q.inode) same));
          whole = ap (λ (q : DirectoryPages). q.size % 16) same ∙ whole_size n at.low at.high at.so;
          inside = subst (λ (ps : List PageBlock). All (λ p. p.block < g.blocks) ps) (sym (ap (λ (q : DirectoryPages). q.pages) same)) (blocks_inside n at.low at.high at.so);
        }

    pub ready_kept : All (IsReady g image) ds
    ready_kept = ready_at
