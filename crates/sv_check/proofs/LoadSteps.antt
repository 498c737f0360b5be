-- The pages of a node are put in one by one: what each step leaves, and what stays.
use Rattle.std.proofs.Common.{◌≡◌, ◌≢◌, ◌≤◌, ◌<◌, ◌+◌, ◌==◌, ◌++◌, ◌∷◌, [], ◌∙◌, ℕ, Bool, true, false, List, Option, Some, None, IsSome, ap, sym, refl, subst, cond, if◌then◌else◌, option_map, option_and_then, nat_lt, arith}
use Rattle.std.specs.List.{list_all}
use Rattle.std.specs.Ordering.{nat_cmp, eq_by_cmp, is_eq}
use Rattle.std.specs.Cmp.{nat_cmp_total, tied_itself, Equal-is}
use Rattle.std.specs.FinMap as fmap
use Rattle.std.specs.FinMap.{nat_cmp-IsAntisymmetric}
use Rattle.std.proofs.lemmas.List.Folds.{list_all-append}
use Rattle.sv_form.specs.declared.geometry.Geometry.{Geometry}
use Rattle.sv_form.specs.Image.{block_of}
use Rattle.sv_form.specs.Node.{Node}
use Rattle.sv_plain.specs.Fs.{Fs, insert_some, page_of, with_page, with_page_of}
use Rattle.sv_check.specs.declared.pages.PageBlock.{PageBlock}
use Rattle.sv_check.specs.Loaded.{is_inside, with_all_reached, with_reached}
use Rattle.sv_check.specs.Pages.{IsAscending, pages_among}
use Rattle.sv_check.specs.Walk.{Reached}
use Rattle.sv_check.proofs.BooleanTests.{and_left, and_right, below}

-- ---- one entry of a map

pub same_key : (k : ℕ) → eq_by_cmp nat_cmp k k ≡ true
same_key k = ap is_eq (tied_itself nat_cmp_total k)

pub other_key : (q k : ℕ) → q ≢ k → eq_by_cmp nat_cmp q k ≡ false
other_key q k ne = by_test (eq_by_cmp nat_cmp q k) refl where
  by_test : (t : Bool) → eq_by_cmp nat_cmp q k ≡ t → t ≡ false
  by_test false e = refl
  by_test true e = absurd (ne (nat_cmp-IsAntisymmetric q k ((Equal-is (nat_cmp q k)).0 e)))

module _ {X : Type 0} (m : fmap.FinMap nat_cmp X) (k : ℕ) (v : X) where
  pub get-here : fmap.get (fmap.insert m k v) k ≡ Some v
  get-here = fmap.get-insert nat_cmp_total m k v k ∙ ap (λ (t : Bool). cond t (Some v) (fmap.get m k)) (same_key k)

  pub get-other : (q : ℕ) → q ≢ k → fmap.get (fmap.insert m k v) q ≡ fmap.get m q
  get-other q ne = fmap.get-insert nat_cmp_total m k v q ∙ ap (λ (t : Bool). cond t (Some v) (fmap.get m q)) (other_key q k ne)

-- ---- one page

module _ (n page : ℕ) (bytes : List ℕ) where
  there-node : (m : fmap.FinMap nat_cmp Node) (o : Option Node) → fmap.get m n ≡ o → IsSome o → IsSome (fmap.get (insert_some m n (option_map (with_page page bytes) o)) n)
  there-node m None e some = let no : ⊥ = cc some in absurd no
  there-node m (Some node) e some = subst (λ (o : Option Node). IsSome o) (sym (get-here m n (with_page page bytes node))) refl

  other-page : (k : ℕ) → k ≢ page → (m : fmap.FinMap nat_cmp Node) (o : Option Node) → fmap.get m n ≡ o
      → option_and_then (λ (node : Node). fmap.get node.pages k) (fmap.get (insert_some m n (option_map (with_page page bytes) o)) n) ≡ option_and_then (λ (node : Node). fmap.get node.pages k) o
  other-page k ne m None e = ap (option_and_then (λ (node : Node). fmap.get node.pages k)) e
  other-page k ne m (Some node) e =
      ap (option_and_then (λ (x : Node). fmap.get x.pages k)) (get-here m n (with_page page bytes node)) ∙ get-other node.pages page bytes k ne

  pub there-page : (fs : Fs) → IsSome (fmap.get fs.nodes n) → IsSome (fmap.get (with_page_of fs n page bytes).nodes n)
  there-page fs some = there-node fs.nodes (fmap.get fs.nodes n) refl some

  pub stays-page : (fs : Fs) (k : ℕ) → k ≢ page → page_of (with_page_of fs n page bytes) n k ≡ page_of fs n k
  stays-page fs k ne = other-page k ne fs.nodes (fmap.get fs.nodes n) refl

-- ---- all blocks of a list

ascending-end : (low high : ℕ) (ps : List PageBlock) → IsAscending low ps high → low ≤ high
ascending-end low high [] is = is
ascending-end low high (p ∷ ps) is =
    let first = is.0 in
    let rest = ascending-end (p.page + 1) high ps is.1 in
    omega (arith, first, rest)

module _ (g : Geometry) (image : List ℕ) (n : ℕ) where
  pub all-none : (fs : Fs) → with_all_reached g image n fs [] ≡ fs
  unfolding with_all_reached
  all-none fs = refl

  pub all-append : (fs : Fs) (xs ys : List Reached) → with_all_reached g image n fs (xs ++ ys) ≡ with_all_reached g image n (with_all_reached g image n fs xs) ys
  unfolding with_all_reached
  all-append fs [] ys = refl
  all-append fs (x ∷ xs) ys = all-append (with_reached g image n fs x) xs ys

  not_zero : (h : ℕ) → h ≢ 0 → (h == 0) ≡ false
  not_zero h some = grind (arith, some)

  -- an indirect block is no page
  pub all-indirect : (fs : Fs) (height page b : ℕ) (rest : List Reached) → height ≢ 0 → with_all_reached g image n fs (record { height = height; page = page; block = b } ∷ rest) ≡ with_all_reached g image n fs rest
  unfolding with_all_reached
  all-indirect fs height page b rest some =
      ap (λ (t : Bool). with_all_reached g image n (if t then with_page_of fs n page (block_of g image b) else fs) rest) (not_zero height some)

  pub all-page : (fs : Fs) (page b : ℕ) → with_all_reached g image n fs (record { height = 0; page = page; block = b } ∷ []) ≡ with_page_of fs n page (block_of g image b)
  unfolding with_all_reached
  all-page fs page b = refl

  there-if : (fs : Fs) (page b : ℕ) (t : Bool) → IsSome (fmap.get fs.nodes n) → IsSome (fmap.get (if t then with_page_of fs n page (block_of g image b) else fs).nodes n)
  there-if fs page b true some = there-page n page (block_of g image b) fs some
  there-if fs page b false some = some

  pub there-all : (fs : Fs) (rs : List Reached) → IsSome (fmap.get fs.nodes n) → IsSome (fmap.get (with_all_reached g image n fs rs).nodes n)
  unfolding with_all_reached
  there-all fs [] some = some
  there-all fs (r ∷ rest) some = there-all (with_reached g image n fs r) rest (there-if fs r.page r.block (r.height == 0) some)

  block-if : (fs : Fs) (page b : ℕ) (t : Bool) → (if t then with_page_of fs n page (block_of g image b) else fs).block ≡ fs.block
  block-if fs page b true = refl
  block-if fs page b false = refl

  pub block-all : (fs : Fs) (rs : List Reached) → (with_all_reached g image n fs rs).block ≡ fs.block
  unfolding with_all_reached
  block-all fs [] = refl
  block-all fs (r ∷ rest) = block-all (with_reached g image n fs r) rest ∙ block-if fs r.page r.block (r.height == 0)

  -- a page past all of them stays
  pub stays-all : (k low high : ℕ) → high ≤ k → (rs : List Reached) (fs : Fs) → IsAscending low (pages_among rs) high → page_of (with_all_reached g image n fs rs) n k ≡ page_of fs n k
  unfolding with_all_reached
  stays-all k low high past [] fs is = refl
  stays-all k low high past (r ∷ rest) fs is =
      by_height (λ from s up. stays-all k from high past rest s up) (r.height == 0) is where
        by_height : ((from : ℕ) (s : Fs) → IsAscending from (pages_among rest) high → page_of (with_all_reached g image n s rest) n k ≡ page_of s n k)
            → (t : Bool) → IsAscending low ((if t then record { page = r.page; block = r.block } ∷ [] else []) ++ pages_among rest) high
            → page_of (with_all_reached g image n (if t then with_page_of fs n r.page (block_of g image r.block) else fs) rest) n k ≡ page_of fs n k
        by_height later false up = later low fs up
        by_height later true up =
            let last = ascending-end (r.page + 1) high (pages_among rest) up.1 in
            later (r.page + 1) (with_page_of fs n r.page (block_of g image r.block)) up.1 ∙ stays-page n r.page (block_of g image r.block) fs k (λ e. omega (arith, e, last, past))

-- ---- blocks of the image

module _ (g : Geometry) where
  pub inside-first : (height page b : ℕ) (rest : List Reached) → list_all (is_inside g) (record { height = height; page = page; block = b } ∷ rest) ≡ true → b < g.blocks
  inside-first height page b rest all = below b g.blocks (and_left (nat_lt b g.blocks) (list_all (is_inside g) rest) all)

  pub inside-rest : (r : Reached) (rest : List Reached) → list_all (is_inside g) (r ∷ rest) ≡ true → list_all (is_inside g) rest ≡ true
  inside-rest r rest all = and_right (is_inside g r) (list_all (is_inside g) rest) all

  pub inside-left : (xs ys : List Reached) → list_all (is_inside g) (xs ++ ys) ≡ true → list_all (is_inside g) xs ≡ true
  inside-left xs ys all = and_left (list_all (is_inside g) xs) (list_all (is_inside g) ys) (sym (list_all-append (is_inside g) xs ys) ∙ all)

  pub inside-right : (xs ys : List Reached) → list_all (is_inside g) (xs ++ ys) ≡ true → list_all (is_inside g) ys ≡ true
  inside-right xs ys all = and_right (list_all (is_inside g) xs) (list_all (is_inside g) ys) (sym (list_all-append (is_inside g) xs ys) ∙ all)
