-- One more inode: what a pass over the inode list has found so far.
use Rattle.std.proofs.Common.{◌≡◌, ◌≢◌, ◌≤◌, ◌==◌, ◌-◌, ◌*◌, ◌/◌, ◌+◌, ◌++◌, ◌∷◌, [], ◌∙◌, ℕ, Bool, true, false, not, List, Option, Some, None, ◌&&◌, ◌||◌, ◌<◌, ◌⊎◌, inl, inr, ap, sym, refl, cond, if◌then◌else◌, map, find, arith, add-zero, zero, suc}
use Rattle.std.specs.List.{range_with_len}
use Rattle.std.specs.Option.{option_or}
use Rattle.std.proofs.lemmas.Bool.{cases_eq, false≢true}
use Rattle.std.proofs.lemmas.List.{map-append}
use Rattle.std.proofs.lemmas.List.Folds.{find-append}
use Rattle.sv_form.specs.declared.geometry.Geometry.{Geometry}
use Rattle.sv_form.specs.Geometry.{IsGeometry, inode_count}
use Rattle.sv_form.specs.Image.{inode_of}
use Rattle.sv_check.specs.declared.inodes.InodeList.{InodeList}
use Rattle.sv_check.specs.InodeList.{is_directory, is_free, is_misread, is_missized, links_of, link_counts, reads_inode, used_flags, kind_flaw, size_flaw}

-- a range with one number more
pub range_suc : (a n : ℕ) → range_with_len a (suc n) ≡ range_with_len a n ++ (a + n) ∷ []
range_suc a zero = ap (λ (x : ℕ). x ∷ []) (sym (add-zero a))
range_suc a (suc n) =
    let at : a + 1 + n ≡ a + suc n = omega arith in
    ap (λ (xs : List ℕ). a ∷ xs) (range_suc (a + 1) n ∙ ap (λ (x : ℕ). range_with_len (a + 1) n ++ x ∷ []) at)

pub range_more : (a n m : ℕ) → m ≡ n + 1 → range_with_len a m ≡ range_with_len a n ++ (a + n) ∷ []
range_more a n m e =
    let is : m ≡ suc n = omega (arith, e) in
    ap (range_with_len a) is ∙ range_suc a n

-- the first so far, and one number more
pub find_more : (p : ℕ → Bool) (a n m x : ℕ) (t : Bool) (old new : Option ℕ) → m ≡ n + 1 → a + n ≡ x → t ≡ p x → old ≡ find p (range_with_len a n)
    → new ≡ option_or old (if t then Some x else None) → new ≡ find p (range_with_len a m)
find_more p a n m x t old new e at is was now =
    let last : find p ((a + n) ∷ []) ≡ (if t then Some x else None) = ap (λ (y : ℕ). find p (y ∷ [])) at ∙ ap (λ (b : Bool). cond b (Some x) None) (sym is) in
    now ∙ ap (λ (o : Option ℕ). option_or o (if t then Some x else None)) was ∙ ap (option_or (find p (range_with_len a n))) (sym last)
    ∙ sym (find-append p (range_with_len a n) ((a + n) ∷ [])) ∙ ap (find p) (sym (range_more a n m e))

-- the list so far, and one number more
pub map_more : {X : Type 0} (f : ℕ → X) (a n m x : ℕ) (t : X) (old new : List X) → m ≡ n + 1 → a + n ≡ x → t ≡ f x → old ≡ map f (range_with_len a n)
    → new ≡ old ++ t ∷ [] → new ≡ map f (range_with_len a m)
map_more {X} f a n m x t old new e at is was now =
    let last : t ≡ f (a + n) = is ∙ ap f (sym at) in
    now ∙ ap (λ (xs : List X). xs ++ t ∷ []) was ∙ ap (λ (b : X). map f (range_with_len a n) ++ b ∷ []) last
    ∙ sym (map-append f (range_with_len a n) ((a + n) ∷ [])) ∙ ap (map f) (sym (range_more a n m e))

-- what the list shows of the first n inodes
pub record IsListed (g : Geometry) (image : List ℕ) (n : ℕ) (l : InodeList) : Type 0 where
  pub used : l.used.items ≡ map (λ k. not (is_free (inode_of g image k))) (range_with_len 1 n)
  pub links : l.links.items ≡ map (λ k. links_of (inode_of g image k)) (range_with_len 1 n)
  pub kind : l.kind ≡ find (λ k. is_misread k (inode_of g image k)) (range_with_len 1 n)
  pub size : l.kind ≡ None → l.size ≡ find (λ k. is_missized g (inode_of g image k)) (range_with_len 1 n)
  pub root : l.kind ≡ None → 2 ≤ n → l.root ≡ is_directory (inode_of g image 2)

-- the first misread inode so far is none: then it was none before, and this inode reads
none_before : (old : Option ℕ) (t : Bool) (m : ℕ) → option_or old (if t then Some m else None) ≡ None → old ≡ None
none_before None t m e = refl
none_before (Some x) t m e = e

not_misread : (old : Option ℕ) (t : Bool) (m : ℕ) → option_or old (if t then Some m else None) ≡ None → t ≡ false
not_misread old false m e = refl
not_misread None true m e = let no : ⊥ = cc e in absurd no
not_misread (Some x) true m e = let no : ⊥ = cc e in absurd no

reads_then : (reads other : Bool) → (not reads || other) ≡ false → reads ≡ true
reads_then true other e = refl
reads_then false other e = absurd (false≢true (sym e))

-- ---- nothing was found

none_first : (t : Bool) (a : ℕ) (rest : Option ℕ) → cond t (Some a) rest ≡ None → (t ≡ false) × (rest ≡ None)
none_first false a rest e = (refl, e)
none_first true a rest e = let no : ⊥ = cc e in absurd no

none_step : (p : ℕ → Bool) (a k : ℕ) → p a ≡ false → (a + 1 ≤ k → p k ≡ false) → a ≤ k → (a ≡ k) ⊎ (a ≡ k → ⊥) → p k ≡ false
none_step p a k here rest low (inl e) = ap p (sym e) ∙ here
none_step p a k here rest low (inr other) = rest (omega (arith, low, other))

pub none_in_range : (p : ℕ → Bool) (a n : ℕ) → find p (range_with_len a n) ≡ None → (k : ℕ) → a ≤ k → k < a + n → p k ≡ false
none_in_range p a zero none k low high = absurd (omega (arith, low, high))
none_in_range p a (suc n) none k low high =
    let parts = none_first (p a) a (find p (range_with_len (a + 1) n)) none in
    none_step p a k parts.0 (λ more. none_in_range p (a + 1) n parts.1 k more (omega (arith, high))) low (cases_eq a k)

root_more : (g : Geometry) (image : List ℕ) (n m : ℕ) (inode : List ℕ) (old new : Bool) → m ≡ n + 1 → inode ≡ inode_of g image m → (2 ≤ n → old ≡ is_directory (inode_of g image 2))
    → (t : Bool) → (m == 2) ≡ t → new ≡ (if t then is_directory inode else old) → 2 ≤ m → new ≡ is_directory (inode_of g image 2)
root_more g image n m inode old new e is was true here now least =
    let two : m ≡ 2 = grind (arith, here) in
    now ∙ ap (λ (b : List ℕ). is_directory b) (is ∙ ap (inode_of g image) two)
root_more g image n m inode old new e is was false here now least =
    let other : m ≢ 2 = grind (arith, here) in
    now ∙ was (omega (arith, e, other, least))

pub listed_more : (g : Geometry) (image : List ℕ) (n m : ℕ) (inode : List ℕ) (old new : InodeList) → m ≡ n + 1 → inode ≡ inode_of g image m → IsListed g image n old
    → new.used.items ≡ old.used.items ++ not (is_free inode) ∷ [] → new.links.items ≡ old.links.items ++ links_of inode ∷ [] → new.kind ≡ option_or old.kind (if is_misread m inode then Some m else None)
    → (reads_inode inode ≡ true → new.size ≡ option_or old.size (if is_missized g inode then Some m else None))
    → (reads_inode inode ≡ true → new.root ≡ (if m == 2 then is_directory inode else old.root)) → IsListed g image m new
listed_more g image n m inode old new e is was used links kind size root =
    let at : 1 + n ≡ m = omega (arith, e) in
    let before : new.kind ≡ None → old.kind ≡ None = λ none. none_before old.kind (is_misread m inode) m (sym kind ∙ none) in
    let reads : new.kind ≡ None → reads_inode inode ≡ true = λ none.
    reads_then (reads_inode inode) ((m == 1) && not (is_free inode)) (not_misread old.kind (is_misread m inode) m (sym kind ∙ none)) in
    record {
      used = map_more (λ k. not (is_free (inode_of g image k))) 1 n m m (not (is_free inode)) _ _ e at (ap (λ (b : List ℕ). not (is_free b)) is) was.used used;
      links = map_more (λ k. links_of (inode_of g image k)) 1 n m m (links_of inode) _ _ e at (ap (λ (b : List ℕ). links_of b) is) was.links links;
      kind = find_more (λ k. is_misread k (inode_of g image k)) 1 n m m (is_misread m inode) _ _ e at (ap (is_misread m) is) was.kind kind;
      size = λ none. find_more (λ k. is_missized g (inode_of g image k)) 1 n m m (is_missized g inode) _ _ e at (ap (is_missized g) is) (was.size (before none)) (size (reads none));
      root = λ none. root_more g image n m inode old.root new.root e is (was.root (before none)) (m == 2) refl (root (reads none));
    }

-- each inode reads where condition 4 holds
pub all_read : (g : Geometry) (image : List ℕ) → kind_flaw g image ≡ None → (k : ℕ) → 1 ≤ k → k < inode_count g + 1 → reads_inode (inode_of g image k) ≡ true
unfolding kind_flaw
all_read g image none k low high =
    reads_then (reads_inode (inode_of g image k)) ((k == 1) && not (is_free (inode_of g image k)))
    (none_in_range (λ n. is_misread n (inode_of g image n)) 1 (inode_count g) none k low (omega (arith, high)))

module _ (g : Geometry) (image : List ℕ) (n : ℕ) (l : InodeList) (is : IsListed g image n l) (e : n ≡ inode_count g) where
  pub listed-used : l.used.items ≡ used_flags g image
  unfolding used_flags
  listed-used = is.used ∙ ap (λ (m : ℕ). map (λ k. not (is_free (inode_of g image k))) (range_with_len 1 m)) e

  pub listed-links : l.links.items ≡ link_counts g image
  unfolding link_counts
  listed-links = is.links ∙ ap (λ (m : ℕ). map (λ k. links_of (inode_of g image k)) (range_with_len 1 m)) e

  pub listed-kind : l.kind ≡ kind_flaw g image
  unfolding kind_flaw
  listed-kind = is.kind ∙ ap (λ (m : ℕ). find (λ k. is_misread k (inode_of g image k)) (range_with_len 1 m)) e

  pub listed-size : l.kind ≡ None → l.size ≡ size_flaw g image
  unfolding size_flaw
  listed-size none = is.size none ∙ ap (λ (m : ℕ). find (λ k. is_missized g (inode_of g image k)) (range_with_len 1 m)) e

  pub listed-root : IsGeometry g → l.kind ≡ None → l.root ≡ is_directory (inode_of g image 2)
  listed-root sizes none =
      let count : inode_count g ≡ (g.first_data - 2) * 1024 / 64 = ap (λ (s : ℕ). (g.first_data - 2) * s / 64) sizes.block_size in
      is.root none (omega (arith, count, e, sizes.least_first))
