-- The walk over the blocks of one inode alone, where the walk over those of all meets no bad number.
use Rattle.std.proofs.Common.{◌≡◌, ◌≤◌, ◌<◌, ◌+◌, ◌==◌, ◌||◌, ◌&&◌, ◌++◌, ◌∷◌, [], ◌⊎◌, ◌∙◌, ℕ, zero, suc, Bool, not, true, false, List, Some, None, ap, sym, refl, inl, inr, cond, filter, flat_map, arith}
use Rattle.std.specs.List.{range_with_len, list_all}
use Rattle.std.proofs.lemmas.Bool.{cases_eq, false≢true}
use Rattle.std.proofs.lemmas.List.{append-nil}
use Rattle.sv_form.specs.declared.geometry.Geometry.{Geometry}
use Rattle.sv_form.specs.Geometry.{inode_count}
use Rattle.sv_form.specs.Image.{inode_of}
use Rattle.sv_check.specs.declared.sound.met.Met.{Met}
use Rattle.sv_check.specs.InodeList.{is_free, size_flaw, used_inodes}
use Rattle.sv_check.specs.Progress.{Progress, StopsAt, met_by}
use Rattle.sv_check.specs.Walk.{first_bad, is_data_block, is_new, met_of, nothing_met, reached, range_flaw, twice_flaw, walk, with_met}
use Rattle.sv_check.proofs.InodeReads.{and_first, and_second}
use Rattle.sv_check.proofs.ReadyDirectories.{bad_some, no_bad_number}

not_true : (t : Bool) → not t ≡ true → t ≡ false
not_true true e = absurd (false≢true e)
not_true false e = refl

not_false : (t : Bool) → t ≡ false → not t ≡ true
not_false t e = ap not e

module _ (g : Geometry) where
  -- fewer were met before: no bad number either
  fewer : (p q : ℕ → Bool) (b : ℕ) → ((x : ℕ) → p x ≡ false → q x ≡ false) → (x : ℕ) (t : Bool) → (t || p x) ≡ false → (t || q x) ≡ false
  fewer p q b less x true e = e
  fewer p q b less x false e = less x e

  no_bad_fewer : (p q : ℕ → Bool) (list : List Met) → ((x : ℕ) → p x ≡ false → q x ≡ false) → first_bad g p list ≡ None → first_bad g q list ≡ None
  unfolding first_bad
  no_bad_fewer p q [] less none = refl
  no_bad_fewer p q (m ∷ rest) less none =
      let parts = bad_some g p m rest (is_new g p m.block) none in
      let inside : is_data_block g m.block ≡ true = and_first (is_data_block g m.block) (not (p m.block)) parts.0 in
      let fresh : p m.block ≡ false = not_true (p m.block) (and_second (is_data_block g m.block) (not (p m.block)) parts.0) in
      let new : is_new g q m.block ≡ true = ap (λ (t : Bool). t && not (q m.block)) inside ∙ not_false (q m.block) (less m.block fresh) in
      ap (λ (t : Bool). cond t (first_bad g (with_met q m.block) rest) (Some m)) new
      ∙ no_bad_fewer (with_met p m.block) (with_met q m.block) rest (λ x e. fewer p q m.block less x (x == m.block) e) parts.1

  met_more : (p : ℕ → Bool) (b x : ℕ) (t : Bool) → (t || p x) ≡ false → p x ≡ false
  met_more p b x true e = absurd (false≢true (sym e))
  met_more p b x false e = e

  -- nor among those that come first, nor among those that come after
  no_bad_front : (p : ℕ → Bool) (xs ys : List Met) → first_bad g p (xs ++ ys) ≡ None → first_bad g p xs ≡ None
  unfolding first_bad
  no_bad_front p [] ys none = refl
  no_bad_front p (m ∷ xs) ys none =
      let parts = bad_some g p m (xs ++ ys) (is_new g p m.block) none in
      ap (λ (t : Bool). cond t (first_bad g (with_met p m.block) xs) (Some m)) parts.0 ∙ no_bad_front (with_met p m.block) xs ys parts.1

  no_bad_rest : (p : ℕ → Bool) (xs ys : List Met) → first_bad g p (xs ++ ys) ≡ None → first_bad g p ys ≡ None
  unfolding first_bad
  no_bad_rest p [] ys none = none
  no_bad_rest p (m ∷ xs) ys none =
      let parts = bad_some g p m (xs ++ ys) (is_new g p m.block) none in
      no_bad_fewer (with_met p m.block) p ys (λ x e. met_more p m.block x (x == m.block) e) (no_bad_rest (with_met p m.block) xs ys parts.1)

  -- the blocks of a walk without a bad number are data blocks
  pub all_data : (p : ℕ → Bool) (list : List Met) → first_bad g p list ≡ None → list_all (λ m. is_data_block g m.block) list ≡ true
  unfolding first_bad
  all_data p [] none = refl
  all_data p (m ∷ rest) none =
      let parts = bad_some g p m rest (is_new g p m.block) none in
      let inside : is_data_block g m.block ≡ true = and_first (is_data_block g m.block) (not (p m.block)) parts.0 in
      ap (λ (t : Bool). t && list_all (λ (x : Met). is_data_block g x.block) rest) inside ∙ all_data (with_met p m.block) rest parts.1

  module _ (f : ℕ → List Met) (q : ℕ → Bool) where
    one_inode : (a k : ℕ) (t : Bool) (rest : List ℕ) → q a ≡ t → q k ≡ true → first_bad g nothing_met (flat_map f (cond t (a ∷ rest) rest)) ≡ None
        → (a + 1 ≤ k → first_bad g nothing_met (flat_map f rest) ≡ None → first_bad g nothing_met (f k) ≡ None) → a ≤ k → (a ≡ k) ⊎ (a ≡ k → ⊥) → first_bad g nothing_met (f k) ≡ None
    one_inode a k false rest is so all later low (inl e) = absurd (false≢true (sym is ∙ ap q e ∙ so))
    one_inode a k false rest is so all later low (inr other) = later (omega (arith, low, other)) all
    one_inode a k true rest is so all later low (inl e) = ap (λ (x : ℕ). first_bad g nothing_met (f x)) (sym e) ∙ no_bad_front nothing_met (f a) (flat_map f rest) all
    one_inode a k true rest is so all later low (inr other) = later (omega (arith, low, other)) (no_bad_rest nothing_met (f a) (flat_map f rest) all)

    each_inode : (n a k : ℕ) → first_bad g nothing_met (flat_map f (filter q (range_with_len a n))) ≡ None → a ≤ k → k < a + n → q k ≡ true → first_bad g nothing_met (f k) ≡ None
    each_inode zero a k all low high so = absurd (omega (arith, low, high))
    each_inode (suc n) a k all low high so =
        one_inode a k (q a) (filter q (range_with_len (a + 1) n)) refl so all (λ more rest. each_inode n (a + 1) k rest more (omega (arith, high)) so) low (cases_eq a k)

module _ (g : Geometry) (image : List ℕ) (size : size_flaw g image ≡ None) (range : range_flaw g image ≡ None) (twice : twice_flaw g image ≡ None) where
  -- the walk over the blocks of a used inode meets no bad number
  pub no_bad_here : (n : ℕ) → 1 ≤ n → n < 1 + inode_count g → is_free (inode_of g image n) ≡ false → first_bad g nothing_met (met_of g image n) ≡ None
  unfolding walk used_inodes
  no_bad_here n low high used =
      each_inode g (met_of g image) (λ k. not (is_free (inode_of g image k))) (inode_count g) 1 n (no_bad_number g image size range twice) low high (ap not used)

-- it does not stop
pub never_stops : (g : Geometry) (image : List ℕ) (n bad : ℕ) (p : Progress) → first_bad g nothing_met (met_of g image n) ≡ None → nothing_met ≡ met_by p.owner
    → StopsAt g n p (reached g image (inode_of g image n)) bad → ⊥
never_stops g image n bad p none owned stops =
    let met : List Met = met_of g image n in
    let here : first_bad g nothing_met met ≡ Some (record { inode = n; block = bad }) =
    ap (λ (b : ℕ → Bool). first_bad g b met) owned ∙ ap (first_bad g (met_by p.owner)) (sym (append-nil met)) ∙ stops.rest [] in
    let no : None ≡ Some (record { inode = n; block = bad }) = sym none ∙ here in
    cc no
