-- Whose each block is, as the walk finds it inode by inode.
use Rattle.std.proofs.Common.{◌≡◌, ◌≢◌, ◌≤◌, ◌<◌, ◌+◌, ◌-◌, ◌∷◌, [], ◌==◌, ◌||◌, ◌∙◌, ℕ, Bool, not, true, false, List, Option, Some, None, ap, sym, refl, cond, find, filter, map, replicate, slice_index, unwrap_or, arith}
use Rattle.std.specs.List.{range_with_len, list_any}
use Rattle.std.proofs.lemmas.Bool.{eqb-true, false≢true}
use Rattle.std.proofs.lemmas.List.{append-nil}
use Rattle.sv_form.specs.declared.geometry.Geometry.{Geometry}
use Rattle.sv_form.specs.Geometry.{inode_count}
use Rattle.sv_form.specs.Image.{inode_of}
use Rattle.sv_plain.specs.Front.{size_of}
use Rattle.sv_check.specs.declared.sound.met.Met.{Met}
use Rattle.sv_check.specs.BlockOwners.{block_owner, reaches}
use Rattle.sv_check.specs.InodeList.{used_inodes}
use Rattle.sv_check.specs.Progress.{after, GoesOn, met_at, met_by, Progress, step}
use Rattle.sv_check.specs.Walk.{first_bad, is_among, is_data_block, is_new, Reached, reached, with_met}
use Rattle.sv_check.proofs.InodeReads.{and_first, and_second}
use Rattle.sv_check.proofs.WalkSteps.{from_on-end, from_on-skip, from_on-take}
use Rattle.sv_check.proofs.WholeWalk.{is_used, left, zeros-index}

-- ---- what a list of met numbers has

abbrev blocks_in : List Met → List ℕ
blocks_in ms = map (λ m. m.block) ms

bad_some : (g : Geometry) (before : ℕ → Bool) (m : Met) (rest : List Met) (t : Bool) → cond t (first_bad g (with_met before m.block) rest) (Some m) ≡ None
    → (t ≡ true) × (first_bad g (with_met before m.block) rest ≡ None)
bad_some g before m rest true e = (refl, e)
bad_some g before m rest false e = let no : ⊥ = cc e in absurd no

or_none : (a b : Bool) → (a || b) ≡ false → b ≡ false
or_none false b e = e
or_none true b e = absurd (false≢true (sym e))

not_true : (t : Bool) → not t ≡ true → t ≡ false
not_true false e = refl
not_true true e = absurd (false≢true e)

-- where none is bad, each is a data block that was not met before
pub each_new : (g : Geometry) (before : ℕ → Bool) (ms : List Met) (b : ℕ) → first_bad g before ms ≡ None → is_among (blocks_in ms) b ≡ true → (is_data_block g b ≡ true) × (before b ≡ false)
unfolding first_bad
each_new g before [] b none among = absurd (false≢true among)
each_new g before (m ∷ ms) b none among =
    let parts = bad_some g before m ms (is_new g before m.block) none in
    by_test (m.block == b) refl (parts.0) (each_new g (with_met before m.block) ms b parts.1) among where
      by_test : (t : Bool) → (m.block == b) ≡ t → is_new g before m.block ≡ true
          → (is_among (blocks_in ms) b ≡ true → (is_data_block g b ≡ true) × (with_met before m.block b ≡ false)) → (t || is_among (blocks_in ms) b) ≡ true
          → (is_data_block g b ≡ true) × (before b ≡ false)
      by_test true here new rest among =
          let same = eqb-true m.block b here in
          let now : is_new g before b ≡ true = ap (is_new g before) (sym same) ∙ new in
          (and_first (is_data_block g b) (not (before b)) now, not_true (before b) (and_second (is_data_block g b) (not (before b)) now))
      by_test false here new rest among = ((rest among).0, or_none (b == m.block) (before b) (rest among).1)

pub among_met : (n b : ℕ) (rs : List Reached) → is_among (blocks_in (met_at n rs)) b ≡ list_any (λ r. r.block == b) rs
among_met n b [] = refl
among_met n b (r ∷ rs) = ap (λ (t : Bool). (r.block == b) || t) (among_met n b rs)

module _ (g : Geometry) (image : List ℕ) where
  -- ---- one inode

  taken_first : (n x b old : ℕ) (t u rest : Bool) → (b == x) ≡ t → (x == b) ≡ u → cond rest n (cond t n old) ≡ cond (u || rest) n old
  taken_first n x b old true true true e f = refl
  taken_first n x b old true true false e f = refl
  taken_first n x b old false false rest e f = refl
  taken_first n x b old true false rest e f = let no : ⊥ = grind (arith, e, f) in absurd no
  taken_first n x b old false true rest e f = let no : ⊥ = grind (arith, e, f) in absurd no

  after-owner : (n size : ℕ) (p : Progress) (list : List Reached) (b : ℕ) → (after g image n size p list).owner b ≡ cond (list_any (λ r. r.block == b) list) n (p.owner b)
  after-owner n size p [] b = refl
  after-owner n size p (r ∷ rest) b =
      after-owner n size (step g image n size p r) rest b
      ∙ taken_first n r.block b (p.owner b) (b == r.block) (r.block == b) (list_any (λ (r : Reached). r.block == b) rest) refl refl

  -- ---- inode after inode

  -- the owner so far, or else the first of the inodes from k on that reaches the block
  abbrev pub owner_from : ℕ → (ℕ → ℕ) → ℕ → ℕ
  owner_from k owner b = cond (owner b == 0) (unwrap_or (find (reaches g image b) (left g image k)) 0) (owner b)

  pub record IsOwnedFrom (k : ℕ) (owner : ℕ → ℕ) : Type 0 where
    pub same : (b : ℕ) → owner_from k owner b ≡ block_owner g image b

  all_left : used_inodes g image ≡ left g image 1
  unfolding used_inodes
  all_left =
      let same : inode_count g ≡ inode_count g + 1 - 1 = omega arith in
      ap (λ (m : ℕ). filter (is_used g image) (range_with_len 1 m)) same

  pub owned_first : (n : ℕ) (owner : List ℕ) → owner ≡ replicate n 0 → IsOwnedFrom 1 (slice_index owner)
  unfolding block_owner
  owned_first n owner none = record {
    same = λ b.
        let zero_here : slice_index owner b ≡ 0 = ap (λ (l : List ℕ). slice_index l b) none ∙ zeros-index n b in
        ap (λ (x : ℕ). cond (x == 0) (unwrap_or (find (reaches g image b) (left g image 1)) 0) x) zero_here
        ∙ ap (λ (l : List ℕ). unwrap_or (find (reaches g image b) l) 0) (sym all_left);
  }

  pub owned_free : (k : ℕ) (owner : ℕ → ℕ) → k < inode_count g + 1 → is_used g image k ≡ false → IsOwnedFrom k owner → IsOwnedFrom (k + 1) owner
  owned_free k owner below free was = record {
    same = λ b.
        ap (λ (l : List ℕ). cond (owner b == 0) (unwrap_or (find (reaches g image b) l) 0) (owner b)) (sym (from_on-skip (is_used g image) (inode_count g + 1) k below free)) ∙ was.same b;
  }

  owned_by : (k b old : ℕ) (rest : Option ℕ) (t z : Bool) → k ≢ 0 → (old == 0) ≡ z → (t ≡ true → z ≡ true)
      → cond (cond t k old == 0) (unwrap_or rest 0) (cond t k old) ≡ cond z (unwrap_or (cond t (Some k) rest) 0) old
  owned_by k b old rest true true some is new =
      let other : (k == 0) ≡ false = grind (arith, some) in
      ap (λ (x : Bool). cond x (unwrap_or rest 0) k) other
  owned_by k b old rest true false some is new = absurd (false≢true (new refl))
  owned_by k b old rest false z some is new = ap (λ (x : Bool). cond x (unwrap_or rest 0) old) is

  unmet : (x : ℕ) → not (x == 0) ≡ false → (x == 0) ≡ true
  unmet x e = by_test (x == 0) e where
    by_test : (t : Bool) → not t ≡ false → t ≡ true
    by_test true e = refl
    by_test false e = sym e

  pub owned_used : (k : ℕ) (p : Progress) → k < inode_count g + 1 → is_used g image k ≡ true → IsOwnedFrom k p.owner → (q : Progress) (owner : ℕ → ℕ) → k ≢ 0
      → GoesOn g image k (size_of (inode_of g image k)) p (reached g image (inode_of g image k)) q → owner ≡ q.owner → IsOwnedFrom (k + 1) owner
  unfolding first_bad
  owned_used k p below used was q owner some goes same = record {
    same = λ b.
        let list : List Reached = reached g image (inode_of g image k) in
        let rest : Option ℕ = find (reaches g image b) (left g image (k + 1)) in
        let now : owner b ≡ cond (reaches g image b k) k (p.owner b) =
        ap (λ (o : ℕ → ℕ). o b) same ∙ ap (λ (s : Progress). s.owner b) goes.after ∙ after-owner k (size_of (inode_of g image k)) p list b in
        let none : first_bad g (met_by p.owner) (met_at k list) ≡ None = ap (first_bad g (met_by p.owner)) (sym (append-nil (met_at k list))) ∙ goes.rest [] in
        let new : reaches g image b k ≡ true → (p.owner b == 0) ≡ true = λ so. unmet (p.owner b) (each_new g (met_by p.owner) (met_at k list) b none (among_met k b list ∙ so)).1 in
        ap (λ (x : ℕ). cond (x == 0) (unwrap_or rest 0) x) now ∙ owned_by k b (p.owner b) rest (reaches g image b k) (p.owner b == 0) some refl new
        ∙ ap (λ (l : List ℕ). cond (p.owner b == 0) (unwrap_or (find (reaches g image b) l) 0) (p.owner b)) (sym (from_on-take (is_used g image) (inode_count g + 1) k below used)) ∙ was.same b;
  }

  zero_cond : (x : ℕ) (t : Bool) → (x == 0) ≡ t → x ≡ cond t 0 x
  zero_cond x true e = eqb-true x 0 e
  zero_cond x false e = refl

  pub owned_end : (k : ℕ) (owner : ℕ → ℕ) → inode_count g + 1 ≤ k → IsOwnedFrom k owner → (b : ℕ) → owner b ≡ block_owner g image b
  owned_end k owner over was b =
      zero_cond (owner b) (owner b == 0) refl
      ∙ ap (λ (l : List ℕ). cond (owner b == 0) (unwrap_or (find (reaches g image b) l) 0) (owner b)) (sym (from_on-end (is_used g image) (inode_count g + 1) k over)) ∙ was.same b
