-- The walk over all inodes, inode by inode: what it makes of the whole from what is left.
use Rattle.std.proofs.Common.{◌≡◌, ◌≢◌, map, ◌≤◌, ◌<◌, ◌+◌, ◌-◌, ◌++◌, ◌∷◌, [], ◌==◌, ◌||◌, ◌∙◌, ℕ, zero, suc, Bool, not, true, false, List, Option, Some, None, ap, sym, refl, subst, cond, if◌then◌else◌, find, filter, flat_map, replicate, slice_index, arith}
use Rattle.std.specs.List.{range_with_len, list_any}
use Rattle.std.specs.Option.{option_or}
use Rattle.std.specs.Bool.{then_some}
use Rattle.std.proofs.Math.Path.{fun_ext}
use Rattle.std.proofs.lemmas.List.{map-append}
use Rattle.std.proofs.lemmas.List.Folds.{list_any-append}
use Rattle.sv_form.specs.declared.geometry.Geometry.{Geometry}
use Rattle.sv_form.specs.Geometry.{inode_count}
use Rattle.sv_form.specs.Image.{inode_of}
use Rattle.sv_plain.specs.Front.{size_of}
use Rattle.sv_check.specs.declared.sound.met.Met.{Met}
use Rattle.sv_check.specs.InodeList.{is_free, used_inodes}
use Rattle.sv_check.specs.PastSize.{is_past, has_tail, some_reached, past_size_flaw, tail_flaw}
use Rattle.sv_check.specs.Progress.{met_at, Progress, met_by, step, after, GoesOn, StopsAt, Walks}
use Rattle.sv_check.specs.Walk.{is_among, Reached, reached, met_of, walk, first_bad, nothing_met}
use Rattle.sv_check.specs.Chain.{walked}
use Rattle.sv_check.proofs.WalkSteps.{owner_met, from_on, from_on-skip, from_on-take, from_on-end}

pub zeros-index : (n x : ℕ) → slice_index (replicate n 0) x ≡ 0
zeros-index zero x = refl
zeros-index (suc n) zero = refl
zeros-index (suc n) (suc x) = zeros-index n x

-- nothing was met while no block has an owner
pub nothing-owned : (n : ℕ) (owner : List ℕ) → owner ≡ replicate n 0 → nothing_met ≡ met_by (slice_index owner)
nothing-owned n owner is = fun_ext (λ x. sym (ap (λ (y : ℕ). not (y == 0)) (ap (λ (l : List ℕ). slice_index l x) is ∙ zeros-index n x)))

or_false : (b : Bool) → (false || b) ≡ b
or_false b = refl

pub or_false_after : (b : Bool) → (b || false) ≡ b
or_false_after true = refl
or_false_after false = refl

pub or_or : (a b c : Bool) → ((a || b) || c) ≡ (a || (b || c))
or_or true b c = refl
or_or false b c = refl

-- one number more that was met
pub met_two : (x b : ℕ) (p rest : Bool) → (((b == x) || p) || rest) ≡ (p || ((x == b) || rest))
met_two x b p rest = by_test x b p rest (b == x) (x == b) refl refl where
  by_test : (x b : ℕ) (p rest t u : Bool) → (b == x) ≡ t → (x == b) ≡ u → ((t || p) || rest) ≡ (p || (u || rest))
  by_test x b true rest true u e f = refl
  by_test x b true rest false u e f = refl
  by_test x b false rest true true e f = refl
  by_test x b false rest false false e f = refl
  by_test x b false rest true false e f = grind (arith, e, f)
  by_test x b false rest false true e f = grind (arith, e, f)

or_none : (o : Option ℕ) → option_or o None ≡ o
or_none None = refl
or_none (Some x) = refl

or_cond : (o rest : Option ℕ) (t : Bool) (n : ℕ) → option_or o (cond t (Some n) rest) ≡ option_or (option_or o (if t then Some n else None)) rest
or_cond None rest true n = refl
or_cond None rest false n = refl
or_cond (Some x) rest t n = refl

pub some_if : (o new found : Option ℕ) (t : Bool) (n : ℕ) → new ≡ option_or o found → found ≡ then_some t n → new ≡ option_or o (if t then Some n else None)
some_if o new found true n is e = is ∙ ap (option_or o) e
some_if o new found false n is e = is ∙ ap (option_or o) e

module _ (g : Geometry) (image img bytes : List ℕ) (n : ℕ) (p q : Progress) (ok : Bool) (bad : ℕ) where
  pub walks_inode : img ≡ image → bytes ≡ inode_of g image n → Walks g img n (size_of bytes) p (reached g img bytes) ok bad q
      → Walks g image n (size_of (inode_of g image n)) p (reached g image (inode_of g image n)) ok bad q
  walks_inode same is walks =
      let one : Walks g image n (size_of bytes) p (reached g image bytes) ok bad q =
      subst (λ (im : List ℕ). Walks g im n (size_of bytes) p (reached g im bytes) ok bad q) same walks in
      subst (λ (b : List ℕ). Walks g image n (size_of b) p (reached g image b) ok bad q) is one

module _ (g : Geometry) (image : List ℕ) where
  after-past : (n size : ℕ) (p : Progress) (list : List Reached) → (after g image n size p list).past ≡ (p.past || list_any (is_past g image size) list)
  after-past n size p [] = grind arith
  after-past n size p (r ∷ rest) = after-past n size (step g image n size p r) rest ∙ or_or p.past (is_past g image size r) (list_any (is_past g image size) rest)

  after-tail : (n size : ℕ) (p : Progress) (list : List Reached) → (after g image n size p list).tail ≡ (p.tail || list_any (has_tail g image size) list)
  after-tail n size p [] = grind arith
  after-tail n size p (r ∷ rest) = after-tail n size (step g image n size p r) rest ∙ or_or p.tail (has_tail g image size r) (list_any (has_tail g image size) rest)

  abbrev pub is_used : ℕ → Bool
  is_used n = not (is_free (inode_of g image n))

  after-met : (n size : ℕ) (p : Progress) (list : List Reached) (b : ℕ) → n ≢ 0
      → met_by (after g image n size p list).owner b ≡ (met_by p.owner b || is_among (map (λ m. m.block) (met_at n list)) b)
  after-met n size p [] b some = grind arith
  after-met n size p (r ∷ rest) b some =
      after-met n size (step g image n size p r) rest b some
      ∙ ap (λ (met : ℕ → Bool). met b || is_among (map (λ m. m.block) (met_at n rest)) b) (owner_met g image n size p.owner r.block some)
      ∙ met_two r.block b (met_by p.owner b) (is_among (map (λ m. m.block) (met_at n rest)) b)

  -- the used inodes from k on
  abbrev pub left : ℕ → List ℕ
  left k = from_on is_used (inode_count g + 1) k

  -- what is left tells, with what was found, what the whole tells
  pub record IsAt (k : ℕ) (owner : ℕ → ℕ) (past tail : Option ℕ) : Type 0 where
    pub bad : first_bad g nothing_met (walk g image) ≡ first_bad g (met_by owner) (flat_map (met_of g image) (left k))
    pub pasts : past_size_flaw g image ≡ option_or past (find (some_reached g image (is_past g image)) (left k))
    pub tails : tail_flaw g image ≡ option_or tail (find (some_reached g image (has_tail g image)) (left k))
    pub mets : (b : ℕ) → (met_by owner b || is_among (map (λ m. m.block) (flat_map (met_of g image) (left k))) b) ≡ is_among (walked g image) b

  all_left : used_inodes g image ≡ left 1
  unfolding used_inodes
  all_left =
      let same : inode_count g ≡ inode_count g + 1 - 1 = omega arith in
      ap (λ (m : ℕ). filter is_used (range_with_len 1 m)) same

  pub at_start : (owner : ℕ → ℕ) → nothing_met ≡ met_by owner → IsAt 1 owner None None
  unfolding walk past_size_flaw tail_flaw
  at_start owner none = record {
    bad = ap (λ (l : List ℕ). first_bad g nothing_met (flat_map (met_of g image) l)) all_left ∙ ap (λ (met : ℕ → Bool). first_bad g met (flat_map (met_of g image) (left 1))) none;
    pasts = ap (find (some_reached g image (is_past g image))) all_left;
    tails = ap (find (some_reached g image (has_tail g image))) all_left;
    mets = λ b.
        ap (λ (met : ℕ → Bool). met b || is_among (map (λ m. m.block) (flat_map (met_of g image) (left 1))) b) (sym none)
        ∙ ap (λ (l : List ℕ). is_among (map (λ m. m.block) (flat_map (met_of g image) l)) b) (sym all_left);
  }

  pub at_free : (k : ℕ) (owner : ℕ → ℕ) (past tail : Option ℕ) → k < inode_count g + 1 → is_used k ≡ false → IsAt k owner past tail → IsAt (k + 1) owner past tail
  at_free k owner past tail below free was =
      let same : left k ≡ left (k + 1) = from_on-skip is_used (inode_count g + 1) k below free in record {
        bad = was.bad ∙ ap (λ (l : List ℕ). first_bad g (met_by owner) (flat_map (met_of g image) l)) same;
        pasts = was.pasts ∙ ap (λ (l : List ℕ). option_or past (find (some_reached g image (is_past g image)) l)) same;
        tails = was.tails ∙ ap (λ (l : List ℕ). option_or tail (find (some_reached g image (has_tail g image)) l)) same;
        mets = λ b. ap (λ (l : List ℕ). met_by owner b || is_among (map (λ m. m.block) (flat_map (met_of g image) l)) b) (sym same) ∙ was.mets b;
      }

  module _ (k : ℕ) (p : Progress) (past tail : Option ℕ) (below : k < inode_count g + 1) (used : is_used k ≡ true) (was : IsAt k p.owner past tail) where
    here : left k ≡ k ∷ left (k + 1)
    here = from_on-take is_used (inode_count g + 1) k below used

    pub at_bad : (bad : ℕ) → StopsAt g k p (reached g image (inode_of g image k)) bad → Some (record { inode = k; block = bad }) ≡ first_bad g nothing_met (walk g image)
    at_bad bad stops =
        sym (was.bad ∙ ap (λ (l : List ℕ). first_bad g (met_by p.owner) (flat_map (met_of g image) l)) here ∙ stops.rest (flat_map (met_of g image) (left (k + 1))))

    pub at_used : (q : Progress) (owner : ℕ → ℕ) (new_past new_tail : Option ℕ) → k ≢ 0 → p.past ≡ false → p.tail ≡ false
        → GoesOn g image k (size_of (inode_of g image k)) p (reached g image (inode_of g image k)) q → owner ≡ q.owner
        → new_past ≡ option_or past (if q.past then Some k else None) → new_tail ≡ option_or tail (if q.tail then Some k else None) → IsAt (k + 1) owner new_past new_tail
    at_used q owner new_past new_tail some no_past no_tail goes same is_past' is_tail' =
        let size : ℕ = size_of (inode_of g image k) in
        let list : List Reached = reached g image (inode_of g image k) in
        let found_past : q.past ≡ list_any (is_past g image size) list =
        ap (λ (s : Progress). s.past) goes.after ∙ after-past k size p list ∙ ap (λ (b : Bool). b || list_any (is_past g image size) list) no_past in
        let found_tail : q.tail ≡ list_any (has_tail g image size) list =
        ap (λ (s : Progress). s.tail) goes.after ∙ after-tail k size p list ∙ ap (λ (b : Bool). b || list_any (has_tail g image size) list) no_tail in
        let more : List Met = flat_map (met_of g image) (left (k + 1)) in
        let block : Met → ℕ = λ m. m.block in
        let met_now : (b : ℕ) → met_by owner b ≡ (met_by p.owner b || is_among (map block (met_at k list)) b) = λ b.
        ap (λ (o : ℕ → ℕ). met_by o b) same ∙ ap (λ (s : Progress). met_by s.owner b) goes.after ∙ after-met k size p list b some in
        let both : (b : ℕ) → (is_among (map block (met_at k list)) b || is_among (map block more) b) ≡ is_among (map block (met_at k list ++ more)) b = λ b.
        sym (list_any-append (λ n. n == b) (map block (met_at k list)) (map block more)) ∙ ap (λ (l : List ℕ). is_among l b) (sym (map-append block (met_at k list) more)) in
        let more_past : Option ℕ = find (some_reached g image (is_past g image)) (left (k + 1)) in
        let more_tail : Option ℕ = find (some_reached g image (has_tail g image)) (left (k + 1)) in
        record {
          mets = λ b.
              ap (λ (t : Bool). t || is_among (map block more) b) (met_now b) ∙ or_or (met_by p.owner b) (is_among (map block (met_at k list)) b) (is_among (map block more) b)
              ∙ ap (λ (t : Bool). met_by p.owner b || t) (both b)
              ∙ ap (λ (l : List ℕ). met_by p.owner b || is_among (map block (flat_map (met_of g image) l)) b) (sym here) ∙ was.mets b;
          bad = was.bad ∙ ap (λ (l : List ℕ). first_bad g (met_by p.owner) (flat_map (met_of g image) l)) here ∙ goes.rest (flat_map (met_of g image) (left (k + 1)))
              ∙ ap (λ (o : ℕ → ℕ). first_bad g (met_by o) (flat_map (met_of g image) (left (k + 1)))) (sym same);
          pasts = was.pasts ∙ ap (λ (l : List ℕ). option_or past (find (some_reached g image (is_past g image)) l)) here
              ∙ ap (λ (b : Bool). option_or past (cond b (Some k) more_past)) (sym found_past) ∙ or_cond past more_past q.past k
              ∙ ap (λ (o : Option ℕ). option_or o more_past) (sym is_past');
          tails = was.tails ∙ ap (λ (l : List ℕ). option_or tail (find (some_reached g image (has_tail g image)) l)) here
              ∙ ap (λ (b : Bool). option_or tail (cond b (Some k) more_tail)) (sym found_tail) ∙ or_cond tail more_tail q.tail k
              ∙ ap (λ (o : Option ℕ). option_or o more_tail) (sym is_tail');
        }

  module _ (k : ℕ) (owner : ℕ → ℕ) (past tail : Option ℕ) (over : inode_count g + 1 ≤ k) (was : IsAt k owner past tail) where
    none_left : left k ≡ []
    none_left = from_on-end is_used (inode_count g + 1) k over

    pub end-bad : None ≡ first_bad g nothing_met (walk g image)
    unfolding first_bad
    end-bad = sym (was.bad ∙ ap (λ (l : List ℕ). first_bad g (met_by owner) (flat_map (met_of g image) l)) none_left)

    pub end-past : past ≡ past_size_flaw g image
    end-past = sym (was.pasts ∙ ap (λ (l : List ℕ). option_or past (find (some_reached g image (is_past g image)) l)) none_left ∙ or_none past)

    pub end-tail : tail ≡ tail_flaw g image
    end-tail = sym (was.tails ∙ ap (λ (l : List ℕ). option_or tail (find (some_reached g image (has_tail g image)) l)) none_left ∙ or_none tail)

    pub end-met : (b : ℕ) → met_by owner b ≡ is_among (walked g image) b
    end-met b =
        sym (or_false_after (met_by owner b))
        ∙ ap (λ (l : List ℕ). met_by owner b || is_among (map (λ m. m.block) (flat_map (met_of g image) l)) b) (sym none_left) ∙ was.mets b
