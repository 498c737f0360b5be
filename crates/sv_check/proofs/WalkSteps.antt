-- The walk over the blocks of one inode, step by step.
use Rattle.std.proofs.Common.{◌≡◌, ◌≢◌, ◌≤◌, ◌<◌, ◌+◌, ◌-◌, ◌*◌, ◌^◌, ◌++◌, ◌∷◌, [], ◌==◌, ◌||◌, ◌∙◌, ℕ, Bool, not, true, false, List, Some, ap, sym, refl, subst, cond, if◌then◌else◌, map, filter, flat_map, length, arith, zero, suc, nat_le, append_assoc, slice_set, slice_index}
use Rattle.std.specs.List.{range_with_len}
use Rattle.std.proofs.Math.Path.{fun_ext}
use Rattle.std.proofs.Math.Nat.{mul-le-mul_right, pow-suc, suc-mul}
use Rattle.std.proofs.lemmas.List.{append-nil, map-append}
use Rattle.std.proofs.lemmas.Grind.{common_steps}
use Rattle.sv_form.specs.declared.geometry.Geometry.{Geometry}
use Rattle.sv_form.specs.Image.{block_of}
use Rattle.sv_form.specs.PagePath.{block_numbers}
use Rattle.sv_check.specs.declared.sound.met.Met.{Met}
use Rattle.sv_check.specs.declared.pages.PageBlock.{PageBlock}
use Rattle.sv_check.specs.Pages.{page_at}
use Rattle.sv_check.specs.PastSize.{is_past, has_tail}
use Rattle.sv_check.specs.declared.walk.Walk.{Walk}
use Rattle.sv_check.specs.Progress.{Progress, progress_of, met_by, with_owner, step, after, met_at, GoesOn, StopsAt, Walks}
use Rattle.sv_check.specs.Walk.{Reached, first_bad, is_new, with_met, reached_under, filled, number_in}

module _ (g : Geometry) (image : List ℕ) (n size : ℕ) where
  after-append : (p : Progress) (xs ys : List Reached) → after g image n size p (xs ++ ys) ≡ after g image n size (after g image n size p xs) ys
  after-append p [] ys = refl
  after-append p (x ∷ xs) ys = after-append (step g image n size p x) xs ys

  met_at-append : (xs ys : List Reached) (rest : List Met) → met_at n (xs ++ ys) ++ rest ≡ met_at n xs ++ (met_at n ys ++ rest)
  met_at-append xs ys rest =
      let f : Reached → Met = λ r. record { inode = n; block = r.block } in
      ap (λ (l : List Met). l ++ rest) (map-append f xs ys) ∙ append_assoc (map f xs) (map f ys) rest

  -- there is nothing more to walk over
  pub walks_nothing : (p : Progress) (bad : ℕ) → Walks g image n size p [] true bad p
  walks_nothing p bad = record { after = refl; rest = λ rest. refl }

  -- one part after another
  pub walks_on : (p q r : Progress) (xs ys : List Reached) (ok : Bool) (bad : ℕ) → GoesOn g image n size p xs q → Walks g image n size q ys ok bad r → Walks g image n size p (xs ++ ys) ok bad r
  walks_on p q r xs ys true bad one two = record {
    after = two.after ∙ ap (λ (s : Progress). after g image n size s ys) one.after ∙ sym (after-append p xs ys);
    rest = λ rest. ap (first_bad g (met_by p.owner)) (met_at-append xs ys rest) ∙ one.rest (met_at n ys ++ rest) ∙ two.rest rest;
  }
  walks_on p q r xs ys false bad one two = record {
    rest = λ rest. ap (first_bad g (met_by p.owner)) (met_at-append xs ys rest) ∙ one.rest (met_at n ys ++ rest) ∙ two.rest rest;
  }

  -- what stands after a bad number does not matter
  pub stops_before : (p : Progress) (xs ys : List Reached) (bad : ℕ) → StopsAt g n p xs bad → StopsAt g n p (xs ++ ys) bad
  stops_before p xs ys bad one = record { rest = λ rest. ap (first_bad g (met_by p.owner)) (met_at-append xs ys rest) ∙ one.rest (met_at n ys ++ rest) }

  met_more : (owner : ℕ → ℕ) (b x : ℕ) → n ≢ 0 → (t : Bool) → (x == b) ≡ t → not ((if t then n else owner x) == 0) ≡ (t || not (owner x == 0))
  met_more owner b x some true is = grind (arith, some)
  met_more owner b x some false is = refl

  pub owner_met : (owner : ℕ → ℕ) (b : ℕ) → n ≢ 0 → met_by (with_owner owner b n) ≡ with_met (met_by owner) b
  owner_met owner b some = fun_ext (λ x. met_more owner b x some (x == b) refl)

  -- a new block
  pub walks_new : (p q : Progress) (r : Reached) → n ≢ 0 → is_new g (met_by p.owner) r.block ≡ true → q ≡ step g image n size p r → GoesOn g image n size p (r ∷ []) q
  unfolding first_bad
  walks_new p q r some new is = record {
    after = is;
    rest = λ rest.
        ap (λ (t : Bool). cond t (first_bad g (with_met (met_by p.owner) r.block) rest) (Some (record { inode = n; block = r.block }))) new
        ∙ ap (λ (met : ℕ → Bool). first_bad g met rest) (sym (owner_met p.owner r.block some)) ∙ ap (λ (s : Progress). first_bad g (met_by s.owner) rest) (sym is);
  }

  -- a bad number
  pub walks_bad : (p : Progress) (r : Reached) (list : List Reached) (bad : ℕ) → is_new g (met_by p.owner) r.block ≡ false → bad ≡ r.block → StopsAt g n p (r ∷ list) bad
  unfolding first_bad
  walks_bad p r list bad old is = record {
    rest = λ rest.
        ap (λ (t : Bool). cond t (first_bad g (with_met (met_by p.owner) r.block) (met_at n list ++ rest)) (Some (record { inode = n; block = r.block }))) old
        ∙ ap (λ (b : ℕ). Some (record { inode = n; block = b })) (sym is);
  }

  -- what a walk over the blocks that are left makes of the walk over the whole
  pub record LeadsTo (p : Progress) (whole : List Reached) (q : Progress) (left : List Reached) : Type 0 where
    pub go : (ok : Bool) (bad : ℕ) (r : Progress) → Walks g image n size q left ok bad r → Walks g image n size p whole ok bad r

  pub leads_first : (p q : Progress) (r : Reached) (left : List Reached) → GoesOn g image n size p (r ∷ []) q → LeadsTo p (r ∷ left) q left
  leads_first p q r left one = record { go = λ ok bad s two. walks_on p q s (r ∷ []) left ok bad one two }

  pub leads_all : (p : Progress) (left : List Reached) → LeadsTo p left p left
  leads_all p left = record { go = λ ok bad s two. two }

  pub leads_same : (p : Progress) (whole : List Reached) (q : Progress) (left more : List Reached) → left ≡ more → LeadsTo p whole q left → LeadsTo p whole q more
  leads_same p whole q left more e to = subst (λ (l : List Reached). LeadsTo p whole q l) e to

  pub leads_on : (p : Progress) (whole : List Reached) (q r : Progress) (left one more : List Reached) → left ≡ one ++ more → GoesOn g image n size q one r → LeadsTo p whole q left
      → LeadsTo p whole r more
  leads_on p whole q r left one more e on to = record {
    go = λ ok bad s two. to.go ok bad s (subst (λ (l : List Reached). Walks g image n size q l ok bad s) (sym e) (walks_on q r s one more ok bad on two));
  }

  pub leads_stop : (p : Progress) (whole : List Reached) (q : Progress) (left one more : List Reached) (bad : ℕ) → left ≡ one ++ more → StopsAt g n q one bad → LeadsTo p whole q left
      → StopsAt g n p whole bad
  leads_stop p whole q left one more bad e at to =
      to.go false bad q (subst (λ (l : List Reached). StopsAt g n q l bad) (sym e) (stops_before q one more bad at))

  pub leads_end : (p : Progress) (whole : List Reached) (q : Progress) (left : List Reached) → left ≡ [] → LeadsTo p whole q left → GoesOn g image n size p whole q
  leads_end p whole q left e to = to.go true 0 q (subst (λ (l : List Reached). Walks g image n size q l true 0 q) (sym e) (walks_nothing q 0))

-- ---- the numbers of an indirect block, or the addresses of an inode, from one on

-- the numbers from k on, below m, that pass
abbrev pub from_on : (ℕ → Bool) → ℕ → ℕ → List ℕ
from_on p m k = filter p (range_with_len k (m - k))

pub range_from : (m k : ℕ) → k < m → range_with_len k (m - k) ≡ k ∷ range_with_len (k + 1) (m - (k + 1))
range_from m k below =
    let more : m - k ≡ suc (m - (k + 1)) = omega (arith, below) in
    ap (range_with_len k) more

pub from_on-skip : (p : ℕ → Bool) (m k : ℕ) → k < m → p k ≡ false → from_on p m k ≡ from_on p m (k + 1)
from_on-skip p m k below fails =
    ap (filter p) (range_from m k below) ∙ ap (λ (t : Bool). cond t (k ∷ from_on p m (k + 1)) (from_on p m (k + 1))) fails

pub from_on-take : (p : ℕ → Bool) (m k : ℕ) → k < m → p k ≡ true → from_on p m k ≡ k ∷ from_on p m (k + 1)
from_on-take p m k below passes =
    ap (filter p) (range_from m k below) ∙ ap (λ (t : Bool). cond t (k ∷ from_on p m (k + 1)) (from_on p m (k + 1))) passes

pub from_on-end : (p : ℕ → Bool) (m k : ℕ) → m ≤ k → from_on p m k ≡ []
from_on-end p m k over =
    let none : m - k ≡ 0 = omega (arith, over) in
    ap (λ (l : ℕ). filter p (range_with_len k l)) none

pub from_on-all : (p : ℕ → Bool) (m : ℕ) → filter p (range_with_len 0 m) ≡ from_on p m 0
from_on-all p m =
    let same : m ≡ m - 0 = omega arith in
    ap (λ (l : ℕ). filter p (range_with_len 0 l)) same

module _ (g : Geometry) (image : List ℕ) (page b : ℕ) where
  -- what is below number k of an indirect block, whose numbers are at this height
  abbrev pub below : ℕ → ℕ → List Reached
  below h k = reached_under g image h (page + k * block_numbers g ^ h) (number_in (block_of g image b) k)

  abbrev pub has_number : ℕ → Bool
  has_number k = not (number_in (block_of g image b) k == 0)

  -- what is below the numbers from k on
  abbrev pub below_from : ℕ → ℕ → List Reached
  below_from h k = flat_map (below h) (from_on has_number (block_numbers g) k)

  pub below-all : (height : ℕ) → height ≢ 0 → reached_under g image height page b ≡ record { height = height; page = page; block = b } ∷ below_from (height - 1) 0
  unfolding Rattle.sv_form.specs.AddressTree.reached_under
  below-all zero above = absurd (above refl)
  below-all (suc h) above =
      let one : h ≡ suc h - 1 = omega arith in
      ap (λ (l : List ℕ). record { height = suc h; page = page; block = b } ∷ flat_map (below h) l) (from_on-all has_number (block_numbers g))
      ∙ ap (λ (m : ℕ). record { height = suc h; page = page; block = b } ∷ below_from m 0) one

  pub below-page : (height : ℕ) → height ≡ 0 → reached_under g image height page b ≡ record { height = 0; page = page; block = b } ∷ []
  unfolding Rattle.sv_form.specs.AddressTree.reached_under
  below-page height e = ap (λ (h : ℕ). reached_under g image h page b) e

  pub below-skip : (h k : ℕ) → k < block_numbers g → number_in (block_of g image b) k ≡ 0 → below_from h k ≡ below_from h (k + 1)
  below-skip h k inside hole =
      let test : has_number k ≡ false = ap (λ (x : ℕ). not (x == 0)) hole in
      ap (flat_map (below h)) (from_on-skip has_number (block_numbers g) k inside test)

  pub below-take : (h k : ℕ) → k < block_numbers g → number_in (block_of g image b) k ≢ 0 → below_from h k ≡ below h k ++ below_from h (k + 1)
  below-take h k inside some =
      let test : has_number k ≡ true = grind (arith, some) in
      ap (flat_map (below h)) (from_on-take has_number (block_numbers g) k inside test)

  pub below-end : (h k : ℕ) → block_numbers g ≤ k → below_from h k ≡ []
  below-end h k over = ap (flat_map (below h)) (from_on-end has_number (block_numbers g) k over)

-- the pages below one number of an indirect block are among those below the block
pub child_pages : (per height k page span : ℕ) → height ≢ 0 → span ≡ per ^ (height - 1) → k < per → page + per ^ height ≤ 2 ^ 25 → page + k * span + span ≤ 2 ^ 25
child_pages per zero k page span above is inside fits = absurd (above refl)
child_pages per (suc h) k page span above is inside fits =
    let one : suc h - 1 ≡ h = omega arith in
    let here : span ≡ per ^ h = is ∙ ap (λ (m : ℕ). per ^ m) one in
    let less : suc k * per ^ h ≤ per * per ^ h = mul-le-mul_right (per ^ h) (omega (arith, inside)) in
    let all : per ^ suc h ≡ per ^ h * per = pow-suc per h in
    let some : suc k * per ^ h ≡ k * per ^ h + per ^ h = suc-mul k (per ^ h) in
    subst (λ (s : ℕ). page + k * s + s ≤ 2 ^ 25) (sym here) (grind (arith, less, all, some, fits))

-- ---- what the walk keeps

set_at : (owner : List ℕ) (b n x : ℕ) → b < length owner → (t : Bool) → (x == b) ≡ t → slice_index (slice_set owner b n) x ≡ (if t then n else slice_index owner x)
set_at owner b n x inside true is = grind (arith, common_steps, is)
set_at owner b n x inside false is = grind (arith, common_steps, is)

pub owner_set : (owner : List ℕ) (b n : ℕ) → b < length owner → slice_index (slice_set owner b n) ≡ with_owner (slice_index owner) b n
owner_set owner b n inside = fun_ext (λ x. set_at owner b n x inside (x == b) refl)

-- the progress after a block was taken and noted
pub progress_new : (old new : Walk) (b n : ℕ) (past tail : Bool) (pages : List PageBlock) → b < length old.owner.items → new.owner.items ≡ slice_set old.owner.items b n → new.past ≡ (old.past || past)
    → new.tail ≡ (old.tail || tail) → new.pages.items ≡ old.pages.items ++ pages
    → progress_of new ≡ record { owner = with_owner (slice_index old.owner.items) b n; past = old.past || past; tail = old.tail || tail; pages = old.pages.items ++ pages }
progress_new old new b n past tail pages inside owner is_past is_tail are =
    let items : slice_index new.owner.items ≡ with_owner (slice_index old.owner.items) b n = ap slice_index owner ∙ owner_set old.owner.items b n inside in
    λ i. record { owner = items i; past = is_past i; tail = is_tail i; pages = are i }

-- place k of an indirect block has a number
abbrev pub holds_number : List ℕ → ℕ → Bool
holds_number block k = not (number_in block k == 0)

pub number-there : (block : List ℕ) (k number : ℕ) → number ≡ number_in block k → number ≢ 0 → holds_number block k ≡ true
number-there block k number is some = grind (arith, is, some)

pub number-hole : (block : List ℕ) (k number : ℕ) → number ≡ number_in block k → number ≡ 0 → holds_number block k ≡ false
number-hole block k number is hole = ap (λ (x : ℕ). not (x == 0)) (sym is ∙ hole)

pub some_left : (k : ℕ) (all left : List ℕ) → all ≡ k ∷ left → false ≡ (length all == 0)
some_left k all left e = let more : length all ≡ suc (length left) = ap length e in grind (arith, more)

pub none_left : (all : List ℕ) → all ≡ [] → true ≡ (length all == 0)
none_left all e = sym (ap (λ (l : List ℕ). length l == 0) e)

pub number_at : (bytes items block : List ℕ) (k number : ℕ) → number ≡ number_in bytes k → bytes ≡ items → items ≡ block → number ≡ number_in block k
number_at bytes items block k number is e f = is ∙ ap (λ (l : List ℕ). number_in l k) (e ∙ f)

pub or_same : (p a b c d : Bool) → p ≡ (a || b) → a ≡ c → b ≡ d → p ≡ (c || d)
or_same p a b c d is e f = is ∙ ap (λ (x : Bool). x || b) e ∙ ap (λ (x : Bool). c || x) f

above_zero : (h : ℕ) → h ≢ 0 → (h == 0) ≡ false
above_zero h above = grind (arith, above)

module _ (g : Geometry) (image : List ℕ) (size height page b : ℕ) (above : height ≢ 0) where
  -- an indirect block is no page: it may be empty, and has no tail
  pub past-indirect : (length (filled g (block_of g image b)) == 0) ≡ is_past g image size (record { height = height; page = page; block = b })
  past-indirect = sym (ap (λ (t : Bool). if t then nat_le size (page * g.block_size) else (length (filled g (block_of g image b)) == 0)) (above_zero height above))

  pub tail-indirect : false ≡ has_tail g image size (record { height = height; page = page; block = b })
  tail-indirect = grind (arith, above_zero height above)

  -- and is not kept as one
  pub pages-indirect : (old new : List PageBlock) → new ≡ old → new ≡ old ++ page_at (record { height = height; page = page; block = b })
  pages-indirect old new same =
      let none : page_at (record { height = height; page = page; block = b }) ≡ [] = ap (λ (t : Bool). if t then record { page = page; block = b } ∷ [] else []) (above_zero height above) in
      same ∙ sym (append-nil old) ∙ ap (λ (l : List PageBlock). old ++ l) (sym none)

module _ (g : Geometry) (image img : List ℕ) (n size : ℕ) (q r : Progress) (page b h k first number span : ℕ) (ok : Bool) (bad : ℕ) where
  pub walks_at : img ≡ image → number ≡ number_in (block_of g image b) k → first ≡ page + k * span → span ≡ block_numbers g ^ h
      → Walks g img n size q (reached_under g img h first number) ok bad r → Walks g image n size q (below g image page b h k) ok bad r
  walks_at same is at wide walks =
      let here : first ≡ page + k * block_numbers g ^ h = at ∙ ap (λ (s : ℕ). page + k * s) wide in
      let one : Walks g image n size q (reached_under g image h first number) ok bad r =
      subst (λ (im : List ℕ). Walks g im n size q (reached_under g im h first number) ok bad r) same walks in
      let two : Walks g image n size q (reached_under g image h first (number_in (block_of g image b) k)) ok bad r =
      subst (λ (x : ℕ). Walks g image n size q (reached_under g image h first x) ok bad r) is one in
      subst (λ (x : ℕ). Walks g image n size q (reached_under g image h x (number_in (block_of g image b) k)) ok bad r) here two

module _ (g : Geometry) (image : List ℕ) (n size : ℕ) (q r : Progress) (list : List Reached) (ok : Bool) (bad : ℕ) where
  pub went : ok ≡ true → Walks g image n size q list ok bad r → GoesOn g image n size q list r
  went e walks = subst (λ (t : Bool). Walks g image n size q list t bad r) e walks

  pub stopped : ok ≡ false → Walks g image n size q list ok bad r → StopsAt g n q list bad
  stopped e walks = subst (λ (t : Bool). Walks g image n size q list t bad r) e walks
