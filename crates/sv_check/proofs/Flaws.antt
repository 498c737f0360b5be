-- The first condition that fails, from those before it and the place where it does.
use Rattle.std.proofs.Common.{◌≡◌, ◌+◌, ◌∷◌, ◌∙◌, ℕ, Bool, true, false, List, Option, Some, None, ap, sym, refl, subst, inr, drop, if◌then◌else◌, option_and_then}
use Rattle.sv_form.specs.declared.geometry.Geometry.{Geometry}
use Rattle.sv_form.specs.Image.{geometry_of}
use Rattle.sv_check.specs.Condition.{number_of}
use Rattle.sv_check.specs.declared.sound.met.Met.{Met}
use Rattle.sv_check.specs.declared.fault.CheckFault.{CheckFault}
use Rattle.sv_check.specs.declared.fault.CheckFault.TheVariants.{Refused, Fault, NoMemory}
use Rattle.sv_check.specs.Chain.{chain_flaw, lost_flaw}
use Rattle.sv_check.specs.Directories.{dots_flaw, entry_flaw, root_flaw}
use Rattle.sv_check.specs.Fault.{Says}
use Rattle.sv_check.specs.InodeCache.{cache_flaw}
use Rattle.sv_check.specs.InodeList.{kind_flaw, size_flaw}
use Rattle.sv_check.specs.Links.{links_flaw}
use Rattle.sv_check.specs.PastSize.{past_size_flaw, tail_flaw}
use Rattle.sv_check.specs.Sizes.{IsSized}
use Rattle.sv_check.specs.Sound.{Flaw, IsChained, IsEntered, IsRooted, IsSound, IsWalked, first_failing, flaws_from_4, flaw_from_4}
use Rattle.sv_check.specs.Walk.{BadFlaw, is_data_block, first_bad, nothing_met, walk, range_flaw, twice_flaw}

holds : (n : ℕ) (flaw : Option ℕ) (rest : List (Option ℕ)) → flaw ≡ None → first_failing n (flaw ∷ rest) ≡ first_failing (n + 1) rest
holds n flaw rest e = ap (λ (o : Option ℕ). first_failing n (o ∷ rest)) e

fails : (n p : ℕ) (flaw : Option ℕ) (rest : List (Option ℕ)) → flaw ≡ Some p → first_failing n (flaw ∷ rest) ≡ Some (n, p)
fails n p flaw rest e = ap (λ (o : Option ℕ). first_failing n (o ∷ rest)) e

-- the conditions 10 to 16
abbrev flaws_from_10 : Geometry → List ℕ → List (Option ℕ)
flaws_from_10 g image = drop 6 (flaws_from_4 g image)

module _ (image : List ℕ) (sized : IsSized image) (p : ℕ) where
  pub fails_4 : kind_flaw (geometry_of image) image ≡ Some p → Flaw image 4 p
  unfolding flaw_from_4
  fails_4 here = inr (record { sized = sized; fails = fails 4 p _ _ here })

  module _ (kind : kind_flaw (geometry_of image) image ≡ None) where
    pub fails_5 : size_flaw (geometry_of image) image ≡ Some p → Flaw image 5 p
    unfolding flaw_from_4
    fails_5 here = inr (record { sized = sized; fails = holds 4 _ _ kind ∙ fails 5 p _ _ here })

    module _ (size : size_flaw (geometry_of image) image ≡ None) where
      pub fails_6 : range_flaw (geometry_of image) image ≡ Some p → Flaw image 6 p
      unfolding flaw_from_4
      fails_6 here = inr (record { sized = sized; fails = holds 4 _ _ kind ∙ holds 5 _ _ size ∙ fails 6 p _ _ here })

      module _ (range : range_flaw (geometry_of image) image ≡ None) where
        pub fails_7 : twice_flaw (geometry_of image) image ≡ Some p → Flaw image 7 p
        unfolding flaw_from_4
        fails_7 here = inr (record { sized = sized; fails = holds 4 _ _ kind ∙ holds 5 _ _ size ∙ holds 6 _ _ range ∙ fails 7 p _ _ here })

        module _ (twice : twice_flaw (geometry_of image) image ≡ None) where
          pub fails_8 : past_size_flaw (geometry_of image) image ≡ Some p → Flaw image 8 p
          unfolding flaw_from_4
          fails_8 here = inr (record { sized = sized; fails = holds 4 _ _ kind ∙ holds 5 _ _ size ∙ holds 6 _ _ range ∙ holds 7 _ _ twice ∙ fails 8 p _ _ here })

          pub fails_9 : past_size_flaw (geometry_of image) image ≡ None → tail_flaw (geometry_of image) image ≡ Some p → Flaw image 9 p
          unfolding flaw_from_4
          fails_9 past here =
              inr (record { sized = sized; fails = holds 4 _ _ kind ∙ holds 5 _ _ size ∙ holds 6 _ _ range ∙ holds 7 _ _ twice ∙ holds 8 _ _ past ∙ fails 9 p _ _ here })

module _ (image : List ℕ) (w : IsWalked image) where
  -- what is first where the first nine conditions hold
  from_10 : flaw_from_4 image ≡ first_failing 10 (flaws_from_10 (geometry_of image) image)
  unfolding flaw_from_4
  from_10 = holds 4 _ _ w.kind ∙ holds 5 _ _ w.size ∙ holds 6 _ _ w.range ∙ holds 7 _ _ w.twice ∙ holds 8 _ _ w.past_size ∙ holds 9 _ _ w.tail

  pub fails_10 : (p : ℕ) → chain_flaw (geometry_of image) image ≡ Some p → Flaw image 10 p
  fails_10 p here = inr (record { sized = w.sized; fails = from_10 ∙ fails 10 p _ _ here })

  pub fails_11 : (p : ℕ) → chain_flaw (geometry_of image) image ≡ None → lost_flaw (geometry_of image) image ≡ Some p → Flaw image 11 p
  fails_11 p chain here = inr (record { sized = w.sized; fails = from_10 ∙ holds 10 _ _ chain ∙ fails 11 p _ _ here })

module _ (image : List ℕ) (c : IsChained image) where
  from_12 : flaw_from_4 image ≡ first_failing 12 (drop 2 (flaws_from_10 (geometry_of image) image))
  from_12 = from_10 image c.walked ∙ holds 10 _ _ c.chain ∙ holds 11 _ _ c.lost

  pub fails_12 : (p : ℕ) → cache_flaw (geometry_of image) image ≡ Some p → Flaw image 12 p
  fails_12 p here = inr (record { sized = c.walked.sized; fails = from_12 ∙ fails 12 p _ _ here })

  pub fails_13 : (p : ℕ) → cache_flaw (geometry_of image) image ≡ None → root_flaw (geometry_of image) image ≡ Some p → Flaw image 13 p
  fails_13 p cache here = inr (record { sized = c.walked.sized; fails = from_12 ∙ holds 12 _ _ cache ∙ fails 13 p _ _ here })

pub fails_14 : (image : List ℕ) → IsRooted image → (p : ℕ) → entry_flaw (geometry_of image) image ≡ Some p → Flaw image 14 p
fails_14 image r p here =
    inr (record { sized = r.chained.walked.sized; fails = from_12 image r.chained ∙ holds 12 _ _ r.cache ∙ holds 13 _ _ r.root ∙ fails 14 p _ _ here })

module _ (image : List ℕ) (e : IsEntered image) where
  from_15 : flaw_from_4 image ≡ first_failing 15 (drop 5 (flaws_from_10 (geometry_of image) image))
  from_15 = from_12 image e.rooted.chained ∙ holds 12 _ _ e.rooted.cache ∙ holds 13 _ _ e.rooted.root ∙ holds 14 _ _ e.entry

  pub fails_15 : (p : ℕ) → dots_flaw (geometry_of image) image ≡ Some p → Flaw image 15 p
  fails_15 p here = inr (record { sized = e.rooted.chained.walked.sized; fails = from_15 ∙ fails 15 p _ _ here })

  module _ (dots : dots_flaw (geometry_of image) image ≡ None) where
    pub fails_16 : (p : ℕ) → links_flaw (geometry_of image) image ≡ Some p → Flaw image 16 p
    fails_16 p here = inr (record { sized = e.rooted.chained.walked.sized; fails = from_15 ∙ holds 15 _ _ dots ∙ fails 16 p _ _ here })

    pub fails_nowhere : links_flaw (geometry_of image) image ≡ None → IsSound image
    fails_nowhere links = record { sized = e.rooted.chained.walked.sized; others = from_15 ∙ holds 15 _ _ dots ∙ holds 16 _ _ links }

module _ (g : Geometry) (image : List ℕ) where
  -- there is no bad number
  pub no_range : None ≡ first_bad g nothing_met (walk g image) → range_flaw g image ≡ None
  unfolding range_flaw
  no_range e = ap (option_and_then (λ (m : Met). if is_data_block g m.block then None else Some m.inode)) (sym e)

  pub no_twice : None ≡ first_bad g nothing_met (walk g image) → twice_flaw g image ≡ None
  unfolding twice_flaw
  no_twice e = ap (option_and_then (λ (m : Met). if is_data_block g m.block then Some m.block else None)) (sym e)

  module _ (bad : Met) (e : Some bad ≡ first_bad g nothing_met (walk g image)) where
    range_is : range_flaw g image ≡ (if is_data_block g bad.block then None else Some bad.inode)
    unfolding range_flaw
    range_is = ap (option_and_then (λ (m : Met). if is_data_block g m.block then None else Some m.inode)) (sym e)

    twice_is : twice_flaw g image ≡ (if is_data_block g bad.block then Some bad.block else None)
    unfolding twice_flaw
    twice_is = ap (option_and_then (λ (m : Met). if is_data_block g m.block then Some m.block else None)) (sym e)

    pub bad-range : is_data_block g bad.block ≡ false → range_flaw g image ≡ Some bad.inode
    bad-range f = range_is ∙ ap (λ (t : Bool). if t then None else Some bad.inode) f

    pub good-range : is_data_block g bad.block ≡ true → range_flaw g image ≡ None
    good-range f = range_is ∙ ap (λ (t : Bool). if t then None else Some bad.inode) f

    pub bad-twice : is_data_block g bad.block ≡ true → twice_flaw g image ≡ Some bad.block
    bad-twice f = twice_is ∙ ap (λ (t : Bool). if t then Some bad.block else None) f

module _ (image : List ℕ) (sized : IsSized image) (kind : kind_flaw (geometry_of image) image ≡ None) (size : size_flaw (geometry_of image) image ≡ None) (bad : Met)
    (first : Some bad ≡ first_bad (geometry_of image) nothing_met (walk (geometry_of image) image)) (number place : ℕ) (is : BadFlaw (geometry_of image) bad number place) where
  by_test : (t : Bool) → is_data_block (geometry_of image) bad.block ≡ t → Flaw image number place
  by_test false e =
      let at = is.outside e in
      let here : Flaw image 6 place = fails_6 image sized place kind size (bad-range (geometry_of image) image bad first e ∙ ap (λ (x : ℕ). Some x) (sym at.1)) in
      subst (λ (n : ℕ). Flaw image n place) (sym at.0) here
  by_test true e =
      let at = is.again e in
      let here : Flaw image 7 place =
      fails_7 image sized place kind size (good-range (geometry_of image) image bad first e) (bad-twice (geometry_of image) image bad first e ∙ ap (λ (x : ℕ). Some x) (sym at.1)) in
      subst (λ (n : ℕ). Flaw image n place) (sym at.0) here

  -- a bad number of the walk fails condition 6 or 7
  pub fails_at_bad : Flaw image number place
  fails_at_bad = by_test (is_data_block (geometry_of image) bad.block) refl

-- what a pass found, as the condition of the image
module _ (f : Geometry → List ℕ → Option ℕ) (image : List ℕ) (g : Geometry) (found : Option ℕ) (same : g ≡ geometry_of image) (is : found ≡ f g image) where
  pub found_at : (n p : ℕ) → found ≡ Some n → p ≡ n → f (geometry_of image) image ≡ Some p
  found_at n p some e = ap (λ (k : Geometry). f k image) (sym same) ∙ sym is ∙ some ∙ ap (λ (x : ℕ). Some x) (sym e)

  pub found_some : (p : ℕ) → found ≡ Some p → f (geometry_of image) image ≡ Some p
  found_some p some = found_at p p some refl

  pub found_none : found ≡ None → f (geometry_of image) image ≡ None
  found_none none = ap (λ (k : Geometry). f k image) (sym same) ∙ sym is ∙ none

-- the same of the first bad number
pub first_at : (image : List ℕ) (g : Geometry) (found bad : Option Met) → g ≡ geometry_of image → found ≡ first_bad g nothing_met (walk g image) → found ≡ bad
    → bad ≡ first_bad (geometry_of image) nothing_met (walk (geometry_of image) image)
first_at image g found bad same is e = sym e ∙ is ∙ ap (λ (k : Geometry). first_bad k nothing_met (walk k image)) same

-- a refusal by a bad number is one of the image
pub says_bad : (image : List ℕ) (g : Geometry) (bad : Met) (fault memory : Type 0) → g ≡ geometry_of image → IsSized image → kind_flaw (geometry_of image) image ≡ None
    → size_flaw (geometry_of image) image ≡ None → Some bad ≡ first_bad (geometry_of image) nothing_met (walk (geometry_of image) image)
    → (answer : CheckFault) → Says (BadFlaw g bad) ⊥ ⊥ answer → Says (Flaw image) fault memory answer
says_bad image g bad fault memory same sized kind size first (Refused condition place) is =
    fails_at_bad image sized kind size bad first (number_of condition) place (subst (λ (k : Geometry). BadFlaw k bad (number_of condition) place) same is)
says_bad image g bad fault memory same sized kind size first Fault is = absurd is
says_bad image g bad fault memory same sized kind size first NoMemory is = absurd is

pub none_here : {X : Type 0} (o : Option X) → ((x : X) → o ≡ Some x → ⊥) → o ≡ None
none_here None never = refl
none_here (Some x) never = absurd (never x refl)
