-- The addresses of an inode, from one on.
use Rattle.std.proofs.Common.{◌≡◌, ◌≢◌, ◌≤◌, ◌<◌, ◌+◌, ◌++◌, [], ◌==◌, ℕ, Bool, not, true, false, List, ap, subst, flat_map, arith}
use Rattle.sv_form.specs.declared.geometry.Geometry.{Geometry}
use Rattle.sv_plain.specs.Front.{address_of}
use Rattle.sv_check.specs.Progress.{Progress, Walks}
use Rattle.sv_check.specs.Walk.{Reached, reached_under, reached, height_of, first_page}
use Rattle.sv_check.proofs.WalkSteps.{from_on, from_on-all, from_on-skip, from_on-take, from_on-end}

module _ (g : Geometry) (image inode : List ℕ) where
  abbrev pub under : ℕ → List Reached
  under k = reached_under g image (height_of k) (first_page g k) (address_of inode k)

  abbrev pub has_address : ℕ → Bool
  has_address k = not (address_of inode k == 0)

  abbrev pub under_from : ℕ → List Reached
  under_from k = flat_map under (from_on has_address 13 k)

  pub under-all : reached g image inode ≡ under_from 0
  unfolding Rattle.sv_form.specs.AddressTree.reached
  under-all = ap (flat_map under) (from_on-all has_address 13)

  pub under-skip : (k : ℕ) → k < 13 → address_of inode k ≡ 0 → under_from k ≡ under_from (k + 1)
  under-skip k inside hole =
      let test : has_address k ≡ false = ap (λ (x : ℕ). not (x == 0)) hole in
      ap (flat_map under) (from_on-skip has_address 13 k inside test)

  pub under-take : (k : ℕ) → k < 13 → address_of inode k ≢ 0 → under_from k ≡ under k ++ under_from (k + 1)
  under-take k inside some =
      let test : has_address k ≡ true = grind (arith, some) in
      ap (flat_map under) (from_on-take has_address 13 k inside test)

  pub under-end : (k : ℕ) → 13 ≤ k → under_from k ≡ []
  under-end k over = ap (flat_map under) (from_on-end has_address 13 k over)

module _ (g : Geometry) (image img inode : List ℕ) (n size given : ℕ) (q r : Progress) (k height page number : ℕ) (ok : Bool) (bad : ℕ) where
  pub walks_address : img ≡ image → number ≡ address_of inode k → page ≡ first_page g k → height ≡ height_of k → given ≡ size → Walks g img n given q (reached_under g img height page number) ok bad r
      → Walks g image n size q (under g image inode k) ok bad r
  walks_address same is at high sized walks =
      let first : Walks g img n size q (reached_under g img height page number) ok bad r =
      subst (λ (s : ℕ). Walks g img n s q (reached_under g img height page number) ok bad r) sized walks in
      let one : Walks g image n size q (reached_under g image height page number) ok bad r =
      subst (λ (im : List ℕ). Walks g im n size q (reached_under g im height page number) ok bad r) same first in
      let two : Walks g image n size q (reached_under g image height page (address_of inode k)) ok bad r =
      subst (λ (x : ℕ). Walks g image n size q (reached_under g image height page x) ok bad r) is one in
      let three : Walks g image n size q (reached_under g image height (first_page g k) (address_of inode k)) ok bad r =
      subst (λ (x : ℕ). Walks g image n size q (reached_under g image height x (address_of inode k)) ok bad r) at two in
      subst (λ (x : ℕ). Walks g image n size q (reached_under g image x (first_page g k) (address_of inode k)) ok bad r) high three
