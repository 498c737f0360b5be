-- The lines that a used inode of an image owns are its own line, and those of the blocks of its address tree.
use Rattle.std.proofs.Common.{◌≡◌, ◌<◌, ◌==◌, ◌&&◌, ◌⊎◌, ◌∙◌, ℕ, Bool, true, false, not, List}
use Rattle.std.proofs.Common.{inl, inr, None, filter, find, map, refl, subst, sym, arith}
use Rattle.std.specs.List.{list_any, range_with_len}
use Rattle.std.proofs.lemmas.Bool.{eqb-true, false≢true}
use Rattle.sv_form.specs.declared.geometry.Geometry.{Geometry}
use Rattle.sv_form.specs.declared.inode.DiskInode.TheVariants.{Used}
use Rattle.sv_form.specs.declared.inode.InodeBody.{InodeBody}
use Rattle.sv_form.specs.declared.place.Place.{Place}
use Rattle.sv_form.specs.Geometry.{IsGeometry, inode_count, inode_place}
use Rattle.sv_form.specs.Image.{geometry_of, inode_of}
use Rattle.sv_form.specs.Inode.{IsInode}
use Rattle.sv_store.specs.Held.{Held, Origin}
use Rattle.sv_check.specs.InodeList.{is_free, used_inodes}
use Rattle.sv_check.specs.Sound.{IsWalked, line_owner, owns}
use Rattle.sv_check.specs.Walk.{Reached, first_bad, nothing_met, reached, walk}
use Rattle.sv_check.proofs.InodeReads.{shows_inode}
use Rattle.sv_inode.specs.Truncate.{HoldsOnly, IsInTree}
use Rattle.sv_files.specs.FromImage.{HoldsLinesOf, HoldsNoOther, IsUsedInode}
use Rattle.sv_files.specs.RoundTrip.{owned_by}
use Rattle.sv_files.proofs.HeldInode.{in_tree}
use Rattle.sv_files.proofs.Hits.{any-hits, hits, hits-map}
use Rattle.sv_files.proofs.InodeStands.{stands-for}
use Rattle.sv_files.proofs.JoinedTimes as joined
use Rattle.sv_files.proofs.OwnBlocks.{same-block}
use Rattle.sv_files.proofs.OwnClose.{both_true, found_at, holds, lines, some_found, times-hits}
use Rattle.sv_files.proofs.TreeSpots.{is_at}
use Rattle.sv_files.proofs.Walked.{none-bad, stands_at}

both : (s t : Bool) → (s && t) ≡ true → (s ≡ true) × (t ≡ true)
both true t e = (refl, e)
both false t e = absurd (false≢true e)

module _ (base : Origin) (image : List ℕ) (w : IsWalked image) (n : ℕ) (u : IsUsedInode (geometry_of image) image n) (h : Held)
    (own : HoldsLinesOf (geometry_of image) image n h) (alone : HoldsNoOther (geometry_of image) image n h) (body : InodeBody)
    (spelled : IsInode (inode_of (geometry_of image) image n) (Used body)) where
  abbrev g : Geometry
  g = geometry_of image

  abbrev o : Origin
  o = record base { sizes = g }

  abbrev at : ℕ → ℕ → Place
  at b l = record { block = b; line = l }

  abbrev mine : Held
  mine = owned_by image n

  abbrev rs : List Reached
  rs = reached g image (inode_of g image n)

  sizes : IsGeometry g
  sizes = w.sized.sizes.bounds

  no_bad : first_bad g nothing_met (walk g image) ≡ None
  no_bad = none-bad g image w.range w.twice

  -- who owns a line stands at it, or reaches its block
  owns-it : (b l : ℕ) → line_owner g image (at b l) ≡ n → owns g image (at b l) n ≡ true
  unfolding line_owner used_inodes
  owns-it b l is =
      (found_at (owns g image (at b l)) (λ k. not (is_free (inode_of g image k))) (inode_count g) 1 n
      (some_found (find (owns g image (at b l)) (filter (λ k. not (is_free (inode_of g image k))) (range_with_len 1 (inode_count g))))
      n u.least is)).passes

  -- a block that is reached stands in the tree
  in-tree : (b : ℕ) → list_any (is_at b) rs ≡ true → IsInTree g h body.addresses b
  in-tree b hit =
      let shows = shows_inode (inode_of g image n) (Used body) spelled in
      let stands = stands-for image w n u o refl mine (holds image n) body spelled in
      let some : 0 < hits (is_at b) rs = any-hits (is_at b) rs hit in
      let count = hits-map (λ x. x == b) (λ (r : Reached). r.block) rs in
      let met : 0 < joined.met (λ (r : Reached). r.block) b rs =
      omega (arith, some, count, times-hits b (map (λ (r : Reached). r.block) rs)) in
      let i = in_tree o image mine (lines image n) (inode_of g image n) body.addresses stands.tree shows.addresses b met in
      record {
        some = i.some;
        slot = i.slot;
        places = i.ks;
        spot = i.spot;
        at = same-block g image sizes no_bad n u h own body.addresses shows.addresses i.slot i.ks i.spot
            ∙ sym (same-block g image sizes no_bad n u mine (holds image n) body.addresses shows.addresses i.slot i.ks i.spot) ∙ i.is;
      }

  by_test : (b l : ℕ) (t : Bool) → stands_at g sizes (at b l) n ≡ t → owns g image (at b l) n ≡ true
      → ((b ≡ (inode_place g n).block) × (l ≡ (inode_place g n).line)) ⊎ IsInTree g h body.addresses b
  by_test b l true here it =
      let parts = both ((inode_place g n).block == b) ((inode_place g n).line == l) here in
      inl (sym (eqb-true (inode_place g n).block b parts.0), sym (eqb-true (inode_place g n).line l parts.1))
  by_test b l false away it = inr (in-tree b (both_true (stands_at g sizes (at b l) n) (list_any (is_at b) rs) it away))

  pub alone-at : HoldsOnly o h n body.addresses
  alone-at = record {
    at = λ b l some. by_test b l (stands_at g sizes (at b l) n) refl (owns-it b l (alone.only b l some));
  }

pub lines-alone : (image : List ℕ) → IsWalked image → (n : ℕ) → IsUsedInode (geometry_of image) image n → (o : Origin)
    → o.sizes ≡ geometry_of image → (h : Held) → HoldsLinesOf (geometry_of image) image n h
    → HoldsNoOther (geometry_of image) image n h → (body : InodeBody)
    → IsInode (inode_of (geometry_of image) image n) (Used body) → HoldsOnly o h n body.addresses
lines-alone image w n u o e h own alone body is =
    let same : o ≡ record o { sizes = geometry_of image } = λ i. record o { sizes = e i } in
    subst (λ (x : Origin). HoldsOnly x h n body.addresses) (sym same) (alone-at o image w n u h own alone body is)
