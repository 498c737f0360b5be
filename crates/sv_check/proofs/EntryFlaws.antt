-- The first directory that is not in order, directory after directory.
use Rattle.std.proofs.Common.{◌≡◌, ◌≤◌, ◌<◌, ◌+◌, ◌∷◌, ◌∙◌, ℕ, suc, Bool, not, true, List, Some, ap, sym, subst, cond, find, map, drop, length, get_or, arith}
use Rattle.std.proofs.Math.Seq.{drop-cons}
use Rattle.std.proofs.lemmas.List.{get_or-map, length-map}
use Rattle.sv_form.specs.declared.geometry.Geometry.{Geometry}
use Rattle.sv_form.specs.Geometry.{inode_count}
use Rattle.sv_form.specs.Image.{inode_of}
use Rattle.sv_check.specs.declared.pages.Directory.{Directory}
use Rattle.sv_check.specs.Directories.{directories, entry_flaw}
use Rattle.sv_check.specs.InodeList.{is_directory}
use Rattle.sv_check.specs.Pages.{is_in_order}
use Rattle.sv_check.proofs.ReadyDirectories.{passed}

module _ (g : Geometry) (image : List ℕ) (ds : List Directory) where
  abbrev disordered : ℕ → Bool
  disordered n = not (is_in_order g image n)

  -- the directories from one on tell where the condition fails
  pub record IsAhead (i : ℕ) : Type 0 where
    pub same : entry_flaw g image ≡ find disordered (map (λ d. d.inode) (drop i ds))

  pub ahead_first : map (λ d. d.inode) ds ≡ directories g image → IsAhead 0
  unfolding entry_flaw
  ahead_first numbers = record { same = ap (find disordered) (sym numbers) }

  pub ahead_on : (i : ℕ) (d : Directory) → i < length ds → IsAhead i → true ≡ is_in_order g image (get_or ds i d).inode → IsAhead (i + 1)
  ahead_on i d inside was fine =
      let next : suc i ≡ i + 1 = omega arith in
      let cut : drop i ds ≡ get_or ds i d ∷ drop (i + 1) ds = drop-cons ds i d inside ∙ ap (λ (j : ℕ). get_or ds i d ∷ drop j ds) next in
      let rest : List ℕ = map (λ d. d.inode) (drop (i + 1) ds) in
      record {
        same = was.same ∙ ap (λ (l : List Directory). find disordered (map (λ d. d.inode) l)) cut
            ∙ ap (λ (t : Bool). cond (not t) (Some (get_or ds i d).inode) (find disordered rest)) (sym fine);
      }

  -- a directory is one of the inode list
  pub listed_below : map (λ d. d.inode) ds ≡ directories g image → (i : ℕ) (d : Directory) → i < length ds → (get_or ds i d).inode ≤ inode_count g
  unfolding directories
  listed_below numbers i d inside =
      let many : length ds ≡ length (directories g image) = sym (length-map ds (λ (d : Directory). d.inode)) ∙ ap (λ (l : List ℕ). length l) numbers in
      let is = passed (λ n. is_directory (inode_of g image n)) (inode_count g) 1 i d.inode (subst (λ (m : ℕ). i < m) many inside) in
      let at : (get_or ds i d).inode ≡ get_or (directories g image) i d.inode = sym (get_or-map (λ (d : Directory). d.inode) ds i d d.inode inside) ∙ ap (λ (l : List ℕ). get_or l i d.inode) numbers in
      omega (arith, at, is.high)
