-- The directories and their pages, inode by inode.
use Rattle.std.proofs.Common.{◌≡◌, ◌≤◌, ◌<◌, ◌+◌, ◌-◌, ◌++◌, ◌∷◌, [], ◌∙◌, ℕ, Bool, true, false, List, Option, Some, None, ap, sym, if◌then◌else◌, unwrap_or, map, filter, append_assoc, arith}
use Rattle.std.specs.List.{range_with_len}
use Rattle.std.proofs.lemmas.List.{append-nil}
use Rattle.sv_form.specs.declared.geometry.Geometry.{Geometry}
use Rattle.sv_form.specs.Geometry.{inode_count}
use Rattle.sv_form.specs.Image.{inode_of}
use Rattle.sv_plain.specs.Front.{size_of}
use Rattle.sv_check.specs.declared.pages.PageBlock.{PageBlock}
use Rattle.sv_check.specs.Directories.{directories}
use Rattle.sv_check.specs.InodeList.{is_directory}
use Rattle.sv_check.specs.Pages.{DirectoryPages, directory_in, page_at, pages_among}
use Rattle.sv_check.specs.Progress.{Progress, GoesOn, after, step}
use Rattle.sv_check.specs.Walk.{Reached, reached}
use Rattle.sv_check.proofs.WalkSteps.{from_on, from_on-skip, from_on-take, from_on-end}

-- the pages of a directory are kept, and those of another inode are not
pub kept_pushed : (t : Bool) (n size given : ℕ) (pages : List PageBlock) (old : List DirectoryPages) → Some given ≡ (if t then Some size else None)
    → old ++ record { inode = n; size = given; pages = pages } ∷ [] ≡ old ++ (if t then record { inode = n; size = size; pages = pages } ∷ [] else [])
kept_pushed true n size given pages old e = ap (λ (s : ℕ). old ++ record { inode = n; size = s; pages = pages } ∷ []) (ap (λ (o : Option ℕ). unwrap_or o 0) e)
kept_pushed false n size given pages old e = let no : ⊥ = cc e in absurd no

module _ (g : Geometry) (image : List ℕ) where
  -- ---- the pages of one inode

  after-pages : (n size : ℕ) (p : Progress) (list : List Reached) → (after g image n size p list).pages ≡ p.pages ++ pages_among list
  after-pages n size p [] = sym (append-nil p.pages)
  after-pages n size p (r ∷ rest) = after-pages n size (step g image n size p r) rest ∙ append_assoc p.pages (page_at r) (pages_among rest)

  pub pages_met : (n size : ℕ) (p q : Progress) (list : List Reached) → GoesOn g image n size p list q → p.pages ≡ [] → q.pages ≡ pages_among list
  pages_met n size p q list goes none = ap (λ (s : Progress). s.pages) goes.after ∙ after-pages n size p list ∙ ap (λ (l : List PageBlock). l ++ pages_among list) none

  -- ---- the directories

  abbrev pub is_dir_at : ℕ → Bool
  is_dir_at n = is_directory (inode_of g image n)

  -- the directories from inode k on
  abbrev pub left : ℕ → List ℕ
  left k = from_on is_dir_at (inode_count g + 1) k

  -- those that are kept, and those from inode k on, are all
  pub record IsKept (k : ℕ) (kept : List DirectoryPages) : Type 0 where
    pub same : kept ++ map (directory_in g image) (left k) ≡ map (directory_in g image) (directories g image)

  pub kept_first : (kept : List DirectoryPages) → kept ≡ [] → IsKept 1 kept
  unfolding directories
  kept_first kept none =
      let same : inode_count g + 1 - 1 ≡ inode_count g = omega arith in
      record {
        same = ap (λ (l : List DirectoryPages). l ++ map (directory_in g image) (left 1)) none
            ∙ ap (λ (n : ℕ). map (directory_in g image) (filter is_dir_at (range_with_len 1 n))) same;
      }

  module _ (k : ℕ) (kept new : List DirectoryPages) (below : k < inode_count g + 1) (was : IsKept k kept) where
    pub kept_on : (t : Bool) → is_dir_at k ≡ t → new ≡ kept ++ (if t then directory_in g image k ∷ [] else []) → IsKept (k + 1) new
    kept_on false not_so is = record {
      same = ap (λ (l : List DirectoryPages). l ++ map (directory_in g image) (left (k + 1))) (is ∙ append-nil kept)
          ∙ ap (λ (l : List ℕ). kept ++ map (directory_in g image) l) (sym (from_on-skip is_dir_at (inode_count g + 1) k below not_so)) ∙ was.same;
    }
    kept_on true so is = record {
      same = ap (λ (l : List DirectoryPages). l ++ map (directory_in g image) (left (k + 1))) is
          ∙ append_assoc kept (directory_in g image k ∷ []) (map (directory_in g image) (left (k + 1)))
          ∙ ap (λ (l : List ℕ). kept ++ map (directory_in g image) l) (sym (from_on-take is_dir_at (inode_count g + 1) k below so)) ∙ was.same;
    }

  -- what is kept of an inode of whose bytes and pages the directory is made
  pub kept_inode : (k : ℕ) (bytes : List ℕ) (pages : List PageBlock) (old new : List DirectoryPages) → bytes ≡ inode_of g image k → pages ≡ pages_among (reached g image (inode_of g image k))
      → new ≡ old ++ (if is_directory bytes then record { inode = k; size = size_of bytes; pages = pages } ∷ [] else []) → new ≡ old ++ (if is_dir_at k then directory_in g image k ∷ [] else [])
  kept_inode k bytes pages old new same are is =
      is ∙ ap (λ (b : List ℕ). old ++ (if is_directory b then record { inode = k; size = size_of b; pages = pages } ∷ [] else [])) same
      ∙ ap (λ (l : List PageBlock). old ++ (if is_dir_at k then record { inode = k; size = size_of (inode_of g image k); pages = l } ∷ [] else [])) are

  pub kept_end : (k : ℕ) (kept : List DirectoryPages) → inode_count g + 1 ≤ k → IsKept k kept → kept ≡ map (directory_in g image) (directories g image)
  kept_end k kept over was =
      sym (append-nil kept) ∙ ap (λ (l : List ℕ). kept ++ map (directory_in g image) l) (sym (from_on-end is_dir_at (inode_count g + 1) k over)) ∙ was.same
