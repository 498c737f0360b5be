-- The directories of an image that has the root alone: one, with its entries . and .. and no others.
use Rattle.std.proofs.Common.{◌≡◌, ◌/◌, ◌&&◌, ◌++◌, ◌∙◌, ℕ, zero, suc, Bool, not, true, false, List, [], ◌∷◌, Option, Some, None, find, flat_map, map, take, replicate, cond, is_some, unwrap_or, refl, ap, nat_le, arith}
use Rattle.std.specs.List.{enumerate_from, list_all}
use Rattle.sv_form.specs.Geometry.{inode_count}
use Rattle.sv_form.specs.Image.{inode_of}
use Rattle.sv_plain.specs.Front.{size_of}
use Rattle.sv_check.specs.Directories.{Naming, above_in, are_dots, are_entries, contents, directories, dots_flaw, entries, entry_flaw, has_no_hole, named_by, namings, namings_of, page_in, pages_within, pieces, rises_to_root, root_flaw}
use Rattle.sv_check.specs.InodeList.{is_directory, is_free, used_inodes}
use Rattle.sv_check.specs.Links.{has_wrong_links, links_flaw}
use Rattle.sv_check.specs.MadeBlocks.{root_page_bytes}
use Rattle.sv_check.specs.MadeRoot.{HasRootAlone, root_inode, root_page}
use Rattle.sv_check.specs.Walk.{Reached, reached}
use Rattle.sv_check.proofs.BooleanTests.{at_most-test}
use Rattle.sv_check.proofs.MadeInodes.{sizes}
use Rattle.sv_check.proofs.MadeWalk.{directories_are, reached_is, root_directory, root_size, root_used, used_is}

-- the two entries, of sixteen bytes each, and as namings
dot_entry : List ℕ
dot_entry = 2 ∷ 0 ∷ 46 ∷ replicate 13 0

dots_entry : List ℕ
dots_entry = 2 ∷ 0 ∷ 46 ∷ 46 ∷ replicate 12 0

abbrev two_entries : List (List ℕ)
two_entries = dot_entry ∷ dots_entry ∷ []

abbrev two_namings : List Naming
two_namings = record { directory = 2; place = 0; inode = 2 } ∷ record { directory = 2; place = 1; inode = 2 } ∷ []

-- the root is the root in any number of steps
at_root : (up : ℕ → Option ℕ) (n : ℕ) → rises_to_root up n 2 ≡ true
unfolding rises_to_root
at_root up zero = refl
at_root up (suc n) = refl

root_named : (page : ℕ) → has_wrong_links two_namings 2 (root_inode page) ≡ false
unfolding root_inode
root_named page = refl

front_of_page : take 32 (root_page ++ []) ≡ dot_entry ++ dots_entry
unfolding root_page root_page_bytes dot_entry dots_entry
front_of_page = refl

two_pieces : pieces (32 / 16) (dot_entry ++ dots_entry) ≡ two_entries
unfolding dot_entry dots_entry
two_pieces = refl

module _ (blocks first : ℕ) (image : List ℕ) (has : HasRootAlone (sizes blocks first) image) where
  long : size_of (inode_of (sizes blocks first) image 2) ≡ 32
  long = ap size_of has.root ∙ root_size first

  contents_are : contents (sizes blocks first) image (inode_of (sizes blocks first) image 2) ≡ dot_entry ++ dots_entry
  unfolding contents
  contents_are =
      ap (λ (n : ℕ). take n (flat_map (λ k. unwrap_or (page_in (sizes blocks first) image (reached (sizes blocks first) image (inode_of (sizes blocks first) image 2)) k) (replicate 1024 0)) (pages_within (sizes blocks first) n))) long
      ∙ (ap (λ (rs : List Reached). take 32 (flat_map (λ k. unwrap_or (page_in (sizes blocks first) image rs k) (replicate 1024 0)) (pages_within (sizes blocks first) 32))) (reached_is blocks first image has)
      ∙ (ap (λ (q : List ℕ). take 32 (q ++ [])) has.page ∙ front_of_page))

  entries_are : entries (sizes blocks first) image 2 ≡ two_entries
  unfolding entries
  entries_are =
      ap (λ (n : ℕ). pieces (n / 16) (contents (sizes blocks first) image (inode_of (sizes blocks first) image 2))) long
      ∙ (ap (λ (q : List ℕ). pieces (32 / 16) q) contents_are ∙ two_pieces)

  namings_are : namings (sizes blocks first) image ≡ two_namings
  unfolding namings dot_entry dots_entry
  namings_are =
      ap (λ (ds : List ℕ). flat_map (namings_of (sizes blocks first) image) ds) (directories_are blocks first image has)
      ∙ ap (λ (es : List (List ℕ)). map (λ (e : ℕ × List ℕ). record { directory = 2; place = e.0; inode = named_by e.1 }) (enumerate_from 0 es) ++ []) entries_are

  -- what holds of the root holds of each directory, and of each used inode
  of_root : (test : ℕ → Bool) (numbers : List ℕ) → numbers ≡ 2 ∷ [] → test 2 ≡ false → find test numbers ≡ None
  of_root test numbers is fails = ap (λ (ns : List ℕ). find test ns) is ∙ ap (λ (t : Bool). cond t (Some 2) None) fails

  -- ---- conditions 13 to 16

  pub root_holds : root_flaw (sizes blocks first) image ≡ None
  unfolding root_flaw
  root_holds = ap (λ (t : Bool). cond t None (Some 2)) (ap is_directory has.root ∙ root_directory first)

  no_hole : has_no_hole (sizes blocks first) image (inode_of (sizes blocks first) image 2) ≡ true
  no_hole =
      ap (λ (n : ℕ). list_all (λ k. is_some (page_in (sizes blocks first) image (reached (sizes blocks first) image (inode_of (sizes blocks first) image 2)) k)) (pages_within (sizes blocks first) n)) long
      ∙ ap (λ (rs : List Reached). list_all (λ k. is_some (page_in (sizes blocks first) image rs k)) (pages_within (sizes blocks first) 32)) (reached_is blocks first image has)

  leads : (nat_le 2 (inode_count (sizes blocks first)) && not (is_free (inode_of (sizes blocks first) image 2))) ≡ true
  leads =
      ap (λ (t : Bool). t && not (is_free (inode_of (sizes blocks first) image 2))) (at_most-test 2 (inode_count (sizes blocks first)) (omega (arith, has.least)))
      ∙ (ap (λ (q : List ℕ). not (is_free q)) has.root ∙ ap not (root_used first))

  in_order : are_entries (sizes blocks first) image two_entries ≡ true
  unfolding dot_entry dots_entry
  in_order = ap (λ (t : Bool). (t && (t && true)) && true) leads

  pub entry_holds : entry_flaw (sizes blocks first) image ≡ None
  unfolding entry_flaw
  entry_holds =
      of_root (λ d. not (has_no_hole (sizes blocks first) image (inode_of (sizes blocks first) image d) && are_entries (sizes blocks first) image (entries (sizes blocks first) image d)))
      (directories (sizes blocks first) image) (directories_are blocks first image has)
      (ap (λ (t : Bool). not (t && are_entries (sizes blocks first) image (entries (sizes blocks first) image 2))) no_hole
      ∙ (ap (λ (es : List (List ℕ)). not (are_entries (sizes blocks first) image es)) entries_are ∙ ap not in_order))

  dots_in_order : are_dots (sizes blocks first) image two_namings 2 two_entries ≡ true
  unfolding dot_entry dots_entry
  dots_in_order = at_root (above_in (sizes blocks first) image) (inode_count (sizes blocks first))

  pub dots_hold : dots_flaw (sizes blocks first) image ≡ None
  unfolding dots_flaw
  dots_hold =
      of_root (λ d. not (are_dots (sizes blocks first) image (namings (sizes blocks first) image) d (entries (sizes blocks first) image d))) (directories (sizes blocks first) image) (directories_are blocks first image has)
      (ap (λ (all : List Naming). not (are_dots (sizes blocks first) image all 2 (entries (sizes blocks first) image 2))) namings_are
      ∙ (ap (λ (es : List (List ℕ)). not (are_dots (sizes blocks first) image two_namings 2 es)) entries_are ∙ ap not dots_in_order))

  pub links_hold : links_flaw (sizes blocks first) image ≡ None
  unfolding links_flaw
  links_hold =
      of_root (λ n. has_wrong_links (namings (sizes blocks first) image) n (inode_of (sizes blocks first) image n)) (used_inodes (sizes blocks first) image) (used_is blocks first image has)
      (ap (λ (all : List Naming). has_wrong_links all 2 (inode_of (sizes blocks first) image 2)) namings_are
      ∙ (ap (λ (q : List ℕ). has_wrong_links two_namings 2 q) has.root ∙ root_named first))
