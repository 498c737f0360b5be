-- An image made anew is sound. MadeSized shows the conditions 1 to 3, MadeWalk 4 to 9, MadeChains 10 and 11, MadeCache 12, and
-- MadeDirectories 13 to 16; MadeInodes says what the inode list of such an image is.
use Rattle.std.proofs.Common.{◌≡◌, ◌≤◌, ◌-◌, ℕ, List, [], ◌∷◌, Option, None, refl, ap, sym, subst, ◌∙◌, arith}
use Rattle.sv_form.specs.declared.geometry.Geometry.{Geometry}
use Rattle.sv_form.specs.Geometry.{inode_count}
use Rattle.sv_form.specs.Image.{geometry_of, superblock_of}
use Rattle.sv_form.specs.Superblock.{IsSuper}
use Rattle.sv_check.specs.Chain.{chain_flaw, lost_flaw, walked}
use Rattle.sv_check.specs.Directories.{dots_flaw, entry_flaw, root_flaw}
use Rattle.sv_check.specs.InodeCache.{cache_flaw}
use Rattle.sv_check.specs.InodeList.{kind_flaw, size_flaw}
use Rattle.sv_check.specs.Links.{links_flaw}
use Rattle.sv_check.specs.MadeBlocks.{made_blocks, made_image}
use Rattle.sv_check.specs.MadeRoot.{HasRootAlone}
use Rattle.sv_check.specs.Mkfs.{CanBeMade, first_data_for, free_cache, inode_cache, made_geometry}
use Rattle.sv_check.specs.PastSize.{past_size_flaw, tail_flaw}
use Rattle.sv_check.specs.Sound.{IsSound}
use Rattle.sv_check.specs.Walk.{range_flaw, twice_flaw}
use Rattle.sv_check.proofs.Flaws.{fails_nowhere}
use Rattle.sv_check.proofs.MadeCache.{cache_holds}
use Rattle.sv_check.proofs.MadeChains.{chain_whole, none_lost}
use Rattle.sv_check.proofs.MadeDirectories.{dots_hold, entry_holds, links_hold, root_holds}
use Rattle.sv_check.proofs.MadeInodes.{root_alone}
use Rattle.sv_check.proofs.MadeParts.{have_blocks}
use Rattle.sv_check.proofs.MadeSized.{have_sizes, spelled_in}
use Rattle.sv_check.proofs.MadeSuper.{super_of}
use Rattle.sv_check.proofs.MadeWalk.{kind_holds, past_size_holds, range_holds, size_holds, tail_holds, twice_holds, walked_is}

module _ (blocks inodes : ℕ) (made : CanBeMade blocks inodes) where
  pub has_root : HasRootAlone (made_geometry blocks inodes) (made_image blocks inodes)
  has_root =
      let least : 3 ≤ first_data_for inodes = omega (arith, made.least_inodes) in root_alone blocks (first_data_for inodes) (made_image blocks inodes) least made.some_data (λ b low. have_blocks blocks inodes b low)

  walks_root : walked (made_geometry blocks inodes) (made_image blocks inodes) ≡ first_data_for inodes ∷ []
  walks_root = walked_is blocks (first_data_for inodes) (made_image blocks inodes) has_root

  cache_stands : cache_flaw (made_geometry blocks inodes) (made_image blocks inodes) ≡ None
  unfolding super_of
  cache_stands =
      let g : Geometry = made_geometry blocks inodes in
      let head : IsSuper (superblock_of (made_image blocks inodes)) (super_of g.first_data g.blocks (free_cache g) (inode_cache (inode_count g))) =
      spelled_in g (blocks - 1) blocks (omega (arith, made.least_blocks)) in
      cache_holds blocks (first_data_for inodes) (made_image blocks inodes) has_root (super_of g.first_data g.blocks (free_cache g) (inode_cache (inode_count g))) head refl

  -- what holds with the sizes that were asked holds with those that the superblock names
  of_image : (flaw : Geometry → List ℕ → Option ℕ) → flaw (made_geometry blocks inodes) (made_image blocks inodes) ≡ None → flaw (geometry_of (made_image blocks inodes)) (made_image blocks inodes) ≡ None
  of_image flaw none = subst (λ (g : Geometry). flaw g (made_image blocks inodes) ≡ None) (sym (have_sizes blocks inodes made).1) none

  pub are_sound : IsSound (made_image blocks inodes)
  are_sound =
      let first : ℕ = first_data_for inodes in
      let image : List ℕ = made_image blocks inodes in
      fails_nowhere image
      (record {
        rooted = record {
          chained = record {
            walked = record {
              sized = (have_sizes blocks inodes made).0;
              kind = of_image kind_flaw (kind_holds blocks first image has_root);
              size = of_image size_flaw (size_holds blocks first image has_root);
              range = of_image range_flaw (range_holds blocks first image has_root);
              twice = of_image twice_flaw (twice_holds blocks first image has_root);
              past_size = of_image past_size_flaw (past_size_holds blocks first image has_root);
              tail = of_image tail_flaw (tail_holds blocks first image has_root);
            };
            chain = of_image chain_flaw (chain_whole blocks inodes made walks_root);
            lost = of_image lost_flaw (none_lost blocks inodes made walks_root);
          };
          cache = of_image cache_flaw cache_stands;
          root = of_image root_flaw (root_holds blocks first image has_root);
        };
        entry = of_image entry_flaw (entry_holds blocks first image has_root);
      })
      (of_image dots_flaw (dots_hold blocks first image has_root)) (of_image links_flaw (links_hold blocks first image has_root))

-- what was written with the sizes that were made
pub written_is_sound : (blocks inodes : ℕ) (sizes : Geometry) (content : List ℕ) → (sizes ≡ made_geometry blocks inodes) × CanBeMade blocks inodes → content ≡ made_blocks sizes sizes.blocks → IsSound content
written_is_sound blocks inodes sizes content some is =
    subst IsSound (sym (is ∙ ap (λ (g : Geometry). made_blocks g g.blocks) some.0)) (are_sound blocks inodes some.1)
