-- Conditions 10 and 11 of a sound image hold of an image made anew.
use Rattle.std.proofs.Common.{◌≡◌, ◌<◌, ◌-◌, ◌%◌, ℕ, [], ◌∷◌, None, refl, arith}
use Rattle.sv_form.specs.declared.geometry.Geometry.{Geometry}
use Rattle.sv_check.specs.Chain.{chain_flaw, free_list, lost_flaw, walked}
use Rattle.sv_check.specs.Mkfs.{CanBeMade, free_cache, made_geometry}
use Rattle.sv_check.specs.MadeBlocks.{made_image}
use Rattle.sv_check.proofs.MadeChain.{chain_holds, lost_holds}
use Rattle.sv_check.proofs.MadeLists.{HasList, first_list, has_list}

module _ (blocks inodes : ℕ) (made : CanBeMade blocks inodes) where
  abbrev g : Geometry
  g = made_geometry blocks inodes

  head : free_list (made_image blocks inodes) ≡ free_cache g
  head = first_list g (blocks - 1) blocks (omega (arith, made.least_blocks))

  lists : (b : ℕ) → g.first_data < b → b < g.blocks → (g.blocks - b) % 50 ≡ 0 → HasList g (made_image blocks inodes) b
  lists b behind low last = has_list g blocks b refl (omega (arith, made.least_inodes)) behind low last

  pub chain_whole : walked g (made_image blocks inodes) ≡ g.first_data ∷ [] → chain_flaw g (made_image blocks inodes) ≡ None
  chain_whole walk = chain_holds g (made_image blocks inodes) (omega (arith, made.least_inodes)) lists walk head made.some_data

  pub none_lost : walked g (made_image blocks inodes) ≡ g.first_data ∷ [] → lost_flaw g (made_image blocks inodes) ≡ None
  none_lost walk = lost_holds g (made_image blocks inodes) (omega (arith, made.least_inodes)) lists walk head made.some_data
