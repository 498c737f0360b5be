-- The root of an image that is made anew, as it reads: its inode and its page.
use Rattle.std.specs.Prelude.{◌≡◌, ◌≢◌, ◌≤◌, ◌<◌, ℕ, List, ◌++◌, replicate}
use Rattle.sv_form.specs.declared.geometry.Geometry.{Geometry}
use Rattle.sv_form.specs.Geometry.{inode_count}
use Rattle.sv_form.specs.Image.{block_of, inode_of}
use Rattle.sv_check.specs.MadeBlocks.{filled_to, little16, little24, little32, root_mode, root_page_bytes}

-- the 64 bytes of the root's inode: a directory with 2 links, 32 bytes long, with one page
unfoldable pub root_inode : ℕ → List ℕ
root_inode page = little16 root_mode ++ little16 2 ++ replicate 4 0 ++ little32 32 ++ little24 page ++ replicate 49 0

-- all 1,024 bytes of the root's page
unfoldable pub root_page : List ℕ
root_page = filled_to 1024 root_page_bytes

-- the inode list has the root alone, whose page is the first data block
pub record HasRootAlone (g : Geometry) (image : List ℕ) : Type 0 where
  pub least : 3 ≤ g.first_data
  pub most : g.first_data < g.blocks
  pub root : inode_of g image 2 ≡ root_inode g.first_data
  pub others : (n : ℕ) → 1 ≤ n → n ≤ inode_count g → n ≢ 2 → inode_of g image n ≡ replicate 64 0
  pub page : block_of g image g.first_data ≡ root_page
