-- The tree of an image as a file system without processes, and how far it was loaded.
use Rattle.std.specs.Prelude.{◌≡◌, ◌==◌, ◌%◌, ℕ, List, [], ◌∷◌, Bool, false, nat_lt, if◌then◌else◌}
use Rattle.sv_form.specs.declared.geometry.Geometry.{Geometry}
use Rattle.sv_form.specs.declared.inode.InodeBody.{InodeBody}
use Rattle.sv_form.specs.Image.{block_of, geometry_of}
use Rattle.sv_form.specs.Node.{is_dir}
use Rattle.sv_form.specs.Number.{number16}
use Rattle.sv_plain.specs.Front.{size_of}
use Rattle.sv_plain.specs.Fs.{Fs, empty_fs, with_node, with_page_of}
use Rattle.sv_check.specs.declared.loading.tree.LoadFault.{LoadFault}
use Rattle.sv_check.specs.declared.loading.tree.LoadFault.TheVariants.{Fault, NoMemory}
use Rattle.sv_check.specs.InodeList.{is_directory, is_free, links_of}
use Rattle.sv_check.specs.Sound.{node_of, tree}
use Rattle.sv_check.specs.Walk.{Reached}

-- the sizes and the tree of an image, and nothing else: no references, files, promises and pending links
abbrev pub loaded : List ℕ → Fs
loaded image = record (empty_fs (geometry_of image)) { nodes = tree image }

-- a fault says that the device failed; want of memory is free
abbrev pub Tells : Type 0 → Type 0 → LoadFault → Type 0
Tells fault memory Fault = fault
Tells fault memory NoMemory = memory

-- ---- one inode

-- the bytes are those of a used inode, and these are its numbers before the addresses
pub record HasHead (bytes : List ℕ) (b : InodeBody) : Type 0 where
  pub used : is_free bytes ≡ false
  pub directory : is_directory bytes ≡ is_dir b.kind
  pub mode : number16 bytes 0 % 4096 ≡ b.mode
  pub links : links_of bytes ≡ b.links
  pub size : size_of bytes ≡ b.size

-- the block is one of the image
abbrev pub is_inside : Geometry → Reached → Bool
is_inside g r = nat_lt r.block g.blocks

-- a block that inode n reaches, put in as a page if it is one
abbrev pub with_reached : Geometry → List ℕ → ℕ → Fs → Reached → Fs
with_reached g image n fs r = if r.height == 0 then with_page_of fs n r.page (block_of g image r.block) else fs

-- and all of these, in order
unfoldable pub with_all_reached : Geometry → List ℕ → ℕ → Fs → List Reached → Fs
with_all_reached g image n fs [] = fs
with_all_reached g image n fs (r ∷ rest) = with_all_reached g image n (with_reached g image n fs r) rest

-- inode n with these bytes, put in as a node if it is used
abbrev pub with_inode : Geometry → List ℕ → Fs → ℕ → List ℕ → Fs
with_inode g image fs n inode = if is_free inode then fs else with_node fs n (node_of g image inode)
