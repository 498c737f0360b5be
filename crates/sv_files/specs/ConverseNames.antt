-- From the nodes of a file system back to a sound image, conditions 13 to 16: the root, the entries of directories, their
-- dots, and the links. They follow from the tree of the image alone.
use Rattle.std.specs.Prelude.{◌≡◌, ◌≤◌, ℕ, List, Some, None}
use Rattle.std.specs.FinMap as map
use Rattle.sv_form.specs.Geometry.{inode_count}
use Rattle.sv_form.specs.Image.{geometry_of}
use Rattle.sv_form.specs.Node.{Node}
use Rattle.sv_plain.specs.declared.history.op.Op.TheVariants.{Purge}
use Rattle.sv_plain.specs.declared.history.reply.Reply.TheVariants.{Done}
use Rattle.sv_plain.specs.Fs.{Fs}
use Rattle.sv_plain.specs.Step.{Step}
use Rattle.sv_plain.specs.Whole.{IsWhole}
use Rattle.sv_check.specs.Directories.{dots_flaw, entry_flaw, root_flaw}
use Rattle.sv_check.specs.Links.{links_flaw}
use Rattle.sv_check.specs.Loaded.{loaded}
use Rattle.sv_check.specs.Sound.{IsSound, IsWalked, tree}

-- a whole file system at rest: each node has links, and no link is pending
pub record IsAtRest (fs : Fs) : Type 0 where
  pub whole : IsWhole fs
  pub linked : (i : ℕ) (node : Node) → map.get fs.nodes i ≡ Some node → 1 ≤ node.links
  pub settled : (p : ℕ) → map.get fs.pending p ≡ None

-- the image has the sizes of the file system, and the tree of its nodes
pub record ShowsNodes (image : List ℕ) (fs : Fs) : Type 0 where
  pub block : fs.block ≡ (geometry_of image).block_size
  pub inodes : fs.inodes ≡ inode_count (geometry_of image)
  pub nodes : tree image ≡ fs.nodes

-- the conditions 13 to 16 hold
pub record IsNamed (image : List ℕ) : Type 0 where
  pub root : root_flaw (geometry_of image) image ≡ None
  pub entry : entry_flaw (geometry_of image) image ≡ None
  pub dots : dots_flaw (geometry_of image) image ≡ None
  pub links : links_flaw (geometry_of image) image ≡ None

-- An image that the walk finds in order, and whose tree is the nodes of a whole file system at rest, has its root, entries,
-- dots and links in order.
abbrev pub NodesAreNamed : Type 0
NodesAreNamed = (image : List ℕ) (fs : Fs) → IsWalked image → ShowsNodes image fs → IsAtRest fs → IsNamed image

-- Each sound image meets what is asked here: its own tree is a whole file system at rest.
abbrev pub SoundIsAtRest : Type 0
SoundIsAtRest = (image : List ℕ) → IsSound image → ShowsNodes image (loaded image) × IsAtRest (loaded image)

-- After a purge that is done, a whole file system in which no link was pending is at rest.
abbrev pub PurgedIsAtRest : Type 0
PurgedIsAtRest = (fs after : Fs) → IsWhole fs → ((p : ℕ) → map.get fs.pending p ≡ None) → Step fs 0 Purge Done after → IsAtRest after
