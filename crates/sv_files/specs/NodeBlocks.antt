-- The blocks of an inode that stands for a node, in terms of the node alone: how many it has, and how many more a write takes.
use Rattle.std.specs.Prelude.{◌≡◌, ◌≤◌, ◌+◌, ℕ, length}
use Rattle.sv_form.specs.declared.inode.InodeBody.{InodeBody}
use Rattle.sv_form.specs.Geometry.{IsGeometry}
use Rattle.sv_form.specs.Node.{Node, used}
use Rattle.sv_form.specs.NodeNeeds.{range_need}
use Rattle.sv_form.specs.PagePath.{greatest_size}
use Rattle.sv_store.specs.Held.{Held, Origin}
use Rattle.sv_bmap.specs.Order.{blocks_of}
use Rattle.sv_inode.specs.StandsFor.{StandsFor}
use Rattle.sv_inode.specs.Write.{write_need}

-- The blocks of the address tree, pages and indirect blocks, are so many as the node uses.
abbrev pub TreeIsUsed : Type 0
TreeIsUsed = (o : Origin) (h : Held) (body : InodeBody) (node : Node) → IsGeometry o.sizes → StandsFor o h body node
    → length (blocks_of o.sizes h body.addresses) ≡ used o.sizes.block_size node

-- What the pages of a write lack in the tree is what they add to the blocks that the node uses, where the write ends within the greatest
-- size.
abbrev pub NeedIsAdded : Type 0
NeedIsAdded = (o : Origin) (h : Held) (body : InodeBody) (node : Node) → IsGeometry o.sizes → StandsFor o h body node
    → (at count : ℕ) → at + count ≤ greatest_size o.sizes
    → write_need o.sizes h body.addresses at count ≡ range_need o.sizes.block_size node at count
