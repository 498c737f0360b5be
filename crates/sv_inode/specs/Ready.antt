-- An inode and a core that a write can be tried on, for tests.
use Rattle.std.specs.Prelude.{◌≡◌, ℕ}
use Rattle.sv_form.specs.Node.{Node}
use Rattle.sv_form.specs.declared.inode.InodeBody.{InodeBody}
use Rattle.sv_store.specs.Held.{Apart, Held, Lent, Origin, nothing_lent}
use Rattle.sv_super.specs.Sample.{sample_sizes}
use Rattle.sv_inode.specs.StandsFor.{StandsFor}
use Rattle.sv_inode.specs.Truncate.{HoldsInode}

-- the inode stands for a node, its line is held, and no line of it is held by the core
pub record IsReady (o : Origin) (h : Held) (m : Lent) (number : ℕ) (body : InodeBody) (p : Origin) (k : Held) : Type 0 where
  pub node : Node
  pub stands : StandsFor o h body node
  pub inode : HoldsInode o h number
  pub lent : m ≡ nothing_lent
  pub apart : Apart k h
  pub home : p ≡ o
  pub sizes : o.sizes ≡ sample_sizes
