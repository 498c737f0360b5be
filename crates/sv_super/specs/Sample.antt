-- A stake from which the blocks of a small image are parted, for tests.
use Rattle.std.specs.Prelude.{◌≡◌, ◌≤◌, ◌<◌, ℕ, IsSome}
use Rattle.sv_form.specs.declared.geometry.Geometry.{Geometry}
use Rattle.sv_store.specs.Held.{Apart, Held, HoldsBlock, Lent, Origin, nothing_lent}

-- 64 blocks, of which 60 are data blocks
abbrev pub sample_sizes : Geometry
sample_sizes = record { block_size = 1024; blocks = 64; first_data = 4 }

-- it holds the data blocks below n and a line besides, and none that the other holds
pub record IsSource (o : Origin) (h : Held) (o' : Origin) (k : Held) (m : Lent) (n : ℕ) : Type 0 where
  pub sizes : o.sizes ≡ sample_sizes
  pub home : o' ≡ o
  pub lent : m ≡ nothing_lent
  pub apart : Apart h k
  pub whole : (b : ℕ) → 4 ≤ b → b < n → HoldsBlock o k b
  pub more : IsSome (k 1 0)
