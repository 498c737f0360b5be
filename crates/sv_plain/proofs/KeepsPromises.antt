-- A file system stays whole where promises come and go.
use Rattle.std.proofs.Common.{◌≡◌, ◌≤◌, ℕ, ◌+◌, arith}
use Rattle.std.specs.Ordering.{nat_cmp}
use Rattle.std.specs.Cmp.{nat_cmp_total}
use Rattle.std.specs.FinMap as map
use Rattle.std.specs.FinMap.{nat_cmp-IsAntisymmetric}
use Rattle.sv_plain.specs.Totals.{at_or_0}
use Rattle.sv_plain.specs.Fs.{Fs, used_by_all, promised, room}
use Rattle.sv_plain.specs.Whole.{IsWhole}
use Rattle.sv_plain.proofs.Totals.{total-insert, total-remove}

abbrev pub Promises : Type 0
Promises = map.FinMap nat_cmp ℕ

-- other promises, which fit the data blocks
pub keeps-promises : (fs : Fs) (m : Promises) → IsWhole fs → used_by_all fs.block fs.nodes + promised m ≤ fs.data_blocks → IsWhole (record fs { promises = m })
keeps-promises fs m w fits = record {
  sized = w.sized;
  nodes = w.nodes;
  links = w.links;
  blocks = fits;
  directories = w.directories;
  named = w.named;
  root = w.root;
  placed = w.placed;
  ascends = w.ascends;
  references = w.references;
  files = w.files;
  pending = w.pending;
  places = w.places;
}

pub promised-insert : (promises : Promises) (p n : ℕ) → promised (map.insert promises p n) + at_or_0 (λ m. m) (map.get promises p) ≡ promised promises + n
unfolding promised
promised-insert promises p n = total-insert nat_cmp_total nat_cmp-IsAntisymmetric (λ (_ : ℕ) (m : ℕ). m) promises p n

pub promised-remove : (promises : Promises) (p : ℕ) → promised (map.remove promises p) + at_or_0 (λ m. m) (map.get promises p) ≡ promised promises
unfolding promised
promised-remove promises p = total-remove nat_cmp_total nat_cmp-IsAntisymmetric (λ (_ : ℕ) (m : ℕ). m) promises p

-- as many blocks as there is room for
pub keeps-promise : (fs : Fs) (p n : ℕ) → IsWhole fs → n ≤ room fs → IsWhole (record fs { promises = map.insert fs.promises p n })
keeps-promise fs p n w fits = keeps-promises fs _ w (omega (arith, promised-insert fs.promises p n, w.blocks, fits))

pub keeps-forgo : (fs : Fs) (p : ℕ) → IsWhole fs → IsWhole (record fs { promises = map.remove fs.promises p })
keeps-forgo fs p w = keeps-promises fs _ w (omega (arith, promised-remove fs.promises p, w.blocks))
