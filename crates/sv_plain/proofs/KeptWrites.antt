-- What is kept beside the maps stays true as bytes are put into a node.
use Rattle.std.proofs.Common.{◌≡◌, ℕ, ◌+◌, List, length, Some, unwrap_or, sym, ap, arith}
use Rattle.std.specs.FinMap as map
use Rattle.std.specs.FinSet as set
use Rattle.sv_form.specs.Node.{Node, used}
use Rattle.sv_plain.specs.declared.fs.Fs.TheInside.{Inside}
use Rattle.sv_plain.specs.Totals.{at_or_0}
use Rattle.sv_plain.specs.Needs.{range_need}
use Rattle.sv_form.specs.NodeChanges.{put}
use Rattle.sv_plain.specs.Keeping.{IsKept, fs_of}
use Rattle.sv_plain.specs.Missing.{node_blocks}
use Rattle.sv_plain.proofs.Used.{used_by_all-insert}
use Rattle.sv_plain.proofs.PagesPut.{used-put}
use Rattle.sv_plain.proofs.Kept.{its_blocks, blocks-insert}

-- the blocks of a node are those that are kept
pub node_blocks-kept : (a : Inside) (i : ℕ) → IsKept a → node_blocks (fs_of a) i ≡ unwrap_or (map.get a.blocks i) set.empty
node_blocks-kept a i k = ap (λ o. unwrap_or o set.empty) (sym (k.blocks i))

-- bytes are put into a node
pub kept-put : (a : Inside) (n at : ℕ) (bytes : List ℕ) (node : Node) → map.get a.nodes n ≡ Some node → IsKept a
    → IsKept (record a { nodes = map.insert a.nodes n (put a.block_size node at bytes); blocks = map.insert a.blocks n (its_blocks a.block_size (put a.block_size node at bytes)); used = a.used + range_need a.block_size node at (length bytes) })
kept-put a n at bytes node there k =
    let new : Node = put a.block_size node at bytes in
    record {
      sized = k.sized;
      blocks = blocks-insert a.block_size a.nodes a.blocks n new k.blocks;
      used =
          (let before : at_or_0 (used a.block_size) (map.get a.nodes n) ≡ used a.block_size node = ap (at_or_0 (used a.block_size)) there in
          omega (arith, k.used, before, used_by_all-insert a.block_size a.nodes n new, used-put a.block_size at node bytes));
      promised = k.promised;
      taken = k.taken;
      held = k.held;
    }
