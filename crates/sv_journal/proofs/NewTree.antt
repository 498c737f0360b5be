-- The tree of a new image, as it is made for tests: the root alone.
use Rattle.std.proofs.Common.{◌≡◌, ℕ, ◌-◌, ◌++◌, [], ◌∷◌, List, Some, None, IsSome, option_map, option_and_then, replicate, sym, refl, ap, subst, ◌∙◌, arith}
use Rattle.std.specs.Ordering.{nat_cmp}
use Rattle.std.specs.Cmp.{nat_cmp_total}
use Rattle.std.specs.FinMap as map
use Rattle.std.specs.FinMap.{nat_cmp-IsAntisymmetric}
use Rattle.sv_form.specs.declared.geometry.Geometry.{Geometry}
use Rattle.sv_form.specs.declared.kind.Kind.TheVariants.{Dir}
use Rattle.sv_form.specs.Geometry.{IsGeometry}
use Rattle.sv_form.specs.Node.{Node}
use Rattle.sv_plain.specs.Fs.{Fs, empty_fs, with_node, with_page, with_page_of, page_of, node_without_pages, insert_some}
use Rattle.sv_plain.specs.Whole.{IsWhole}
use Rattle.sv_plain.specs.Change.{entry_bytes}
use Rattle.sv_plain.proofs.Undone.{insert-insert}
use Rattle.sv_plain.proofs.KeepsFile.{get_new}
use Rattle.sv_plain.proofs.RootWhole.{root-whole}

abbrev pub sizes : Geometry
sizes = record { block_size = 1024; blocks = 64; first_data = 4 }

abbrev pub root_page : List ℕ
root_page = entry_bytes 2 (46 ∷ []) ++ entry_bytes 2 (46 ∷ 46 ∷ []) ++ replicate (1024 - 32) 0

abbrev pub with_root : Fs
with_root = with_node (empty_fs sizes) 2 (node_without_pages Dir 493 2 32)

are_sizes : IsGeometry sizes
are_sizes = record {
  block_size = refl;
  least_blocks = omega arith;
  most_blocks = omega arith;
  least_first = omega arith;
  most_first = omega arith;
  some_data = omega arith;
}

at_root : map.get with_root.nodes 2 ≡ Some (node_without_pages Dir 493 2 32)
at_root = get_new map.empty 2 (node_without_pages Dir 493 2 32)

pub root-there : IsSome (map.get with_root.nodes 2)
root-there = subst IsSome (sym at_root) refl

pub root-bare : page_of with_root 2 0 ≡ None
root-bare = ap (option_and_then (λ (n : Node). map.get n.pages 0)) at_root ∙ map.get-empty nat_cmp 0

pub new-whole : (bytes : List ℕ) → bytes ≡ root_page → IsWhole (with_page_of with_root 2 0 bytes)
new-whole bytes e =
    let nodes =
    ap (λ o. insert_some with_root.nodes 2 (option_map (with_page 0 bytes) o)) at_root
    ∙ insert-insert nat_cmp_total nat_cmp-IsAntisymmetric map.empty 2 (node_without_pages Dir 493 2 32) (with_page 0 bytes (node_without_pages Dir 493 2 32))
    ∙ ap (λ (b : List ℕ). map.insert map.empty 2 (with_page 0 b (node_without_pages Dir 493 2 32))) e in
    subst IsWhole (sym (ap (λ m. record (empty_fs sizes) { nodes = m }) nodes)) (root-whole sizes are_sizes 493 (omega arith))
