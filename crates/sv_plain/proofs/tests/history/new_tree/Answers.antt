use Rattle.std.proofs.Common.{◌≡◌, ◌≤◌, None, sym, refl, ap, subst, ◌∙◌, arith}
use Rattle.std.specs.Ordering.{nat_cmp}
use Rattle.std.specs.FinMap as map
use Rattle.sv_form.specs.declared.geometry.Geometry.{Geometry}
use Rattle.sv_form.specs.declared.kind.Kind.TheVariants.{Dir}
use Rattle.sv_form.specs.Geometry.{IsGeometry}
use Rattle.sv_plain.specs.Fs.{Fs, empty_fs, with_node}
use Rattle.sv_plain.specs.Whole.{IsWhole}
use Rattle.sv_plain.specs.Change.{new_node}
use Rattle.sv_plain.proofs.RootWhole.{root-whole}
use Rattle.sv_plain.proofs.tests.history.new_tree.Goals as goal

sizes : Geometry
sizes = record { block_size = 1024; blocks = 64; first_data = 4 }

are_sizes : IsGeometry sizes
unfolding sizes
are_sizes = record {
  block_size = refl;
  least_blocks = omega arith;
  most_blocks = omega arith;
  least_first = omega arith;
  most_first = omega arith;
  some_data = omega arith;
}

pub add_directory-requires-clause-absent : goal.add_directory-requires-clause-absent
add_directory-requires-clause-absent c = ap (λ (fs : Fs). map.get fs.nodes 2) (c.deref_mut.ensures.value ∙ c.in_ok-fs.ensures) ∙ map.get-empty nat_cmp 2

pub returns-clause-whole : goal.returns-clause-whole
unfolding sizes
returns-clause-whole c =
    let is : c.deref_mut.result.now ≡ empty_fs sizes = c.deref_mut.ensures.value ∙ c.in_ok-fs.ensures in
    subst IsWhole (sym (c.in_ok-add_directory.ensures.added ∙ ap (λ (fs : Fs). with_node fs 2 (new_node fs.block 2 2 493 Dir)) is)) (root-whole sizes are_sizes 493 (omega arith))
