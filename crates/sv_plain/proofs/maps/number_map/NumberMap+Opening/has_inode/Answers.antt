use Rattle.std.proofs.Common.{◌≡◌, ℕ, ◌==◌, not, sym, ap, ◌∙◌}
use Rattle.std.specs.Ordering.{nat_cmp}
use Rattle.std.specs.Cmp.{nat_cmp_total}
use Rattle.std.specs.FinMap.{FinMap, nat_cmp-IsAntisymmetric}
use Rattle.sv_plain.specs.declared.fs.opening.Opening.{Opening}
use Rattle.sv_plain.specs.Totals.{total, one_if}
use Rattle.sv_plain.proofs.OpenedInodes.{total-sorted, some_file}
use Rattle.sv_plain.proofs.maps.number_map.NumberMap+Opening.has_inode.Goals as goal

pub returns : goal.returns
returns c =
    let f = λ (_ : ℕ) (f : Opening). one_if (f.inode == c.args.i) in
    c.has_file_of.ensures
    ∙ some_file c.args.i c.self.inside.tree.entries
    ∙ ap (λ n. not (n == 0)) (sym (total-sorted nat_cmp_total nat_cmp-IsAntisymmetric f c.self.inside.tree.entries c.len-len.ensures.ordered))
    ∙ ap (λ (m : FinMap nat_cmp Opening). not (total f m == 0)) c.self.view_is
