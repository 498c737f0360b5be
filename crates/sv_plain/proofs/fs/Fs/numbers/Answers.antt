use Rattle.std.proofs.Common.{◌≡◌, ◌-◌, sym, ap, subst, ◌∙◌, arith}
use Rattle.sv_plain.specs.Fs.{free_inodes}
use Rattle.sv_plain.specs.Whole.{IsWhole}
use Rattle.sv_plain.specs.Keeping.{fs_of}
use Rattle.sv_plain.proofs.Kept.{free_inodes-len}
use Rattle.sv_plain.proofs.fs.Fs.numbers.Goals as goal

pub overflow_cast-inodes : goal.overflow_cast-inodes
overflow_cast-inodes c =
    let w = subst IsWhole (sym c.self.view_is) c.requires in
    let sum = free_inodes-len (fs_of c.self.inside) w in
    omega (arith, sum, c.len.ensures, w.sized.inodes_fit)

pub overflow_sub-inodes-2 : goal.overflow_sub-inodes-2
overflow_sub-inodes-2 c =
    let sum = free_inodes-len (fs_of c.self.inside) (subst IsWhole (sym c.self.view_is) c.requires) in
    omega (arith, sum, c.len.ensures)

pub returns-clause-inodes : goal.returns-clause-inodes
returns-clause-inodes c =
    let sum = free_inodes-len (fs_of c.self.inside) (subst IsWhole (sym c.self.view_is) c.requires) in
    let here : c.self.inside.inodes - 1 - c.len.result ≡ free_inodes (fs_of c.self.inside) = omega (arith, sum, c.len.ensures) in
    here ∙ ap free_inodes c.self.view_is
