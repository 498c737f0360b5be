-- The line of inode 3 is cut off and comes into the core.
use Rattle.std.proofs.Common.{◌≡◌, Some, arith, ap, replicate, ◌∙◌, sym, subst}
use Rattle.sv_form.specs.declared.place.Place.{Place}
use Rattle.sv_super.specs.Inodes.{is_free_inode}
use Rattle.sv_super.proofs.FreeNumbers.{none-free-inode}
use Rattle.sv_super.proofs.InodeLines.{cut-line-apart, line-alone-at}
use Rattle.sv_super.proofs.Samples.{line-apart, line-only, third, third-part, third-place}
use Rattle.sv_super.proofs.tests.inode_freed.Goals as goal

pub part-requires : goal.part-requires
part-requires g c = third-part c.requires.line c.requires.source.more c.requires.source.lent

pub ifree-requires-clause-used : goal.ifree-requires-clause-used
ifree-requires-clause-used g c _ _ = ap (λ q. is_free_inode q 3) c.requires.used ∙ none-free-inode 3 32

pub ifree-requires-clause-line : goal.ifree-requires-clause-line
ifree-requires-clause-line g c _ _ =
    (let P : Place → Type 0 = λ q. g.S.Stake.held c.in_ok-part.part q.block q.line ≡ Some (replicate 64 0) in
    subst P (sym (third-place c.requires.source.sizes)) (line-alone-at (g.S.Stake.held c.args.source.now) third (cut-line-apart third c.in_ok-part.ensures.ok).1 ∙ c.requires.line))

pub ifree-requires-clause-only : goal.ifree-requires-clause-only
ifree-requires-clause-only g c _ _ = line-only (g.S.Stake.held c.args.source.now) third (cut-line-apart third c.in_ok-part.ensures.ok).1 (omega arith) c.requires.source.sizes

pub ifree-requires-clause-apart : goal.ifree-requires-clause-apart
ifree-requires-clause-apart g c _ _ = line-apart third c.requires.source.apart (cut-line-apart third c.in_ok-part.ensures.ok).1
