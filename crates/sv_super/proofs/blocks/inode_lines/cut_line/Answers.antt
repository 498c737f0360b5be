-- The range is the line alone, and the superblock's lines stay.
use Rattle.std.proofs.Common.{subst}
use Rattle.sv_form.specs.Geometry.{IsGeometry}
use Rattle.sv_form.specs.declared.geometry.Geometry.{Geometry}
use Rattle.sv_super.proofs.InodeLines.{can-cut_line, cut-line-apart}
use Rattle.sv_super.proofs.blocks.inode_lines.cut_line.Goals as goal

pub part-requires : goal.part-requires
part-requires g c = can-cut_line c.args.place (let P : Geometry → Type 0 = IsGeometry in subst P c.geometry-sizes.ensures.value c.geometry-sizes.ensures.sizes) c.requires.line c.requires.rest c.requires.other c.requires.lent

pub returns-in-Ok-clause-mine : goal.returns-in-Ok-clause-mine
returns-in-Ok-clause-mine g c = (cut-line-apart c.args.place c.in-Ok.ensures.ok).0

pub returns-in-Ok-clause-theirs : goal.returns-in-Ok-clause-theirs
returns-in-Ok-clause-theirs g c = (cut-line-apart c.args.place c.in-Ok.ensures.ok).1
