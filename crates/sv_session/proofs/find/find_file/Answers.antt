use Rattle.std.proofs.Common.{subst}
use Rattle.sv_form.specs.declared.geometry.Geometry.{Geometry}
use Rattle.sv_form.specs.Geometry.{IsNumber}
use Rattle.std.proofs.Common.{sym}
use Rattle.sv_check.proofs.FileTexts.{no_number}
use Rattle.sv_session.proofs.find.find_file.Goals as goal

pub returns-in_default-clause-reason : goal.returns-in_default-clause-reason
returns-in_default-clause-reason g c =
    no_number (g.D.Disk.content c.args.disk.now) c.args.inode (λ is. c.in_default.ensures.none (subst (λ (x : Geometry). IsNumber x c.args.inode) (sym c.requires.sizes) is))
