use Rattle.std.proofs.Common.{subst}
use Rattle.sv_form.specs.declared.geometry.Geometry.{Geometry}
use Rattle.sv_check.specs.MadeWrites.{HasCounted, unlike_blocks}
use Rattle.sv_check.proofs.MadeSound.{written_is_sound}
use Rattle.sv_check.proofs.make.image.mkfs.Goals as goal

pub returns-clause-sound : goal.returns-clause-sound
returns-clause-sound g c =
    written_is_sound c.args.blocks c.args.inodes c.in-Some.sizes (g.D.Disk.content c.write_blocks.new.disk) c.in-Some.ensures.some
    c.in-Ok.ensures.made

pub returns-clause-writes : goal.returns-clause-writes
returns-clause-writes g c =
    subst (λ (s : Geometry). HasCounted (g.D.Disk.writes c.args.disk.now) (unlike_blocks s (g.D.Disk.content c.args.disk.now) s.blocks)
    (g.D.Disk.writes c.write_blocks.new.disk))
    c.in-Some.ensures.some.0 c.in-Ok.ensures.writes
