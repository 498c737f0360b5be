use Rattle.std.proofs.Common.{◌∙◌}
use Rattle.sv_session.proofs.SoundLines.{line_of_counts}
use Rattle.sv_session.proofs.sound_line.sound_line.Goals as goal

pub returns : goal.returns
returns c = λ image from.
    c.push_counts.ensures
    ∙ line_of_counts image c.args.mounted.now from c.free_count.result c.inode_count.result c.used_count.result (c.free_count.ensures image from) c.inode_count.ensures (c.used_count.ensures image from)
