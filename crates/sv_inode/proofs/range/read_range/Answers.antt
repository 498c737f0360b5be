-- No bytes are asked for.
use Rattle.std.proofs.Common.{sym, ◌∙◌}
use Rattle.sv_inode.proofs.PageParts.{file_bytes_none}
use Rattle.sv_inode.proofs.range.read_range.Goals as goal

pub returns-then-count-eq0-clause-bytes : goal.returns-then-count-eq0-clause-bytes
returns-then-count-eq0-clause-bytes g c =
    c.from_vec.ensures ∙ (c.new.ensures.items
    ∙ sym (file_bytes_none (g.S.Stake.origin c.args.s.now).sizes (g.S.Stake.held c.args.s.now) c.args.a.now c.args.at c.args.count
    c.if-count-eq0.true))
