use Rattle.std.specs.String.{string_bytes}
use Rattle.std.specs.FinMap as map
use Rattle.sv_plain.specs.Listing.{line_at}
use Rattle.sv_plain.proofs.TreeLines.{one_line_more}
use Rattle.sv_plain.proofs.text.tree_text.listing.Goals as goal

pub loop-i-preserved : goal.loop-i-preserved
loop-i-preserved c =
    one_line_more (λ i. line_at i (map.get c.args.fs.now.nodes i)) (string_bytes c.loop-i.text) (string_bytes c.push_line.new.text) c.loop-i.i c.loop-i.invariant c.in_ok-push_line.ensures
