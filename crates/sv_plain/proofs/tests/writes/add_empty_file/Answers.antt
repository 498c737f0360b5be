use Rattle.std.proofs.Common.{ap, ◌∙◌}
use Rattle.std.specs.FinMap as map
use Rattle.sv_plain.specs.Fs.{Fs}
use Rattle.sv_plain.proofs.tests.writes.add_empty_file.Goals as goal

pub add_file-requires-clause-absent : goal.add_file-requires-clause-absent
add_file-requires-clause-absent c = ap (λ (fs : Fs). map.get fs.files 0) c.in_ok-add_node.ensures.added ∙ c.requires.file
