use Rattle.sv_buf.specs.Running.{seen_by}
use Rattle.sv_buf.specs.Start.{whole_view, opened_with}
use Rattle.sv_buf.proofs.cache.open.Given as goal

abbrev pub ghosts-new : goal.ghosts-new
ghosts-new g a = record {
  first = whole_view (opened_with (seen_by g.D.Medium.content g.D.Medium.reads g.D.Medium.writes
      g.D.Medium.faults) a.state.core);
}
