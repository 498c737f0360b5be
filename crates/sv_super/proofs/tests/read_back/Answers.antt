-- All lines of the block that was taken are held.
use Rattle.sv_super.proofs.Samples.{can-read}
use Rattle.sv_super.proofs.tests.read_back.Goals as goal

pub list_bytes-requires-after_bounds : goal.list_bytes-requires-after_bounds
list_bytes-requires-after_bounds g c _ _ =
    can-read c.geometry-sizes.ensures.sizes c.geometry-sizes.ensures.value c.in_ok-block.ensures.part.home c.in_ok-block.ensures.lines.whole
    c.in_ok-block.ensures.part.away
