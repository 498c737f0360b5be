use Rattle.std.proofs.Common.{ap}
use Rattle.sv_dev.proofs.Known.{front_of}
use Rattle.sv_dev.proofs.mirror_disk.read_front.Goals as goal

pub returns : goal.returns
returns g c = record {
  front = front_of _ _ _ _ _ _ c.take.ensures.limit (ap (λ reader. g.R.Read.remaining reader.now) c.take.ensures.inner)
      c.in_ok-front.ensures.items c.in_ok-read_to_end.ensures.bytes;
}
