-- Zero bytes, and one number among them.
use Rattle.sv_bmap.proofs.Sample.{sample-is}
use Rattle.sv_bmap.proofs.sample_tests.bytes_of.Goals as goal

pub returns : goal.returns
returns c = sample-is c.args.block _ _ _ (c.in_ok-bytes.ensures.items_if_clones_equal (λ y e. e)) c.number_in-place.ensures.place
    c.number_in-place.ensures.number
