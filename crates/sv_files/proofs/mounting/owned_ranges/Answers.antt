use Rattle.sv_files.proofs.OwnedRanges.{in-ranges-is, in-ranges-place, once-covered}
use Rattle.sv_files.proofs.mounting.owned_ranges.Goals as goal

pub returns : goal.returns
returns c = λ t n ranges table are. record {
  exactly = in-ranges-is t n ranges table are;
  inside = in-ranges-place t n ranges table are;
  once = once-covered t n ranges table are;
}
