use Rattle.std.proofs.Common.{◌≡◌, ℕ, List, None, map, length, slice_index}
use Rattle.std.specs.List.{range_with_len}
use Rattle.sv_check.specs.BlockOwners.{block_owner, place_of}
use Rattle.sv_check.specs.InodeList.{used_flags}
use Rattle.sv_check.specs.Sound.{line_owner}
use Rattle.sv_check.specs.Walk.{first_bad, nothing_met, walk}
use Rattle.sv_check.proofs.sound.line_owners.line_owners.Given as goal

abbrev pub invariant-loop-line : goal.invariant-loop-line
invariant-loop-line l = record {
  len : length l.lines.items ≡ l.line;
  owners : (image : List ℕ) → l.used ≡ used_flags l.sizes image → ((b : ℕ) → slice_index l.owners b ≡ block_owner l.sizes image b) → first_bad l.sizes nothing_met (walk l.sizes image) ≡ None
      → l.lines.items ≡ map (λ line. line_owner l.sizes image (place_of l.sizes line)) (range_with_len 0 l.line);
}
