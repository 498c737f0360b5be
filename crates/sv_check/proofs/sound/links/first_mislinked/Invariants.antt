use Rattle.std.proofs.Common.{◌≡◌, ◌+◌, ◌-◌, ℕ, List, find}
use Rattle.std.specs.List.{range_with_len}
use Rattle.sv_form.specs.Geometry.{inode_count}
use Rattle.sv_check.specs.InodeList.{link_counts, used_flags}
use Rattle.sv_check.specs.Links.{links_flaw}
use Rattle.sv_check.specs.Standings.{HaveTold}
use Rattle.sv_check.proofs.ToldTimes.{is_mislinked}
use Rattle.sv_check.proofs.sound.links.first_mislinked.Given as goal

abbrev pub invariant-loop-n : goal.invariant-loop-n
invariant-loop-n l = record {
  first : (image : List ℕ) → l.list.used.items ≡ used_flags l.sizes image → l.list.links.items ≡ link_counts l.sizes image → HaveTold l.sizes image l.standings
      → find (is_mislinked l.sizes image) (range_with_len l.n (inode_count l.sizes + 1 - l.n)) ≡ links_flaw l.sizes image;
}
