use Rattle.std.proofs.Common.{◌≡◌, ◌==◌, ◌&&◌, not, map, drop, find, slice_index}
use Rattle.sv_check.specs.Climbs.{is_well_placed}
use Rattle.sv_check.specs.Standings.{standing_of}
use Rattle.sv_check.proofs.sound.dots.first_astray.Given as goal

abbrev pub invariant-loop-directory : goal.invariant-loop-directory
invariant-loop-directory l = record {
  ahead : find (λ n. not (is_well_placed n (standing_of l.standings n) && (slice_index l.ends n == 2))) (map (λ d. d.inode) l.kept)
      ≡ find (λ n. not (is_well_placed n (standing_of l.standings n) && (slice_index l.ends n == 2))) (map (λ d. d.inode) (drop l.directory-index l.kept));
}
