use Rattle.std.proofs.Common.{◌≡◌, ◌∙◌, ℕ, List, slice_index, ap}
use Rattle.sv_form.specs.Geometry.{inode_count}
use Rattle.sv_check.specs.Climbs.{climbed, step_up}
use Rattle.sv_check.specs.Standings.{standing_of}
use Rattle.sv_check.proofs.ToldPlaces.{dots_found}
use Rattle.sv_check.proofs.sound.dots.first_misplaced.Goals as goal

pub climb-requires-clause-nowhere : goal.climb-requires-clause-nowhere
climb-requires-clause-nowhere c = ap (λ (l : List ℕ). slice_index l 0) c.deref.ensures.value ∙ ap (λ (f : ℕ → ℕ). f 0) c.in_ok-up.ensures.up ∙ c.requires.nowhere

pub returns : goal.returns
returns c = λ image numbers told entry.
    let one : slice_index c.deref.result.now ≡ step_up (standing_of c.args.standings.now) = ap (λ (l : List ℕ). slice_index l) c.deref.ensures.value ∙ c.in_ok-up.ensures.up in
    let ends : slice_index c.deref-2.result.now ≡ climbed (step_up (standing_of c.args.standings.now)) (inode_count c.args.sizes.now) =
    ap (λ (l : List ℕ). slice_index l) c.deref-2.ensures.value ∙ c.in_ok-ends.ensures ∙ ap (λ (f : ℕ → ℕ). climbed f c.inode_count.result) one
    ∙ ap (climbed (step_up (standing_of c.args.standings.now))) c.inode_count.ensures in
    c.first_astray.ensures ∙ dots_found c.args.sizes.now image c.args.standings.now told entry c.deref-2.result.now ends _ numbers
