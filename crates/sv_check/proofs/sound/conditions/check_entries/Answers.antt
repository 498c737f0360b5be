use Rattle.std.proofs.Common.{◌≡◌, ◌∙◌, ap, List, Option, None, ℕ}
use Rattle.sv_form.specs.declared.geometry.Geometry.{Geometry}
use Rattle.sv_form.specs.Image.{geometry_of}
use Rattle.sv_check.specs.Directories.{entry_flaw}
use Rattle.sv_check.specs.InodeList.{size_flaw}
use Rattle.sv_check.specs.Standings.{after, told}
use Rattle.sv_check.specs.declared.sound.standings.Standing.{Standing}
use Rattle.sv_check.specs.Walk.{range_flaw, twice_flaw}
use Rattle.sv_check.proofs.Flaws.{fails_14, found_at, found_none, none_here}
use Rattle.sv_check.proofs.ReadyDirectories.{numbers_kept, ready_kept}
use Rattle.sv_check.proofs.sound.conditions.check_entries.Goals as goal

pub first_disordered-requires-clause-numbers : goal.first_disordered-requires-clause-numbers
first_disordered-requires-clause-numbers g c = λ _ _.
    let image : List ℕ = g.D.Disk.content c.args.disk.now in
    let at : (f : Geometry → List ℕ → Option ℕ) → f (geometry_of image) image ≡ None → f c.args.sizes.now image ≡ None = λ f none. ap (λ (s : Geometry). f s image) c.requires.sizes ∙ none in
    numbers_kept c.args.sizes.now image (at size_flaw c.requires.rooted.chained.walked.size) (at range_flaw c.requires.rooted.chained.walked.range)
    (at twice_flaw c.requires.rooted.chained.walked.twice) c.args.kept.now c.requires.kept

pub first_disordered-requires-clause-ready : goal.first_disordered-requires-clause-ready
first_disordered-requires-clause-ready g c = λ _ _.
    let image : List ℕ = g.D.Disk.content c.args.disk.now in
    let at : (f : Geometry → List ℕ → Option ℕ) → f (geometry_of image) image ≡ None → f c.args.sizes.now image ≡ None = λ f none. ap (λ (s : Geometry). f s image) c.requires.sizes ∙ none in
    ready_kept c.args.sizes.now image (at size_flaw c.requires.rooted.chained.walked.size) (at range_flaw c.requires.rooted.chained.walked.range)
    (at twice_flaw c.requires.rooted.chained.walked.twice) c.args.kept.now c.requires.kept

pub returns-in-Some-clause-err : goal.returns-in-Some-clause-err
returns-in-Some-clause-err g c = fails_14 _ c.requires.rooted _ (found_at entry_flaw _ c.args.sizes.now _ c.requires.sizes c.in_ok-bad.ensures.first _ _ c.in-Some.is c.from.ensures)

pub returns-clause-told : goal.returns-clause-told
returns-clause-told g c =
    c.in_ok-bad.ensures.told c.in_default.is ∙ ap (λ (all : ℕ → Standing). after all (told c.args.sizes.now (g.D.Disk.content c.args.disk.now))) c.in_ok-standings.ensures.none

pub returns-clause-entered : goal.returns-clause-entered
returns-clause-entered g c = record {
  rooted = c.requires.rooted;
  entry = found_none entry_flaw _ c.args.sizes.now _ c.requires.sizes c.in_ok-bad.ensures.first (none_here _ c.in_default.not-Some);
}
