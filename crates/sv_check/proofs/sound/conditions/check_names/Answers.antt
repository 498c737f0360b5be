use Rattle.std.proofs.Common.{◌≡◌, ◌∙◌, ap, List, None, ℕ, Option}
use Rattle.sv_form.specs.declared.geometry.Geometry.{Geometry}
use Rattle.sv_form.specs.Image.{geometry_of}
use Rattle.sv_check.specs.Directories.{dots_flaw, entry_flaw}
use Rattle.sv_check.specs.InodeList.{size_flaw}
use Rattle.sv_check.specs.Links.{links_flaw}
use Rattle.sv_check.specs.Walk.{range_flaw, twice_flaw}
use Rattle.sv_check.proofs.CacheSteps.{flags_length}
use Rattle.sv_check.proofs.Flaws.{fails_15, fails_16, fails_nowhere, found_at, found_none, found_some}
use Rattle.sv_check.proofs.ReadyDirectories.{numbers_kept}
use Rattle.sv_check.proofs.ToldPlaces.{leads_nowhere}
use Rattle.sv_check.proofs.ToldTimes.{counts_length}
use Rattle.sv_check.proofs.sound.conditions.check_names.Goals as goal

pub first_misplaced-requires-clause-nowhere : goal.first_misplaced-requires-clause-nowhere
first_misplaced-requires-clause-nowhere g c = leads_nowhere c.args.sizes.now (g.D.Disk.content c.args.disk.now) c.in_ok-standings.standings c.in_ok-standings.ensures.told

pub returns-in-Some-clause-err : goal.returns-in-Some-clause-err
returns-in-Some-clause-err g c =
    let image : List ℕ = g.D.Disk.content c.args.disk.now in
    let at : (f : Geometry → List ℕ → Option ℕ) → f (geometry_of image) image ≡ None → f c.args.sizes.now image ≡ None = λ f none. ap (λ (s : Geometry). f s image) c.requires.sizes ∙ none in
    let numbers = numbers_kept c.args.sizes.now image (at size_flaw c.requires.rooted.chained.walked.size) (at range_flaw c.requires.rooted.chained.walked.range)
    (at twice_flaw c.requires.rooted.chained.walked.twice) c.args.kept.now c.requires.kept in
    let found = c.in_ok-bad.ensures image numbers c.in_ok-standings.ensures.told (at entry_flaw c.in_ok-standings.ensures.entered.entry) in
    fails_15 image c.in_ok-standings.ensures.entered _ (found_at dots_flaw image c.args.sizes.now _ c.requires.sizes found _ _ c.in-Some.is c.from.ensures)

pub first_mislinked-requires-clause-used : goal.first_mislinked-requires-clause-used
first_mislinked-requires-clause-used g c = flags_length c.args.sizes.now (g.D.Disk.content c.args.disk.now) _ c.requires.used

pub first_mislinked-requires-clause-links : goal.first_mislinked-requires-clause-links
first_mislinked-requires-clause-links g c = counts_length c.args.sizes.now (g.D.Disk.content c.args.disk.now) _ c.requires.links

pub returns-in-Some-first_mislinked-clause-err : goal.returns-in-Some-first_mislinked-clause-err
returns-in-Some-first_mislinked-clause-err g c =
    let image : List ℕ = g.D.Disk.content c.args.disk.now in
    let at : (f : Geometry → List ℕ → Option ℕ) → f (geometry_of image) image ≡ None → f c.args.sizes.now image ≡ None = λ f none. ap (λ (s : Geometry). f s image) c.requires.sizes ∙ none in
    let numbers = numbers_kept c.args.sizes.now image (at size_flaw c.requires.rooted.chained.walked.size) (at range_flaw c.requires.rooted.chained.walked.range)
    (at twice_flaw c.requires.rooted.chained.walked.twice) c.args.kept.now c.requires.kept in
    let found = c.in_ok-bad.ensures image numbers c.in_ok-standings.ensures.told (at entry_flaw c.in_ok-standings.ensures.entered.entry) in
    let dots = found_none dots_flaw image c.args.sizes.now _ c.requires.sizes found c.in_default.is in
    let links = c.first_mislinked.ensures image c.requires.used c.requires.links c.in_ok-standings.ensures.told in
    fails_16 image c.in_ok-standings.ensures.entered dots _ (found_some links_flaw image c.args.sizes.now _ c.requires.sizes links _ c.in-Some-first_mislinked.is)

pub returns-clause-sound : goal.returns-clause-sound
returns-clause-sound g c =
    let image : List ℕ = g.D.Disk.content c.args.disk.now in
    let at : (f : Geometry → List ℕ → Option ℕ) → f (geometry_of image) image ≡ None → f c.args.sizes.now image ≡ None = λ f none. ap (λ (s : Geometry). f s image) c.requires.sizes ∙ none in
    let numbers = numbers_kept c.args.sizes.now image (at size_flaw c.requires.rooted.chained.walked.size) (at range_flaw c.requires.rooted.chained.walked.range)
    (at twice_flaw c.requires.rooted.chained.walked.twice) c.args.kept.now c.requires.kept in
    let found = c.in_ok-bad.ensures image numbers c.in_ok-standings.ensures.told (at entry_flaw c.in_ok-standings.ensures.entered.entry) in
    let dots = found_none dots_flaw image c.args.sizes.now _ c.requires.sizes found c.in_default.is in
    let links = c.first_mislinked.ensures image c.requires.used c.requires.links c.in_ok-standings.ensures.told in
    fails_nowhere image c.in_ok-standings.ensures.entered dots (found_none links_flaw image c.args.sizes.now _ c.requires.sizes links c.in_default-first_mislinked.is)
