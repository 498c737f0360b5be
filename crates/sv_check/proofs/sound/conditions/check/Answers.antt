use Rattle.std.proofs.Common.{◌≡◌, ◌∙◌, ℕ, List, None, ap, sym, subst}
use Rattle.sv_form.specs.declared.geometry.Geometry.{Geometry}
use Rattle.sv_form.specs.Geometry.{IsGeometry, IsPlace}
use Rattle.sv_form.specs.Image.{geometry_of}
use Rattle.sv_form.specs.OwnerTable.{OwnerTable}
use Rattle.sv_form.specs.Owners.{owner_of}
use Rattle.sv_check.specs.BlockOwners.{line_owners}
use Rattle.sv_check.specs.InodeList.{used_flags}
use Rattle.sv_check.specs.Sound.{IsSound, line_owner}
use Rattle.sv_check.specs.Walk.{first_bad, nothing_met, walk}
use Rattle.sv_check.proofs.OwnedLines.{owner_at, sizes_same}
use Rattle.sv_check.proofs.sound.conditions.check.Goals as goal

pub returns-clause-mounted : goal.returns-clause-mounted
returns-clause-mounted g c =
    let image : List ℕ = g.D.Disk.content c.args.disk.now in
    let sizes : Geometry = c.geometry-sizes.result in
    let one : g.D.Disk.content c.read_sizes.new.disk ≡ image = c.in_ok-head.ensures.content in
    let same : sizes ≡ geometry_of image = c.geometry-sizes.ensures ∙ sizes_same image c.in_ok-head.head c.in_ok-head.ensures.head in
    let flags : c.in_ok-shown.shown.used.items ≡ used_flags sizes image = c.in_ok-shown.ensures.used ∙ ap (used_flags sizes) one in
    let none : first_bad sizes nothing_met (walk sizes image) ≡ None = ap (λ (im : List ℕ). first_bad sizes nothing_met (walk sizes im)) (sym one) ∙ c.in_ok-shown.ensures.first in
    let lines : c.in_ok-shown.shown.owners.items ≡ line_owners sizes image = c.in_ok-shown.ensures.owners ∙ ap (line_owners sizes) one in
    let is : IsGeometry sizes = subst IsGeometry (sym same) c.in_ok-head.ensures.sized.sizes.bounds in
    record {
      sound = subst IsSound one c.in_ok-shown.ensures.sound;
      geometry = same;
      head = c.in_ok-head.ensures.head;
      table = ap (λ (t : OwnerTable). t.geometry) c.from_vec.ensures ∙ same;
      owners = λ p at.
          let here : IsPlace sizes p = subst (λ (s : Geometry). IsPlace s p) (sym same) at in
          ap (λ (t : OwnerTable). owner_of t p) c.from_vec.ensures ∙ owner_at sizes image is none c.in_ok-shown.shown.owners.items p here lines ∙ ap (λ (s : Geometry). line_owner s image p) same;
      used = flags ∙ ap (λ (s : Geometry). used_flags s image) same;
    }
