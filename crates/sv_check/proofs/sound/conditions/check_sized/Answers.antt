use Rattle.std.proofs.Common.{◌≡◌, ◌∙◌, ℕ, List, None, ap, sym, subst, slice_index}
use Rattle.sv_form.specs.declared.geometry.Geometry.{Geometry}
use Rattle.sv_check.specs.BlockOwners.{block_owner}
use Rattle.sv_check.specs.InodeList.{used_flags}
use Rattle.sv_check.specs.Walk.{first_bad, nothing_met, walk}
use Rattle.sv_check.proofs.CacheSteps.{flags_length}
use Rattle.sv_check.proofs.sound.conditions.check_sized.Goals as goal

pub line_owners-requires-clause-used : goal.line_owners-requires-clause-used
line_owners-requires-clause-used g c =
    flags_length c.args.sizes.now (g.D.Disk.content c.args.disk.now) c.deref.result.now (c.deref.ensures.value ∙ c.in_ok-list.ensures.used)

pub returns-clause-owners : goal.returns-clause-owners
returns-clause-owners g c =
    let image : List ℕ = g.D.Disk.content c.args.disk.now in
    let sizes : Geometry = c.args.sizes.now in
    let one : g.D.Disk.content c.check_inodes.new.disk ≡ image = c.in_ok-list.ensures.content in
    let flags : c.in_ok-list.list.used.items ≡ used_flags sizes image = c.in_ok-list.ensures.used in
    let blocks : (b : ℕ) → slice_index c.deref-2.result.now b ≡ block_owner sizes image b =
    λ b. ap (λ (l : List ℕ). slice_index l b) c.deref-2.ensures.value ∙ c.in_ok-walk.ensures.owner b ∙ ap (λ (im : List ℕ). block_owner sizes im b) one in
    let none : first_bad sizes nothing_met (walk sizes image) ≡ None = ap (λ (im : List ℕ). first_bad sizes nothing_met (walk sizes im)) (sym one) ∙ c.in_ok-walk.ensures.first in
    c.in_ok-owners.ensures.owners image (c.deref.ensures.value ∙ flags) blocks none
