use Rattle.std.proofs.Common.{◌≡◌, ◌+◌, ◌*◌, ℕ, List, slice_index, refl, sym, ◌∙◌, arith}
use Rattle.std.proofs.lemmas.Bool.{OnTrue_from}
use Rattle.std.proofs.lemmas.Slice.Eq.{bytes_eq-Decides}
use Rattle.std.specs.List.{slice_range}
use Rattle.sv_plain.proofs.NameNotes.{same-range}
use Rattle.sv_plain.proofs.maps.name_index.is_same.Goals as goal

pub returns : goal.returns
returns c =
    let xs : List ℕ = c.args.before.now in
    let ys : List ℕ = c.args.after.now in
    let a : ℕ = 16 * c.args.r in
    OnTrue_from c.eq.result _
    (λ ok. same-range xs ys a (a + 16) refl ((bytes_eq-Decides (slice_range xs a (a + 16)) (slice_range ys a (a + 16))).0
    (sym c.eq.ensures ∙ ok)))
