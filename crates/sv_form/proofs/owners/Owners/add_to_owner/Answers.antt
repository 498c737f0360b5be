-- The line goes to the ranges at the place of its owner.
use Rattle.std.proofs.Common.{◌≡◌, ◌<◌, ◌++◌, ◌∷◌, ◌∙◌, ℕ, All, List, [], ap, sym, subst, length, map, set, get_or, arith}
use Rattle.std.specs.List.{flat_map}
use Rattle.std.proofs.lemmas.List.{get_or-map, get_or_default, length-map, map-set}
use Rattle.sv_form.specs.declared.geometry.Geometry.{Geometry}
use Rattle.sv_form.specs.declared.owners.LineRange.{LineRange}
use Rattle.sv_form.specs.OwnerTable.{OwnerTable}
use Rattle.sv_form.specs.Geometry.{line_number}
use Rattle.sv_form.specs.Owners.{IsRange, range_lines}
use Rattle.sv_form.proofs.OwnerLemmas.{line_met}
use Rattle.sv_form.proofs.owners.Owners.add_to_owner.Goals as goal

pub add_line-requires-clause-ranges : goal.add_line-requires-clause-ranges
add_line-requires-clause-ranges c =
    (let P : Geometry → Type 0 = λ q. All (IsRange q) c.index_mut.result.now.items in
    subst P (sym (ap (λ (t : OwnerTable). t.geometry) c.self.view_is))
    (subst (λ (q : List LineRange). All (IsRange c.args.self.now.geometry) q) row (c.requires.ranges c.from-n.result low)))
  where
    low : c.from-n.result < length c.args.all.now.items
    low = omega (arith, c.if-n-len.false, c.len.ensures)

    row : get_or (map (λ ranges. ranges.items) c.args.all.now.items) c.from-n.result [] ≡ c.index_mut.result.now.items
    row = get_or-map (λ ranges. ranges.items) c.args.all.now.items c.from-n.result c.index_mut.result.now [] low
        ∙ ap (λ ranges. ranges.items) (sym c.index_mut.ensures.value)

pub returns-clause-lines : goal.returns-clause-lines
returns-clause-lines c = λ m within.
    line_met c.args.self.now c.args.line c.from-n.result (map (λ ranges. ranges.items) c.args.all.now.items)
    (map (λ ranges. ranges.items) (set c.args.all.now.items c.from-n.result c.add_line.new.ranges)) c.add_line.new.ranges.items
    (omega (arith, low, length-map c.args.all.now.items (λ ranges. ranges.items))) owner
    (map-set (λ ranges. ranges.items) c.args.all.now.items c.from-n.result c.add_line.new.ranges) more
    (let P : Geometry → Type 0 = λ q. All (IsRange q) c.add_line.new.ranges.items in subst P geometry c.in_ok-add_line.ensures.ranges)
    (λ k small. c.requires.ranges k (omega (arith, small, length-map c.args.all.now.items (λ ranges. ranges.items)))) m
    (omega (arith, within, length-map c.args.all.now.items (λ ranges. ranges.items)))
  where
    low : c.from-n.result < length c.args.all.now.items
    low = omega (arith, c.if-n-len.false, c.len.ensures)

    row : get_or (map (λ ranges. ranges.items) c.args.all.now.items) c.from-n.result [] ≡ c.index_mut.result.now.items
    row = get_or-map (λ ranges. ranges.items) c.args.all.now.items c.from-n.result c.index_mut.result.now [] low
        ∙ ap (λ ranges. ranges.items) (sym c.index_mut.ensures.value)

    geometry : c.self.inside.geometry ≡ c.args.self.now.geometry
    geometry = ap (λ (t : OwnerTable). t.geometry) c.self.view_is

    owner : get_or c.args.self.now.owners c.args.line 0 ≡ c.from-n.result
    owner =
        ap (λ (t : OwnerTable). get_or t.owners c.args.line 0) (sym c.self.view_is)
        ∙ (get_or_default c.self.inside.owner.items c.args.line 0 c.index.result.now
        (omega (arith, c.requires.line, ap (λ (t : OwnerTable). length t.owners) c.self.view_is))
        ∙ (sym c.index.ensures ∙ sym c.from-n.ensures))

    more : flat_map (range_lines c.args.self.now.geometry) c.add_line.new.ranges.items
        ≡ flat_map (range_lines c.args.self.now.geometry)
        (get_or (map (λ ranges. ranges.items) c.args.all.now.items) c.from-n.result []) ++ c.args.line ∷ []
    more =
        (let P : Geometry → Type 0 = λ q. flat_map (range_lines q) c.add_line.new.ranges.items
        ≡ flat_map (range_lines q)
        (get_or (map (λ ranges. ranges.items) c.args.all.now.items) c.from-n.result []) ++ c.args.line ∷ [] in
        subst P geometry
        (c.in_ok-add_line.ensures.lines
        ∙ (ap (λ (l : List LineRange). flat_map (range_lines c.self.inside.geometry) l
        ++ line_number c.self.inside.geometry c.place_at-place.result ∷ []) (sym row)
        ∙ ap (λ (k : ℕ). flat_map (range_lines c.self.inside.geometry)
        (get_or (map (λ ranges. ranges.items) c.args.all.now.items) c.from-n.result []) ++ k ∷ []) c.place_at-place.ensures.number)))
