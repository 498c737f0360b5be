use Rattle.std.proofs.Common.{◌≡◌, ◌<◌, true, sym, ◌∙◌, arith}
use Rattle.sv_form.specs.Node.{entry_count}
use Rattle.sv_plain.specs.Names.{is_entry, place_of}
use Rattle.sv_plain.proofs.Places.{first_place, no_place}
use Rattle.sv_plain.proofs.node.Node.place_among.Goals as goal

pub returns-then-is_entry : goal.returns-then-is_entry
unfolding place_of
returns-then-is_entry c =
    let within : c.loop-j.j < entry_count c.args.self.now = omega arith in
    sym (first_place (is_entry c.args.block c.args.self.now c.args.name.now) (entry_count c.args.self.now) c.loop-j.j within c.loop-j.invariant.none (sym c.is_entry.ensures ∙ c.if-is_entry.true))

pub returns : goal.returns
unfolding place_of
returns c = sym (no_place (is_entry c.args.block c.args.self.now c.args.name.now) (entry_count c.args.self.now) (λ k h. c.loop-j.invariant.none k (omega arith)))
