use Rattle.std.proofs.Common.{◌≡◌, ◌<◌, ℕ, Bool, Some, None, true, false, sym, ap, ◌∙◌, arith}
use Rattle.std.proofs.lemmas.Bool.{false≢true}
use Rattle.sv_form.specs.Node.{entry_count}
use Rattle.sv_plain.specs.Names.{is_entry, place_of}
use Rattle.sv_plain.proofs.NameNotes.{no_place_here, refuted, same_place}
use Rattle.sv_plain.proofs.Places.{first_place, no_place}
use Rattle.sv_plain.proofs.node.Node.place_if.Goals as goal

pub returns-in_default : goal.returns-in_default
unfolding place_of
returns-in_default c =
    let p : ℕ → Bool = is_entry c.args.block c.args.self.now c.args.name.now in
    sym (no_place p (entry_count c.args.self.now) (λ k _. refuted (p k)
    (λ e. no_place_here c.args.place k c.in_default.is (c.requires.only k e))))

pub returns-then-j-entry_count : goal.returns-then-j-entry_count
unfolding place_of
returns-then-j-entry_count c =
    let p : ℕ → Bool = is_entry c.args.block c.args.self.now c.args.name.now in
    sym (no_place p (entry_count c.args.self.now)
    (λ k low. refuted (p k)
    (λ e. let same : k ≡ c.in-Some.j = same_place c.args.place c.in-Some.j k c.in-Some.is (c.requires.only k e) in
    absurd (omega (arith, low, same)))))

pub returns-then-not-is_entry : goal.returns-then-not-is_entry
unfolding place_of
returns-then-not-is_entry c =
    let p : ℕ → Bool = is_entry c.args.block c.args.self.now c.args.name.now in
    let not_here : p c.in-Some.j ≡ false = sym c.is_entry.ensures ∙ c.if-not-is_entry.true in
    sym (no_place p (entry_count c.args.self.now)
    (λ k low. refuted (p k)
    (λ e. let same : k ≡ c.in-Some.j = same_place c.args.place c.in-Some.j k c.in-Some.is (c.requires.only k e) in
    false≢true (sym not_here ∙ ap p (sym same) ∙ e))))

pub returns : goal.returns
unfolding place_of
returns c =
    let p : ℕ → Bool = is_entry c.args.block c.args.self.now c.args.name.now in
    let here : p c.in-Some.j ≡ true = sym c.is_entry.ensures ∙ c.if-not-is_entry.false in
    let within : c.in-Some.j < entry_count c.args.self.now = omega arith in
    sym (first_place p (entry_count c.args.self.now) c.in-Some.j within
    (λ k low. refuted (p k)
    (λ e. let same : k ≡ c.in-Some.j = same_place c.args.place c.in-Some.j k c.in-Some.is (c.requires.only k e) in
    absurd (omega (arith, low, same)))) here)
