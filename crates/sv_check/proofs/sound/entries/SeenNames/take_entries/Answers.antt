use Rattle.std.proofs.Common.{◌≡◌, ◌+◌, ◌*◌, ◌/◌, ◌∷◌, [], List, ℕ, Bool, true, subst, length, refl, arith}
use Rattle.std.specs.List.{slice_range}
use Rattle.sv_check.specs.Directories.{pieces}
use Rattle.sv_check.specs.EntrySteps.{Takes, seen_after}
use Rattle.sv_check.specs.SeenNames.{HasSeen}
use Rattle.sv_check.proofs.EntryTakes.{piece_refused, piece_seen, piece_taken, when_true}
use Rattle.sv_check.proofs.sound.entries.SeenNames.take_entries.Goals as goal

pub loop-k-init : goal.loop-k-init
loop-k-init c = record { takes = λ g image seen is was rest. refl; seen = λ seen was. was }

pub returns-then-not-branch-clause-takes : goal.returns-then-not-branch-clause-takes
returns-then-not-branch-clause-takes c = λ g image seen is was.
    let entry : List ℕ = slice_range c.args.bytes.now (16 * c.loop-k.k) (16 * c.loop-k.k + 16) in
    piece_refused c.args.bytes.now entry c.loop-k.k refl g image seen (c.loop-k.invariant.takes g image seen is was) (length c.args.bytes.now / 16) (omega (arith, c.loop-k-test.true))
    (subst (λ (t : Bool). Takes g image (seen_after seen (pieces c.loop-k.k c.args.bytes.now)) (entry ∷ []) t) c.if-not-branch.true
    (c.in_ok-take_entry.ensures.takes g image (seen_after seen (pieces c.loop-k.k c.args.bytes.now)) is (c.loop-k.invariant.seen seen was)))

pub loop-k-preserved : goal.loop-k-preserved
loop-k-preserved c =
    let entry : List ℕ = slice_range c.args.bytes.now (16 * c.loop-k.k) (16 * c.loop-k.k + 16) in
    record {
      takes = λ g image seen is was.
          piece_taken c.args.bytes.now entry c.loop-k.k refl g image seen (c.loop-k.invariant.takes g image seen is was)
          (subst (λ (t : Bool). Takes g image (seen_after seen (pieces c.loop-k.k c.args.bytes.now)) (entry ∷ []) t) c.if-not-branch.false
          (c.in_ok-take_entry.ensures.takes g image (seen_after seen (pieces c.loop-k.k c.args.bytes.now)) is (c.loop-k.invariant.seen seen was)));
      seen = λ seen was.
          piece_seen c.args.bytes.now entry c.loop-k.k refl c.take_entry.new.self seen
          (when_true c.in_ok-take_entry.field-0 c.if-not-branch.false c.in_ok-take_entry.ensures.seen (seen_after seen (pieces c.loop-k.k c.args.bytes.now)) (c.loop-k.invariant.seen seen was));
    }

pub returns-clause-seen : goal.returns-clause-seen
returns-clause-seen c = λ seen was.
    let end : c.loop-k.k ≡ length c.args.bytes.now / 16 = omega (arith, c.loop-k-test.false) in
    subst (λ (n : ℕ). HasSeen c.loop-k.self (seen_after seen (pieces n c.args.bytes.now))) end (c.loop-k.invariant.seen seen was)

pub returns-clause-takes : goal.returns-clause-takes
returns-clause-takes c = λ g image seen is was.
    let end : c.loop-k.k ≡ length c.args.bytes.now / 16 = omega (arith, c.loop-k-test.false) in
    subst (λ (n : ℕ). Takes g image seen (pieces n c.args.bytes.now) true) end (c.loop-k.invariant.takes g image seen is was)
