use Rattle.std.proofs.Common.{sym, ap, subst, ◌∙◌, arith, inl, inr, refl}
use Rattle.std.proofs.lemmas.Bool.{cases_lt}
use Rattle.sv_links.specs.Arrangement.{times}
use Rattle.sv_cache.specs.Getblk.{IsCause}
use Rattle.sv_cache.proofs.Holder.{unnamed-holder, named-holder, named-inside, free-cause}
use Rattle.sv_cache.specs.declared.scenario.Scenario.TheVariants.{Hit}
use Rattle.sv_cache.proofs.Frames.{given-if_held}
use Rattle.sv_cache.specs.Fresh.{IsFreshFirst, TakesUnused}
use Rattle.sv_cache.specs.Getblk.{meets}
use Rattle.sv_cache.proofs.Fresh.{fresh-search, takes-unused}
use Rattle.sv_cache.proofs.cache.CacheCore.attempt.Goals as goal
use Rattle.sv_cache.proofs.cache.CacheCore.attempt.Goals.{In-Some}

pub reuse-requires : goal.reuse-requires
reuse-requires g c = record { unnamed = unnamed-holder c.args.self.now c.args.block c.find.ensures.lawful.one_buffer (sym c.find.ensures.holder ∙ c.in_default.is) }

pub returns-in_default-clause-cause : goal.returns-in_default-clause-cause
returns-in_default-clause-cause g c =
    subst (λ r. IsCause c.args.self.now c.args.block r) (sym c.reuse.ensures.scenario)
    (free-cause c.args.self.now c.args.block (unnamed-holder c.args.self.now c.args.block c.find.ensures.lawful.one_buffer (sym c.find.ensures.holder ∙ c.in_default.is)) c.args.self.now.free refl)

pub returns-then-not-is_free-clause-cause : goal.returns-then-not-is_free-clause-cause
returns-then-not-is_free-clause-cause g c =
    let named = named-holder c.args.self.now c.in-Some.buffer c.args.block (sym c.find.ensures.holder ∙ c.in-Some.is) in (
      named,
      record {
        in_range = named-inside c.args.self.now c.in-Some.buffer c.args.block named;
        busy = elim (cases_lt 0 (times c.in-Some.buffer c.args.self.now.free)) [
          | inl on ↦ let told = c.is_free.ensures.free.1 on in let not = c.if-not-is_free.true in absurd cc
          | inr none ↦ omega arith
        ];
      },
    )

pub returns-clause-cause : goal.returns-clause-cause
returns-clause-cause g c =
    let named = named-holder c.args.self.now c.in-Some.buffer c.args.block (sym c.find.ensures.holder ∙ c.in-Some.is) in
    (named, c.is_free.ensures.free.0 c.if-not-is_free.false)

pub returns-in_default-clause-held : goal.returns-in_default-clause-held
returns-in_default-clause-held g c =
    let cause =
    subst (λ r. IsCause c.args.self.now c.args.block r) (sym c.reuse.ensures.scenario)
    (free-cause c.args.self.now c.args.block (unnamed-holder c.args.self.now c.args.block c.find.ensures.lawful.one_buffer (sym c.find.ensures.holder ∙ c.in_default.is)) c.args.self.now.free refl) in
    given-if_held c.args.self.now c.reuse.new.self c.args.block c.reuse.result c.find.ensures.lawful cause c.reuse.ensures.after

pub returns-clause-held : goal.returns-clause-held
returns-clause-held g c =
    let named = named-holder c.args.self.now c.in-Some.buffer c.args.block (sym c.find.ensures.holder ∙ c.in-Some.is) in
    given-if_held c.args.self.now c.take_off.new.self c.args.block (Hit c.in-Some.buffer) c.find.ensures.lawful (named, c.is_free.ensures.free.0 c.if-not-is_free.false) c.take_off.ensures.after

pub returns-in_default-clause-fresh : goal.returns-in_default-clause-fresh
returns-in_default-clause-fresh g c = λ first.
    let cause =
    subst (λ r. IsCause c.args.self.now c.args.block r) (sym c.reuse.ensures.scenario)
    (free-cause c.args.self.now c.args.block (unnamed-holder c.args.self.now c.args.block c.find.ensures.lawful.one_buffer (sym c.find.ensures.holder ∙ c.in_default.is)) c.args.self.now.free refl) in
    subst (λ v. IsFreshFirst v) (sym c.reuse.ensures.after) (fresh-search c.args.self.now c.args.block c.reuse.result c.find.ensures.lawful cause first)

pub returns-clause-fresh : goal.returns-clause-fresh
returns-clause-fresh g c = λ first.
    let named = named-holder c.args.self.now c.in-Some.buffer c.args.block (sym c.find.ensures.holder ∙ c.in-Some.is) in
    subst (λ v. IsFreshFirst v) (sym c.take_off.ensures.after) (fresh-search c.args.self.now c.args.block (Hit c.in-Some.buffer) c.find.ensures.lawful (named, c.is_free.ensures.free.0 c.if-not-is_free.false) first)

pub returns-in_default-clause-unused : goal.returns-in_default-clause-unused
returns-in_default-clause-unused g c = λ first has unnamed.
    subst (λ r. TakesUnused c.args.self.now r) (ap (meets c.args.self.now) (sym c.find.ensures.holder ∙ c.in_default.is) ∙ sym c.reuse.ensures.scenario) (takes-unused c.args.self.now c.args.block first has unnamed)

pub returns-then-not-is_free-clause-unused : goal.returns-then-not-is_free-clause-unused
returns-then-not-is_free-clause-unused g c = λ first has unnamed.
    absurd (unnamed c.in-Some.buffer (named-holder c.args.self.now c.in-Some.buffer c.args.block (sym c.find.ensures.holder ∙ c.in-Some.is)))

pub returns-clause-unused : goal.returns-clause-unused
returns-clause-unused g c = λ first has unnamed.
    absurd (unnamed c.in-Some.buffer (named-holder c.args.self.now c.in-Some.buffer c.args.block (sym c.find.ensures.holder ∙ c.in-Some.is)))
