-- A stake stays fit where a block is lent, or comes back as it was.
use Rattle.std.proofs.Common.{◌≡◌, ◌+◌, ◌<◌, ℕ, List, ◌∷◌, length, replicate, Result, Ok, Err, OnOk, IfOk, IfErr, refl, sym, ap, ◌∙◌, subst}
use Rattle.std.proofs.lemmas.List.{length-replicate}
use Rattle.sv_store.specs.Loan.{Loan}
use Rattle.sv_store.specs.declared.refusal.Refusal.{Refusal}
use Rattle.sv_store.specs.declared.refusal.Refusal.TheVariants.{Fault}
use Rattle.sv_buf.specs.View.{View, Lending}
use Rattle.sv_buf.specs.Changes.{calm_view, lent_view, failed_view, filled_view, forced_view, flushed_view, back_view}
use Rattle.sv_buf.specs.Running.{IsFit}
use Rattle.sv_buf.specs.Meeting.{MayFail}
use Rattle.sv_buf.proofs.Delaying.{fit-filled}

-- what a view has lent, and how many transfers failed, is no part of it
pub fit-calm : (v : View) (loans : List Lending) (f : ℕ) → IsFit v → IsFit (record (calm_view v) { loans = loans; faults = f })
fit-calm v loans f fit = record {
  sizes = fit.sizes;
  range = fit.range;
  some = fit.some;
  calm = refl;
  home = refl;
  once = fit.once;
  no_worker = fit.no_worker;
}

pub fit-got : (r : Result Loan Refusal) (v w : View) (b : ℕ)
    → IfOk r (λ buf. (k : ℕ) × (w ≡ lent_view k b buf.bytes (calm_view v)))
    → IfErr r (λ e. (e ≡ Fault) × (w ≡ failed_view (calm_view v))) → IsFit v → IsFit w
fit-got (Ok buf) v w b ok err fit =
    subst IsFit (sym ok.1) (fit-calm v (record { buffer = ok.0; block = b; bytes = buf.bytes } ∷ v.loans) v.faults fit)
fit-got (Err e) v w b ok err fit = subst IsFit (sym err.1) (fit-calm v v.loans (v.faults + 1) fit)

-- what holds of a view after a block was lent and another may have been read ahead, whatever it has lent and counts
pub ended-ahead : (r : Result Loan Refusal) (v w : View) (b : ℕ) (P : View → Type 0)
    → IfOk r (λ buf. (k : ℕ) × MayFail (lent_view k b buf.bytes (calm_view v)) w)
    → IfErr r (λ e. (e ≡ Fault) × (w ≡ failed_view (calm_view v)))
    → ((loans : List Lending) (f : ℕ) → P (record (calm_view v) { loans = loans; faults = f })) → P w
ended-ahead (Ok buf) v w b P ok err p =
    subst P (sym ok.1.is) (p (record { buffer = ok.0; block = b; bytes = buf.bytes } ∷ v.loans) ok.1.count)
ended-ahead (Err e) v w b P ok err p = subst P (sym err.1) (p v.loans (v.faults + 1))

-- a block of zeros was lent, or not
pub fit-zeros : (r : Result Loan Refusal) (v w : View) (b : ℕ)
    → IfOk r (λ buf. (k : ℕ) × (w ≡ lent_view k b buf.bytes (filled_view b buf.bytes (calm_view v))))
    → IfOk r (λ buf. buf.bytes ≡ replicate 1024 0) → IfErr r (λ e. (e ≡ Fault) × (w ≡ failed_view (calm_view v))) → IsFit v → IsFit w
fit-zeros (Ok buf) v w b ok zeros err fit =
    fit-filled v w ok.0 b buf.bytes ok.1 (ap length zeros ∙ (length-replicate {A = ℕ} 1024 0 ∙ sym fit.sizes.block_size)) fit
fit-zeros (Err e) v w b ok zeros err fit = subst IsFit (sym err.1) (fit-calm v v.loans (v.faults + 1) fit)

-- what is still to be written was written
pub fit-flushed : {T : Type 0} (r : Result T Refusal) (v w : View) → OnOk r (w ≡ forced_view v)
    → IfErr r (λ e. (e ≡ Fault) × ((n : ℕ) × (0 < n) × (w ≡ flushed_view n v))) → IsFit v → IsFit w
fit-flushed (Ok x) v w ok err fit = subst IsFit (sym ok) (record {
  sizes = fit.sizes;
  range = fit.range;
  some = fit.some;
  calm = fit.calm;
  home = fit.home;
  once = fit.once;
  no_worker = fit.no_worker;
})
fit-flushed (Err e) v w ok err fit = subst IsFit (sym err.1.2) (record {
  sizes = fit.sizes;
  range = fit.range;
  some = fit.some;
  calm = fit.calm;
  home = fit.home;
  once = fit.once;
  no_worker = fit.no_worker;
})

pub fit-back : (v w : View) (b : ℕ) → w ≡ back_view b v → IsFit v → IsFit w
fit-back v w b is fit = subst IsFit (sym is) (record {
  sizes = fit.sizes;
  range = fit.range;
  some = fit.some;
  calm = fit.calm;
  home = fit.home;
  once = fit.once;
  no_worker = fit.no_worker;
})
