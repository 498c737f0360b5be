-- Why a call of a stake, or one that works on stakes, is refused: a transfer failed, and the stake has counted it; or there was
-- no memory.
use Rattle.std.specs.Prelude.{◌≡◌, ◌≤◌, ℕ, Result, IfErr, IsErrOf}
use Rattle.sv_dev.specs.Causes.{Rose}
use Rattle.sv_store.specs.declared.refusal.Refusal.{Refusal}
use Rattle.sv_store.specs.declared.refusal.Refusal.TheVariants.{Fault}

-- a call that takes no memory: the count did not fall; a refusal is a fault, and the count rose
pub record HasFault {T : Type 0} (before now : ℕ) (result : Result T Refusal) : Type 0 where
  pub no_less : before ≤ now
  pub rose : IfErr result (λ refusal. (refusal ≡ Fault) × Rose before now)

-- a call that takes memory: the count did not fall, and a fault is answered only where it rose; want of memory needs no cause
pub record HasReason {T : Type 0} (before now : ℕ) (result : Result T Refusal) : Type 0 where
  pub no_less : before ≤ now
  pub rose : IsErrOf result Fault → Rose before now
