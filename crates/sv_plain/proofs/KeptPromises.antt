-- What is kept beside the maps stays true as promises change.
use Rattle.std.proofs.Common.{◌≡◌, ◌≤◌, ℕ, ◌+◌, ◌-◌, Some, None, sym, refl, ap, ◌∙◌, arith}
use Rattle.std.specs.Cmp.{nat_cmp_total}
use Rattle.std.specs.FinMap as map
use Rattle.std.specs.FinMap.{nat_cmp-IsAntisymmetric}
use Rattle.sv_plain.specs.declared.fs.Fs.TheInside.{Inside}
use Rattle.sv_plain.specs.Totals.{at_or_0}
use Rattle.sv_plain.specs.Fs.{promised}
use Rattle.sv_plain.specs.Keeping.{IsKept}
use Rattle.sv_plain.proofs.Totals.{total-insert, total-remove}

promised-insert : (a : Inside) (p n : ℕ) → promised (map.insert a.promises p n) + at_or_0 (λ m. m) (map.get a.promises p) ≡ promised a.promises + n
unfolding promised
promised-insert a p n = total-insert nat_cmp_total nat_cmp-IsAntisymmetric (λ (_ m : ℕ). m) a.promises p n

promised-remove : (a : Inside) (p : ℕ) → promised (map.remove a.promises p) + at_or_0 (λ m. m) (map.get a.promises p) ≡ promised a.promises
unfolding promised
promised-remove a p = total-remove nat_cmp_total nat_cmp-IsAntisymmetric (λ (_ m : ℕ). m) a.promises p

module _ (a : Inside) (p : ℕ) (k : IsKept a) where
  -- no promise is over the sum of all
  pub promise-within : at_or_0 (λ m. m) (map.get a.promises p) ≤ a.promised
  promise-within = omega (arith, promised-remove a p, k.promised)

  pub kept-promise : (n : ℕ) → IsKept (record a { promises = map.insert a.promises p n; promised = a.promised - at_or_0 (λ m. m) (map.get a.promises p) + n })
  kept-promise n = record {
    sized = k.sized;
    blocks = k.blocks;
    used = k.used;
    promised = omega (arith, promised-insert a p n, promised-remove a p, k.promised);
    taken = k.taken;
    held = k.held;
  }

  pub kept-forgone : IsKept (record a { promises = map.remove a.promises p; promised = a.promised - at_or_0 (λ m. m) (map.get a.promises p) })
  kept-forgone = record {
    sized = k.sized;
    blocks = k.blocks;
    used = k.used;
    promised = omega (arith, promised-remove a p, k.promised);
    taken = k.taken;
    held = k.held;
  }
