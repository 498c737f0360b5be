-- The free blocks, each counted, as one is taken or freed.
use Rattle.std.proofs.Common.{◌≡◌, ◌+◌, ◌==◌, ◌++◌, ◌∷◌, [], inl, inr, ℕ, List, length, ap, arith, length-append}
use Rattle.sv_super.specs.Calls.{Frees, FreesBlock, Takes}
use Rattle.sv_super.specs.Core.{Core, free_of, free_times, left_of}
use Rattle.sv_super.specs.Count.{one_if, times}
use Rattle.sv_super.proofs.Counts.{times-cons, times-snoc}

pub takes-left : {S : Type 0} {old new : Core S} {b : ℕ} → Takes old new b → left_of new + 1 ≡ left_of old
takes-left {S} {old} {new} {b} (inl takes) =
    let e = ap length takes.chain in
    let f = ap length takes.aside in
    let l : length (new.aside ++ b ∷ []) ≡ length new.aside + 1 = length-append new.aside (b ∷ []) in
    omega arith
takes-left {S} {old} {new} {b} (inr takes) =
    let e = ap length takes.chain in
    let f = ap length takes.aside in
    let n = ap length takes.none in
    omega arith

pub takes-each : {S : Type 0} {old new : Core S} {b : ℕ} → Takes old new b → (c : ℕ) → free_of old c ≡ one_if (b == c) + free_of new c
takes-each {S} {old} {new} {b} (inl takes) c =
    let e = ap (times c) takes.chain in
    let f = ap (times c) takes.aside in
    let one = times-snoc c b new.aside in
    omega (arith, e, f, one)
takes-each {S} {old} {new} {b} (inr takes) c =
    let e = ap (times c) takes.chain in
    let f = ap (times c) takes.aside in
    let n = ap (times c) takes.none in
    let one = times-cons c b new.chain in
    omega (arith, e, f, n, one)

-- the first of the chain is taken
pub chained-each : {chain chain' aside aside' : List ℕ} (b : ℕ) → chain ≡ b ∷ chain' → aside' ≡ aside → (c : ℕ) → free_times chain aside c ≡ one_if (b == c) + free_times chain' aside' c
chained-each {chain} {chain'} {aside} {aside'} b first same c =
    let e = ap (times c) first in
    let f = ap (times c) same in
    let one = times-cons c b chain' in
    omega (arith, e, f, one)

pub frees-left : {S : Type 0} {old new : Core S} {before now b : ℕ} → Frees before now old new b → left_of new ≡ left_of old + 1
frees-left {S} {old} {new} {before} {now} {b} (inl chains) =
    let e = ap length chains.chain in
    let f = ap length chains.aside in
    omega arith
frees-left {S} {old} {new} {before} {now} {b} (inr sets) =
    let e = ap length sets.chain in
    let f = ap length sets.aside in
    let l : length (old.aside ++ b ∷ []) ≡ length old.aside + 1 = length-append old.aside (b ∷ []) in
    omega arith

frees-each : {S : Type 0} {old new : Core S} {before now b : ℕ} → Frees before now old new b → (c : ℕ) → free_of new c ≡ one_if (b == c) + free_of old c
frees-each {S} {old} {new} {before} {now} {b} (inl chains) c =
    let e = ap (times c) chains.chain in
    let f = ap (times c) chains.aside in
    let one = times-cons c b old.chain in
    omega (arith, e, f, one)
frees-each {S} {old} {new} {before} {now} {b} (inr sets) c =
    let e = ap (times c) sets.chain in
    let f = ap (times c) sets.aside in
    let one = times-snoc c b old.aside in
    omega (arith, e, f, one)

pub frees-block : {S : Type 0} {old new : Core S} {before now b : ℕ} → Frees before now old new b → FreesBlock (free_of old) (free_of new) (left_of old) (left_of new) b
frees-block frees = record { each = frees-each frees; count = frees-left frees }
