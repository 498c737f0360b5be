-- Puts to a block that was lent, of which all lines are held or none changes.
use Rattle.std.proofs.Common.{◌≡◌, ◌<◌, ◌≤◌, ◌+◌, ◌*◌, ◌==◌, ℕ, Bool, true, false, cond, List, length, Option, Some, None, IsSome, is_some, option_map, nat_lt, refl, sym, ap, ◌∙◌, subst, arith}
use Rattle.std.specs.List.{refill}
use Rattle.std.proofs.Math.Path.{fun_ext}
use Rattle.std.proofs.lemmas.Bool.{false≢true}
use Rattle.std.proofs.lemmas.Bool.Decides.{nat_tests}
use Rattle.std.proofs.lemmas.List.{get_or_past}
use Rattle.sv_store.specs.Held.{Held, Lent, Origin, HoldsBlock, line_of, nothing_lent, put, with, without}
use Rattle.sv_store.specs.Calls.{CanPut}
use Rattle.sv_store.specs.Loan.{Loan}
use Rattle.sv_store.proofs.Holding.{is_some-put, with-at, without-with}
use Rattle.sv_store.proofs.Lines.{line_of-same, refill_whole}

-- the later of two puts to one block stays
pub put-put : (b : ℕ) (xs ys : List ℕ) (h : Held) → put b xs (put b ys h) ≡ put b xs h
unfolding put
put-put b xs ys h = fun_ext (λ c. fun_ext (λ l. at (c == b) (h c l) l))
  where
    twice : (o : Option (List ℕ)) (l : ℕ) → option_map (λ _. line_of xs l) (option_map (λ _. line_of ys l) o) ≡ option_map (λ _. line_of xs l) o
    twice None l = refl
    twice (Some x) l = refl

    at : (t : Bool) (o : Option (List ℕ)) (l : ℕ) → cond t (option_map (λ _. line_of xs l) (cond t (option_map (λ _. line_of ys l) o) o)) (cond t (option_map (λ _. line_of ys l) o) o) ≡ cond t (option_map (λ _. line_of xs l) o) o
    at true o l = twice o l
    at false o l = refl

-- what is lent whole can be put back with any bytes
pub CanPut-whole : {o : Origin} {h : Held} {m : Lent} (buf : Loan) (was : List ℕ) → HoldsBlock o h buf.block → m buf.block ≡ Some was → length was ≡ o.sizes.block_size → length buf.bytes ≡ length was → CanPut h m buf
CanPut-whole {o} {h} {m} buf was holds lent size same = record {
  was = was;
  from = lent;
  size = same;
  others = λ l none. by l none (nat_lt (l * 64) o.sizes.block_size) refl;
}
  where
    yes : (a b : ℕ) → nat_lt a b ≡ true → a < b
    yes a b h = grind (nat_tests, arith)

    no : (a b : ℕ) → nat_lt a b ≡ false → b ≤ a
    no a b h = grind (nat_tests, arith)

    by : (l : ℕ) → h buf.block l ≡ None → (t : Bool) → nat_lt (l * 64) o.sizes.block_size ≡ t → line_of buf.bytes l ≡ line_of was l
    by l none true e = absurd (false≢true (sym (ap is_some none) ∙ holds.at l (yes (l * 64) o.sizes.block_size e)))
    by l none false e =
        line_of-same buf.bytes was l same (λ k below.
        let past : o.sizes.block_size ≤ l * 64 = no (l * 64) o.sizes.block_size e in
        get_or_past buf.bytes (l * 64 + k) 0 (omega (arith, past, size, same)) ∙ sym (get_or_past was (l * 64 + k) 0 (omega (arith, past, size))))

pub holds-put : {o o' : Origin} {h h' : Held} {b b' : ℕ} (c : ℕ) (bytes : List ℕ) → o' ≡ o → h' ≡ put c bytes h → b' ≡ b → HoldsBlock o h b → HoldsBlock o' h' b'
holds-put {o} {o'} {h} {h'} {b} {b'} c bytes p q e holds = record {
  at = λ l low.
      ap (λ x. is_some (x b' l)) q ∙ (ap (λ x. is_some (put c bytes h x l)) e ∙ (is_some-put c bytes h b l ∙ holds.at l (let P : Origin → Type 0 = λ x. l * 64 < x.sizes.block_size in subst P p low)));
}

pub lent-at : {m : Lent} {b : ℕ} {bytes : List ℕ} (m0 : Lent) → m ≡ with b bytes m0 → m b ≡ Some bytes
lent-at {m} {b} {bytes} m0 e = ap (λ q. q b) e ∙ with-at b bytes m0

pub lent-with : {m m0 : Lent} {b c : ℕ} (bytes : List ℕ) → m ≡ with b bytes m0 → m0 ≡ nothing_lent → c ≡ b → m ≡ with c bytes nothing_lent
lent-with {m} {m0} {b} {c} bytes p q e = p ∙ (ap (with b bytes) q ∙ ap (λ x. with x bytes nothing_lent) (sym e))

pub back : {m m' : Lent} {b c : ℕ} (bytes : List ℕ) → m ≡ with b bytes nothing_lent → c ≡ b → m' ≡ without c m → m' ≡ nothing_lent
back {m} {m'} {b} {c} bytes lends e returns = returns ∙ (ap (λ q. without q m) e ∙ (ap (without b) lends ∙ without-with b bytes nothing_lent refl))

pub refilled : (old new xs : List ℕ) → xs ≡ old → length new ≡ length xs → refill (length old) old new ≡ new
refilled old new xs e same = refill_whole old new (same ∙ ap length e)

-- what was lent and comes back is as it was before
pub returned : {m m' m'' : Lent} {b c : ℕ} (bytes : List ℕ) → m' ≡ with b bytes m → c ≡ b → m b ≡ None → m'' ≡ without c m' → m'' ≡ m
returned {m} {m'} {m''} {b} {c} bytes lends e away returns =
    returns ∙ (ap (λ q. without q m') e ∙ (ap (without b) lends ∙ without-with b bytes m away))
