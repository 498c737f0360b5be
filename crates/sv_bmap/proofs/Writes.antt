-- Writes to a block of which all lines are held.
use Rattle.std.proofs.Common.{◌≡◌, ◌≢◌, ◌<◌, ◌≤◌, ◌+◌, ◌*◌, ℕ, Bool, true, false, List, get_or, Option, Some, None}
use Rattle.std.proofs.Common.{IsSome, option_map, nat_lt, refl, ap, ◌∙◌, subst, arith, ◌/◌, ◌%◌, unwrap_or, [], IfSome}
use Rattle.std.proofs.lemmas.Bool.Decides.{nat_tests}
use Rattle.sv_form.specs.Number.{ChangesOnly}
use Rattle.sv_store.specs.Held.{Held, Origin, HoldsBlock, line_of, put}
use Rattle.sv_store.specs.Calls.{Gets}
use Rattle.sv_store.specs.Loan.{Loan}
use Rattle.sv_store.proofs.Holding.{put-at, put-line}
use Rattle.sv_store.proofs.Lines.{line_of-same}
use Rattle.sv_store.proofs.Puts.{put-put}
use Rattle.sv_form.specs.Number.{number32}
use Rattle.sv_bmap.specs.Tree.{number_in}
use Rattle.sv_bmap.specs.Writes.{PutsNumber, SetsNumber}
use Rattle.sv_bmap.proofs.Paths.{number-line, number-got}

-- an indirect block that was made anew
pub made-anew : {h h1 h2 : Held} {b c k x : ℕ} {bytes zeros : List ℕ} → PutsNumber h1 h2 c bytes k x → c ≡ b → bytes ≡ zeros → (z : List ℕ)
    → h1 ≡ put b z h → PutsNumber h h2 b zeros k x
made-anew {h} {h1} {h2} {b} {c} {k} {x} {bytes} {zeros} puts e f z made = record {
  bytes = puts.bytes;
  puts = puts.puts ∙ (ap (λ q. put q puts.bytes h1) e ∙ (ap (put b puts.bytes) made ∙ put-put b puts.bytes z h));
  number = puts.number;
  others = (let P : List ℕ → Type 0 = λ q. ChangesOnly q puts.bytes (k * 4) (k * 4 + 4) in subst P f puts.others);
}

pub put-anew : (h : Held) {h1 h2 : Held} {b c : ℕ} {bytes : List ℕ} (new z : List ℕ) → h2 ≡ put c new h1 → c ≡ b → new ≡ bytes
    → h1 ≡ put b z h → h2 ≡ put b bytes h
put-anew h {h1} {h2} {b} {c} {bytes} new z puts e f made =
    puts ∙ (ap (λ q. put q new h1) e ∙ (ap (λ q. put b q h1) f ∙ (ap (put b bytes) made ∙ put-put b bytes z h)))

-- ---- one number of a block that was read

pub other-number : (was bytes : List ℕ) (k j : ℕ) → ChangesOnly was bytes (k * 4) (k * 4 + 4) → j ≢ k
    → number32 bytes (j * 4) ≡ number32 was (j * 4)
other-number was bytes k j others apart =
    four _ _ _ _ _ _ _ _ (byte (j * 4) (omega arith) (omega arith)) (byte (j * 4 + 1) (omega arith) (omega arith))
    (byte (j * 4 + 2) (omega arith) (omega arith)) (byte (j * 4 + 2 + 1) (omega arith) (omega arith))
  where
    byte : (m : ℕ) → j * 4 ≤ m → m < j * 4 + 4 → get_or bytes m 0 ≡ get_or was m 0
    byte m low high = by (nat_lt m (k * 4)) refl
      where
        yes : (a b : ℕ) → nat_lt a b ≡ true → a < b
        yes a b h = grind (nat_tests, arith)

        no : (a b : ℕ) → nat_lt a b ≡ false → b ≤ a
        no a b h = grind (nat_tests, arith)

        by : (t : Bool) → nat_lt m (k * 4) ≡ t → get_or bytes m 0 ≡ get_or was m 0
        by true e = others.before m (yes m (k * 4) e)
        by false e = (let past : k * 4 ≤ m = no m (k * 4) e in let over : k * 4 + 4 ≤ m = grind arith in others.after m over)

    four : (a b c d e f g h : ℕ) → a ≡ e → b ≡ f → c ≡ g → d ≡ h → a + 256 * b + 65536 * (c + 256 * d) ≡ e + 256 * f + 65536 * (g + 256 * h)
    four a b c d e f g h p q r s = cc

other-line : (was bytes : List ℕ) (k l : ℕ) → ChangesOnly was bytes (k * 4) (k * 4 + 4) → l ≢ k / 16 → line_of bytes l ≡ line_of was l
other-line was bytes k l others apart = line_of-same bytes was l others.len byte
  where
    yes : (a b : ℕ) → nat_lt a b ≡ true → a < b
    yes a b h = grind (nat_tests, arith)

    no : (a b : ℕ) → nat_lt a b ≡ false → b ≤ a
    no a b h = grind (nat_tests, arith)

    over : (m : ℕ) → m < 64 → k * 4 ≤ l * 64 + m → k * 4 + 4 ≤ l * 64 + m
    over m low past =
        let whole : k ≡ k / 16 * 16 + k % 16 = omega arith in
        let far : k / 16 < l = omega arith in
        omega arith

    byte : (m : ℕ) → m < 64 → get_or bytes (l * 64 + m) 0 ≡ get_or was (l * 64 + m) 0
    byte m low = by (nat_lt (l * 64 + m) (k * 4)) refl
      where
        by : (t : Bool) → nat_lt (l * 64 + m) (k * 4) ≡ t → get_or bytes (l * 64 + m) 0 ≡ get_or was (l * 64 + m) 0
        by true e = others.before (l * 64 + m) (yes (l * 64 + m) (k * 4) e)
        by false e = others.after (l * 64 + m) (over m low (no (l * 64 + m) (k * 4) e))

-- a number of a block that was put
pub number-put : (b : ℕ) (bytes : List ℕ) (h h' : Held) (j : ℕ) → h' ≡ put b bytes h → IsSome (h b (j / 16))
    → number_in h' b j ≡ number32 bytes (j * 4)
unfolding number_in
number-put b bytes h h' j puts is =
    ap (λ q. number32 (unwrap_or (q b (j / 16)) []) (j % 16 * 4)) puts
    ∙ (ap (λ q. number32 (unwrap_or q []) (j % 16 * 4)) (put-line b bytes h (j / 16) is) ∙ number-line bytes j)

pub sets-number : {o : Origin} {h h1 h2 : Held} {b k x : ℕ} {buf : Loan} → Gets o h b buf → h1 ≡ h
    → PutsNumber h1 h2 buf.block buf.bytes k x → HoldsBlock o h b → (n : ℕ) → n * 4 ≤ o.sizes.block_size → k < n → SetsNumber n h h2 b k x
sets-number {o} {h} {h1} {h2} {b} {k} {x} {buf} gets same puts holds n size low = record {
  bytes = puts.bytes;
  puts = now;
  here = number-put b puts.bytes h h2 k now (line k low) ∙ puts.number;
  siblings = λ j below apart. number-put b puts.bytes h h2 j now (line j below)
      ∙ (other-number buf.bytes puts.bytes k j puts.others apart ∙ number-got gets j (line j below));
  neighbours = λ l apart. ap (λ q. q b l) now
      ∙ (put-at b puts.bytes h l
      ∙ (ap (λ q. option_map (λ _. q) (h b l)) (other-line buf.bytes puts.bytes k l puts.others apart) ∙ kept l (h b l) (gets.lines l)));
}
  where
    now : h2 ≡ put b puts.bytes h
    now = puts.puts ∙ (ap (λ q. put q puts.bytes h1) gets.block ∙ ap (put b puts.bytes) same)

    line : (j : ℕ) → j < n → IsSome (h b (j / 16))
    line j below = holds.at (j / 16) (omega (arith, below, size))

    kept : (l : ℕ) (p : Option (List ℕ)) → IfSome p (λ y. line_of buf.bytes l ≡ y) → option_map (λ _. line_of buf.bytes l) p ≡ p
    kept l None e = refl
    kept l (Some y) e = ap (λ q. Some q) e
