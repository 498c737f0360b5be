-- What a holder of a stake can count on, over plain functions.
use Rattle.std.proofs.Common.{◌≡◌, ◌==◌, ℕ, Bool, true, false, cond, List, length, Option, Some, None, IsSome, IfSome, is_some, option_map, refl, sym, ap, ◌∙◌, subst, rules, ◌≢◌, ◌<◌, ◌≤◌, ◌+◌, ◌&&◌, ◌||◌, [], ◌∷◌, nat_le, nat_lt, arith}
use Rattle.std.proofs.Math.Path.{fun_ext}
use Rattle.std.proofs.lemmas.Bool.{false≢true, eqb-true}
use Rattle.std.proofs.lemmas.Bool.Decides.{nat_tests}
use Rattle.sv_form.specs.declared.owners.LineRange.{LineRange}
use Rattle.sv_store.specs.Held.{Held, Lent, Origin, SameLines, Apart, Both, line_of, put, with, without, covers, in_ranges, chosen, rest}
use Rattle.sv_store.specs.Calls.{CanGet, Gets, CanReturn, CanPut, CanPart, Parts}
use Rattle.sv_store.specs.Loan.{Loan}

pub eqb_same : (b : ℕ) → (b == b) ≡ true
eqb_same b = search rules

pub put-at : (b : ℕ) (bytes : List ℕ) (h : Held) (l : ℕ) → put b bytes h b l ≡ option_map (λ _. line_of bytes l) (h b l)
unfolding put
put-at b bytes h l = ap (λ q. cond q (option_map (λ _. line_of bytes l) (h b l)) (h b l)) (eqb_same b)

pub put-other : (b : ℕ) (bytes : List ℕ) (h : Held) (c l : ℕ) → (c == b) ≡ false → put b bytes h c l ≡ h c l
unfolding put
put-other b bytes h c l other = ap (λ q. cond q (option_map (λ _. line_of bytes l) (h c l)) (h c l)) other

pub with-at : (b : ℕ) (bytes : List ℕ) (m : Lent) → with b bytes m b ≡ Some bytes
unfolding with
with-at b bytes m = ap (λ q. cond q (Some bytes) (m b)) (eqb_same b)

pub without-at : (b : ℕ) (m : Lent) → without b m b ≡ None
unfolding without
without-at b m = ap (λ q. cond q None (m b)) (eqb_same b)

-- what was lent and comes back is as it was before
pub without-with : (b : ℕ) (bytes : List ℕ) (m : Lent) → m b ≡ None → without b (with b bytes m) ≡ m
unfolding without with
without-with b bytes m away = fun_ext (λ c. at c (c == b) refl)
  where
    at : (c : ℕ) (t : Bool) → (c == b) ≡ t → cond t None (cond t (Some bytes) (m c)) ≡ m c
    at c true e = sym (ap m (search rules) ∙ away)
    at c false e = refl

-- a held line is the one that was put
pub put-line : (b : ℕ) (bytes : List ℕ) (h : Held) (l : ℕ) → IsSome (h b l) → put b bytes h b l ≡ Some (line_of bytes l)
put-line b bytes h l is = put-at b bytes h l ∙ mapped (h b l) is
  where
    mapped : (o : Option (List ℕ)) → IsSome o → option_map (λ _. line_of bytes l) o ≡ Some (line_of bytes l)
    mapped None is = absurd (false≢true is)
    mapped (Some x) is = refl

-- putting keeps which lines are held
pub is_some-put : (b : ℕ) (bytes : List ℕ) (h : Held) (c l : ℕ) → is_some (put b bytes h c l) ≡ is_some (h c l)
unfolding put
is_some-put b bytes h c l = at (c == b) (h c l)
  where
    at : (t : Bool) (o : Option (List ℕ)) → is_some (cond t (option_map (λ _. line_of bytes l) o) o) ≡ is_some o
    at true None = refl
    at true (Some x) = refl
    at false o = refl

pub IsSome-same : (o p : Option (List ℕ)) → is_some o ≡ is_some p → IsSome o → IsSome p
IsSome-same o p e is = sym e ∙ is

pub SameLines-put : (b : ℕ) (bytes : List ℕ) (h : Held) → SameLines (put b bytes h) h
SameLines-put b bytes h = record { at = is_some-put b bytes h }

-- a block that was got can be put back with other bytes, where the lines that are not held stay
pub CanPut-got : {o : Origin} {h : Held} {b : ℕ} {buf : Loan} → Gets o h b buf → (h' : Held) (m m' : Lent) → h' ≡ h → m' ≡ with b buf.bytes m → (bytes : List ℕ) → length bytes ≡ length buf.bytes → ((l : ℕ) → h b l ≡ None → line_of bytes l ≡ line_of buf.bytes l) → CanPut h' m' (record { block = buf.block; bytes = bytes })
CanPut-got {o} {h} {b} {buf} gets h' m m' same lends bytes size others = record {
  was = buf.bytes;
  from = ap (λ q. q buf.block) lends ∙ (ap (with b buf.bytes m) gets.block ∙ with-at b buf.bytes m);
  size = size;
  others = λ l none. others l (ap (λ q. q b l) (sym same) ∙ (ap (λ q. h' q l) (sym gets.block) ∙ none));
}

-- a block that was got can be given back as it is
pub CanReturn-got : {o : Origin} {h : Held} {b : ℕ} {buf : Loan} → Gets o h b buf → (m m' : Lent) → m' ≡ with b buf.bytes m → CanReturn m' buf
CanReturn-got {o} {h} {b} {buf} gets m m' lends =
    ap (λ q. q buf.block) lends ∙ (ap (with b buf.bytes m) gets.block ∙ with-at b buf.bytes m)

-- a block that was put back can be got again
pub CanGet-put : {h : Held} {m : Lent} {b : ℕ} → CanGet h m b → (c : ℕ) → c ≡ b → (bytes : List ℕ) (h' : Held) → h' ≡ put c bytes h → (m2 m' : Lent) → m' ≡ without c m2 → CanGet h' m' b
CanGet-put {h} {m} {b} can c same bytes h' puts m2 m' lends = record {
  some = (can.some.0, sym (ap (λ q. is_some (q b can.some.0)) (sym puts)) ∙ (is_some-put c bytes h b can.some.0 ∙ can.some.1));
  away = ap (λ q. q b) lends ∙ (ap (λ q. without q m2 b) same ∙ without-at b m2);
}

-- what was put is what is got next
pub put-got : {o : Origin} {h' : Held} {b : ℕ} {buf : Loan} → Gets o h' b buf → (c : ℕ) → c ≡ b → (bytes : List ℕ) (h : Held) → h' ≡ put c bytes h → (l : ℕ) → IsSome (h b l) → line_of buf.bytes l ≡ line_of bytes l
put-got {o} {h'} {b} {buf} gets c same bytes h puts l is =
    let now : h' b l ≡ Some (line_of bytes l) = ap (λ q. q b l) puts ∙ (ap (λ q. put q bytes h b l) same ∙ put-line b bytes h l is) in
    let P : Option (List ℕ) → Type 0 = λ q. IfSome q (λ x. line_of buf.bytes l ≡ x) in
    subst P now (gets.lines l)

pub none_from : (o : Option (List ℕ)) → is_some o ≡ false → o ≡ None
none_from None e = refl
none_from (Some x) e = absurd (false≢true (sym e))

pub SameLines-trans : {h k j : Held} → SameLines h k → SameLines k j → SameLines h j
SameLines-trans one two = record { at = λ b l. one.at b l ∙ two.at b l }

pub SameLines-eq : (h k : Held) → h ≡ k → SameLines h k
SameLines-eq h k e = record { at = λ b l. ap (λ q. is_some (q b l)) e }

-- a line is on one side of the cut alone
pub is_some-rest : (lines : List LineRange) (h : Held) (b l : ℕ) (t : Bool) → in_ranges lines b l ≡ t → is_some (rest lines h b l) ≡ cond t false (is_some (h b l))
unfolding rest
is_some-rest lines h b l true e = ap (λ q. is_some (cond q None (h b l))) e
is_some-rest lines h b l false e = ap (λ q. is_some (cond q None (h b l))) e

pub is_some-chosen : (lines : List LineRange) (h : Held) (b l : ℕ) (t : Bool) → in_ranges lines b l ≡ t → is_some (chosen lines h b l) ≡ cond t (is_some (h b l)) false
unfolding chosen
is_some-chosen lines h b l true e = ap (λ q. is_some (cond q (h b l) None)) e
is_some-chosen lines h b l false e = ap (λ q. is_some (cond q (h b l) None)) e

pub is_some-Both : (h k : Held) (b l : ℕ) → is_some (Both h k b l) ≡ cond (is_some (h b l)) true (is_some (k b l))
unfolding Both
is_some-Both h k b l = at (h b l)
  where
    at : (o : Option (List ℕ)) → is_some (cond (is_some o) o (k b l)) ≡ cond (is_some o) true (is_some (k b l))
    at None = refl
    at (Some x) = refl

-- the two sides of a cut hold no line in common, whatever was written since
pub Apart-Parts : {h : Held} {lines : List LineRange} {mine theirs mine' theirs' : Held} → Parts h lines mine theirs → SameLines mine' mine → SameLines theirs' theirs → Apart mine' theirs'
Apart-Parts {h} {lines} {mine} {theirs} {mine'} {theirs'} parts one two = record { at = λ b l. by b l (in_ranges lines b l) refl }
  where
    by : (b l : ℕ) (t : Bool) → in_ranges lines b l ≡ t → IsSome (mine' b l) → theirs' b l ≡ None
    by b l true e is =
        absurd (false≢true (sym (is_some-rest lines h b l true e) ∙ (sym (ap (λ q. is_some (q b l)) parts.kept) ∙ (sym (one.at b l) ∙ is))))
    by b l false e is =
        none_from (theirs' b l) (two.at b l ∙ (ap (λ q. is_some (q b l)) parts.given ∙ is_some-chosen lines h b l false e))

-- a cut that is undone has the lines that were there before it
pub SameLines-merged : {h : Held} {lines : List LineRange} {mine theirs mine' theirs' : Held} → Parts h lines mine theirs → SameLines mine' mine → SameLines theirs' theirs → SameLines (Both mine' theirs') h
SameLines-merged {h} {lines} {mine} {theirs} {mine'} {theirs'} parts one two = record { at = λ b l. by b l (in_ranges lines b l) refl }
  where
    left : (b l : ℕ) (t : Bool) → in_ranges lines b l ≡ t → is_some (mine' b l) ≡ cond t false (is_some (h b l))
    left b l t e = one.at b l ∙ (ap (λ q. is_some (q b l)) parts.kept ∙ is_some-rest lines h b l t e)

    right : (b l : ℕ) (t : Bool) → in_ranges lines b l ≡ t → is_some (theirs' b l) ≡ cond t (is_some (h b l)) false
    right b l t e = two.at b l ∙ (ap (λ q. is_some (q b l)) parts.given ∙ is_some-chosen lines h b l t e)

    same : (s : Bool) → cond s true false ≡ s
    same true = refl
    same false = refl

    by : (b l : ℕ) (t : Bool) → in_ranges lines b l ≡ t → is_some (Both mine' theirs' b l) ≡ is_some (h b l)
    by b l true e =
        is_some-Both mine' theirs' b l ∙ (ap (λ q. cond q true (is_some (theirs' b l))) (left b l true e) ∙ right b l true e)
    by b l false e =
        is_some-Both mine' theirs' b l ∙ (ap (λ q. cond q true (is_some (theirs' b l))) (left b l false e) ∙ (ap (cond (is_some (h b l)) true) (right b l false e) ∙ same (is_some (h b l))))

-- a line that stays, and one that goes
pub IsSome-kept : {h : Held} {lines : List LineRange} {mine theirs : Held} → Parts h lines mine theirs → (b l : ℕ) → in_ranges lines b l ≡ false → IsSome (h b l) → IsSome (mine b l)
IsSome-kept {h} {lines} {mine} {theirs} parts b l e is = ap (λ q. is_some (q b l)) parts.kept ∙ (is_some-rest lines h b l false e ∙ is)

pub IsSome-given : {h : Held} {lines : List LineRange} {mine theirs : Held} → Parts h lines mine theirs → (b l : ℕ) → in_ranges lines b l ≡ true → IsSome (h b l) → IsSome (theirs b l)
IsSome-given {h} {lines} {mine} {theirs} parts b l e is = ap (λ q. is_some (q b l)) parts.given ∙ (is_some-chosen lines h b l true e ∙ is)

or-false : (t : Bool) → (t || false) ≡ t
or-false true = refl
or-false false = refl

and-true : (a b : Bool) → (a && b) ≡ true → (a ≡ true) × (b ≡ true)
and-true true b h = (refl, h)
and-true false b h = absurd (false≢true h)

-- what it is to stand in a range
pub covers-means : (b l : ℕ) (r : LineRange) → covers b l r ≡ true → (r.block ≡ b) × (r.first ≤ l) × (l < r.first + r.count)
unfolding covers
covers-means b l r h =
    let one = and-true (r.block == b) (nat_le r.first l && nat_lt l (r.first + r.count)) h in
    let two = and-true (nat_le r.first l) (nat_lt l (r.first + r.count)) one.1 in
    (eqb-true r.block b one.0, low r.first l two.0, high l (r.first + r.count) two.1)
  where
    low : (a b : ℕ) → nat_le a b ≡ true → a ≤ b
    low a b h = grind (nat_tests, arith)

    high : (a b : ℕ) → nat_lt a b ≡ true → a < b
    high a b h = grind (nat_tests, arith)

pub covers-in : (r : LineRange) (l : ℕ) → r.first ≤ l → l < r.first + r.count → covers r.block l r ≡ true
unfolding covers
covers-in r l from to =
    ap (λ q. q && (nat_le r.first l && nat_lt l (r.first + r.count))) (eqb_same r.block) ∙ (ap (λ q. q && nat_lt l (r.first + r.count)) (low r.first l from) ∙ high l (r.first + r.count) to)
  where
    low : (a b : ℕ) → a ≤ b → nat_le a b ≡ true
    low a b h = grind (nat_tests, arith)

    high : (a b : ℕ) → a < b → nat_lt a b ≡ true
    high a b h = grind (nat_tests, arith)

pub in_range-first : (r : LineRange) → 0 < r.count → in_ranges (r ∷ []) r.block r.first ≡ true
unfolding covers
in_range-first r some =
    or-false ((r.block == r.block) && (nat_le r.first r.first && nat_lt r.first (r.first + r.count)))
    ∙ (ap (λ q. q && (nat_le r.first r.first && nat_lt r.first (r.first + r.count))) (eqb_same r.block) ∙ (ap (λ q. q && nat_lt r.first (r.first + r.count)) (low r.first) ∙ high r.first (r.first + r.count) (omega arith)))
  where
    low : (a : ℕ) → nat_le a a ≡ true
    low a = grind (nat_tests, arith)

    high : (a b : ℕ) → a < b → nat_lt a b ≡ true
    high a b h = grind (nat_tests, arith)

pub in_range-other : (r : LineRange) (b l : ℕ) → r.block ≢ b → in_ranges (r ∷ []) b l ≡ false
unfolding covers
in_range-other r b l other =
    or-false ((r.block == b) && (nat_le r.first l && nat_lt l (r.first + r.count)))
    ∙ ap (λ q. q && (nat_le r.first l && nat_lt l (r.first + r.count))) (apart r.block b other)
  where
    apart : (a b : ℕ) → a ≢ b → (a == b) ≡ false
    apart a b h = grind (nat_tests, arith)

-- one range can be parted from a stake that holds a line of another block besides
pub CanPart-range : (h : Held) (m : Lent) (r : LineRange) → ((l : ℕ) → r.first ≤ l → l < r.first + r.count → IsSome (h r.block l)) → m r.block ≡ None → 0 < r.count → (b l : ℕ) → IsSome (h b l) → r.block ≢ b → CanPart h m (r ∷ [])
CanPart-range h m r holds away some b l more other = record {
  within = λ c k e. (let means = covers-means c k r (sym (or-false (covers c k r)) ∙ e) in ap (λ q. is_some (h q k)) (sym means.0) ∙ holds k means.1 means.2);
  away = λ c k e. ap m (sym (covers-means c k r (sym (or-false (covers c k r)) ∙ e)).0) ∙ away;
  once = λ c k. one (covers c k r);
  some = (r.block, (r.first, in_range-first r some));
  more = (b, (l, (more, in_range-other r b l other)));
}
  where
    one : (t : Bool) → 0 + cond t 1 0 ≤ 1
    one true = omega arith
    one false = omega arith
