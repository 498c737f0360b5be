-- One byte of what is held, as it is got and put.
use Rattle.std.proofs.Common.{◌≡◌, ◌≢◌, ◌<◌, ◌≤◌, ◌⊎◌, ◌*◌, ◌+◌, ◌-◌, ◌/◌, ◌%◌, ◌==◌, ◌&&◌, ℕ, min, Bool, true, false, cond, nat_lt, List, [], length, get_or, set, slice_index, unwrap_or, inl, inr, Option, Some, None, IsSome, IfSome, is_some, Result, Ok, Err, IfErr, IsErrOf, OnOk, OnErr, ◌^◌, option_map, refl, sym, ap, ◌∙◌, subst, arith}
use Rattle.std.proofs.Math.Path.{fun_ext}
use Rattle.std.proofs.lemmas.Bool.{false≢true, eqb-true}
use Rattle.std.proofs.lemmas.Bool.Decides.{nat_tests}
use Rattle.std.proofs.lemmas.List.{get_or-set_other, get_or-set_same, same_lists, length-set, places}
use Rattle.sv_dev.specs.Causes.{Rose, counted, last_count}
use Rattle.sv_form.specs.declared.owners.LineRange.{LineRange}
use Rattle.sv_store.specs.Bytes.{byte_in, with_byte}
use Rattle.sv_store.specs.Held.{Held, Origin, Both, chosen, rest, in_ranges, line_of, put}
use Rattle.sv_store.specs.Calls.{Gets, Parts}
use Rattle.sv_store.specs.Causes.{HasReason}
use Rattle.sv_store.specs.declared.refusal.Refusal.{Refusal}
use Rattle.sv_store.specs.declared.refusal.Refusal.TheVariants.{Fault}
use Rattle.sv_store.specs.Loan.{Loan}
use Rattle.sv_store.proofs.Holding.{is_some-rest, none_from, put-line}
use Rattle.sv_store.proofs.Lines.{get_or-by_line, get_or-line_of, length-line_of, line_of-set_other}

apart : (a b : ℕ) → (a == b) ≡ false → a ≢ b
apart a b h = grind (nat_tests, arith)

other : (a b : ℕ) → a ≢ b → (a == b) ≡ false
other a b h = grind (nat_tests, arith)

yes : (a b : ℕ) → nat_lt a b ≡ true → a < b
yes a b h = grind (nat_tests, arith)

no : (a b : ℕ) → nat_lt a b ≡ false → b ≤ a
no a b h = grind (nat_tests, arith)

-- a byte of a block that is set is set in its line
pub line_of-set : (bytes : List ℕ) (place x : ℕ) → place < length bytes → line_of (set bytes place x) (place / 64) ≡ set (line_of bytes (place / 64)) (place % 64) x
line_of-set bytes place x low = same_lists (line_of (set bytes place x) (place / 64)) (set (line_of bytes (place / 64)) (place % 64) x) size (λ k d below. by k d (k == place % 64) refl (omega (arith, below, size)) below)
  where
    whole : place ≡ place / 64 * 64 + place % 64
    whole = omega arith

    size : length (line_of (set bytes place x) (place / 64)) ≡ length (set (line_of bytes (place / 64)) (place % 64) x)
    size =
        length-line_of (set bytes place x) (place / 64)
        ∙ (ap (λ n. min 64 (n - place / 64 * 64)) (length-set bytes place x) ∙ (sym (length-line_of bytes (place / 64)) ∙ sym (length-set (line_of bytes (place / 64)) (place % 64) x)))

    get_any : (zs : List ℕ) (k d e : ℕ) → k < length zs → get_or zs k d ≡ get_or zs k e
    get_any zs k d e below = grind (arith, places)

    low_line : (k : ℕ) → k < length (line_of (set bytes place x) (place / 64)) → k < 64
    low_line k below = omega (arith, below, length-line_of (set bytes place x) (place / 64))

    by : (k d : ℕ) (t : Bool) → (k == place % 64) ≡ t → k < length (set (line_of bytes (place / 64)) (place % 64) x) → k < length (line_of (set bytes place x) (place / 64)) → get_or (line_of (set bytes place x) (place / 64)) k d ≡ get_or (set (line_of bytes (place / 64)) (place % 64) x) k d
    by k d true e right left =
        get_any (line_of (set bytes place x) (place / 64)) k d 0 left
        ∙ (get_or-line_of (set bytes place x) (place / 64) k (low_line k left)
        ∙ (ap (λ q. get_or (set bytes place x) q 0) (let here = eqb-true k (place % 64) e in let sum : place / 64 * 64 + k ≡ place = omega (arith, here, whole) in sum)
        ∙ (get_or-set_same bytes place x 0 low
        ∙ (sym (get_or-set_same (line_of bytes (place / 64)) (place % 64) x d (let here = eqb-true k (place % 64) e in omega (arith, here, right, length-set (line_of bytes (place / 64)) (place % 64) x))) ∙ ap (λ q. get_or (set (line_of bytes (place / 64)) (place % 64) x) q d) (sym (eqb-true k (place % 64) e))))))
    by k d false e right left =
        let ne = apart k (place % 64) e in
        get_any (line_of (set bytes place x) (place / 64)) k d 0 left
        ∙ (get_or-line_of (set bytes place x) (place / 64) k (low_line k left)
        ∙ (get_or-set_other bytes place (place / 64 * 64 + k) x 0 (λ same. ne (omega (arith, same, whole)))
        ∙ (sym (get_or-line_of bytes (place / 64) k (low_line k left))
        ∙ (sym (get_or-set_other (line_of bytes (place / 64)) (place % 64) k x 0 ne) ∙ get_any (set (line_of bytes (place / 64)) (place % 64) x) k 0 d right))))

-- a byte of a held line is got
pub byte-got : {o : Origin} {h : Held} {b : ℕ} {buf : Loan} → Gets o h b buf → (place : ℕ) → IsSome (h b (place / 64)) → get_or buf.bytes place 0 ≡ byte_in h b place
unfolding byte_in
byte-got {o} {h} {b} {buf} gets place is = get_or-by_line buf.bytes place ∙ by (h b (place / 64)) is (gets.lines (place / 64))
  where
    by : (p : Option (List ℕ)) → IsSome p → IfSome p (λ line. line_of buf.bytes (place / 64) ≡ line) → get_or (line_of buf.bytes (place / 64)) (place % 64) 0 ≡ get_or (unwrap_or p []) (place % 64) 0
    by None is e = absurd (false≢true is)
    by (Some line) is e = ap (λ q. get_or q (place % 64) 0) e

-- a byte of a held line is put
pub byte-put : (h : Held) {h' : Held} (b c : ℕ) (bytes : List ℕ) (place : ℕ) → c ≡ b → h' ≡ put c bytes h → IsSome (h b (place / 64)) → byte_in h' b place ≡ get_or bytes place 0
unfolding byte_in
byte-put h {h'} b c bytes place e puts is =
    ap (λ q. get_or (unwrap_or (q b (place / 64)) []) (place % 64) 0) (puts ∙ ap (λ q. put q bytes h) e)
    ∙ (ap (λ q. get_or (unwrap_or q []) (place % 64) 0) (put-line b bytes h (place / 64) is) ∙ sym (get_or-by_line bytes place))

-- a block that was got and put with one byte set
pub put-set : {o : Origin} {h : Held} {b : ℕ} {buf : Loan} → Gets o h b buf → (h' : Held) (bytes : List ℕ) (place x : ℕ) → bytes ≡ set buf.bytes place x → h' ≡ put buf.block bytes h → place < o.sizes.block_size → h' ≡ with_byte b place x h
unfolding put with_byte
put-set {o} {h} {b} {buf} gets h' bytes place x e puts low =
    puts ∙ (ap (λ q. put q bytes h) gets.block ∙ (ap (λ q. put b q h) e ∙ fun_ext (λ c. fun_ext (λ l. by c l (c == b) refl (l == place / 64) refl))))
  where
    set_in : (p : Option (List ℕ)) → IfSome p (λ line. line_of buf.bytes (place / 64) ≡ line) → option_map (λ _. line_of (set buf.bytes place x) (place / 64)) p ≡ option_map (λ line. set line (place % 64) x) p
    set_in None same = refl
    set_in (Some line) same =
        ap (λ q. Some q) (line_of-set buf.bytes place x (omega (arith, low, gets.size)) ∙ ap (λ q. set q (place % 64) x) same)

    stays : (l : ℕ) → l ≢ place / 64 → (p : Option (List ℕ)) → IfSome p (λ line. line_of buf.bytes l ≡ line) → option_map (λ _. line_of (set buf.bytes place x) l) p ≡ p
    stays l ne None same = refl
    stays l ne (Some line) same = ap (λ q. Some q) (line_of-set_other buf.bytes place x l ne ∙ same)

    by : (c l : ℕ) (t : Bool) → (c == b) ≡ t → (s : Bool) → (l == place / 64) ≡ s → cond t (option_map (λ _. line_of (set buf.bytes place x) l) (h c l)) (h c l) ≡ cond (t && s) (option_map (λ line. set line (place % 64) x) (h c l)) (h c l)
    by c l false te s se = refl
    by c l true te true se =
        let P : ℕ → ℕ → Type 0 = λ d m. option_map (λ _. line_of (set buf.bytes place x) m) (h d m) ≡ option_map (λ line. set line (place % 64) x) (h d m) in
        subst (λ d. P d l) (sym (eqb-true c b te)) (subst (λ m. P b m) (sym (eqb-true l (place / 64) se)) (set_in (h b (place / 64)) (gets.lines (place / 64))))
    by c l true te false se =
        let P : ℕ → Type 0 = λ d. option_map (λ _. line_of (set buf.bytes place x) l) (h d l) ≡ h d l in
        subst P (sym (eqb-true c b te)) (stays l (apart l (place / 64) se) (h b l) (gets.lines l))

-- setting a byte keeps which lines are held
pub is_some-with_byte : (b place x : ℕ) (h : Held) (c l : ℕ) → is_some (with_byte b place x h c l) ≡ is_some (h c l)
unfolding with_byte
is_some-with_byte b place x h c l = at ((c == b) && (l == place / 64)) (h c l)
  where
    at : (t : Bool) (p : Option (List ℕ)) → is_some (cond t (option_map (λ line. set line (place % 64) x) p) p) ≡ is_some p
    at true None = refl
    at true (Some line) = refl
    at false p = refl

-- ---- both sides of a cut

both-yes : (x y : Bool) → (x && y) ≡ true → (x ≡ true) × (y ≡ true)
both-yes true y e = (refl, e)
both-yes false y e = absurd (false≢true e)

-- a byte that is set on the left side, where its line is held there
pub Both-left : (b place x : ℕ) (h k : Held) → IsSome (h b (place / 64)) → Both (with_byte b place x h) k ≡ with_byte b place x (Both h k)
unfolding Both with_byte
Both-left b place x h k is = fun_ext (λ c. fun_ext (λ l. by c l ((c == b) && (l == place / 64)) refl))
  where
    at : (p q : Option (List ℕ)) → IsSome p → cond (is_some (option_map (λ line. set line (place % 64) x) p)) (option_map (λ line. set line (place % 64) x) p) q ≡ option_map (λ line. set line (place % 64) x) (cond (is_some p) p q)
    at None q is = absurd (false≢true is)
    at (Some line) q is = refl

    by : (c l : ℕ) (t : Bool) → ((c == b) && (l == place / 64)) ≡ t → cond (is_some (cond t (option_map (λ line. set line (place % 64) x) (h c l)) (h c l))) (cond t (option_map (λ line. set line (place % 64) x) (h c l)) (h c l)) (k c l) ≡ cond t (option_map (λ line. set line (place % 64) x) (cond (is_some (h c l)) (h c l) (k c l))) (cond (is_some (h c l)) (h c l) (k c l))
    by c l false e = refl
    by c l true e =
        let two = both-yes (c == b) (l == place / 64) e in
        at (h c l) (k c l) (ap (λ q. is_some (h q l)) (eqb-true c b two.0) ∙ (ap (λ q. is_some (h b q)) (eqb-true l (place / 64) two.1) ∙ is))

-- a byte that is set on the right side, where its line is not held on the left
pub Both-right : (b place x : ℕ) (h k : Held) → h b (place / 64) ≡ None → Both h (with_byte b place x k) ≡ with_byte b place x (Both h k)
unfolding Both with_byte
Both-right b place x h k none = fun_ext (λ c. fun_ext (λ l. by c l ((c == b) && (l == place / 64)) refl))
  where
    at : (p q : Option (List ℕ)) → p ≡ None → cond (is_some p) p (option_map (λ line. set line (place % 64) x) q) ≡ option_map (λ line. set line (place % 64) x) (cond (is_some p) p q)
    at None q e = refl
    at (Some line) q e = absurd (false≢true (sym (ap is_some e)))

    by : (c l : ℕ) (t : Bool) → ((c == b) && (l == place / 64)) ≡ t → cond (is_some (h c l)) (h c l) (cond t (option_map (λ line. set line (place % 64) x) (k c l)) (k c l)) ≡ cond t (option_map (λ line. set line (place % 64) x) (cond (is_some (h c l)) (h c l) (k c l))) (cond (is_some (h c l)) (h c l) (k c l))
    by c l false e = refl
    by c l true e =
        let two = both-yes (c == b) (l == place / 64) e in
        at (h c l) (k c l) (ap (λ q. h q l) (eqb-true c b two.0) ∙ (ap (λ q. h b q) (eqb-true l (place / 64) two.1) ∙ none))

-- a cut that is undone
pub Both-cut : (lines : List LineRange) (h : Held) → Both (rest lines h) (chosen lines h) ≡ h
unfolding Both rest chosen
Both-cut lines h = fun_ext (λ c. fun_ext (λ l. by (in_ranges lines c l) (h c l)))
  where
    by : (t : Bool) (p : Option (List ℕ)) → cond (is_some (cond t None p)) (cond t None p) (cond t p None) ≡ p
    by true p = refl
    by false None = refl
    by false (Some line) = refl

-- ---- faults

-- a count that has risen, and to which more is added, has risen
pub rose-left : (a b n : ℕ) → Rose a b → Rose a (counted b n)
rose-left a b n (inl low) = by (nat_lt (b + n) last_count) refl
  where
    by : (t : Bool) → nat_lt (b + n) last_count ≡ t → Rose a (counted b n)
    by true e = inl (omega (arith, low, yes (b + n) last_count e))
    by false e = inr (omega (arith, no (b + n) last_count e))
rose-left a b n (inr last) = inr (omega (arith, last))

-- a count to which one is added that has risen has risen
pub rose-right : (a b m n : ℕ) → a ≤ b → Rose m n → Rose a (counted b n)
rose-right a b m n low (inl more) = by (nat_lt (b + n) last_count) refl
  where
    by : (t : Bool) → nat_lt (b + n) last_count ≡ t → Rose a (counted b n)
    by true e = inl (omega (arith, low, more, yes (b + n) last_count e))
    by false e = inr (omega (arith, no (b + n) last_count e))
rose-right a b m n low (inr last) = inr (omega (arith, last))

-- of two stakes that were merged, one has counted the fault
pub merged-reason : {T : Type 0} (r : Result T Refusal) (a b m n : ℕ) {old now : ℕ} → a ≡ old → old < 2 ^ 64 → a ≤ b → IfErr r (λ refusal. (refusal ≡ Fault) × (Rose a b ⊎ Rose m n)) → now ≡ counted b n → HasReason old now r
merged-reason {T} r a b m n {old} {now} same fits low cause is = record { no_less = omega (arith, same, fits, low, is); rose = λ e. subst (λ q. Rose q now) same (by r cause e) }
  where
    either : Rose a b ⊎ Rose m n → Rose a now
    either (inl rose) = subst (Rose a) (sym is) (rose-left a b n rose)
    either (inr rose) = subst (Rose a) (sym is) (rose-right a b m n low rose)

    by : (q : Result T Refusal) → IfErr q (λ refusal. (refusal ≡ Fault) × (Rose a b ⊎ Rose m n)) → IsErrOf q Fault → Rose a now
    by (Ok x) cause e = let no : ⊥ = cc e in absurd no
    by (Err x) cause e = either cause.1

-- ---- a cut with a byte set on either side, and undone

pub cut-set : {h mine theirs mine' theirs' new : Held} {lines : List LineRange} (m t x y : ℕ) → Parts h lines mine theirs → mine' ≡ with_byte m 0 x mine → theirs' ≡ with_byte t 0 y theirs → IsSome (h m 0) → in_ranges lines m 0 ≡ false → in_ranges lines t 0 ≡ true → new ≡ Both mine' theirs' → new ≡ with_byte m 0 x (with_byte t 0 y h)
cut-set {h} {mine} {theirs} {mine'} {theirs'} {new} {lines} m t x y parts one two is stays goes joins =
    joins
    ∙ (ap (λ q. Both q theirs') (one ∙ ap (with_byte m 0 x) parts.kept)
    ∙ (ap (Both (with_byte m 0 x (rest lines h))) (two ∙ ap (with_byte t 0 y) parts.given)
    ∙ (Both-left m 0 x (rest lines h) (with_byte t 0 y (chosen lines h)) (is_some-rest lines h m 0 false stays ∙ is)
    ∙ (ap (with_byte m 0 x) (Both-right t 0 y (rest lines h) (chosen lines h) (none_from (rest lines h t 0) (is_some-rest lines h t 0 true goes))) ∙ ap (λ q. with_byte m 0 x (with_byte t 0 y q)) (Both-cut lines h)))))

pub cut-first : {h mine theirs mine' theirs' new : Held} {lines : List LineRange} (m x : ℕ) → Parts h lines mine theirs → (mine' ≡ mine) ⊎ (mine' ≡ with_byte m 0 x mine) → theirs' ≡ theirs → IsSome (h m 0) → in_ranges lines m 0 ≡ false → new ≡ Both mine' theirs' → (new ≡ h) ⊎ (new ≡ with_byte m 0 x h)
cut-first {h} {mine} {theirs} {mine'} {theirs'} {new} {lines} m x parts (inl one) two is stays joins =
    inl (joins ∙ (ap (λ q. Both q theirs') (one ∙ parts.kept) ∙ (ap (Both (rest lines h)) (two ∙ parts.given) ∙ Both-cut lines h)))
cut-first {h} {mine} {theirs} {mine'} {theirs'} {new} {lines} m x parts (inr one) two is stays joins =
    inr (joins
    ∙ (ap (λ q. Both q theirs') (one ∙ ap (with_byte m 0 x) parts.kept)
    ∙ (ap (Both (with_byte m 0 x (rest lines h))) (two ∙ parts.given)
    ∙ (Both-left m 0 x (rest lines h) (chosen lines h) (is_some-rest lines h m 0 false stays ∙ is) ∙ ap (with_byte m 0 x) (Both-cut lines h)))))

pub both-ok : {T E P Q W : Type 0} (r : Result T E) → OnOk r P → OnOk r Q → (P → Q → W) → OnOk r W
both-ok (Ok x) p q f = f p q
both-ok (Err x) p q f = tt

pub both-err : {T E P Q W : Type 0} (r : Result T E) → OnErr r P → OnErr r Q → (P → Q → W) → OnErr r W
both-err (Ok x) p q f = tt
both-err (Err x) p q f = f p q
