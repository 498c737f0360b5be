-- Ranges of lines, as they grow by one line.
use Rattle.std.proofs.Common.{◌≡◌, ◌≢◌, All, Bool, true, false, ◌+◌, ◌*◌, ◌<◌, ◌≤◌, ◌-◌, ◌==◌, ℕ, zero, suc, List, [], ◌∷◌, ◌++◌, length, get_or, set, filter, map, arith, ap, refl, sym, subst, ◌∙◌, append_assoc, append-nil, if◌then◌else◌, cond}
use Rattle.std.specs.List.{flat_map, range_with_len}
use Rattle.std.proofs.lemmas.List.FromFn.{map-range_with_len_more, filter_of_map_range_with_len_more}
use Rattle.std.proofs.lemmas.Bool.{eqb-true, false≢true}
use Rattle.std.proofs.lemmas.Bool.Decides.{nat_tests}
use Rattle.std.proofs.lemmas.List.{map-id, get_or_default, get_or-set_same, get_or-set_other}
use Rattle.sv_form.specs.declared.geometry.Geometry.{Geometry}
use Rattle.sv_form.specs.declared.place.Place.{Place}
use Rattle.sv_form.specs.declared.owners.LineRange.{LineRange}
use Rattle.sv_form.specs.Geometry.{block_lines, line_number}
use Rattle.sv_form.specs.OwnerTable.{OwnerTable}
use Rattle.sv_form.specs.Owners.{HasMore, IsRange, range_lines}

-- the last of the lists that are joined grows
pub last_grows : {X : Type 0} (f : X → List ℕ) (xs : List X) (i : ℕ) (d y : X) (zs : List ℕ) → length xs ≡ i + 1 → f y ≡ f (get_or xs i d) ++ zs
    → flat_map f (set xs i y) ≡ flat_map f xs ++ zs
last_grows f [] i d y zs len more = absurd (omega arith)
last_grows f (x ∷ []) zero d y zs len more = ap (λ (l : List ℕ). l ++ []) more ∙ append-nil (f x ++ zs) ∙ ap (λ (l : List ℕ). l ++ zs) (sym (append-nil (f x)))
last_grows f (x ∷ (w ∷ xs)) zero d y zs len more = absurd (omega arith)
last_grows f (x ∷ xs) (suc i) d y zs len more =
    ap (λ (l : List ℕ). f x ++ l) (last_grows f xs i d y zs (omega arith) more) ∙ sym (append_assoc (f x) (flat_map f xs) zs)

-- one more number of a range
pub range_more : (a n : ℕ) → range_with_len a (n + 1) ≡ range_with_len a n ++ (a + n) ∷ []
range_more a n =
    sym (map-id (range_with_len a (n + 1))) ∙ map-range_with_len_more (λ (x : ℕ). x) a n (a + n) refl ∙ ap (λ (l : List ℕ). l ++ (a + n) ∷ []) (map-id (range_with_len a n))

-- one more number that is looked at
pub owned_more : (p : ℕ → Bool) (n : ℕ) → filter p (range_with_len 0 (n + 1)) ≡ filter p (range_with_len 0 n) ++ (if p n then n ∷ [] else [])
owned_more p n =
    ap (λ (l : List ℕ). filter p l) (sym (map-id (range_with_len 0 (n + 1)))) ∙ filter_of_map_range_with_len_more p (λ (x : ℕ). x) 0 n n (omega arith)
    ∙ ap (λ (l : List ℕ). filter p l ++ (if p n then n ∷ [] else [])) (map-id (range_with_len 0 n))

-- a range that the next line of its block follows
pub range_grows : (lines block first count next : ℕ) → first + count ≡ next
    → range_with_len (block * lines + first) (count + 1) ≡ range_with_len (block * lines + first) count ++ (block * lines + next) ∷ []
range_grows lines block first count next e =
    range_more (block * lines + first) count ∙ ap (λ (k : ℕ). range_with_len (block * lines + first) count ++ k ∷ []) (omega arith)

-- the last range takes the line that is next in its block
pub line_added : (g : Geometry) (ranges : List LineRange) (i : ℕ) (last seen : LineRange) (p : Place) → length ranges ≡ i + 1
    → last ≡ get_or ranges i last → seen ≡ get_or ranges i seen → (seen.block ≡ p.block) × (seen.first + seen.count ≡ p.line)
    → flat_map (range_lines g) (set ranges i (record { block = last.block; first = last.first; count = last.count + 1 })) ≡ flat_map (range_lines g) ranges ++ line_number g p ∷ []
line_added g ranges i last seen p len a b next =
    let same : seen ≡ last = b ∙ get_or_default ranges i seen last (omega arith) ∙ sym a in
    let block : last.block ≡ p.block = subst (λ (r : LineRange). r.block ≡ p.block) same next.0 in
    let line : last.first + last.count ≡ p.line = subst (λ (r : LineRange). r.first + r.count ≡ p.line) same next.1 in
    last_grows (range_lines g) ranges i last _ (line_number g p ∷ []) len (
    range_grows (block_lines g) last.block last.first last.count p.line line
    ∙ ap (λ (n : ℕ). range_lines g last ++ (n * block_lines g + p.line) ∷ []) block
    ∙ ap (λ (r : LineRange). range_lines g r ++ line_number g p ∷ []) a)

-- ---- the ranges of all inodes

-- one more list, which is empty
pub none_more : {X : Type 0} (rows : List (List X)) → ((n : ℕ) → get_or rows n [] ≡ []) → (n : ℕ) → get_or (rows ++ [] ∷ []) n [] ≡ []
none_more [] h zero = refl
none_more [] h (suc n) = refl
none_more (row ∷ rows) h zero = h 0
none_more (row ∷ rows) h (suc n) = none_more rows (λ k. h (suc k)) n

same_number : (n : ℕ) → (n == n) ≡ true
same_number n = grind (nat_tests, arith)

other_number : (m n : ℕ) → m ≢ n → (m == n) ≡ false
other_number m n h = grind (nat_tests, arith)

-- an inode whose line was not met has the ranges that it had
pub none_met : (t : OwnerTable) (line m : ℕ) (row : List LineRange) → get_or t.owners line 0 ≢ m → All (IsRange t.geometry) row
    → HasMore t line m row row
none_met t line m row other each = record {
  lines = sym (ap (λ (b : Bool). flat_map (range_lines t.geometry) row ++ cond b (line ∷ []) [])
      (other_number (get_or t.owners line 0) m other) ∙ append-nil (flat_map (range_lines t.geometry) row));
  each = each;
}

-- the inode whose line was met has it, and all others have what they had
pub line_met : (t : OwnerTable) (line n : ℕ) (rows rows' : List (List LineRange)) (row : List LineRange) → n < length rows
    → get_or t.owners line 0 ≡ n → rows' ≡ set rows n row
    → flat_map (range_lines t.geometry) row ≡ flat_map (range_lines t.geometry) (get_or rows n []) ++ line ∷ [] → All (IsRange t.geometry) row
    → ((m : ℕ) → m < length rows → All (IsRange t.geometry) (get_or rows m []))
    → (m : ℕ) → m < length rows → HasMore t line m (get_or rows m []) (get_or rows' m [])
line_met t line n rows rows' row low owner is more each old m within =
    subst (λ (q : List (List LineRange)). HasMore t line m (get_or rows m []) (get_or q m [])) (sym is) (by (m == n) refl)
  where
    by : (b : Bool) → (m == n) ≡ b → HasMore t line m (get_or rows m []) (get_or (set rows n row) m [])
    by true e =
        (let same : m ≡ n = eqb-true m n e in
        subst (λ (k : ℕ). HasMore t line k (get_or rows k []) (get_or (set rows n row) k [])) (sym same)
        (subst (λ (q : List LineRange). HasMore t line n (get_or rows n []) q) (sym (get_or-set_same rows n row [] low)) (record {
          lines = more ∙ sym (ap (λ (b : Bool). flat_map (range_lines t.geometry) (get_or rows n []) ++ cond b (line ∷ []) [])
              (ap (λ (k : ℕ). k == n) owner ∙ same_number n));
          each = each;
        })))
    by false e =
        let ne : m ≢ n = (λ same. false≢true (sym e ∙ (ap (λ (k : ℕ). k == n) same ∙ same_number n))) in
        subst (λ (q : List LineRange). HasMore t line m (get_or rows m []) q) (sym (get_or-set_other rows n m row [] ne))
        (none_met t line m (get_or rows m []) (λ is_m. ne (sym is_m ∙ owner)) (old m within))
