-- What the entries of directories say of the `.`, the `..` and the holders of one inode.
use Rattle.std.proofs.Common.{◌≡◌, ◌≤◌, ◌+◌, ◌-◌, ◌^◌, ◌==◌, ◌&&◌, ◌||◌, ◌++◌, ◌∷◌, [], ◌∙◌, ℕ, suc, Bool, true, false, List, Option, Some, None, ap, sym, refl, cond, if◌then◌else◌, map, flat_map, filter, length, min, nat_le, option_map, unwrap_or, arith}
use Rattle.std.proofs.lemmas.Bool.{eqb-true}
use Rattle.sv_form.specs.declared.geometry.Geometry.{Geometry}
use Rattle.sv_plain.specs.Names.{same_bytes}
use Rattle.sv_check.specs.declared.sound.standings.Standing.{Standing}
use Rattle.sv_check.specs.Directories.{Naming, above, dot, dots, entries, has_dot, holders_of, name_in, named_by}
use Rattle.sv_check.specs.Standings.{Told, named, one_more, told_from, told_in, with_dots}
use Rattle.sv_check.specs.Walk.{is_among}
use Rattle.sv_check.proofs.ToldTimes.{naming_of, one, told_to}

or_false : (t : Bool) → (t || false) ≡ t
or_false true = refl
or_false false = refl

or_or : (a b c : Bool) → ((a || b) || c) ≡ (a || (b || c))
or_or true b c = refl
or_or false b c = refl

pub one-append : (n : ℕ) (s : Standing) (xs ys : List Told) → one n s (xs ++ ys) ≡ one n (one n s xs) ys
unfolding one
one-append n s [] ys = refl
one-append n s (x ∷ xs) ys = one-append n (told_to n x s) xs ys

-- ---- one entry

above_to : (t : Told) (s : Standing) (a b : Bool) → (if b then with_dots t (if a then named t s else s) else (if a then named t s else s)).above
    ≡ cond b (if (t.place == 1) && same_bytes (name_in t.entry) dots then named_by t.entry else s.above) s.above
above_to t s true true = refl
above_to t s true false = refl
above_to t s false true = refl
above_to t s false false = refl

dot_to : (t : Told) (s : Standing) (a b : Bool) → (if b then with_dots t (if a then named t s else s) else (if a then named t s else s)).dot
    ≡ cond b (s.dot || ((t.place == 0) && ((named_by t.entry == t.directory) && same_bytes (name_in t.entry) dot))) s.dot
dot_to t s true true = refl
dot_to t s true false = refl
dot_to t s false true = refl
dot_to t s false false = refl

held_to : (t : Told) (s : Standing) (a b : Bool) → (if b then with_dots t (if a then named t s else s) else (if a then named t s else s)).held
    ≡ cond a (cond (nat_le 2 t.place) (one_more s.held) s.held) s.held
held_to t s true true = refl
held_to t s true false = refl
held_to t s false true = refl
held_to t s false false = refl

holder_to : (t : Told) (s : Standing) (a b : Bool) → (if b then with_dots t (if a then named t s else s) else (if a then named t s else s)).holder
    ≡ cond a (cond (nat_le 2 t.place) t.directory s.holder) s.holder
holder_to t s true true = refl
holder_to t s true false = refl
holder_to t s false true = refl
holder_to t s false false = refl

-- ---- the entries of one directory

cond_same : {X : Type 0} (b : Bool) (x : X) → cond b x x ≡ x
cond_same true x = refl
cond_same false x = refl

module _ (n d : ℕ) where
  above_later : (k : ℕ) (es : List (List ℕ)) (s : Standing) → 2 ≤ k → (one n s (told_from d k es)).above ≡ s.above
  unfolding one told_from
  above_later k [] s late = refl
  above_later k (e ∷ es) s late =
      let t : Told = record { directory = d; place = k; entry = e } in
      let past : (k == 1) ≡ false = grind (arith, late) in
      above_later (k + 1) es (told_to n t s) (omega (arith, late)) ∙ above_to t s (named_by e == n) (d == n)
      ∙ ap (λ (p : Bool). cond (d == n) (if p && same_bytes (name_in e) dots then named_by e else s.above) s.above) past ∙ cond_same (d == n) s.above

  above_second : (b q : Bool) (x old : ℕ) (e : List ℕ) → x ≡ old → cond b (if q then named_by e else x) x ≡ cond b (unwrap_or (option_map named_by (cond q (Some e) None)) old) old
  above_second true true x old e is = refl
  above_second true false x old e is = is
  above_second false q x old e is = is

  above_dir : (es : List (List ℕ)) (s : Standing) → (one n s (told_from d 0 es)).above ≡ cond (d == n) (unwrap_or (above es) s.above) s.above
  unfolding one told_from
  above_dir [] s = sym (cond_same (d == n) s.above)
  above_dir (e ∷ []) s = above_to (record { directory = d; place = 0; entry = e }) s (named_by e == n) (d == n)
  above_dir (e ∷ f ∷ es) s =
      let t : Told = record { directory = d; place = 0; entry = e } in
      let u : Told = record { directory = d; place = 1; entry = f } in
      let first : (told_to n t s).above ≡ s.above = above_to t s (named_by e == n) (d == n) ∙ cond_same (d == n) s.above in
      above_later 2 es (told_to n u (told_to n t s)) (omega arith) ∙ above_to u (told_to n t s) (named_by f == n) (d == n)
      ∙ above_second (d == n) (same_bytes (name_in f) dots) (told_to n t s).above s.above f first

  dot_later : (k : ℕ) (es : List (List ℕ)) (s : Standing) → 1 ≤ k → (one n s (told_from d k es)).dot ≡ s.dot
  unfolding one told_from
  dot_later k [] s late = refl
  dot_later k (e ∷ es) s late =
      let t : Told = record { directory = d; place = k; entry = e } in
      let past : (k == 0) ≡ false = grind (arith, late) in
      dot_later (k + 1) es (told_to n t s) (omega (arith, late)) ∙ dot_to t s (named_by e == n) (d == n)
      ∙ ap (λ (p : Bool). cond (d == n) (s.dot || (p && ((named_by e == d) && same_bytes (name_in e) dot))) s.dot) past
      ∙ ap (λ (p : Bool). cond (d == n) p s.dot) (or_false s.dot) ∙ cond_same (d == n) s.dot

  dot_first : (b q old : Bool) → cond b (old || q) old ≡ (old || (b && (q || false)))
  dot_first true true old = refl
  dot_first true false old = refl
  dot_first false q old = sym (or_false old)

  dot_dir : (es : List (List ℕ)) (s : Standing) → (one n s (told_from d 0 es)).dot ≡ (s.dot || ((d == n) && has_dot es d))
  unfolding one told_from
  dot_dir [] s = none (d == n) where
    none : (b : Bool) → s.dot ≡ (s.dot || (b && false))
    none true = sym (or_false s.dot)
    none false = sym (or_false s.dot)
  dot_dir (e ∷ es) s =
      let t : Told = record { directory = d; place = 0; entry = e } in
      dot_later 1 es (told_to n t s) (omega arith) ∙ dot_to t s (named_by e == n) (d == n)
      ∙ dot_first (d == n) ((named_by e == d) && same_bytes (name_in e) dot) s.dot

-- ---- all directories

module _ (g : Geometry) (image : List ℕ) (n : ℕ) where
  above_two : (t r : Bool) (a b : Option ℕ) (x y : ℕ) → (t ≡ true → b ≡ a) → y ≡ cond t (unwrap_or b x) x → cond r (unwrap_or a y) y ≡ cond (t || r) (unwrap_or a x) x
  above_two false r a b x y same is = ap (λ (z : ℕ). cond r (unwrap_or a z) z) is
  above_two true r a b x y same is =
      let here : y ≡ unwrap_or a x = is ∙ ap (λ (o : Option ℕ). unwrap_or o x) (same refl) in
      by_option r a here where
        by_option : (r : Bool) (a : Option ℕ) → y ≡ unwrap_or a x → cond r (unwrap_or a y) y ≡ unwrap_or a x
        by_option true None here = here
        by_option true (Some z) here = refl
        by_option false a here = here

  pub above_all : (ds : List ℕ) (s : Standing) → (one n s (flat_map (told_in g image) ds)).above ≡ cond (is_among ds n) (unwrap_or (above (entries g image n)) s.above) s.above
  unfolding one
  above_all [] s = refl
  above_all (d ∷ ds) s =
      let mid : Standing = one n s (told_in g image d) in
      ap (λ (x : Standing). x.above) (one-append n s (told_in g image d) (flat_map (told_in g image) ds)) ∙ above_all ds mid
      ∙ above_two (d == n) (is_among ds n) (above (entries g image n)) (above (entries g image d)) s.above mid.above (λ is. ap (λ (k : ℕ). above (entries g image k)) (eqb-true d n is))
      (above_dir n d (entries g image d) s)

  dot_two : (t r p q old mid : Bool) → (t ≡ true → q ≡ p) → mid ≡ (old || (t && q)) → (mid || (r && p)) ≡ (old || ((t || r) && p))
  dot_two false r p q old mid same is = ap (λ (m : Bool). m || (r && p)) (is ∙ or_false old)
  dot_two true r p q old mid same is = ap (λ (m : Bool). m || (r && p)) (is ∙ ap (λ (x : Bool). old || x) (same refl)) ∙ or_or old p (r && p) ∙ ap (λ (x : Bool). old || x) (absorbs r p) where
    absorbs : (r p : Bool) → (p || (r && p)) ≡ p
    absorbs r true = refl
    absorbs true false = refl
    absorbs false false = refl

  pub dot_all : (ds : List ℕ) (s : Standing) → (one n s (flat_map (told_in g image) ds)).dot ≡ (s.dot || (is_among ds n && has_dot (entries g image n) n))
  unfolding one
  dot_all [] s = sym (or_false s.dot)
  dot_all (d ∷ ds) s =
      let mid : Standing = one n s (told_in g image d) in
      ap (λ (x : Standing). x.dot) (one-append n s (told_in g image d) (flat_map (told_in g image) ds)) ∙ dot_all ds mid
      ∙ dot_two (d == n) (is_among ds n) (has_dot (entries g image n) n) (has_dot (entries g image d) d) s.dot mid.dot
      (λ is. ap (λ (k : ℕ). has_dot (entries g image k) k) (eqb-true d n is)) (dot_dir n d (entries g image d) s)

-- ---- holders

-- the last of these, or another where there is none
abbrev pub last_or : ℕ → List ℕ → ℕ
last_or x [] = x
last_or x (y ∷ ys) = last_or y ys

abbrev holds : ℕ → Naming → Bool
holds n e = nat_le 2 e.place && (e.inode == n)

module _ (n : ℕ) where
  held_on : (p a : Bool) (s next : ℕ) (d : Naming) (rest : List Naming) → s ≤ 2 ^ 16 - 1 → next ≡ cond a (cond p (one_more s) s) s
      → (next ≤ 2 ^ 16 - 1) × (min (next + length (map (λ (e : Naming). e.directory) rest)) (2 ^ 16 - 1) ≡ min (s + length (map (λ (e : Naming). e.directory) (cond (p && a) (d ∷ rest) rest))) (2 ^ 16 - 1))
  held_on true true s next d rest less is = (omega (arith, less, is), omega (arith, less, is))
  held_on true false s next d rest less is = (omega (arith, less, is), ap (λ (x : ℕ). min (x + length (map (λ (e : Naming). e.directory) rest)) (2 ^ 16 - 1)) is)
  held_on false true s next d rest less is = (omega (arith, less, is), ap (λ (x : ℕ). min (x + length (map (λ (e : Naming). e.directory) rest)) (2 ^ 16 - 1)) is)
  held_on false false s next d rest less is = (omega (arith, less, is), ap (λ (x : ℕ). min (x + length (map (λ (e : Naming). e.directory) rest)) (2 ^ 16 - 1)) is)

  pub held_one : (ts : List Told) (s : Standing) → s.held ≤ 2 ^ 16 - 1 → (one n s ts).held ≡ min (s.held + length (holders_of (map naming_of ts) n)) (2 ^ 16 - 1)
  unfolding one
  held_one [] s less =
      let alone : s.held ≡ min (s.held + 0) (2 ^ 16 - 1) = omega (arith, less) in
      alone
  held_one (t ∷ ts) s less =
      let parts = held_on (nat_le 2 t.place) (named_by t.entry == n) s.held (told_to n t s).held (naming_of t) (filter (holds n) (map naming_of ts)) less (held_to t s (named_by t.entry == n) (t.directory == n)) in
      held_one ts (told_to n t s) parts.0 ∙ parts.1

  holder_on : (p a : Bool) (s next : ℕ) (d : Naming) (rest : List Naming) → next ≡ cond a (cond p d.directory s) s
      → last_or next (map (λ (e : Naming). e.directory) rest) ≡ last_or s (map (λ (e : Naming). e.directory) (cond (p && a) (d ∷ rest) rest))
  holder_on true true s next d rest is = ap (λ (x : ℕ). last_or x (map (λ (e : Naming). e.directory) rest)) is
  holder_on true false s next d rest is = ap (λ (x : ℕ). last_or x (map (λ (e : Naming). e.directory) rest)) is
  holder_on false true s next d rest is = ap (λ (x : ℕ). last_or x (map (λ (e : Naming). e.directory) rest)) is
  holder_on false false s next d rest is = ap (λ (x : ℕ). last_or x (map (λ (e : Naming). e.directory) rest)) is

  pub holder_one : (ts : List Told) (s : Standing) → (one n s ts).holder ≡ last_or s.holder (holders_of (map naming_of ts) n)
  unfolding one
  holder_one [] s = refl
  holder_one (t ∷ ts) s =
      holder_one ts (told_to n t s)
      ∙ holder_on (nat_le 2 t.place) (named_by t.entry == n) s.holder (told_to n t s).holder (naming_of t) (filter (holds n) (map naming_of ts)) (holder_to t s (named_by t.entry == n) (t.directory == n))

-- one holder, and none
and_true : (t : Bool) → (t && true) ≡ t
and_true true = refl
and_true false = refl

and_false : (t : Bool) → (t && false) ≡ false
and_false true = refl
and_false false = refl

pub held_once : (hs : List ℕ) (p : ℕ) → same_bytes hs (p ∷ []) ≡ ((min (0 + length hs) (2 ^ 16 - 1) == 1) && (last_or 0 hs == p))
held_once [] p = refl
held_once (h ∷ []) p = and_true (h == p)
held_once (h ∷ k ∷ hs) p =
    let many : (min (0 + length (h ∷ k ∷ hs)) (2 ^ 16 - 1) == 1) ≡ false = more (length hs) in
    and_false (h == p) ∙ sym (ap (λ (t : Bool). t && (last_or k hs == p)) many) where
      more : (c : ℕ) → (min (0 + suc (suc c)) (2 ^ 16 - 1) == 1) ≡ false
      more c = grind arith

pub held_never : (hs : List ℕ) → same_bytes hs [] ≡ (min (0 + length hs) (2 ^ 16 - 1) == 0)
held_never [] = refl
held_never (h ∷ hs) = sym (more (length hs)) where
  more : (c : ℕ) → (min (0 + suc c) (2 ^ 16 - 1) == 0) ≡ false
  more c = grind arith
