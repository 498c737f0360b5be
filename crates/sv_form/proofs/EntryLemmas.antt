-- Sixteen bytes and the entry that they spell fix one another.
use Rattle.std.proofs.Common.{◌≡◌, ◌≢◌, ◌<◌, ◌≤◌, ◌-◌, ◌+◌, ◌++◌, ◌↔◌, ℕ, zero, suc, List, [], Option, Some, None, length, drop, take, replicate, unwrap_or, All, get_or, sym, ap, ◌∙◌, arith, refl, MatchOption, inl, inr, subst, add-zero, IsSome, IfSome, IfNone}
use Rattle.std.proofs.lemmas.Bool.{cases_lt, false≢true}
use Rattle.std.proofs.lemmas.List.{get_or-append-add, get_or-drop, length-drop, get_or_append_left, take_at, drop_at, ext_get_or, length-replicate, length-append}
use Rattle.sv_form.specs.Name.{IsName, IsNameByte}
use Rattle.sv_form.specs.Number.{IsZero, number16}
use Rattle.sv_form.specs.Entry.{IsEntry, filled}
use Rattle.sv_form.specs.declared.entry.Entry.{Entry}

zero_at : (m k : ℕ) → get_or {A = ℕ} (replicate m 0) k 0 ≡ 0
zero_at zero k = refl
zero_at (suc m) zero = refl
zero_at (suc m) (suc k) = zero_at m k

pub all_zero : (xs : List ℕ) → IsZero xs 0 (length xs) → xs ≡ replicate (length xs) 0
all_zero xs h = ext_get_or 0 xs _ (sym (length-replicate (length xs) 0)) (λ k lt. h k (omega arith) lt ∙ sym (zero_at (length xs) k))

-- a name is no longer than another that zeros fill up to the same bytes
no_longer : (a b ys : List ℕ) (m : ℕ) → All IsNameByte b → a ++ replicate m 0 ≡ b ++ ys → length b ≤ length a
no_longer a b ys m pb h =
    elim (cases_lt (length a) (length b)) [
      | inl lt ↦ absurd ((pb (length a) 0 lt).no_zero (sym (get_or_append_left b ys 0 (length a) lt) ∙ ap (λ (xs : List ℕ). get_or xs (length a) 0) (sym h) ∙ ap (λ (k : ℕ). get_or (a ++ replicate m 0) k 0) (sym (add-zero (length a))) ∙ get_or-append-add a (replicate m 0) 0 0 ∙ zero_at m 0))
      | inr le ↦ le
    ]

-- where zeros fill two names up to the same bytes, the names are one
pub same_name : (a b : List ℕ) (m n : ℕ) → All IsNameByte a → All IsNameByte b → a ++ replicate m 0 ≡ b ++ replicate n 0 → a ≡ b
same_name a b m n pa pb h =
    let long : length b ≤ length a = no_longer a b (replicate n 0) m pb h in
    let short : length a ≤ length b = no_longer b a (replicate m 0) n pa (sym h) in
    let same : length b ≡ length a = omega arith in
    sym (take_at a (replicate m 0) (length a) refl) ∙ ap (λ (xs : List ℕ). take (length a) xs) h ∙ take_at b (replicate n 0) (length a) same

same_names : (i j : ℕ) (m n : Option (List ℕ)) → i ≡ j → MatchOption m (i ≡ 0) (λ name. (i ≢ 0) × IsName name) → MatchOption n (j ≡ 0) (λ name. (j ≢ 0) × IsName name) → filled (unwrap_or m []) ≡ filled (unwrap_or n []) → m ≡ n
same_names i j None None e a b h = refl
same_names i j (Some x) None e a b h = absurd (a.0 (e ∙ b))
same_names i j None (Some y) e a b h = absurd (b.0 (sym e ∙ a))
same_names i j (Some x) (Some y) e a b h = ap (λ (v : List ℕ). Some v) (same_name x y _ _ a.1.plain b.1.plain h)

pub one_entry : (bytes : List ℕ) (e f : Entry) → IsEntry bytes e → IsEntry bytes f → e ≡ f
one_entry bytes e f he hf =
    let inode : e.inode ≡ f.inode = sym he.inode ∙ hf.inode in
    let name : e.name ≡ f.name = same_names e.inode f.inode e.name f.name inode he.spelled hf.spelled (sym he.name ∙ hf.name) in
    let made : ℕ → Option (List ℕ) → Entry = λ i n. record { inode = i; name = n } in
    ap (λ (i : ℕ). made i e.name) inode ∙ ap (λ (n : Option (List ℕ)). made f.inode n) name

-- the bytes before the first zero byte are the name
pub before_first_zero : (name field : List ℕ) (n z : ℕ) → All IsNameByte name → field ≡ name ++ replicate n 0 → z ≤ length field → ((k : ℕ) → k < z → get_or field k 0 ≡ 0 → ⊥) → (z < length field → get_or field z 0 ≡ 0) → z ≡ length name
before_first_zero name field n z plain is within before at_zero =
    let size : length field ≡ length name + n = ap length is ∙ length-append name (replicate n 0) ∙ ap (λ (k : ℕ). length name + k) (length-replicate n 0) in
    elim (cases_lt z (length name)) [
      | inl lt ↦ absurd ((plain z 0 lt).no_zero (sym (get_or_append_left name (replicate n 0) 0 z lt) ∙ ap (λ (xs : List ℕ). get_or xs z 0) (sym is) ∙ at_zero (omega arith)))
      | inr le ↦ elim (cases_lt (length name) z) [
        | inl lt ↦ absurd (before (length name) lt (ap (λ (xs : List ℕ). get_or xs (length name) 0) is ∙ ap (λ (k : ℕ). get_or (name ++ replicate n 0) k 0) (sym (add-zero (length name))) ∙ get_or-append-add name (replicate n 0) 0 0 ∙ zero_at n 0))
        | inr ge ↦ omega arith
      ]
    ]

-- what is split off before the first zero byte, and what is left
pub front_is : (name field : List ℕ) (z : ℕ) → IsName name → field ≡ filled name → z ≤ length field → ((k : ℕ) → k < z → get_or field k 0 ≡ 0 → ⊥) → (z < length field → get_or field z 0 ≡ 0) → (take z field ≡ name) × (drop z field ≡ replicate (14 - length name) 0)
front_is name field z named is within before at_zero =
    let at : z ≡ length name = before_first_zero name field (14 - length name) z named.plain is within before at_zero in
    (ap (take z) is ∙ take_at name (replicate (14 - length name) 0) z (sym at), ap (drop z) is ∙ drop_at name (replicate (14 - length name) 0) z (sym at))

pub IsZero-zeros : (n m : ℕ) → IsZero (replicate n 0) 0 m
IsZero-zeros n m k low high = zero_at n k

-- a name and zeros after it, fourteen bytes, are the name filled up
pub filled_is : (name rest : List ℕ) → length (name ++ rest) ≡ 14 → IsZero rest 0 (length rest) → name ++ rest ≡ filled name
filled_is name rest len zeros =
    let rest_len : length rest ≡ 14 - length name = omega (arith, length-append name rest) in
    ap (λ (r : List ℕ). name ++ r) (all_zero rest zeros) ∙ ap (λ (k : ℕ). name ++ replicate k 0) rest_len

pub name_read : (r : Option (List ℕ)) (front rest field : List ℕ) → (IsSome r ↔ IsName front) → IfSome r (λ n. n ≡ front) → field ≡ front ++ rest → length field ≡ 14 → IsZero rest 0 (length rest) → IfSome r (λ name. IsName name × (field ≡ filled name))
name_read None front rest field is value cut len zeros = tt
name_read (Some n) front rest field is value cut len zeros =
    (subst (λ (m : List ℕ). IsName m) (sym value) (is.0 refl), cut ∙ filled_is front rest (sym (ap length cut) ∙ len) zeros ∙ ap filled (sym value))

pub no_name_read : (r : Option (List ℕ)) (front : List ℕ) → (IsSome r ↔ IsName front) → (P : List ℕ → Type 0) → ((name : List ℕ) → IsName name → P name → front ≡ name) → IfNone r ((name : List ℕ) → IsName name → P name → ⊥)
no_name_read None front is P at = λ name named holds. false≢true (is.1 (subst (λ (m : List ℕ). IsName m) (sym (at name named holds)) named))
no_name_read (Some n) front is P at = tt

pub zero_field : (bytes : List ℕ) → length bytes ≡ 16 → IsZero bytes 2 16 → drop 2 bytes ≡ replicate 14 0
zero_field bytes len zeros =
    let size : length (drop 2 bytes) ≡ 14 = length-drop 2 bytes ∙ omega arith in
    ext_get_or 0 (drop 2 bytes) (replicate 14 0) size (λ k lt. get_or-drop 2 bytes k 0 ∙ zeros (2 + k) (omega arith) (omega arith) ∙ sym (zero_at 14 k))

-- an entry with inode 0 has no name
no_name : (e : Option (List ℕ)) (i : ℕ) → i ≡ 0 → MatchOption e (i ≡ 0) (λ name. (i ≢ 0) × IsName name) → unwrap_or e [] ≡ []
no_name None i zero_inode h = refl
no_name (Some n) i zero_inode h = absurd (h.0 zero_inode)

pub empty_zeros : (bytes : List ℕ) (e : Entry) → IsEntry bytes e → number16 bytes 0 ≡ 0 → IsZero bytes 2 16
empty_zeros bytes e h zero_inode k low high =
    let at : 2 + (k - 2) ≡ k = omega arith in
    let field : drop 2 bytes ≡ replicate 14 0 = h.name ∙ ap filled (no_name e.name e.inode (sym h.inode ∙ zero_inode) h.spelled) in
    ap (λ (j : ℕ). get_or bytes j 0) (sym at) ∙ sym (get_or-drop 2 bytes (k - 2) 0) ∙ ap (λ (xs : List ℕ). get_or xs (k - 2) 0) field ∙ zero_at 14 (k - 2)
