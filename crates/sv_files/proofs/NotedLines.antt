-- The lines that are noted of a stake are the lines that it holds.
use Rattle.std.proofs.Common.{◌≡◌, ◌<◌, ◌++◌, ◌==◌, ◌&&◌, ℕ, zero, suc, Bool, true, false, cond, List, [], ◌∷◌, Option}
use Rattle.std.proofs.Common.{Some, None, IsSome, refl, sym, ap, subst, ◌∙◌, arith}
use Rattle.std.specs.Prelude.{◌⊎◌}
use Rattle.std.proofs.Math.Path.{fun_ext}
use mathlib.Core.Logic.{inl, inr}
use Rattle.std.proofs.lemmas.Bool.Decides.{nat_tests}
use Rattle.sv_store.specs.Held.{Held, InRange, Lent, nothing_lent}
use Rattle.sv_files.specs.declared.in_core.InCore.{InCore}
use Rattle.sv_files.specs.View.{Noted, Seen, held_of, note, noted_lines, noted_blocks, lock_of, lock_seen}

abbrev none : Option (List ℕ)
none = None

-- the line that one list has, or else that of another
abbrev or_else : Option (List ℕ) → Option (List ℕ) → Option (List ℕ)
or_else None y = y
or_else (Some x) y = Some x

held-nil : (b l : ℕ) → held_of [] b l ≡ None
unfolding held_of
held-nil b l = refl

held-cons : (x : Noted) (xs : List Noted) (b l : ℕ)
    → held_of (x ∷ xs) b l ≡ cond ((x.block == b) && (x.line == l)) (Some x.bytes) (held_of xs b l)
unfolding held_of
held-cons x xs b l = refl

lines-suc : (h : Held) (b l : ℕ) → noted_lines h b (suc l) ≡ note b l (h b l) ++ noted_lines h b l
unfolding noted_lines
lines-suc h b l = refl

lines-zero : (h : Held) (b : ℕ) → noted_lines h b zero ≡ []
unfolding noted_lines
lines-zero h b = refl

blocks-suc : (h : Held) (b n : ℕ) → noted_blocks h (suc b) n ≡ noted_lines h b n ++ noted_blocks h b n
unfolding noted_blocks
blocks-suc h b n = refl

blocks-zero : (h : Held) (n : ℕ) → noted_blocks h zero n ≡ []
unfolding noted_blocks
blocks-zero h n = refl

choose : (t : Bool) (x : List ℕ) (y z : Option (List ℕ)) → cond t (Some x) (or_else y z) ≡ or_else (cond t (Some x) y) z
choose true x y z = refl
choose false x y z = refl

held-append : (xs ys : List Noted) (b l : ℕ) → held_of (xs ++ ys) b l ≡ or_else (held_of xs b l) (held_of ys b l)
held-append [] ys b l = ap (λ o. or_else o (held_of ys b l)) (sym (held-nil b l))
held-append (x ∷ xs) ys b l =
    held-cons x (xs ++ ys) b l
    ∙ ap (cond ((x.block == b) && (x.line == l)) (Some x.bytes)) (held-append xs ys b l)
    ∙ choose ((x.block == b) && (x.line == l)) x.bytes (held_of xs b l) (held_of ys b l)
    ∙ ap (λ o. or_else o (held_of ys b l)) (sym (held-cons x xs b l))

-- nothing, or what is held
abbrev IsTrue : Option (List ℕ) → Option (List ℕ) → Type 0
IsTrue v o = (o ≡ None) ⊎ (o ≡ v)

or-true : (v x y : Option (List ℕ)) → IsTrue v x → IsTrue v y → IsTrue v (or_else x y)
or-true v None y this that = that
or-true v (Some x) y this that = this

one-true : (t : Bool) (v o : Option (List ℕ)) → (t ≡ true → o ≡ v) → IsTrue v (cond t o None)
one-true true v o same = inr (same refl)
one-true false v o same = inl refl

note-held : (b l : ℕ) (o : Option (List ℕ)) (c m : ℕ) → held_of (note b l o) c m ≡ cond ((b == c) && (l == m)) o None
note-held b l None c m = held-nil c m ∙ sym (nothing ((b == c) && (l == m)))
  where
    nothing : (t : Bool) → cond t none none ≡ none
    nothing true = refl
    nothing false = refl
note-held b l (Some x) c m = held-cons _ [] c m ∙ ap (cond ((b == c) && (l == m)) (Some x)) (held-nil c m)

both-same : (b c l m : ℕ) → ((b == c) && (l == m)) ≡ true → (b ≡ c) × (l ≡ m)
both-same b c l m both = (grind (nat_tests, arith), grind (nat_tests, arith))

note-true : (h : Held) (b l c m : ℕ) → IsTrue (h c m) (held_of (note b l (h b l)) c m)
note-true h b l c m =
    subst (IsTrue (h c m)) (sym (note-held b l (h b l) c m)) (one-true ((b == c) && (l == m)) (h c m) (h b l) (λ both.
    let same = both-same b c l m both in ap (λ k. h k l) same.0 ∙ ap (h c) same.1))

lines-true : (h : Held) (b n c m : ℕ) → IsTrue (h c m) (held_of (noted_lines h b n) c m)
lines-true h b zero c m = inl (ap (λ xs. held_of xs c m) (lines-zero h b) ∙ held-nil c m)
lines-true h b (suc l) c m =
    subst (IsTrue (h c m)) (sym (ap (λ xs. held_of xs c m) (lines-suc h b l) ∙ held-append (note b l (h b l)) (noted_lines h b l) c m))
    (or-true (h c m) (held_of (note b l (h b l)) c m) (held_of (noted_lines h b l) c m) (note-true h b l c m) (lines-true h b l c m))

blocks-true : (h : Held) (k n c m : ℕ) → IsTrue (h c m) (held_of (noted_blocks h k n) c m)
blocks-true h zero n c m = inl (ap (λ xs. held_of xs c m) (blocks-zero h n) ∙ held-nil c m)
blocks-true h (suc b) n c m =
    subst (IsTrue (h c m)) (sym (ap (λ xs. held_of xs c m) (blocks-suc h b n) ∙ held-append (noted_lines h b n) (noted_blocks h b n) c m))
    (or-true (h c m) (held_of (noted_lines h b n) c m) (held_of (noted_blocks h b n) c m) (lines-true h b n c m)
    (blocks-true h b n c m))

some-left : (x y : Option (List ℕ)) → IsSome x → IsSome (or_else x y)
some-left None y some = absurd (cc some)
some-left (Some x) y some = refl

some-right : (x y : Option (List ℕ)) → IsSome y → IsSome (or_else x y)
some-right None y some = some
some-right (Some x) y some = refl

same-both : (c m : ℕ) → ((c == c) && (m == m)) ≡ true
same-both c m = grind (nat_tests, arith)

lines-some : (h : Held) (n c m : ℕ) → m < n → IsSome (h c m) → IsSome (held_of (noted_lines h c n) c m)
lines-some h zero c m low some = absurd (omega arith)
lines-some h (suc l) c m low some =
    subst IsSome (sym (ap (λ xs. held_of xs c m) (lines-suc h c l) ∙ held-append (note c l (h c l)) (noted_lines h c l) c m))
    (at (m == l) refl (λ lower. lines-some h l c m lower some))
  where
    here : m ≡ l → IsSome (held_of (note c l (h c l)) c m)
    here same = subst (λ k. IsSome (held_of (note c k (h c k)) c m)) same
        (subst IsSome (sym (note-held c m (h c m) c m ∙ ap (λ t. cond t (h c m) None) (same-both c m))) some)

    yes : (a b : ℕ) → (a == b) ≡ true → a ≡ b
    yes a b h = grind (nat_tests, arith)

    no : (a b : ℕ) → a < suc b → (a == b) ≡ false → a < b
    no a b low h = grind (nat_tests, arith)

    at : (t : Bool) → (m == l) ≡ t → (m < l → IsSome (held_of (noted_lines h c l) c m))
        → IsSome (or_else (held_of (note c l (h c l)) c m) (held_of (noted_lines h c l) c m))
    at true is rest = some-left (held_of (note c l (h c l)) c m) (held_of (noted_lines h c l) c m) (here (yes m l is))
    at false is rest = some-right (held_of (note c l (h c l)) c m) (held_of (noted_lines h c l) c m) (rest (no m l low is))

blocks-some : (h : Held) (k n c m : ℕ) → c < k → m < n → IsSome (h c m) → IsSome (held_of (noted_blocks h k n) c m)
blocks-some h zero n c m low low' some = absurd (omega arith)
blocks-some h (suc b) n c m low low' some =
    subst IsSome (sym (ap (λ xs. held_of xs c m) (blocks-suc h b n) ∙ held-append (noted_lines h b n) (noted_blocks h b n) c m))
    (at (c == b) refl (λ lower. blocks-some h b n c m lower low' some))
  where
    yes : (a b : ℕ) → (a == b) ≡ true → a ≡ b
    yes a b h = grind (nat_tests, arith)

    no : (a b : ℕ) → a < suc b → (a == b) ≡ false → a < b
    no a b low h = grind (nat_tests, arith)

    at : (t : Bool) → (c == b) ≡ t → (c < b → IsSome (held_of (noted_blocks h b n) c m))
        → IsSome (or_else (held_of (noted_lines h b n) c m) (held_of (noted_blocks h b n) c m))
    at true is rest = some-left (held_of (noted_lines h b n) c m) (held_of (noted_blocks h b n) c m)
        (subst (λ k. IsSome (held_of (noted_lines h k n) c m)) (yes c b is) (lines-some h n c m low' some))
    at false is rest = some-right (held_of (noted_lines h b n) c m) (held_of (noted_blocks h b n) c m) (rest (no c b low is))

-- what is true, and some where something is held, is what is held
settle : (v o : Option (List ℕ)) → IsTrue v o → (IsSome v → IsSome o) → o ≡ v
settle None None so some = refl
settle None (Some x) (inl e) some = e
settle None (Some x) (inr e) some = e
settle (Some y) None so some = absurd (cc (some refl))
settle (Some y) (Some x) (inl e) some = absurd (cc e)
settle (Some y) (Some x) (inr e) some = e

pub noted-held : (z : Seen) → InRange z.origin.sizes z.held
    → held_of (noted_blocks z.held z.origin.sizes.blocks z.origin.sizes.block_size) ≡ z.held
noted-held z range = fun_ext (λ c. fun_ext (λ m.
    settle (z.held c m) _ (blocks-true z.held z.origin.sizes.blocks z.origin.sizes.block_size c m) (λ some.
    let low = range.line c m some in
    blocks-some z.held z.origin.sizes.blocks z.origin.sizes.block_size c m (range.block c m some) (omega (arith, low)) some)))

abbrev with_lines : Seen → Held → Seen
with_lines z h = record z { held = h; lent = nothing_lent }

abbrev with_lent : Seen → Lent → Seen
with_lent z m = record z { lent = m }

pub lock-seen : (n : ℕ) (core : Option InCore) (z : Seen) → InRange z.origin.sizes z.held → z.lent ≡ nothing_lent
    → lock_seen (lock_of n core z) ≡ z
lock-seen n core z range lent = ap (with_lines z) (noted-held z range) ∙ ap (with_lent z) (sym lent)
