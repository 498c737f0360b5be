-- What is read off the lists of a view, as a block is lent, comes back, or is put.
use Rattle.std.proofs.Common.{◌≡◌, ◌≢◌, ◌+◌, ◌<◌, ◌==◌, ℕ, Bool, true, false, cond, not, List, [], ◌∷◌, Option, Some, None, IsSome, IfSome, refl, sym, ap, ◌∙◌, subst, arith, inl, inr}
use Rattle.std.specs.List.{count_by, All}
use Rattle.std.proofs.Math.Path.{fun_ext}
use Rattle.std.proofs.lemmas.Bool.{cases_eq, eqb-true, eq-eqb, ne_eqb, and_parts}
use Rattle.std.proofs.lemmas.List.Sums.{sum_by-cons}
use Rattle.std.proofs.lemmas.List.Elements.{All-nil, All-cons, All-head, All-tail}
use Rattle.sv_links.specs.Arrangement.{one_if}
use Rattle.sv_links.proofs.Times.{one-if_same, none-if_other}
use Rattle.sv_store.specs.Held.{line_of, with, without}
use Rattle.sv_buf.specs.View.{Noted, Lending, is_at, held_of, lent_of}
use Rattle.sv_buf.specs.Changes.{loans_without}
use Rattle.sv_buf.specs.Running.{IsCurrent}

abbrev pub lent_count : ℕ → List Lending → ℕ
lent_count k xs = count_by (λ x. x.buffer == k) xs

pub lent_count-cons : (k : ℕ) (x : Lending) (xs : List Lending) → lent_count k (x ∷ xs) ≡ one_if (x.buffer == k) + lent_count k xs
lent_count-cons k x xs = sum_by-cons (λ (y : Lending). cond (y.buffer == k) 1 0) x xs

-- a loan of the block, and what holds of it
pub record Found (P : Lending → Type 0) (b : ℕ) (bytes : List ℕ) (xs : List Lending) : Type 0 where
  pub loan : Lending
  pub is : P loan
  pub block : loan.block ≡ b
  pub bytes_are : loan.bytes ≡ bytes
  pub counted : 0 < lent_count loan.buffer xs

pub lent-found : (P : Lending → Type 0) (b : ℕ) (bytes : List ℕ) (xs : List Lending) → lent_of xs b ≡ Some bytes → All P xs
    → Found P b bytes xs
unfolding lent_of with
lent-found P b bytes [] e all = absurd cc
lent-found P b bytes (x ∷ xs) e all = by (b == x.block) refl (lent-found P b bytes xs)
  where
    by : (t : Bool) → (b == x.block) ≡ t → (lent_of xs b ≡ Some bytes → All P xs → Found P b bytes xs) → Found P b bytes (x ∷ xs)
    by true at again = record {
      loan = x;
      is = All-head P x xs all;
      block = sym (eqb-true b x.block at);
      bytes_are = let here : cond (b == x.block) (Some x.bytes) (lent_of xs b) ≡ Some x.bytes = ap
          (λ t. cond t (Some x.bytes) (lent_of xs b)) at in let same : Some x.bytes ≡ Some bytes = sym here ∙ e in cc;
      counted = omega (arith, lent_count-cons x.buffer x xs, one-if_same x.buffer x.buffer refl);
    }
    by false at again =
        let there : cond (b == x.block) (Some x.bytes) (lent_of xs b) ≡ lent_of xs b = ap (λ t. cond t (Some x.bytes) (lent_of xs b)) at in
        let f = again (sym there ∙ e) (All-tail P x xs all) in
        record {
          loan = f.loan;
          is = f.is;
          block = f.block;
          bytes_are = f.bytes_are;
          counted = let c = f.counted in omega
              (arith, lent_count-cons f.loan.buffer x xs);
        }

-- the loan is of buffer k exactly where it is of block b
pub record Tells (k b : ℕ) (x : Lending) : Type 0 where
  pub block : x.buffer ≡ k → x.block ≡ b
  pub buffer : x.block ≡ b → x.buffer ≡ k

without-cons_same : (b : ℕ) (x : Lending) (xs : List Lending) → x.block ≡ b → loans_without b (x ∷ xs) ≡ loans_without b xs
without-cons_same b x xs e = ap (λ t. cond (not t) (x ∷ loans_without b xs) (loans_without b xs)) (eq-eqb x.block b e)

without-cons_other : (b : ℕ) (x : Lending) (xs : List Lending) → x.block ≢ b → loans_without b (x ∷ xs) ≡ x ∷ loans_without b xs
without-cons_other b x xs n = ap (λ t. cond (not t) (x ∷ loans_without b xs) (loans_without b xs)) (ne_eqb x.block b n)

pub back-none : (k b : ℕ) (xs : List Lending) → All (Tells k b) xs → lent_count k (loans_without b xs) ≡ 0
back-none k b [] all = refl
back-none k b (x ∷ xs) all =
    elim (cases_eq x.block b) [
      | inl e ↦ ap (lent_count k) (without-cons_same b x xs e) ∙ back-none k b xs (All-tail (Tells k b) x xs all)
      | inr n ↦
          let off : one_if (x.buffer == k) ≡ 0 = none-if_other x.buffer k (λ q. n ((All-head (Tells k b) x xs all).block q)) in
          omega (
            arith,
            ap (lent_count k) (without-cons_other b x xs n),
            lent_count-cons k x (loans_without b xs),
            back-none k b xs
                (All-tail (Tells k b) x xs all),
          )
    ]

pub back-others : (k b j : ℕ) (xs : List Lending) → j ≢ k → All (Tells k b) xs → lent_count j (loans_without b xs) ≡ lent_count j xs
back-others k b j [] other all = refl
back-others k b j (x ∷ xs) other all =
    elim (cases_eq x.block b) [
      | inl e ↦
          let off : one_if (x.buffer == j) ≡ 0 = none-if_other x.buffer j (λ (q : x.buffer ≡ j). other
          (sym q ∙ (All-head (Tells k b) x xs all).buffer e)) in
          omega (
            arith,
            ap (lent_count j) (without-cons_same b x xs e),
            lent_count-cons j x xs,
            back-others k b j xs other
                (All-tail (Tells k b) x xs all),
          )
      | inr n ↦
          omega (
            arith,
            ap (lent_count j) (without-cons_other b x xs n),
            lent_count-cons j x xs,
            lent_count-cons j x
                (loans_without b xs),
            back-others k b j xs other (All-tail (Tells k b) x xs all),
          )
    ]

pub All-without : (P Q : Lending → Type 0) (b : ℕ) (xs : List Lending) → ((x : Lending) → x.block ≢ b → P x → Q x) → All P xs
    → All Q (loans_without b xs)
All-without P Q b [] step all = All-nil Q
All-without P Q b (x ∷ xs) step all =
    elim (cases_eq x.block b) [
      | inl e ↦ subst (All Q) (sym (without-cons_same b x xs e)) (All-without P Q b xs step (All-tail P x xs all))
      | inr n ↦ subst (All Q) (sym (without-cons_other b x xs n)) (All-cons Q x (loans_without b xs) (step x n (All-head P x xs all))
          (All-without P Q b xs step (All-tail P x xs all)))
    ]

-- what is not held has no bytes
pub held-none : (b l : ℕ) (ns : List Noted) → count_by (is_at b l) ns ≡ 0 → held_of ns b l ≡ None
unfolding held_of
held-none b l [] none = refl
held-none b l (n ∷ ns) none = by (is_at b l n) refl (held-none b l ns)
  where
    by : (t : Bool) → is_at b l n ≡ t → (count_by (is_at b l) ns ≡ 0 → held_of ns b l ≡ None)
        → cond (is_at b l n) (Some n.bytes) (held_of ns b l) ≡ None
    by true at again = let one : cond {A = ℕ} (is_at b l n) 1 0 ≡ 1 = ap (λ t. cond {A = ℕ} t 1 0) at in absurd
        (omega (arith, one, none, sum_by-cons (λ (x : Noted). cond {A = ℕ} (is_at b l x) 1 0) n ns))
    by false at again = ap (λ t. cond t (Some n.bytes) (held_of ns b l)) at
        ∙ again (omega (arith, sum_by-cons (λ (x : Noted). cond (is_at b l x) 1 0) n ns))

-- what is held is current
pub held-current : (current : ℕ → List ℕ) (b l : ℕ) (ns : List Noted) → All (IsCurrent current) ns
    → IfSome (held_of ns b l) (λ y. line_of (current b) l ≡ y)
unfolding held_of
held-current current b l [] all = tt
held-current current b l (n ∷ ns) all = by (is_at b l n) refl (held-current current b l ns)
  where
    by : (t : Bool) → is_at b l n ≡ t → (All (IsCurrent current) ns → IfSome (held_of ns b l) (λ y. line_of (current b) l ≡ y))
        → IfSome (cond (is_at b l n) (Some n.bytes) (held_of ns b l)) (λ y. line_of (current b) l ≡ y)
    by true at again =
        let parts = and_parts (n.block == b) (n.line == l) at in
        let is : n.bytes ≡ line_of (current n.block) n.line = All-head (IsCurrent current) n ns all in
        let moved : n.bytes ≡ line_of (current b) l = is ∙ (ap (λ e. line_of (current e) n.line) (eqb-true n.block b parts.0)
        ∙ ap (line_of (current b)) (eqb-true n.line l parts.1)) in
        subst (λ t. IfSome (cond t (Some n.bytes) (held_of ns b l)) (λ y. line_of (current b) l ≡ y)) (sym at) (sym moved)
    by false at again = subst (λ t. IfSome (cond t (Some n.bytes) (held_of ns b l)) (λ y. line_of (current b) l ≡ y)) (sym at)
        (again (All-tail (IsCurrent current) n ns all))

pub lent-with : (k b : ℕ) (bytes : List ℕ) (xs : List Lending) → lent_of (record { buffer = k; block = b; bytes = bytes } ∷ xs) ≡ with b
    bytes (lent_of xs)
unfolding lent_of
lent-with k b bytes xs = refl

pub lent-without : (b : ℕ) (xs : List Lending) → lent_of (loans_without b xs) ≡ without b (lent_of xs)
unfolding lent_of without with
lent-without b [] = fun_ext (λ c. none (c == b))
  where
    none : (t : Bool) → ◌≡◌ {A = Option (List ℕ)} None (cond t None None)
    none true = refl
    none false = refl
lent-without b (x ∷ xs) =
    elim (cases_eq x.block b) [
      | inl e ↦ ap lent_of (without-cons_same b x xs e) ∙ (lent-without b xs ∙ fun_ext (λ c. same c e (c == b) refl))
      | inr n ↦ ap lent_of (without-cons_other b x xs n) ∙ (ap (with x.block x.bytes) (lent-without b xs)
          ∙ fun_ext (λ c. other c n (c == x.block) refl (c == b) refl))
    ]
  where
    same : (c : ℕ) → x.block ≡ b → (t : Bool) → (c == b) ≡ t → cond (c == b) None (lent_of xs c) ≡ cond (c == b) None
        (cond (c == x.block) (Some x.bytes) (lent_of xs c))
    same c e true at = ap (λ t. cond t None (lent_of xs c)) at ∙ sym (ap
        (λ t. cond t None (cond (c == x.block) (Some x.bytes) (lent_of xs c))) at)
    same c e false at =
        let not_x : (c == x.block) ≡ false = ap (λ q. c == q) e ∙ at in
        ap (λ t. cond t None (lent_of xs c)) at ∙ sym (ap (λ t. cond t None (cond (c == x.block) (Some x.bytes) (lent_of xs c))) at
        ∙ ap (λ t. cond t (Some x.bytes) (lent_of xs c)) not_x)

    other : (c : ℕ) → x.block ≢ b → (t : Bool) → (c == x.block) ≡ t → (u : Bool) → (c == b) ≡ u
        → cond (c == x.block) (Some x.bytes) (cond (c == b) None (lent_of xs c)) ≡ cond (c == b) None
        (cond (c == x.block) (Some x.bytes) (lent_of xs c))
    other c n true at true bt = absurd (n (sym (eqb-true c x.block at) ∙ eqb-true c b bt))
    other c n true at false bt = ap (λ t. cond t (Some x.bytes) (cond (c == b) None (lent_of xs c))) at
        ∙ sym (ap (λ t. cond t None (cond (c == x.block) (Some x.bytes) (lent_of xs c))) bt
        ∙ ap (λ t. cond t (Some x.bytes) (lent_of xs c)) at)
    other c n false at u bt = ap (λ t. cond t (Some x.bytes) (cond (c == b) None (lent_of xs c))) at
        ∙ sym (ap (λ t. cond (c == b) None (cond t (Some x.bytes) (lent_of xs c))) at)

-- what is counted is held
pub held-some : (b l : ℕ) (ns : List Noted) → 0 < count_by (is_at b l) ns → IsSome (held_of ns b l)
unfolding held_of
held-some b l [] some = absurd (omega arith)
held-some b l (n ∷ ns) some = by (is_at b l n) refl (held-some b l ns)
  where
    by : (t : Bool) → is_at b l n ≡ t → (0 < count_by (is_at b l) ns → IsSome (held_of ns b l))
        → IsSome (cond (is_at b l n) (Some n.bytes) (held_of ns b l))
    by true at again = subst (λ t. IsSome (cond t (Some n.bytes) (held_of ns b l))) (sym at) refl
    by false at again =
        let none : cond {A = ℕ} (is_at b l n) 1 0 ≡ 0 = ap (λ t. cond {A = ℕ} t 1 0) at in
        subst (λ t. IsSome (cond t (Some n.bytes) (held_of ns b l))) (sym at) (again
        (omega (arith, none, some, sum_by-cons (λ (x : Noted). cond {A = ℕ} (is_at b l x) 1 0) n ns)))
