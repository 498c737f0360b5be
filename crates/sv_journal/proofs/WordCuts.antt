-- How words stand in a text: a word holds neither a space nor a newline byte, and what follows it begins with one.
use Rattle.std.proofs.Common.{◌≡◌, ◌≤◌, ◌<◌, ◌==◌, ◌||◌, ◌++◌, ◌∙◌, ℕ, List, [], ◌∷◌, length, get_or, Bool, true, false, cond, nat_le, nat_eq, Option, Some, None, IfSome, find, sym, ap, refl, arith}
use Rattle.std.specs.Cmp.Lexicographic.{pointwise}
use Rattle.std.specs.List.{list_all, position_or_len}
use Rattle.std.proofs.lemmas.Bool.{eqb-true, ne_eqb, leb-true}
use Rattle.std.proofs.lemmas.List.{drop_at, get_or_at, get_or_append_left, length-append, take-append-drop, take_at}
use Rattle.std.proofs.lemmas.List.Sums.{AllPass-from_list_all, position_or_len_is}
use Rattle.std.proofs.lemmas.Slice.Eq.{bytes_eq-Decides}
use Rattle.sv_journal.specs.Cut.{ends_word, first_word, next_byte, next_word, this_word}
use Rattle.sv_journal.specs.Fields.{field}
use Rattle.sv_journal.specs.Outcome.{◌>>=◌}

-- ---- steps

pub step : {A B : Type 0} (m : Option A) (f : A → Option B) (Q : A → Type 0) (P : B → Type 0) → IfSome m Q → ((a : A) → Q a → IfSome (f a) P) → IfSome (m >>= f) P
step None f Q P h k = tt
step (Some a) f Q P h k = k a h

-- a test of two texts
pub same_text : (a b : List ℕ) → pointwise nat_eq a b ≡ true → a ≡ b
same_text a b h = (bytes_eq-Decides a b).0 h

pub text_same : (a b : List ℕ) → a ≡ b → pointwise nat_eq a b ≡ true
text_same a b h = (bytes_eq-Decides a b).1 h

-- what is found passes the test
pub found_passes : {X : Type 0} (p : X → Bool) (xs : List X) → IfSome (find p xs) (λ x. p x ≡ true)
found_passes p [] = tt
found_passes p (x ∷ xs) = by (found_passes p xs) (p x) refl
  where
    by : IfSome (find p xs) (λ y. p y ≡ true) → (b : Bool) → p x ≡ b → IfSome (cond b (Some x) (find p xs)) (λ y. p y ≡ true)
    by rest true h = h
    by rest false h = rest

-- ---- words

-- no byte ends a word
abbrev pub IsWord : List ℕ → Type 0
IsWord w = (k : ℕ) → k < length w → 33 ≤ get_or w k 0

pub literal_word : (w : List ℕ) → list_all (λ c. nat_le 33 c) w ≡ true → IsWord w
literal_word w h k lt = leb-true 33 (get_or w k 0) (AllPass-from_list_all (λ c. nat_le 33 c) w h k 0 lt)

-- nothing follows, or a byte that ends a word
abbrev pub IsTail : List ℕ → Type 0
IsTail [] = Unit {0}
IsTail (b ∷ bs) = ends_word b ≡ true

goes_on : (c : ℕ) → 33 ≤ c → ends_word c ≡ false
goes_on c large = ap (λ (b : Bool). b || (c == 10)) (ne_eqb c 32 (λ e. omega arith)) ∙ ne_eqb c 10 (λ e. omega arith)

word_len_is : (w r : List ℕ) → IsWord w → IsTail r → position_or_len ends_word (w ++ r) ≡ length w
word_len_is w r word tail =
    position_or_len_is ends_word (w ++ r) (length w) 0 (omega (arith, length-append w r))
    (λ k lt. ap ends_word (get_or_append_left w r 0 k lt) ∙ goes_on (get_or w k 0) (word k lt))
    (ended r tail)
  where
    ended : (t : List ℕ) → IsTail t → length w < length (w ++ t) → ends_word (get_or (w ++ t) (length w) 0) ≡ true
    ended [] tail lt = absurd (omega (arith, length-append w []))
    ended (b ∷ bs) tail lt = ap ends_word (get_or_at w b bs 0 (length w) refl) ∙ tail

pub first_word-back : (w r : List ℕ) → IsWord w → IsTail r → first_word (w ++ r) ≡ (w, r)
unfolding first_word
first_word-back w r word tail =
    let len = sym (word_len_is w r word tail) in
    let front = take_at w r (position_or_len ends_word (w ++ r)) len in
    let back = drop_at w r (position_or_len ends_word (w ++ r)) len in
    λ i. (front i, back i)

pub first_word-cut : (t : List ℕ) → t ≡ (first_word t).0 ++ (first_word t).1
unfolding first_word
first_word-cut t = sym (take-append-drop (position_or_len ends_word t) t)

pub next_byte-cut : (byte : ℕ) (t : List ℕ) → IfSome (next_byte byte t) (λ r. t ≡ byte ∷ r.1)
next_byte-cut byte [] = tt
next_byte-cut byte (b ∷ bs) = by (b == byte) refl
  where
    by : (t : Bool) → (b == byte) ≡ t → IfSome {T = Unit {0} × List ℕ} (cond t (Some (tt {0}, bs)) None) (λ r. b ∷ bs ≡ byte ∷ r.1)
    by true h = ap (λ (c : ℕ). c ∷ bs) (eqb-true b byte h)
    by false h = tt

pub next_word-cut : (t : List ℕ) → IfSome (next_word t) (λ r. t ≡ 32 ∷ (r.0 ++ r.1))
next_word-cut t = step (next_byte 32 t) _ (λ r. t ≡ 32 ∷ r.1) (λ r. t ≡ 32 ∷ (r.0 ++ r.1)) (next_byte-cut 32 t) (λ r is. is ∙ ap (λ (x : List ℕ). 32 ∷ x) (first_word-cut r.1))

pub next_word-back : (w r : List ℕ) → IsWord w → IsTail r → next_word (32 ∷ (w ++ r)) ≡ Some (w, r)
next_word-back w r word tail = ap (λ (p : List ℕ × List ℕ). Some p) (first_word-back w r word tail)

pub this_word-cut : (w t : List ℕ) → IfSome (this_word w t) (λ r. t ≡ 32 ∷ (w ++ r.1))
this_word-cut w t = step (next_word t) _ (λ r. t ≡ 32 ∷ (r.0 ++ r.1)) (λ r. t ≡ 32 ∷ (w ++ r.1)) (next_word-cut t) (λ r is. by r is (pointwise nat_eq r.0 w) refl)
  where
    by : (r : List ℕ × List ℕ) → t ≡ 32 ∷ (r.0 ++ r.1) → (b : Bool) → pointwise nat_eq r.0 w ≡ b → IfSome {T = Unit {0} × List ℕ} (cond b (Some (tt {0}, r.1)) None) (λ r. t ≡ 32 ∷ (w ++ r.1))
    by r is true h = is ∙ ap (λ (x : List ℕ). 32 ∷ (x ++ r.1)) (same_text r.0 w h)
    by r is false h = tt

pub this_word-back : (w r : List ℕ) → IsWord w → IsTail r → this_word w (32 ∷ (w ++ r)) ≡ Some (tt {0}, r)
this_word-back w r word tail =
    ap (λ (m : Option (List ℕ × List ℕ)). m >>= λ p. cond (pointwise nat_eq p.0 w) (Some (tt {0}, p.1)) None) (next_word-back w r word tail)
    ∙ ap (λ (b : Bool). cond b (Some (tt {0}, r)) None) (text_same w w refl)

-- ---- what a word is read as

-- the words that are read are the spellings of what fits, one of each
pub record Reads {A : Type 0} (read : List ℕ → Option A) (spell : A → List ℕ) (fits : A → Type 0) : Type 0 where
  pub sound : (w : List ℕ) → IfSome (read w) (λ x. fits x × (w ≡ spell x))
  pub back : (x : A) → fits x → read (spell x) ≡ Some x
  pub word : (x : A) → fits x → IsWord (spell x)

module _ {A : Type 0} {read : List ℕ → Option A} {spell : A → List ℕ} {fits : A → Type 0} (reads : Reads read spell fits) where
  pub field-cut : (t : List ℕ) → IfSome (field read t) (λ r. fits r.0 × (t ≡ 32 ∷ (spell r.0 ++ r.1)))
  field-cut t = step (next_word t) _ (λ r. t ≡ 32 ∷ (r.0 ++ r.1)) (λ r. fits r.0 × (t ≡ 32 ∷ (spell r.0 ++ r.1))) (next_word-cut t)
      (λ r is. step (read r.0) _ (λ x. fits x × (r.0 ≡ spell x)) (λ r. fits r.0 × (t ≡ 32 ∷ (spell r.0 ++ r.1))) (reads.sound r.0) (λ x h. (h.0, is ∙ ap (λ (w : List ℕ). 32 ∷ (w ++ r.1)) h.1)))

  pub field-back : (x : A) (r : List ℕ) → fits x → IsTail r → field read (32 ∷ (spell x ++ r)) ≡ Some (x, r)
  field-back x r fit tail =
      ap (λ (m : Option (List ℕ × List ℕ)). m >>= λ p. read p.0 >>= λ y. Some (y, p.1)) (next_word-back (spell x) r (reads.word x fit) tail)
      ∙ ap (λ (m : Option A). m >>= λ y. Some (y, r)) (reads.back x fit)

  pub reads_as : (other : A → Type 0) → ((x : A) → fits x → other x) → ((x : A) → other x → fits x) → Reads read spell other
  reads_as other to from = record {
    sound = λ w. weaker w (read w) (reads.sound w);
    back = λ x h. reads.back x (from x h);
    word = λ x h. reads.word x (from x h);
  }
    where
      weaker : (w : List ℕ) (o : Option A) → IfSome o (λ x. fits x × (w ≡ spell x)) → IfSome o (λ x. other x × (w ≡ spell x))
      weaker w None h = tt
      weaker w (Some x) h = (to x h.0, h.1)
