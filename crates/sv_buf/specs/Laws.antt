-- The laws of the rule: views in any order, blank views, and cuts.
use Rattle.std.proofs.Common.{◌≡◌, cond, ◌+◌, ◌<◌, ◌++◌, ℕ, List, [], ◌∷◌, length, refl, sym, ◌∙◌, arith}
use Rattle.std.specs.List.{sum_by, All}
use Rattle.std.specs.List.Sorted.{IsPermutation}
use Rattle.std.proofs.lemmas.List.Sums.{sum_by-cons, sum_by-append}
use Rattle.std.proofs.lemmas.List.Sorted.{sum_by-IsPermutation, All-permutation, IsPermutation-sym, length_permutation}
use Rattle.std.proofs.lemmas.List.{length-append}
use Rattle.std.proofs.lemmas.List.Elements.{All-nil, All-cons, All-head, All-tail, All-append}
use Rattle.sv_cache.specs.Cache.{Cache}
use Rattle.sv_buf.specs.declared.state.State.{State}
use Rattle.sv_buf.specs.View.{View, Device, Opening, is_at, blank, weight, workers, faults, hits, outs, devices}
use Rattle.sv_buf.specs.Running.{FaultsCaused, IsLent, IsCurrent, IsSeen, IsRunning}
use Rattle.sv_buf.specs.Parting.{IsCut}

-- two views to the front, and one
pub sum_of_two : (f : View → ℕ) (a b : View) (us : List View) → sum_by f (a ∷ b ∷ us) ≡ f a + f b + sum_by f us
sum_of_two f a b us = omega (arith, sum_by-cons f a (b ∷ us), sum_by-cons f b us)

-- a cut of lines divides how often each is held
pub hits-cut : (b l : ℕ) (v a c : View) → IsPermutation v.lines (a.lines ++ c.lines) → hits b l v ≡ hits b l a + hits b l c
hits-cut b l v a c p =
    sym (sum_by-IsPermutation (λ x. cond (is_at b l x) 1 0) v.lines (a.lines ++ c.lines) p)
    ∙ sum_by-append (λ x. cond (is_at b l x) 1 0) a.lines c.lines

pub length-cut : (v a c : View) → IsPermutation v.lines (a.lines ++ c.lines) → length v.lines ≡ length a.lines + length c.lines
length-cut v a c p = sym (length_permutation v.lines (a.lines ++ c.lines) p) ∙ length-append a.lines c.lines

pub weighs_both : (v a b : View) → IsCut v a b → (weight v ≡ weight a + weight b) × (0 < weight a) × (0 < weight b)
weighs_both v a b cut = (omega (arith, length-cut v a b cut.lines, cut.workers), cut.some.0, cut.some.1)

-- what is summed up in the rule is so over other views with the same sums
Sums : List View → List View → Type 0
Sums xs ys = (f : View → ℕ) → sum_by f ys ≡ sum_by f xs

outs-cut : (k : ℕ) (v a b : View) → IsCut v a b → outs k v ≡ outs k a + outs k b
outs-cut k v a b cut = rw (cut.loans.0, cut.loans.1, cut.moving.0, cut.moving.1, cut.moving.2) (omega arith)

devices-cut : (v a b : View) → IsCut v a b → devices v ≡ devices a + devices b
devices-cut v a b cut = rw (cut.device.0, cut.device.1, cut.device.2) refl

All-left : {A : Type 0} (P : A → Type 0) (xs ys : List A) → All P (xs ++ ys) → All P xs
All-left P [] ys all = All-nil P
All-left P (x ∷ xs) ys all = All-cons P x xs (All-head P x (xs ++ ys) all) (All-left P xs ys (All-tail P x (xs ++ ys) all))

All-right : {A : Type 0} (P : A → Type 0) (xs ys : List A) → All P (xs ++ ys) → All P ys
All-right P [] ys all = all
All-right P (x ∷ xs) ys all = All-right P xs ys (All-tail P x (xs ++ ys) all)

faults_swap : (opening : Opening) (device : Device) (xs ys : List View) → sum_by faults ys ≡ sum_by faults xs
    → FaultsCaused opening device xs → FaultsCaused opening device ys
faults_swap opening device xs ys same h = λ low. omega (arith, same, h low)

module _ {D : Type 0} where
  -- other views with the same sums
  rebuilt : (seen : D → Device) (s : State D) (xs ys : List View) (h : IsRunning seen s xs)
      → ((k : ℕ) → sum_by (outs k) ys ≡ sum_by (outs k) xs)
      → sum_by devices ys ≡ sum_by devices xs
      → ((b l : ℕ) → sum_by (hits b l) ys ≡ sum_by (hits b l) xs)
      → sum_by faults ys ≡ sum_by faults xs
      → sum_by workers ys ≡ sum_by workers xs
      → All (IsSeen s.core h.kept.current h.kept.device h.kept.opening) ys
      → IsRunning seen s ys
  rebuilt seen s xs ys h outs_same devices_same hits_same faults_same workers_same each = record {
    kept = h.kept;
    each = each;
    one_state = record { once = λ k. rw (outs_same k) (h.one_state.once k); queued = h.one_state.queued };
    one_device = record { once = rw devices_same h.one_device.once };
    lines_once = record { once = λ b l. hits_same b l ∙ h.lines_once.once b l };
    faults_caused = faults_swap h.kept.opening h.kept.device xs ys faults_same h.faults_caused;
    one_worker = workers_same ∙ h.one_worker;
  }

  pub in_any_order : (seen : D → Device) (s : State D) (xs ys : List View) → IsPermutation xs ys → IsRunning seen s xs → IsRunning seen s ys
  in_any_order seen s xs ys p h =
      rebuilt seen s xs ys h (λ k. sum_by-IsPermutation (outs k) xs ys p) (sum_by-IsPermutation devices xs ys p)
      (λ b l. sum_by-IsPermutation (hits b l) xs ys p)
      (sum_by-IsPermutation faults xs ys p) (sum_by-IsPermutation workers xs ys p)
      (All-permutation (IsSeen s.core h.kept.current h.kept.device h.kept.opening) xs ys p h.each)

  seen_blank : (c : Cache D) (current : ℕ → List ℕ) (device : Device) (opening : Opening) → IsSeen c current device opening blank
  seen_blank c current device opening = record {
    opened = λ some. absurd (omega arith);
    lent = All-nil (IsLent c current);
    moves = tt;
    device_seen = tt;
    lines = All-nil (IsCurrent current);
  }

  pub with_blank : (seen : D → Device) (s : State D) (xs : List View) → IsRunning seen s xs → IsRunning seen s (blank ∷ xs)
  with_blank seen s xs h =
      rebuilt seen s xs (blank ∷ xs) h (λ k. omega (arith, sum_by-cons (outs k) blank xs)) (omega (arith, sum_by-cons devices blank xs))
      (λ b l. omega (arith, sum_by-cons (hits b l) blank xs)) (omega (arith, sum_by-cons faults blank xs))
      (omega (arith, sum_by-cons workers blank xs))
      (All-cons (IsSeen s.core h.kept.current h.kept.device h.kept.opening) blank xs
      (seen_blank s.core h.kept.current h.kept.device h.kept.opening) h.each)

  pub without_blank : (seen : D → Device) (s : State D) (xs : List View) → IsRunning seen s (blank ∷ xs) → IsRunning seen s xs
  without_blank seen s xs h =
      rebuilt seen s (blank ∷ xs) xs h (λ k. omega (arith, sum_by-cons (outs k) blank xs)) (omega (arith, sum_by-cons devices blank xs))
      (λ b l. omega (arith, sum_by-cons (hits b l) blank xs)) (omega (arith, sum_by-cons faults blank xs))
      (omega (arith, sum_by-cons workers blank xs))
      (All-tail (IsSeen s.core h.kept.current h.kept.device h.kept.opening) blank xs h.each)

  -- what the whole view notes is noted in its parts
  seen_left : (c : Cache D) (current : ℕ → List ℕ) (device : Device) (opening : Opening) (v a b : View) → IsCut v a b
      → IsSeen c current device opening v → IsSeen c current device opening a
  seen_left c current device opening v a b cut h = record {
    opened = λ some. cut.opening.0 ∙ h.opened (omega (arith, weighs_both v a b cut));
    lent = rw cut.loans.0 h.lent;
    moves = rw cut.moving.1 tt;
    device_seen = rw cut.device.1 tt;
    lines = All-left (IsCurrent current) a.lines b.lines (All-permutation (IsCurrent current) v.lines (a.lines ++ b.lines) cut.lines
        h.lines);
  }

  seen_right : (c : Cache D) (current : ℕ → List ℕ) (device : Device) (opening : Opening) (v a b : View) → IsCut v a b
      → IsSeen c current device opening v → IsSeen c current device opening b
  seen_right c current device opening v a b cut h = record {
    opened = λ some. cut.opening.1 ∙ h.opened (omega (arith, weighs_both v a b cut));
    lent = rw cut.loans.1 (All-nil (IsLent c current));
    moves = rw cut.moving.2 tt;
    device_seen = rw cut.device.2 tt;
    lines = All-right (IsCurrent current) a.lines b.lines (All-permutation (IsCurrent current) v.lines (a.lines ++ b.lines) cut.lines
        h.lines);
  }

  seen_whole : (c : Cache D) (current : ℕ → List ℕ) (device : Device) (opening : Opening) (v a b : View) → IsCut v a b
      → IsSeen c current device opening a → IsSeen c current device opening b → IsSeen c current device opening v
  seen_whole c current device opening v a b cut h k = record {
    opened = λ some. sym cut.opening.0 ∙ h.opened cut.some.0;
    lent = rw (← cut.loans.0) h.lent;
    moves = rw cut.moving.0 tt;
    device_seen = rw cut.device.0 tt;
    lines = All-permutation (IsCurrent current) (a.lines ++ b.lines) v.lines (IsPermutation-sym v.lines (a.lines ++ b.lines) cut.lines)
        (All-append (IsCurrent current) a.lines b.lines h.lines k.lines);
  }

  pub in_two : (seen : D → Device) (s : State D) (v a b : View) (xs : List View) → IsCut v a b → IsRunning seen s (v ∷ xs)
      → IsRunning seen s (a ∷ b ∷ xs)
  in_two seen s v a b xs cut h =
      rebuilt seen s (v ∷ xs) (a ∷ b ∷ xs) h
      (λ k. omega (arith, sum_by-cons (outs k) v xs, sum_of_two (outs k) a b xs, outs-cut k v a b cut))
      (omega (arith, sum_by-cons devices v xs, sum_of_two devices a b xs, devices-cut v a b cut))
      (λ c l. omega (arith, sum_by-cons (hits c l) v xs, sum_of_two (hits c l) a b xs, hits-cut c l v a b cut.lines))
      (omega (arith, sum_by-cons faults v xs, sum_of_two faults a b xs, cut.faults))
      (omega (arith, sum_by-cons workers v xs, sum_of_two workers a b xs, cut.workers))
      (All-cons (IsSeen s.core h.kept.current h.kept.device h.kept.opening) a (b ∷ xs)
      (seen_left s.core h.kept.current h.kept.device h.kept.opening v a b cut (All-head
      (IsSeen s.core h.kept.current h.kept.device h.kept.opening) v xs h.each))
      (All-cons (IsSeen s.core h.kept.current h.kept.device h.kept.opening) b xs (seen_right s.core h.kept.current h.kept.device
      h.kept.opening v a b cut (All-head (IsSeen s.core h.kept.current h.kept.device h.kept.opening) v xs h.each))
      (All-tail (IsSeen s.core h.kept.current h.kept.device h.kept.opening) v xs h.each)))

  pub in_one : (seen : D → Device) (s : State D) (v a b : View) (xs : List View) → IsCut v a b → IsRunning seen s (a ∷ b ∷ xs)
      → IsRunning seen s (v ∷ xs)
  in_one seen s v a b xs cut h =
      rebuilt seen s (a ∷ b ∷ xs) (v ∷ xs) h
      (λ k. omega (arith, sum_by-cons (outs k) v xs, sum_of_two (outs k) a b xs, outs-cut k v a b cut))
      (omega (arith, sum_by-cons devices v xs, sum_of_two devices a b xs, devices-cut v a b cut))
      (λ c l. omega (arith, sum_by-cons (hits c l) v xs, sum_of_two (hits c l) a b xs, hits-cut c l v a b cut.lines))
      (omega (arith, sum_by-cons faults v xs, sum_of_two faults a b xs, cut.faults))
      (omega (arith, sum_by-cons workers v xs, sum_of_two workers a b xs, cut.workers))
      (All-cons (IsSeen s.core h.kept.current h.kept.device h.kept.opening) v xs
      (seen_whole s.core h.kept.current h.kept.device h.kept.opening v a b cut (All-head
      (IsSeen s.core h.kept.current h.kept.device h.kept.opening) a (b ∷ xs) h.each)
      (All-head (IsSeen s.core h.kept.current h.kept.device h.kept.opening) b xs
      (All-tail (IsSeen s.core h.kept.current h.kept.device h.kept.opening) a (b ∷ xs) h.each)))
      (All-tail (IsSeen s.core h.kept.current h.kept.device h.kept.opening) b xs (All-tail
      (IsSeen s.core h.kept.current h.kept.device h.kept.opening) a (b ∷ xs) h.each)))
