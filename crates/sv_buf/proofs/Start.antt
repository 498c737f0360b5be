-- A new cache meets the rule: no buffer names a block, and all lines of the disk are held once.
use Rattle.std.proofs.Common.{◌≡◌, ◌+◌, ◌*◌, ◌<◌, ◌≤◌, ◌==◌, ◌&&◌, ℕ, zero, suc, Bool, true, false, cond, List, [], ◌∷◌, length, drop, min, replicate, nat_lt, Option, Some, None, IsSome, IfSome, refl, sym, ap, ◌∙◌, subst, arith, inl, inr, ◌-◌, ◌^◌, add-zero}
use Rattle.std.specs.List.{count_by, All}
use Rattle.std.specs.List.{range_with_len}
use Rattle.std.specs.List.Sorted.{IsPermutation}
use Rattle.std.proofs.Math.Nat.{mul-le-mul_right}
use Rattle.std.proofs.Math.Path.{fun_ext}
use Rattle.std.proofs.lemmas.Bool.Decides.{nat_tests}
use Rattle.std.proofs.lemmas.List.Sums.{sum_by-cons, sum_by-append}
use Rattle.std.proofs.lemmas.List.Sorted.{IsPermutation-refl}
use Rattle.std.proofs.lemmas.Bool.{cases_lt, false≢true, and_parts, ltb-true, lt-ltb, le-ltb}
use Rattle.std.proofs.lemmas.Option.{none-some}
use Rattle.std.proofs.lemmas.List.{length-append, append-nil, length-replicate, get_or_past, get_or-replicate, length-take, length-drop}
use Rattle.std.proofs.lemmas.List.Elements.{All-nil, All-cons, All-append}
use Rattle.sv_form.specs.declared.geometry.Geometry.{Geometry}
use Rattle.sv_form.specs.Geometry.{IsGeometry, block_lines}
use Rattle.sv_form.specs.Image.{block_of}
use Rattle.sv_links.specs.Arrangement.{times, one_if}
use Rattle.sv_links.proofs.Walk.{times-range_in, times-range_past}
use Rattle.sv_cache.specs.Cache.{Cache, Buffer, is_delayed, no_buffer, new_buffer, new_cache}
use Rattle.sv_cache.proofs.New.{new-block, lawful-new}
use Rattle.sv_request.specs.Queue.{Queue}
use Rattle.sv_store.specs.Held.{line_of, InRange}
use Rattle.sv_store.proofs.Lines.{length-line_of}
use Rattle.sv_buf.specs.View.{Noted, Opening, Device, is_at, hits, outs, held_of, weight}
use Rattle.sv_buf.specs.Running.{IsCurrent, IsSeen, IsLent, IsRunning, IsFit}
use Rattle.sv_buf.specs.Start.{block_notes, all_notes, whole_view, lines_view, worker_view, of_disk, opened_with, IsNew}
use Rattle.sv_buf.specs.Parting.{IsCut}
use Rattle.sv_buf.proofs.Lists.{held-some, held-none, held-current}

one_more : (n l : ℕ) → one_if (n == l) + one_if (nat_lt l n) ≡ one_if (nat_lt l (suc n))
one_more n l = grind (nat_tests, arith)

one_more-in : (t : Bool) (n l : ℕ) → one_if (t && (n == l)) + one_if (t && nat_lt l n) ≡ one_if (t && nat_lt l (suc n))
one_more-in false n l = refl
one_more-in true n l = one_more n l

block-hits : (current : ℕ → List ℕ) (b n c l : ℕ) → count_by (is_at c l) (block_notes current b n) ≡ one_if ((b == c) && nat_lt l n)
unfolding block_notes
block-hits current b zero c l = sym (none (b == c))
  where
    none : (t : Bool) → one_if (t && nat_lt l 0) ≡ 0
    none false = refl
    none true = below l
      where
        below : (m : ℕ) → one_if (nat_lt m 0) ≡ 0
        below m = grind (nat_tests, arith)
block-hits current b (suc n) c l =
    sum_by-cons (λ (x : Noted). cond (is_at c l x) 1 0) (record { block = b; line = n; bytes = line_of (current b) n })
    (block_notes current b n)
    ∙ (ap (λ m. one_if ((b == c) && (n == l)) + m) (block-hits current b n c l) ∙ one_more-in (b == c) n l)

and-true : (p : Bool) → (p && true) ≡ p
and-true true = refl
and-true false = refl

and-false : (p : Bool) → (p && false) ≡ false
and-false true = refl
and-false false = refl

one_in : (t p q r : Bool) → one_if p + one_if q ≡ one_if r → one_if (p && t) + one_if (q && t) ≡ one_if (r && t)
one_in true p q r e = rw (and-true p, and-true q, and-true r) e
one_in false p q r e = rw (and-false p, and-false q, and-false r) refl

all-hits : (current : ℕ → List ℕ) (n b c l : ℕ) → count_by (is_at c l) (all_notes current n b) ≡ one_if (nat_lt c b && nat_lt l n)
unfolding all_notes
all-hits current n zero c l = sym (ap (λ t. one_if (t && nat_lt l n)) (never c))
  where
    never : (m : ℕ) → nat_lt m 0 ≡ false
    never m = grind (nat_tests, arith)
all-hits current n (suc b) c l =
    sum_by-append (λ (x : Noted). cond (is_at c l x) 1 0) (block_notes current b n) (all_notes current n b)
    ∙ (ap (λ m. m + count_by (is_at c l) (all_notes current n b)) (block-hits current b n c l)
    ∙ (ap (λ m. one_if ((b == c) && nat_lt l n) + m) (all-hits current n b c l)
    ∙ one_in (nat_lt l n) (b == c) (nat_lt c b) (nat_lt c (suc b)) (one_more b c)))

block-length : (current : ℕ → List ℕ) (b n : ℕ) → length (block_notes current b n) ≡ n
unfolding block_notes
block-length current b zero = refl
block-length current b (suc n) = ap suc (block-length current b n)

all-length : (current : ℕ → List ℕ) (n b : ℕ) → length (all_notes current n b) ≡ n * b
unfolding all_notes
all-length current n zero = omega arith
all-length current n (suc b) = omega (
  arith,
  length-append (block_notes current b n) (all_notes current n b),
  block-length current b n,
  all-length current n b,
)

block-current : (current : ℕ → List ℕ) (b n : ℕ) → All (IsCurrent current) (block_notes current b n)
unfolding block_notes
block-current current b zero = All-nil (IsCurrent current)
block-current current b (suc n) = All-cons (IsCurrent current) (record { block = b; line = n; bytes = line_of (current b) n })
    (block_notes current b n) refl (block-current current b n)

all-current : (current : ℕ → List ℕ) (n b : ℕ) → All (IsCurrent current) (all_notes current n b)
unfolding all_notes
all-current current n zero = All-nil (IsCurrent current)
all-current current n (suc b) = All-append (IsCurrent current) (block_notes current b n) (all_notes current n b)
    (block-current current b n) (all-current current n b)

lines_by_bytes : (l : ℕ) → nat_lt l 16 ≡ nat_lt (l * 64) 1024
lines_by_bytes l = grind (nat_tests, arith)

-- a disk has sixteen lines a block
sixteen : (g : Geometry) → IsGeometry g → block_lines g ≡ 16
sixteen g is = let e = is.block_size in omega arith

pub whole-hits : (o : Opening) (b l : ℕ) → IsGeometry o.sizes → hits b l (whole_view o) ≡ one_if
    (nat_lt b o.sizes.blocks && nat_lt (l * 64) o.sizes.block_size)
whole-hits o b l is =
    all-hits (block_of o.sizes o.disk.content) (block_lines o.sizes) o.sizes.blocks b l
    ∙ ap (λ t. one_if (nat_lt b o.sizes.blocks && t)) (ap (nat_lt l) (sixteen o.sizes is)
    ∙ (lines_by_bytes l ∙ ap (nat_lt (l * 64)) (sym is.block_size)))

pub whole-weight : (o : Opening) → IsGeometry o.sizes → weight (whole_view o) ≡ 16 * o.sizes.blocks + 1
whole-weight o is = ap (λ n. n + 1) (all-length (block_of o.sizes o.disk.content) (block_lines o.sizes) o.sizes.blocks
    ∙ ap (λ n. n * o.sizes.blocks) (sixteen o.sizes is))

pub whole-current : (o : Opening) → All (IsCurrent (block_of o.sizes o.disk.content)) (whole_view o).lines
whole-current o = all-current (block_of o.sizes o.disk.content) (block_lines o.sizes) o.sizes.blocks

-- the worker's part is cut off
pub cut-worker : (o : Opening) → IsGeometry o.sizes → IsCut (whole_view o) (lines_view o) (worker_view o)
cut-worker o is = record {
  opening = (refl, refl);
  lines = subst (λ xs. IsPermutation (whole_view o).lines xs) (sym (append-nil (whole_view o).lines))
      (IsPermutation-refl (whole_view o).lines);
  loans = (refl, refl);
  moving = (refl, refl, refl);
  device = (refl, refl, refl);
  faults = refl;
  forced = refl;
  workers = refl;
  some = (let w = whole-weight o is in let least = is.least_blocks in omega arith, omega arith);
}

-- a new cache meets the rule, with all its lines and the worker in one view
undelayed : {D : Type 0} (d : D) (n : ℕ) (g : Geometry) (k : ℕ) → is_delayed (new_cache d n g) k ≡ false
undelayed d n g k =
    elim (cases_lt k n) [
      | inl h ↦ ap (λ (x : Buffer). x.delayed) (get_or-replicate n k (new_buffer g.block_size) no_buffer h)
      | inr h ↦ ap (λ (x : Buffer). x.delayed) (get_or_past (replicate n (new_buffer g.block_size)) k no_buffer
          (omega (arith, length-replicate n (new_buffer g.block_size))))
    ]

length-block : (g : Geometry) (content : List ℕ) (b : ℕ) → length content ≡ g.blocks * g.block_size → b < g.blocks
    → length (block_of g content b) ≡ g.block_size
unfolding block_of
length-block g content b whole below =
    let fits : b * g.block_size + g.block_size ≤ g.blocks * g.block_size = rows g.blocks b g.block_size below in
    length-take (b * g.block_size + g.block_size - b * g.block_size) (drop (b * g.block_size) content)
    ∙ (ap (min (b * g.block_size + g.block_size - b * g.block_size)) (length-drop (b * g.block_size) content) ∙ omega (arith, fits, whole))
  where
    rows : (n b z : ℕ) → b < n → b * z + z ≤ n * z
    rows n b z below = let more : (b + 1) * z ≤ n * z = mul-le-mul_right z (omega arith) in omega arith

counted-once : (n k : ℕ) → times k (range_with_len 0 n) ≡ one_if (nat_lt k n)
counted-once n k =
    elim (cases_lt k n) [
      | inl h ↦ times-range_in k 0 n (omega arith) (omega arith) ∙ sym (ap one_if (lt-ltb k n h))
      | inr h ↦ times-range_past k 0 n (omega arith) ∙ sym (ap one_if (le-ltb k n h))
    ]

pub begins : {D : Type 0} (seen : D → Device) (c : Cache D) (n : ℕ) (g : Geometry) (requests : Queue) → IsNew seen c n g
    → requests ≡ record { capacity = n; waiting = [] }
    → IsRunning seen (record { core = c; requests = requests; stopping = false }) (whole_view (opened_with seen c) ∷ [])
begins {D} seen c n g requests new empty =
    subst (λ q. IsRunning seen (record { core = q; requests = requests; stopping = false }) (whole_view (opened_with seen q) ∷ []))
    (sym new.is)
    (subst (λ q. IsRunning seen (record { core = new_cache new.disk n g; requests = q; stopping = false })
    (whole_view (opened_with seen (new_cache new.disk n g)) ∷ [])) (sym empty) at)
  where
    at : IsRunning seen (record { core = new_cache new.disk n g; requests = record { capacity = n; waiting = [] }; stopping = false })
        (whole_view (opened_with seen (new_cache new.disk n g)) ∷ [])
    at = record {
      kept = record {
        current = block_of g (seen new.disk).content;
        device = seen new.disk;
        opening = opened_with seen (new_cache new.disk n g);
        lawful = lawful-new new.disk n g;
        sizes = new.sizes;
        same_sizes = refl;
        same_count = refl;
        few = omega (arith, new.count.most, length-replicate n (new_buffer g.block_size));
        room = sym (length-replicate n (new_buffer g.block_size));
        bytes = record {
          home = λ k b y named valid has. absurd (none-some b (sym (new-block new.disk n g k) ∙ named));
          delayed_valid = λ k t. absurd (false≢true (sym (undelayed new.disk n g k) ∙ t));
          clean = λ b below none. refl;
          in_range = λ k b named. absurd (none-some b (sym (new-block new.disk n g k) ∙ named));
          size = λ b below. length-block g (seen new.disk).content b new.whole below;
          whole = new.whole;
        };
        device_home = refl;
      };
      each = All-cons (IsSeen (new_cache new.disk n g) (block_of g (seen new.disk).content) (seen new.disk)
          (opened_with seen (new_cache new.disk n g))) (whole_view (opened_with seen (new_cache new.disk n g))) [] (record {
            opened = λ some. refl;
            lent = All-nil (IsLent (new_cache new.disk n g) (block_of g (seen new.disk).content));
            moves = tt;
            device_seen = tt;
            lines = whole-current (opened_with seen (new_cache new.disk n g));
          }) (All-nil (IsSeen (new_cache new.disk n g) (block_of g (seen new.disk).content) (seen new.disk)
          (opened_with seen (new_cache new.disk n g))));
      one_state = record {
        once = λ k. omega (
          arith,
          counted-once n k,
          ap (λ m. one_if (nat_lt k m))
              (length-replicate n (new_buffer g.block_size)),
          sum_by-cons (outs k) (whole_view (opened_with seen (new_cache new.disk n g)))
              [],
        );
        queued = λ k on. absurd (omega arith);
      };
      one_device = record { once = refl };
      lines_once = record {
        once = λ b l. sum_by-cons (hits b l) (whole_view (opened_with seen (new_cache new.disk n g))) []
            ∙ (add-zero (hits b l (whole_view (opened_with seen (new_cache new.disk n g))))
            ∙ whole-hits (opened_with seen (new_cache new.disk n g)) b l new.sizes);
      };
      faults_caused = λ low. omega arith;
      one_worker = refl;
    }

pub begins-weight : {D : Type 0} (seen : D → Device) (c : Cache D) (n : ℕ) (g : Geometry) → IsNew seen c n g
    → (0 < weight (whole_view (opened_with seen c))) × (weight (whole_view (opened_with seen c)) ≤ 2 ^ 63)
begins-weight seen c n g new =
    let sizes : IsGeometry c.geometry = subst (λ q. IsGeometry q.geometry) (sym new.is) new.sizes in
    let w = whole-weight (opened_with seen c) sizes in
    let most = sizes.most_blocks in
    (omega arith, omega arith)

-- the lines that a new cache holds are those of the disk
pub held-all : (o : Opening) → IsGeometry o.sizes → held_of (whole_view o).lines ≡ of_disk o.sizes o.disk.content
unfolding of_disk
held-all o is = fun_ext (λ b. fun_ext (λ l. by b l (nat_lt b o.sizes.blocks && nat_lt (l * 64) o.sizes.block_size) (whole-hits o b l is)))
  where
    value : (r : Option (List ℕ)) (x : List ℕ) → IsSome r → IfSome r (λ y. x ≡ y) → r ≡ Some x
    value None x some are = absurd (false≢true some)
    value (Some y) x some are = ap Some (sym are)

    by : (b l : ℕ) (t : Bool) → hits b l (whole_view o) ≡ one_if t → held_of (whole_view o).lines b l ≡ cond t
        (Some (line_of (block_of o.sizes o.disk.content b) l)) None
    by b l true one = value (held_of (whole_view o).lines b l) (line_of (block_of o.sizes o.disk.content b) l)
        (held-some b l (whole_view o).lines (omega arith)) (held-current (block_of o.sizes o.disk.content) b l (whole_view o).lines
        (whole-current o))
    by b l false none = held-none b l (whole_view o).lines none

-- a stake may stand for all lines
pub fit-lines : (o : Opening) → IsGeometry o.sizes → length o.disk.content ≡ o.sizes.blocks * o.sizes.block_size → IsFit (lines_view o)
unfolding of_disk
fit-lines o is whole = record {
  sizes = is;
  range = subst (InRange o.sizes) (sym (held-all o is)) (record {
    block = λ b l some. ltb-true b o.sizes.blocks (and_parts (nat_lt b o.sizes.blocks) (nat_lt (l * 64) o.sizes.block_size)
        (holds (nat_lt b o.sizes.blocks && nat_lt (l * 64) o.sizes.block_size) (line_of (block_of o.sizes o.disk.content b) l) some)).0;
    line = λ b l some. ltb-true (l * 64) o.sizes.block_size (and_parts (nat_lt b o.sizes.blocks) (nat_lt (l * 64) o.sizes.block_size)
        (holds (nat_lt b o.sizes.blocks && nat_lt (l * 64) o.sizes.block_size) (line_of (block_of o.sizes o.disk.content b) l) some)).1;
    bytes = λ b l. size b l (nat_lt b o.sizes.blocks && nat_lt (l * 64) o.sizes.block_size) refl;
  });
  some = let w = whole-weight o is in let least = is.least_blocks in omega arith;
  calm = refl;
  home = refl;
  no_worker = refl;
  once = λ b l. subst (λ n. n ≤ 1) (sym (whole-hits o b l is)) (at_most (nat_lt b o.sizes.blocks && nat_lt (l * 64) o.sizes.block_size));
}
  where
    at_most : (t : Bool) → one_if t ≤ 1
    at_most true = omega arith
    at_most false = omega arith

    holds : (t : Bool) (x : List ℕ) → IsSome (cond t (Some x) None) → t ≡ true
    holds true x some = refl
    holds false x some = absurd (false≢true some)

    size : (b l : ℕ) (t : Bool) → (nat_lt b o.sizes.blocks && nat_lt (l * 64) o.sizes.block_size) ≡ t
        → IfSome (cond t (Some (line_of (block_of o.sizes o.disk.content b) l)) None) (λ line. length line ≡ 64)
    size b l false at = tt
    size b l true at =
        let parts = and_parts (nat_lt b o.sizes.blocks) (nat_lt (l * 64) o.sizes.block_size) at in
        let low = ltb-true b o.sizes.blocks parts.0 in
        let inside = ltb-true (l * 64) o.sizes.block_size parts.1 in
        let long = length-block o.sizes o.disk.content b whole low in
        let bytes = is.block_size in
        length-line_of (block_of o.sizes o.disk.content b) l ∙ omega arith
