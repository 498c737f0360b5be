-- The content of the device changes at one block alone.
use Rattle.std.proofs.Common.{◌≡◌, ◌≢◌, ◌+◌, ◌-◌, ◌*◌, ◌<◌, ◌≤◌, ◌++◌, ◌⊎◌, ℕ, true, false, List, length, take, drop, Some, sym, ap, ◌∙◌, subst, arith, inl, inr}
use Rattle.std.proofs.Math.Nat.{mul-le-mul_right}
use Rattle.std.proofs.Math.Seq.{take-append_seam, drop-append_seam, drop-append-add}
use Rattle.std.proofs.lemmas.Bool.{cases_eq, cases_lt}
use Rattle.std.proofs.lemmas.List.{drop-take, take-append-drop, take-append-le, length-take, length-drop, length-append, append_assoc}
use Rattle.sv_dev.specs.Transfer.{IsTorn, overwritten}
use Rattle.sv_form.specs.declared.geometry.Geometry.{Geometry}
use Rattle.sv_form.specs.Image.{block_of}
use Rattle.sv_cache.specs.Cache.{Cache, Buffer, buffer_at}
use Rattle.sv_cache.specs.Lawful.{OneBufferABlock}
use Rattle.sv_cache.proofs.Laws.{changed, changed-same, changed-other}
use Rattle.sv_cache.proofs.Holder.{named-inside}
use Rattle.sv_buf.specs.View.{Device}
use Rattle.sv_buf.specs.Running.{HasCurrent}
use Rattle.sv_buf.proofs.Bytes.{changed-cases}

-- the first q of the first n are the first q
front : (xs : List ℕ) (n q : ℕ) → n ≤ length xs → q ≤ n → take q xs ≡ take q (take n xs)
front xs n q long below = ap (take q) (sym (take-append-drop n xs))
    ∙ take-append-le q (take n xs) (drop n xs) (omega (arith, length-take n xs))

-- what stands n + k deep stands k deep behind the first n
behind : (xs : List ℕ) (n k : ℕ) → n ≤ length xs → drop (n + k) xs ≡ drop k (drop n xs)
behind xs n k long =
    let size : length (take n xs) ≡ n = omega (arith, length-take n xs) in
    ap (drop (n + k)) (sym (take-append-drop n xs)) ∙ (ap (λ q. drop (q + k) (take n xs ++ drop n xs)) (sym size)
    ∙ drop-append-add (take n xs) (drop n xs) k)

same-before : (xs ys : List ℕ) (n a m : ℕ) → n ≤ length xs → n ≤ length ys → a + m ≤ n → take n xs ≡ take n ys
    → take m (drop a xs) ≡ take m (drop a ys)
same-before xs ys n a m long too below same =
    sym (drop-take a m xs) ∙ (ap (drop a) (front xs n (a + m) long below ∙ (ap (take (a + m)) same ∙ sym (front ys n (a + m) too below)))
    ∙ drop-take a m ys)

same-after : (xs ys : List ℕ) (n a m : ℕ) → n ≤ length xs → n ≤ length ys → n ≤ a → drop n xs ≡ drop n ys
    → take m (drop a xs) ≡ take m (drop a ys)
same-after xs ys n a m long too above same =
    let deep : a ≡ n + (a - n) = omega arith in
    ap (λ q. take m (drop q xs)) deep ∙ (ap (take m) (behind xs n (a - n) long ∙ (ap (drop (a - n)) same ∙ sym (behind ys n (a - n) too)))
    ∙ ap (λ q. take m (drop q ys)) (sym deep))

-- the content of a device has the same length, and changed at block b alone
pub record ChangedAt (g : Geometry) (b : ℕ) (old new : List ℕ) : Type 0 where
  pub size : length new ≡ length old
  pub others : (e : ℕ) → e < g.blocks → e ≢ b → block_of g new e ≡ block_of g old e

rows : (n e z : ℕ) → e < n → e * z + z ≤ n * z
rows n e z below = let more : (e + 1) * z ≤ n * z = mul-le-mul_right z (omega arith) in omega arith

torn-others : (g : Geometry) (b : ℕ) (old new : List ℕ) → length old ≡ g.blocks * g.block_size → b < g.blocks
    → IsTorn old (b * g.block_size) g.block_size new → (e : ℕ) → e < g.blocks → e ≢ b → (e < b) ⊎ (b ≤ e)
    → block_of g new e ≡ block_of g old e
unfolding block_of
torn-others g b old new whole below torn e inside other (inl less) =
    let here = rows g.blocks b g.block_size below in
    let before = rows b e g.block_size less in
    let size = torn.same_length in
    same-before new old (b * g.block_size) (e * g.block_size) (e * g.block_size + g.block_size - e * g.block_size)
    (omega arith) (omega arith) (omega arith) torn.before
torn-others g b old new whole below torn e inside other (inr more) =
    let here = rows g.blocks b g.block_size below in
    let there = rows g.blocks e g.block_size inside in
    let after = rows e b g.block_size (let n : b ≢ e = (λ q. other (sym q)) in omega arith) in
    let size = torn.same_length in
    same-after new old (b * g.block_size + g.block_size) (e * g.block_size) (e * g.block_size + g.block_size - e * g.block_size)
    (omega arith) (omega arith) (omega arith) torn.after

-- a write that failed changes one block
pub block-torn : (g : Geometry) (b : ℕ) (old new : List ℕ) → g.block_size ≡ 1024 → length old ≡ g.blocks * g.block_size → b < g.blocks
    → IsTorn old (b * 1024) 1024 new → ChangedAt g b old new
block-torn g b old new size whole below torn = record {
  size = torn.same_length;
  others = λ e inside other. torn-others g b old new whole below (subst (λ z. IsTorn old (b * z) z new) (sym size) torn) e inside other
      (cases_lt e b);
}

-- a write leaves what a write that failed may leave
written-torn : (old bytes : List ℕ) (at : ℕ) → at + length bytes ≤ length old → IsTorn old at (length bytes) (overwritten old at bytes)
written-torn old bytes at fits =
    let size : length (take at old) ≡ at = omega (arith, length-take at old) in
    record {
      same_length = simp (length-append, length-take, length-drop) (omega arith);
      before = ap (take at) (append_assoc (take at old) bytes (drop (at + length bytes) old))
          ∙ (ap (λ q. take q (take at old ++ (bytes ++ drop (at + length bytes) old))) (sym size)
          ∙ take-append_seam (take at old) (bytes ++ drop (at + length bytes) old));
      after = ap (drop (at + length bytes)) (append_assoc (take at old) bytes (drop (at + length bytes) old))
          ∙ (ap (λ q. drop (q + length bytes) (take at old ++ (bytes ++ drop (at + length bytes) old))) (sym size)
          ∙ (drop-append-add (take at old) (bytes ++ drop (at + length bytes) old) (length bytes)
          ∙ drop-append_seam bytes (drop (at + length bytes) old)));
    }

written-here : (old bytes : List ℕ) (at m : ℕ) → at + length bytes ≤ length old → m ≡ length bytes
    → take m (drop at (overwritten old at bytes)) ≡ bytes
written-here old bytes at m fits is =
    let size : length (take at old) ≡ at = omega (arith, length-take at old) in
    ap (λ q. take m (drop at q)) (append_assoc (take at old) bytes (drop (at + length bytes) old))
    ∙ (ap (take m) (ap (λ q. drop q (take at old ++ (bytes ++ drop (at + length bytes) old))) (sym size)
    ∙ drop-append_seam (take at old) (bytes ++ drop (at + length bytes) old))
    ∙ (ap (λ q. take q (bytes ++ drop (at + length bytes) old)) is ∙ take-append_seam bytes (drop (at + length bytes) old)))

-- a write that succeeded changes one block, to what was written
pub block-written : (g : Geometry) (b : ℕ) (old bytes new : List ℕ) → g.block_size ≡ 1024 → length old ≡ g.blocks * g.block_size
    → b < g.blocks → length bytes ≡ 1024 → new ≡ overwritten old (b * 1024) bytes
    → ChangedAt g b old new × (block_of g new b ≡ bytes)
unfolding block_of
block-written g b old bytes new size whole below long is =
    let here = rows g.blocks b g.block_size below in
    let room : b * 1024 + 1024 ≤ length old = subst (λ z. b * z + z ≤ length old) size (omega arith) in
    let fits : b * 1024 + length bytes ≤ length old = omega (arith, room, long) in (
      block-torn g b old new size whole below (subst (IsTorn old (b * 1024) 1024) (sym is)
          (subst (λ n. IsTorn old (b * 1024) n (overwritten old (b * 1024) bytes)) long (written-torn old bytes (b * 1024) fits))),
      ap (λ z. take (b * z + z - b * z) (drop (b * z) new)) size
          ∙ (ap (λ q. take (b * 1024 + 1024 - b * 1024) (drop (b * 1024) q)) is
          ∙ written-here old bytes (b * 1024) (b * 1024 + 1024 - b * 1024) fits (omega (arith, long))),
    )

-- buffer k of block b is what it was, still to be written or not, and the device has changed at block b alone
pub record Transferred {D : Type 0} (c : Cache D) (current : ℕ → List ℕ) (d f : Device) (k b : ℕ) (x : Buffer) : Type 0 where
  pub named : (buffer_at c k).block ≡ Some b
  pub block : x.block ≡ Some b
  pub home : (y : List ℕ) → x.valid ≡ true → x.bytes ≡ Some y → y ≡ current b
  pub valid : x.delayed ≡ true → x.valid ≡ true
  pub changed_at : ChangedAt c.geometry b d.content f.content
  pub written : x.delayed ≡ false → block_of c.geometry f.content b ≡ current b

pub current-transferred : {D : Type 0} (c : Cache D) (current : ℕ → List ℕ) (d f : Device) (k b : ℕ) (x : Buffer)
    → HasCurrent c current d → OneBufferABlock c → Transferred c current d f k b x → HasCurrent (changed c k x) current f
current-transferred c current d f k b x h one p =
    let inside = named-inside c k b p.named in
    record {
      home = λ j. changed-cases c k x (λ i z. (e : ℕ) (y : List ℕ) → z.block ≡ Some e → z.valid ≡ true → z.bytes ≡ Some y
          → y ≡ current e) inside
          (λ e y named valid has. let same : Some b ≡ Some e = sym p.block ∙ named in let at : b ≡ e = cc in p.home y valid has
          ∙ ap current at)
          (λ i n. h.home i) j;
      delayed_valid = λ j. changed-cases c k x (λ i z. z.delayed ≡ true → z.valid ≡ true) inside p.valid (λ i n. h.delayed_valid i) j;
      clean = λ e below none. elim (cases_eq e b) [
        | inl s ↦
            ap (block_of c.geometry f.content) s
            ∙ (p.written (ap (λ (y : Buffer). y.delayed) (sym (changed-same c k x inside))
            ∙ none k (ap (λ (y : Buffer). y.block) (changed-same c k x inside) ∙ (p.block ∙ ap Some (sym s)))) ∙ ap current (sym s))
        | inr n ↦ p.changed_at.others e below n ∙ h.clean e below (λ j at.
            let other : j ≢ k = (λ s. n (let q : Some e ≡ Some b = sym at ∙ (ap (λ (i : ℕ). (buffer_at c i).block) s ∙ p.named) in cc)) in
            ap (λ (y : Buffer). y.delayed) (sym (changed-other c k j x other))
            ∙ none j (ap (λ (y : Buffer). y.block) (changed-other c k j x other) ∙ at))
      ];
      in_range = λ j. changed-cases c k x (λ i z. (e : ℕ) → z.block ≡ Some e
          → e < c.geometry.blocks) inside
          (λ e named. let same : Some b ≡ Some e = sym p.block ∙ named in let at : b ≡ e = cc in
          subst (λ i. i < c.geometry.blocks) at (h.in_range k b p.named)) (λ i n. h.in_range i) j;
      size = h.size;
      whole = p.changed_at.size ∙ h.whole;
    }
