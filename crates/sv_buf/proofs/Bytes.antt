-- The current bytes of all blocks, as one buffer or the device changes.
use Rattle.std.proofs.Common.{◌≡◌, ◌≢◌, ◌<◌, ◌==◌, ◌⊎◌, ℕ, true, false, cond, List, length, Some, sym, ap, ◌∙◌, subst, inl, inr}
use Rattle.std.proofs.lemmas.Bool.{cases_eq, false≢true, false_from_ne_true, eq-eqb, ne_eqb}
use Rattle.sv_form.specs.Image.{block_of}
use Rattle.sv_cache.specs.Cache.{Cache, Buffer, buffer_at, is_delayed}
use Rattle.sv_cache.specs.Lawful.{OneBufferABlock}
use Rattle.sv_cache.proofs.Laws.{changed, changed-same, changed-other}
use Rattle.sv_cache.proofs.Holder.{named-inside}
use Rattle.sv_buf.specs.View.{Device}
use Rattle.sv_buf.specs.Running.{HasCurrent}

-- a buffer that takes the place of another: its bytes, if they are in and valid, are those of its block; where the other was still
-- to be written, so is this one, and it names the same block
pub record TakesPlace {D : Type 0} (c : Cache D) (current : ℕ → List ℕ) (k : ℕ) (x : Buffer) : Type 0 where
  pub inside : k < length c.buffers
  pub in_range : (b : ℕ) → x.block ≡ Some b → b < c.geometry.blocks
  pub home : (b : ℕ) (y : List ℕ) → x.block ≡ Some b → x.valid ≡ true → x.bytes ≡ Some y → y ≡ current b
  pub valid : x.delayed ≡ true → x.valid ≡ true
  pub stays : is_delayed c k ≡ true → (x.delayed ≡ true) × (x.block ≡ (buffer_at c k).block)

-- what a buffer is where one has changed, in two cases
pub changed-cases : {D : Type 0} (c : Cache D) (k : ℕ) (x : Buffer) (P : ℕ → Buffer → Type 0) → k < length c.buffers → P k x → ((j : ℕ)
    → j ≢ k → P j (buffer_at c j)) → (j : ℕ) → P j (buffer_at (changed c k x) j)
changed-cases c k x P inside here there j =
    elim (cases_eq j k) [
      | inl e ↦ subst (λ i. P i (buffer_at (changed c k x) i)) (sym e) (subst (λ y. P k y) (sym (changed-same c k x inside)) here)
      | inr n ↦ subst (λ y. P j y) (sym (changed-other c k j x n)) (there j n)
    ]

pub current-changed : {D : Type 0} (c : Cache D) (current : ℕ → List ℕ) (device : Device) (k : ℕ) (x : Buffer)
    → HasCurrent c current device → TakesPlace c current k x → HasCurrent (changed c k x) current device
current-changed c current device k x h p = record {
  home = λ j. changed-cases c k x (λ i z. (b : ℕ) (y : List ℕ) → z.block ≡ Some b → z.valid ≡ true → z.bytes ≡ Some y
      → y ≡ current b) p.inside p.home (λ i n. h.home i) j;
  delayed_valid = λ j. changed-cases c k x (λ i z. z.delayed ≡ true → z.valid ≡ true) p.inside p.valid (λ i n. h.delayed_valid i) j;
  clean = λ b below none. h.clean b below (λ j named. by b none j named (cases_eq j k));
  in_range = λ j. changed-cases c k x (λ i z. (b : ℕ) → z.block ≡ Some b
      → b < c.geometry.blocks) p.inside p.in_range (λ i n. h.in_range i) j;
  size = h.size;
  whole = h.whole;
}
  where
    by : (b : ℕ) → ((j : ℕ) → (buffer_at (changed c k x) j).block ≡ Some b → is_delayed (changed c k x) j ≡ false) → (j : ℕ)
        → (buffer_at c j).block ≡ Some b → (j ≡ k) ⊎ (j ≢ k) → is_delayed c j ≡ false
    by b none j named (inl e) =
        false_from_ne_true (is_delayed c j) (λ t.
        let was : is_delayed c k ≡ true = subst (λ i. is_delayed c i ≡ true) e t in
        let kept = p.stays was in
        let at : (buffer_at (changed c k x) k).block ≡ Some b = ap (λ (y : Buffer). y.block) (changed-same c k x p.inside) ∙ (kept.1
        ∙ subst (λ i. (buffer_at c i).block ≡ Some b) e named) in
        false≢true (sym (none k at) ∙ (ap (λ (y : Buffer). y.delayed) (changed-same c k x p.inside) ∙ kept.0)))
    by b none j named (inr n) =
        ap (λ (y : Buffer). y.delayed) (sym (changed-other c k j x n)) ∙ none j (ap (λ (y : Buffer). y.block) (changed-other c k j x n)
        ∙ named)

-- the same over another list of free buffers, and with another device of the same content
pub current-as : {D : Type 0} (c e : Cache D) (current : ℕ → List ℕ) (d f : Device) → e.geometry ≡ c.geometry → e.buffers ≡ c.buffers
    → f.content ≡ d.content → HasCurrent c current d → HasCurrent e current f
current-as c e current d f sizes buffers content h =
    let over = subst (λ g. HasCurrent (record c { geometry = g }) current d) (sym sizes) h in
    let these = subst (λ l. HasCurrent (record c { geometry = e.geometry; buffers = l }) current d) (sym buffers)
    (record {
      home = over.home;
      delayed_valid = over.delayed_valid;
      clean = over.clean;
      in_range = over.in_range;
      size = over.size;
      whole = over.whole;
    }) in
    record {
      home = these.home;
      delayed_valid = these.delayed_valid;
      clean = λ b below none. subst (λ g. block_of e.geometry g b ≡ current b) (sym content) (these.clean b below none);
      in_range = these.in_range;
      size = these.size;
      whole = ap length content ∙ these.whole;
    }

-- the bytes of block b are these now
abbrev pub with_block : ℕ → List ℕ → (ℕ → List ℕ) → ℕ → List ℕ
with_block b bytes current = λ e. cond (e == b) bytes (current e)

pub with_block-same : (b : ℕ) (bytes : List ℕ) (current : ℕ → List ℕ) (e : ℕ) → e ≡ b → with_block b bytes current e ≡ bytes
with_block-same b bytes current e same = ap (λ t. cond t bytes (current e)) (eq-eqb e b same)

pub with_block-other : (b : ℕ) (bytes : List ℕ) (current : ℕ → List ℕ) (e : ℕ) → e ≢ b → with_block b bytes current e ≡ current e
with_block-other b bytes current e other = ap (λ t. cond t bytes (current e)) (ne_eqb e b other)

-- buffer k of block b has new bytes, still to be written; they are in or out
pub current-put : {D : Type 0} (c : Cache D) (current : ℕ → List ℕ) (device : Device) (k b : ℕ) (bytes : List ℕ) (x : Buffer)
    → HasCurrent c current device → OneBufferABlock c → (buffer_at c k).block ≡ Some b → length bytes ≡ length (current b)
    → x.block ≡ (buffer_at c k).block → x.valid ≡ true → x.delayed ≡ true
    → ((y : List ℕ) → x.bytes ≡ Some y → y ≡ bytes) → HasCurrent (changed c k x) (with_block b bytes current) device
current-put c current device k b bytes x h one named size block valid delayed has =
    let inside = named-inside c k b named in
    record {
      home = λ j. changed-cases c k x (λ i z. (e : ℕ) (y : List ℕ) → z.block ≡ Some e → z.valid ≡ true → z.bytes ≡ Some y
          → y ≡ with_block b bytes current e) inside
          (λ e y p q r. let same : e ≡ b = cc in has y r ∙ sym (with_block-same b bytes current e same))
          (λ i n e y p q r. h.home i e y p q r ∙ sym (with_block-other b bytes current e
          (λ (s : e ≡ b). n (one.same i k b (p ∙ ap Some s) named)))) j;
      delayed_valid = λ j. changed-cases c k x (λ i z. z.delayed ≡ true → z.valid ≡ true) inside (λ t. valid) (λ i n. h.delayed_valid i) j;
      clean = λ e below none. elim (cases_eq e b) [
        | inl s ↦ absurd (false≢true (sym (none k (ap (λ (y : Buffer). y.block) (changed-same c k x inside)
            ∙ (block ∙ (named ∙ ap Some (sym s))))) ∙ (ap (λ (y : Buffer). y.delayed) (changed-same c k x inside) ∙ delayed)))
        | inr n ↦ h.clean e below (λ j at.
            let other : j ≢ k = (λ s. n (let p : Some e ≡ Some b = sym at ∙ (ap (λ (i : ℕ). (buffer_at c i).block) s ∙ named) in cc)) in
            ap (λ (y : Buffer). y.delayed) (sym (changed-other c k j x other))
            ∙ none j (ap (λ (y : Buffer). y.block) (changed-other c k j x other) ∙ at)) ∙ sym (with_block-other b bytes current e n)
      ];
      in_range = λ j. changed-cases c k x (λ i z. (e : ℕ) → z.block ≡ Some e
          → e < c.geometry.blocks) inside (λ e p. h.in_range k e (sym block ∙ p)) (λ i n. h.in_range i) j;
      size = λ e below. elim (cases_eq e b) [
        | inl s ↦ ap length (with_block-same b bytes current e s) ∙ (size ∙ (ap (λ i. length (current i)) (sym s) ∙ h.size e below))
        | inr n ↦ ap length (with_block-other b bytes current e n) ∙ h.size e below
      ];
      whole = h.whole;
    }
