-- The cache stays lawful: a block in one buffer, a buffer in one state, a buffer's bytes one block.
use Rattle.std.proofs.Common.{◌≡◌, ◌≢◌, ℕ, ◌+◌, ◌<◌, ◌==◌, List, length, set, Option, Some, None, IsSome, refl, sym, ap, ◌∙◌, arith, inl, inr, subst}
use Rattle.std.proofs.lemmas.Bool.{cases_eq}
use Rattle.std.proofs.lemmas.List.{get_or-set_same, get_or-set_other, length-set}
use Rattle.sv_links.specs.Arrangement.{times, without, one_if}
use Rattle.sv_links.proofs.Times.{times-push, times-cons, one-if_same, none-if_other, times-without_same, times-without_other}
use Rattle.sv_cache.specs.declared.scenario.Release.{Release}
use Rattle.sv_cache.specs.declared.scenario.Release.TheVariants.{Valid, Old, Invalid, Delayed, FailedWrite}
use Rattle.sv_cache.specs.Cache.{Cache, Buffer, buffer_at, no_buffer, IsBusy}
use Rattle.sv_cache.specs.Getblk.{renamed, IsUnnamed}
use Rattle.sv_cache.specs.Brelse.{after_lend, after_release, released, freed}
use Rattle.sv_cache.specs.Lawful.{IsLawful, OneBufferABlock, WholeBlocks}

-- buffer k is x now
abbrev pub changed : {D : Type 0} → Cache D → ℕ → Buffer → Cache D
changed c k x = record c { buffers = set c.buffers k x }

pub changed-same : {D : Type 0} (c : Cache D) (k : ℕ) (x : Buffer) → k < length c.buffers → buffer_at (changed c k x) k ≡ x
changed-same c k x inside = get_or-set_same c.buffers k x no_buffer inside

pub changed-other : {D : Type 0} (c : Cache D) (k j : ℕ) (x : Buffer) → j ≢ k → buffer_at (changed c k x) j ≡ buffer_at c j
changed-other c k j x n = get_or-set_other c.buffers k j x no_buffer n

-- a change of one buffer that keeps its block keeps the blocks of all
pub changed-block : {D : Type 0} (c : Cache D) (k : ℕ) (x : Buffer) → k < length c.buffers → x.block ≡ (buffer_at c k).block → (j : ℕ) → (buffer_at (changed c k x) j).block ≡ (buffer_at c j).block
changed-block c k x inside same j =
    elim (cases_eq j k) [
      | inl e ↦ rw (e, changed-same c k x inside) same
      | inr n ↦ ap (λ (y : Buffer). y.block) (changed-other c k j x n)
    ]

one_buffer-from : {D : Type 0} (c d : Cache D) → ((j : ℕ) → (buffer_at d j).block ≡ (buffer_at c j).block) → OneBufferABlock c → OneBufferABlock d
one_buffer-from c d same one = record { same = λ j k b p q. one.same j k b (sym (same j) ∙ p) (sym (same k) ∙ q) }

whole-changed : {D : Type 0} (c : Cache D) (k : ℕ) (x : Buffer) → WholeBlocks c → k < length c.buffers → ((bytes : List ℕ) → x.bytes ≡ Some bytes → length bytes ≡ c.geometry.block_size) → WholeBlocks (changed c k x)
whole-changed c k x whole inside fits = record {
  size = λ j bytes p. elim (cases_eq j k) [
    | inl e ↦ fits bytes (sym (ap (λ (y : Buffer). y.bytes) (changed-same c k x inside)) ∙ ap (λ (i : ℕ). (buffer_at (changed c k x) i).bytes) (sym e) ∙ p)
    | inr n ↦ whole.size j bytes (sym (ap (λ (y : Buffer). y.bytes) (changed-other c k j x n)) ∙ p)
  ];
}

pub lawful-lend : {D : Type 0} (c : Cache D) (k : ℕ) → IsLawful c → IsBusy c k → IsLawful (after_lend c k)
lawful-lend c k h busy = record {
  one_buffer = one_buffer-from c (after_lend c k) (changed-block c k (record (buffer_at c k) { bytes = None }) busy.in_range refl) h.one_buffer;
  one_state = record {
    once = h.one_state.once;
    in_range = λ j on. omega (arith, h.one_state.in_range j on, length-set c.buffers k (record (buffer_at c k) { bytes = None }));
    home = λ j on. elim (cases_eq j k) [
      | inl e ↦ let z : times j c.free ≡ 0 = subst (λ i. times i c.free ≡ 0) (sym e) busy.busy in absurd (omega arith)
      | inr n ↦ subst (λ (x : Buffer). IsSome x.bytes) (sym (changed-other c k j (record (buffer_at c k) { bytes = None }) n)) (h.one_state.home j on)
    ];
  };
  whole = whole-changed c k (record (buffer_at c k) { bytes = None }) h.whole busy.in_range (λ bytes p. absurd cc);
}

-- a buffer off the free list goes on it once
pub times-freed : (free : List ℕ) (k j : ℕ) (how : Release) → times j (freed free k how) ≡ times j free + one_if (k == j)
times-freed free k j Valid = times-push k j free
times-freed free k j Delayed = times-push k j free
times-freed free k j Old = times-cons k j free
times-freed free k j Invalid = times-cons k j free
times-freed free k j FailedWrite = times-cons k j free

pub released-block : (x : Buffer) (bytes : List ℕ) (how : Release) → (released x bytes how).block ≡ x.block
released-block x bytes Valid = refl
released-block x bytes Old = refl
released-block x bytes Invalid = refl
released-block x bytes Delayed = refl
released-block x bytes FailedWrite = refl

released-bytes : (x : Buffer) (bytes : List ℕ) (how : Release) → (released x bytes how).bytes ≡ Some bytes
released-bytes x bytes Valid = refl
released-bytes x bytes Old = refl
released-bytes x bytes Invalid = refl
released-bytes x bytes Delayed = refl
released-bytes x bytes FailedWrite = refl

pub lawful-release : {D : Type 0} (c : Cache D) (k : ℕ) (bytes : List ℕ) (how : Release) → IsLawful c → IsBusy c k → length bytes ≡ c.geometry.block_size → IsLawful (after_release c k bytes how)
lawful-release c k bytes how h busy size =
    let x : Buffer = released (buffer_at c k) bytes how in
    let has : x.bytes ≡ Some bytes = released-bytes (buffer_at c k) bytes how in
    record {
      one_buffer = one_buffer-from c (after_release c k bytes how) (changed-block c k x busy.in_range (released-block (buffer_at c k) bytes how)) h.one_buffer;
      one_state = record {
        once = λ j. elim (cases_eq k j) [
          | inl e ↦ let z : times j c.free ≡ 0 = subst (λ i. times i c.free ≡ 0) e busy.busy in omega (arith, times-freed c.free k j how, one-if_same k j e)
          | inr n ↦ omega (arith, times-freed c.free k j how, none-if_other k j n, h.one_state.once j)
        ];
        in_range = λ j on. elim (cases_eq k j) [
          | inl e ↦ let inside = busy.in_range in omega (arith, length-set c.buffers k x)
          | inr n ↦ omega (arith, length-set c.buffers k x, h.one_state.in_range j (omega (arith, times-freed c.free k j how, none-if_other k j n)))
        ];
        home = λ j on. elim (cases_eq j k) [
          | inl e ↦ let there : (buffer_at (changed c k x) j).bytes ≡ Some bytes = ap (λ (i : ℕ). (buffer_at (changed c k x) i).bytes) e ∙ ap (λ (y : Buffer). y.bytes) (changed-same c k x busy.in_range) ∙ has in subst (λ (o : Option (List ℕ)). IsSome o) (sym there) refl
          | inr n ↦ subst (λ (y : Buffer). IsSome y.bytes) (sym (changed-other c k j x n)) (h.one_state.home j (omega (arith, times-freed c.free k j how, none-if_other k j (λ s. n (sym s)))))
        ];
      };
      whole = let w = whole-changed c k x h.whole busy.in_range (λ others p. let same : others ≡ bytes = cc in ap length same ∙ size) in record { size = w.size };
    }

still_free : {D : Type 0} (c : Cache D) (k j : ℕ) → 0 < times j (without k c.free) → 0 < times j c.free
still_free c k j on =
    elim (cases_eq j k) [
      | inl e ↦ let z : times j (without k c.free) ≡ 0 = subst (λ i. times i (without k c.free) ≡ 0) (sym e) (times-without_same k c.free) in absurd (omega arith)
      | inr n ↦ omega (arith, times-without_other k j c.free n)
    ]

pub lawful-taken_off : {D : Type 0} (c : Cache D) (k : ℕ) → IsLawful c → IsLawful (record c { free = without k c.free })
lawful-taken_off c k h = record {
  one_buffer = record { same = h.one_buffer.same };
  one_state = record {
    once = λ j. elim (cases_eq j k) [
      | inl e ↦ let z : times j (without k c.free) ≡ 0 = subst (λ i. times i (without k c.free) ≡ 0) (sym e) (times-without_same k c.free) in omega arith
      | inr n ↦ omega (arith, times-without_other k j c.free n, h.one_state.once j)
    ];
    in_range = λ j on. h.one_state.in_range j (still_free c k j on);
    home = λ j on. h.one_state.home j (still_free c k j on);
  };
  whole = record { size = h.whole.size };
}

pub lawful-renamed : {D : Type 0} (c : Cache D) (k b : ℕ) → IsLawful c → k < length c.buffers → IsUnnamed c b → IsLawful (changed c k (renamed (buffer_at c k) b))
lawful-renamed c k b h inside unnamed =
    let x : Buffer = renamed (buffer_at c k) b in
    record {
      one_buffer = record {
        same = λ i j e p q. elim (cases_eq i k) [
          | inl s ↦ elim (cases_eq j k) [
            | inl t ↦ s ∙ sym t
            | inr t ↦
                let at_k : x.block ≡ Some e = sym (ap (λ (y : Buffer). y.block) (changed-same c k x inside)) ∙ ap (λ (n : ℕ). (buffer_at (changed c k x) n).block) (sym s) ∙ p in
                let at_j : (buffer_at c j).block ≡ Some e = sym (ap (λ (y : Buffer). y.block) (changed-other c k j x t)) ∙ q in
                let same : (buffer_at c j).block ≡ Some b = at_j ∙ sym at_k in
                absurd (unnamed j same)
          ]
          | inr s ↦
              let at_i : (buffer_at c i).block ≡ Some e = sym (ap (λ (y : Buffer). y.block) (changed-other c k i x s)) ∙ p in
              elim (cases_eq j k) [
                | inl t ↦
                    let at_k : x.block ≡ Some e = sym (ap (λ (y : Buffer). y.block) (changed-same c k x inside)) ∙ ap (λ (n : ℕ). (buffer_at (changed c k x) n).block) (sym t) ∙ q in
                    let same : (buffer_at c i).block ≡ Some b = at_i ∙ sym at_k in
                    absurd (unnamed i same)
                | inr t ↦ h.one_buffer.same i j e at_i (sym (ap (λ (y : Buffer). y.block) (changed-other c k j x t)) ∙ q)
              ]
        ];
      };
      one_state = record {
        once = h.one_state.once;
        in_range = λ j on. omega (arith, h.one_state.in_range j on, length-set c.buffers k x);
        home = λ j on. elim (cases_eq j k) [
          | inl e ↦
              let there : (buffer_at (changed c k x) j).bytes ≡ (buffer_at c j).bytes = ap (λ (i : ℕ). (buffer_at (changed c k x) i).bytes) e ∙ ap (λ (y : Buffer). y.bytes) (changed-same c k x inside) ∙ ap (λ (i : ℕ). (buffer_at c i).bytes) (sym e) in
              subst (λ (o : Option (List ℕ)). IsSome o) (sym there) (h.one_state.home j on)
          | inr n ↦ subst (λ (y : Buffer). IsSome y.bytes) (sym (changed-other c k j x n)) (h.one_state.home j on)
        ];
      };
      whole = whole-changed c k x h.whole inside (h.whole.size k);
    }
