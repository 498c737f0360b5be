-- The image that is made so far, one block further.
use Rattle.std.proofs.Common.{◌≡◌, ◌≢◌, ◌≤◌, ◌<◌, ◌+◌, ◌-◌, ◌*◌, ◌++◌, ◌∙◌, ℕ, Bool, true, false, not, cond, List, [], ◌∷◌, length, take}
use Rattle.std.proofs.Common.{drop, replicate, slice_range, nat_eq, count_by, if◌then◌else◌, refl, inl, inr, subst, sym, ap, arith}
use Rattle.std.proofs.Common.{append_assoc, length-append}
use Rattle.std.proofs.Math.Seq.{take-append_seam}
use Rattle.std.specs.List.{flat_map, range_with_len, sum_by}
use Rattle.std.specs.Cmp.Lexicographic.{pointwise}
use Rattle.std.proofs.Math.Seq.{drop-append_seam}
use Rattle.std.proofs.lemmas.List.{flat_map_more, length-take, length-drop, take-append-drop, take-replicate}
use Rattle.std.proofs.lemmas.List.Folds.{drop_split}
use Rattle.std.proofs.lemmas.List.Sums.{sum_by-append, sum_by-cons}
use Rattle.std.proofs.lemmas.Slice.Eq.{bytes_eq-Decides}
use Rattle.std.proofs.lemmas.Bool.{cases_eq}
use Rattle.std.proofs.lemmas.Slice.{drop-append-drop}
use Rattle.sv_dev.specs.Causes.{counted}
use Rattle.sv_dev.specs.Transfer.{overwritten}
use Rattle.sv_form.specs.declared.geometry.Geometry.{Geometry}
use Rattle.sv_form.proofs.OwnerLemmas.{range_more}
use Rattle.sv_check.specs.MadeBlocks.{filled_to, made_block, made_blocks}
use Rattle.sv_check.specs.MadeWrites.{HasCounted, stands_at, unlike_blocks}

pub blocks_more : (g : Geometry) (n : ℕ) → made_blocks g (n + 1) ≡ made_blocks g n ++ made_block g n
blocks_more g n =
    let at : 0 + n ≡ n = omega arith in
    ap (λ (q : List ℕ). flat_map (made_block g) q) (range_more 0 n ∙ ap (λ (q : ℕ). range_with_len 0 n ++ q ∷ []) at)
    ∙ sym (flat_map_more (made_block g) [] (range_with_len 0 n) n)

-- a block over what stands behind the front
written_behind : (front block old : List ℕ) (at : ℕ) → length front ≡ at
    → overwritten (front ++ drop at old) at block ≡ (front ++ block) ++ drop (at + length block) old
written_behind front block old at is =
    let kept : take at (front ++ drop at old) ≡ front = subst (λ (k : ℕ). take k (front ++ drop at old) ≡ front) is
    (take-append_seam front (drop at old)) in
    let rest : drop (at + length block) (front ++ drop at old) ≡ drop (at + length block) old = drop-append-drop at old front
    (at + length block) (omega arith) is in
    ap (λ (q : List ℕ). q ++ block ++ drop (at + length block) (front ++ drop at old)) kept ∙ ap (λ (q : List ℕ). front ++ block ++ q) rest

pub block_written : (g : Geometry) (old before after block : List ℕ) (n at : ℕ) → before ≡ made_blocks g n ++ drop (n * 1024) old
    → length (made_blocks g n) ≡ n * 1024
    → at ≡ n * 1024 → block ≡ made_block g n → length block ≡ 1024 → after ≡ overwritten before at block
    → after ≡ made_blocks g (n + 1) ++ drop ((n + 1) * 1024) old
block_written g old before after block n at is front here bytes long written =
    let next : at + length block ≡ (n + 1) * 1024 = omega arith in
    written ∙ (ap (λ (q : List ℕ). overwritten q at block) (is ∙ ap (λ (k : ℕ). made_blocks g n ++ drop k old) (sym here))
    ∙ (written_behind (made_blocks g n) block old at (front ∙ sym here)
    ∙ (ap (λ (k : ℕ). (made_blocks g n ++ block) ++ drop k old) next
    ∙ ap (λ (q : List ℕ). q ++ drop ((n + 1) * 1024) old) (ap (λ (q : List ℕ). made_blocks g n ++ q) bytes ∙ sym (blocks_more g n)))))

-- a write leaves the length
pub same_length : (before after block : List ℕ) (at : ℕ) → after ≡ overwritten before at block → at + length block ≤ length before
    → length after ≡ length before
same_length before after block at written fits = ap (λ (q : List ℕ). length q) written
    ∙ simp (length-append, length-take, length-drop) (omega arith)

pub front_longer : (g : Geometry) (block : List ℕ) (n : ℕ) → length (made_blocks g n) ≡ n * 1024 → block ≡ made_block g n
    → length block ≡ 1024 → length (made_blocks g (n + 1)) ≡ (n + 1) * 1024
front_longer g block n front bytes long =
    let size : length (made_block g n) ≡ 1024 = sym (ap (λ (q : List ℕ). length q) bytes) ∙ long in
    let sum : length (made_blocks g n) + length (made_block g n) ≡ (n + 1) * 1024 = omega arith in
    ap (λ (q : List ℕ). length q) (blocks_more g n) ∙ (length-append (made_blocks g n) (made_block g n) ∙ sum)

-- ---- what stands there already

-- a write of what stands there changes nothing
pub same_there : (content block : List ℕ) (at : ℕ) → stands_at content at block ≡ true → content ≡ overwritten content at block
same_there content block at there =
    let end : ℕ = at + length block in
    let is : slice_range content at end ≡ block = (bytes_eq-Decides (slice_range content at end) block).0 there in
    let split : drop at content ≡ block ++ drop end content = drop_split content at end (omega arith)
    ∙ ap (λ (q : List ℕ). q ++ drop end content) is in
    sym (take-append-drop at content) ∙ (ap (λ (q : List ℕ). take at content ++ q) split
    ∙ sym (append_assoc (take at content) block (drop end content)))

-- the same where it was read
pub read_there : (content found block : List ℕ) (at n : ℕ) → found ≡ slice_range content at (at + n) → length block ≡ n
    → pointwise nat_eq found block ≡ true → content ≡ overwritten content at block
read_there content found block at n read size same =
    let there : pointwise nat_eq (slice_range content at (at + n)) block ≡ true = subst (λ (q : List ℕ). pointwise nat_eq q block ≡ true)
    read same in
    same_there content block at (subst (λ (k : ℕ). pointwise nat_eq (slice_range content at (at + k)) block ≡ true) (sym size) there)

-- behind the front stands what stood there
pub there_before : (g : Geometry) (old before block : List ℕ) (n at : ℕ) → before ≡ made_blocks g n ++ drop (n * 1024) old
    → length (made_blocks g n) ≡ n * 1024 → at ≡ n * 1024
    → block ≡ made_block g n → stands_at before at block ≡ stands_at old (n * 1024) (made_block g n)
there_before g old before block n at is front here bytes =
    let seam : drop at before ≡ drop (n * 1024) old = ap (λ (q : List ℕ). drop at q) is
    ∙ subst (λ (k : ℕ). drop k (made_blocks g n ++ drop (n * 1024) old) ≡ drop (n * 1024) old) (front ∙ sym here)
    (drop-append_seam (made_blocks g n) (drop (n * 1024) old)) in
    let many : at + length block - at ≡ n * 1024 + length (made_block g n) - n * 1024 = let e : length block ≡ length (made_block g n) = ap
    (λ (q : List ℕ). length q) bytes in omega (arith, e) in
    let range : slice_range before at (at + length block) ≡ slice_range old (n * 1024) (n * 1024 + length (made_block g n)) =
    ap (λ (q : List ℕ). take (at + length block - at) q) seam ∙ ap (λ (k : ℕ). take k (drop (n * 1024) old)) many in
    ap (λ (q : List ℕ). pointwise nat_eq q block) range ∙ ap (λ (q : List ℕ). pointwise nat_eq
    (slice_range old (n * 1024) (n * 1024 + length (made_block g n))) q) bytes

-- ---- counts of calls

pub none_counted : (old : ℕ) → HasCounted old 0 old
none_counted old = record { none = λ e. refl; some = λ other. absurd (other refl) }

pub one_counted : (old n now after : ℕ) → HasCounted old n now → after ≡ counted now 1 → HasCounted old (n + 1) after
one_counted old n now after so_far is = record {
  none = λ e. absurd (omega arith);
  some = λ other. elim (cases_eq n 0) as (λ _. after ≡ counted old (n + 1)) [
    | inl same ↦ let before : now ≡ old = so_far.none same in omega (arith, is, before, same)
    | inr more ↦ let before : now ≡ counted old n = so_far.some more in omega (arith, is, before)
  ];
}

-- one more where the block is not there
either_counted : (old n now after : ℕ) (there : Bool) → HasCounted old n now → after ≡ (if there then now else counted now 1)
    → HasCounted old (n + cond (not there) 1 0) after
either_counted old n now after true so_far is = subst (λ (k : ℕ). HasCounted old k after) (let e : n ≡ n + 0 = omega arith in e)
    (subst (λ (k : ℕ). HasCounted old n k) (sym is) so_far)
either_counted old n now after false so_far is = one_counted old n now after so_far is

unlike_more : (g : Geometry) (old : List ℕ) (n : ℕ) → unlike_blocks g old (n + 1) ≡ unlike_blocks g old n + cond
    (not (stands_at old (n * 1024) (made_block g n))) 1 0
unlike_more g old n =
    let at : 0 + n ≡ n = omega arith in
    let one : ℕ → ℕ = λ b. cond (not (stands_at old (b * 1024) (made_block g b))) 1 0 in
    let last : sum_by one (n ∷ []) ≡ one n = sum_by-cons one n [] ∙ omega arith in
    ap (λ (q : List ℕ). sum_by one q) (range_more 0 n ∙ ap (λ (q : ℕ). range_with_len 0 n ++ q ∷ []) at)
    ∙ (sum_by-append one (range_with_len 0 n) (n ∷ []) ∙ ap (λ (k : ℕ). sum_by one (range_with_len 0 n) + k) last)

pub writes_counted : (g : Geometry) (old before block : List ℕ) (n at first now after : ℕ)
    → before ≡ made_blocks g n ++ drop (n * 1024) old → length (made_blocks g n) ≡ n * 1024 → at ≡ n * 1024
    → block ≡ made_block g n → HasCounted first (unlike_blocks g old n) now
    → after ≡ (if stands_at before at block then now else counted now 1) → HasCounted first (unlike_blocks g old (n + 1)) after
writes_counted g old before block n at first now after is front here bytes so_far put =
    let same : stands_at before at block ≡ stands_at old (n * 1024) (made_block g n) = there_before g old before block n at is front here
    bytes in
    let step : HasCounted first (unlike_blocks g old n + cond (not (stands_at before at block)) 1 0) after = either_counted first
    (unlike_blocks g old n) now after (stands_at before at block) so_far put in
    subst (λ (k : ℕ). HasCounted first k after) (sym (unlike_more g old n))
    (subst (λ (b : Bool). HasCounted first (unlike_blocks g old n + cond (not b) 1 0) after) same step)

-- ---- zero bytes

-- so many of the zero bytes fill up to that place
pub zeros_fill : (place : ℕ) (bytes : List ℕ) (n : ℕ) → place ≤ 1024 → n ≡ place - length bytes
    → bytes ++ take n (replicate 1024 0) ≡ filled_to place bytes
zeros_fill place bytes n within is = ap (λ (q : List ℕ). bytes ++ q) (take-replicate n 1024 0 (omega (arith, is))
    ∙ ap (λ (k : ℕ). replicate k 0) is)
