-- The way down to the number that links a block.
use Rattle.std.proofs.Common.{◌≡◌, ◌<◌, ◌+◌, ◌-◌, ℕ, List, length, take, get_or, set, Result, Ok, Err, IfErr, IsErrAnd, OnOk, refl, sym}
use Rattle.std.proofs.Common.{ap, ◌∙◌, subst, arith}
use Rattle.std.proofs.lemmas.List.{take_more, get_or-set_same, get_or-set_other}
use Rattle.sv_store.specs.Held.{Held, Origin, HoldsBlock}
use Rattle.sv_bmap.specs.Rows.{Links}
use Rattle.sv_bmap.specs.Tree.{block_at, child, down}
use Rattle.sv_bmap.specs.Writes.{SetsNumber}
use Rattle.sv_bmap.proofs.Hang.{down-snoc}
use Rattle.sv_bmap.proofs.Paths.{holds-same}

-- a block on the way is held, after it was reached
pub way-held : {o o' : Origin} {h h' : Held} {x y : ℕ} → o' ≡ o → h' ≡ h → y ≡ x → HoldsBlock o h x → HoldsBlock o' h' y
way-held {o} {o'} {h} {h'} {x} {y} p q e holds = holds-same y p q (let P : ℕ → Type 0 = λ z. HoldsBlock o h z in subst P (sym e) holds)

-- one place further down
pub way-more : {h h' : Held} {b k i next : ℕ} (top : ℕ) (places : List ℕ) → h' ≡ h → b ≡ down h top (take i places) → i < length places
    → k ≡ get_or places i 0 → next ≡ child h' b k → next ≡ down h top (take (i + 1) places)
way-more {h} {h'} {b} {k} {i} {next} top places q e low at now =
    now
    ∙ (ap (λ z. child z b k) q
    ∙ (ap (λ z. child h z k) e
    ∙ (ap (child h (down h top (take i places))) at
    ∙ (sym (down-snoc h top (take i places) (get_or places i 0)) ∙ ap (down h top) (sym (take_more places i 0 low))))))

-- the address is the link
pub links-top : {n : ℕ} {h : Held} (a : List ℕ) (slot : ℕ) {way : List ℕ} (first : ℕ) → slot < length a → length way ≡ 0
    → Links n h h a (set a slot first) slot way first
links-top a slot {way} first low none = record {
  at_top = λ e. (refl, (get_or-set_same a slot first 0 low, λ t apart. get_or-set_other a slot t first 0 apart));
  at_number = λ m e. absurd (omega (arith, none, e));
}

-- a number is the link
pub links-number : {n n' : ℕ} {h h' new : Held} {a : List ℕ} {slot parent place first last : ℕ} {way : List ℕ} → n' ≡ n → h' ≡ h
    → 0 < length way → last ≡ length way - 1 → parent ≡ block_at h a slot (take last way) → place ≡ get_or way last 0
    → SetsNumber n' h' new parent place first → Links n h new a a slot way first
links-number {n} {n'} {h} {h'} {new} {a} {slot} {parent} {place} {first} {last} {way} p q some is parent-is place-is sets = record {
  at_top = λ e. absurd (omega (arith, some, e));
  at_number = λ m e. (refl, at m (omega (arith, is, e)));
}
  where
    at : (m : ℕ) → last ≡ m → SetsNumber n h new (block_at h a slot (take m way)) (get_or way m 0) first
    at m e =
        let N : ℕ → Type 0 = λ z. SetsNumber z h' new parent place first in
        let H : Held → Type 0 = λ z. SetsNumber n z new parent place first in
        let P : ℕ → Type 0 = λ z. SetsNumber n h new z place first in
        let K : ℕ → Type 0 = λ z. SetsNumber n h new (block_at h a slot (take m way)) z first in
        subst K (place-is ∙ ap (λ z. get_or way z 0) e)
        (subst P (parent-is ∙ ap (λ z. block_at h a slot (take z way)) e) (subst H q (subst N p sets)))

pub on_ok-from : {T E : Type 0} (r : Result T E) {P Q : Type 0} → (P → Q) → OnOk r P → OnOk r Q
on_ok-from (Ok x) f h = f h
on_ok-from (Err x) f h = tt

-- what is passed on by `?` is what was refused
pub if_err-from : {T E : Type 0} (r : Result T E) (e : E) (P : E → Type 0) → IsErrAnd r (λ x. x ≡ e) → P e → IfErr r P
if_err-from (Ok x) e P is p = tt
if_err-from (Err x) e P is p = subst P (sym is) p
