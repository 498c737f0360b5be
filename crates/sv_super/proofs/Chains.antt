-- The chain of free blocks: what is taken from it, what is added, and what of the held lines it depends on.
use Rattle.std.proofs.Common.{◌≡◌, ◌≢◌, ◌+◌, ◌-◌, ◌<◌, ◌≤◌, ◌==◌, ℕ, zero, suc, Bool, true, false, cond, List, [], ◌∷◌, ◌++◌, length, take, get_or, arith, refl, sym, ap, ◌∙◌, subst}
use Rattle.std.proofs.lemmas.Bool.{eqb-true}
use Rattle.std.proofs.lemmas.List.{get_or-take, length-take}
use Rattle.std.proofs.Math.Seq.{take-append_seam, get_or-append_seam}
use Rattle.std.proofs.Common.{length-append}
use Rattle.sv_form.specs.LinkBlock.{HasSpelling}
use Rattle.sv_store.specs.Held.{Held}
use Rattle.sv_super.specs.Count.{times}
use Rattle.sv_super.specs.FreeList.{HasList, IsChain, IsNext, after, last, list_of, taken}
use Rattle.sv_super.proofs.Counts.{apart, other, times-first, times-cons}
use Rattle.sv_super.proofs.Fronts.{block_list, list_of-is}

pub chain-nil : (h : Held) (list : List ℕ) → IsChain h list [] → list ≡ 0 ∷ []
unfolding Rattle.sv_form.specs.FreeChain.IsChain
chain-nil h list p = p

pub chain-empty : (h : Held) (list : List ℕ) → list ≡ 0 ∷ [] → IsChain h list []
unfolding Rattle.sv_form.specs.FreeChain.IsChain
chain-empty h list p = p

pub chain-next : (h : Held) (list : List ℕ) (b : ℕ) (rest : List ℕ) → IsChain h list (b ∷ rest) → IsNext h list b
unfolding Rattle.sv_form.specs.FreeChain.IsChain
chain-next h list b rest p = p.0

pub chain-rest : (h : Held) (list : List ℕ) (b : ℕ) (rest : List ℕ) → IsChain h list (b ∷ rest) → IsChain h (after h list) rest
unfolding Rattle.sv_form.specs.FreeChain.IsChain
chain-rest h list b rest p = p.1

pub chain-more : (h : Held) (list old : List ℕ) (b : ℕ) (rest : List ℕ) → IsNext h list b → after h list ≡ old → IsChain h old rest → IsChain h list (b ∷ rest)
unfolding Rattle.sv_form.specs.FreeChain.IsChain
chain-more h list old b rest next e p = (next, subst (λ q. IsChain h q rest) (sym e) p)

pub length-taken : (n : ℕ) (h : Held) (list : List ℕ) → length (taken n h list) ≡ n
unfolding Rattle.sv_form.specs.FreeChain.taken
length-taken zero h list = refl
length-taken (suc n) h list = ap suc (length-taken n h (after h list))

pub taken-more : (n : ℕ) (h : Held) (list : List ℕ) → taken (suc n) h list ≡ last list ∷ taken n h (after h list)
unfolding Rattle.sv_form.specs.FreeChain.taken
taken-more n h list = refl

-- the chain from a list on is what is taken
pub taken-chain : (h : Held) (order list : List ℕ) → IsChain h list order → taken (length order) h list ≡ order
unfolding Rattle.sv_form.specs.FreeChain.IsChain Rattle.sv_form.specs.FreeChain.taken
taken-chain h [] list p = refl
taken-chain h (b ∷ rest) list p =
    let first = p.0.last in
    let more = taken-chain h rest (after h list) p.1 in
    ap (λ q. q ∷ taken (length rest) h (after h list)) first ∙ ap (λ q. b ∷ q) more

pub taken-is : (h : Held) (order list : List ℕ) (n : ℕ) → IsChain h list order → n ≡ length order → taken n h list ≡ order
taken-is h order list n p e = ap (λ q. taken q h list) e ∙ taken-chain h order list p

-- the chain depends on the lines of its own blocks alone
pub frame : (h h' : Held) (order list : List ℕ) → ((b : ℕ) → 0 < times b order → h' b ≡ h b) → IsChain h list order → IsChain h' list order
unfolding Rattle.sv_form.specs.FreeChain.IsChain Rattle.sv_form.specs.FreeChain.after
frame h h' [] list same p = p
frame h h' (b ∷ rest) list same p =
    let here : h' b ≡ h b = same b (let e = times-first b rest in omega arith) in
    let at_last : h' (last list) ≡ h (last list) = ap h' p.0.last ∙ (here ∙ sym (ap h p.0.last)) in
    let next : IsNext h' list b = record {
      named = p.0.named;
      some = p.0.some;
      last = p.0.last;
      link = λ one. (let P : (ℕ → _) → Type 0 = λ q. HasList q (list_of q) in subst P (sym here) (p.0.link one));
    } in
    let aft : after h' list ≡ after h list = ap (λ q. cond (length list == 1) (list_of q) (take (length list - 1) list)) at_last in
    let more : (c : ℕ) → 0 < times c rest → h' c ≡ h c = (λ c low. same c (let e = times-cons c b rest in omega arith)) in
    (next, subst (λ q. IsChain h' q rest) (sym aft) (frame h h' rest (after h list) more p.1))

-- ---- what is added

-- a list with one number more
pub after-snoc : (h : Held) (list : List ℕ) (b : ℕ) → 1 ≤ length list → after h (list ++ b ∷ []) ≡ list
unfolding Rattle.sv_form.specs.FreeChain.after
after-snoc h list b some =
    let long : length (list ++ b ∷ []) ≡ length list + 1 = length-append list (b ∷ []) in
    let ne : length (list ++ b ∷ []) ≢ 1 = omega arith in
    let e : length (list ++ b ∷ []) - 1 ≡ length list = omega arith in
    ap (λ t. cond t (list_of (h (last (list ++ b ∷ [])))) (take (length (list ++ b ∷ []) - 1) (list ++ b ∷ []))) (other (length (list ++ b ∷ [])) 1 ne)
    ∙ (ap (λ n. take n (list ++ b ∷ [])) e ∙ take-append_seam list (b ∷ []))

pub next-snoc : (h : Held) (list : List ℕ) (b : ℕ) → 1 ≤ length list → b ≢ 0 → IsNext h (list ++ b ∷ []) b
next-snoc h list b some named =
    let long : length (list ++ b ∷ []) ≡ length list + 1 = length-append list (b ∷ []) in
    let e : length (list ++ b ∷ []) - 1 ≡ length list = omega arith in
    record {
      named = named;
      some = omega arith;
      last = ap (λ n. get_or (list ++ b ∷ []) n 0) e ∙ get_or-append_seam list b [] 0;
      link = λ one. absurd (omega arith);
    }

-- a list whose only number is a link block
pub after-link : (h : Held) (list : List ℕ) (b : ℕ) → HasList (h b) list → after h (b ∷ []) ≡ list
unfolding Rattle.sv_form.specs.FreeChain.after
after-link h list b has = list_of-is (h b) list has

pub next-link : (h : Held) (list : List ℕ) (b : ℕ) → HasList (h b) list → b ≢ 0 → IsNext h (b ∷ []) b
next-link h list b has named = record {
  named = named;
  some = omega arith;
  last = refl;
  link = λ one. subst (λ q. HasList (h b) q) (sym (list_of-is (h b) list has)) has;
}

-- ---- the list itself

-- what comes after a list of more than one
pub after-long : (h : Held) (list : List ℕ) → 1 < length list → after h list ≡ take (length list - 1) list
unfolding Rattle.sv_form.specs.FreeChain.after
after-long h list long =
    let ne : length list ≢ 1 = omega arith in
    ap (λ t. cond t (list_of (h (last list))) (take (length list - 1) list)) (other (length list) 1 ne)

pub after-one : (h : Held) (list : List ℕ) → length list ≡ 1 → after h list ≡ list_of (h (last list))
unfolding Rattle.sv_form.specs.FreeChain.after
after-one h list one = ap (λ n. cond (n == 1) (list_of (h (last list))) (take (length list - 1) list)) one

-- the list with which a chain begins can be spelled
pub chain-spelled : (h : Held) (order list : List ℕ) → IsChain h list order → HasSpelling (block_list list)
chain-spelled h [] list p =
    let only = ap length (chain-nil h list p) in
    record { some = omega arith; blocks = λ k low high. absurd (omega arith) }
chain-spelled h (b ∷ rest) list p = by (length list == 1) refl (chain-spelled h rest (after h list) (chain-rest h list b rest p))
  where
    next : IsNext h list b
    next = chain-next h list b rest p

    by : (t : Bool) → (length list == 1) ≡ t → HasSpelling (block_list (after h list)) → HasSpelling (block_list list)
    by true e more =
        let one = eqb-true (length list) 1 e in
        record { some = next.some; blocks = λ k low high. absurd (omega arith) }
    by false e more =
        let ne = apart (length list) 1 e in
        let some = next.some in
        let shorter : after h list ≡ take (length list - 1) list = after-long h list (omega arith) in
        let long : length (take (length list - 1) list) ≡ length list - 1 = length-take (length list - 1) list ∙ omega arith in
        record {
          some = some;
          blocks = λ k low high. at shorter long k low high (k == length list - 1) refl (λ below. more.blocks k low (let q = ap length shorter in omega arith));
        }
      where
        at : after h list ≡ take (length list - 1) list → length (take (length list - 1) list) ≡ length list - 1 → (k : ℕ) → 1 ≤ k → k < length list → (t : Bool) → (k == length list - 1) ≡ t → (k < length list - 1 → get_or (after h list) k 0 ≢ 0) → get_or list k 0 ≢ 0
        at shorter long k low high true e more = λ zero. next.named (sym next.last ∙ (ap (λ n. get_or list n 0) (sym (eqb-true k (length list - 1) e)) ∙ zero))
        at shorter long k low high false e more =
            let ne = apart k (length list - 1) e in
            let below : k < length list - 1 = omega arith in
            λ zero. more below (ap (λ q. get_or q k 0) shorter ∙ (get_or-take (length list - 1) list k 0 below ∙ zero))
