-- The bytes of a source are gathered front by front.
use Rattle.std.proofs.Common.{◌≡◌, ◌≤◌, ◌<◌, ◌+◌, ◌++◌, ◌∙◌, ℕ, List, [], ◌∷◌, length, take, Option, Some, None, IfSome, unwrap_or, sym, ap, refl, arith, append_assoc, append-nil}
use Rattle.std.specs.Option.{option_map}
use Rattle.std.proofs.lemmas.List.{length-append, take-append-le, take_all}
use Rattle.sv_dev.specs.Told.{IsAtEnd, Loses}
use Rattle.sv_journal.specs.Gather.{Gathers}

-- so many bytes were gathered, and what is told lost them
pub record IsGathering (told left : Option (List ℕ)) (old_faults faults most : ℕ) (block bytes : List ℕ) : Type 0 where
  pub lost : Loses told left bytes
  pub few : length bytes ≤ most + 1
  pub no_less : old_faults ≤ faults
  pub some : 0 < length block

loses_none : (told : Option (List ℕ)) → Loses told told []
loses_none None = refl
loses_none (Some left) = refl

pub gathers_nothing : (told : Option (List ℕ)) (faults most : ℕ) (block bytes : List ℕ) → 0 < length block → length bytes ≡ 0 → IsGathering told told faults faults most block bytes
gathers_nothing told faults most block [] some none = record { lost = loses_none told; few = omega arith; no_less = omega arith; some = some }
gathers_nothing told faults most block (b ∷ bs) some none = absurd (omega arith)

loses_more : (told left new : Option (List ℕ)) (a b : List ℕ) → Loses told left a → Loses left new b → Loses told new (a ++ b)
loses_more told left None a b h k = h ∙ ap (λ (o : Option (List ℕ)). option_map (λ l. a ++ l) o) k
loses_more told left (Some new) a b h k = h ∙ ap (λ (o : Option (List ℕ)). option_map (λ l. a ++ l) o) k ∙ ap Some (sym (append_assoc a b new))

pub gathers_more : (told left new : Option (List ℕ)) (old_faults faults new_faults most : ℕ) (block bytes more new_block : List ℕ) → IsGathering told left old_faults faults most block bytes → Loses left new more → faults ≤ new_faults
    → length bytes + length more ≤ most + 1 → 0 < length new_block → IsGathering told new old_faults new_faults most new_block (bytes ++ more)
gathers_more told left new old_faults faults new_faults most block bytes more new_block h lost no_less fits some = record {
  lost = loses_more told left new bytes more h.lost lost;
  few = omega (arith, length-append bytes more);
  no_less = omega (arith, h.no_less);
  some = some;
}

-- at the end
pub gathers_all : (told left : Option (List ℕ)) (old_faults faults most : ℕ) (block bytes : List ℕ) → IsGathering told left old_faults faults most block bytes → IsAtEnd left → Gathers told most bytes
gathers_all told left old_faults faults most block bytes h end = record { few = h.few; front = by told left h.lost end }
  where
    by : (t l : Option (List ℕ)) → Loses t l bytes → IsAtEnd l → IfSome t (λ whole. bytes ≡ take (most + 1) whole)
    by None l lost end = tt
    by (Some whole) None lost end = cc lost
    by (Some whole) (Some rest) lost end =
        let is : whole ≡ bytes = ap (λ (o : Option (List ℕ)). unwrap_or o []) lost ∙ ap (λ (x : List ℕ). bytes ++ x) end ∙ append-nil bytes in
        sym (ap (take (most + 1)) is ∙ take_all (most + 1) bytes h.few)

-- one byte more than the limit
pub gathers_enough : (told left : Option (List ℕ)) (old_faults faults most : ℕ) (block bytes : List ℕ) → IsGathering told left old_faults faults most block bytes → most < length bytes → Gathers told most bytes
gathers_enough told left old_faults faults most block bytes h more = record { few = h.few; front = by told left h.lost }
  where
    full : length bytes ≡ most + 1
    full = omega (arith, h.few)

    by : (t l : Option (List ℕ)) → Loses t l bytes → IfSome t (λ whole. bytes ≡ take (most + 1) whole)
    by None l lost = tt
    by (Some whole) None lost = cc lost
    by (Some whole) (Some rest) lost =
        let is : whole ≡ bytes ++ rest = ap (λ (o : Option (List ℕ)). unwrap_or o []) lost in
        sym (ap (take (most + 1)) is ∙ take-append-le (most + 1) bytes rest (omega arith) ∙ take_all (most + 1) bytes (omega arith))
