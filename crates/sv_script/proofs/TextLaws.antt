-- Memory aside, a text has one reading.
use Rattle.std.proofs.Common.{◌≡◌, ◌≢◌, ◌≤◌, ◌-◌, ◌∙◌, ℕ, List, Option, Some, None, unwrap_or, is_some, sym, ap, arith, inl, inr, ◌⊎◌}
use Rattle.std.proofs.lemmas.Bool.{cases_lt, true≢false}
use Rattle.sv_script.specs.declared.line.Line.{Line}
use Rattle.sv_script.specs.declared.fault.ScriptFault.{ScriptFault}
use Rattle.sv_script.specs.declared.fault.ScriptFault.TheVariants as faults
use Rattle.sv_script.specs.Cut.{lines_of}
use Rattle.sv_script.specs.Reading.{FirstFault, IsFaulty, IsLarge, IsRefused, IsScriptOf, fault_at}

pub one_script : (text : List ℕ) (script other : List Line) → IsScriptOf text script → IsScriptOf text other → script ≡ other
one_script text script other a b = a.lines ∙ sym b.lines

some_not_none : (f : ScriptFault) (o : Option ScriptFault) → o ≡ Some f → o ≡ None → ⊥
some_not_none f o some none = true≢false (sym (ap is_some some) ∙ ap is_some none)

not_before : (lines : List (List ℕ)) (m n : ℕ) (f g : ScriptFault) → FirstFault lines m f → FirstFault lines n g → n ≤ m
not_before lines m n f g a b =
    elim (cases_lt m n) [
      | inl lt ↦ absurd (some_not_none f (fault_at lines m) a.here (b.before m lt))
      | inr le ↦ le
    ]

same_faulty : (text : List ℕ) (m n : ℕ) (f g : ScriptFault) → IsFaulty text m f → IsFaulty text n g → (m ≡ n) × (f ≡ g)
same_faulty text m n f g a b =
    let same : m - 1 ≡ n - 1 = omega (arith, not_before (lines_of text) (m - 1) (n - 1) f g a.first b.first, not_before (lines_of text) (n - 1) (m - 1) g f b.first a.first) in
    (omega (arith, a.some, b.some), ap (λ (o : Option ScriptFault). unwrap_or o g) (sym a.first.here ∙ ap (fault_at (lines_of text)) same ∙ b.first.here))

one_cause : (text : List ℕ) (m n : ℕ) (f g : ScriptFault) → IsLarge text m f ⊎ IsFaulty text m f → IsLarge text n g ⊎ IsFaulty text n g → (m ≡ n) × (f ≡ g)
one_cause text m n f g (inl a) (inl b) = (a.place ∙ sym b.place, a.volume ∙ sym b.volume)
one_cause text m n f g (inl a) (inr b) = absurd (omega (arith, a.large, b.most))
one_cause text m n f g (inr a) (inl b) = absurd (omega (arith, b.large, a.most))
one_cause text m n f g (inr a) (inr b) = same_faulty text m n f g a b

pub one_refusal : (text : List ℕ) (m n : ℕ) (f g : ScriptFault) → IsRefused text m f → IsRefused text n g → f ≢ faults.NoMemory → g ≢ faults.NoMemory → (m ≡ n) × (f ≡ g)
one_refusal text m n f g a b has_f has_g =
    elim a [
      | inl memory ↦ absurd (has_f memory)
      | inr cause ↦ elim b [
        | inl memory ↦ absurd (has_g memory)
        | inr other ↦ one_cause text m n f g cause other
      ]
    ]

pub not_both : (text : List ℕ) (script : List Line) (n : ℕ) (f : ScriptFault) → IsScriptOf text script → IsRefused text n f → f ≢ faults.NoMemory → ⊥
not_both text script n f read refused has =
    elim refused [
      | inl memory ↦ has memory
      | inr cause ↦ elim cause [
        | inl large ↦ omega (arith, large.large, read.most)
        | inr faulty ↦ some_not_none f (fault_at (lines_of text) (n - 1)) faulty.first.here (read.sound (n - 1) faulty.first.within)
      ]
    ]
