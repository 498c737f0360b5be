-- How a text is read line by line to its end, or to its first fault.
use Rattle.std.proofs.Common.{◌≡◌, ◌<◌, ◌≤◌, ◌-◌, ◌+◌, ◌∷◌, ◌++◌, ◌∙◌, ℕ, List, [], None, Some, length, take, drop, get_or, sym, ap, subst, arith, inl, inr, ◌⊎◌}
use Rattle.std.proofs.lemmas.List.{drop_more, length-drop, length_push, take-append-drop, take_all, take_more}
use Rattle.sv_script.specs.declared.line.Line.{Line}
use Rattle.sv_script.specs.declared.reading.Reading.{Reading}
use Rattle.sv_script.specs.declared.fault.ScriptFault.{ScriptFault}
use Rattle.sv_script.specs.declared.fault.ScriptFault.TheVariants as faults
use Rattle.sv_script.specs.Cut.{lines_of}
use Rattle.sv_script.specs.Reading.{FirstFault, IsRefused, IsScriptOf, IsSound, fault_after, fault_at, script_of}
use Rattle.sv_script.specs.Progress.{BeginsWithLine, IsAt, IsRead}
use Rattle.sv_script.proofs.ScriptSteps.{fault_at-append}

-- what stands at a place where the rest of a list begins with it
record StandsAt (ls : List (List ℕ)) (n : ℕ) (line : List ℕ) (more : List (List ℕ)) : Type 0 where
  within : n < length ls
  here : get_or ls n [] ≡ line
  after : drop (n + 1) ls ≡ more

stands_at : (ls : List (List ℕ)) (n : ℕ) (line : List ℕ) (more : List (List ℕ)) → drop n ls ≡ line ∷ more → StandsAt ls n line more
stands_at ls n line more h =
    let within : n < length ls = omega (arith, ap length h, length-drop n ls) in
    let split = sym (drop_more ls n [] within) ∙ h in
    record {
      within = within;
      here = ap (λ (xs : List (List ℕ)). get_or xs 0 []) split;
      after = ap (λ (xs : List (List ℕ)). drop 1 xs) split;
    }

pub next_at : (text rest line after : List ℕ) (old new : Reading) → IsAt text rest old → BeginsWithLine rest line after → IsRead (take old.number (lines_of text) ++ line ∷ []) new → IsAt text after new
next_at text rest line after old new at begins read =
    let there = stands_at (lines_of text) old.number line (lines_of after) (sym at.left ∙ begins.cut) in
    let count : new.number ≡ old.number + 1 = read.number ∙ length_push (take old.number (lines_of text)) line ∙ ap (λ (n : ℕ). n + 1) (sym at.read.number) in
    let front : take old.number (lines_of text) ++ line ∷ [] ≡ take new.number (lines_of text) =
    ap (λ (l : List ℕ). take old.number (lines_of text) ++ l ∷ []) (sym there.here) ∙ sym (take_more (lines_of text) old.number [] there.within) ∙ ap (λ (n : ℕ). take n (lines_of text)) (sym count) in
    record {
      read = subst (λ (before : List (List ℕ)). IsRead before new) front read;
      left = sym there.after ∙ ap (λ (n : ℕ). drop n (lines_of text)) (sym count);
      size = omega (arith, at.size, begins.shorter);
    }

earlier : (ls : List (List ℕ)) (r : Reading) → IsRead (take r.number ls) r → (k : ℕ) → k < r.number → fault_at ls k ≡ None
earlier ls r read k lt =
    let inside : k < length (take r.number ls) = omega (arith, lt, read.number) in
    ap (λ (xs : List (List ℕ)). fault_at xs k) (sym (take-append-drop r.number ls)) ∙ fault_at-append (take r.number ls) (drop r.number ls) k inside ∙ read.sound k inside

first_fault : (text rest line after : List ℕ) (r : Reading) (fault : ScriptFault) → IsAt text rest r → BeginsWithLine rest line after → fault_after (take r.number (lines_of text)) line ≡ Some fault → FirstFault (lines_of text) r.number fault
unfolding fault_at
first_fault text rest line after r fault at begins faulty =
    let there = stands_at (lines_of text) r.number line (lines_of after) (sym at.left ∙ begins.cut) in
    record {
      within = there.within;
      here = ap (fault_after (take r.number (lines_of text))) there.here ∙ faulty;
      before = earlier (lines_of text) r at.read;
    }

pub refused_at : (text rest line after : List ℕ) (r : Reading) (fault : ScriptFault) → length text ≤ 16777216 → IsAt text rest r → BeginsWithLine rest line after
    → (fault ≡ faults.NoMemory) ⊎ (fault_after (take r.number (lines_of text)) line ≡ Some fault) → IsRefused text (r.number + 1) fault
refused_at text rest line after r fault most at begins cause =
    elim cause [
      | inl memory ↦ inl memory
      | inr faulty ↦
          let place : r.number ≡ r.number + 1 - 1 = omega arith in
          inr (inr (record {
            most = most;
            some = omega arith;
            first = subst (λ (n : ℕ). FirstFault (lines_of text) n fault) place (first_fault text rest line after r fault at begins faulty);
          }))
    ]

pub all_read : (text rest : List ℕ) (r : Reading) (script : List Line) → length text ≤ 16777216 → IsAt text rest r → lines_of rest ≡ [] → script ≡ r.lines.items → IsScriptOf text script
all_read text rest r script most at end is =
    let past : length (lines_of text) ≤ r.number = omega (arith, ap length (sym at.left ∙ end), length-drop r.number (lines_of text)) in
    let whole : take r.number (lines_of text) ≡ lines_of text = take_all r.number (lines_of text) past in
    record {
      most = most;
      sound = subst (λ (ls : List (List ℕ)). IsSound ls) whole at.read.sound;
      lines = is ∙ at.read.script ∙ ap script_of whole;
    }
