-- What reading one line more changes.
use Rattle.std.proofs.Common.{◌≡◌, ◌<◌, ◌≤◌, ◌+◌, ◌∷◌, ◌++◌, ◌∙◌, ℕ, List, [], Option, Some, None, Result, Ok, Err, MatchResult, length, take, get_or, All, Bool, cond, nat_lt, sym, ap, refl, subst, arith, inl, inr, ◌⊎◌, append-nil, append_assoc, add-zero, lit≤}
use Rattle.std.proofs.lemmas.Bool.{cases_lt, le-ltb}
use Rattle.std.proofs.lemmas.List.{take-append-le, get_or_append_left, take_at, get_or_at, length_push}
use Rattle.std.proofs.lemmas.List.Elements.{All-push, All-weaker, All-nil}
use Rattle.std.proofs.lemmas.List.Quantifiers.{all_pairs_push}
use Rattle.std.proofs.lemmas.List.Sums.{sum_by_push}
use Rattle.sv_script.specs.declared.call.Call.{Call}
use Rattle.sv_script.specs.declared.line.Line.{Line}
use Rattle.sv_script.specs.declared.reading.Reading.{Reading}
use Rattle.sv_script.specs.declared.fault.ScriptFault.{ScriptFault}
use Rattle.sv_script.specs.declared.fault.ScriptFault.TheVariants as faults
use Rattle.sv_script.specs.Grammar.{IsCall}
use Rattle.sv_script.specs.Script.{IsScript, asked, asked_sum, component_sum, components}
use Rattle.sv_script.specs.Reading.{IsSound, fault_after, fault_at, fault_with, limit_fault, limit_of, line_with, read_line, script_from, script_of}
use Rattle.sv_script.specs.Progress.{Adds, IsRead, PassesOver, ReadsBehind}

script_from-push : (number : ℕ) (lines : List (List ℕ)) (line : List ℕ) → script_from number (lines ++ line ∷ []) ≡ script_from number lines ++ line_with (number + length lines) (read_line line)
script_from-push number [] line = append-nil (line_with number (read_line line)) ∙ ap (λ (n : ℕ). line_with n (read_line line)) (sym (add-zero number))
script_from-push number (l ∷ ls) line =
    let count : number + 1 + length ls ≡ number + length (l ∷ ls) = omega arith in
    ap (λ (s : List Line). line_with number (read_line l) ++ s) (script_from-push (number + 1) ls line ∙ ap (λ (n : ℕ). script_from (number + 1) ls ++ line_with n (read_line line)) count)
    ∙ sym (append_assoc (line_with number (read_line l)) (script_from (number + 1) ls) (line_with (number + length (l ∷ ls)) (read_line line)))

pub script_of-push : (lines : List (List ℕ)) (line : List ℕ) → script_of (lines ++ line ∷ []) ≡ script_of lines ++ line_with (length lines + 1) (read_line line)
unfolding script_of
script_of-push lines line = script_from-push 1 lines line ∙ ap (λ (n : ℕ). script_from 1 lines ++ line_with n (read_line line)) (omega arith)

pub script_of-nil : script_of [] ≡ []
unfolding script_of
script_of-nil = refl

-- the fault of a line does not depend on what follows it
pub fault_at-append : (lines more : List (List ℕ)) (place : ℕ) → place < length lines → fault_at (lines ++ more) place ≡ fault_at lines place
unfolding fault_at
fault_at-append lines more place lt =
    ap (λ (before : List (List ℕ)). fault_after before (get_or (lines ++ more) place [])) (take-append-le place lines more (omega arith)) ∙ ap (fault_after (take place lines)) (get_or_append_left lines more [] place lt)

pub fault_at-end : (before more : List (List ℕ)) (line : List ℕ) → fault_at (before ++ line ∷ more) (length before) ≡ fault_after before line
unfolding fault_at
fault_at-end before more line =
    ap (λ (b : List (List ℕ)). fault_after b (get_or (before ++ line ∷ more) (length before) [])) (take_at before (line ∷ more) (length before) refl) ∙ ap (fault_after before) (get_or_at before line more [] (length before) refl)

pub IsSound-push : (before : List (List ℕ)) (line : List ℕ) → IsSound before → fault_after before line ≡ None → IsSound (before ++ line ∷ [])
IsSound-push before line sound none place lt =
    let size = length_push before line in
    elim (cases_lt place (length before)) [
      | inl inside ↦ fault_at-append before (line ∷ []) place inside ∙ sound place inside
      | inr past ↦
          let last : place ≡ length before = omega arith in
          ap (fault_at (before ++ line ∷ [])) last ∙ fault_at-end before [] line ∙ none
    ]

limit_none : (number names bytes : ℕ) → number ≤ 16384 → names ≤ 65536 → bytes ≤ 4194304 → limit_of number names bytes ≡ None
limit_none number names bytes hn hc ha =
    let third : Option ScriptFault = cond (nat_lt 4194304 bytes) (Some faults.Volume) None in
    let second : Option ScriptFault = cond (nat_lt 65536 names) (Some faults.Lines) third in
    ap (λ (b : Bool). cond b (Some faults.Lines) second) (le-ltb 16384 number hn) ∙ ap (λ (b : Bool). cond b (Some faults.Lines) third) (le-ltb 65536 names hc)
    ∙ ap (λ (b : Bool). cond b (Some faults.Volume) None) (le-ltb 4194304 bytes ha)

-- the sums of a line that is passed over, and of one with a call
fault_by : (before : List (List ℕ)) (line : List ℕ) (said : Option Call) (script : List Line) (number : ℕ) → read_line line ≡ Ok said → script_of (before ++ line ∷ []) ≡ script → number ≡ length before + 1 → fault_after before line ≡ limit_fault number script
fault_by before line said script number says is count =
    ap (fault_with (before ++ line ∷ [])) says ∙ ap (limit_fault (length (before ++ line ∷ []))) is ∙ ap (λ (n : ℕ). limit_fault n script) (length_push before line ∙ sym count)

script_passed : (before : List (List ℕ)) (line : List ℕ) → read_line line ≡ Ok None → script_of (before ++ line ∷ []) ≡ script_of before
script_passed before line says = script_of-push before line ∙ ap (λ (r : Result (Option Call) ScriptFault). script_of before ++ line_with (length before + 1) r) says ∙ append-nil (script_of before)

script_added : (before : List (List ℕ)) (line : List ℕ) (call : Call) → read_line line ≡ Ok (Some call) → script_of (before ++ line ∷ []) ≡ script_of before ++ record { number = length before + 1; call = call } ∷ []
script_added before line call says = script_of-push before line ∙ ap (λ (r : Result (Option Call) ScriptFault). script_of before ++ line_with (length before + 1) r) says

pub passed_fault : (before : List (List ℕ)) (line : List ℕ) (old : Reading) → IsRead before old → read_line line ≡ Ok None → fault_after before line ≡ limit_of (old.number + 1) old.components old.asked
passed_fault before line old h says =
    fault_by before line None old.lines.items (old.number + 1) says (script_passed before line says ∙ sym h.script) (omega (arith, h.number))
    ∙ ap (λ (n : ℕ). limit_of (old.number + 1) n (asked_sum old.lines.items)) (sym h.components) ∙ ap (λ (n : ℕ). limit_of (old.number + 1) old.components n) (sym h.asked)

added_script : (before : List (List ℕ)) (line : List ℕ) (old : Reading) (call : Call) → IsRead before old → read_line line ≡ Ok (Some call) → script_of (before ++ line ∷ []) ≡ old.lines.items ++ record { number = old.number + 1; call = call } ∷ []
added_script before line old call h says =
    let at : ℕ → List Line → List Line = λ n items. items ++ record { number = n + 1; call = call } ∷ [] in
    script_added before line call says ∙ ap (at (length before)) (sym h.script) ∙ ap (λ (n : ℕ). at n old.lines.items) (sym h.number)

pub added_fault : (before : List (List ℕ)) (line : List ℕ) (old : Reading) (call : Call) → IsRead before old → read_line line ≡ Ok (Some call) → fault_after before line ≡ limit_of (old.number + 1) (old.components + components call) (old.asked + asked call)
added_fault before line old call h says =
    let line_new : Line = record { number = old.number + 1; call = call } in
    let names : component_sum (old.lines.items ++ line_new ∷ []) ≡ old.components + components call = sum_by_push (λ l. components l.call) old.lines.items line_new ∙ ap (λ (n : ℕ). n + components call) (sym h.components) in
    let bytes : asked_sum (old.lines.items ++ line_new ∷ []) ≡ old.asked + asked call = sum_by_push (λ l. asked l.call) old.lines.items line_new ∙ ap (λ (n : ℕ). n + asked call) (sym h.asked) in
    fault_by before line (Some call) (old.lines.items ++ line_new ∷ []) (old.number + 1) says (added_script before line old call h says) (omega (arith, h.number))
    ∙ ap (λ (n : ℕ). limit_of (old.number + 1) n (asked_sum (old.lines.items ++ line_new ∷ []))) names ∙ ap (λ (n : ℕ). limit_of (old.number + 1) (old.components + components call) n) bytes

-- a line that is passed over is read
pub read_passed : (before : List (List ℕ)) (line : List ℕ) (old new : Reading) → IsRead before old → read_line line ≡ Ok None → PassesOver old new → IsRead (before ++ line ∷ []) new
read_passed before line old new h says step =
    let none : fault_after before line ≡ None = passed_fault before line old h says ∙ limit_none (old.number + 1) old.components old.asked (omega (arith, step.number, step.within.number)) h.within.components h.within.asked in
    let items : old.lines.items ≡ new.lines.items = sym step.script in
    record {
      number = step.number ∙ omega (arith, h.number, length_push before line);
      script = step.script ∙ h.script ∙ sym (script_passed before line says);
      components = step.components ∙ h.components ∙ ap component_sum items;
      asked = step.asked ∙ h.asked ∙ ap asked_sum items;
      within = step.within;
      sound = IsSound-push before line h.sound none;
      limits = subst (λ (ls : List Line). IsScript ls) items h.limits;
      last = subst (λ (ls : List Line). All (λ l. l.number ≤ new.number) ls) items (All-weaker (λ l. l.number ≤ old.number) (λ l. l.number ≤ new.number) (λ l le. omega (arith, le, step.number)) old.lines.items h.last);
    }

script_with : (old : Reading) (call : Call) → IsScript old.lines.items → All (λ l. l.number ≤ old.number) old.lines.items → IsCall call → old.number + 1 ≤ 16384 → component_sum old.lines.items + components call ≤ 65536 → asked_sum old.lines.items + asked call ≤ 4194304 → IsScript (old.lines.items ++ record { number = old.number + 1; call = call } ∷ [])
script_with old call h last is most names bytes =
    let line : Line = record { number = old.number + 1; call = call } in
    record {
      each = All-push (λ l. IsCall l.call) old.lines.items line h.each is;
      first = All-push (λ l. 1 ≤ l.number) old.lines.items line h.first (omega arith);
      last = All-push (λ l. l.number ≤ 16384) old.lines.items line h.last most;
      ascend = all_pairs_push (λ a b. a.number < b.number) old.lines.items line h.ascend (λ k d lt. omega (arith, last k d lt));
      components = omega (arith, names, sum_by_push (λ l. components l.call) old.lines.items line);
      asked = omega (arith, bytes, sum_by_push (λ l. asked l.call) old.lines.items line);
    }

-- a line with a call is read
pub read_added : (before : List (List ℕ)) (line : List ℕ) (old new : Reading) (call : Call) → IsRead before old → read_line line ≡ Ok (Some call) → IsCall call → Adds old new call → IsRead (before ++ line ∷ []) new
read_added before line old new call h says is step =
    let line_new : Line = record { number = old.number + 1; call = call } in
    let none : fault_after before line ≡ None = added_fault before line old call h says ∙ limit_none (old.number + 1) (old.components + components call) (old.asked + asked call) (omega (arith, step.number, step.within.number)) (omega (arith, step.names, step.within.components)) (omega (arith, step.bytes, step.within.asked)) in
    let script : IsScript (old.lines.items ++ line_new ∷ []) = script_with old call h.limits h.last is (omega (arith, step.number, step.within.number)) (omega (arith, h.components, step.names, step.within.components)) (omega (arith, h.asked, step.bytes, step.within.asked)) in
    record {
      number = step.number ∙ omega (arith, h.number, length_push before line);
      script = step.script ∙ sym (added_script before line old call h says);
      components = step.names ∙ ap (λ (n : ℕ). n + components call) h.components ∙ sym (sum_by_push (λ l. components l.call) old.lines.items line_new) ∙ ap component_sum (sym step.script);
      asked = step.bytes ∙ ap (λ (n : ℕ). n + asked call) h.asked ∙ sym (sum_by_push (λ l. asked l.call) old.lines.items line_new) ∙ ap asked_sum (sym step.script);
      within = step.within;
      sound = IsSound-push before line h.sound none;
      limits = subst (λ (ls : List Line). IsScript ls) (sym step.script) script;
      last = subst (λ (ls : List Line). All (λ l. l.number ≤ new.number) ls) (sym step.script)
          (All-push (λ l. l.number ≤ new.number) old.lines.items line_new (All-weaker (λ l. l.number ≤ old.number) (λ l. l.number ≤ new.number) (λ l le. omega (arith, le, step.number)) old.lines.items h.last) (omega (arith, step.number)));
    }

pub reads_passed : (before : List (List ℕ)) (line : List ℕ) (old new : Reading) (r : Result Unit ScriptFault) → IsRead before old → read_line line ≡ Ok None → MatchResult r (λ _. PassesOver old new) (λ e. (e ≡ faults.Lines) × (old.number ≡ 16384)) → ReadsBehind before line new r
reads_passed before line old new (Ok u) h says step = read_passed before line old new h says step
reads_passed before line old new (Err e) h says step =
    inr (passed_fault before line old h says ∙ ap (λ (n : ℕ). limit_of (n + 1) old.components old.asked) step.1 ∙ ap (λ (f : ScriptFault). Some f) (sym step.0))

pub reads_added : (before : List (List ℕ)) (line : List ℕ) (old new : Reading) (call : Call) (r : Result Unit ScriptFault) → IsRead before old → read_line line ≡ Ok (Some call) → IsCall call
    → MatchResult r (λ _. Adds old new call) (λ e. (e ≡ faults.NoMemory) ⊎ (limit_of (old.number + 1) (old.components + components call) (old.asked + asked call) ≡ Some e)) → ReadsBehind before line new r
reads_added before line old new call (Ok u) h says is step = read_added before line old new call h says is step
reads_added before line old new call (Err e) h says is step = elim step [ inl memory ↦ inl memory | inr limit ↦ inr (added_fault before line old call h says ∙ limit) ]

IsScript-nil : IsScript []
IsScript-nil = record {
  each = All-nil (λ (l : Line). IsCall l.call);
  first = All-nil (λ (l : Line). 1 ≤ l.number);
  last = All-nil (λ (l : Line). l.number ≤ 16384);
  ascend = λ i j d lt below. absurd (omega arith);
  components = lit≤ tt;
  asked = lit≤ tt;
}

-- before the first line
pub IsRead-nil : (r : Reading) → r.number ≡ 0 → r.components ≡ 0 → r.asked ≡ 0 → r.lines.items ≡ [] → IsRead [] r
IsRead-nil r number names bytes items = record {
  number = number;
  script = items ∙ sym script_of-nil;
  components = names ∙ ap component_sum (sym items);
  asked = bytes ∙ ap asked_sum (sym items);
  within = record { number = omega arith; components = omega arith; asked = omega arith };
  sound = λ place lt. absurd (omega arith);
  limits = subst (λ (ls : List Line). IsScript ls) (sym items) IsScript-nil;
  last = subst (λ (ls : List Line). All (λ l. l.number ≤ r.number) ls) (sym items) (All-nil (λ (l : Line). l.number ≤ r.number));
}
