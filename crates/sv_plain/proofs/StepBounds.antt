-- What a step touches is there.
use Rattle.std.proofs.Common.{◌≡◌, ◌≤◌, ℕ, ◌==◌, ◌&&◌, Bool, true, false, not, List, Option, Some, None, IsSome, option_map, sym, refl, ap, subst, ◌∙◌}
use Rattle.std.proofs.lemmas.Bool.{false≢true, eqb-true}
use Rattle.std.specs.FinMap as map
use Rattle.sv_plain.specs.declared.fs.opening.Opening.{Opening}
use Rattle.sv_plain.specs.Fs.{Fs, is_full_for}
use Rattle.sv_plain.specs.Whole.{IsWhole}
use Rattle.sv_plain.specs.Names.{some_and, child, is_open_to_names, has_reference, child_passes}
use Rattle.sv_plain.specs.Change.{changed_file, at_file}
use Rattle.sv_plain.specs.Step.{has_file}
use Rattle.sv_plain.proofs.Got.{and_left, and_right}
use Rattle.sv_plain.proofs.KeepsReferences.{held, number_within}
use Rattle.sv_plain.proofs.KeepsWhole.{passes, child-there}

-- what a process has a reference to is a node
pub reference-there : (fs : Fs) (p i : ℕ) → IsWhole fs → has_reference fs p i ≡ true → IsSome (map.get fs.nodes i)
reference-there fs p i w has = let one = held (map.get fs.references (p, i)) has in (w.references p i one.0 one.1).1

pub reference-within : (fs : Fs) (p i : ℕ) → IsWhole fs → has_reference fs p i ≡ true → i ≤ fs.inodes
reference-within fs p i w has = number_within fs i w (reference-there fs p i w has)

-- what a name leads to is a node
pub child-within : (fs : Fs) (d : ℕ) (name : List ℕ) (i : ℕ) → IsWhole fs → child_passes fs d name (λ c. (c == i) && not (is_full_for fs c)) ≡ true → i ≤ fs.inodes
child-within fs d name i w right =
    let opened = and_left (is_open_to_names fs d) (some_and (child fs d name) (λ c. (c == i) && not (is_full_for fs c))) right in
    let c = passes (child fs d name) (λ c. (c == i) && not (is_full_for fs c)) (and_right (is_open_to_names fs d) _ right) in
    let is : c.0 ≡ i = eqb-true c.0 i (and_left (c.0 == i) (not (is_full_for fs c.0)) c.2) in
    number_within fs i w (child-there fs d name i w opened (c.1 ∙ ap Some is))

-- the inode of a file is a node
pub file-within : (fs : Fs) (n : ℕ) (f : Opening) → IsWhole fs → map.get fs.files n ≡ Some f → f.inode ≤ fs.inodes
file-within fs n f w there = number_within fs f.inode w (w.files n f there).there

-- what is changed of a file that is there
pub file-changed : (fs : Fs) (n : ℕ) (g : Opening) (f : Opening → Opening) → map.get fs.files n ≡ Some g → map.insert fs.files n (f g) ≡ changed_file fs n f
file-changed fs n g f there = sym (ap (at_file fs.files n f) there)

-- what a name leads to is a node, whatever else is tested of it
pub child-is : (fs : Fs) (d : ℕ) (name : List ℕ) (i : ℕ) (test : ℕ → Bool) → IsWhole fs → child_passes fs d name test ≡ true → ((c : ℕ) → test c ≡ true → c ≡ i)
    → (is_open_to_names fs d ≡ true) × IsSome (child fs d name) × IsSome (map.get fs.nodes i)
child-is fs d name i test w right same =
    let opened = and_left (is_open_to_names fs d) (some_and (child fs d name) test) right in
    let c = passes (child fs d name) test (and_right (is_open_to_names fs d) _ right) in
    (opened, subst IsSome (sym c.1) refl, child-there fs d name i w opened (c.1 ∙ ap Some (same c.0 c.2)))

pub the_child : (c i : ℕ) (more : Bool) → ((c == i) && more) ≡ true → c ≡ i
the_child c i more e = eqb-true c i (and_left (c == i) more e)
