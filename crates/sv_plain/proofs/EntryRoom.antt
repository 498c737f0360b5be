-- Where a name is entered: the place, what the page there takes, and the promise that pays for it.
use Rattle.std.proofs.Common.{◌≡◌, ◌≤◌, ◌<◌, ℕ, ◌+◌, ◌-◌, ◌*◌, ◌/◌, ◌%◌, ◌==◌, ◌||◌, inl, inr, Bool, true, false, not, ◌&&◌, List, [], ◌∷◌, replicate, Option, Some, None, is_some, option_map, option_and_then, unwrap_or, if◌then◌else◌, sym, refl, ap, subst, ◌∙◌, arith}
use Rattle.std.proofs.lemmas.Bool.{eq-eqb, ne_eqb, cases_eq}
use Rattle.std.proofs.Math.Nat.{div-mul-le_self}
use Rattle.std.specs.FinMap as map
use Rattle.sv_form.specs.Node.{Node, entry_count, entry_inode, used}
use Rattle.sv_plain.specs.Totals.{at_or_0}
use Rattle.sv_plain.specs.Fs.{Fs, promised, is_live}
use Rattle.sv_plain.specs.Whole.{IsWhole}
use Rattle.sv_plain.specs.Names.{empty_place, place_of, child, child_of, is_open_to_names, is_missing, promise_of}
use Rattle.sv_plain.specs.Needs.{blocks_added, entry_need, enters_nothing}
use Rattle.sv_plain.specs.Change.{spent, spent_from}
use Rattle.sv_plain.proofs.Got.{and_right, not_true}
use Rattle.sv_plain.proofs.UsedPages.{used-written, used-added}
use Rattle.sv_plain.proofs.EntryPut.{with_put, whole_place}
use Rattle.sv_plain.proofs.DirectoryPut.{empty-past}
use Rattle.sv_plain.proofs.NameEntries.{empty-none, empty-at, third-empty}
use Rattle.sv_plain.proofs.KeepsPromises.{Promises, promised-insert}
use Rattle.sv_plain.proofs.EntriesFew.{entries-few}
use Rattle.sv_plain.proofs.KeepsRemoval.{absent_or}

-- ---- promises

spent-from : (promises : Promises) (p n : ℕ) (o : Option ℕ) → map.get promises p ≡ o → n ≤ at_or_0 (λ m. m) o → promised (spent_from promises p n o) + n ≡ promised promises
spent-from promises p n None e h = omega (arith, h)
spent-from promises p n (Some had) e h =
    let before : at_or_0 (λ (m : ℕ). m) (map.get promises p) ≡ had = ap (at_or_0 (λ (m : ℕ). m)) e in
    omega (arith, promised-insert promises p (had - n), before, h)

-- what is spent of a promise is promised no more
pub promised-spent : (fs : Fs) (p n : ℕ) → n ≤ promise_of fs p → promised (spent fs p n) + n ≡ promised fs.promises
promised-spent fs p n h = spent-from fs.promises p n (map.get fs.promises p) refl h

-- ---- a name that is missing

no_child : (f : ℕ → ℕ) (o : Option ℕ) → is_some (option_map f o) ≡ false → o ≡ None
no_child f None e = refl
no_child f (Some j) e = cc

pub missing-place : (fs : Fs) (d : ℕ) (name : List ℕ) (node : Node) → map.get fs.nodes d ≡ Some node → is_missing fs d name ≡ true → place_of fs.block node name ≡ None
missing-place fs d name node there missing =
    no_child (entry_inode fs.block node) (place_of fs.block node name)
    (ap (λ o. is_some (option_and_then (λ n. child_of fs.block n name) o)) (sym there) ∙ not_true (is_some (child fs d name)) (and_right (is_open_to_names fs d) (not (is_some (child fs d name))) missing))

enters : (a b : Bool) → (a && not b) ≡ true → (not a || b) ≡ false
enters true true e = cc
enters true false e = refl
enters false b e = cc

pub missing-enters : (fs : Fs) (d : ℕ) (name : List ℕ) → is_missing fs d name ≡ true → enters_nothing fs d name ≡ false
missing-enters fs d name missing = enters (is_open_to_names fs d) (is_some (child fs d name)) missing

-- ---- the place

-- an entry at place j of directory d, where nothing stands
pub record IsFreePlace (fs : Fs) (node : Node) (j : ℕ) : Type 0 where
  pub third : 2 ≤ j
  pub within : j ≤ entry_count node
  pub free : entry_inode fs.block node j ≡ 0
  pub fits : 16 * j + 16 ≤ fs.greatest
  pub takes : (bytes : List ℕ) (links : ℕ) → used fs.block (with_put fs.block node j bytes links) ≡ used fs.block node + entry_need fs.block node

takes_page : (fs : Fs) (d : ℕ) (node : Node) → IsWhole fs → map.get fs.nodes d ≡ Some node → is_live node ≡ true → empty_place fs.block node ≡ None → (bytes : List ℕ) (links : ℕ)
    → used fs.block (with_put fs.block node (entry_count node) bytes links) ≡ used fs.block node + entry_need fs.block node
takes_page fs d node w there live none bytes links =
    let dir = w.directories d node there live in
    let j : ℕ = entry_count node in
    let new : Node = with_put fs.block node j bytes links in
    let end : 16 * j ≡ node.size = omega (arith, dir.entries) in
    let page : 16 * j / fs.block ≡ node.size / fs.block = ap (λ n. n / fs.block) end in
    let choice : Bool → ℕ = λ b. if b then blocks_added fs.block node (node.size / fs.block ∷ []) else 0 in
    let need : entry_need fs.block node ≡ choice (node.size % fs.block == 0) = ap (λ o. if is_some o then 0 else choice (node.size % fs.block == 0)) none in
    elim (cases_eq (node.size % fs.block) 0) [
      | inl whole ↦
          (let is : choice (node.size % fs.block == 0) ≡ blocks_added fs.block node (16 * j / fs.block ∷ []) =
          ap choice (eq-eqb (node.size % fs.block) 0 whole) ∙ ap (λ k. blocks_added fs.block node (k ∷ [])) (sym page) in
          omega (arith, need, is, used-added fs.block node new (16 * j / fs.block) _ refl))
      | inr part ↦
          (let is : choice (node.size % fs.block == 0) ≡ 0 = ap choice (ne_eqb (node.size % fs.block) 0 part) in
          let place = whole_place fs.block node.size in
          let same : 16 * j / fs.block * fs.block ≡ node.size / fs.block * fs.block = ap (λ k. k * fs.block) page in
          let low : 16 * j / fs.block * fs.block < node.size = omega (arith, place, part, same) in
          omega (arith, need, is, used-written fs.block node new (16 * j / fs.block) _ refl (dir.present (16 * j / fs.block) low)))
    ]

pub free-place : (fs : Fs) (d : ℕ) (node : Node) → IsWhole fs → map.get fs.nodes d ≡ Some node → is_live node ≡ true → 16000 * fs.inodes ≤ fs.greatest
    → IsFreePlace fs node (unwrap_or (empty_place fs.block node) (entry_count node))
free-place fs d node w there live room =
    let dir = w.directories d node there live in
    let n = w.nodes d node there in
    elim (absent_or (empty_place fs.block node)) [
      | inl none ↦ subst (λ (o : Option ℕ). IsFreePlace fs node (unwrap_or o (entry_count node))) (sym none)
          (record {
            third = omega (arith, dir.least);
            within = omega arith;
            free = empty-past fs.block fs.greatest fs.inodes d node (entry_count node) 0 0 (replicate 14 0) node.links (let s = w.sized.some in omega (arith, s)) w.sized.entries refl n dir (omega (arith, dir.least)) (omega arith) (omega arith);
            fits = (let few = entries-few fs w d node there live (empty-none fs.block node none) in omega (arith, few, room));
            takes = takes_page fs d node w there live none;
          })
      | inr some ↦
          (let j : ℕ = some.0 in
          let at = empty-at fs.block node j some.1 in
          let need : entry_need fs.block node ≡ 0 =
          ap (λ o. if is_some o then 0 else (if node.size % fs.block == 0 then blocks_added fs.block node (node.size / fs.block ∷ []) else 0)) some.1 in
          let below : 16 * j / fs.block * fs.block ≤ 16 * j = div-mul-le_self (16 * j) fs.block in
          subst (λ (o : Option ℕ). IsFreePlace fs node (unwrap_or o (entry_count node))) (sym some.1)
          (record {
            third = third-empty fs.block d node j dir (let two = n.least in (λ s. absurd (omega (arith, s, two)))) at.1;
            within = omega (arith, at.0);
            free = at.1;
            fits = omega (arith, at.0, n.size);
            takes = λ bytes links. (let same = used-written fs.block node (with_put fs.block node j bytes links) (16 * j / fs.block) _ refl (dir.present (16 * j / fs.block) (omega (arith, below, at.0))) in omega (arith, same, need));
          }))
    ]
