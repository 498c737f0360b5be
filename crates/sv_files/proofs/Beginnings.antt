-- How the one pass of all processes is cut into a pass for each.
use Rattle.std.proofs.Common.{◌≡◌, ◌≢◌, ◌≤◌, ◌+◌, ◌-◌, ◌++◌, ℕ, zero, suc, List, [], ◌∷◌, length, refl, sym, ap, subst, ◌∙◌, arith}
use Rattle.std.proofs.lemmas.List.{append_assoc}
use Rattle.sv_files.specs.Beginning.{AreAdded, AreFirst, first_one, first_proc, first_procs, other_ones}
use Rattle.sv_files.specs.FileRule.{IsCut}
use Rattle.sv_files.specs.View.{View, Proc, of_one}

whole-procs : (ps : List Proc) → ps ≡ first_one ps ++ other_ones ps
whole-procs [] = refl
whole-procs (p ∷ ps) = refl

first-some : (ps : List Proc) → 2 ≤ length ps → (1 ≤ length (first_one ps)) × (1 ≤ length (other_ones ps))
first-some [] some = absurd (omega (arith, some))
first-some (p ∷ []) some = absurd (omega (arith, some))
first-some (p ∷ q ∷ ps) some = (omega arith, omega arith)

pub cuts-first : (v : View) → v.locks ≡ [] → 2 ≤ length v.procs
    → IsCut v (record v { procs = first_one v.procs }) (record v { procs = other_ones v.procs })
cuts-first v free some =
    let both = first-some v.procs some in record {
      mount = (refl, refl);
      procs = whole-procs v.procs;
      locks = (free, free, free);
      some = (both.0, both.1);
    }

-- so many processes are cut off one by one
pub some-left : (q n : ℕ) → 1 ≤ length (first_procs q n)
some-left q zero = omega arith
some-left q (suc n) = omega arith

pub two-left : (q n : ℕ) (ps : List Proc) → ps ≡ first_procs q n → n ≢ 0 → 2 ≤ length ps
two-left q zero ps is some = absurd (some refl)
two-left q (suc n) ps is some = let rest = some-left (q + 1) n in let all = ap length is in omega (arith, rest, all)

pub others-left : (q n : ℕ) (ps : List Proc) → ps ≡ first_procs q n → n ≢ 0 → other_ones ps ≡ first_procs (q + 1) (n - 1)
others-left q zero ps is some = absurd (some refl)
others-left q (suc n) ps is some =
    ap other_ones is ∙ ap (first_procs (q + 1)) (let less : n ≡ suc n - 1 = omega arith in less)

pub first-left : (q n : ℕ) (ps : List Proc) → ps ≡ first_procs q n → n ≢ 0 → first_one ps ≡ first_proc q ∷ []
first-left q zero ps is some = absurd (some refl)
first-left q (suc n) ps is some = ap first_one is

pub view-first : (v w : View) (q n : ℕ) → w ≡ record v { procs = first_one v.procs } → v.procs ≡ first_procs q n → v.locks ≡ [] → n ≢ 0
    → w ≡ of_one v.mount (first_proc q) []
view-first v w q n is procs free some =
    is ∙ ap (λ ps. record v { procs = ps }) (first-left q n v.procs procs some)
    ∙ ap (λ ks. record v { procs = first_proc q ∷ []; locks = ks }) free

pub view-last : (v : View) (q n : ℕ) → v.procs ≡ first_procs q n → v.locks ≡ [] → n ≡ 0 → v ≡ of_one v.mount (first_proc 0) []
view-last v q n procs free none =
    ap (λ ps. record v { procs = ps }) (procs ∙ ap (first_procs q) none) ∙ ap (λ ks. record v { procs = first_proc 0 ∷ []; locks = ks }) free

module _ {P : Type 0} where
  pub adds-last : (first : ℕ → P → Type 0) (q n : ℕ) (old new : List P) (p : P) → n ≡ 0 → new ≡ old ++ p ∷ [] → first 0 p
      → AreAdded first q n old new
  adds-last first q n old new p none is last =
      subst (λ k. AreAdded first q k old new) (sym none) (record { added = p ∷ []; is = is; are = (last, refl) })

  pub adds-first : (first : ℕ → P → Type 0) (q n : ℕ) (old middle new : List P) (p : P) → n ≢ 0 → middle ≡ old ++ p ∷ [] → first q p
      → AreAdded first (q + 1) (n - 1) middle new → AreAdded first q n old new
  adds-first first q zero old middle new p some is mine rest = absurd (some refl)
  adds-first first q (suc n) old middle new p some is mine rest = record {
    added = p ∷ rest.added;
    is = rest.is ∙ ap (λ xs. xs ++ rest.added) is ∙ append_assoc old (p ∷ []) rest.added;
    are = (mine, subst (λ k. AreFirst first (q + 1) k rest.added) (let less : suc n - 1 ≡ n = omega arith in less) rest.are);
  }
