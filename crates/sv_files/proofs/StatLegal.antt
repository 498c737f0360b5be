-- A Stat of an inode to which the process has a reference is legal, and the pass knows what it needs of its lock.
use Rattle.std.proofs.Common.{◌≡◌, ◌<◌, ◌≤◌, ◌==◌, ◌&&◌, ◌||◌, not, ℕ, Bool, true, false, [], ◌∷◌, Option, Some, None}
use Rattle.std.proofs.Common.{Result, Ok, Err, IfOk, refl, sym, ap, subst, ◌∙◌, arith}
use Rattle.std.specs.FinMap as map
use Rattle.std.proofs.lemmas.Bool.Decides.{nat_tests}
use Rattle.sv_form.specs.Node.{Node}
use Rattle.sv_form.specs.declared.inode.InodeBody.{InodeBody}
use Rattle.sv_form.specs.declared.kind.Kind.{Kind}
use Rattle.sv_form.specs.declared.kind.Kind.TheVariants.{File, Dir}
use Rattle.sv_store.specs.Held.{Origin}
use Rattle.sv_store.specs.declared.refusal.Refusal.{Refusal}
use Rattle.sv_store.proofs.Holding.{eqb_same}
use Rattle.sv_inode.specs.StandsFor.{IsDescribed, StandsFor}
use Rattle.sv_plain.specs.declared.history.op.Op.TheVariants.{Stat}
use Rattle.sv_plain.specs.Fs.{Fs}
use Rattle.sv_plain.specs.Names.{references_of, same_kind, some_and}
use Rattle.sv_plain.specs.Step.{Step}
use Rattle.sv_files.specs.declared.in_core.InCore.{InCore}
use Rattle.sv_files.specs.View.{View, Mount, Proc, Lock, Seen, lock_of, lock_seen, of_one, times}
use Rattle.sv_files.specs.FileRule.{StandsAs}
use Rattle.sv_files.specs.Adding.{HasOneLock, IsStill, KeepsAll, locked_view}
use Rattle.sv_files.specs.Calls.{status_of}

nonzero : (n : ℕ) → 0 < n → (n == 0) ≡ false
nonzero n some = grind (nat_tests, arith)

pub refers : (n m : ℕ) → n ≡ m → 0 < m → not (n == 0) ≡ true
refers n m same some = ap not (nonzero n (omega (arith, same, some)))

either : (t u : Bool) → t ≡ true → (t || u) ≡ true
either t u e = rw e refl

kinds-same : (k : Kind) → same_kind k k ≡ true
kinds-same File = refl
kinds-same Dir = refl

all-same : (k : Kind) (a b d : ℕ) → (same_kind k k && ((a == a) && ((b == b) && (d == d)))) ≡ true
all-same k a b d = rw (kinds-same k, eqb_same a, eqb_same b, eqb_same d) refl

fields-same : (k l : Kind) (a b d a' b' d' : ℕ) → l ≡ k → a' ≡ a → b' ≡ b → d' ≡ d
    → (same_kind k l && ((a == a') && ((b == b') && (d == d')))) ≡ true
fields-same k l a b d a' b' d' e f g h = rw (e, f, g, h) (all-same k a b d)

step-ok : (fs : Fs) (p ino n : ℕ) (node : Node) (body : InodeBody) → references_of fs p ino ≡ n → 0 < n
    → map.get fs.nodes ino ≡ Some node → IsDescribed body node → Step fs p (Stat ino) (status_of (Ok body)) fs
step-ok fs p ino n node body same some known is = record {
  allowed = either _ _ (refers (references_of fs p ino) n same some);
  right = subst (λ o. some_and o (λ x. same_kind x.kind body.kind && ((x.mode == body.mode) && ((x.links == body.links)
      && (x.size == body.size)))) ≡ true) (sym known)
      (fields-same node.kind body.kind node.mode node.links node.size body.mode body.links body.size is.kind is.mode is.links is.size);
  changed = refl;
}

step-err : (fs : Fs) (p ino n : ℕ) (e : Refusal) → references_of fs p ino ≡ n → 0 < n → Step fs p (Stat ino) (status_of (Err e)) fs
step-err fs p ino n e same some = record {
  allowed = either _ _ (refers (references_of fs p ino) n same some);
  right = refl;
  changed = refl;
}

-- whatever the body is, once it is read, of the inode that the pass has locked
pub stat-legal : (m : Mount) (p : Proc) (v : View) (ino process : ℕ) (core : Option InCore) (z : Seen) (result : Result InodeBody Refusal)
    → v ≡ of_one m p (lock_of ino core z ∷ []) → lock_seen (lock_of ino core z) ≡ z → p.process ≡ process
    → 0 < times ino p.references
    → IfOk result (λ body. (o : Origin) (node : Node) → StandsAs o ino core z node → StandsFor o z.held body node)
    → KeepsAll v (record { process = process; op = Stat ino; reply = status_of result })
stat-legal m p v ino process core z (Ok body) is noted mine some described =
    subst (λ w. KeepsAll w (record { process = process; op = Stat ino; reply = status_of (Ok body) })) (sym is) (record {
      none = λ rs. refl;
      steps = λ fs sees.
          let node = sees.locked.0 in
          step-ok fs process ino (times ino p.references) node.node body
          (subst (λ q. references_of fs q ino ≡ times ino p.references) mine (sees.references.0 ino)) some node.known
          (described z.origin node.node (subst (λ w. StandsAs z.origin ino core w node.node) noted node.stands)).described;
    })
stat-legal m p v ino process core z (Err e) is noted mine some described =
    subst (λ w. KeepsAll w (record { process = process; op = Stat ino; reply = status_of (Err e) })) (sym is) (record {
      none = λ rs. refl;
      steps = λ fs sees.
          step-err fs process ino (times ino p.references) e
          (subst (λ q. references_of fs q ino ≡ times ino p.references) mine (sees.references.0 ino)) some;
    })

pub locked-one : (m : Mount) (p : Proc) (v w : View) (ino : ℕ) (core : Option InCore) (z : Seen) → v ≡ of_one m p []
    → w ≡ locked_view ino core z v → w ≡ of_one m p (lock_of ino core z ∷ [])
locked-one m p v w ino core z is locked = locked ∙ ap (locked_view ino core z) is

-- the lock notes what the stake still holds
pub still-there : (ino : ℕ) (core : Option InCore) (z w : Seen) → lock_seen (lock_of ino core z) ≡ z → w.held ≡ z.held
    → w.lent ≡ (λ _. None) → w.origin ≡ z.origin → w.forced ≡ z.forced → z.faults ≤ w.faults → IsStill (lock_of ino core z) ino core w
still-there ino core z w noted held lent origin forced low = record {
  number = refl;
  core_same = refl;
  held = held ∙ ap (λ (y : Seen). y.held) (sym noted);
  lent = lent;
  origin = origin;
  forced = forced;
  no_less = low;
}

-- the one lock of the pass notes what another stake of the same inode still holds
pub still-locked : (m : Mount) (p : Proc) (v w : View) (ino n : ℕ) (core core' : Option InCore) (z x : Seen) → v ≡ of_one m p []
    → w ≡ locked_view ino core z v → lock_seen (lock_of ino core z) ≡ z → n ≡ ino → core' ≡ core → x.held ≡ z.held
    → x.lent ≡ (λ _. None) → x.origin ≡ z.origin → x.forced ≡ z.forced → z.faults ≤ x.faults
    → (k : Lock) × HasOneLock w k × IsStill k n core' x
still-locked m p v w ino n core core' z x is locked noted number kept held lent origin forced low = (
  lock_of ino core z,
  record { mount = m; proc = p; is = locked-one m p v w ino core z is locked },
  subst (λ i. IsStill (lock_of ino core z) i core' x) (sym number)
      (subst (λ k. IsStill (lock_of ino core z) ino k x) (sym kept)
      (still-there ino core z x noted held lent origin forced low)),
)
