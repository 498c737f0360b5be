-- A step that was taken is a step of the relation, and a file system stays whole by it.
use Rattle.std.proofs.Common.{◌≡◌, ◌⊎◌, inl, inr, ℕ, ◌==◌, Bool, true, false, cond, not, ◌&&◌, ◌||◌, List, [], ◌∷◌, Option, Some, None, is_some, Result, Ok, Err, OnOk, OnErr, sym, refl, ap, subst, ◌∙◌}
use Rattle.std.proofs.lemmas.Bool.{false≢true, eq-eqb}
use Rattle.std.specs.List.{list_any}
use Rattle.std.specs.Ordering.{nat_cmp, eq_by_cmp}
use Rattle.std.specs.Cmp.{nat_cmp_total, Equal-is}
use Rattle.std.specs.FinMap as map
use Rattle.std.specs.FinMap.{nat_cmp-IsAntisymmetric}
use Rattle.sv_form.specs.Node.{Node}
use Rattle.sv_plain.specs.declared.history.op.Op.{Op}
use Rattle.sv_plain.specs.declared.history.op.Op.TheVariants.{Look, Drop, Create, AddLink, Enter, SubLink, Unlink, Rmdir, OpenFile, CloseFile, DupFile, Read, Write, Seek, Trunc, Stat, Promise, Forgo, Sync, Purge}
use Rattle.sv_plain.specs.declared.history.reply.Reply.{Reply}
use Rattle.sv_plain.specs.declared.history.reply.Reply.TheVariants.{Done, Late, LateMemory}
use Rattle.sv_plain.specs.Fs.{Fs, is_referenced}
use Rattle.sv_plain.specs.Names.{is_lost, links_of}
use Rattle.sv_plain.specs.Change.{without_lost}
use Rattle.sv_plain.specs.Step.{Step, HasPurged, has_lost, purge_change, purge_replies}
use Rattle.sv_plain.specs.Taken.{IsTaken}

-- ---- something is lost only where one node is

found : (p : ℕ → Bool) (ks : List ℕ) → ((i : ℕ) × (p i ≡ true)) ⊎ (list_any p ks ≡ false)
found p [] = inr refl
found p (k ∷ ks) =
    elim (p k) as (λ b. p k ≡ b → ((i : ℕ) × (p i ≡ true)) ⊎ ((b || list_any p ks) ≡ false)) [
      | true ↦ λ e. inl (k, e)
      | false ↦ λ _. found p ks
    ] refl

or_left : (a b : Bool) → (a || b) ≡ false → a ≡ false
or_left true b e = e
or_left false b e = refl

or_right : (a b : Bool) → (a || b) ≡ false → b ≡ false
or_right true b e = absurd (false≢true (sym e))
or_right false b e = e

among : (p : ℕ → Bool) (q : ℕ) (ks : List ℕ) → list_any p ks ≡ false → list_any (eq_by_cmp nat_cmp q) ks ≡ true → p q ≡ false
among p q [] none is = absurd (false≢true is)
among p q (k ∷ ks) none is =
    elim (eq_by_cmp nat_cmp q k) as (λ b. eq_by_cmp nat_cmp q k ≡ b → (b || list_any (eq_by_cmp nat_cmp q) ks) ≡ true → p q ≡ false) [
      | true ↦ λ tied _. ap p (nat_cmp-IsAntisymmetric q k ((Equal-is (nat_cmp q k)).0 tied)) ∙ or_left (p k) (list_any p ks) none
      | false ↦ λ _ later. among p q ks (or_right (p k) (list_any p ks) none) later
    ] refl is

kept_or_none : (known lost : Bool) (o : Option Node) → is_some o ≡ known → (known ≡ true → lost ≡ false) → cond (not lost) o None ≡ o
kept_or_none true lost o e stays = ap (λ b. cond (not b) o None) (stays refl)
kept_or_none false true (Some node) e stays = absurd (false≢true (sym e))
kept_or_none false true None e stays = refl
kept_or_none false false o e stays = refl

module _ (fs : Fs) where
  none-lost : list_any (is_lost fs) (map.keys fs.nodes) ≡ false → without_lost fs ≡ fs
  none-lost none =
      ap (λ m. record fs { nodes = m })
      (map.same_map nat_cmp_total nat_cmp-IsAntisymmetric _ _
      (λ q. map.get-retain_keys fs.nodes (λ i. not (is_lost fs i)) q (λ x tied. ap (λ i. not (is_lost fs i)) (sym (nat_cmp-IsAntisymmetric q x tied)))
      ∙ kept_or_none (list_any (eq_by_cmp nat_cmp q) (map.keys fs.nodes)) (is_lost fs q) (map.get fs.nodes q) (map.contains_key-keys fs.nodes q)
      (among (is_lost fs) q (map.keys fs.nodes) none)))

  same-len : without_lost fs ≡ fs → has_lost fs ≡ false
  same-len e = ap not (eq-eqb (map.len (without_lost fs).nodes) (map.len fs.nodes) (ap (λ (s : Fs). map.len s.nodes) e))

  one-lost : has_lost fs ≡ true → (i : ℕ) × (is_lost fs i ≡ true)
  one-lost some =
      elim (found (is_lost fs) (map.keys fs.nodes)) [
        | inl i ↦ i
        | inr none ↦ absurd (false≢true (sym (same-len (none-lost none)) ∙ some))
      ]

all_stay : (fs : Fs) → record fs { nodes = map.retain_keys fs.nodes (λ _. true) } ≡ fs
all_stay fs =
    ap (λ m. record fs { nodes = m })
    (map.same_map nat_cmp_total nat_cmp-IsAntisymmetric _ _ (λ q. map.get-retain_keys fs.nodes (λ _. true) q (λ _ _. refl)))

purged-none : (fs after : Fs) → has_lost fs ≡ true → after ≡ fs → HasPurged fs Late after
purged-none fs after some same =
    let one = one-lost fs some in
    record {
      gone = λ _. false;
      lost = λ i e. absurd (false≢true e);
      stays = (one.0, one.1, refl);
      changed = same ∙ sym (all_stay fs);
    }

has-purged : (fs after : Fs) (reply : Reply) → purge_replies fs reply ≡ true → after ≡ purge_change fs reply → HasPurged fs reply after
has-purged fs after Late right same = purged-none fs after right same
has-purged fs after LateMemory right same = purged-none fs after right same
has-purged fs after _ right same = same

-- ---- all ops

pub taken-step : (fs after : Fs) (p : ℕ) (op : Op) (reply : Reply) → IsTaken fs p op reply after → Step fs p op reply after
taken-step fs after p Purge reply t = record { allowed = t.allowed; right = t.right; changed = has-purged fs after reply t.right t.changed }
taken-step fs after p (Look dir name) reply t = record { allowed = t.allowed; right = t.right; changed = t.changed }
taken-step fs after p (Drop ino) reply t = record { allowed = t.allowed; right = t.right; changed = t.changed }
taken-step fs after p (Create dir name kind mode) reply t = record { allowed = t.allowed; right = t.right; changed = t.changed }
taken-step fs after p (AddLink ino) reply t = record { allowed = t.allowed; right = t.right; changed = t.changed }
taken-step fs after p (Enter dir name ino) reply t = record { allowed = t.allowed; right = t.right; changed = t.changed }
taken-step fs after p (SubLink ino) reply t = record { allowed = t.allowed; right = t.right; changed = t.changed }
taken-step fs after p (Unlink dir name) reply t = record { allowed = t.allowed; right = t.right; changed = t.changed }
taken-step fs after p (Rmdir dir name) reply t = record { allowed = t.allowed; right = t.right; changed = t.changed }
taken-step fs after p (OpenFile ino mode) reply t = record { allowed = t.allowed; right = t.right; changed = t.changed }
taken-step fs after p (CloseFile file) reply t = record { allowed = t.allowed; right = t.right; changed = t.changed }
taken-step fs after p (DupFile file) reply t = record { allowed = t.allowed; right = t.right; changed = t.changed }
taken-step fs after p (Read file count) reply t = record { allowed = t.allowed; right = t.right; changed = t.changed }
taken-step fs after p (Write file bytes) reply t = record { allowed = t.allowed; right = t.right; changed = t.changed }
taken-step fs after p (Seek file offset whence) reply t = record { allowed = t.allowed; right = t.right; changed = t.changed }
taken-step fs after p (Trunc ino) reply t = record { allowed = t.allowed; right = t.right; changed = t.changed }
taken-step fs after p (Stat ino) reply t = record { allowed = t.allowed; right = t.right; changed = t.changed }
taken-step fs after p (Promise need) reply t = record { allowed = t.allowed; right = t.right; changed = t.changed }
taken-step fs after p Forgo reply t = record { allowed = t.allowed; right = t.right; changed = t.changed }
taken-step fs after p Sync reply t = record { allowed = t.allowed; right = t.right; changed = t.changed }
