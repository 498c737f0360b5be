-- Lines are parted and merged.
use Rattle.std.proofs.Common.{◌≡◌, ◌+◌, ◌*◌, ◌<◌, ◌≤◌, ◌==◌, ◌++◌, ◌||◌, ℕ, zero, suc, Bool, true, false, cond, not, min, List, [], ◌∷◌, length, take, drop, Option, Some, None, is_some, IsSome, IfSome, Result, Ok, Err, OnOk, OnErr, refl, sym, ap, ◌∙◌, subst, arith}
use Rattle.std.specs.List.{count_by, filter}
use Rattle.std.proofs.Math.Path.{fun_ext}
use Rattle.std.proofs.lemmas.Bool.{false≢true, eqb-true, eq-eqb, and_parts}
use Rattle.std.proofs.lemmas.List.{length-append}
use Rattle.std.proofs.lemmas.List.Sums.{sum_by-cons, sum_by-append}
use Rattle.std.proofs.lemmas.List.Sorted.{IsPermutation-filter_both, IsPermutation-refl}
use Rattle.sv_dev.specs.Causes.{counted, last_count}
use Rattle.sv_form.specs.declared.geometry.Geometry.{Geometry}
use Rattle.sv_form.specs.declared.owners.LineRange.{LineRange}
use Rattle.sv_turn.specs.declared.pass.Pass.{Pass}
use Rattle.sv_turn.specs.declared.turn.Turn.{Turn}
use Rattle.sv_turn.specs.Passes.{pass_view, IsPassOf}
use Rattle.sv_turn.specs.Numbers.{pass_numbers}
use Rattle.sv_turn.proofs.Numbers.{same_turn, pass_turn}
use Rattle.sv_store.specs.Held.{Held, Origin, InRange, Apart, Both, in_ranges, chosen, rest, nothing_lent, with}
use Rattle.sv_store.specs.Calls.{CanPart}
use Rattle.sv_buf.specs.View.{View, Noted, Lending, Opening, is_at, hits, held_of, lent_of}
use Rattle.sv_buf.specs.Changes.{kept_view, parted_view, merged_view}
use Rattle.sv_buf.specs.Running.{IsFit}
use Rattle.sv_buf.specs.Parting.{IsCut}
use Rattle.sv_buf.specs.Stake.{opening_numbers, pass_origin}
use Rattle.sv_buf.proofs.Lists.{held-some}

-- the held lines among those that pass a test
pub held-filter : (p : ℕ → ℕ → Bool) (ns : List Noted) (b l : ℕ) → held_of (filter (λ n. p n.block n.line) ns) b l ≡ cond (p b l)
    (held_of ns b l) None
unfolding held_of
held-filter p [] b l = none (p b l)
  where
    none : (t : Bool) → ◌≡◌ {A = Option (List ℕ)} None (cond t None None)
    none true = refl
    none false = refl
held-filter p (n ∷ ns) b l = by (p n.block n.line) refl (is_at b l n) refl (held-filter p ns b l)
  where
    same : is_at b l n ≡ true → p b l ≡ p n.block n.line
    same at = let parts = and_parts (n.block == b) (n.line == l) at in ap (λ q. p q l) (sym (eqb-true n.block b parts.0))
        ∙ ap (p n.block) (sym (eqb-true n.line l parts.1))

    by : (t : Bool) → p n.block n.line ≡ t → (u : Bool) → is_at b l n ≡ u
        → held_of (filter (λ m. p m.block m.line) ns) b l ≡ cond (p b l) (held_of ns b l) None
        → held_of (cond (p n.block n.line) (n ∷ filter (λ m. p m.block m.line) ns) (filter (λ m. p m.block m.line) ns)) b l ≡ cond
        (p b l) (cond (is_at b l n) (Some n.bytes) (held_of ns b l)) None
    by true pt true at again =
        ap (λ t. held_of (cond t (n ∷ filter (λ m. p m.block m.line) ns) (filter (λ m. p m.block m.line) ns)) b l) pt
        ∙ (ap (λ t. cond t (Some n.bytes) (held_of (filter (λ m. p m.block m.line) ns) b l)) at
        ∙ sym (ap (λ t. cond t (cond (is_at b l n) (Some n.bytes) (held_of ns b l)) None) (same at ∙ pt)
        ∙ ap (λ t. cond t (Some n.bytes) (held_of ns b l)) at))
    by true pt false at again =
        ap (λ t. held_of (cond t (n ∷ filter (λ m. p m.block m.line) ns) (filter (λ m. p m.block m.line) ns)) b l) pt
        ∙ (ap (λ t. cond t (Some n.bytes) (held_of (filter (λ m. p m.block m.line) ns) b l)) at
        ∙ (again ∙ sym (ap (λ t. cond (p b l) (cond t (Some n.bytes) (held_of ns b l)) None) at)))
    by false pt true at again =
        ap (λ t. held_of (cond t (n ∷ filter (λ m. p m.block m.line) ns) (filter (λ m. p m.block m.line) ns)) b l) pt
        ∙ (again ∙ (ap (λ t. cond t (held_of ns b l) None) (same at ∙ pt)
        ∙ sym (ap (λ t. cond t (cond (is_at b l n) (Some n.bytes) (held_of ns b l)) None) (same at ∙ pt))))
    by false pt false at again =
        ap (λ t. held_of (cond t (n ∷ filter (λ m. p m.block m.line) ns) (filter (λ m. p m.block m.line) ns)) b l) pt
        ∙ (again ∙ sym (ap (λ t. cond (p b l) (cond t (Some n.bytes) (held_of ns b l)) None) at))

pub held-parted : (lines : List LineRange) (v : View) → held_of (parted_view lines v).lines ≡ chosen lines (held_of v.lines)
unfolding chosen
held-parted lines v = fun_ext (λ b. fun_ext (λ l. held-filter (in_ranges lines) v.lines b l))

pub held-kept : (lines : List LineRange) (v : View) → held_of (kept_view lines v).lines ≡ rest lines (held_of v.lines)
unfolding rest
held-kept lines v = fun_ext (λ b. fun_ext (λ l. held-filter (λ c k. not (in_ranges lines c k)) v.lines b l
    ∙ turned (in_ranges lines b l) (held_of v.lines b l)))
  where
    turned : (t : Bool) (o : Option (List ℕ)) → cond (not t) o None ≡ cond t None o
    turned true o = refl
    turned false o = refl

pub held-length : (ns : List Noted) (b l : ℕ) → IsSome (held_of ns b l) → 0 < length ns
unfolding held_of
held-length [] b l some = absurd (false≢true some)
held-length (n ∷ ns) b l some = omega arith

twice : (t : Bool) → t ≡ not (not t)
twice true = refl
twice false = refl

or-false : (t : Bool) → t ≡ (t || false)
or-false true = refl
or-false false = refl

pub cut-part : (lines : List LineRange) (v : View) → IsFit v → CanPart (held_of v.lines) (lent_of v.loans) lines
    → IsCut v (kept_view lines v) (parted_view lines v)
cut-part lines v fit can = record {
  opening = (refl, refl);
  lines = IsPermutation-filter_both (λ (n : Noted). not (in_ranges lines n.block n.line)) (λ n. in_ranges lines n.block n.line)
      (λ n. twice (in_ranges lines n.block n.line)) v.lines;
  loans = (refl, refl);
  moving = (fit.calm, fit.calm, fit.calm);
  device = (fit.home, fit.home, fit.home);
  faults = omega arith;
  forced = or-false v.forced;
  workers = omega arith;
  some = (
    let a = held-length (kept_view lines v).lines can.more.0 can.more.1.0 (subst (λ (o : Option (List ℕ)). IsSome o)
        (sym (held-filter (λ c k. not (in_ranges lines c k)) v.lines can.more.0 can.more.1.0
        ∙ ap (λ t. cond (not t) (held_of v.lines can.more.0 can.more.1.0) None) can.more.1.1.1)) can.more.1.1.0) in omega arith,
    let a = held-length (parted_view lines v).lines can.some.0 can.some.1.0 (subst (λ (o : Option (List ℕ)). IsSome o)
        (sym (held-filter (in_ranges lines) v.lines can.some.0 can.some.1.0
        ∙ ap (λ t. cond t (held_of v.lines can.some.0 can.some.1.0) None) can.some.1.1))
        (can.within can.some.0 can.some.1.0 can.some.1.1)) in omega arith,
  );
}

-- of the lines that pass a test, each is noted at most as often
pub fewer-hits : (q : Noted → Bool) (b l : ℕ) (ns : List Noted) → count_by (is_at b l) (filter q ns) ≤ count_by (is_at b l) ns
fewer-hits q b l [] = omega arith
fewer-hits q b l (n ∷ ns) = by (q n) (fewer-hits q b l ns)
  where
    by : (t : Bool) → count_by (is_at b l) (filter q ns) ≤ count_by (is_at b l) ns
        → count_by (is_at b l) (cond t (n ∷ filter q ns) (filter q ns)) ≤ count_by (is_at b l) (n ∷ ns)
    by true again = omega (
      arith,
      again,
      sum_by-cons (λ (x : Noted). cond {A = ℕ} (is_at b l x) 1 0) n ns,
      sum_by-cons (λ (x : Noted). cond {A = ℕ} (is_at b l x) 1 0) n (filter q ns),
    )
    by false again = omega (arith, again, sum_by-cons (λ (x : Noted). cond {A = ℕ} (is_at b l x) 1 0) n ns)

-- fewer lines are in range
fewer : (g : Geometry) (h k : Held) → ((b l : ℕ) → (t : Bool) × (k b l ≡ cond t (h b l) None)) → InRange g h → InRange g k
fewer g h k sub range = record {
  block = λ b l some. range.block b l (had b l some);
  line = λ b l some. range.line b l (had b l some);
  bytes = λ b l. let s = sub b l in subst (λ (o : Option (List ℕ)). IfSome o (λ line. length line ≡ 64)) (sym s.1)
      (by s.0 (h b l) (range.bytes b l));
}
  where
    by : (t : Bool) (o : Option (List ℕ)) → IfSome o (λ line. length line ≡ 64) → IfSome (cond t o None) (λ line. length line ≡ 64)
    by true o q = q
    by false o q = tt

    of : (t : Bool) (o : Option (List ℕ)) → IsSome (cond t o None) → IsSome o
    of true o q = q
    of false o q = absurd (false≢true q)

    had : (b l : ℕ) → IsSome (k b l) → IsSome (h b l)
    had b l some = let s = sub b l in of s.0 (h b l) (subst (λ (o : Option (List ℕ)). IsSome o) s.1 some)

pub fit-kept : (lines : List LineRange) (v w : View) → w ≡ kept_view lines v → IsFit v
    → CanPart (held_of v.lines) (lent_of v.loans) lines → IsFit w
fit-kept lines v w is fit can = subst IsFit (sym is) (record {
  no_worker = fit.no_worker;
  once = λ b l. let fewer = fewer-hits (λ n. not (in_ranges lines n.block n.line)) b l v.lines in let most = fit.once b l in omega arith;
  sizes = fit.sizes;
  range = fewer v.opening.sizes (held_of v.lines) (held_of (kept_view lines v).lines)
      (λ b l. (not (in_ranges lines b l), held-filter (λ c k. not (in_ranges lines c k)) v.lines b l)) fit.range;
  some = (cut-part lines v fit can).some.0;
  calm = fit.calm;
  home = fit.home;
})

pub fit-parted : (lines : List LineRange) (v w : View) → w ≡ parted_view lines v → IsFit v
    → CanPart (held_of v.lines) (lent_of v.loans) lines → IsFit w
fit-parted lines v w is fit can = subst IsFit (sym is) (record {
  no_worker = refl;
  once = λ b l. let fewer = fewer-hits (λ n. in_ranges lines n.block n.line) b l v.lines in let most = fit.once b l in omega arith;
  sizes = fit.sizes;
  range = fewer v.opening.sizes (held_of v.lines) (held_of (parted_view lines v).lines)
      (λ b l. (in_ranges lines b l, held-filter (in_ranges lines) v.lines b l)) fit.range;
  some = (cut-part lines v fit can).some.1;
  calm = fit.calm;
  home = fit.home;
})

-- what is not held is not noted
pub unheld-none : (b l : ℕ) (ns : List Noted) → held_of ns b l ≡ None → count_by (is_at b l) ns ≡ 0
unheld-none b l ns none = by (count_by (is_at b l) ns) refl
  where
    by : (n : ℕ) → count_by (is_at b l) ns ≡ n → count_by (is_at b l) ns ≡ 0
    by zero e = e
    by (suc n) e = absurd (false≢true (subst (λ (o : Option (List ℕ)). IsSome o) none (held-some b l ns (omega arith))))

-- the lines of both
pub held-append : (xs ys : List Noted) → held_of (xs ++ ys) ≡ Both (held_of xs) (held_of ys)
unfolding held_of Both
held-append [] ys = refl
held-append (x ∷ xs) ys = fun_ext (λ b. fun_ext (λ l. by (is_at b l x) b l (ap (λ h. h b l) (held-append xs ys))))
  where
    by : (t : Bool) (b l : ℕ) → held_of (xs ++ ys) b l ≡ cond (is_some (held_of xs b l)) (held_of xs b l) (held_of ys b l)
        → cond t (Some x.bytes) (held_of (xs ++ ys) b l) ≡ cond (is_some (cond t (Some x.bytes) (held_of xs b l)))
        (cond t (Some x.bytes) (held_of xs b l)) (held_of ys b l)
    by true b l again = refl
    by false b l again = again

-- where nothing is lent there are no loans
pub no_loans : (xs : List Lending) → lent_of xs ≡ nothing_lent → xs ≡ []
unfolding lent_of with
no_loans [] e = refl
no_loans (x ∷ xs) e =
    let here : cond (x.block == x.block) (Some x.bytes) (lent_of xs x.block) ≡ Some x.bytes = ap
    (λ t. cond t (Some x.bytes) (lent_of xs x.block)) (eq-eqb x.block x.block refl) in
    let none : cond (x.block == x.block) (Some x.bytes) (lent_of xs x.block) ≡ None = ap (λ m. m x.block) e in
    absurd (let q : Some x.bytes ≡ None = sym here ∙ none in cc)

pub cut-merge : (v w : View) → IsFit v → IsFit w → w.opening ≡ v.opening → lent_of w.loans ≡ nothing_lent → IsCut (merged_view v w) v w
cut-merge v w fit other opening nothing = record {
  opening = (refl, opening);
  lines = IsPermutation-refl (v.lines ++ w.lines);
  loans = (refl, no_loans w.loans nothing);
  moving = (fit.calm, fit.calm, other.calm);
  device = (fit.home, fit.home, other.home);
  faults = refl;
  forced = refl;
  workers = refl;
  some = (fit.some, other.some);
}

pub fit-merged : (v w x : View) → x ≡ merged_view v w → w.opening ≡ v.opening → Apart (held_of v.lines) (held_of w.lines) → IsFit v
    → IsFit w → IsFit x
unfolding Both
fit-merged v w x is opening apart fit other = subst IsFit (sym is) (record {
  no_worker = let mine = fit.no_worker in let theirs = other.no_worker in omega arith;
  once = λ b l. by b l (hits b l v) refl;
  sizes = fit.sizes;
  range = subst (InRange v.opening.sizes) (sym (held-append v.lines w.lines)) (both v.opening.sizes (held_of v.lines) (held_of w.lines)
      fit.range (subst (λ (o : Opening). InRange o.sizes (held_of w.lines)) opening other.range));
  some = let some = fit.some in omega (arith, length-append v.lines w.lines);
  calm = fit.calm;
  home = fit.home;
})
  where
    by : (b l n : ℕ) → hits b l v ≡ n → hits b l (merged_view v w) ≤ 1
    by b l zero none = let most = other.once b l in
        omega (arith, none, sum_by-append (λ (y : Noted). cond {A = ℕ} (is_at b l y) 1 0) v.lines w.lines)
    by b l (suc n) some =
        let most = fit.once b l in
        let gone : hits b l w ≡ 0 = unheld-none b l w.lines (apart.at b l (held-some b l v.lines (omega arith))) in
        omega (arith, gone, sum_by-append (λ (y : Noted). cond {A = ℕ} (is_at b l y) 1 0) v.lines w.lines)

    both : (g : Geometry) (h k : Held) → InRange g h → InRange g k → InRange g (Both h k)
    both g h k p q = record {
      block = λ b l. at (λ _. b < g.blocks) (h b l) (k b l) (p.block b l) (q.block b l);
      line = λ b l. at (λ _. l * 64 < g.block_size) (h b l) (k b l) (p.line b l) (q.line b l);
      bytes = λ b l. bytes (h b l) (k b l) (p.bytes b l) (q.bytes b l);
    }
      where
        at : (P : ℕ → Type 0) (o r : Option (List ℕ)) → (IsSome o → P 0) → (IsSome r → P 0) → IsSome (cond (is_some o) o r) → P 0
        at P None r f g some = g some
        at P (Some y) r f g some = f refl

        bytes : (o r : Option (List ℕ)) → IfSome o (λ line. length line ≡ 64) → IfSome r (λ line. length line ≡ 64)
            → IfSome (cond (is_some o) o r) (λ line. length line ≡ 64)
        bytes None r f g = g
        bytes (Some y) r f g = f

-- a count of both
pub faults-merged : (a b : ℕ) → min (a + b) last_count ≡ counted (min a last_count) (min b last_count)
faults-merged a b = omega arith

-- equal numbers are of equal openings and turns
pub numbers-same : (o q : Opening) (xs ys : List ℕ) → o.sizes ≡ q.sizes → opening_numbers o ++ xs ≡ opening_numbers q ++ ys
    → (o ≡ q) × (xs ≡ ys)
numbers-same o q xs ys sizes e =
    let buffers : o.buffers ≡ q.buffers = cc in
    let reads : o.disk.reads ≡ q.disk.reads = cc in
    let writes : o.disk.writes ≡ q.disk.writes = cc in
    let faults : o.disk.faults ≡ q.disk.faults = cc in
    let long : length o.disk.content ≡ length q.disk.content = cc in
    let all : o.disk.content ++ xs ≡ q.disk.content ++ ys = cc in
    let content : o.disk.content ≡ q.disk.content = sym (take_front o.disk.content xs) ∙ (ap (take (length o.disk.content)) all
    ∙ (ap (λ n. take n (q.disk.content ++ ys)) long ∙ take_front q.disk.content ys)) in
    let others : xs ≡ ys = sym (drop_front o.disk.content xs) ∙ (ap (drop (length o.disk.content)) all
    ∙ (ap (λ n. drop n (q.disk.content ++ ys)) long ∙ drop_front q.disk.content ys)) in (
      ap (λ g. record o { sizes = g }) sizes
          ∙ (ap (λ n. record q { buffers = n; disk = o.disk }) buffers
          ∙ ap (λ d. record q { disk = d }) (ap (λ l. record o.disk { content = l }) content
          ∙ (ap (λ n. record o.disk { content = q.disk.content; reads = n }) reads
          ∙ (ap (λ n. record q.disk { writes = n; faults = o.disk.faults }) writes ∙ ap (λ n. record q.disk { faults = n }) faults)))),
      others,
    )
  where
    take_front : (xs ys : List ℕ) → take (length xs) (xs ++ ys) ≡ xs
    take_front [] ys = refl
    take_front (x ∷ xs) ys = ap (λ (l : List ℕ). x ∷ l) (take_front xs ys)

    drop_front : (xs ys : List ℕ) → drop (length xs) (xs ++ ys) ≡ ys
    drop_front [] ys = refl
    drop_front (x ∷ xs) ys = drop_front xs ys

-- what names both is one opening and one turn
pub origin-same : {R S : Type 0} (t : Turn R S View) (p : Pass R S View) (q : Pass R S View) → IsPassOf t p
    → pass_origin q ≡ pass_origin p → ((pass_view q).opening ≡ (pass_view p).opening) × IsPassOf t q
origin-same t p q own e =
    let both = numbers-same (pass_view q).opening (pass_view p).opening (pass_numbers q) (pass_numbers p)
    (ap (λ (o : Origin). o.sizes) e) (ap (λ (o : Origin). o.id) e) in
    (both.0, same_turn t q (both.1 ∙ pass_turn t p own))

pub lent-none : lent_of [] ≡ nothing_lent
unfolding lent_of
lent-none = refl

pub fit-same : (v w : View) → w ≡ v → IsFit v → IsFit w
fit-same v w is fit = subst IsFit (sym is) fit

-- a stake stays fit whether its lines were cut off or not
pub fit-split : {T E : Type 0} (r : Result T E) (lines : List LineRange) (v w : View) → OnOk r (w ≡ kept_view lines v) → OnErr r (w ≡ v)
    → IsFit v → CanPart (held_of v.lines) (lent_of v.loans) lines → IsFit w
fit-split (Ok x) lines v w left same fit can = fit-kept lines v w left fit can
fit-split (Err x) lines v w left same fit can = fit-same v w same fit
