-- A lent block comes back with new bytes, still to be written.
use Rattle.std.proofs.Common.{◌≡◌, ◌≢◌, ◌+◌, ◌*◌, ◌<◌, ◌≤◌, ◌==◌, ◌&&◌, ℕ, Bool, true, false, cond, List, [], ◌∷◌, length, map, get_or, Option, Some, None, IsSome, IfSome, option_map, unwrap_or, refl, sym, ap, ◌∙◌, subst, arith, inl, inr, nat_lt}
use Rattle.std.specs.List.{sum_by, count_by, All}
use Rattle.std.proofs.Math.Path.{fun_ext}
use Rattle.std.proofs.lemmas.Bool.{cases_eq, eqb-true, eq-eqb, ne_eqb, and_from, and_parts}
use Rattle.std.proofs.lemmas.List.{length-set, length-map}
use Rattle.std.proofs.lemmas.List.Sums.{sum_by-cons, get_or-le-sum_by}
use Rattle.std.proofs.lemmas.List.Elements.{All-head, All-map}
use Rattle.sv_links.specs.Arrangement.{one_if}
use Rattle.sv_cache.specs.declared.scenario.Release.TheVariants as how
use Rattle.sv_cache.specs.Cache.{Cache, Buffer, buffer_at, holder}
use Rattle.sv_cache.specs.Brelse.{after_release, released, freed}
use Rattle.sv_cache.specs.Lawful.{IsLawful}
use Rattle.sv_cache.proofs.Laws.{changed, changed-same}
use Rattle.sv_store.specs.Held.{InRange, line_of, put}
use Rattle.sv_store.proofs.Holding.{is_some-put, IsSome-same}
use Rattle.sv_store.proofs.Lines.{length-line_of}
use Rattle.sv_store.specs.Loan.{Loan}
use Rattle.sv_store.specs.Calls.{CanPut}
use Rattle.sv_buf.specs.declared.state.State.{State}
use Rattle.sv_buf.specs.View.{View, Device, Noted, is_at, hits, outs, held_of, lent_of}
use Rattle.sv_buf.specs.Changes.{put_view, put_line}
use Rattle.sv_buf.specs.Running.{IsFit, IsAway, IsLent, IsMoving, IsCurrent, IsSeen, IsRunning}
use Rattle.sv_buf.proofs.Bytes.{with_block, with_block-same, with_block-other, current-put, current-as}
use Rattle.sv_buf.proofs.Steps.{step, SameAway, seen-changed, queued-apart}
use Rattle.sv_buf.proofs.Lists.{All-without, held-none}
use Rattle.sv_buf.proofs.Taking.{none_out, apart-away}
use Rattle.sv_buf.proofs.Returning.{LentHere, lent-here, back-counted, others-apart, apart-lent}

-- a put keeps which lines are held
put-at : (b : ℕ) (bytes : List ℕ) (c l : ℕ) (n : Noted) → is_at c l (put_line b bytes n) ≡ is_at c l n
put-at b bytes c l n = by (n.block == b)
  where
    by : (t : Bool) → is_at c l (cond t (record n { bytes = line_of bytes n.line }) n) ≡ is_at c l n
    by true = refl
    by false = refl

pub put-hits : (b : ℕ) (bytes : List ℕ) (c l : ℕ) (ns : List Noted) → count_by (is_at c l) (map (put_line b bytes) ns) ≡ count_by
    (is_at c l) ns
put-hits b bytes c l [] = refl
put-hits b bytes c l (n ∷ ns) =
    sum_by-cons (λ (x : Noted). cond (is_at c l x) 1 0) (put_line b bytes n) (map (put_line b bytes) ns)
    ∙ (ap (λ t. cond {A = ℕ} t 1 0 + count_by (is_at c l) (map (put_line b bytes) ns)) (put-at b bytes c l n)
    ∙ (ap (λ m. cond (is_at c l n) 1 0 + m) (put-hits b bytes c l ns) ∙ sym (sum_by-cons (λ (x : Noted). cond (is_at c l x) 1 0) n ns)))

-- the lines that are held after a put
pub held-put : (b : ℕ) (bytes : List ℕ) (ns : List Noted) → held_of (map (put_line b bytes) ns) ≡ put b bytes (held_of ns)
unfolding held_of put
held-put b bytes [] = fun_ext (λ c. fun_ext (λ l. none (c == b) l))
  where
    none : (t : Bool) (l : ℕ) → ◌≡◌ {A = Option (List ℕ)} None (cond {A = Option (List ℕ)} t
        (option_map {T = List ℕ} (λ _. line_of bytes l) None) None)
    none true l = refl
    none false l = refl
held-put b bytes (n ∷ ns) = fun_ext (λ c. fun_ext (λ l. at c l (is_at c l n) refl (n.block == b) refl
    (ap (λ h. h c l) (held-put b bytes ns))))
  where
    over : ℕ → ℕ → Option (List ℕ) → Option (List ℕ)
    over c l o = cond (c == b) (option_map (λ _. line_of bytes l) o) o

    at : (c l : ℕ) (t : Bool) → is_at c l n ≡ t → (u : Bool) → (n.block == b) ≡ u
        → held_of (map (put_line b bytes) ns) c l ≡ cond (c == b) (option_map (λ _. line_of bytes l) (held_of ns c l)) (held_of ns c l)
        → cond (is_at c l (put_line b bytes n)) (Some (put_line b bytes n).bytes) (held_of (map (put_line b bytes) ns) c l)
        ≡ cond (c == b) (option_map (λ _. line_of bytes l) (cond (is_at c l n) (Some n.bytes) (held_of ns c l)))
        (cond (is_at c l n) (Some n.bytes) (held_of ns c l))
    at c l false et u eu rest =
        ap (λ t. cond t (Some (put_line b bytes n).bytes) (held_of (map (put_line b bytes) ns) c l)) (put-at b bytes c l n ∙ et)
        ∙ (rest ∙ sym (ap (λ t. cond (c == b) (option_map (λ _. line_of bytes l) (cond t (Some n.bytes) (held_of ns c l)))
        (cond t (Some n.bytes) (held_of ns c l))) et))
    at c l true et true eu rest =
        let parts = and_parts (n.block == c) (n.line == l) et in
        let same : n.line ≡ l = eqb-true n.line l parts.1 in
        let here : (c == b) ≡ true = ap (λ q. q == b) (sym (eqb-true n.block c parts.0)) ∙ eu in
        ap (λ t. cond t (Some (put_line b bytes n).bytes) (held_of (map (put_line b bytes) ns) c l)) (put-at b bytes c l n ∙ et)
        ∙ (ap (λ t. Some (cond t (record n { bytes = line_of bytes n.line }) n).bytes) eu
        ∙ (ap (λ q. Some (line_of bytes q)) same
        ∙ sym (ap (λ t. cond (c == b) (option_map (λ _. line_of bytes l) (cond t (Some n.bytes) (held_of ns c l)))
        (cond t (Some n.bytes) (held_of ns c l))) et ∙ ap (λ t. cond t (Some (line_of bytes l)) (Some n.bytes)) here)))
    at c l true et false eu rest =
        let parts = and_parts (n.block == c) (n.line == l) et in
        let there : (c == b) ≡ false = ap (λ q. q == b) (sym (eqb-true n.block c parts.0)) ∙ eu in
        ap (λ t. cond t (Some (put_line b bytes n).bytes) (held_of (map (put_line b bytes) ns) c l)) (put-at b bytes c l n ∙ et)
        ∙ (ap (λ t. Some (cond t (record n { bytes = line_of bytes n.line }) n).bytes) eu
        ∙ sym (ap (λ t. cond (c == b) (option_map (λ _. line_of bytes l) (cond t (Some n.bytes) (held_of ns c l)))
        (cond t (Some n.bytes) (held_of ns c l))) et ∙ ap (λ t. cond t (Some (line_of bytes l)) (Some n.bytes)) there))

-- each of the put lines is current then
pub put-current : (current : ℕ → List ℕ) (b : ℕ) (bytes : List ℕ) (n : Noted) → IsCurrent current n
    → IsCurrent (with_block b bytes current) (put_line b bytes n)
put-current current b bytes n is =
    elim (cases_eq n.block b) [
      | inl e ↦ subst (λ t. IsCurrent (with_block b bytes current) (cond t (record n { bytes = line_of bytes n.line }) n))
          (sym (eq-eqb n.block b e)) (ap (λ q. line_of q n.line) (sym (with_block-same b bytes current n.block e)))
      | inr x ↦ subst (λ t. IsCurrent (with_block b bytes current) (cond t (record n { bytes = line_of bytes n.line }) n))
          (sym (ne_eqb n.block b x)) (is ∙ ap (λ q. line_of q n.line) (sym (with_block-other b bytes current n.block x)))
    ]

at_most : (t : Bool) → one_if t ≤ 1
at_most true = omega arith
at_most false = omega arith

-- a line of a list is counted at its place
line-counted : (ns : List Noted) (i : ℕ) (d : Noted) → i < length ns → 0 < count_by (is_at (get_or ns i d).block (get_or ns i d).line) ns
line-counted ns i d below =
    let one : cond {A = ℕ} (is_at (get_or ns i d).block (get_or ns i d).line (get_or ns i d)) 1 0 ≡ 1 = ap (λ t. cond {A = ℕ} t 1 0)
    (and_from _ _ (eq-eqb (get_or ns i d).block (get_or ns i d).block refl) (eq-eqb (get_or ns i d).line (get_or ns i d).line refl)) in
    let least = get_or-le-sum_by (λ (x : Noted). cond (is_at (get_or ns i d).block (get_or ns i d).line x) 1 0) ns i d below in
    omega (arith, one, least)

module _ {D : Type 0} where
  -- the lines of another view are current after a put
  pub other-lines : (seen : D → Device) (s : State D) (v : View) (us : List View) (h : IsRunning seen s (v ∷ us)) (buf : Loan)
      (was : List ℕ) → was ≡ h.kept.current buf.block
      → ((l : ℕ) → held_of v.lines buf.block l ≡ None → line_of buf.bytes l ≡ line_of was l) → (u : View) → ((g : View → ℕ)
      → g u ≤ sum_by g us) → All (IsCurrent h.kept.current) u.lines
      → All (IsCurrent (with_block buf.block buf.bytes h.kept.current)) u.lines
  other-lines seen s v us h buf was are same u below all = λ i d inside. line (get_or u.lines i d) (line-counted u.lines i d inside)
      (all i d inside)
    where
      line : (n : Noted) → 0 < hits n.block n.line u → IsCurrent h.kept.current n
          → IsCurrent (with_block buf.block buf.bytes h.kept.current) n
      line n some is =
          elim (cases_eq n.block buf.block) [
            | inl e ↦
                let whole = h.lines_once.once n.block n.line in
                let part = sum_by-cons (hits n.block n.line) v us in
                let theirs = below (hits n.block n.line) in
                let most = at_most (nat_lt n.block s.core.geometry.blocks && nat_lt (n.line * 64) s.core.geometry.block_size) in
                let none : hits n.block n.line v ≡ 0 = omega arith in
                let unheld : held_of v.lines buf.block n.line ≡ None = subst (λ q. held_of v.lines q n.line ≡ None) e
                (held-none n.block n.line v.lines none) in
                is ∙ (ap (λ q. line_of (h.kept.current q) n.line) e ∙ (ap (λ q. line_of q n.line) (sym are)
                ∙ (sym (same n.line unheld) ∙ ap (λ q. line_of q n.line) (sym
                (with_block-same buf.block buf.bytes h.kept.current n.block e)))))
            | inr x ↦ is ∙ ap (λ q. line_of q n.line) (sym (with_block-other buf.block buf.bytes h.kept.current n.block x))
          ]

  -- a buffer that another view has out is of another block
  pub put-away : (c : Cache D) (current : ℕ → List ℕ) (k b : ℕ) (bytes : List ℕ) (x : Buffer) (free : List ℕ) (u : View) → ((j e : ℕ)
      → (buffer_at c j).block ≡ Some e → (buffer_at c k).block ≡ Some e → j ≡ k) → (buffer_at c k).block ≡ Some b → outs k u ≡ 0
      → (j e : ℕ) → 0 < outs j u → IsAway c j e → SameAway c current (record (changed c k x) { free = free })
      (with_block b bytes current) j e
  put-away c current k b bytes x free u one named none j e out away =
      let n : j ≢ k = (λ q. let z : outs j u ≡ 0 = subst (λ i. outs i u ≡ 0) (sym q) none in absurd (omega arith)) in
      let p = apart-away c current k x free c.device u none j e out away in
      record {
        out = record { named = p.out.named; away = p.out.away };
        delayed = p.delayed;
        bytes = with_block-other b bytes current e (λ (q : e ≡ b). n (one j b (away.named ∙ ap Some q) named));
      }

  puts-at : (seen : D → Device) (s : State D) (v : View) (us : List View) (h : IsRunning seen s (v ∷ us)) (k : ℕ) (buf : Loan)
      (can : CanPut (held_of v.lines) (lent_of v.loans) buf) → v.moving ≡ None → LentHere s h.kept.current v k buf.block can.was
      → IsLawful (after_release s.core k buf.bytes how.Delayed) → IsRunning seen (record s
      { core = after_release s.core k buf.bytes how.Delayed }) (put_view buf.block buf.bytes v ∷ us)
  puts-at seen s v us h k buf can calm p lawful =
      let mine = All-head (IsSeen s.core h.kept.current h.kept.device h.kept.opening) v us h.each in
      let x : Buffer = released (buffer_at s.core k) buf.bytes how.Delayed in
      step seen s (record s { core = after_release s.core k buf.bytes how.Delayed }) v (put_view buf.block buf.bytes v) us h
      (record {
        current = with_block buf.block buf.bytes h.kept.current;
        device = h.kept.device;
        opening = h.kept.opening;
        lawful = lawful;
        sizes = h.kept.sizes;
        same_sizes = h.kept.same_sizes;
        same_count = h.kept.same_count ∙ sym (length-set s.core.buffers k (released (buffer_at s.core k) buf.bytes how.Delayed));
        few = omega (arith, h.kept.few, length-set s.core.buffers k (released (buffer_at s.core k) buf.bytes how.Delayed));
        room = h.kept.room ∙ sym (length-set s.core.buffers k (released (buffer_at s.core k) buf.bytes how.Delayed));
        bytes = current-as (changed s.core k (released (buffer_at s.core k) buf.bytes how.Delayed))
            (after_release s.core k buf.bytes how.Delayed) (with_block buf.block buf.bytes h.kept.current) h.kept.device h.kept.device
            refl refl refl
            (current-put s.core h.kept.current h.kept.device k buf.block buf.bytes (released (buffer_at s.core k) buf.bytes how.Delayed)
            h.kept.bytes h.kept.lawful.one_buffer p.named (can.size ∙ ap length p.current_are) refl refl refl (λ y has. cc));
        device_home = h.kept.device_home;
      }) refl
      (record {
        buffers = length-set s.core.buffers k (released (buffer_at s.core k) buf.bytes how.Delayed);
        sizes = refl;
        state = back-counted seen s v us h k buf.block can.was how.Delayed p calm;
        device = refl;
        lines = λ e l. put-hits buf.block buf.bytes e l v.lines;
        workers = refl;
        queued = queued-apart s.core k (released (buffer_at s.core k) buf.bytes how.Delayed) (freed s.core.free k how.Delayed)
            s.core.device s.requests.waiting p.idle h.one_state.queued;
      })
      (λ low. (omega arith, omega arith))
      (record {
        opened = λ some. mine.opened (omega (arith, length-map v.lines (put_line buf.block buf.bytes)));
        lent = All-without (IsLent s.core h.kept.current) (IsLent (after_release s.core k buf.bytes how.Delayed)
            (with_block buf.block buf.bytes h.kept.current)) buf.block v.loans
            (λ loan n lent. let a = apart-lent s.core h.kept.current k (released (buffer_at s.core k) buf.bytes how.Delayed)
            (freed s.core.free k how.Delayed) loan (others-apart seen s v us h k buf.block can.was p loan n lent) lent in
            record { out = a.out; bytes = a.bytes ∙ sym (with_block-other buf.block buf.bytes h.kept.current loan.block n) }) mine.lent;
        moves = subst (λ m. IfSome m (IsMoving (after_release s.core k buf.bytes how.Delayed)
            (with_block buf.block buf.bytes h.kept.current))) (sym calm) tt;
        device_seen = mine.device_seen;
        lines = All-map (IsCurrent (with_block buf.block buf.bytes h.kept.current)) (put_line buf.block buf.bytes) v.lines
            (λ i d inside. put-current h.kept.current buf.block buf.bytes (get_or v.lines i d) (mine.lines i d inside));
      })
      (λ u below q. seen-changed s.core h.kept.current h.kept.device (after_release s.core k buf.bytes how.Delayed)
      (with_block buf.block buf.bytes h.kept.current) h.kept.device h.kept.opening u
      (put-away s.core h.kept.current k buf.block buf.bytes (released (buffer_at s.core k) buf.bytes how.Delayed)
      (freed s.core.free k how.Delayed) u (λ j e. h.kept.lawful.one_buffer.same j k e) p.named
      (none_out seen s v us h k (let o = p.once in omega arith) u below))
      (other-lines seen s v us h buf can.was p.current_are can.others u below q.lines) q.device_seen q)

  -- a block that is lent comes back with new bytes
  pub puts : (seen : D → Device) (s : State D) (e : Cache D) (v : View) (us : List View) (h : IsRunning seen s (v ∷ us)) (k : ℕ)
      (buf : Loan) (can : CanPut (held_of v.lines) (lent_of v.loans) buf) → v.moving ≡ None → holder s.core buf.block ≡ Some k
      → e ≡ after_release s.core k buf.bytes how.Delayed → IsLawful e
      → IsRunning seen (record s { core = e }) (put_view buf.block buf.bytes v ∷ us)
  puts seen s e v us h k buf can calm holds is lawful =
      subst (λ q. IsRunning seen (record s { core = q }) (put_view buf.block buf.bytes v ∷ us)) (sym is)
      (puts-at seen s v us h k buf can calm (lent-here seen s v us h k buf.block can.was can.from holds)
      (subst (λ q. IsLawful q) is lawful))

-- the bytes of a buffer that was given back
pub given-bytes : {D : Type 0} (c e : Cache D) (k : ℕ) (bytes items : List ℕ) → items ≡ bytes → k < length c.buffers
    → e ≡ after_release c k items how.Delayed → unwrap_or (buffer_at e k).bytes [] ≡ bytes
given-bytes c e k bytes items same inside is =
    ap (λ q. unwrap_or (buffer_at q k).bytes []) is ∙ (ap (λ (y : Buffer). unwrap_or y.bytes [])
    (changed-same c k (released (buffer_at c k) items how.Delayed) inside) ∙ same)

-- what can be put under another name of the view
pub put-under : (v w : View) (buf : Loan) → w ≡ v → CanPut (held_of v.lines) (lent_of v.loans) buf
    → CanPut (held_of w.lines) (lent_of w.loans) buf
put-under v w buf p can = subst (λ x. CanPut (held_of x.lines) (lent_of x.loans) buf) (sym p) can

-- a stake stays fit where a block of the right size is put
pub fit-put : (v w : View) (b : ℕ) (bytes : List ℕ) → w ≡ put_view b bytes v → length bytes ≡ v.opening.sizes.block_size → IsFit v → IsFit w
unfolding put
fit-put v w b bytes is size fit = subst IsFit (sym is) (record {
  sizes = fit.sizes;
  range = subst (InRange v.opening.sizes) (sym (held-put b bytes v.lines)) (record {
    block = λ c l some. fit.range.block c l (IsSome-same (put b bytes (held_of v.lines) c l) (held_of v.lines c l)
        (is_some-put b bytes (held_of v.lines) c l) some);
    line = λ c l some. fit.range.line c l (IsSome-same (put b bytes (held_of v.lines) c l) (held_of v.lines c l)
        (is_some-put b bytes (held_of v.lines) c l) some);
    bytes = λ c l. by c l (c == b) refl (held_of v.lines c l) (λ some. fit.range.line c l some) (fit.range.bytes c l);
  });
  some = let f = fit.some in omega (arith, length-map v.lines (put_line b bytes));
  calm = fit.calm;
  home = fit.home;
  once = λ c l. subst (λ n. n ≤ 1) (sym (put-hits b bytes c l v.lines)) (fit.once c l);
  no_worker = fit.no_worker;
})
  where
    by : (c l : ℕ) (t : Bool) → (c == b) ≡ t → (o : Option (List ℕ)) → (IsSome o → l * 64 < v.opening.sizes.block_size)
        → IfSome o (λ line. length line ≡ 64) → IfSome (cond (c == b) (option_map {T = List ℕ} (λ _. line_of bytes l) o) o)
        (λ line. length line ≡ 64)
    by c l t at None low all = subst (λ q. IfSome (cond q (option_map {T = List ℕ} (λ _. line_of bytes l) None) None)
        (λ line. length line ≡ 64)) (sym at) (none t)
      where
        none : (q : Bool) → IfSome (cond {A = Option (List ℕ)} q (option_map {T = List ℕ} (λ _. line_of bytes l) None) None)
            (λ line. length line ≡ 64)
        none true = tt
        none false = tt
    by c l true at (Some y) low all =
        let whole = fit.sizes.block_size in
        let inside = low refl in
        subst (λ q. IfSome (cond q (option_map {T = List ℕ} (λ _. line_of bytes l) (Some y)) (Some y)) (λ line. length line ≡ 64))
        (sym at) (length-line_of bytes l ∙ omega (arith, size, whole, inside))
    by c l false at (Some y) low all = subst (λ q. IfSome (cond q (option_map {T = List ℕ} (λ _. line_of bytes l) (Some y)) (Some y))
        (λ line. length line ≡ 64)) (sym at) all
