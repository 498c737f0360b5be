-- A lent block comes back, as it was or with new bytes.
use Rattle.std.proofs.Common.{◌≡◌, ◌≢◌, ◌+◌, ◌<◌, ◌≤◌, ◌==◌, ℕ, Bool, true, false, cond, List, ◌∷◌, length, get_or, Some, None, IsSome, IfSome, refl, sym, ap, ◌∙◌, subst, arith, inl, inr, nat_lt}
use Rattle.std.specs.List.{All}
use Rattle.std.proofs.lemmas.Bool.{cases_eq, false≢true}
use Rattle.std.proofs.lemmas.List.{length-set}
use Rattle.std.proofs.lemmas.List.Sums.{sum_by-cons}
use Rattle.std.proofs.lemmas.List.Elements.{All-head}
use Rattle.sv_links.specs.Arrangement.{times, one_if}
use Rattle.sv_links.proofs.Times.{one-if_same, none-if_other}
use Rattle.sv_cache.specs.declared.scenario.Release.{Release}
use Rattle.sv_cache.specs.declared.scenario.Release.TheVariants as how
use Rattle.sv_cache.specs.Cache.{Cache, Buffer, buffer_at, is_delayed, holder, IsBusy}
use Rattle.sv_cache.specs.Brelse.{after_release, released, freed}
use Rattle.sv_cache.specs.Lawful.{IsLawful}
use Rattle.sv_cache.proofs.Laws.{changed, changed-other, times-freed}
use Rattle.sv_cache.proofs.Holder.{holder-named, named-inside}
use Rattle.sv_buf.specs.declared.state.State.{State}
use Rattle.sv_buf.specs.View.{View, Device, Lending, weight, outs, lent_of, moving_times}
use Rattle.sv_buf.specs.Changes.{back_view, loans_without}
use Rattle.sv_buf.specs.Running.{IsLent, IsMoving, IsSeen, IsRunning}
use Rattle.sv_buf.proofs.Bytes.{TakesPlace}
use Rattle.sv_buf.proofs.Steps.{step, seen-changed, queued-apart}
use Rattle.sv_buf.proofs.Lists.{lent-found, Tells, back-none, back-others, All-without, lent_count}
use Rattle.sv_buf.proofs.Taking.{none_out, apart-away, kept-changed}

-- buffer k is lent to this view, for block b with these bytes
pub record LentHere {D : Type 0} (s : State D) (current : ℕ → List ℕ) (v : View) (k b : ℕ) (bytes : List ℕ) : Type 0 where
  pub named : (buffer_at s.core k).block ≡ Some b
  pub away : (buffer_at s.core k).bytes ≡ None
  pub busy : IsBusy s.core k
  pub idle : times k s.requests.waiting ≡ 0
  pub once : outs k v ≡ 1
  pub current_are : bytes ≡ current b
  pub size : length bytes ≡ s.core.geometry.block_size
  pub holds : holder s.core b ≡ Some k
  pub inside : k < length s.core.buffers

at_most : (t : Bool) → one_if t ≤ 1
at_most true = omega arith
at_most false = omega arith

module _ {D : Type 0} where
  pub lent-here : (seen : D → Device) (s : State D) (v : View) (us : List View) (h : IsRunning seen s (v ∷ us)) (k b : ℕ)
      (bytes : List ℕ) → lent_of v.loans b ≡ Some bytes → holder s.core b ≡ Some k → LentHere s h.kept.current v k b bytes
  lent-here seen s v us h k b bytes lent holds =
      let mine = All-head (IsSeen s.core h.kept.current h.kept.device h.kept.opening) v us h.each in
      let f = lent-found (IsLent s.core h.kept.current) b bytes v.loans lent mine.lent in
      let there : (buffer_at s.core f.loan.buffer).block ≡ Some b = f.is.out.named ∙ ap Some f.block in
      let known : holder s.core b ≡ Some f.loan.buffer = holder-named s.core f.loan.buffer b h.kept.lawful.one_buffer there in
      let same : f.loan.buffer ≡ k = (let e : Some f.loan.buffer ≡ Some k = sym known ∙ holds in cc) in
      let named : (buffer_at s.core k).block ≡ Some b = subst (λ i. (buffer_at s.core i).block ≡ Some b) same there in
      let inside = named-inside s.core k b named in
      let counted : 0 < lent_count k v.loans = subst (λ i. 0 < lent_count i v.loans) same f.counted in
      let whole = h.one_state.once k in
      let part = sum_by-cons (outs k) v us in
      let most = at_most (nat_lt k (length s.core.buffers)) in
      let are : bytes ≡ h.kept.current b = sym f.bytes_are ∙ (f.is.bytes ∙ ap h.kept.current f.block) in
      record {
        named = named;
        away = subst (λ i. (buffer_at s.core i).bytes ≡ None) same f.is.out.away;
        busy = record { in_range = inside; busy = omega arith };
        idle = omega arith;
        once = omega arith;
        current_are = are;
        size = ap length are ∙ h.kept.bytes.size b (h.kept.bytes.in_range k b named);
        holds = holds;
        inside = inside;
      }

  -- each loan of the view is of this buffer exactly where it is of its block
  loans-tell : (seen : D → Device) (s : State D) (v : View) (us : List View) (h : IsRunning seen s (v ∷ us)) (k b : ℕ) (bytes : List ℕ)
      → LentHere s h.kept.current v k b bytes → All (Tells k b) v.loans
  loans-tell seen s v us h k b bytes p =
      let mine = All-head (IsSeen s.core h.kept.current h.kept.device h.kept.opening) v us h.each in
      λ i d below. record {
        block = λ e. let at : (buffer_at s.core k).block ≡ Some (get_or v.loans i d).block = subst
            (λ j. (buffer_at s.core j).block ≡ Some (get_or v.loans i d).block) e (mine.lent i d below).out.named in let same : Some
            (get_or v.loans i d).block ≡ Some b = sym at ∙ p.named in cc;
        buffer = λ e. h.kept.lawful.one_buffer.same (get_or v.loans i d).buffer k b ((mine.lent i d below).out.named ∙ ap Some e) p.named;
      }

  -- what is counted of the view that gives the buffer back
  pub back-counted : (seen : D → Device) (s : State D) (v : View) (us : List View) (h : IsRunning seen s (v ∷ us)) (k b : ℕ)
      (bytes : List ℕ) (way : Release) → LentHere s h.kept.current v k b bytes → v.moving ≡ None
      → (j : ℕ) → times j s.core.free + times j s.requests.waiting + outs j v ≡ times j (freed s.core.free k way) + times j
      s.requests.waiting + outs j (back_view b v)
  back-counted seen s v us h k b bytes way p calm j =
      let tells = loans-tell seen s v us h k b bytes p in
      let more = times-freed s.core.free k j way in
      let still : moving_times j v.moving ≡ 0 = ap (moving_times j) calm in
      elim (cases_eq j k) [
        | inl e ↦
            let one : one_if (k == j) ≡ 1 = one-if_same k j (sym e) in
            let whole : outs j v ≡ 1 = subst (λ i. outs i v ≡ 1) (sym e) p.once in
            let none : lent_count j (loans_without b v.loans) ≡ 0 = subst (λ i. lent_count i (loans_without b v.loans) ≡ 0) (sym e)
            (back-none k b v.loans tells) in
            omega arith
        | inr n ↦
            let none : one_if (k == j) ≡ 0 = none-if_other k j (λ q. n (sym q)) in
            let same : lent_count j (loans_without b v.loans) ≡ lent_count j v.loans = back-others k b j v.loans n tells in
            omega arith
      ]

  -- the loans that stay are of other buffers
  pub others-apart : (seen : D → Device) (s : State D) (v : View) (us : List View) (h : IsRunning seen s (v ∷ us)) (k b : ℕ)
      (bytes : List ℕ) → LentHere s h.kept.current v k b bytes → (x : Lending) → x.block ≢ b → IsLent s.core h.kept.current x → x.buffer ≢ k
  others-apart seen s v us h k b bytes p x n lent = λ e.
      n (let at : (buffer_at s.core k).block ≡ Some x.block = subst (λ j. (buffer_at s.core j).block ≡ Some x.block) e lent.out.named in
      let same : Some x.block ≡ Some b = sym at ∙ p.named in cc)

  -- a loan of another buffer is as it was
  pub apart-lent : (c : Cache D) (current : ℕ → List ℕ) (k : ℕ) (x : Buffer) (free : List ℕ) (loan : Lending) → loan.buffer ≢ k
      → IsLent c current loan → IsLent (record (changed c k x) { free = free }) current loan
  apart-lent c current k x free loan n lent =
      let same = changed-other c k loan.buffer x n in
      record {
        out = record {
          named = ap (λ (y : Buffer). y.block) same ∙ lent.out.named;
          away = ap (λ (y : Buffer). y.bytes) same
              ∙ lent.out.away;
        };
        bytes = lent.bytes;
      }

  -- the release of a buffer as it was: still to be written where it was so
  released-place : (seen : D → Device) (s : State D) (v : View) (us : List View) (h : IsRunning seen s (v ∷ us)) (k b : ℕ)
      (bytes : List ℕ) (t : Bool) → is_delayed s.core k ≡ t → LentHere s h.kept.current v k b bytes
      → TakesPlace s.core h.kept.current k (released (buffer_at s.core k) bytes (cond t how.Delayed how.Valid))
  released-place seen s v us h k b bytes true was p = record {
    inside = p.inside;
    in_range = h.kept.bytes.in_range k;
    home = λ e y named valid has. let same : Some e ≡ Some b = sym named
        ∙ p.named in let full : y ≡ bytes = cc in let at : b ≡ e = cc in full ∙ (p.current_are ∙ ap h.kept.current at);
    valid = λ _. refl;
    stays = λ _. (refl, refl);
  }
  released-place seen s v us h k b bytes false was p = record {
    inside = p.inside;
    in_range = h.kept.bytes.in_range k;
    home = λ e y named valid has. let same : Some e ≡ Some b = sym named
        ∙ p.named in let full : y ≡ bytes = cc in let at : b ≡ e = cc in full ∙ (p.current_are ∙ ap h.kept.current at);
    valid = λ d. absurd (false≢true d);
    stays = λ d. absurd (false≢true (sym was ∙ d));
  }

  returns-at : (seen : D → Device) (s : State D) (v : View) (us : List View) (h : IsRunning seen s (v ∷ us)) (k b : ℕ) (bytes : List ℕ)
      (way : Release) → v.moving ≡ None → LentHere s h.kept.current v k b bytes
      → TakesPlace s.core h.kept.current k (released (buffer_at s.core k) bytes way) → IsLawful (after_release s.core k bytes way)
      → IsRunning seen (record s { core = after_release s.core k bytes way }) (back_view b v ∷ us)
  returns-at seen s v us h k b bytes way calm p place lawful =
      let mine = All-head (IsSeen s.core h.kept.current h.kept.device h.kept.opening) v us h.each in
      let x : Buffer = released (buffer_at s.core k) bytes way in
      step seen s (record s { core = after_release s.core k bytes way }) v (back_view b v) us h
      (kept-changed seen s h.kept k (released (buffer_at s.core k) bytes way) (freed s.core.free k way) place lawful) refl
      (record {
        buffers = length-set s.core.buffers k (released (buffer_at s.core k) bytes way);
        sizes = refl;
        state = back-counted seen s v us h k b bytes way p calm;
        device = refl;
        lines = λ e l. refl;
        workers = refl;
        queued = queued-apart s.core k (released (buffer_at s.core k) bytes way) (freed s.core.free k way) s.core.device
            s.requests.waiting p.idle h.one_state.queued;
      })
      (λ low. (omega arith, omega arith))
      (record {
        opened = mine.opened;
        lent = All-without (IsLent s.core h.kept.current) (IsLent (after_release s.core k bytes way) h.kept.current) b v.loans
            (λ loan n lent. apart-lent s.core h.kept.current k (released (buffer_at s.core k) bytes way) (freed s.core.free k way) loan
            (others-apart seen s v us h k b bytes p loan n lent) lent) mine.lent;
        moves = subst (λ m. IfSome m (IsMoving (after_release s.core k bytes way) h.kept.current)) (sym calm) tt;
        device_seen = mine.device_seen;
        lines = mine.lines;
      })
      (λ u below q. seen-changed s.core h.kept.current h.kept.device (after_release s.core k bytes way) h.kept.current h.kept.device
      h.kept.opening u
      (apart-away s.core h.kept.current k (released (buffer_at s.core k) bytes way) (freed s.core.free k way) s.core.device u
      (none_out seen s v us h k (let o = p.once in omega arith) u below)) q.lines q.device_seen q)

  -- a block that is lent comes back as it was
  pub returns : (seen : D → Device) (s : State D) (e : Cache D) (v : View) (us : List View) (h : IsRunning seen s (v ∷ us)) (k b : ℕ)
      (bytes : List ℕ) (way : Release) → v.moving ≡ None → lent_of v.loans b ≡ Some bytes → holder s.core b ≡ Some k
      → way ≡ cond (is_delayed s.core k) how.Delayed how.Valid → e ≡ after_release s.core k bytes way → IsLawful e
      → IsRunning seen (record s { core = e }) (back_view b v ∷ us)
  returns seen s e v us h k b bytes way calm lent holds such is lawful =
      let p = lent-here seen s v us h k b bytes lent holds in
      let place : TakesPlace s.core h.kept.current k (released (buffer_at s.core k) bytes way) = subst
      (λ w. TakesPlace s.core h.kept.current k (released (buffer_at s.core k) bytes w)) (sym such)
      (released-place seen s v us h k b bytes (is_delayed s.core k) refl p) in
      subst (λ q. IsRunning seen (record s { core = q }) (back_view b v ∷ us)) (sym is)
      (returns-at seen s v us h k b bytes way calm p place (subst (λ q. IsLawful q) is lawful))

  -- the buffer of a lent block is there
  pub lent-some : (seen : D → Device) (s : State D) (v : View) (us : List View) (h : IsRunning seen s (v ∷ us)) (b : ℕ) (bytes : List ℕ)
      → lent_of v.loans b ≡ Some bytes → IsSome (holder s.core b)
  lent-some seen s v us h b bytes lent =
      let mine = All-head (IsSeen s.core h.kept.current h.kept.device h.kept.opening) v us h.each in
      let f = lent-found (IsLent s.core h.kept.current) b bytes v.loans lent mine.lent in
      let there : (buffer_at s.core f.loan.buffer).block ≡ Some b = f.is.out.named ∙ ap Some f.block in
      let known : holder s.core b ≡ Some f.loan.buffer = holder-named s.core f.loan.buffer b h.kept.lawful.one_buffer there in
      subst (λ o. IsSome o) (sym known) refl

  -- a block that is lent is as long as the sizes say
  pub lent-size : (seen : D → Device) (s : State D) (v : View) (us : List View) (h : IsRunning seen s (v ∷ us)) (k b : ℕ)
      (bytes : List ℕ) → 0 < weight v → lent_of v.loans b ≡ Some bytes → holder s.core b ≡ Some k
      → length bytes ≡ v.opening.sizes.block_size
  lent-size seen s v us h k b bytes some lent holds =
      let mine = All-head (IsSeen s.core h.kept.current h.kept.device h.kept.opening) v us h.each in
      let sizes : v.opening.sizes ≡ s.core.geometry = ap (λ o. o.sizes) (mine.opened some) ∙ h.kept.same_sizes in
      (lent-here seen s v us h k b bytes lent holds).size ∙ ap (λ g. g.block_size) (sym sizes)

  -- a buffer of the cache is one of those that it was opened with
  pub counted-inside : (seen : D → Device) (s : State D) (v : View) (us : List View) (h : IsRunning seen s (v ∷ us)) (k : ℕ)
      → 0 < weight v → k < length s.core.buffers → k < v.opening.buffers
  counted-inside seen s v us h k some inside =
      let mine = All-head (IsSeen s.core h.kept.current h.kept.device h.kept.opening) v us h.each in
      let same : v.opening.buffers ≡ length s.core.buffers = ap (λ o. o.buffers) (mine.opened some) ∙ h.kept.same_count in
      omega arith

-- what is lent under another name of the view and of the block
pub lent-under : (v w : View) (b c : ℕ) (bytes : List ℕ) → w ≡ v → c ≡ b → lent_of v.loans b ≡ Some bytes → lent_of w.loans c ≡ Some bytes
lent-under v w b c bytes p q e = ap (λ x. lent_of x.loans c) p ∙ (ap (lent_of v.loans) q ∙ e)

pub calm-under : (v w : View) → w ≡ v → v.moving ≡ None → w.moving ≡ None
calm-under v w p e = ap (λ x. x.moving) p ∙ e

pub some-under : (v w : View) → w ≡ v → 0 < weight v → 0 < weight w
some-under v w p e = subst (λ x. 0 < weight x) (sym p) e
