-- A buffer that is out gets new bytes, which are still to be written.
use Rattle.std.proofs.Common.{◌≡◌, ◌≢◌, ◌+◌, ◌*◌, ◌<◌, ◌≤◌, ◌==◌, ◌++◌, ◌⊎◌, ℕ, Bool, true, false, cond, List, [], ◌∷◌, length, map, get_or, set, Option, Some, None, IsSome, refl, sym, ap, ◌∙◌, subst, arith, inl, inr, nat_lt}
use Rattle.std.specs.List.{All}
use Rattle.std.proofs.lemmas.Bool.{cases_lt, lt-ltb, false≢true}
use Rattle.std.proofs.lemmas.List.{length-set, length-map, nil_from_length}
use Rattle.std.proofs.lemmas.List.Sums.{sum_by-cons}
use Rattle.std.proofs.lemmas.List.Elements.{All-head, All-map}
use Rattle.sv_links.specs.Arrangement.{times, without, one_if}
use Rattle.sv_links.proofs.Times.{one-if_same, times-cons, times-push, without-cons_same, without-cons_other}
use Rattle.sv_cache.specs.declared.scenario.Scenario.TheVariants as met
use Rattle.sv_cache.specs.declared.scenario.Release.TheVariants as how
use Rattle.sv_cache.specs.Cache.{Cache, Buffer, buffer_at, IsBusy}
use Rattle.sv_cache.specs.Getblk.{scenario_of, meets, after_search}
use Rattle.sv_cache.specs.Brelse.{after_lend, after_release, released}
use Rattle.sv_cache.specs.Lawful.{IsLawful}
use Rattle.sv_cache.proofs.Laws.{changed-same}
use Rattle.sv_cache.proofs.Holder.{holder-named, named-inside}
use Rattle.sv_store.specs.Held.{line_of}
use Rattle.sv_store.proofs.Lines.{length-line_of}
use Rattle.sv_buf.specs.declared.state.State.{State}
use Rattle.sv_buf.specs.View.{View, Device, Lending, weight, held_of, outs, lent_times}
use Rattle.sv_turn.specs.declared.pass.Pass.{Pass}
use Rattle.sv_buf.specs.Changes.{moving_view, calm_view, lent_view, put_line, put_view, filled_view}
use Rattle.sv_buf.specs.Pending.{IsPending}
use Rattle.sv_buf.specs.Delaying.{delayed_at, NotesBlock}
use Rattle.sv_buf.specs.Running.{IsLent, IsCurrent, IsSeen, IsRunning, IsFit}
use Rattle.sv_buf.proofs.Bytes.{with_block, with_block-same, with_block-other, current-put}
use Rattle.sv_buf.proofs.Steps.{step, seen-changed, queued-apart, lent-counted}
use Rattle.sv_buf.proofs.Lists.{lent_count}
use Rattle.sv_buf.proofs.Taking.{none_out, lends}
use Rattle.sv_buf.proofs.Returning.{apart-lent}
use Rattle.sv_buf.proofs.Putting.{put-hits, put-current, other-lines, put-away, fit-put}
use Rattle.sv_buf.proofs.Getting.{set-set, moving-here, pending-step}

-- what was pushed to a list that did not have it is taken off again
without-pushed : (k : ℕ) (xs : List ℕ) → times k xs ≡ 0 → without k (xs ++ k ∷ []) ≡ xs
without-pushed k [] none = without-cons_same k k [] refl
without-pushed k (x ∷ xs) none =
    let more = times-cons x k xs in
    let other : x ≢ k = (λ e. let one = one-if_same x k e in absurd (omega arith)) in
    without-cons_other k x (xs ++ k ∷ []) other ∙ ap (λ (l : List ℕ). x ∷ l) (without-pushed k xs (omega arith))

-- the view of a pass that put these bytes into buffer k of block b, and kept these loans
abbrev pub rewritten : ℕ → ℕ → List ℕ → List Lending → Bool → View → View
rewritten k b bytes loans forced v = moving_view k b (Some bytes) (record v {
  lines = map (put_line b bytes) v.lines;
  loans = loans;
  forced = forced;
})

module _ {D : Type 0} where
  -- the buffer that was released is met by the next search for its block
  pub met-again : (c : Cache D) (k b : ℕ) (bytes : List ℕ) → IsLawful (after_release c k bytes how.Delayed)
      → (buffer_at c k).block ≡ Some b → scenario_of (after_release c k bytes how.Delayed) b ≡ met.Hit k
  met-again c k b bytes lawful named =
      let inside = named-inside c k b named in
      let there : (buffer_at (after_release c k bytes how.Delayed) k).block ≡ Some b = ap (λ (y : Buffer). y.block)
      (changed-same c k (released (buffer_at c k) bytes how.Delayed) inside) ∙ named in
      let holds = holder-named (after_release c k bytes how.Delayed) k b lawful.one_buffer there in
      let some : 0 < times k (c.free ++ k ∷ []) = omega (arith, times-push k k c.free, one-if_same k k refl) in
      ap (meets (after_release c k bytes how.Delayed)) holds
      ∙ ap (λ t. cond t (met.Hit k) (met.Busy k)) (lt-ltb 0 (times k (c.free ++ k ∷ [])) some)

  -- what a release and a search leave of it
  pub delayed-is : (c : Cache D) (k b : ℕ) (bytes : List ℕ) → IsBusy c k
      → after_lend (after_search (after_release c k bytes how.Delayed) b (met.Hit k)) k ≡ delayed_at c k
  delayed-is c k b bytes busy =
      let x : Buffer = released (buffer_at c k) bytes how.Delayed in
      let there : buffer_at (after_release c k bytes how.Delayed) k ≡ released (buffer_at c k) bytes how.Delayed = changed-same c k
      (released (buffer_at c k) bytes how.Delayed) busy.in_range in
      ap (λ (y : Buffer). record c {
        buffers = set (set c.buffers k (released (buffer_at c k) bytes how.Delayed)) k (record y { bytes = None });
        free = without k (c.free ++ k ∷ []);
      }) there
      ∙ (ap (λ l. record c { buffers = l; free = without k (c.free ++ k ∷ []) })
      (set-set c.buffers k (released (buffer_at c k) bytes how.Delayed)
      (record (buffer_at c k) { valid = true; delayed = true; bytes = None }))
      ∙ ap (λ l. record c {
        buffers = set c.buffers k (record (buffer_at c k) { valid = true; delayed = true; bytes = None });
        free = l;
      }) (without-pushed k c.free busy.busy))

  -- the bytes that are lent again are those of the release
  pub bytes-again : (c e : Cache D) (k b : ℕ) (bytes items : List ℕ) → IsBusy c k
      → e ≡ after_search (after_release c k bytes how.Delayed) b (met.Hit k) → (buffer_at e k).bytes ≡ Some items → items ≡ bytes
  bytes-again c e k b bytes items busy is lent =
      let there : buffer_at (after_release c k bytes how.Delayed) k ≡ released (buffer_at c k) bytes how.Delayed = changed-same c k
      (released (buffer_at c k) bytes how.Delayed) busy.in_range in
      let had : (buffer_at e k).bytes ≡ Some bytes = ap (λ q. (buffer_at q k).bytes) is ∙ ap (λ (y : Buffer). y.bytes) there in
      let both : Some items ≡ Some bytes = sym lent ∙ had in
      cc

  -- a loan of another block
  pub record OtherLoan (c : Cache D) (current : ℕ → List ℕ) (b : ℕ) (x : Lending) : Type 0 where
    pub other : x.block ≢ b
    pub is : IsLent c current x

  -- buffer k of block b is out with this view, which may put these bytes into it and keep these loans
  pub record MayRewrite (s : State D) (current : ℕ → List ℕ) (v : View) (k b : ℕ) (bytes : List ℕ) (loans : List Lending) : Type 0 where
    pub named : (buffer_at s.core k).block ≡ Some b
    pub away : (buffer_at s.core k).bytes ≡ None
    pub once : outs k v ≡ 1
    pub idle : times k s.requests.waiting ≡ 0
    pub counted : (j : ℕ) → outs j v ≡ lent_count j loans + one_if (k == j)
    pub size : length bytes ≡ length (current b)
    pub others : (l : ℕ) → held_of v.lines b l ≡ None → line_of bytes l ≡ line_of (current b) l
    pub kept_loans : All (OtherLoan s.core current b) loans

  pub rewrites : (seen : D → Device) (s : State D) (v : View) (us : List View) (h : IsRunning seen s (v ∷ us)) (k b : ℕ)
      (bytes : List ℕ) (loans : List Lending) (forced : Bool) → MayRewrite s h.kept.current v k b bytes loans
      → IsLawful (delayed_at s.core k)
      → IsRunning seen (record s { core = delayed_at s.core k }) (rewritten k b bytes loans forced v ∷ us)
  rewrites seen s v us h k b bytes loans forced p lawful =
      let mine = All-head (IsSeen s.core h.kept.current h.kept.device h.kept.opening) v us h.each in
      let x : Buffer = record (buffer_at s.core k) { valid = true; delayed = true; bytes = None } in
      let inside = named-inside s.core k b p.named in
      let here : buffer_at (delayed_at s.core k) k ≡ record (buffer_at s.core k) { valid = true; delayed = true; bytes = None } =
      changed-same s.core k (record (buffer_at s.core k) { valid = true; delayed = true; bytes = None }) inside in
      let long : length (set s.core.buffers k (record (buffer_at s.core k) { valid = true; delayed = true; bytes = None }))
      ≡ length s.core.buffers = length-set s.core.buffers k
      (record (buffer_at s.core k) { valid = true; delayed = true; bytes = None }) in
      step seen s (record s { core = delayed_at s.core k }) v (rewritten k b bytes loans forced v) us h
      (record {
        current = with_block b bytes h.kept.current;
        device = h.kept.device;
        opening = h.kept.opening;
        lawful = lawful;
        sizes = h.kept.sizes;
        same_sizes = h.kept.same_sizes;
        same_count = h.kept.same_count ∙ sym long;
        few = omega (arith, h.kept.few, long);
        room = h.kept.room ∙ sym long;
        bytes = current-put s.core h.kept.current h.kept.device k b bytes
            (record (buffer_at s.core k) { valid = true; delayed = true; bytes = None })
            h.kept.bytes h.kept.lawful.one_buffer p.named p.size refl refl refl
            (λ y has. absurd (let q : None ≡ Some y = has in cc));
        device_home = h.kept.device_home;
      }) refl
      (record {
        buffers = long;
        sizes = refl;
        state = λ j. ap (λ n. times j s.core.free + times j s.requests.waiting + n) (p.counted j);
        device = refl;
        lines = λ e l. put-hits b bytes e l v.lines;
        workers = refl;
        queued = queued-apart s.core k (record (buffer_at s.core k) { valid = true; delayed = true; bytes = None }) s.core.free
            s.core.device s.requests.waiting p.idle h.one_state.queued;
      })
      (λ low. (omega arith, omega arith))
      (record {
        opened = λ some. mine.opened (omega (arith, length-map v.lines (put_line b bytes)));
        lent = λ i d below.
            let q = p.kept_loans i d below in
            let n : (get_or loans i d).buffer ≢ k = (λ e. q.other
            (let at : (buffer_at s.core k).block ≡ Some (get_or loans i d).block = subst
            (λ j. (buffer_at s.core j).block ≡ Some (get_or loans i d).block) e q.is.out.named in
            let same : Some (get_or loans i d).block ≡ Some b = sym at ∙ p.named in cc)) in
            let a = apart-lent s.core h.kept.current k (record (buffer_at s.core k) { valid = true; delayed = true; bytes = None })
            s.core.free (get_or loans i d) n q.is in
            record {
              out = record { named = a.out.named; away = a.out.away };
              bytes = a.bytes ∙ sym (with_block-other b bytes h.kept.current (get_or loans i d).block q.other);
            };
        moves = record {
          out = record {
            named = ap (λ (y : Buffer). y.block) here ∙ p.named;
            away = ap (λ (y : Buffer). y.bytes) here;
          };
          noted = sym (with_block-same b bytes h.kept.current b refl);
          on_device = tt;
        };
        device_seen = mine.device_seen;
        lines = All-map (IsCurrent (with_block b bytes h.kept.current)) (put_line b bytes) v.lines
            (λ i d below. put-current h.kept.current b bytes (get_or v.lines i d) (mine.lines i d below));
      })
      (λ u below q. seen-changed s.core h.kept.current h.kept.device (delayed_at s.core k) (with_block b bytes h.kept.current)
      h.kept.device h.kept.opening u
      (put-away s.core h.kept.current k b bytes (record (buffer_at s.core k) { valid = true; delayed = true; bytes = None })
      s.core.free u (λ j e. h.kept.lawful.one_buffer.same j k e) p.named
      (none_out seen s v us h k (let o = p.once in omega arith) u below))
      (other-lines seen s v us h (record { block = b; bytes = bytes }) (h.kept.current b) refl p.others u below q.lines)
      q.device_seen q)

  -- a buffer that was taken for a block of which all lines are held may be filled
  fills : (seen : D → Device) (s : State D) (v : View) (us : List View) (k b : ℕ) (noted : Option (List ℕ)) (bytes : List ℕ)
      (h : IsRunning seen s (moving_view k b noted v ∷ us)) → 0 < weight v → length bytes ≡ v.opening.sizes.block_size
      → NotesBlock v b → MayRewrite s h.kept.current (moving_view k b noted v) k b bytes v.loans
  fills seen s v us k b noted bytes h some size whole =
      let mine = All-head (IsSeen s.core h.kept.current h.kept.device h.kept.opening) (moving_view k b noted v) us h.each in
      let sizes : v.opening.sizes ≡ s.core.geometry = ap (λ o. o.sizes) (mine.opened some) ∙ h.kept.same_sizes in
      let all = h.one_state.once k in
      let part = sum_by-cons (outs k) (moving_view k b noted v) us in
      let out : outs k (moving_view k b noted v) ≡ lent_times k v + 1 = ap (λ n. lent_times k v + n) (one-if_same k k refl) in
      let most = at_most (nat_lt k (length s.core.buffers)) in
      let long : length (h.kept.current b) ≡ s.core.geometry.block_size = h.kept.bytes.size b
      (h.kept.bytes.in_range k b mine.moves.out.named) in
      let same : v.opening.sizes.block_size ≡ s.core.geometry.block_size = ap (λ g. g.block_size) sizes in
      let none : lent_times k v ≡ 0 = omega arith in
      record {
        named = mine.moves.out.named;
        away = mine.moves.out.away;
        once = omega arith;
        idle = omega arith;
        counted = λ j. refl;
        size = size ∙ (same ∙ sym long);
        others = λ l unheld. outside l unheld (cases_lt (l * 64) v.opening.sizes.block_size) (size ∙ same) long same;
        kept_loans = λ i d below. record {
          other = λ e.
              let at : (buffer_at s.core (get_or v.loans i d).buffer).block ≡ Some b = (mine.lent i d below).out.named ∙ ap Some e in
              let here : (get_or v.loans i d).buffer ≡ k = h.kept.lawful.one_buffer.same (get_or v.loans i d).buffer k b at
              mine.moves.out.named in
              let counted : 0 < lent_count (get_or v.loans i d).buffer v.loans = lent-counted v.loans i d below in
              let two : 0 < lent_count k v.loans = subst (λ q. 0 < lent_count q v.loans) here counted in
              omega (arith, two, none);
          is = mine.lent i d below;
        };
      }
    where
      at_most : (t : Bool) → one_if t ≤ 1
      at_most true = omega arith
      at_most false = omega arith

      outside : (l : ℕ) → held_of v.lines b l ≡ None → ◌⊎◌ (l * 64 < v.opening.sizes.block_size) (v.opening.sizes.block_size ≤ l * 64)
          → length bytes ≡ s.core.geometry.block_size → length (h.kept.current b) ≡ s.core.geometry.block_size
          → v.opening.sizes.block_size ≡ s.core.geometry.block_size → line_of bytes l ≡ line_of (h.kept.current b) l
      outside l unheld (inl low) mine long same = absurd (false≢true (subst (λ (o : Option (List ℕ)). IsSome o) unheld (whole.at l low)))
      outside l unheld (inr high) mine long same =
          nil_from_length (line_of bytes l) (omega (arith, length-line_of bytes l))
          ∙ sym (nil_from_length (line_of (h.kept.current b) l) (omega (arith, length-line_of (h.kept.current b) l)))

  -- a buffer that was taken for a block is lent with these bytes, which are its bytes then
  pub fills_lent : (seen : D → Device) (s : State D) (e : Cache D) (v : View) (us : List View) (k b : ℕ) (noted : Option (List ℕ))
      (bytes : List ℕ) → IsRunning seen s (moving_view k b noted v ∷ us) → v.moving ≡ None → 0 < weight v
      → length bytes ≡ v.opening.sizes.block_size → NotesBlock v b → e ≡ delayed_at s.core k → IsLawful e
      → IsRunning seen (record s { core = e }) (lent_view k b bytes (filled_view b bytes v) ∷ us)
  fills_lent seen s e v us k b noted bytes h calm some size whole is lawful =
      subst (λ q. IsRunning seen (record s { core = q }) (lent_view k b bytes (filled_view b bytes v) ∷ us)) (sym is)
      (lends seen (record s { core = delayed_at s.core k }) (filled_view b bytes v) us k b bytes calm
      (rewrites seen s (moving_view k b noted v) us h k b bytes v.loans v.forced (fills seen s v us k b noted bytes h some size whole)
      (subst (λ q. IsLawful q) is lawful)))

  -- the buffer that was taken for a block is busy, and its bytes are out
  pub record TakenHere (s : State D) (k b : ℕ) : Type 0 where
    pub busy : IsBusy s.core k
    pub away : (buffer_at s.core k).bytes ≡ None
    pub named : (buffer_at s.core k).block ≡ Some b
    pub size : s.core.geometry.block_size ≡ 1024

  taken-at : (seen : D → Device) (s : State D) (v : View) (us : List View) (k b : ℕ) (noted : Option (List ℕ))
      → IsRunning seen s (moving_view k b noted v ∷ us) → TakenHere s k b
  taken-at seen s v us k b noted h =
      let mine = All-head (IsSeen s.core h.kept.current h.kept.device h.kept.opening) (moving_view k b noted v) us h.each in
      let m = moving-here seen s (moving_view k b noted v) us h (record { buffer = k; block = b; bytes = noted }) refl in
      record { busy = m.busy; away = m.away; named = mine.moves.out.named; size = m.size }

module _ {R D : Type 0} where
  -- a buffer that was taken for a block, with the block's bytes or without
  abbrev pub TakenValid : (D → Device) → Pass R (State D) View → State D → View → ℕ → ℕ → List ℕ → Type 0
  TakenValid seen p s v k b bytes = (buffer_at s.core k).valid ≡ true
      → IsPending (IsRunning seen) p s (moving_view k b (Some bytes) (calm_view v))

  abbrev pub TakenInvalid : (D → Device) → Pass R (State D) View → State D → View → ℕ → ℕ → Type 0
  TakenInvalid seen p s v k b = (buffer_at s.core k).valid ≡ false → IsPending (IsRunning seen) p s (moving_view k b None v)

  pub taken-here : (seen : D → Device) (p : Pass R (State D) View) (s : State D) (v : View) (k b : ℕ) (bytes : List ℕ)
      → TakenValid seen p s v k b bytes → TakenInvalid seen p s v k b → TakenHere s k b
  taken-here seen p s v k b bytes valid invalid = by (buffer_at s.core k).valid refl
    where
      by : (t : Bool) → (buffer_at s.core k).valid ≡ t → TakenHere s k b
      by true at = let q = valid at in taken-at seen s (calm_view v) q.others k b (Some bytes) q.so
      by false at = let q = invalid at in taken-at seen s v q.others k b None q.so

  -- a buffer that was taken for a block of which all lines are held is lent with new bytes
  pub lent-filled : (seen : D → Device) (p : Pass R (State D) View) (s : State D) (e : Cache D) (v : View) (k b : ℕ)
      (old bytes : List ℕ) → v.device ≡ None → 0 < weight v → length bytes ≡ v.opening.sizes.block_size → NotesBlock v b
      → e ≡ delayed_at s.core k → IsLawful e → TakenValid seen p s v k b old → TakenInvalid seen p s v k b
      → IsPending (IsRunning seen) p (record s { core = e }) (lent_view k b bytes (filled_view b bytes (calm_view v)))
  lent-filled seen p s e v k b old bytes home some size whole is lawful valid invalid = by (buffer_at s.core k).valid refl
    where
      notes : NotesBlock (calm_view v) b
      notes = record { at = whole.at }

      by : (t : Bool) → (buffer_at s.core k).valid ≡ t
          → IsPending (IsRunning seen) p (record s { core = e }) (lent_view k b bytes (filled_view b bytes (calm_view v)))
      by true at = pending-step (IsRunning seen) p s (record s { core = e }) (moving_view k b (Some old) (calm_view v))
          (lent_view k b bytes (filled_view b bytes (calm_view v))) (valid at) (λ others h.
          fills_lent seen s e (calm_view v) others k b (Some old) bytes h refl some size notes is lawful)
      by false at = pending-step (IsRunning seen) p s (record s { core = e }) (moving_view k b None v)
          (lent_view k b bytes (filled_view b bytes (calm_view v))) (invalid at) (λ others h.
          fills_lent seen s e (calm_view v) others k b None bytes
          (subst (λ o. IsRunning seen s (record (moving_view k b None v) { device = o } ∷ others)) home h) refl some size notes is lawful)

-- a stake stays fit where a block is filled and lent
pub fit-filled : (v w : View) (k b : ℕ) (bytes : List ℕ) → w ≡ lent_view k b bytes (filled_view b bytes (calm_view v))
    → length bytes ≡ v.opening.sizes.block_size → IsFit v → IsFit w
fit-filled v w k b bytes is size fit =
    let f = fit-put v (put_view b bytes v) b bytes refl size fit in
    subst IsFit (sym is) (record {
      sizes = f.sizes;
      range = f.range;
      some = f.some;
      calm = refl;
      home = refl;
      once = f.once;
      no_worker = f.no_worker;
    })
