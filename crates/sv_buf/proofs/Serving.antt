-- The worker takes a buffer off the queue, and gives it back.
use Rattle.std.proofs.Common.{◌≡◌, ◌+◌, ◌<◌, ◌≤◌, ◌==◌, ℕ, Bool, true, false, cond, List, ◌∷◌, length, set, Option, Some, None, Result, Ok, Err, OnOk, OnErr, IfSome, IfNone, refl, sym, ap, ◌∙◌, subst, arith, nat_lt}
use Rattle.std.proofs.lemmas.Bool.{ltb-true, false≢true, false_from_ne_true}
use Rattle.std.proofs.lemmas.List.{length-set}
use Rattle.std.proofs.lemmas.List.Sums.{sum_by-cons}
use Rattle.std.proofs.lemmas.List.Elements.{All-head}
use Rattle.sv_form.specs.Image.{block_of}
use Rattle.sv_request.specs.Queue.{Queue, IsEmpty, IsTaken}
use Rattle.sv_links.specs.Arrangement.{times, one_if}
use Rattle.sv_links.proofs.Times.{one-if_same, times-cons}
use Rattle.sv_cache.specs.declared.scenario.Release.{Release}
use Rattle.sv_cache.specs.declared.scenario.Release.TheVariants as how
use Rattle.sv_cache.specs.Cache.{Cache, Buffer, buffer_at, is_delayed}
use Rattle.sv_cache.specs.Held.{IsHeld}
use Rattle.sv_cache.specs.Brelse.{after_lend, after_release, released, freed}
use Rattle.sv_cache.specs.Lawful.{IsLawful}
use Rattle.sv_cache.proofs.Laws.{changed, changed-same, times-freed, lawful-release}
use Rattle.sv_buf.specs.declared.state.State.{State}
use Rattle.sv_buf.specs.View.{View, Device, Moving, weight, outs, moving_times}
use Rattle.sv_buf.specs.Changes.{calm_view, moving_view, device_view}
use Rattle.sv_buf.specs.Running.{IsMoving, IsSeen, IsRunning}
use Rattle.sv_buf.specs.Serving.{queued_again, IsRead}
use Rattle.sv_buf.proofs.Bytes.{TakesPlace}
use Rattle.sv_buf.proofs.Steps.{step, seen-changed, queued-apart}
use Rattle.sv_buf.proofs.Taking.{none_out, apart-away, kept-changed}
use Rattle.sv_buf.proofs.Getting.{set-set, moving-here, given-read, unread-place}
use Rattle.sv_buf.proofs.Reading.{home-is, brings}
use Rattle.sv_buf.proofs.Writing.{Brought}

-- how a buffer is given back as it was
abbrev pub as_before : Buffer → Release
as_before x = cond x.delayed how.Delayed (cond x.valid how.Valid how.Invalid)

module _ {D : Type 0} where
  -- a buffer that is queued is not free, waits once, is not out, and has its bytes in
  pub record Waits (s : State D) (v : View) (k : ℕ) : Type 0 where
    pub held : IsHeld s.core k
    pub once : times k s.requests.waiting ≡ 0
    pub not_out : outs k v ≡ 0

  pub waits : (seen : D → Device) (s : State D) (v : View) (us : List View) (k : ℕ) → IsRunning seen (queued_again s k) (v ∷ us)
      → Waits s v k
  waits seen s v us k h = by (nat_lt k (length s.core.buffers)) refl
    where
      by : (t : Bool) → nat_lt k (length s.core.buffers) ≡ t → Waits s v k
      by true at =
          let whole = h.one_state.once k in
          let one : one_if (nat_lt k (length s.core.buffers)) ≡ 1 = ap one_if at in
          let same = one-if_same k k refl in
          let more = times-cons k k s.requests.waiting in
          record {
            held = record {
              busy = record {
                in_range = ltb-true k (length s.core.buffers) at;
                busy = omega (arith, sum_by-cons (outs k) v us);
              };
              home = h.one_state.queued k (omega arith);
            };
            once = omega (arith, sum_by-cons (outs k) v us);
            not_out = omega (arith, sum_by-cons (outs k) v us);
          }
      by false at =
          let whole = h.one_state.once k in
          let one : one_if (nat_lt k (length s.core.buffers)) ≡ 0 = ap one_if at in
          let same = one-if_same k k refl in
          let more = times-cons k k s.requests.waiting in
          absurd (omega arith)

  -- a buffer that was taken off the queue becomes another, goes on the free list or is in transfer
  unqueued : (seen : D → Device) (s : State D) (v : View) (us : List View) (k : ℕ) (h : IsRunning seen (queued_again s k) (v ∷ us))
      (x : Buffer) (free : List ℕ) (m : Option Moving) → TakesPlace s.core h.kept.current k x
      → IsLawful (record (changed s.core k x) { free = free })
      → ((j : ℕ) → times j s.core.free + one_if (k == j) + moving_times j v.moving ≡ times j free + moving_times j m)
      → (IsSeen (record (changed s.core k x) { free = free }) h.kept.current h.kept.device h.kept.opening v
      → IfSome m (IsMoving (record (changed s.core k x) { free = free }) h.kept.current))
      → IsRunning seen (record s { core = record (changed s.core k x) { free = free } }) (record v { moving = m } ∷ us)
  unqueued seen s v us k h x free m place lawful counted moves =
      let mine = All-head (IsSeen s.core h.kept.current h.kept.device h.kept.opening) v us h.each in
      let w = waits seen s v us k h in
      let kept = kept-changed seen (queued_again s k) h.kept k x free place lawful in
      let seen_v = seen-changed s.core h.kept.current h.kept.device (record (changed s.core k x) { free = free })
      h.kept.current h.kept.device h.kept.opening v
      (apart-away s.core h.kept.current k x free s.core.device v w.not_out) mine.lines mine.device_seen mine in
      let same = one-if_same k k refl in
      let more = times-cons k k s.requests.waiting in
      step seen (queued_again s k) (record s { core = record (changed s.core k x) { free = free } }) v (record v { moving = m }) us h
      (record {
        current = h.kept.current;
        device = h.kept.device;
        opening = h.kept.opening;
        lawful = lawful;
        sizes = h.kept.sizes;
        same_sizes = h.kept.same_sizes;
        same_count = kept.same_count;
        few = kept.few;
        room = kept.room;
        bytes = kept.bytes;
        device_home = h.kept.device_home;
      }) refl
      (record {
        buffers = length-set s.core.buffers k x;
        sizes = refl;
        state = λ j. omega (arith, counted j, times-cons k j s.requests.waiting);
        device = refl;
        lines = λ e l. refl;
        workers = refl;
        queued = queued-apart s.core k x free s.core.device s.requests.waiting w.once
            (λ j on. h.one_state.queued j (omega (arith, times-cons k j s.requests.waiting)));
      })
      (λ low. (omega arith, omega arith))
      (record {
        opened = mine.opened;
        lent = seen_v.lent;
        moves = moves seen_v;
        device_seen = mine.device_seen;
        lines = mine.lines;
      })
      (λ u below q. seen-changed s.core h.kept.current h.kept.device (record (changed s.core k x) { free = free })
      h.kept.current h.kept.device h.kept.opening u
      (apart-away s.core h.kept.current k x free s.core.device u
      (none_out seen (queued_again s k) v us h k (omega arith) u below)) q.lines q.device_seen q)

  -- its bytes are moved out for a transfer
  pub takes-queued : (seen : D → Device) (s : State D) (m : Cache D) (v : View) (us : List View) (k b : ℕ) (noted : Option (List ℕ))
      → IsRunning seen (queued_again s k) (v ∷ us) → v.moving ≡ None → m ≡ after_lend s.core k → IsLawful m
      → (buffer_at s.core k).block ≡ Some b
      → IfSome noted (λ y. ((buffer_at s.core k).valid ≡ true) × ((buffer_at s.core k).bytes ≡ Some y))
      → IfNone noted ((buffer_at s.core k).valid ≡ false)
      → IsRunning seen (record s { core = m }) (moving_view k b noted v ∷ us)
  takes-queued seen s m v us k b noted h calm is lawful named some none =
      let w = waits seen s v us k h in
      let here : buffer_at (changed s.core k (record (buffer_at s.core k) { bytes = None })) k
      ≡ record (buffer_at s.core k) { bytes = None } = changed-same s.core k (record (buffer_at s.core k) { bytes = None })
      w.held.busy.in_range in
      subst (λ q. IsRunning seen (record s { core = q }) (moving_view k b noted v ∷ us)) (sym is)
      (unqueued seen s v us k h (record (buffer_at s.core k) { bytes = None }) s.core.free
      (Some (record { buffer = k; block = b; bytes = noted }))
      (record {
        inside = w.held.busy.in_range;
        in_range = h.kept.bytes.in_range k;
        home = λ e y at valid has. absurd (let q : None ≡ Some y = has in cc);
        valid = h.kept.bytes.delayed_valid k;
        stays = λ d. (d, refl);
      }) (subst (λ q. IsLawful q) is lawful)
      (λ j. let still : moving_times j v.moving ≡ 0 = ap (moving_times j) calm in omega arith)
      (λ q. record {
        out = record { named = ap (λ (y : Buffer). y.block) here ∙ named; away = ap (λ (y : Buffer). y.bytes) here };
        noted = noted-is noted some;
        on_device = subst (λ (y : Buffer). IfNone noted (y.delayed ≡ false)) (sym here) (on noted none);
      }))
    where
      noted-is : (o : Option (List ℕ)) → IfSome o (λ y. ((buffer_at s.core k).valid ≡ true) × ((buffer_at s.core k).bytes ≡ Some y))
          → IfSome o (λ y. y ≡ h.kept.current b)
      noted-is None q = tt
      noted-is (Some y) q = h.kept.bytes.home k b y named q.0 q.1

      on : (o : Option (List ℕ)) → IfNone o ((buffer_at s.core k).valid ≡ false) → IfNone o ((buffer_at s.core k).delayed ≡ false)
      on None q = false_from_ne_true (is_delayed s.core k) (λ d. false≢true (sym q ∙ h.kept.bytes.delayed_valid k d))
      on (Some y) q = tt

  -- what a buffer is then
  same-place : (c : Cache D) (current : ℕ → List ℕ) (k : ℕ) (x : Buffer) (bytes : List ℕ) (delayed valid : Bool) → k < length c.buffers
      → ((b : ℕ) → x.block ≡ Some b → b < c.geometry.blocks) → ((b : ℕ) → x.block ≡ Some b → bytes ≡ current b)
      → is_delayed c k ≡ delayed → x.block ≡ (buffer_at c k).block
      → TakesPlace c current k (released x bytes (cond delayed how.Delayed (cond valid how.Valid how.Invalid)))
  same-place c current k x bytes true valid inside range are is same = record {
    inside = inside;
    in_range = range;
    home = λ b y named good has. let full : y ≡ bytes = cc in full ∙ are b named;
    valid = λ d. refl;
    stays = λ d. (refl, same);
  }
  same-place c current k x bytes false true inside range are is same = record {
    inside = inside;
    in_range = range;
    home = λ b y named good has. let full : y ≡ bytes = cc in full ∙ are b named;
    valid = λ d. refl;
    stays = λ d. absurd (false≢true (sym is ∙ d));
  }
  same-place c current k x bytes false false inside range are is same = record {
    inside = inside;
    in_range = range;
    home = λ b y named good has. absurd (false≢true good);
    valid = λ d. absurd (false≢true d);
    stays = λ d. absurd (false≢true (sym is ∙ d));
  }

  -- the cache with other buffers and another free list
  abbrev with_buffers : Cache D → List Buffer → List ℕ → Cache D
  with_buffers c l free = record c { buffers = l; free = free }

  -- buffer k was x, and is given back as y
  abbrev after_given : Cache D → ℕ → Buffer → Buffer → List ℕ → Release → Cache D
  after_given c k x y bytes way = with_buffers c (set (set c.buffers k x) k (released y bytes way)) (freed c.free k way)

  back-is : (c m e : Cache D) (k : ℕ) (bytes : List ℕ) (way : Release) → IsHeld c k → m ≡ after_lend c k
      → e ≡ after_release m k bytes way → way ≡ as_before (buffer_at c k)
      → e ≡ record (changed c k (released (record (buffer_at c k) { bytes = None }) bytes (as_before (buffer_at c k))))
      { free = freed c.free k (as_before (buffer_at c k)) }
  back-is c m e k bytes way held lent is known =
      let x : Buffer = record (buffer_at c k) { bytes = None } in
      let here : buffer_at (changed c k x) k ≡ x = changed-same c k x held.busy.in_range in
      let first : e ≡ after_release m k bytes (as_before (buffer_at c k)) = is ∙ ap (λ (q : Release). after_release m k bytes q) known in
      let second : after_release m k bytes (as_before (buffer_at c k)) ≡ after_release (after_lend c k) k bytes (as_before
      (buffer_at c k)) = ap (λ (q : Cache D). after_release q k bytes (as_before (buffer_at c k))) lent in
      let third : after_release (after_lend c k) k bytes (as_before (buffer_at c k)) ≡ after_given c k x x bytes (as_before (buffer_at c k))
      = ap (λ (q : Buffer). after_given c k x q bytes (as_before (buffer_at c k))) here in
      let fourth : after_given c k x x bytes (as_before (buffer_at c k)) ≡ record (changed c k (released x bytes
      (as_before (buffer_at c k)))) { free = freed c.free k (as_before (buffer_at c k)) } = ap (λ (l : List Buffer). with_buffers c l
      (freed c.free k (as_before (buffer_at c k)))) (set-set c.buffers k x (released x bytes (as_before (buffer_at c k)))) in
      first ∙ (second ∙ (third ∙ fourth))

  -- a buffer that was queued and needs no transfer comes back as it was
  pub puts_back : (seen : D → Device) (s : State D) (m e : Cache D) (v : View) (us : List View) (k : ℕ) (bytes : List ℕ) (way : Release)
      → IsRunning seen (queued_again s k) (v ∷ us) → m ≡ after_lend s.core k → (buffer_at s.core k).bytes ≡ Some bytes
      → e ≡ after_release m k bytes way → IsLawful e → way ≡ as_before (buffer_at s.core k) → IsRead s.core k
      → IsRunning seen (record s { core = e }) (v ∷ us)
  puts_back seen s m e v us k bytes way h lent has is lawful known read =
      let w = waits seen s v us k h in
      let full = back-is s.core m e k bytes way w.held lent is known in
      subst (λ q. IsRunning seen (record s { core = q }) (v ∷ us)) (sym full)
      (unqueued seen s v us k h
      (released (record (buffer_at s.core k) { bytes = None }) bytes (as_before (buffer_at s.core k)))
      (freed s.core.free k (as_before (buffer_at s.core k))) v.moving
      (same-place s.core h.kept.current k (record (buffer_at s.core k) { bytes = None }) bytes (buffer_at s.core k).delayed
      (buffer_at s.core k).valid w.held.busy.in_range (h.kept.bytes.in_range k)
      (λ b named. h.kept.bytes.home k b bytes named (read.valid b named) has) refl refl)
      (subst (λ q. IsLawful q) full lawful)
      (λ j. omega (arith, times-freed s.core.free k j (as_before (buffer_at s.core k))))
      (λ q. q.moves))

  -- what is known where the device is about to come home from a read for buffer k
  pub brought-read : (seen : D → Device) (s : State D) (e : Cache D) (w : View) (us : List View) (d : Device) (k b : ℕ) (bytes : List ℕ)
      (disk : D) → w ≡ device_view d (moving_view k b None (calm_view w)) → IsRunning seen s (w ∷ us)
      → e ≡ record s.core { device = Some disk } → Brought s e k b bytes
  brought-read seen s e w us d k b bytes disk is h after =
      let m = moving-here seen s w us h (record { buffer = k; block = b; bytes = None }) (ap (λ (x : View). x.moving) is) in
      let few = h.kept.few in
      let inside = m.busy.in_range in
      subst (λ q. Brought s q k b bytes) (sym after) (record {
        busy = record { in_range = m.busy.in_range; busy = m.busy.busy };
        away = m.away;
        size = m.size;
        few = omega (arith, few, inside);
        counted = m.busy.in_range;
      })

  -- what a read gave are the bytes of the block
  read-current : (seen : D → Device) (s : State D) (v : View) (us : List View) (k b : ℕ) (bytes : List ℕ) (disk : D) → 0 < weight v
      → (h : IsRunning seen s (moving_view k b None v ∷ us)) → s.core.device ≡ Some disk
      → bytes ≡ block_of v.opening.sizes (seen disk).content b → bytes ≡ h.kept.current b
  read-current seen s v us k b bytes disk some h at are =
      let mine = All-head (IsSeen s.core h.kept.current h.kept.device h.kept.opening) (moving_view k b None v) us h.each in
      let sizes : v.opening.sizes ≡ s.core.geometry = ap (λ o. o.sizes) (mine.opened some) ∙ h.kept.same_sizes in
      let named = mine.moves.out.named in
      let clean : block_of s.core.geometry h.kept.device.content b ≡ h.kept.current b =
      h.kept.bytes.clean b (h.kept.bytes.in_range k b named) (λ j other. subst (λ i. is_delayed s.core i ≡ false)
      (h.kept.lawful.one_buffer.same k j b named other) mine.moves.on_device) in
      are ∙ (ap (λ g. block_of g (seen disk).content b) sizes
      ∙ (ap (λ (x : Device). block_of s.core.geometry x.content b) (home-is seen s h.kept disk at) ∙ clean))

  -- the buffer comes back with what was read, or with bytes that say nothing
  read-place : {T E : Type 0} (r : Result T E) (seen : D → Device) (s : State D) (v : View) (us : List View) (k b : ℕ) (bytes : List ℕ)
      (way : Release) (h : IsRunning seen s (moving_view k b None v ∷ us)) → OnOk r (bytes ≡ h.kept.current b)
      → OnOk r (way ≡ how.Valid) → OnErr r (way ≡ how.Invalid)
      → TakesPlace s.core h.kept.current k (released (buffer_at s.core k) bytes way)
  read-place (Ok y) seen s v us k b bytes way h are ok err =
      let mine = All-head (IsSeen s.core h.kept.current h.kept.device h.kept.opening) (moving_view k b None v) us h.each in
      let none = unread-place seen s v us k b bytes h in
      subst (λ q. TakesPlace s.core h.kept.current k (released (buffer_at s.core k) bytes q)) (sym ok) (record {
        inside = none.inside;
        in_range = h.kept.bytes.in_range k;
        home = λ e z named valid has. let full : z ≡ bytes = cc in
            let same : Some b ≡ Some e = sym mine.moves.out.named ∙ named in let block : b ≡ e = cc in
            full ∙ (are ∙ ap h.kept.current block);
        valid = λ d. absurd (false≢true d);
        stays = λ d. absurd (false≢true (sym mine.moves.on_device ∙ d));
      })
  read-place (Err y) seen s v us k b bytes way h are ok err =
      subst (λ q. TakesPlace s.core h.kept.current k (released (buffer_at s.core k) bytes q)) (sym err)
      (unread-place seen s v us k b bytes h)

  -- the device comes home from a read, and the buffer comes back
  pub reads_home : {T E : Type 0} (r : Result T E) (seen : D → Device) (s : State D) (e : Cache D) (w : View) (us : List View) (d : Device)
      (k b : ℕ) (bytes : List ℕ) (disk : D) (way : Release) → w ≡ device_view d (moving_view k b None (calm_view w))
      → IsRunning seen s (w ∷ us) → 0 < weight w → length bytes ≡ 1024 → OnOk r (bytes ≡ block_of w.opening.sizes d.content b)
      → (seen disk).content ≡ d.content → d.faults ≤ (seen disk).faults → e ≡ record s.core { device = Some disk } → IsLawful e
      → OnOk r (way ≡ how.Valid) → OnErr r (way ≡ how.Invalid)
      → IsRunning seen (record s { core = after_release e k bytes way }) (calm_view w ∷ us)
  reads_home r seen s e w us d k b bytes disk way is h some size are content faults after lawful ok err =
      let q : IsRunning seen s (device_view d (moving_view k b None (calm_view w)) ∷ us) = subst (λ x. IsRunning seen s (x ∷ us)) is h in
      let legal_home : IsLawful (record s.core { device = Some disk }) = subst (λ x. IsLawful x) after lawful in
      let t = brings seen s (record s.core { device = Some disk }) (moving_view k b None (calm_view w)) us d q disk w.faults refl content
      (λ low. (omega arith, faults)) refl legal_home in
      let here = brought-read seen s (record s.core { device = Some disk }) w us d k b bytes disk is h refl in
      let legal = lawful-release (record s.core { device = Some disk }) k bytes way legal_home here.busy (size ∙ sym here.size) in
      subst (λ x. IsRunning seen (record s { core = after_release x k bytes way }) (calm_view w ∷ us)) (sym after)
      (given-read seen (record s { core = record s.core { device = Some disk } }) (calm_view w) us k b bytes way t refl
      (read-place r seen (record s { core = record s.core { device = Some disk } }) (calm_view w) us k b bytes way t
      (now r are (λ p. read-current seen (record s { core = record s.core { device = Some disk } }) (calm_view w) us k b bytes disk some t
      refl (p ∙ ap (λ c. block_of w.opening.sizes c b) (sym content)))) ok err) legal)
    where
      now : {T E P Q : Type 0} (r : Result T E) → OnOk r P → (P → Q) → OnOk r Q
      now (Ok y) p f = f p
      now (Err y) p f = tt

  -- that the worker is to stop is no part of the rule
  pub stops : (seen : D → Device) (s : State D) (v : View) (us : List View) (t : Bool) → IsRunning seen s (v ∷ us)
      → IsRunning seen (record s { stopping = t }) (v ∷ us)
  stops seen s v us t h =
      let mine = All-head (IsSeen s.core h.kept.current h.kept.device h.kept.opening) v us h.each in
      step seen s (record s { stopping = t }) v v us h
      (record {
        current = h.kept.current;
        device = h.kept.device;
        opening = h.kept.opening;
        lawful = h.kept.lawful;
        sizes = h.kept.sizes;
        same_sizes = h.kept.same_sizes;
        same_count = h.kept.same_count;
        few = h.kept.few;
        room = h.kept.room;
        bytes = h.kept.bytes;
        device_home = h.kept.device_home;
      }) refl
      (record { buffers = refl; sizes = refl; state = λ j. refl; device = refl; lines = λ e l. refl; workers = refl; queued = h.one_state.queued })
      (λ low. (omega arith, omega arith)) mine (λ u below q. q)

  -- a number was taken off the queue, which is put before all others again
  pub popped : (s : State D) (k : ℕ) (q : Queue) → IsTaken s.requests q k → queued_again (record s { requests = q }) k ≡ s
  popped s k q taken =
      let same : record q { waiting = k ∷ q.waiting } ≡ s.requests =
      ap (λ n. record { capacity = n; waiting = k ∷ q.waiting }) taken.capacity
      ∙ ap (λ l. record { capacity = s.requests.capacity; waiting = l }) (sym taken.first) in
      ap (λ p. record s { requests = p }) same

  pub not_popped : (s : State D) (q : Queue) → IsEmpty s.requests q → record s { requests = q } ≡ s
  not_popped s q empty = ap (λ p. record s { requests = p }) empty.same
