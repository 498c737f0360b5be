-- A block is written with the device out.
use Rattle.std.proofs.Common.{◌≡◌, ◌+◌, ◌*◌, ◌<◌, ◌≤◌, ℕ, Bool, true, false, List, ◌∷◌, length, set, Option, Some, None, Result, Ok, Err, is_some, IfSome, OnOk, IfOk, IfErr, refl, sym, ap, ◌∙◌, subst, arith, inl, inr, nat_lt}
use Rattle.std.proofs.lemmas.Bool.{false≢true}
use Rattle.std.proofs.lemmas.List.{length-set}
use Rattle.std.proofs.lemmas.List.Sums.{sum_by-cons}
use Rattle.std.proofs.lemmas.List.Elements.{All-head}
use Rattle.sv_dev.specs.Causes.{last_count, Rose}
use Rattle.sv_dev.specs.Transfer.{IsTorn, overwritten}
use Rattle.sv_form.specs.Image.{block_of}
use Rattle.sv_links.specs.Arrangement.{times, one_if}
use Rattle.sv_links.proofs.Times.{one-if_same}
use Rattle.sv_cache.specs.declared.scenario.Release.{Release}
use Rattle.sv_cache.specs.declared.scenario.Release.TheVariants as how
use Rattle.sv_cache.specs.Cache.{Cache, buffer_at, IsBusy, holder}
use Rattle.sv_cache.specs.Brelse.{after_release, released, freed}
use Rattle.sv_cache.specs.Lawful.{IsLawful}
use Rattle.sv_cache.proofs.Laws.{changed, times-freed, lawful-release}
use Rattle.sv_cache.proofs.Holder.{named-inside}
use Rattle.sv_store.specs.Held.{line_of}
use Rattle.sv_store.specs.Loan.{Loan}
use Rattle.sv_store.specs.Calls.{CanPut}
use Rattle.sv_store.specs.declared.refusal.Refusal.{Refusal}
use Rattle.sv_store.specs.declared.refusal.Refusal.TheVariants.{Fault}
use Rattle.sv_buf.proofs.Putting.{fit-put}
use Rattle.sv_buf.specs.declared.state.State.{State}
use Rattle.sv_buf.specs.View.{View, Device, weight, devices, held_of, lent_of, outs, lent_times, moving_times}
use Rattle.sv_buf.specs.Changes.{moving_view, device_view, calm_view, failed_view, loans_without, put_view, written_view}
use Rattle.sv_buf.specs.Delaying.{delayed_at, IsClean}
use Rattle.sv_buf.specs.Serving.{MayCount}
use Rattle.sv_buf.specs.Running.{IsLent, IsMoving, IsSeen, IsRunning, IsFit}
use Rattle.sv_buf.proofs.Bytes.{current-as}
use Rattle.sv_buf.proofs.Steps.{FaultsMove, step, seen-changed, queued-apart}
use Rattle.sv_buf.proofs.Lists.{All-without}
use Rattle.sv_buf.proofs.Taking.{none_out, apart-away}
use Rattle.sv_buf.proofs.Returning.{LentHere, lent-here, back-counted}
use Rattle.sv_buf.proofs.Reading.{no_device-seen, not_home}
use Rattle.sv_buf.proofs.Getting.{moving-here}
use Rattle.sv_buf.proofs.Written.{ChangedAt, Transferred, current-transferred, block-written, block-torn}
use Rattle.sv_buf.proofs.Delaying.{OtherLoan, MayRewrite, rewrites}

at_most : (t : Bool) → one_if t ≤ 1
at_most true = omega arith
at_most false = omega arith

module _ {D : Type 0} where
  -- the device comes home from a write of the buffer that is in transfer, and the buffer comes back
  ends-at : (seen : D → Device) (s : State D) (v : View) (us : List View) (d : Device) (k b : ℕ) (bytes : List ℕ)
      (h : IsRunning seen s (device_view d (moving_view k b (Some bytes) v) ∷ us)) (disk : D) (f : ℕ) (way : Release)
      → v.moving ≡ None → v.device ≡ None
      → Transferred s.core h.kept.current h.kept.device (seen disk) k b (released (buffer_at s.core k) bytes way)
      → FaultsMove d (seen disk) v (record v { faults = f })
      → IsLawful (after_release (record s.core { device = Some disk }) k bytes way)
      → IsRunning seen (record s { core = after_release (record s.core { device = Some disk }) k bytes way })
      (record v { faults = f } ∷ us)
  ends-at seen s v us d k b bytes h disk f way calm home p move lawful =
      let mine = All-head (IsSeen s.core h.kept.current h.kept.device h.kept.opening) (device_view d (moving_view k b (Some bytes) v)) us
      h.each in
      let known : d ≡ h.kept.device = mine.device_seen in
      let inside = named-inside s.core k b mine.moves.out.named in
      let out : outs k (moving_view k b (Some bytes) v) ≡ lent_times k v + 1 = ap (λ n. lent_times k v + n) (one-if_same k k refl) in
      let whole = h.one_state.once k in
      let part = sum_by-cons (outs k) (device_view d (moving_view k b (Some bytes) v)) us in
      let most = at_most (nat_lt k (length s.core.buffers)) in
      let still : moving_times k v.moving ≡ 0 = ap (moving_times k) calm in
      let none : outs k v ≡ 0 = omega arith in
      let idle : times k s.requests.waiting ≡ 0 = omega arith in
      let long : length (set s.core.buffers k (released (buffer_at s.core k) bytes way)) ≡ length s.core.buffers = length-set
      s.core.buffers k (released (buffer_at s.core k) bytes way) in
      let devices_once = h.one_device.once in
      let as_v : IsSeen s.core h.kept.current h.kept.device h.kept.opening v = record {
        opened = mine.opened;
        lent = mine.lent;
        moves = subst (λ m. IfSome m (IsMoving s.core h.kept.current)) (sym calm) tt;
        device_seen = subst (λ o. IfSome o (λ y. y ≡ h.kept.device)) (sym home) tt;
        lines = mine.lines;
      } in
      step seen s (record s { core = after_release (record s.core { device = Some disk }) k bytes way })
      (device_view d (moving_view k b (Some bytes) v)) (record v { faults = f }) us h
      (record {
        current = h.kept.current;
        device = seen disk;
        opening = h.kept.opening;
        lawful = lawful;
        sizes = h.kept.sizes;
        same_sizes = h.kept.same_sizes;
        same_count = h.kept.same_count ∙ sym long;
        few = omega (arith, h.kept.few, long);
        room = h.kept.room ∙ sym long;
        bytes = current-as (changed s.core k (released (buffer_at s.core k) bytes way))
            (after_release (record s.core { device = Some disk }) k bytes way) h.kept.current (seen disk) (seen disk) refl refl refl
            (current-transferred s.core h.kept.current h.kept.device (seen disk) k b (released (buffer_at s.core k) bytes way)
            h.kept.bytes h.kept.lawful.one_buffer p);
        device_home = refl;
      }) refl
      (record {
        buffers = long;
        sizes = refl;
        state = λ j. let quiet : moving_times j v.moving ≡ 0 = ap (moving_times j) calm in omega
            (arith, quiet, times-freed s.core.free k j way);
        device =
            let gone : one_if (is_some s.core.device) ≡ 0 = ap (λ o. one_if (is_some o)) (not_home seen s
            (device_view d (moving_view k b (Some bytes) v)) us d h refl) in
            let held : devices v ≡ 0 = ap (λ o. one_if (is_some o)) home in omega arith;
        lines = λ e l. refl;
        workers = refl;
        queued = queued-apart s.core k (released (buffer_at s.core k) bytes way) (freed s.core.free k way) (Some disk)
            s.requests.waiting idle h.one_state.queued;
      })
      (subst (λ x. FaultsMove x (seen disk) v (record v { faults = f })) known move)
      (let q = seen-changed s.core h.kept.current h.kept.device
      (after_release (record s.core { device = Some disk }) k bytes way) h.kept.current (seen disk) h.kept.opening v
      (apart-away s.core h.kept.current k (released (buffer_at s.core k) bytes way) (freed s.core.free k way) (Some disk) v none)
      mine.lines (subst (λ o. IfSome o (λ y. y ≡ seen disk)) (sym home) tt) as_v in
      record { opened = q.opened; lent = q.lent; moves = q.moves; device_seen = q.device_seen; lines = q.lines })
      (λ u below q. seen-changed s.core h.kept.current h.kept.device
      (after_release (record s.core { device = Some disk }) k bytes way) h.kept.current (seen disk) h.kept.opening u
      (apart-away s.core h.kept.current k (released (buffer_at s.core k) bytes way) (freed s.core.free k way) (Some disk) u
      (none_out seen s (device_view d (moving_view k b (Some bytes) v)) us h k (omega arith) u below)) q.lines
      (no_device-seen u.device (let theirs = below devices in omega
      (arith, theirs, devices_once, sum_by-cons devices (device_view d (moving_view k b (Some bytes) v)) us)) (λ x. x ≡ seen disk)) q)

  -- what is known where the device is about to come home from a write of buffer k
  pub record Brought (s : State D) (e : Cache D) (k b : ℕ) (bytes : List ℕ) : Type 0 where
    pub busy : IsBusy e k
    pub away : (buffer_at e k).bytes ≡ None
    pub size : e.geometry.block_size ≡ 1024
    pub few : k < 65536
    pub counted : k < length s.core.buffers

  pub brought : (seen : D → Device) (s : State D) (e : Cache D) (w : View) (us : List View) (d : Device) (k b : ℕ) (bytes : List ℕ)
      (disk : D) → w ≡ device_view d (moving_view k b (Some bytes) (calm_view w)) → IsRunning seen s (w ∷ us)
      → e ≡ record s.core { device = Some disk } → Brought s e k b bytes
  brought seen s e w us d k b bytes disk is h after =
      let m = moving-here seen s w us h (record { buffer = k; block = b; bytes = Some bytes }) (ap (λ (x : View). x.moving) is) in
      let few = h.kept.few in
      let inside = m.busy.in_range in
      subst (λ q. Brought s q k b bytes) (sym after) (record {
        busy = record { in_range = m.busy.in_range; busy = m.busy.busy };
        away = m.away;
        size = m.size;
        few = omega (arith, few, inside);
        counted = m.busy.in_range;
      })

  -- while this view has the device out it is not at home
  pub gone_out : (seen : D → Device) (s : State D) (w v : View) (us : List View) (d : Device) → w ≡ device_view d v
      → IsRunning seen s (w ∷ us) → s.core.device ≡ None
  gone_out seen s w v us d is h = not_home seen s w us d h (ap (λ (x : View). x.device) is)

  -- the buffer after a write that succeeded, and after one that failed
  transferred-clean : (c : Cache D) (current : ℕ → List ℕ) (d f : Device) (k b : ℕ) (bytes : List ℕ) (way : Release) → IsClean way
      → (buffer_at c k).block ≡ Some b → bytes ≡ current b → ChangedAt c.geometry b d.content f.content
      → block_of c.geometry f.content b ≡ bytes → Transferred c current d f k b (released (buffer_at c k) bytes way)
  transferred-clean c current d f k b bytes how.Valid clean named are at put = record {
    named = named;
    block = named;
    home = λ y valid has. let full : y ≡ bytes = cc in full ∙ are;
    valid = λ q. absurd (false≢true q);
    changed_at = at;
    written = λ _. put ∙ are;
  }
  transferred-clean c current d f k b bytes how.Old clean named are at put = record {
    named = named;
    block = named;
    home = λ y valid has. let full : y ≡ bytes = cc in full ∙ are;
    valid = λ q. absurd (false≢true q);
    changed_at = at;
    written = λ _. put ∙ are;
  }
  transferred-clean c current d f k b bytes how.Invalid clean named are at put = absurd clean
  transferred-clean c current d f k b bytes how.Delayed clean named are at put = absurd clean
  transferred-clean c current d f k b bytes how.FailedWrite clean named are at put = absurd clean

  transferred-failed : (c : Cache D) (current : ℕ → List ℕ) (d f : Device) (k b : ℕ) (bytes : List ℕ) → (buffer_at c k).block ≡ Some b
      → bytes ≡ current b → ChangedAt c.geometry b d.content f.content
      → Transferred c current d f k b (released (buffer_at c k) bytes how.FailedWrite)
  transferred-failed c current d f k b bytes named are at = record {
    named = named;
    block = named;
    home = λ y valid has. let full : y ≡ bytes = cc in full ∙ are;
    valid = λ _. refl;
    changed_at = at;
    written = λ q. absurd (false≢true (sym q));
  }

  -- the write of a block succeeded
  pub written-ok : (seen : D → Device) (s : State D) (e : Cache D) (w : View) (us : List View) (d : Device) (k b : ℕ) (bytes : List ℕ)
      (disk : D) (way : Release) → w ≡ device_view d (moving_view k b (Some bytes) (calm_view w)) → IsRunning seen s (w ∷ us)
      → length bytes ≡ 1024 → IsClean way → (seen disk).content ≡ overwritten d.content (b * 1024) bytes
      → (seen disk).faults ≡ d.faults → e ≡ record s.core { device = Some disk } → IsLawful e
      → IsRunning seen (record s { core = after_release e k bytes way }) (calm_view w ∷ us)
  written-ok seen s e w us d k b bytes disk way is h size clean content faults after lawful =
      let q : IsRunning seen s (device_view d (moving_view k b (Some bytes) (calm_view w)) ∷ us) = subst (λ x. IsRunning seen s (x ∷ us))
      is h in
      let mine = All-head (IsSeen s.core q.kept.current q.kept.device q.kept.opening)
      (device_view d (moving_view k b (Some bytes) (calm_view w))) us q.each in
      let known : d ≡ q.kept.device = mine.device_seen in
      let named = mine.moves.out.named in
      let here = brought seen s (record s.core { device = Some disk }) w us d k b bytes disk is h refl in
      let at = block-written s.core.geometry b q.kept.device.content bytes (seen disk).content q.kept.sizes.block_size
      q.kept.bytes.whole (q.kept.bytes.in_range k b named) size (content ∙ ap (λ (x : Device). overwritten x.content (b * 1024) bytes)
      known) in
      let lawful_home : IsLawful (record s.core { device = Some disk }) = subst (λ x. IsLawful x) after lawful in
      let legal = lawful-release (record s.core { device = Some disk }) k bytes way lawful_home here.busy (size ∙ sym here.size) in
      subst (λ x. IsRunning seen (record s { core = after_release x k bytes way }) (calm_view w ∷ us)) (sym after)
      (ends-at seen s (calm_view w) us d k b bytes q disk w.faults way refl refl
      (transferred-clean s.core q.kept.current q.kept.device (seen disk) k b bytes way clean named mine.moves.noted at.0 at.1)
      (λ low. (omega (arith, faults), omega (arith, faults))) legal)

  -- the write of a block failed: the fault may be counted here, and the block is still to be written
  pub written-failed : (seen : D → Device) (s : State D) (e : Cache D) (w x : View) (us : List View) (d : Device) (k b : ℕ)
      (bytes : List ℕ) (disk : D) → w ≡ device_view d (moving_view k b (Some bytes) (calm_view w)) → IsRunning seen s (w ∷ us)
      → length bytes ≡ 1024 → IsTorn d.content (b * 1024) 1024 (seen disk).content → Rose d.faults (seen disk).faults
      → e ≡ record s.core { device = Some disk } → IsLawful e → MayCount w x
      → IsRunning seen (record s { core = after_release e k bytes how.FailedWrite }) (x ∷ us)
  written-failed seen s e w x us d k b bytes disk is h size torn rose after lawful counts =
      let q : IsRunning seen s (device_view d (moving_view k b (Some bytes) (calm_view w)) ∷ us) = subst (λ y. IsRunning seen s (y ∷ us))
      is h in
      let mine = All-head (IsSeen s.core q.kept.current q.kept.device q.kept.opening)
      (device_view d (moving_view k b (Some bytes) (calm_view w))) us q.each in
      let known : d ≡ q.kept.device = mine.device_seen in
      let named = mine.moves.out.named in
      let here = brought seen s (record s.core { device = Some disk }) w us d k b bytes disk is h refl in
      let at = block-torn s.core.geometry b q.kept.device.content (seen disk).content q.kept.sizes.block_size
      q.kept.bytes.whole (q.kept.bytes.in_range k b named) (subst (λ (x : Device). IsTorn x.content (b * 1024) 1024 (seen disk).content)
      known torn) in
      let lawful_home : IsLawful (record s.core { device = Some disk }) = subst (λ x. IsLawful x) after lawful in
      let legal = lawful-release (record s.core { device = Some disk }) k bytes how.FailedWrite lawful_home here.busy
      (size ∙ sym here.size) in
      subst (λ y. IsRunning seen (record s { core = after_release y k bytes how.FailedWrite }) (x ∷ us)) (sym after)
      (subst (λ y. IsRunning seen (record s { core = after_release (record s.core { device = Some disk }) k bytes how.FailedWrite })
      (y ∷ us)) (sym counts.calm)
      (ends-at seen s (calm_view w) us d k b bytes q disk counts.faults how.FailedWrite refl refl
      (transferred-failed s.core q.kept.current q.kept.device (seen disk) k b bytes named mine.moves.noted at)
      (λ low. moved rose low) legal))
    where
      moved : Rose d.faults (seen disk).faults → (seen disk).faults < last_count
          → (d.faults + counts.faults ≤ (seen disk).faults + w.faults) × (d.faults ≤ (seen disk).faults)
      moved (inl more) low = (omega (arith, counts.few), omega arith)
      moved (inr last) low = absurd (omega arith)

  -- a block that is lent comes back with new bytes, and its buffer is in transfer at once
  lent-rewrites : (seen : D → Device) (s : State D) (v : View) (us : List View) (h : IsRunning seen s (v ∷ us)) (k : ℕ) (buf : Loan)
      (can : CanPut (held_of v.lines) (lent_of v.loans) buf) → v.moving ≡ None → LentHere s h.kept.current v k buf.block can.was
      → MayRewrite s h.kept.current v k buf.block buf.bytes (loans_without buf.block v.loans)
  lent-rewrites seen s v us h k buf can calm p =
      let mine = All-head (IsSeen s.core h.kept.current h.kept.device h.kept.opening) v us h.each in
      record {
        named = p.named;
        away = p.away;
        once = p.once;
        idle = p.idle;
        counted = λ j.
            let e = back-counted seen s v us h k buf.block can.was how.Delayed p calm j in
            let quiet : moving_times j v.moving ≡ 0 = ap (moving_times j) calm in
            omega (arith, e, quiet, times-freed s.core.free k j how.Delayed);
        size = can.size ∙ ap length p.current_are;
        others = λ l unheld. can.others l unheld ∙ ap (λ q. line_of q l) p.current_are;
        kept_loans = All-without (IsLent s.core h.kept.current) (OtherLoan s.core h.kept.current buf.block) buf.block v.loans
            (λ loan n lent. record { other = n; is = lent }) mine.lent;
      }

  pub puts_written : (seen : D → Device) (s : State D) (e : Cache D) (v : View) (us : List View) (h : IsRunning seen s (v ∷ us)) (k : ℕ)
      (buf : Loan) (can : CanPut (held_of v.lines) (lent_of v.loans) buf) → v.moving ≡ None → holder s.core buf.block ≡ Some k
      → e ≡ delayed_at s.core k → IsLawful e
      → IsRunning seen (record s { core = e }) (moving_view k buf.block (Some buf.bytes) (written_view buf.block buf.bytes v) ∷ us)
  puts_written seen s e v us h k buf can calm holds is lawful =
      subst (λ q. IsRunning seen (record s { core = q })
      (moving_view k buf.block (Some buf.bytes) (written_view buf.block buf.bytes v) ∷ us)) (sym is)
      (rewrites seen s v us h k buf.block buf.bytes (loans_without buf.block v.loans) true
      (lent-rewrites seen s v us h k buf can calm (lent-here seen s v us h k buf.block can.was can.from holds))
      (subst (λ q. IsLawful q) is lawful))

  -- a block that is lent is one of the disk
  pub lent-below : (seen : D → Device) (s : State D) (v : View) (us : List View) (h : IsRunning seen s (v ∷ us)) (k b : ℕ)
      (bytes : List ℕ) → 0 < weight v → lent_of v.loans b ≡ Some bytes → holder s.core b ≡ Some k → b < v.opening.sizes.blocks
  lent-below seen s v us h k b bytes some lent holds =
      let mine = All-head (IsSeen s.core h.kept.current h.kept.device h.kept.opening) v us h.each in
      let sizes : v.opening.sizes ≡ s.core.geometry = ap (λ o. o.sizes) (mine.opened some) ∙ h.kept.same_sizes in
      subst (λ g. b < g.blocks) (sym sizes) (h.kept.bytes.in_range k b (lent-here seen s v us h k b bytes lent holds).named)

-- the view of a pass under another name
pub out-under : (v w : View) (d : Device) (k b : ℕ) (o : Option (List ℕ)) → w ≡ v → v ≡ device_view d (moving_view k b o (calm_view v))
    → w ≡ device_view d (moving_view k b o (calm_view w))
out-under v w d k b o p out = p ∙ (out ∙ ap (λ q. device_view d (moving_view k b o (calm_view q))) (sym p))

pub calm-is : (v : View) → v.moving ≡ None → v.device ≡ None → calm_view v ≡ v
calm-is v m h = ap (λ o. record v { moving = o; device = None }) (sym m) ∙ ap (λ o. record v { device = o }) (sym h)

-- a block that is written at once, from where its pass has it in transfer to where it is done
pub calm-written : (v w x : View) (d : Device) (k b : ℕ) (bytes : List ℕ) → w ≡ moving_view k b (Some bytes) (written_view b bytes v)
    → x ≡ device_view d w → v.moving ≡ None → v.device ≡ None → calm_view x ≡ written_view b bytes v
calm-written v w x d k b bytes first second calm home =
    ap calm_view (second ∙ ap (device_view d) first) ∙ ap (written_view b bytes) (calm-is v calm home)

pub brings-out : (v w x : View) (d : Device) (k b c : ℕ) (bytes items : List ℕ) → w ≡ moving_view k b (Some bytes) (written_view b bytes v)
    → x ≡ device_view d w → c ≡ b → items ≡ bytes → v.moving ≡ None → v.device ≡ None
    → x ≡ device_view d (moving_view k c (Some items) (calm_view x))
brings-out v w x d k b c bytes items first second same are calm home =
    second ∙ (ap (device_view d) first
    ∙ (ap (λ q. device_view d (moving_view k b (Some bytes) q)) (sym (calm-written v w x d k b bytes first second calm home))
    ∙ (ap (λ q. device_view d (moving_view k b (Some q) (calm_view x))) (sym are)
    ∙ ap (λ q. device_view d (moving_view k q (Some items) (calm_view x))) (sym same))))

pub on_ok : {T E : Type 0} (r : Result T E) (P Q : Type 0) → (P → Q) → OnOk r P → OnOk r Q
on_ok (Ok x) P Q f p = f p
on_ok (Err e) P Q f p = tt

pub if_ok : {T E : Type 0} (r : Result T E) (P Q : T → Type 0) → ((x : T) → P x → Q x) → IfOk r P → IfOk r Q
if_ok (Ok x) P Q f p = f x p
if_ok (Err e) P Q f p = tt

pub if_err : {T E : Type 0} (r : Result T E) (P Q : E → Type 0) → ((e : E) → P e → Q e) → IfErr r P → IfErr r Q
if_err (Ok x) P Q f p = tt
if_err (Err e) P Q f p = f e p

-- what holds of a view after a write, failed or not
pub ended : {T : Type 0} (r : Result T Refusal) (w x : View) (P : View → Type 0) → OnOk r (x ≡ w)
    → IfErr r (λ e. (e ≡ Fault) × (x ≡ failed_view w)) → P w → P (failed_view w) → P x
ended (Ok y) w x P ok err p q = subst P (sym ok) p
ended (Err e) w x P ok err p q = subst P (sym err.1) q

-- a stake stays fit where a block is written
pub fit-written : (v : View) (b : ℕ) (bytes : List ℕ) (f : ℕ) → length bytes ≡ v.opening.sizes.block_size → IsFit v
    → IsFit (record (written_view b bytes v) { faults = f })
fit-written v b bytes f size fit =
    let p = fit-put v (put_view b bytes v) b bytes refl size fit in
    record { sizes = p.sizes; range = p.range; some = p.some; calm = p.calm; home = p.home; once = p.once; no_worker = p.no_worker }
