-- A block is read with the device out.
use Rattle.std.proofs.Common.{◌≡◌, ◌+◌, ◌*◌, ◌<◌, ◌≤◌, ℕ, false, List, ◌∷◌, length, slice_range, Option, Some, None, is_some, IfSome, refl, sym, ap, ◌∙◌, subst, arith, inl, inr}
use Rattle.sv_dev.specs.Causes.{last_count, Rose}
use Rattle.sv_store.specs.Held.{line_of}
use Rattle.sv_store.specs.Loan.{Loan}
use Rattle.sv_store.specs.Calls.{Gets}
use Rattle.sv_buf.proofs.Lists.{held-current}
use Rattle.std.proofs.lemmas.List.Sums.{sum_by-cons}
use Rattle.std.proofs.lemmas.List.Elements.{All-head}
use Rattle.sv_form.specs.declared.geometry.Geometry.{Geometry}
use Rattle.sv_form.specs.Image.{block_of}
use Rattle.sv_links.specs.Arrangement.{one_if}
use Rattle.sv_cache.specs.Cache.{Cache, is_delayed}
use Rattle.sv_cache.specs.Lawful.{IsLawful}
use Rattle.sv_buf.specs.declared.state.State.{State}
use Rattle.sv_buf.specs.View.{View, Device, weight, devices, held_of}
use Rattle.sv_buf.specs.Changes.{moving_view, device_view, calm_view, failed_view}
use Rattle.sv_buf.specs.Running.{IsSeen, IsKept, IsRunning}
use Rattle.sv_buf.proofs.Bytes.{current-as}
use Rattle.sv_buf.proofs.Steps.{FaultsMove, step, seen-changed}
use Rattle.sv_buf.proofs.Taking.{same-away}

pub no_device-seen : (o : Option Device) → one_if (is_some o) ≡ 0 → (P : Device → Type 0) → IfSome o P
no_device-seen None none P = tt
no_device-seen (Some d) none P = absurd (omega arith)

module _ {D : Type 0} where
  -- the device that is at home is the one of the rule
  pub home-is : (seen : D → Device) (s : State D) (h : IsKept seen s) (d : D) → s.core.device ≡ Some d → seen d ≡ h.device
  home-is seen s h d at = subst (λ o. IfSome o (λ x. seen x ≡ h.device)) at h.device_home

  takes_device-at : (seen : D → Device) (s : State D) (v : View) (us : List View) (h : IsRunning seen s (v ∷ us)) (d : D)
      → v.device ≡ None → s.core.device ≡ Some d
      → IsLawful (record s.core { device = None }) → IsRunning seen (record s { core = record s.core { device = None } })
      (device_view (seen d) v ∷ us)
  takes_device-at seen s v us h d none at lawful =
      let mine = All-head (IsSeen s.core h.kept.current h.kept.device h.kept.opening) v us h.each in
      step seen s (record s { core = record s.core { device = None } }) v (device_view (seen d) v) us h
      (record {
        current = h.kept.current;
        device = h.kept.device;
        opening = h.kept.opening;
        lawful = lawful;
        sizes = h.kept.sizes;
        same_sizes = h.kept.same_sizes;
        same_count = h.kept.same_count;
        few = h.kept.few;
        room = h.kept.room;
        bytes = current-as s.core (record s.core { device = None }) h.kept.current h.kept.device h.kept.device refl refl refl h.kept.bytes;
        device_home = tt;
      }) refl
      (record {
        buffers = refl;
        sizes = refl;
        state = λ j. refl;
        device = let home : one_if (is_some s.core.device) ≡ 1 = ap (λ o. one_if (is_some o)) at in let out : devices v ≡ 0 = ap
            (λ o. one_if (is_some o)) none in omega arith;
        lines = λ e l. refl;
        workers = refl;
        queued = h.one_state.queued;
      })
      (λ low. (omega arith, omega arith))
      (let q = seen-changed s.core h.kept.current h.kept.device (record s.core { device = None }) h.kept.current h.kept.device
      h.kept.opening v
      (λ j b out away. same-away s.core h.kept.current s.core.free None j b away) mine.lines mine.device_seen mine in
      record { opened = mine.opened; lent = q.lent; moves = q.moves; device_seen = home-is seen s h.kept d at; lines = mine.lines })
      (λ u below q. seen-changed s.core h.kept.current h.kept.device (record s.core { device = None }) h.kept.current h.kept.device
      h.kept.opening u
      (λ j b out away. same-away s.core h.kept.current s.core.free None j b away) q.lines q.device_seen q)

  pub takes_device : (seen : D → Device) (s : State D) (e : Cache D) (v : View) (us : List View) (h : IsRunning seen s (v ∷ us)) (d : D)
      → v.device ≡ None → s.core.device ≡ Some d
      → e ≡ record s.core { device = None } → IsLawful e → IsRunning seen (record s { core = e }) (device_view (seen d) v ∷ us)
  takes_device seen s e v us h d none at is lawful =
      subst (λ q. IsRunning seen (record s { core = q }) (device_view (seen d) v ∷ us)) (sym is)
      (takes_device-at seen s v us h d none at (subst (λ q. IsLawful q) is lawful))

  -- while this view has the device out it is not at home, and no other view has it
  pub not_home : (seen : D → Device) (s : State D) (v : View) (us : List View) (d : Device) → IsRunning seen s (v ∷ us)
      → v.device ≡ Some d → s.core.device ≡ None
  not_home seen s v us d h out =
      let whole = h.one_device.once in
      let mine : devices v ≡ 1 = ap (λ o. one_if (is_some o)) out in
      none s.core.device (omega (arith, sum_by-cons devices v us))
    where
      none : (o : Option D) → one_if (is_some o) ≡ 0 → o ≡ None
      none None e = refl
      none (Some x) e = absurd (omega arith)

  brings-at : (seen : D → Device) (s : State D) (v : View) (us : List View) (d : Device) (h : IsRunning seen s (device_view d v ∷ us))
      (disk : D) (f : ℕ) → v.device ≡ None → (seen disk).content ≡ d.content
      → FaultsMove d (seen disk) v (record v { faults = f }) → IsLawful (record s.core { device = Some disk })
      → IsRunning seen (record s { core = record s.core { device = Some disk } }) (record v { faults = f } ∷ us)
  brings-at seen s v us d h disk f none content move lawful =
      let mine = All-head (IsSeen s.core h.kept.current h.kept.device h.kept.opening) (device_view d v) us h.each in
      let known : d ≡ h.kept.device = mine.device_seen in
      let whole = h.one_device.once in
      step seen s (record s { core = record s.core { device = Some disk } }) (device_view d v) (record v { faults = f }) us h
      (record {
        current = h.kept.current;
        device = seen disk;
        opening = h.kept.opening;
        lawful = lawful;
        sizes = h.kept.sizes;
        same_sizes = h.kept.same_sizes;
        same_count = h.kept.same_count;
        few = h.kept.few;
        room = h.kept.room;
        bytes = current-as s.core (record s.core { device = Some disk }) h.kept.current h.kept.device (seen disk) refl refl (content
            ∙ ap (λ x. x.content) known) h.kept.bytes;
        device_home = refl;
      }) refl
      (record {
        buffers = refl;
        sizes = refl;
        state = λ j. refl;
        device =
            let home : one_if (is_some s.core.device) ≡ 0 = ap (λ o. one_if (is_some o)) (not_home seen s (device_view d v) us d h refl) in
            let out : devices v ≡ 0 = ap (λ o. one_if (is_some o)) none in omega arith;
        lines = λ e l. refl;
        workers = refl;
        queued = h.one_state.queued;
      })
      (subst (λ x. FaultsMove x (seen disk) v (record v { faults = f })) known move)
      (let q = seen-changed s.core h.kept.current h.kept.device (record s.core { device = Some disk }) h.kept.current h.kept.device
      h.kept.opening (device_view d v)
      (λ j b out away. same-away s.core h.kept.current s.core.free (Some disk) j b away) mine.lines mine.device_seen mine in
      record {
        opened = mine.opened;
        lent = q.lent;
        moves = q.moves;
        device_seen = subst (λ o. IfSome o (λ x. x ≡ seen disk)) (sym none)
            tt;
        lines = mine.lines;
      })
      (λ u below q. seen-changed s.core h.kept.current h.kept.device (record s.core { device = Some disk }) h.kept.current (seen disk)
      h.kept.opening u
      (λ j b out away. same-away s.core h.kept.current s.core.free (Some disk) j b away) q.lines
      (no_device-seen u.device (let theirs = below devices in omega (arith, theirs, whole, sum_by-cons devices (device_view d v) us))
      (λ x. x ≡ seen disk)) q)

  -- the device comes home from a read
  pub brings : (seen : D → Device) (s : State D) (e : Cache D) (v : View) (us : List View) (d : Device)
      (h : IsRunning seen s (device_view d v ∷ us)) (disk : D) (f : ℕ) → v.device ≡ None → (seen disk).content ≡ d.content
      → FaultsMove d (seen disk) v (record v { faults = f }) → e ≡ record s.core { device = Some disk } → IsLawful e
      → IsRunning seen (record s { core = e }) (record v { faults = f } ∷ us)
  brings seen s e v us d h disk f none content move is lawful =
      subst (λ q. IsRunning seen (record s { core = q }) (record v { faults = f } ∷ us)) (sym is)
      (brings-at seen s v us d h disk f none content move (subst (λ q. IsLawful q) is lawful))

  -- what was read of a block that no buffer still has to write are its bytes
  pub reads : (seen : D → Device) (s : State D) (v : View) (us : List View) (d : Device) (k b : ℕ) (bytes : List ℕ) → 0 < weight v
      → IsRunning seen s (device_view d (moving_view k b None v) ∷ us) → bytes ≡ block_of v.opening.sizes d.content b
      → IsRunning seen s (device_view d (moving_view k b (Some bytes) v) ∷ us)
  reads seen s v us d k b bytes some h are =
      let mine = All-head (IsSeen s.core h.kept.current h.kept.device h.kept.opening) (device_view d (moving_view k b None v)) us h.each in
      let known : d ≡ h.kept.device = mine.device_seen in
      let sizes : v.opening.sizes ≡ s.core.geometry = ap (λ o. o.sizes) (mine.opened some) ∙ h.kept.same_sizes in
      let named = mine.moves.out.named in
      let clean : block_of s.core.geometry h.kept.device.content b ≡ h.kept.current b =
      h.kept.bytes.clean b (h.kept.bytes.in_range k b named) (λ j at. subst (λ i. is_delayed s.core i ≡ false)
      (h.kept.lawful.one_buffer.same k j b named at) mine.moves.on_device) in
      let full : bytes ≡ h.kept.current b = are ∙ (ap (λ g. block_of g d.content b) sizes
      ∙ (ap (λ x. block_of s.core.geometry x.content b) known ∙ clean)) in
      step seen s s (device_view d (moving_view k b None v)) (device_view d (moving_view k b (Some bytes) v)) us h h.kept refl
      (record { buffers = refl; sizes = refl; state = λ j. refl; device = refl; lines = λ e l. refl; workers = refl; queued = h.one_state.queued })
      (λ low. (omega arith, omega arith))
      (record {
        opened = mine.opened;
        lent = mine.lent;
        moves = record { out = mine.moves.out; noted = full; on_device = tt };
        device_seen = mine.device_seen;
        lines = mine.lines;
      })
      (λ u below q. q)

  -- the length of the device that is at home
  pub home-whole : (seen : D → Device) (s : State D) (w : View) (us : List View) (h : IsRunning seen s (w ∷ us)) (d : D) → 0 < weight w
      → s.core.device ≡ Some d → length (seen d).content ≡ w.opening.sizes.blocks * w.opening.sizes.block_size
  home-whole seen s w us h d some at =
      let mine = All-head (IsSeen s.core h.kept.current h.kept.device h.kept.opening) w us h.each in
      let sizes : w.opening.sizes ≡ s.core.geometry = ap (λ o. o.sizes) (mine.opened some) ∙ h.kept.same_sizes in
      ap (λ x. length x.content) (home-is seen s h.kept d at) ∙ (h.kept.bytes.whole ∙ ap (λ g. g.blocks * g.block_size) (sym sizes))

  -- a device that was not at home was not taken out
  pub not_taken : (seen : D → Device) (s : State D) (e : Cache D) (ws : List View) → s.core.device ≡ None
      → e ≡ record s.core { device = None } → IsRunning seen s ws → IsRunning seen (record s { core = e }) ws
  not_taken seen s e ws none is h =
      let same : e ≡ s.core = is ∙ ap (λ o. record s.core { device = o }) (sym none) in
      subst (λ q. IsRunning seen (record s { core = q }) ws) (sym same) h

  -- a read that succeeded: the bytes are those of the block, and the device is at home
  pub read-ok : (seen : D → Device) (s : State D) (e : Cache D) (v w : View) (us : List View) (d : Device) (k b : ℕ) (bytes : List ℕ)
      (disk : D) → 0 < weight v → w ≡ device_view d (moving_view k b None v) → IsRunning seen s (w ∷ us)
      → bytes ≡ block_of v.opening.sizes d.content b → (seen disk).content ≡ d.content → d.faults ≤ (seen disk).faults
      → e ≡ record s.core { device = Some disk } → IsLawful e
      → IsRunning seen (record s { core = e }) (moving_view k b (Some bytes) (calm_view w) ∷ us)
  read-ok seen s e v w us d k b bytes disk some is h are content faults after lawful =
      let q : IsRunning seen s (device_view d (moving_view k b None (calm_view v)) ∷ us) = subst (λ x. IsRunning seen s (x ∷ us)) is h in
      let r = reads seen s (calm_view v) us d k b bytes some q are in
      subst (λ x. IsRunning seen (record s { core = e }) (moving_view k b (Some bytes) (calm_view x) ∷ us)) (sym is)
      (brings seen s e (moving_view k b (Some bytes) (calm_view v)) us d r disk v.faults refl content (λ low. (omega arith, faults))
      after lawful)

  -- a read that failed: the fault is counted here
  pub read-failed : (seen : D → Device) (s : State D) (e : Cache D) (v w : View) (us : List View) (d : Device) (k b : ℕ) (disk : D)
      → w ≡ device_view d (moving_view k b None v) → IsRunning seen s (w ∷ us)
      → (seen disk).content ≡ d.content → Rose d.faults (seen disk).faults → e ≡ record s.core { device = Some disk } → IsLawful e
      → IsRunning seen (record s { core = e }) (moving_view k b None (failed_view (calm_view w)) ∷ us)
  read-failed seen s e v w us d k b disk is h content rose after lawful =
      let q : IsRunning seen s (device_view d (moving_view k b None (calm_view v)) ∷ us) = subst (λ x. IsRunning seen s (x ∷ us)) is h in
      subst (λ x. IsRunning seen (record s { core = e }) (moving_view k b None (failed_view (calm_view x)) ∷ us)) (sym is)
      (brings seen s e (moving_view k b None (calm_view v)) us d q disk (v.faults + 1) refl content (λ low. moved rose low) after lawful)
    where
      moved : Rose d.faults (seen disk).faults → (seen disk).faults < last_count
          → (d.faults + (v.faults + 1) ≤ (seen disk).faults + v.faults) × (d.faults ≤ (seen disk).faults)
      moved (inl more) low = (omega arith, omega arith)
      moved (inr last) low = absurd (omega arith)

  -- what is lent after a search or a read has the held lines
  pub moving-gets : (seen : D → Device) (s : State D) (v : View) (us : List View) (k b : ℕ) (bytes : List ℕ) (buf : Loan) → 0 < weight v
      → IsRunning seen s (moving_view k b (Some bytes) (calm_view v) ∷ us) → buf.block ≡ b → buf.bytes ≡ bytes
      → (id : List ℕ) → Gets (record { id = id; sizes = v.opening.sizes }) (held_of v.lines) b buf
  moving-gets seen s v us k b bytes buf some h block are id =
      let mine = All-head (IsSeen s.core h.kept.current h.kept.device h.kept.opening) (moving_view k b (Some bytes) (calm_view v)) us
      h.each in
      let sizes : v.opening.sizes ≡ s.core.geometry = ap (λ o. o.sizes) (mine.opened some) ∙ h.kept.same_sizes in
      let full : buf.bytes ≡ h.kept.current b = are ∙ mine.moves.noted in
      record {
        block = block;
        size = ap length full ∙ (h.kept.bytes.size b (h.kept.bytes.in_range k b mine.moves.out.named) ∙ ap (λ g. g.block_size) (sym sizes));
        lines = λ l. subst (λ q. IfSome (held_of v.lines b l) (λ y. line_of q l ≡ y)) (sym full)
            (held-current h.kept.current b l v.lines mine.lines);
      }

-- a block is so many bytes of the device
pub block-read : (sizes : Geometry) (content : List ℕ) (b : ℕ) → sizes.block_size ≡ 1024
    → slice_range content (b * 1024) (b * 1024 + 1024) ≡ block_of sizes content b
unfolding block_of
block-read sizes content b size = ap (λ z. slice_range content (b * z) (b * z + z)) (sym size)
