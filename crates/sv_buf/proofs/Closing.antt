-- What a close makes of the buffers and of the device.
use Rattle.std.proofs.Common.{◌≡◌, ◌+◌, ◌*◌, ◌<◌, ◌≤◌, ◌&&◌, ◌||◌, ◌++◌, ℕ, zero, suc, Bool, true, false, cond, List, [], ◌∷◌, length, set, get_or, nat_lt, Option, Some, None, is_some, IsSome, IfSome, refl, sym, ap, ◌∙◌, subst, arith, inl, inr}
use Rattle.std.specs.List.{count_by, All}
use Rattle.std.proofs.lemmas.Bool.{cases_eq, false≢true, false_from_ne_true, lt-ltb, ltb-true, and_parts}
use Rattle.std.proofs.lemmas.List.{length-set, length-append}
use Rattle.std.proofs.lemmas.List.Sums.{sum_by-cons}
use Rattle.std.proofs.lemmas.List.Elements.{All-head}
use Rattle.std.proofs.Math.Nat.{mul-le-mul_right}
use Rattle.sv_dev.specs.Causes.{last_count, Rose}
use Rattle.sv_dev.specs.Transfer.{IsTorn, overwritten}
use Rattle.sv_form.specs.declared.geometry.Geometry.{Geometry}
use Rattle.sv_form.specs.Geometry.{IsGeometry}
use Rattle.sv_form.specs.Image.{block_of}
use Rattle.sv_links.specs.Arrangement.{times, without, one_if}
use Rattle.sv_links.proofs.Times.{times-append, times-cons, one-if_same, without_absent}
use Rattle.sv_cache.specs.declared.scenario.Release.{Release}
use Rattle.sv_cache.specs.declared.scenario.Release.TheVariants as how
use Rattle.sv_cache.specs.Cache.{Cache, Buffer, buffer_at, is_delayed, no_buffer, IsBusy}
use Rattle.sv_cache.specs.Brelse.{after_lend, after_release, released, freed}
use Rattle.sv_cache.specs.Lawful.{IsLawful}
use Rattle.sv_cache.proofs.Laws.{changed, changed-same}
use Rattle.sv_cache.proofs.Holder.{named-inside}
use Rattle.sv_store.specs.Held.{line_of}
use Rattle.sv_buf.specs.declared.state.State.{State}
use Rattle.sv_buf.specs.View.{View, Noted, Device, Opening, weight, is_at, outs, devices, faults, hits, held_of}
use Rattle.sv_buf.specs.Running.{IsCurrent, IsSeen, IsRunning}
use Rattle.sv_buf.specs.Start.{of_disk, whole_view}
use Rattle.sv_buf.specs.Closing.{IsQuiet, IsWritten, IsClosed, SameShape, AreAllLines}
use Rattle.sv_buf.proofs.Bytes.{changed-cases, current-as}
use Rattle.sv_buf.proofs.Getting.{set-set}
use Rattle.sv_buf.proofs.Lists.{held-none, held-some, held-current}
use Rattle.sv_buf.proofs.Reading.{home-is}
use Rattle.sv_buf.proofs.Start.{whole-weight}
use Rattle.sv_buf.proofs.Weighing.{all-lines-length}
use Rattle.sv_buf.proofs.Written.{Transferred, current-transferred, block-written, block-torn}

-- nothing is out of what has come back
quiet-outs : (o : Opening) (v : View) → IsQuiet o v → (k : ℕ) → outs k v ≡ 0
quiet-outs o v q k = rw (q.nothing_lent, q.calm) refl

quiet-devices : (o : Opening) (v : View) → IsQuiet o v → devices v ≡ 0
quiet-devices o v q = rw q.home refl

-- a line of a block whose current bytes the device has
closed-line : (g : Geometry) (content : List ℕ) (current : ℕ → List ℕ) (ns : List Noted) (b l : ℕ)
    → count_by (is_at b l) ns ≡ one_if (nat_lt b g.blocks && nat_lt (l * 64) g.block_size) → All (IsCurrent current) ns
    → (b < g.blocks → block_of g content b ≡ current b) → of_disk g content b l ≡ held_of ns b l
unfolding of_disk
closed-line g content current ns b l once all same = by (nat_lt b g.blocks && nat_lt (l * 64) g.block_size) refl
  where
    value : (r : Option (List ℕ)) (x : List ℕ) → IsSome r → IfSome r (λ y. x ≡ y) → Some x ≡ r
    value None x some are = absurd (false≢true some)
    value (Some y) x some are = ap Some are

    by : (t : Bool) → (nat_lt b g.blocks && nat_lt (l * 64) g.block_size) ≡ t
        → cond {A = Option (List ℕ)} (nat_lt b g.blocks && nat_lt (l * 64) g.block_size) (Some (line_of (block_of g content b) l)) None
        ≡ held_of ns b l
    by true e =
        let parts = and_parts (nat_lt b g.blocks) (nat_lt (l * 64) g.block_size) e in
        let one : one_if (nat_lt b g.blocks && nat_lt (l * 64) g.block_size) ≡ 1 = ap one_if e in
        ap (λ q. cond {A = Option (List ℕ)} q (Some (line_of (block_of g content b) l)) None) e
        ∙ value (held_of ns b l) (line_of (block_of g content b) l) (held-some b l ns (omega (arith, once, one)))
        (subst (λ q. IfSome (held_of ns b l) (λ y. line_of q l ≡ y)) (sym (same (ltb-true b g.blocks parts.0)))
        (held-current current b l ns all))
    by false e =
        let none : one_if (nat_lt b g.blocks && nat_lt (l * 64) g.block_size) ≡ 0 = ap one_if e in
        ap (λ q. cond {A = Option (List ℕ)} q (Some (line_of (block_of g content b) l)) None) e
        ∙ sym (held-none b l ns (omega (arith, once, none)))

module _ {D : Type 0} where
  -- the device is at home
  pub home-some : (seen : D → Device) (s : State D) (o : Opening) (v : View) → IsRunning seen s (v ∷ []) → IsQuiet o v
      → IsSome s.core.device
  home-some seen s o v h q = some s.core.device (omega (arith, h.one_device.once, sum_by-cons devices v [], quiet-devices o v q))
    where
      some : (d : Option D) → one_if (is_some d) ≡ 1 → IsSome d
      some None e = absurd (omega arith)
      some (Some d) e = refl

  begins-at : (seen : D → Device) (s : State D) (o : Opening) (v : View) (h : IsRunning seen s (v ∷ [])) → IsQuiet o v
      → IsLawful (record s.core { device = None })
      → IsWritten (record s.core { device = None }) h.kept.current h.kept.device (h.kept.opening.disk.faults + v.faults) [] 0
  begins-at seen s o v h q lawful = record {
    at_home = record {
      lawful = lawful;
      sizes = h.kept.sizes;
      bytes = current-as s.core (record s.core { device = None }) h.kept.current h.kept.device h.kept.device refl refl refl h.kept.bytes;
      home = λ k inside. by k inside (times k s.core.free) refl;
    };
    done = λ k b below named delayed. absurd (omega arith);
    counted = λ low. omega (arith, h.faults_caused low, sum_by-cons faults v []);
  }
    where
      by : (k : ℕ) → k < length s.core.buffers → (n : ℕ) → times k s.core.free ≡ n → IsSome
          (buffer_at (record s.core { device = None }) k).bytes
      by k inside zero none =
          let one : one_if (nat_lt k (length s.core.buffers)) ≡ 1 = ap one_if (lt-ltb k (length s.core.buffers) inside) in
          h.one_state.queued k (omega (arith, one, none, h.one_state.once k, sum_by-cons (outs k) v [], quiet-outs o v q k))
      by k inside (suc n) some = h.kept.lawful.one_state.home k (omega (arith, some))

  -- all is in once the device was taken out for the last time
  pub begins-closing : (seen : D → Device) (s : State D) (e : Cache D) (o : Opening) (v : View) (h : IsRunning seen s (v ∷ []))
      → IsQuiet o v → (d : D) → s.core.device ≡ Some d → e ≡ record s.core { device = None } → IsLawful e
      → IsWritten e h.kept.current (seen d) (h.kept.opening.disk.faults + v.faults) [] 0
  begins-closing seen s e o v h q d at is lawful =
      subst (λ x. IsWritten e h.kept.current x (h.kept.opening.disk.faults + v.faults) [] 0) (sym (home-is seen s h.kept d at))
      (subst (λ c. IsWritten c h.kept.current h.kept.device (h.kept.opening.disk.faults + v.faults) [] 0) (sym is)
      (begins-at seen s o v h q (subst (λ c. IsLawful c) is lawful)))

  -- a buffer that is not to be written
  pub skipped : (c : Cache D) (current : ℕ → List ℕ) (d : Device) (before : ℕ) (failed : List ℕ) (k : ℕ)
      → ((b : ℕ) → (buffer_at c k).block ≡ Some b → is_delayed c k ≡ true → ⊥) → IsWritten c current d before failed k
      → IsWritten c current d before failed (k + 1)
  skipped c current d before failed k none h = record {
    at_home = h.at_home;
    done = λ j b below named delayed. elim (cases_eq j k) [
      | inl e ↦ absurd (none b (subst (λ i. (buffer_at c i).block ≡ Some b) e named) (subst (λ i. is_delayed c i ≡ true) e delayed))
      | inr n ↦ h.done j b (omega (arith, n)) named delayed
    ];
    counted = h.counted;
  }

  -- a buffer that was written, or not
  step-written : (c e : Cache D) (current : ℕ → List ℕ) (d f : Device) (before : ℕ) (failed more : List ℕ) (k b : ℕ) (x : Buffer)
      → IsWritten c current d before failed k → Transferred c current d f k b x → IsSome x.bytes → e.geometry ≡ c.geometry
      → e.buffers ≡ set c.buffers k x → IsLawful e → (x.delayed ≡ true → 0 < times b more)
      → (f.faults < last_count → d.faults + length more ≤ f.faults) → IsWritten e current f before (more ++ failed) (k + 1)
  step-written c e current d f before failed more k b x h p has geometry buffers lawful in_more faults =
      let inside = named-inside c k b p.named in
      let count : length e.buffers ≡ length c.buffers = ap length buffers ∙ length-set c.buffers k x in
      let are : (j : ℕ) → buffer_at e j ≡ buffer_at (changed c k x) j = (λ j. ap (λ l. get_or l j no_buffer) buffers) in
      record {
        at_home = record {
          lawful = lawful;
          sizes = subst (λ g. IsGeometry g) (sym geometry) h.at_home.sizes;
          bytes = current-as (changed c k x) e current f f geometry buffers refl (current-transferred c current d f k b x h.at_home.bytes
              h.at_home.lawful.one_buffer p);
          home = λ j below. subst (λ (y : Buffer). IsSome y.bytes) (sym (are j)) (changed-cases c k x (λ i z. i < length c.buffers
              → IsSome z.bytes) inside (λ _. has) (λ i n low. h.at_home.home i low) j (omega (arith, below, count)));
        };
        done = λ j a below named delayed. changed-cases c k x (λ i z. i < k + 1 → z.block ≡ Some a → z.delayed ≡ true
            → 0 < times a (more ++ failed)) inside
            (λ low is still. let same : Some b ≡ Some a = sym p.block ∙ is in let at : b ≡ a = cc in
            subst (λ q. 0 < times q (more ++ failed)) at (omega (arith, in_more still, times-append b more failed)))
            (λ i n low is still. omega (arith, h.done i a (omega (arith, n, low)) is still, times-append a more failed)) j below
            (ap (λ (y : Buffer). y.block) (sym (are j)) ∙ named) (ap (λ (y : Buffer). y.delayed) (sym (are j)) ∙ delayed);
        counted = λ low. let rise = faults low in omega (arith, rise, h.counted (omega (arith, rise, low)), length-append more failed);
      }

  -- a buffer that was taken out comes back
  pub given_back : (c m e : Cache D) (k : ℕ) (bytes : List ℕ) (way : Release) → k < length c.buffers
      → m ≡ record c { buffers = set c.buffers k (record (buffer_at c k) { bytes = None }); free = without k c.free }
      → e ≡ after_release m k bytes way → e ≡ record c {
        buffers = set c.buffers k (released (record (buffer_at c k) { bytes = None }) bytes way);
        free = freed (without k c.free) k way;
      }
  given_back c m e k bytes way inside taken given =
      given ∙ (ap (λ q. after_release q k bytes way) taken
      ∙ (ap (λ (y : Buffer). record c {
        buffers = set (set c.buffers k (record (buffer_at c k) { bytes = None })) k (released y bytes way);
        free = freed (without k c.free) k way;
      }) (changed-same c k (record (buffer_at c k) { bytes = None }) inside)
      ∙ ap (λ l. record c { buffers = l; free = freed (without k c.free) k way }) (set-set c.buffers k
      (record (buffer_at c k) { bytes = None }) (released (record (buffer_at c k) { bytes = None }) bytes way))))

  pub given-shape : (c m e : Cache D) (k : ℕ) (bytes : List ℕ) (way : Release) → k < length c.buffers
      → m ≡ record c { buffers = set c.buffers k (record (buffer_at c k) { bytes = None }); free = without k c.free }
      → e ≡ after_release m k bytes way → SameShape c e
  given-shape c m e k bytes way inside taken given =
      let is = given_back c m e k bytes way inside taken given in
      record {
        geometry = ap (λ q. q.geometry) is;
        count = ap (λ q. length q.buffers) is ∙ length-set c.buffers k (released (record (buffer_at c k) { bytes = None }) bytes way);
        device = ap (λ q. q.device) is;
      }

  -- what stands of a buffer that is to be written
  pub record ToWrite (c : Cache D) (current : ℕ → List ℕ) (d : Device) (k b : ℕ) (bytes : List ℕ) : Type 0 where
    pub inside : k < length c.buffers
    pub low : b < c.geometry.blocks
    pub size : c.geometry.block_size ≡ 1024
    pub whole : length d.content ≡ c.geometry.blocks * c.geometry.block_size
    pub long : length bytes ≡ 1024
    pub are : bytes ≡ current b
    pub fits : b * 1024 + 1024 ≤ length d.content

  pub to-write : (c : Cache D) (current : ℕ → List ℕ) (d : Device) (before : ℕ) (failed : List ℕ) (n k b : ℕ) (bytes : List ℕ)
      → IsWritten c current d before failed n → is_delayed c k ≡ true → (buffer_at c k).block ≡ Some b
      → (buffer_at c k).bytes ≡ Some bytes → ToWrite c current d k b bytes
  to-write c current d before failed n k b bytes h delayed named has =
      let low = h.at_home.bytes.in_range k b named in
      let size = h.at_home.sizes.block_size in
      let whole = h.at_home.bytes.whole in
      let more : (b + 1) * c.geometry.block_size ≤ c.geometry.blocks * c.geometry.block_size = mul-le-mul_right c.geometry.block_size
      (omega (arith, low)) in
      let rows : b * c.geometry.block_size + c.geometry.block_size ≤ length d.content = omega (arith, more, whole) in
      record {
        inside = named-inside c k b named;
        low = low;
        size = size;
        whole = whole;
        long = h.at_home.lawful.whole.size k bytes has ∙ size;
        are = h.at_home.bytes.home k b bytes named (h.at_home.bytes.delayed_valid k delayed) has;
        fits = subst (λ z. b * z + z ≤ length d.content) size rows;
      }

  -- a buffer was written
  pub wrote : (c m e : Cache D) (current : ℕ → List ℕ) (d f : Device) (before : ℕ) (failed : List ℕ) (k b : ℕ) (bytes : List ℕ)
      → IsWritten c current d before failed k → is_delayed c k ≡ true → (buffer_at c k).block ≡ Some b
      → (buffer_at c k).bytes ≡ Some bytes
      → m ≡ record c { buffers = set c.buffers k (record (buffer_at c k) { bytes = None }); free = without k c.free }
      → e ≡ after_release m k bytes how.Old → IsLawful e
      → f.content ≡ overwritten d.content (b * 1024) bytes → f.faults ≡ d.faults → IsWritten e current f before failed (k + 1)
  wrote c m e current d f before failed k b bytes h delayed named has taken given lawful content faults =
      let w = to-write c current d before failed k k b bytes h delayed named has in
      let is = given_back c m e k bytes how.Old w.inside taken given in
      let at = block-written c.geometry b d.content bytes f.content w.size w.whole w.low w.long content in
      step-written c e current d f before failed [] k b (released (record (buffer_at c k) { bytes = None }) bytes how.Old) h
      (record {
        named = named;
        block = named;
        home = λ y valid in_it. let same : Some bytes ≡ Some y = in_it in let full : bytes ≡ y = cc in sym full ∙ w.are;
        valid = λ _. refl;
        changed_at = at.0;
        written = λ _. at.1 ∙ w.are;
      }) refl (ap (λ q. q.geometry) is) (ap (λ q. q.buffers) is) lawful (λ still. absurd (false≢true still))
      (λ low. omega (arith, faults))

  -- a write of a buffer has failed
  pub wrote-not : (c m e : Cache D) (current : ℕ → List ℕ) (d f : Device) (before : ℕ) (failed : List ℕ) (k b : ℕ) (bytes : List ℕ)
      → IsWritten c current d before failed k → is_delayed c k ≡ true → (buffer_at c k).block ≡ Some b
      → (buffer_at c k).bytes ≡ Some bytes
      → m ≡ record c { buffers = set c.buffers k (record (buffer_at c k) { bytes = None }); free = without k c.free }
      → e ≡ after_release m k bytes how.FailedWrite → IsLawful e
      → IsTorn d.content (b * 1024) 1024 f.content → Rose d.faults f.faults → IsWritten e current f before (b ∷ failed) (k + 1)
  wrote-not c m e current d f before failed k b bytes h delayed named has taken given lawful torn rose =
      let w = to-write c current d before failed k k b bytes h delayed named has in
      let is = given_back c m e k bytes how.FailedWrite w.inside taken given in
      step-written c e current d f before failed (b ∷ []) k b (released (record (buffer_at c k) { bytes = None }) bytes how.FailedWrite) h
      (record {
        named = named;
        block = named;
        home = λ y valid in_it. let same : Some bytes ≡ Some y = in_it in let full : bytes ≡ y = cc in sym full ∙ w.are;
        valid = λ _. refl;
        changed_at = block-torn c.geometry b d.content f.content w.size w.whole w.low torn;
        written = λ clean. absurd (false≢true (sym clean));
      }) refl (ap (λ q. q.geometry) is) (ap (λ q. q.buffers) is) lawful
      (λ _. omega (arith, times-cons b b [], one-if_same b b refl)) (λ low. more rose low)
    where
      more : Rose d.faults f.faults → f.faults < last_count → d.faults + length (b ∷ []) ≤ f.faults
      more (inl up) low = omega (arith, up)
      more (inr last) low = absurd (omega (arith, last, low))

  -- a block of which no buffer is still to be written
  block-clean : (c : Cache D) (current : ℕ → List ℕ) (d : Device) (before : ℕ) (failed : List ℕ) (n b : ℕ) → length c.buffers ≤ n
      → IsWritten c current d before failed n → times b failed ≡ 0 → b < c.geometry.blocks → block_of c.geometry d.content b ≡ current b
  block-clean c current d before failed n b count w none low = w.at_home.bytes.clean b low (λ k named. false_from_ne_true (is_delayed c k)
      (λ still. let inside = named-inside c k b named in let some = w.done k b (omega (arith, inside, count)) named still in absurd
      (omega (arith, some, none))))

  -- what stands once all buffers are written
  pub closes : (seen : D → Device) (s : State D) (e : Cache D) (v : View) (h : IsRunning seen s (v ∷ [])) → IsQuiet v.opening v
      → (f : Device) (failed : List ℕ) (n : ℕ) → e.geometry ≡ s.core.geometry → length e.buffers ≤ n
      → IsWritten e h.kept.current f (h.kept.opening.disk.faults + v.faults) failed n
      → IsClosed v.opening (held_of v.lines) v.faults failed f
  closes seen s e v h q f failed n geometry count w =
      let mine = All-head (IsSeen s.core h.kept.current h.kept.device h.kept.opening) v [] h.each in
      let same : v.opening ≡ h.kept.opening = mine.opened q.some in
      let here : s.core.geometry ≡ v.opening.sizes = sym h.kept.same_sizes ∙ ap (λ (o : Opening). o.sizes) (sym same) in
      let there : e.geometry ≡ v.opening.sizes = geometry ∙ here in
      record {
        whole = w.at_home.bytes.whole ∙ ap (λ g. g.blocks * g.block_size) there;
        lines = λ b l none. closed-line v.opening.sizes f.content h.kept.current v.lines b l
            (subst (λ g. hits b l v ≡ one_if (nat_lt b g.blocks && nat_lt (l * 64) g.block_size)) here
            (omega (arith, h.lines_once.once b l, sum_by-cons (hits b l) v []))) mine.lines
            (λ low. subst (λ g. block_of g f.content b ≡ h.kept.current b) there
            (block-clean e h.kept.current f (h.kept.opening.disk.faults + v.faults) failed n b count w none
            (subst (λ g. b < g.blocks) (sym there) low)));
        counted = λ low. let faults : v.opening.disk.faults ≡ h.kept.opening.disk.faults = ap (λ (o : Opening). o.disk.faults) same in omega
            (arith, w.counted low, faults);
      }

  -- the bytes of a busy buffer were taken out; it is the one that names the block
  pub taken-busy : (c m e : Cache D) (k f b : ℕ) → IsLawful c → (buffer_at c k).block ≡ Some b → (buffer_at c f).block ≡ Some b
      → IsBusy c f → m ≡ c → e ≡ after_lend m f
      → e ≡ record c { buffers = set c.buffers k (record (buffer_at c k) { bytes = None }); free = without k c.free }
  taken-busy c m e k f b lawful named found busy is given =
      let same : f ≡ k = lawful.one_buffer.same f k b found named in
      subst (λ i. e ≡ record c { buffers = set c.buffers i (record (buffer_at c i) { bytes = None }); free = without i c.free }) same
      (given ∙ (ap (λ q. after_lend q f) is
      ∙ ap (λ l. record c { buffers = set c.buffers f (record (buffer_at c f) { bytes = None }); free = l })
      (sym (without_absent f c.free busy.busy))))

  -- as many buffers as the cache was opened with
  pub closing-count : (seen : D → Device) (s : State D) (v : View) (o : Opening) (n : ℕ) → IsRunning seen s (v ∷ []) → IsQuiet o v
      → o.buffers ≡ n → n ≡ length s.core.buffers
  closing-count seen s v o n h q counted =
      let mine = All-head (IsSeen s.core h.kept.current h.kept.device h.kept.opening) v [] h.each in
      omega (
        arith,
        counted,
        ap (λ (p : Opening). p.buffers) q.opening,
        ap (λ (p : Opening). p.buffers) (mine.opened q.some),
        h.kept.same_count,
      )

-- no block is named
pub unnamed : (b : ℕ) → None ≡ Some b → ⊥
unnamed b e = false≢true (ap (λ (o : Option ℕ). is_some o) e)

-- what a loop has seen fail, and a list of it
pub or-more : (old now : Bool) (more failed : List ℕ) → old ≡ nat_lt 0 (length failed) → length more ≡ one_if now
    → (old || now) ≡ nat_lt 0 (length (more ++ failed))
or-more true false more failed is n =
    let same : length failed ≡ length (more ++ failed) = omega (arith, n, length-append more failed) in
    is ∙ ap (λ i. nat_lt 0 i) same
or-more false false more failed is n =
    let same : length failed ≡ length (more ++ failed) = omega (arith, n, length-append more failed) in
    is ∙ ap (λ i. nat_lt 0 i) same
or-more true true more failed is n = sym (lt-ltb 0 (length (more ++ failed)) (omega (arith, n, length-append more failed)))
or-more false true more failed is n = sym (lt-ltb 0 (length (more ++ failed)) (omega (arith, n, length-append more failed)))

-- a pass with all lines and the worker has the whole weight
pub closing-weight : (o : Opening) (v first : View) (ns : List Noted) → IsGeometry o.sizes → AreAllLines o.sizes ns → v.lines ≡ ns
    → v.workers ≡ 1 → first ≡ whole_view o → weight v ≡ weight first
closing-weight o v first ns is all lines one whole = omega (
  arith,
  ap (λ (l : List Noted). length l) lines,
  all-lines-length o.sizes ns is all,
  one,
  ap weight whole,
  whole-weight o is,
)
