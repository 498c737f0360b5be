-- The names that were seen in a directory, name by name.
use Rattle.std.proofs.Common.{◌≡◌, ◌≢◌, ◌≤◌, ◌<◌, ◌+◌, ◌-◌, ◌&&◌, ◌||◌, ◌∷◌, [], ◌∙◌, ℕ, zero, suc, Bool, not, true, false, List, All, ap, sym, refl, cond, drop, take, length, get_or, nat_le, arith}
use Rattle.std.specs.List.{list_any}
use Rattle.std.specs.Ordering.{nat_cmp, is_eq}
use Rattle.std.specs.Cmp.Lexicographic.{slice_cmp}
use Rattle.std.specs.BTreeSet.{contains}
use Rattle.std.proofs.Math.Seq.{take-length}
use Rattle.std.proofs.lemmas.List.{length-drop}
use Rattle.std.proofs.lemmas.List.FromFn.{get_or-map-range_with_len, length-map-range_with_len}
use Rattle.std.proofs.lemmas.Map.Text.{is_eq-slice_cmp}
use Rattle.sv_form.specs.declared.geometry.Geometry.{Geometry}
use Rattle.sv_form.specs.Geometry.{inode_count}
use Rattle.sv_form.specs.Image.{inode_of}
use Rattle.sv_plain.specs.Names.{same_bytes}
use Rattle.sv_check.specs.declared.sound.entries.SeenNames.{SeenNames}
use Rattle.sv_check.specs.Directories.{name_in}
use Rattle.sv_check.specs.EntrySteps.{is_taken}
use Rattle.sv_check.specs.InodeList.{is_free, used_flags}
use Rattle.sv_check.specs.SeenNames.{HasSeen, IsNamed}
use Rattle.sv_check.proofs.EntryReads.{same_fields}

-- the bytes from the third on
pub field_whole : (field entry : List ℕ) → field ≡ take (length entry - 2) (drop 2 entry) → field ≡ drop 2 entry
field_whole field entry is = is ∙ ap (λ (n : ℕ). take n (drop 2 entry)) (sym (length-drop 2 entry)) ∙ take-length (drop 2 entry)

or_cond : (t rest : Bool) → cond t true rest ≡ (t || rest)
or_cond true rest = refl
or_cond false rest = refl

fields_names : (seen : List (List ℕ)) (entry : List ℕ) → All IsNamed seen → IsNamed entry → list_any (λ s. same_bytes (drop 2 s) (drop 2 entry)) seen ≡ is_taken seen (name_in entry)
fields_names [] entry named is = refl
fields_names (s ∷ ss) entry named is =
    ap (λ (t : Bool). t || list_any (λ s. same_bytes (drop 2 s) (drop 2 entry)) ss) (sym (same_fields s entry (named 0 s (omega arith)) is))
    ∙ ap (λ (t : Bool). same_bytes (name_in s) (name_in entry) || t) (fields_names ss entry (λ k d below. named (suc k) d (omega (arith, below))) is)

named_more : (seen : List (List ℕ)) (entry : List ℕ) → All IsNamed seen → IsNamed entry → (k : ℕ) (d : List ℕ) → k < length (entry ∷ seen) → IsNamed (get_or (entry ∷ seen) k d)
named_more seen entry named is zero d below = is
named_more seen entry named is (suc k) d below = named k d (omega (arith, below))

module _ (names : SeenNames) (seen : List (List ℕ)) (entry field : List ℕ) (was : HasSeen names seen) (is : IsNamed entry) (at : field ≡ drop 2 entry) where
  -- a name is in the set exactly if it was seen
  pub seen_before : contains (slice_cmp nat_cmp) names.fields field ≡ is_taken seen (name_in entry)
  seen_before = was.fields field ∙ ap (λ (f : List ℕ). list_any (λ s. same_bytes (drop 2 s) f) seen) at ∙ fields_names seen entry was.named is

  pub seen_more : (new : SeenNames) → ((q : List ℕ) → contains (slice_cmp nat_cmp) new.fields q ≡ cond (is_eq (slice_cmp nat_cmp field q)) true (contains (slice_cmp nat_cmp) names.fields q))
      → HasSeen new (entry ∷ seen)
  seen_more new more = record {
    fields = λ q.
        more q ∙ or_cond (is_eq (slice_cmp nat_cmp field q)) (contains (slice_cmp nat_cmp) names.fields q)
        ∙ ap (λ (t : Bool). t || contains (slice_cmp nat_cmp) names.fields q) (is_eq-slice_cmp field q)
        ∙ ap (λ (f : List ℕ). same_bytes f q || contains (slice_cmp nat_cmp) names.fields q) at ∙ ap (λ (t : Bool). same_bytes (drop 2 entry) q || t) (was.fields q);
    named = named_more seen entry was.named is;
  }

-- ---- what the flags say of an inode that an entry names

module _ (g : Geometry) (image : List ℕ) (used : List Bool) (is : used ≡ used_flags g image) (n : ℕ) where
  flags : length used ≡ inode_count g
  unfolding used_flags
  flags = ap (λ (l : List Bool). length l) is ∙ length-map-range_with_len (λ k. not (is_free (inode_of g image k))) 1 (inode_count g)

  pub used_there : (d : Bool) → n ≢ 0 → n - 1 < length used → get_or used (n - 1) d ≡ (nat_le n (inode_count g) && not (is_free (inode_of g image n)))
  unfolding used_flags
  used_there d some inside =
      let below : n - 1 < inode_count g = omega (arith, inside, flags) in
      let at : 1 + (n - 1) ≡ n = omega (arith, some) in
      let within : nat_le n (inode_count g) ≡ true = grind (arith, below, some) in
      ap (λ (l : List Bool). get_or l (n - 1) d) is ∙ get_or-map-range_with_len (λ k. not (is_free (inode_of g image k))) 1 (inode_count g) (n - 1) n d below at
      ∙ ap (λ (t : Bool). t && not (is_free (inode_of g image n))) (sym within)

  pub used_nowhere : n ≢ 0 → length used ≤ n - 1 → false ≡ (nat_le n (inode_count g) && not (is_free (inode_of g image n)))
  used_nowhere some past =
      let beyond : nat_le n (inode_count g) ≡ false = grind (arith, past, some, flags) in
      ap (λ (t : Bool). t && not (is_free (inode_of g image n))) (sym beyond)
