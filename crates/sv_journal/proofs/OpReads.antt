-- What an op is read as, and how it is spelled.
use Rattle.std.proofs.Common.{◌≡◌, ◌++◌, ◌∙◌, ℕ, ℤ, List, ◌∷◌, codes, Option, Some, None, IfSome, sym, ap, refl, append_assoc}
use Rattle.std.specs.Fmt.{decimal, signed_decimal}
use Rattle.std.specs.Int.{w64}
use Rattle.std.specs.Prelude.{FitsSigned}
use Rattle.hex.specs.Hex.{encode_lower}
use Rattle.sv_form.specs.Name.{IsName}
use Rattle.sv_form.specs.Number.{AreBytes}
use Rattle.sv_form.specs.declared.kind.Kind.{Kind}
use Rattle.sv_plain.specs.declared.fs.mode.Mode.{Mode}
use Rattle.sv_plain.specs.declared.history.need.Need.{Need}
use Rattle.sv_plain.specs.declared.history.need.Need.TheVariants as needs
use Rattle.sv_plain.specs.declared.history.op.Op.{Op}
use Rattle.sv_plain.specs.declared.history.op.Op.TheVariants as ops
use Rattle.sv_journal.specs.declared.need_name.NeedName.{NeedName}
use Rattle.sv_journal.specs.declared.need_name.NeedName.TheVariants as need_names
use Rattle.sv_journal.specs.declared.op_name.OpName.{OpName}
use Rattle.sv_journal.specs.declared.op_name.OpName.TheVariants as op_names
use Rattle.sv_journal.specs.Fields.{bytes, field, kind, made, mode_bits, name, number, offset, open_mode, place}
use Rattle.sv_journal.specs.Fits.{IsByte, IsLong, IsPlace, IsShort, NeedFits, OpFits}
use Rattle.sv_journal.specs.Grammar.{need_at, need_by, op_at, op_by}
use Rattle.sv_journal.specs.NeedName.{need_name, need_name_text}
use Rattle.sv_journal.specs.OpName.{op_name, op_name_text}
use Rattle.sv_journal.specs.Outcome.{◌>>=◌}
use Rattle.sv_journal.specs.Spelling.{bytes_text, kind_text, mode_text, need_text, octal, op_text}
use Rattle.sv_journal.proofs.HexWords.{bytes-reads, name-reads}
use Rattle.sv_journal.proofs.NameReads.{need_name-reads, op_name-reads}
use Rattle.sv_journal.proofs.WordCuts.{IsTail, field-back, field-cut, step}
use Rattle.sv_journal.proofs.WordReads.{byte-reads, kind-reads, long-reads, mode-reads, mode_bits-reads, offset-reads, short-reads}

-- ---- words behind one another

pub two_words : (a b r : List ℕ) → (a ++ codes " " ++ b) ++ r ≡ a ++ 32 ∷ (b ++ r)
two_words a b r = simp append_assoc

pub three_words : (a b c r : List ℕ) → (a ++ codes " " ++ b ++ codes " " ++ c) ++ r ≡ a ++ 32 ∷ (b ++ 32 ∷ (c ++ r))
three_words a b c r = simp append_assoc

two_and_two : (a b c d r : List ℕ) → ((a ++ codes " " ++ b) ++ (codes " " ++ c ++ codes " " ++ d)) ++ r ≡ a ++ 32 ∷ (b ++ 32 ∷ (c ++ 32 ∷ (d ++ r)))
two_and_two a b c d r = simp append_assoc

pub four_words : (a b c d r : List ℕ) → (a ++ codes " " ++ b ++ codes " " ++ c ++ codes " " ++ d) ++ r ≡ a ++ 32 ∷ (b ++ 32 ∷ (c ++ 32 ∷ (d ++ r)))
four_words a b c d r = simp append_assoc

-- ---- places, and what is made

place-cut : (t : List ℕ) → IfSome (place t) (λ p. IsPlace p.0.0 p.0.1 × (t ≡ 32 ∷ (decimal p.0.0 ++ 32 ∷ (encode_lower p.0.1 ++ p.1))))
place-cut t =
    step (number 65535 t) _ (λ n. IsShort n.0 × (t ≡ 32 ∷ (decimal n.0 ++ n.1))) _ (field-cut short-reads t)
    (λ dir d. step (name dir.1) _ (λ m. (IsName m.0 × AreBytes m.0) × (dir.1 ≡ 32 ∷ (encode_lower m.0 ++ m.1))) _ (field-cut name-reads dir.1)
    (λ m h. ((d.0, h.0), d.1 ∙ ap (λ (x : List ℕ). 32 ∷ (decimal dir.0 ++ x)) h.1)))

place-back : (dir : ℕ) (called r : List ℕ) → IsPlace dir called → IsTail r → place (32 ∷ (decimal dir ++ 32 ∷ (encode_lower called ++ r))) ≡ Some ((dir, called), r)
place-back dir called r fits tail =
    ap (λ (o : Option (ℕ × List ℕ)). o >>= λ d. name d.1 >>= λ m. Some ((d.0, m.0), m.1)) (field-back short-reads dir (32 ∷ (encode_lower called ++ r)) fits.0 refl)
    ∙ ap (λ (o : Option (List ℕ × List ℕ)). o >>= λ m. Some ((dir, m.0), m.1)) (field-back name-reads called r fits.1 tail)

pub made-cut : (t : List ℕ) → IfSome (made t) (λ m. IsShort m.0.1 × (t ≡ 32 ∷ (kind_text m.0.0 ++ 32 ∷ (octal m.0.1 ++ m.1))))
made-cut t =
    step (kind t) _ (λ k. Unit {0} × (t ≡ 32 ∷ (kind_text k.0 ++ k.1))) _ (field-cut kind-reads t)
    (λ k d. step (mode_bits k.1) _ (λ m. IsShort m.0 × (k.1 ≡ 32 ∷ (octal m.0 ++ m.1))) _ (field-cut mode_bits-reads k.1)
    (λ m h. (h.0, d.1 ∙ ap (λ (x : List ℕ). 32 ∷ (kind_text k.0 ++ x)) h.1)))

pub made-back : (k : Kind) (mode : ℕ) (r : List ℕ) → IsShort mode → IsTail r → made (32 ∷ (kind_text k ++ 32 ∷ (octal mode ++ r))) ≡ Some ((k, mode), r)
made-back k mode r fits tail =
    ap (λ (o : Option (Kind × List ℕ)). o >>= λ d. mode_bits d.1 >>= λ m. Some ((d.0, m.0), m.1)) (field-back kind-reads k (32 ∷ (octal mode ++ r)) tt refl)
    ∙ ap (λ (o : Option (ℕ × List ℕ)). o >>= λ m. Some ((k, m.0), m.1)) (field-back mode_bits-reads mode r fits tail)

-- ---- what is read is spelled so

abbrev NeedSaid : NeedName → List ℕ → Need × List ℕ → Type 0
NeedSaid n t r = NeedFits r.0 × (codes "promise " ++ (need_name_text n ++ t) ≡ need_text r.0 ++ r.1)

need_by-cut : (n : NeedName) (t : List ℕ) → IfSome (need_by n t) (NeedSaid n t)
need_by-cut need_names.Write t =
    step (number 65535 t) _ (λ n. IsShort n.0 × (t ≡ 32 ∷ (decimal n.0 ++ n.1))) (NeedSaid need_names.Write t) (field-cut short-reads t)
    (λ a d. step (number 4294967295 a.1) _ (λ n. IsLong n.0 × (a.1 ≡ 32 ∷ (decimal n.0 ++ n.1))) (NeedSaid need_names.Write t) (field-cut long-reads a.1)
    (λ b h. ((d.0, h.0), ap (λ (x : List ℕ). codes "promise write" ++ x) (d.1 ∙ ap (λ (x : List ℕ). 32 ∷ (decimal a.0 ++ x)) h.1 ∙ ap (λ (x : List ℕ). 32 ∷ x) (sym (two_words (decimal a.0) (decimal b.0) b.1))))))
need_by-cut need_names.Enter t =
    step (place t) _ (λ p. IsPlace p.0.0 p.0.1 × (t ≡ 32 ∷ (decimal p.0.0 ++ 32 ∷ (encode_lower p.0.1 ++ p.1)))) (NeedSaid need_names.Enter t) (place-cut t)
    (λ p h. (h.0, ap (λ (x : List ℕ). codes "promise enter" ++ x) (h.1 ∙ ap (λ (x : List ℕ). 32 ∷ x) (sym (two_words (decimal p.0.0) (encode_lower p.0.1) p.1)))))
need_by-cut need_names.Make t =
    step (place t) _ (λ p. IsPlace p.0.0 p.0.1 × (t ≡ 32 ∷ (decimal p.0.0 ++ 32 ∷ (encode_lower p.0.1 ++ p.1)))) (NeedSaid need_names.Make t) (place-cut t)
    (λ p h. (h.0, ap (λ (x : List ℕ). codes "promise make" ++ x) (h.1 ∙ ap (λ (x : List ℕ). 32 ∷ x) (sym (two_words (decimal p.0.0) (encode_lower p.0.1) p.1)))))

need-cut : (t : List ℕ) → IfSome (need_at t) (λ r. NeedFits r.0 × (codes "promise" ++ t ≡ need_text r.0 ++ r.1))
need-cut t =
    step (field need_name t) _ (λ n. Unit {0} × (t ≡ 32 ∷ (need_name_text n.0 ++ n.1))) (λ r. NeedFits r.0 × (codes "promise" ++ t ≡ need_text r.0 ++ r.1)) (field-cut need_name-reads t)
    (λ n h. weaker n.0 n.1 h.1 (need_by n.0 n.1) (need_by-cut n.0 n.1))
  where
    weaker : (n : NeedName) (rest : List ℕ) → t ≡ 32 ∷ (need_name_text n ++ rest) → (o : Option (Need × List ℕ)) → IfSome o (NeedSaid n rest) → IfSome o (λ r. NeedFits r.0 × (codes "promise" ++ t ≡ need_text r.0 ++ r.1))
    weaker n rest is None h = tt
    weaker n rest is (Some r) h = (h.0, ap (λ (x : List ℕ). codes "promise" ++ x) is ∙ h.1)

abbrev OpSaid : OpName → List ℕ → Op × List ℕ → Type 0
OpSaid n t r = OpFits r.0 × (op_name_text n ++ t ≡ op_text r.0 ++ r.1)

abbrev IsNumbered : List ℕ → ℕ × List ℕ → Type 0
IsNumbered t n = IsShort n.0 × (t ≡ 32 ∷ (decimal n.0 ++ n.1))

abbrev IsPlaced : List ℕ → (ℕ × List ℕ) × List ℕ → Type 0
IsPlaced t p = IsPlace p.0.0 p.0.1 × (t ≡ 32 ∷ (decimal p.0.0 ++ 32 ∷ (encode_lower p.0.1 ++ p.1)))

placed : (t : List ℕ) (p : (ℕ × List ℕ) × List ℕ) → IsPlaced t p → t ≡ 32 ∷ ((decimal p.0.0 ++ codes " " ++ encode_lower p.0.1) ++ p.1)
placed t p h = h.1 ∙ ap (λ (x : List ℕ). 32 ∷ x) (sym (two_words (decimal p.0.0) (encode_lower p.0.1) p.1))

op_by-cut : (n : OpName) (t : List ℕ) → IfSome (op_by n t) (OpSaid n t)
op_by-cut op_names.Drop t = step (number 65535 t) _ (IsNumbered t) (OpSaid op_names.Drop t) (field-cut short-reads t) (λ n h. (h.0, ap (λ (x : List ℕ). codes "drop" ++ x) h.1))
op_by-cut op_names.AddLink t = step (number 65535 t) _ (IsNumbered t) (OpSaid op_names.AddLink t) (field-cut short-reads t) (λ n h. (h.0, ap (λ (x : List ℕ). codes "addlink" ++ x) h.1))
op_by-cut op_names.SubLink t = step (number 65535 t) _ (IsNumbered t) (OpSaid op_names.SubLink t) (field-cut short-reads t) (λ n h. (h.0, ap (λ (x : List ℕ). codes "sublink" ++ x) h.1))
op_by-cut op_names.CloseFile t = step (number 65535 t) _ (IsNumbered t) (OpSaid op_names.CloseFile t) (field-cut short-reads t) (λ n h. (h.0, ap (λ (x : List ℕ). codes "close" ++ x) h.1))
op_by-cut op_names.DupFile t = step (number 65535 t) _ (IsNumbered t) (OpSaid op_names.DupFile t) (field-cut short-reads t) (λ n h. (h.0, ap (λ (x : List ℕ). codes "dup" ++ x) h.1))
op_by-cut op_names.Trunc t = step (number 65535 t) _ (IsNumbered t) (OpSaid op_names.Trunc t) (field-cut short-reads t) (λ n h. (h.0, ap (λ (x : List ℕ). codes "trunc" ++ x) h.1))
op_by-cut op_names.Stat t = step (number 65535 t) _ (IsNumbered t) (OpSaid op_names.Stat t) (field-cut short-reads t) (λ n h. (h.0, ap (λ (x : List ℕ). codes "stat" ++ x) h.1))
op_by-cut op_names.Look t = step (place t) _ (IsPlaced t) (OpSaid op_names.Look t) (place-cut t) (λ p h. (h.0, ap (λ (x : List ℕ). codes "look" ++ x) (placed t p h)))
op_by-cut op_names.Unlink t = step (place t) _ (IsPlaced t) (OpSaid op_names.Unlink t) (place-cut t) (λ p h. (h.0, ap (λ (x : List ℕ). codes "unlink" ++ x) (placed t p h)))
op_by-cut op_names.Rmdir t = step (place t) _ (IsPlaced t) (OpSaid op_names.Rmdir t) (place-cut t) (λ p h. (h.0, ap (λ (x : List ℕ). codes "rmdir" ++ x) (placed t p h)))
op_by-cut op_names.Create t =
    step (place t) _ (IsPlaced t) (OpSaid op_names.Create t) (place-cut t)
    (λ p d. step (made p.1) _ (λ m. IsShort m.0.1 × (p.1 ≡ 32 ∷ (kind_text m.0.0 ++ 32 ∷ (octal m.0.1 ++ m.1)))) (OpSaid op_names.Create t) (made-cut p.1)
    (λ m h. ((d.0, h.0), ap (λ (x : List ℕ). codes "create" ++ x) (d.1 ∙ ap (λ (x : List ℕ). 32 ∷ (decimal p.0.0 ++ 32 ∷ (encode_lower p.0.1 ++ x))) h.1 ∙ ap (λ (x : List ℕ). 32 ∷ x) (sym (two_and_two (decimal p.0.0) (encode_lower p.0.1) (kind_text m.0.0) (octal m.0.1) m.1))))))
op_by-cut op_names.Enter t =
    step (place t) _ (IsPlaced t) (OpSaid op_names.Enter t) (place-cut t)
    (λ p d. step (number 65535 p.1) _ (IsNumbered p.1) (OpSaid op_names.Enter t) (field-cut short-reads p.1)
    (λ n h. ((d.0, h.0), ap (λ (x : List ℕ). codes "enter" ++ x) (d.1 ∙ ap (λ (x : List ℕ). 32 ∷ (decimal p.0.0 ++ 32 ∷ (encode_lower p.0.1 ++ x))) h.1 ∙ ap (λ (x : List ℕ). 32 ∷ x) (sym (three_words (decimal p.0.0) (encode_lower p.0.1) (decimal n.0) n.1))))))
op_by-cut op_names.OpenFile t =
    step (number 65535 t) _ (IsNumbered t) (OpSaid op_names.OpenFile t) (field-cut short-reads t)
    (λ n d. step (open_mode n.1) _ (λ m. Unit {0} × (n.1 ≡ 32 ∷ (mode_text m.0 ++ m.1))) (OpSaid op_names.OpenFile t) (field-cut mode-reads n.1)
    (λ m h. (d.0, ap (λ (x : List ℕ). codes "open" ++ x) (d.1 ∙ ap (λ (x : List ℕ). 32 ∷ (decimal n.0 ++ x)) h.1 ∙ ap (λ (x : List ℕ). 32 ∷ x) (sym (two_words (decimal n.0) (mode_text m.0) m.1))))))
op_by-cut op_names.Read t =
    step (number 65535 t) _ (IsNumbered t) (OpSaid op_names.Read t) (field-cut short-reads t)
    (λ n d. step (number 4294967295 n.1) _ (λ m. IsLong m.0 × (n.1 ≡ 32 ∷ (decimal m.0 ++ m.1))) (OpSaid op_names.Read t) (field-cut long-reads n.1)
    (λ m h. ((d.0, h.0), ap (λ (x : List ℕ). codes "read" ++ x) (d.1 ∙ ap (λ (x : List ℕ). 32 ∷ (decimal n.0 ++ x)) h.1 ∙ ap (λ (x : List ℕ). 32 ∷ x) (sym (two_words (decimal n.0) (decimal m.0) m.1))))))
op_by-cut op_names.Write t =
    step (number 65535 t) _ (IsNumbered t) (OpSaid op_names.Write t) (field-cut short-reads t)
    (λ n d. step (bytes n.1) _ (λ m. AreBytes m.0 × (n.1 ≡ 32 ∷ (bytes_text m.0 ++ m.1))) (OpSaid op_names.Write t) (field-cut bytes-reads n.1)
    (λ m h. ((d.0, h.0), ap (λ (x : List ℕ). codes "write" ++ x) (d.1 ∙ ap (λ (x : List ℕ). 32 ∷ (decimal n.0 ++ x)) h.1 ∙ ap (λ (x : List ℕ). 32 ∷ x) (sym (two_words (decimal n.0) (bytes_text m.0) m.1))))))
op_by-cut op_names.Seek t =
    step (number 65535 t) _ (IsNumbered t) (OpSaid op_names.Seek t) (field-cut short-reads t)
    (λ n d. step (offset n.1) _ (λ z. FitsSigned w64 z.0 × (n.1 ≡ 32 ∷ (signed_decimal z.0 ++ z.1))) (OpSaid op_names.Seek t) (field-cut offset-reads n.1)
    (λ z h. step (number 255 z.1) _ (λ w. IsByte w.0 × (z.1 ≡ 32 ∷ (decimal w.0 ++ w.1))) (OpSaid op_names.Seek t) (field-cut byte-reads z.1)
    (λ w k. (
      (d.0, h.0, k.0),
      ap (λ (x : List ℕ). codes "seek" ++ x) (d.1 ∙ ap (λ (x : List ℕ). 32 ∷ (decimal n.0 ++ x)) h.1 ∙ ap (λ (x : List ℕ). 32 ∷ (decimal n.0 ++ 32 ∷ (signed_decimal z.0 ++ x))) k.1
          ∙ ap (λ (x : List ℕ). 32 ∷ x) (sym (three_words (decimal n.0) (signed_decimal z.0) (decimal w.0) w.1))),
    ))))
op_by-cut op_names.Promise t = step (need_at t) _ (λ r. NeedFits r.0 × (codes "promise" ++ t ≡ need_text r.0 ++ r.1)) (OpSaid op_names.Promise t) (need-cut t) (λ r h. h)
op_by-cut op_names.Forgo t = (tt, refl)
op_by-cut op_names.Sync t = (tt, refl)
op_by-cut op_names.Purge t = (tt, refl)

pub op-cut : (t : List ℕ) → IfSome (op_at t) (λ r. OpFits r.0 × (t ≡ 32 ∷ (op_text r.0 ++ r.1)))
op-cut t =
    step (field op_name t) _ (λ n. Unit {0} × (t ≡ 32 ∷ (op_name_text n.0 ++ n.1))) (λ r. OpFits r.0 × (t ≡ 32 ∷ (op_text r.0 ++ r.1))) (field-cut op_name-reads t)
    (λ n h. weaker n.0 n.1 h.1 (op_by n.0 n.1) (op_by-cut n.0 n.1))
  where
    weaker : (n : OpName) (rest : List ℕ) → t ≡ 32 ∷ (op_name_text n ++ rest) → (o : Option (Op × List ℕ)) → IfSome o (OpSaid n rest) → IfSome o (λ r. OpFits r.0 × (t ≡ 32 ∷ (op_text r.0 ++ r.1)))
    weaker n rest is None h = tt
    weaker n rest is (Some r) h = (h.0, is ∙ ap (λ (x : List ℕ). 32 ∷ x) h.1)

-- ---- what is spelled is read

named : (n : OpName) (t : List ℕ) → IsTail t → op_at (32 ∷ (op_name_text n ++ t)) ≡ op_by n t
named n t tail = ap (λ (o : Option (OpName × List ℕ)). o >>= λ r. op_by r.0 r.1) (field-back op_name-reads n t tt tail)

need_named : (n : NeedName) (t : List ℕ) → IsTail t → need_at (32 ∷ (need_name_text n ++ t)) ≡ need_by n t
need_named n t tail = ap (λ (o : Option (NeedName × List ℕ)). o >>= λ r. need_by r.0 r.1) (field-back need_name-reads n t tt tail)

pub need-back : (need : Need) (r : List ℕ) → NeedFits need → IsTail r → op_at (32 ∷ (need_text need ++ r)) ≡ Some (ops.Promise need, r)
need-back (needs.Write file count) r fits tail =
    ap op_at (ap (λ (x : List ℕ). codes " promise write " ++ x) (two_words (decimal file) (decimal count) r))
    ∙ named op_names.Promise (codes " write " ++ (decimal file ++ 32 ∷ (decimal count ++ r))) refl
    ∙ ap (λ (o : Option (Need × List ℕ)). o >>= λ n. Some (ops.Promise n.0, n.1)) (
    need_named need_names.Write (32 ∷ (decimal file ++ 32 ∷ (decimal count ++ r))) refl
    ∙ ap (λ (o : Option (ℕ × List ℕ)). o >>= λ a. number 4294967295 a.1 >>= λ b. Some (needs.Write a.0 b.0, b.1)) (field-back short-reads file (32 ∷ (decimal count ++ r)) fits.0 refl)
    ∙ ap (λ (o : Option (ℕ × List ℕ)). o >>= λ b. Some (needs.Write file b.0, b.1)) (field-back long-reads count r fits.1 tail)
    )
need-back (needs.Enter dir called) r fits tail =
    ap op_at (ap (λ (x : List ℕ). codes " promise enter " ++ x) (two_words (decimal dir) (encode_lower called) r))
    ∙ named op_names.Promise (codes " enter " ++ (decimal dir ++ 32 ∷ (encode_lower called ++ r))) refl
    ∙ ap (λ (o : Option (Need × List ℕ)). o >>= λ n. Some (ops.Promise n.0, n.1)) (
    need_named need_names.Enter (32 ∷ (decimal dir ++ 32 ∷ (encode_lower called ++ r))) refl
    ∙ ap (λ (o : Option ((ℕ × List ℕ) × List ℕ)). o >>= λ p. Some (needs.Enter p.0.0 p.0.1, p.1)) (place-back dir called r fits tail)
    )
need-back (needs.Make dir called) r fits tail =
    ap op_at (ap (λ (x : List ℕ). codes " promise make " ++ x) (two_words (decimal dir) (encode_lower called) r))
    ∙ named op_names.Promise (codes " make " ++ (decimal dir ++ 32 ∷ (encode_lower called ++ r))) refl
    ∙ ap (λ (o : Option (Need × List ℕ)). o >>= λ n. Some (ops.Promise n.0, n.1)) (
    need_named need_names.Make (32 ∷ (decimal dir ++ 32 ∷ (encode_lower called ++ r))) refl
    ∙ ap (λ (o : Option ((ℕ × List ℕ) × List ℕ)). o >>= λ p. Some (needs.Make p.0.0 p.0.1, p.1)) (place-back dir called r fits tail)
    )

pub op-back : (op : Op) (r : List ℕ) → OpFits op → IsTail r → op_at (32 ∷ (op_text op ++ r)) ≡ Some (op, r)
op-back (ops.Drop n) r fits tail = named op_names.Drop (32 ∷ (decimal n ++ r)) refl ∙ ap (λ (o : Option (ℕ × List ℕ)). o >>= λ a. Some (ops.Drop a.0, a.1)) (field-back short-reads n r fits tail)
op-back (ops.AddLink n) r fits tail = named op_names.AddLink (32 ∷ (decimal n ++ r)) refl ∙ ap (λ (o : Option (ℕ × List ℕ)). o >>= λ a. Some (ops.AddLink a.0, a.1)) (field-back short-reads n r fits tail)
op-back (ops.SubLink n) r fits tail = named op_names.SubLink (32 ∷ (decimal n ++ r)) refl ∙ ap (λ (o : Option (ℕ × List ℕ)). o >>= λ a. Some (ops.SubLink a.0, a.1)) (field-back short-reads n r fits tail)
op-back (ops.CloseFile n) r fits tail = named op_names.CloseFile (32 ∷ (decimal n ++ r)) refl ∙ ap (λ (o : Option (ℕ × List ℕ)). o >>= λ a. Some (ops.CloseFile a.0, a.1)) (field-back short-reads n r fits tail)
op-back (ops.DupFile n) r fits tail = named op_names.DupFile (32 ∷ (decimal n ++ r)) refl ∙ ap (λ (o : Option (ℕ × List ℕ)). o >>= λ a. Some (ops.DupFile a.0, a.1)) (field-back short-reads n r fits tail)
op-back (ops.Trunc n) r fits tail = named op_names.Trunc (32 ∷ (decimal n ++ r)) refl ∙ ap (λ (o : Option (ℕ × List ℕ)). o >>= λ a. Some (ops.Trunc a.0, a.1)) (field-back short-reads n r fits tail)
op-back (ops.Stat n) r fits tail = named op_names.Stat (32 ∷ (decimal n ++ r)) refl ∙ ap (λ (o : Option (ℕ × List ℕ)). o >>= λ a. Some (ops.Stat a.0, a.1)) (field-back short-reads n r fits tail)
op-back (ops.Look dir called) r fits tail =
    ap op_at (ap (λ (x : List ℕ). codes " look " ++ x) (two_words (decimal dir) (encode_lower called) r))
    ∙ named op_names.Look (32 ∷ (decimal dir ++ 32 ∷ (encode_lower called ++ r))) refl
    ∙ ap (λ (o : Option ((ℕ × List ℕ) × List ℕ)). o >>= λ p. Some (ops.Look p.0.0 p.0.1, p.1)) (place-back dir called r fits tail)
op-back (ops.Unlink dir called) r fits tail =
    ap op_at (ap (λ (x : List ℕ). codes " unlink " ++ x) (two_words (decimal dir) (encode_lower called) r))
    ∙ named op_names.Unlink (32 ∷ (decimal dir ++ 32 ∷ (encode_lower called ++ r))) refl
    ∙ ap (λ (o : Option ((ℕ × List ℕ) × List ℕ)). o >>= λ p. Some (ops.Unlink p.0.0 p.0.1, p.1)) (place-back dir called r fits tail)
op-back (ops.Rmdir dir called) r fits tail =
    ap op_at (ap (λ (x : List ℕ). codes " rmdir " ++ x) (two_words (decimal dir) (encode_lower called) r))
    ∙ named op_names.Rmdir (32 ∷ (decimal dir ++ 32 ∷ (encode_lower called ++ r))) refl
    ∙ ap (λ (o : Option ((ℕ × List ℕ) × List ℕ)). o >>= λ p. Some (ops.Rmdir p.0.0 p.0.1, p.1)) (place-back dir called r fits tail)
op-back (ops.Create dir called k bits) r fits tail =
    ap op_at (ap (λ (x : List ℕ). codes " create " ++ x) (two_and_two (decimal dir) (encode_lower called) (kind_text k) (octal bits) r))
    ∙ named op_names.Create (32 ∷ (decimal dir ++ 32 ∷ (encode_lower called ++ 32 ∷ (kind_text k ++ 32 ∷ (octal bits ++ r))))) refl
    ∙ ap (λ (o : Option ((ℕ × List ℕ) × List ℕ)). o >>= λ p. made p.1 >>= λ m. Some (ops.Create p.0.0 p.0.1 m.0.0 m.0.1, m.1)) (place-back dir called (32 ∷ (kind_text k ++ 32 ∷ (octal bits ++ r))) fits.0 refl)
    ∙ ap (λ (o : Option ((Kind × ℕ) × List ℕ)). o >>= λ m. Some (ops.Create dir called m.0.0 m.0.1, m.1)) (made-back k bits r fits.1 tail)
op-back (ops.Enter dir called ino) r fits tail =
    ap op_at (ap (λ (x : List ℕ). codes " enter " ++ x) (three_words (decimal dir) (encode_lower called) (decimal ino) r))
    ∙ named op_names.Enter (32 ∷ (decimal dir ++ 32 ∷ (encode_lower called ++ 32 ∷ (decimal ino ++ r)))) refl
    ∙ ap (λ (o : Option ((ℕ × List ℕ) × List ℕ)). o >>= λ p. number 65535 p.1 >>= λ n. Some (ops.Enter p.0.0 p.0.1 n.0, n.1)) (place-back dir called (32 ∷ (decimal ino ++ r)) fits.0 refl)
    ∙ ap (λ (o : Option (ℕ × List ℕ)). o >>= λ n. Some (ops.Enter dir called n.0, n.1)) (field-back short-reads ino r fits.1 tail)
op-back (ops.OpenFile ino mode) r fits tail =
    ap op_at (ap (λ (x : List ℕ). codes " open " ++ x) (two_words (decimal ino) (mode_text mode) r))
    ∙ named op_names.OpenFile (32 ∷ (decimal ino ++ 32 ∷ (mode_text mode ++ r))) refl
    ∙ ap (λ (o : Option (ℕ × List ℕ)). o >>= λ a. open_mode a.1 >>= λ b. Some (ops.OpenFile a.0 b.0, b.1)) (field-back short-reads ino (32 ∷ (mode_text mode ++ r)) fits refl)
    ∙ ap (λ (o : Option (Mode × List ℕ)). o >>= λ b. Some (ops.OpenFile ino b.0, b.1)) (field-back mode-reads mode r tt tail)
op-back (ops.Read file count) r fits tail =
    ap op_at (ap (λ (x : List ℕ). codes " read " ++ x) (two_words (decimal file) (decimal count) r))
    ∙ named op_names.Read (32 ∷ (decimal file ++ 32 ∷ (decimal count ++ r))) refl
    ∙ ap (λ (o : Option (ℕ × List ℕ)). o >>= λ a. number 4294967295 a.1 >>= λ b. Some (ops.Read a.0 b.0, b.1)) (field-back short-reads file (32 ∷ (decimal count ++ r)) fits.0 refl)
    ∙ ap (λ (o : Option (ℕ × List ℕ)). o >>= λ b. Some (ops.Read file b.0, b.1)) (field-back long-reads count r fits.1 tail)
op-back (ops.Write file written) r fits tail =
    ap op_at (ap (λ (x : List ℕ). codes " write " ++ x) (two_words (decimal file) (bytes_text written) r))
    ∙ named op_names.Write (32 ∷ (decimal file ++ 32 ∷ (bytes_text written ++ r))) refl
    ∙ ap (λ (o : Option (ℕ × List ℕ)). o >>= λ a. bytes a.1 >>= λ b. Some (ops.Write a.0 b.0, b.1)) (field-back short-reads file (32 ∷ (bytes_text written ++ r)) fits.0 refl)
    ∙ ap (λ (o : Option (List ℕ × List ℕ)). o >>= λ b. Some (ops.Write file b.0, b.1)) (field-back bytes-reads written r fits.1 tail)
op-back (ops.Seek file to whence) r fits tail =
    ap op_at (ap (λ (x : List ℕ). codes " seek " ++ x) (three_words (decimal file) (signed_decimal to) (decimal whence) r))
    ∙ named op_names.Seek (32 ∷ (decimal file ++ 32 ∷ (signed_decimal to ++ 32 ∷ (decimal whence ++ r)))) refl
    ∙ ap (λ (o : Option (ℕ × List ℕ)). o >>= λ a. offset a.1 >>= λ z. number 255 z.1 >>= λ w. Some (ops.Seek a.0 z.0 w.0, w.1)) (field-back short-reads file (32 ∷ (signed_decimal to ++ 32 ∷ (decimal whence ++ r))) fits.0 refl)
    ∙ ap (λ (o : Option (ℤ × List ℕ)). o >>= λ z. number 255 z.1 >>= λ w. Some (ops.Seek file z.0 w.0, w.1)) (field-back offset-reads to (32 ∷ (decimal whence ++ r)) fits.1 refl)
    ∙ ap (λ (o : Option (ℕ × List ℕ)). o >>= λ w. Some (ops.Seek file to w.0, w.1)) (field-back byte-reads whence r fits.2 tail)
op-back (ops.Promise need) r fits tail = need-back need r fits tail
op-back ops.Forgo r fits tail = named op_names.Forgo r tail
op-back ops.Sync r fits tail = named op_names.Sync r tail
op-back ops.Purge r fits tail = named op_names.Purge r tail
