-- What a line is read as, and how it is spelled.
use Rattle.std.proofs.Common.{◌≡◌, ◌≤◌, ◌<◌, ◌^◌, ◌==◌, ◌&&◌, ◌++◌, ◌∙◌, not, ℕ, List, ◌∷◌, codes, Bool, true, false, cond, nat_le, nat_eq, Option, Some, None, IfSome, sym, ap, refl, arith, append_assoc}
use Rattle.std.specs.Cmp.Lexicographic.{pointwise}
use Rattle.std.specs.Fmt.{decimal}
use Rattle.std.proofs.lemmas.Bool.{and_parts, false≢true, le-leb, leb-true}
use Rattle.sv_plain.specs.declared.history.entry.Entry.{Entry}
use Rattle.sv_plain.specs.declared.history.op.Op.{Op}
use Rattle.sv_plain.specs.declared.history.op.Op.TheVariants as ops
use Rattle.sv_plain.specs.declared.history.reply.Reply.{Reply}
use Rattle.sv_journal.specs.Allowed.{AreSizes, IsJournalEntry, is_purge, is_reply_of}
use Rattle.sv_journal.specs.Cut.{first_word, next_line, this_word}
use Rattle.sv_journal.specs.Fields.{first_number, number}
use Rattle.sv_journal.specs.Fits.{Fits, OpFits, ReplyFits}
use Rattle.sv_journal.specs.Grammar.{entry, head, is_allowed, is_asked_by, op_at, reply_at, said, sizes}
use Rattle.sv_journal.specs.Outcome.{◌>>=◌}
use Rattle.sv_journal.specs.Reading.{HasNoEntry, HasNoHead}
use Rattle.sv_journal.specs.Spelling.{entry_line, head_line, op_text, reply_text}
use Rattle.sv_journal.specs.Word.{number_of}
use Rattle.sv_plain.proofs.DigitValues.{and_true}
use Rattle.sv_journal.proofs.OpReads.{op-back, op-cut}
use Rattle.sv_journal.proofs.ReplyReads.{reply-back, reply-cut}
use Rattle.sv_journal.proofs.WordCuts.{IsTail, field-back, field-cut, first_word-back, first_word-cut, literal_word, next_byte-cut, same_text, step, this_word-back, this_word-cut}
use Rattle.sv_journal.proofs.WordReads.{number-reads}

-- ---- entries

entry_words : (p o r more : List ℕ) → (p ++ codes " " ++ o ++ codes " = " ++ r ++ codes "\n") ++ more ≡ p ++ 32 ∷ (o ++ 32 ∷ (codes "=" ++ 32 ∷ (r ++ 10 ∷ more)))
entry_words p o r more = simp append_assoc

first_number-cut : (most : ℕ) (t : List ℕ) → most < 2 ^ 64 → IfSome (first_number most t) (λ n. (n.0 ≤ most) × (t ≡ decimal n.0 ++ n.1))
first_number-cut most t small =
    step (number_of 10 most (first_word t).0) _ (λ n. (n ≤ most) × ((first_word t).0 ≡ decimal n)) (λ n. (n.0 ≤ most) × (t ≡ decimal n.0 ++ n.1)) ((number-reads most small).sound (first_word t).0)
    (λ n h. (h.0, first_word-cut t ∙ ap (λ (w : List ℕ). w ++ (first_word t).1) h.1))

first_number-back : (most n : ℕ) (r : List ℕ) → most < 2 ^ 64 → n ≤ most → IsTail r → first_number most (decimal n ++ r) ≡ Some (n, r)
first_number-back most n r small fits tail =
    ap (λ (p : List ℕ × List ℕ). number_of 10 most p.0 >>= λ m. Some (m, p.1)) (first_word-back (decimal n) r ((number-reads most small).word n fits) tail)
    ∙ ap (λ (o : Option ℕ). o >>= λ m. Some (m, r)) ((number-reads most small).back n fits)

-- an entry that fits, and its line
pub record IsSaid (t : List ℕ) (r : Entry × List ℕ) : Type 0 where
  pub fits : Fits r.0
  pub spelled : t ≡ entry_line r.0 ++ r.1

said-cut : (t : List ℕ) → IfSome (said t) (IsSaid t)
said-cut t =
    step (first_number 255 t) _ (λ n. (n.0 ≤ 255) × (t ≡ decimal n.0 ++ n.1)) (IsSaid t) (first_number-cut 255 t (omega arith))
    (λ p a. step (op_at p.1) _ (λ r. OpFits r.0 × (p.1 ≡ 32 ∷ (op_text r.0 ++ r.1))) (IsSaid t) (op-cut p.1)
    (λ o b. step (this_word (codes "=") o.1) _ (λ r. o.1 ≡ 32 ∷ (codes "=" ++ r.1)) (IsSaid t) (this_word-cut (codes "=") o.1)
    (λ e c. step (reply_at e.1) _ (λ r. ReplyFits r.0 × (e.1 ≡ 32 ∷ (reply_text r.0 ++ r.1))) (IsSaid t) (reply-cut e.1)
    (λ r d. step (next_line r.1) _ (λ n. r.1 ≡ 10 ∷ n.1) (IsSaid t) (next_byte-cut 10 r.1)
    (λ n f. record {
      fits = record { process = omega (arith, a.0); op = b.0; reply = d.0 };
      spelled =
          a.1 ∙ ap (λ (x : List ℕ). decimal p.0 ++ x) (b.1 ∙ ap (λ (x : List ℕ). 32 ∷ (op_text o.0 ++ x)) (c ∙ ap (λ (x : List ℕ). 32 ∷ (codes "=" ++ x)) (d.1 ∙ ap (λ (x : List ℕ). 32 ∷ (reply_text r.0 ++ x)) f)))
          ∙ sym (entry_words (decimal p.0) (op_text o.0) (reply_text r.0) n.1);
    })))))

said-back : (e : Entry) (more : List ℕ) → Fits e → said (entry_line e ++ more) ≡ Some (e, more)
said-back e more fits =
    ap said (entry_words (decimal e.process) (op_text e.op) (reply_text e.reply) more)
    ∙ ap (λ (m : Option (ℕ × List ℕ)). m >>= λ p. op_at p.1 >>= λ o. this_word (codes "=") o.1 >>= λ q. reply_at q.1 >>= λ r. next_line r.1 >>= λ n. Some (record { process = p.0; op = o.0; reply = r.0 }, n.1))
    (first_number-back 255 e.process (32 ∷ (op_text e.op ++ 32 ∷ (codes "=" ++ 32 ∷ (reply_text e.reply ++ 10 ∷ more)))) (omega arith) (omega (arith, fits.process)) refl)
    ∙ ap (λ (m : Option (Op × List ℕ)). m >>= λ o. this_word (codes "=") o.1 >>= λ q. reply_at q.1 >>= λ r. next_line r.1 >>= λ n. Some (record { process = e.process; op = o.0; reply = r.0 }, n.1))
    (op-back e.op (32 ∷ (codes "=" ++ 32 ∷ (reply_text e.reply ++ 10 ∷ more))) fits.op refl)
    ∙ ap (λ (m : Option (Unit {0} × List ℕ)). m >>= λ q. reply_at q.1 >>= λ r. next_line r.1 >>= λ n. Some (record { process = e.process; op = e.op; reply = r.0 }, n.1))
    (this_word-back (codes "=") (32 ∷ (reply_text e.reply ++ 10 ∷ more)) (literal_word (codes "=") refl) refl)
    ∙ ap (λ (m : Option (Reply × List ℕ)). m >>= λ r. next_line r.1 >>= λ n. Some (record { process = e.process; op = e.op; reply = r.0 }, n.1))
    (reply-back e.reply (10 ∷ more) fits.reply refl)

not_true : (b : Bool) → not b ≡ true → b ≡ false
not_true true h = absurd (false≢true h)
not_true false h = refl

asked : (op : Op) (process : ℕ) → is_asked_by op process ≡ true → is_purge op ≡ (process == 0)
asked (ops.Look a b) process h = sym (not_true (process == 0) h)
asked (ops.Drop a) process h = sym (not_true (process == 0) h)
asked (ops.Create a b c d) process h = sym (not_true (process == 0) h)
asked (ops.AddLink a) process h = sym (not_true (process == 0) h)
asked (ops.Enter a b c) process h = sym (not_true (process == 0) h)
asked (ops.SubLink a) process h = sym (not_true (process == 0) h)
asked (ops.Unlink a b) process h = sym (not_true (process == 0) h)
asked (ops.Rmdir a b) process h = sym (not_true (process == 0) h)
asked (ops.OpenFile a b) process h = sym (not_true (process == 0) h)
asked (ops.CloseFile a) process h = sym (not_true (process == 0) h)
asked (ops.DupFile a) process h = sym (not_true (process == 0) h)
asked (ops.Read a b) process h = sym (not_true (process == 0) h)
asked (ops.Write a b) process h = sym (not_true (process == 0) h)
asked (ops.Seek a b c) process h = sym (not_true (process == 0) h)
asked (ops.Trunc a) process h = sym (not_true (process == 0) h)
asked (ops.Stat a) process h = sym (not_true (process == 0) h)
asked (ops.Promise a) process h = sym (not_true (process == 0) h)
asked ops.Forgo process h = sym (not_true (process == 0) h)
asked ops.Sync process h = sym (not_true (process == 0) h)
asked ops.Purge process h = sym h

asked_back : (op : Op) (process : ℕ) → is_purge op ≡ (process == 0) → is_asked_by op process ≡ true
asked_back (ops.Look a b) process h = ap not (sym h)
asked_back (ops.Drop a) process h = ap not (sym h)
asked_back (ops.Create a b c d) process h = ap not (sym h)
asked_back (ops.AddLink a) process h = ap not (sym h)
asked_back (ops.Enter a b c) process h = ap not (sym h)
asked_back (ops.SubLink a) process h = ap not (sym h)
asked_back (ops.Unlink a b) process h = ap not (sym h)
asked_back (ops.Rmdir a b) process h = ap not (sym h)
asked_back (ops.OpenFile a b) process h = ap not (sym h)
asked_back (ops.CloseFile a) process h = ap not (sym h)
asked_back (ops.DupFile a) process h = ap not (sym h)
asked_back (ops.Read a b) process h = ap not (sym h)
asked_back (ops.Write a b) process h = ap not (sym h)
asked_back (ops.Seek a b c) process h = ap not (sym h)
asked_back (ops.Trunc a) process h = ap not (sym h)
asked_back (ops.Stat a) process h = ap not (sym h)
asked_back (ops.Promise a) process h = ap not (sym h)
asked_back ops.Forgo process h = ap not (sym h)
asked_back ops.Sync process h = ap not (sym h)
asked_back ops.Purge process h = sym h

allowed : (processes : ℕ) (e : Entry) → is_allowed processes e ≡ true → IsJournalEntry processes e
allowed processes e h =
    let parts = and_parts (nat_le e.process processes && is_asked_by e.op e.process) (is_reply_of e.op e.reply) h in
    let who = and_parts (nat_le e.process processes) (is_asked_by e.op e.process) parts.0 in
    record { process = leb-true e.process processes who.0; system = asked e.op e.process who.1; reply = parts.1 }

allowed_back : (processes : ℕ) (e : Entry) → IsJournalEntry processes e → is_allowed processes e ≡ true
allowed_back processes e h =
    and_true (nat_le e.process processes && is_asked_by e.op e.process) (is_reply_of e.op e.reply)
    (and_true (nat_le e.process processes) (is_asked_by e.op e.process) (le-leb e.process processes h.process) (asked_back e.op e.process h.system)) h.reply

-- an entry that may stand in a journal, and its line
pub record IsEntrySaid (processes : ℕ) (t : List ℕ) (r : Entry × List ℕ) : Type 0 where
  pub said : IsSaid t r
  pub may : IsJournalEntry processes r.0

pub entry-cut : (processes : ℕ) (t : List ℕ) → IfSome (entry processes t) (IsEntrySaid processes t)
entry-cut processes t = step (said t) _ (IsSaid t) (IsEntrySaid processes t) (said-cut t) (λ r is. by r is (is_allowed processes r.0) refl)
  where
    by : (r : Entry × List ℕ) → IsSaid t r → (b : Bool) → is_allowed processes r.0 ≡ b → IfSome (cond b (Some r) None) (IsEntrySaid processes t)
    by r is true h = record { said = is; may = allowed processes r.0 h }
    by r is false h = tt

pub entry-back : (processes : ℕ) (e : Entry) (more : List ℕ) → Fits e → IsJournalEntry processes e → entry processes (entry_line e ++ more) ≡ Some (e, more)
entry-back processes e more fits may =
    ap (λ (m : Option (Entry × List ℕ)). m >>= λ r. cond (is_allowed processes r.0) (Some r) None) (said-back e more fits)
    ∙ ap (λ (b : Bool). cond b (Some (e, more)) None) (allowed_back processes e may)

some_is_none : {A : Type 0} (x : A) (o : Option A) → o ≡ Some x → o ≡ None → ⊥
some_is_none x o some none = cc (sym some ∙ none)

pub no_entry : (processes : ℕ) (t : List ℕ) → entry processes t ≡ None → HasNoEntry processes t
no_entry processes t none e rest fits may is = some_is_none (e, rest) (entry processes t) (ap (entry processes) is ∙ entry-back processes e rest fits may) none

-- ---- the first line

head_words : (p t more : List ℕ) → (codes "svj 1 " ++ p ++ codes " " ++ t ++ codes "\n") ++ more ≡ codes "svj" ++ 32 ∷ (codes "1" ++ 32 ∷ (p ++ 32 ∷ (t ++ 10 ∷ more)))
head_words p t more = simp append_assoc

pub record IsHead (text : List ℕ) (r : (ℕ × ℕ) × List ℕ) : Type 0 where
  pub sizes : AreSizes r.0.0 r.0.1
  pub spelled : text ≡ head_line r.0.0 r.0.1 ++ r.1

abbrev IsSized : List ℕ → (ℕ × ℕ) × List ℕ → Type 0
IsSized t r = AreSizes r.0.0 r.0.1 × (t ≡ 32 ∷ (decimal r.0.0 ++ 32 ∷ (decimal r.0.1 ++ 10 ∷ r.1)))

sizes-cut : (t : List ℕ) → IfSome (sizes t) (IsSized t)
sizes-cut t =
    step (number 16 t) _ (λ n. (n.0 ≤ 16) × (t ≡ 32 ∷ (decimal n.0 ++ n.1))) (IsSized t) (field-cut (number-reads 16 (omega arith)) t)
    (λ p a. step (number 400 p.1) _ (λ n. (n.0 ≤ 400) × (p.1 ≡ 32 ∷ (decimal n.0 ++ n.1))) (IsSized t) (field-cut (number-reads 400 (omega arith)) p.1)
    (λ s b. step (next_line s.1) _ (λ n. s.1 ≡ 10 ∷ n.1) (IsSized t) (next_byte-cut 10 s.1)
    (λ n c. by p.0 s.0 n.1 a.0 b.0 (a.1 ∙ ap (λ (x : List ℕ). 32 ∷ (decimal p.0 ++ x)) (b.1 ∙ ap (λ (x : List ℕ). 32 ∷ (decimal s.0 ++ x)) c)) (nat_le 1 p.0 && nat_le 2 s.0) refl)))
  where
    by : (p s : ℕ) (rest : List ℕ) → p ≤ 16 → s ≤ 400 → t ≡ 32 ∷ (decimal p ++ 32 ∷ (decimal s ++ 10 ∷ rest)) → (b : Bool) → (nat_le 1 p && nat_le 2 s) ≡ b → IfSome (cond b (Some ((p, s), rest)) None) (IsSized t)
    by p s rest few most is true h = let parts = and_parts (nat_le 1 p) (nat_le 2 s) h in (record { some = leb-true 1 p parts.0; few = few; least = leb-true 2 s parts.1; most = most }, is)
    by p s rest few most is false h = tt

pub head-cut : (t : List ℕ) → IfSome (head t) (IsHead t)
head-cut t = by (pointwise nat_eq (first_word t).0 (codes "svj")) refl
  where
    by : (b : Bool) → pointwise nat_eq (first_word t).0 (codes "svj") ≡ b → IfSome (cond b (this_word (codes "1") (first_word t).1 >>= λ form. sizes form.1) None) (IsHead t)
    by true h =
        step (this_word (codes "1") (first_word t).1) (λ form. sizes form.1) (λ r. (first_word t).1 ≡ 32 ∷ (codes "1" ++ r.1)) (IsHead t) (this_word-cut (codes "1") (first_word t).1)
        (λ form a. weaker form.1 (first_word-cut t ∙ ap (λ (x : List ℕ). x ++ (first_word t).1) (same_text (first_word t).0 (codes "svj") h) ∙ ap (λ (x : List ℕ). codes "svj" ++ x) a) (sizes form.1) (sizes-cut form.1))
      where
        weaker : (left : List ℕ) → t ≡ codes "svj" ++ 32 ∷ (codes "1" ++ left) → (o : Option ((ℕ × ℕ) × List ℕ)) → IfSome o (IsSized left) → IfSome o (IsHead t)
        weaker left is None k = tt
        weaker left is (Some r) k = record { sizes = k.0; spelled = is ∙ ap (λ (x : List ℕ). codes "svj 1" ++ x) k.1 ∙ sym (head_words (decimal r.0.0) (decimal r.0.1) r.1) }
    by false h = tt

pub head-back : (processes table : ℕ) (more : List ℕ) → AreSizes processes table → head (head_line processes table ++ more) ≡ Some ((processes, table), more)
head-back processes table more are =
    ap head (head_words (decimal processes) (decimal table) more)
    ∙ ap (λ (p : List ℕ × List ℕ). cond (pointwise nat_eq p.0 (codes "svj")) (this_word (codes "1") p.1 >>= λ form. sizes form.1) None)
    (first_word-back (codes "svj") (32 ∷ (codes "1" ++ 32 ∷ (decimal processes ++ 32 ∷ (decimal table ++ 10 ∷ more)))) (literal_word (codes "svj") refl) refl)
    ∙ ap (λ (o : Option (Unit {0} × List ℕ)). o >>= λ form. sizes form.1) (this_word-back (codes "1") (32 ∷ (decimal processes ++ 32 ∷ (decimal table ++ 10 ∷ more))) (literal_word (codes "1") refl) refl)
    ∙ ap (λ (o : Option (ℕ × List ℕ)). o >>= λ p. number 400 p.1 >>= λ s. next_line s.1 >>= λ n. cond (nat_le 1 p.0 && nat_le 2 s.0) (Some ((p.0, s.0), n.1)) None)
    (field-back (number-reads 16 (omega arith)) processes (32 ∷ (decimal table ++ 10 ∷ more)) are.few refl)
    ∙ ap (λ (o : Option (ℕ × List ℕ)). o >>= λ s. next_line s.1 >>= λ n. cond (nat_le 1 processes && nat_le 2 s.0) (Some ((processes, s.0), n.1)) None)
    (field-back (number-reads 400 (omega arith)) table (10 ∷ more) are.most refl)
    ∙ ap (λ (b : Bool). cond b (Some ((processes, table), more)) None) (and_true (nat_le 1 processes) (nat_le 2 table) (le-leb 1 processes are.some) (le-leb 2 table are.least))

pub no_head : (t : List ℕ) → head t ≡ None → HasNoHead t
no_head t none processes table rest are is = some_is_none ((processes, table), rest) (head t) (ap head is ∙ head-back processes table rest are) none
