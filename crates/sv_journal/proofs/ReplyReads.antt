-- What a reply is read as, and how it is spelled.
use Rattle.std.proofs.Common.{◌≡◌, ◌++◌, ◌∙◌, ℕ, List, ◌∷◌, codes, Option, Some, None, IfSome, sym, ap, refl}
use Rattle.std.specs.Fmt.{decimal}
use Rattle.sv_form.specs.Number.{AreBytes}
use Rattle.sv_form.specs.declared.kind.Kind.{Kind}
use Rattle.sv_plain.specs.declared.history.reply.Reply.{Reply}
use Rattle.sv_plain.specs.declared.history.reply.Reply.TheVariants as replies
use Rattle.sv_journal.specs.declared.reply_name.ReplyName.{ReplyName}
use Rattle.sv_journal.specs.declared.reply_name.ReplyName.TheVariants as reply_names
use Rattle.sv_journal.specs.Fields.{bytes, field, made, number}
use Rattle.sv_journal.specs.Fits.{IsLong, IsShort, ReplyFits}
use Rattle.sv_journal.specs.Grammar.{reply_at, reply_by}
use Rattle.sv_journal.specs.Outcome.{◌>>=◌}
use Rattle.sv_journal.specs.ReplyName.{reply_name, reply_name_text}
use Rattle.sv_journal.specs.Spelling.{bytes_text, kind_text, octal, reply_text}
use Rattle.sv_journal.proofs.HexWords.{bytes-reads}
use Rattle.sv_journal.proofs.NameReads.{reply_name-reads}
use Rattle.sv_journal.proofs.OpReads.{four_words, made-back, made-cut}
use Rattle.sv_journal.proofs.WordCuts.{IsTail, field-back, field-cut, step}
use Rattle.sv_journal.proofs.WordReads.{long-reads, short-reads}

-- ---- what is read is spelled so

abbrev ReplySaid : ReplyName → List ℕ → Reply × List ℕ → Type 0
ReplySaid n t r = ReplyFits r.0 × (reply_name_text n ++ t ≡ reply_text r.0 ++ r.1)

abbrev IsShorted : List ℕ → ℕ × List ℕ → Type 0
IsShorted t n = IsShort n.0 × (t ≡ 32 ∷ (decimal n.0 ++ n.1))

abbrev IsLonged : List ℕ → ℕ × List ℕ → Type 0
IsLonged t n = IsLong n.0 × (t ≡ 32 ∷ (decimal n.0 ++ n.1))

reply_by-cut : (n : ReplyName) (t : List ℕ) → IfSome (reply_by n t) (ReplySaid n t)
reply_by-cut reply_names.Found t = step (number 65535 t) _ (IsShorted t) (ReplySaid reply_names.Found t) (field-cut short-reads t) (λ n h. (h.0, ap (λ (x : List ℕ). codes "found" ++ x) h.1))
reply_by-cut reply_names.NotFound t = (tt, refl)
reply_by-cut reply_names.NotDir t = (tt, refl)
reply_by-cut reply_names.Gone t = (tt, refl)
reply_by-cut reply_names.Full t = (tt, refl)
reply_by-cut reply_names.Fault t = (tt, refl)
reply_by-cut reply_names.Kept t = (tt, refl)
reply_by-cut reply_names.Freed t = (tt, refl)
reply_by-cut reply_names.Late t = (tt, refl)
reply_by-cut reply_names.LateMemory t = (tt, refl)
reply_by-cut reply_names.Made t = step (number 65535 t) _ (IsShorted t) (ReplySaid reply_names.Made t) (field-cut short-reads t) (λ n h. (h.0, ap (λ (x : List ℕ). codes "made" ++ x) h.1))
reply_by-cut reply_names.ManyLinks t = (tt, refl)
reply_by-cut reply_names.NoInode t = (tt, refl)
reply_by-cut reply_names.Raised t = (tt, refl)
reply_by-cut reply_names.IsDir t = (tt, refl)
reply_by-cut reply_names.Entered t = (tt, refl)
reply_by-cut reply_names.Exists t = (tt, refl)
reply_by-cut reply_names.Lowered t = (tt, refl)
reply_by-cut reply_names.Removed t = step (number 65535 t) _ (IsShorted t) (ReplySaid reply_names.Removed t) (field-cut short-reads t) (λ n h. (h.0, ap (λ (x : List ℕ). codes "removed" ++ x) h.1))
reply_by-cut reply_names.Plain t = (tt, refl)
reply_by-cut reply_names.NotEmpty t = (tt, refl)
reply_by-cut reply_names.Opened t = step (number 65535 t) _ (IsShorted t) (ReplySaid reply_names.Opened t) (field-cut short-reads t) (λ n h. (h.0, ap (λ (x : List ℕ). codes "opened" ++ x) h.1))
reply_by-cut reply_names.Dupped t = (tt, refl)
reply_by-cut reply_names.Got t = step (bytes t) _ (λ m. AreBytes m.0 × (t ≡ 32 ∷ (bytes_text m.0 ++ m.1))) (ReplySaid reply_names.Got t) (field-cut bytes-reads t) (λ m h. (h.0, ap (λ (x : List ℕ). codes "got" ++ x) h.1))
reply_by-cut reply_names.Wrote t = step (number 4294967295 t) _ (IsLonged t) (ReplySaid reply_names.Wrote t) (field-cut long-reads t) (λ n h. (h.0, ap (λ (x : List ℕ). codes "wrote" ++ x) h.1))
reply_by-cut reply_names.FaultAfter t = step (number 4294967295 t) _ (IsLonged t) (ReplySaid reply_names.FaultAfter t) (field-cut long-reads t) (λ n h. (h.0, ap (λ (x : List ℕ). codes "faultafter" ++ x) h.1))
reply_by-cut reply_names.At t = step (number 4294967295 t) _ (IsLonged t) (ReplySaid reply_names.At t) (field-cut long-reads t) (λ n h. (h.0, ap (λ (x : List ℕ). codes "at" ++ x) h.1))
reply_by-cut reply_names.Bad t = (tt, refl)
reply_by-cut reply_names.Done t = (tt, refl)
reply_by-cut reply_names.Status t =
    step (made t) _ (λ m. IsShort m.0.1 × (t ≡ 32 ∷ (kind_text m.0.0 ++ 32 ∷ (octal m.0.1 ++ m.1)))) (ReplySaid reply_names.Status t) (made-cut t)
    (λ m d. step (number 65535 m.1) _ (IsShorted m.1) (ReplySaid reply_names.Status t) (field-cut short-reads m.1)
    (λ l h. step (number 4294967295 l.1) _ (IsLonged l.1) (ReplySaid reply_names.Status t) (field-cut long-reads l.1)
    (λ z k. (
      (d.0, h.0, k.0),
      ap (λ (x : List ℕ). codes "is" ++ x) (d.1
          ∙ ap (λ (x : List ℕ). 32 ∷ (kind_text m.0.0 ++ 32 ∷ (octal m.0.1 ++ x))) h.1
          ∙ ap (λ (x : List ℕ). 32 ∷ (kind_text m.0.0 ++ 32 ∷ (octal m.0.1 ++ 32 ∷ (decimal l.0 ++ x)))) k.1
          ∙ ap (λ (x : List ℕ). 32 ∷ x) (sym (four_words (kind_text m.0.0) (octal m.0.1) (decimal l.0) (decimal z.0) z.1))),
    ))))
reply_by-cut reply_names.Granted t = step (number 4294967295 t) _ (IsLonged t) (ReplySaid reply_names.Granted t) (field-cut long-reads t) (λ n h. (h.0, ap (λ (x : List ℕ). codes "granted" ++ x) h.1))
reply_by-cut reply_names.NoSpace t = (tt, refl)
reply_by-cut reply_names.TooBig t = (tt, refl)

pub reply-cut : (t : List ℕ) → IfSome (reply_at t) (λ r. ReplyFits r.0 × (t ≡ 32 ∷ (reply_text r.0 ++ r.1)))
reply-cut t =
    step (field reply_name t) _ (λ n. Unit {0} × (t ≡ 32 ∷ (reply_name_text n.0 ++ n.1))) (λ r. ReplyFits r.0 × (t ≡ 32 ∷ (reply_text r.0 ++ r.1))) (field-cut reply_name-reads t)
    (λ n h. weaker n.0 n.1 h.1 (reply_by n.0 n.1) (reply_by-cut n.0 n.1))
  where
    weaker : (n : ReplyName) (rest : List ℕ) → t ≡ 32 ∷ (reply_name_text n ++ rest) → (o : Option (Reply × List ℕ)) → IfSome o (ReplySaid n rest) → IfSome o (λ r. ReplyFits r.0 × (t ≡ 32 ∷ (reply_text r.0 ++ r.1)))
    weaker n rest is None h = tt
    weaker n rest is (Some r) h = (h.0, is ∙ ap (λ (x : List ℕ). 32 ∷ x) h.1)

-- ---- what is spelled is read

named : (n : ReplyName) (t : List ℕ) → IsTail t → reply_at (32 ∷ (reply_name_text n ++ t)) ≡ reply_by n t
named n t tail = ap (λ (o : Option (ReplyName × List ℕ)). o >>= λ r. reply_by r.0 r.1) (field-back reply_name-reads n t tt tail)

pub reply-back : (reply : Reply) (r : List ℕ) → ReplyFits reply → IsTail r → reply_at (32 ∷ (reply_text reply ++ r)) ≡ Some (reply, r)
reply-back (replies.Found n) r fits tail = named reply_names.Found (32 ∷ (decimal n ++ r)) refl ∙ ap (λ (o : Option (ℕ × List ℕ)). o >>= λ a. Some (replies.Found a.0, a.1)) (field-back short-reads n r fits tail)
reply-back replies.NotFound r fits tail = named reply_names.NotFound r tail
reply-back replies.NotDir r fits tail = named reply_names.NotDir r tail
reply-back replies.Gone r fits tail = named reply_names.Gone r tail
reply-back replies.Full r fits tail = named reply_names.Full r tail
reply-back replies.Fault r fits tail = named reply_names.Fault r tail
reply-back replies.Kept r fits tail = named reply_names.Kept r tail
reply-back replies.Freed r fits tail = named reply_names.Freed r tail
reply-back replies.Late r fits tail = named reply_names.Late r tail
reply-back replies.LateMemory r fits tail = named reply_names.LateMemory r tail
reply-back (replies.Made n) r fits tail = named reply_names.Made (32 ∷ (decimal n ++ r)) refl ∙ ap (λ (o : Option (ℕ × List ℕ)). o >>= λ a. Some (replies.Made a.0, a.1)) (field-back short-reads n r fits tail)
reply-back replies.ManyLinks r fits tail = named reply_names.ManyLinks r tail
reply-back replies.NoInode r fits tail = named reply_names.NoInode r tail
reply-back replies.Raised r fits tail = named reply_names.Raised r tail
reply-back replies.IsDir r fits tail = named reply_names.IsDir r tail
reply-back replies.Entered r fits tail = named reply_names.Entered r tail
reply-back replies.Exists r fits tail = named reply_names.Exists r tail
reply-back replies.Lowered r fits tail = named reply_names.Lowered r tail
reply-back (replies.Removed n) r fits tail = named reply_names.Removed (32 ∷ (decimal n ++ r)) refl ∙ ap (λ (o : Option (ℕ × List ℕ)). o >>= λ a. Some (replies.Removed a.0, a.1)) (field-back short-reads n r fits tail)
reply-back replies.Plain r fits tail = named reply_names.Plain r tail
reply-back replies.NotEmpty r fits tail = named reply_names.NotEmpty r tail
reply-back (replies.Opened n) r fits tail = named reply_names.Opened (32 ∷ (decimal n ++ r)) refl ∙ ap (λ (o : Option (ℕ × List ℕ)). o >>= λ a. Some (replies.Opened a.0, a.1)) (field-back short-reads n r fits tail)
reply-back replies.Dupped r fits tail = named reply_names.Dupped r tail
reply-back (replies.Got got) r fits tail = named reply_names.Got (32 ∷ (bytes_text got ++ r)) refl ∙ ap (λ (o : Option (List ℕ × List ℕ)). o >>= λ a. Some (replies.Got a.0, a.1)) (field-back bytes-reads got r fits tail)
reply-back (replies.Wrote n) r fits tail = named reply_names.Wrote (32 ∷ (decimal n ++ r)) refl ∙ ap (λ (o : Option (ℕ × List ℕ)). o >>= λ a. Some (replies.Wrote a.0, a.1)) (field-back long-reads n r fits tail)
reply-back (replies.FaultAfter n) r fits tail = named reply_names.FaultAfter (32 ∷ (decimal n ++ r)) refl ∙ ap (λ (o : Option (ℕ × List ℕ)). o >>= λ a. Some (replies.FaultAfter a.0, a.1)) (field-back long-reads n r fits tail)
reply-back (replies.At n) r fits tail = named reply_names.At (32 ∷ (decimal n ++ r)) refl ∙ ap (λ (o : Option (ℕ × List ℕ)). o >>= λ a. Some (replies.At a.0, a.1)) (field-back long-reads n r fits tail)
reply-back replies.Bad r fits tail = named reply_names.Bad r tail
reply-back replies.Done r fits tail = named reply_names.Done r tail
reply-back (replies.Status k mode links size) r fits tail =
    ap reply_at (ap (λ (x : List ℕ). codes " is " ++ x) (four_words (kind_text k) (octal mode) (decimal links) (decimal size) r))
    ∙ named reply_names.Status (32 ∷ (kind_text k ++ 32 ∷ (octal mode ++ 32 ∷ (decimal links ++ 32 ∷ (decimal size ++ r))))) refl
    ∙ ap (λ (o : Option ((Kind × ℕ) × List ℕ)). o >>= λ m. number 65535 m.1 >>= λ l. number 4294967295 l.1 >>= λ z. Some (replies.Status m.0.0 m.0.1 l.0 z.0, z.1)) (made-back k mode (32 ∷ (decimal links ++ 32 ∷ (decimal size ++ r))) fits.0 refl)
    ∙ ap (λ (o : Option (ℕ × List ℕ)). o >>= λ l. number 4294967295 l.1 >>= λ z. Some (replies.Status k mode l.0 z.0, z.1)) (field-back short-reads links (32 ∷ (decimal size ++ r)) fits.1 refl)
    ∙ ap (λ (o : Option (ℕ × List ℕ)). o >>= λ z. Some (replies.Status k mode links z.0, z.1)) (field-back long-reads size r fits.2 tail)
reply-back (replies.Granted n) r fits tail = named reply_names.Granted (32 ∷ (decimal n ++ r)) refl ∙ ap (λ (o : Option (ℕ × List ℕ)). o >>= λ a. Some (replies.Granted a.0, a.1)) (field-back long-reads n r fits tail)
reply-back replies.NoSpace r fits tail = named reply_names.NoSpace r tail
reply-back replies.TooBig r fits tail = named reply_names.TooBig r tail
