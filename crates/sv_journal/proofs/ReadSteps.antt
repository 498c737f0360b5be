-- A journal is read line by line.
use Rattle.std.proofs.Common.{◌≡◌, ◌≤◌, ◌<◌, ◌+◌, ◌++◌, ◌∙◌, ℕ, List, [], ◌∷◌, length, codes, Option, Some, IfSome, IfErr, IsErrAnd, Result, Ok, Err, subst, sym, ap, arith, inl, inr, append_assoc, append-nil}
use Rattle.std.specs.Fmt.{decimal}
use Rattle.std.proofs.lemmas.List.{flat_map_more, length-append}
use Rattle.std.proofs.lemmas.List.Elements.{All-nil, All-push}
use Rattle.sv_plain.specs.declared.history.entry.Entry.{Entry}
use Rattle.sv_journal.specs.declared.journal_fault.JournalFault.{JournalFault}
use Rattle.sv_journal.specs.declared.journal_fault.JournalFault.TheVariants as faults
use Rattle.sv_journal.specs.Allowed.{IsJournalEntry}
use Rattle.sv_journal.specs.Fits.{Fits}
use Rattle.sv_journal.specs.Grammar.{entry, head}
use Rattle.sv_journal.specs.Reading.{IsAt, IsJournalOf, IsNoJournal, StopsAt}
use Rattle.sv_journal.specs.Spelling.{entry_line, head_line, journal_text, op_text, reply_text}
use Rattle.sv_journal.proofs.LineReads.{IsEntrySaid, IsHead, entry-cut, head-cut, no_entry, no_head}

given : {A : Type 0} (P : A → Type 0) (o : Option A) (x : A) → IfSome o P → o ≡ Some x → P x
given P o x h is = subst (λ (q : Option _). IfSome q P) is h

-- ---- the first line

head_alone : (processes table : ℕ) → head_line processes table ≡ journal_text processes table []
unfolding journal_text
head_alone processes table = sym (append-nil (head_line processes table))

pub at_first : (text left : List ℕ) (processes table : ℕ) (entries : List Entry) → head text ≡ Some ((processes, table), left) → entries ≡ [] → IsAt text left processes table entries
at_first text left processes table entries is none =
    let h = given (IsHead text) (head text) ((processes, table), left) (head-cut text) is in
    let spelled = h.spelled in
    subst (λ (es : List Entry). IsAt text left processes table es) (sym none) (record {
      front = head_line processes table;
      before = record { sizes = h.sizes; allowed = All-nil (IsJournalEntry processes); fits = All-nil Fits; spelled = head_alone processes table };
      cut = spelled;
      size = omega (arith, ap length spelled, length-append (head_line processes table) left);
    })

-- ---- a line more

line_more : (processes table : ℕ) (entries : List Entry) (e : Entry) → journal_text processes table entries ++ entry_line e ≡ journal_text processes table (entries ++ e ∷ [])
unfolding journal_text
line_more processes table entries e = flat_map_more entry_line (head_line processes table) entries e

pub line_some : (e : Entry) → 0 < length (entry_line e)
line_some e = omega (arith, length-append (decimal e.process ++ codes " " ++ op_text e.op ++ codes " = " ++ reply_text e.reply) (codes "\n"))

pub at_next : (text rest left : List ℕ) (processes table : ℕ) (entries : List Entry) (e : Entry) → IsAt text rest processes table entries → entry processes rest ≡ Some (e, left) → IsAt text left processes table (entries ++ e ∷ [])
at_next text rest left processes table entries e at is =
    let h = given (IsEntrySaid processes rest) (entry processes rest) (e, left) (entry-cut processes rest) is in
    let spelled = h.said.spelled in
    record {
      front = at.front ++ entry_line e;
      before = record {
        sizes = at.before.sizes;
        allowed = All-push (IsJournalEntry processes) entries e at.before.allowed h.may;
        fits = All-push Fits entries e at.before.fits h.said.fits;
        spelled = ap (λ (x : List ℕ). x ++ entry_line e) at.before.spelled ∙ line_more processes table entries e;
      };
      cut = at.cut ∙ ap (λ (x : List ℕ). at.front ++ x) spelled ∙ sym (append_assoc at.front (entry_line e) left);
      size = omega (arith, at.size, ap length spelled, length-append (entry_line e) left, line_some e, length-append entries (e ∷ []));
    }

pub shorter : (rest left : List ℕ) (processes : ℕ) (e : Entry) → entry processes rest ≡ Some (e, left) → length left < length rest
shorter rest left processes e is =
    let h = given (IsEntrySaid processes rest) (entry processes rest) (e, left) (entry-cut processes rest) is in
    omega (arith, ap length h.said.spelled, length-append (entry_line e) left, line_some e)

-- ---- where it stops

pub stops_first : (text : List ℕ) (fault : JournalFault) → length text ≤ 536870912 → StopsAt 1 (head text) fault → IsNoJournal text fault
stops_first text (faults.Line line) most h = inr (inl (record { place = h.0; most = most; none = no_head text h.1 }))
stops_first text faults.NoMemory most h = tt

pub stops_later : (text rest : List ℕ) (processes table line : ℕ) (entries : List Entry) (fault : JournalFault) → length text ≤ 536870912 → IsAt text rest processes table entries → 0 < length rest
    → line ≡ length entries + 2 → StopsAt line (entry processes rest) fault → IsNoJournal text fault
stops_later text rest processes table line entries (faults.Line at_line) most at more place h =
    inr (inr (record {
      processes = processes;
      table = table;
      entries = entries;
      front = at.front;
      rest = rest;
      place = h.0 ∙ place;
      most = most;
      before = at.before;
      cut = at.cut;
      more = more;
      none = no_entry processes rest h.1;
    }))
stops_later text rest processes table line entries faults.NoMemory most at more place h = tt

pub all_read : (text rest : List ℕ) (processes table : ℕ) (entries : List Entry) → length text ≤ 536870912 → IsAt text rest processes table entries → length rest ≡ 0 → IsJournalOf text processes table entries
all_read text [] processes table entries most at end = record {
  most = most;
  is = record {
    sizes = at.before.sizes;
    allowed = at.before.allowed;
    fits = at.before.fits;
    spelled = at.cut ∙ append-nil at.front ∙ at.before.spelled;
  };
}
all_read text (b ∷ bs) processes table entries most at end = absurd (omega arith)

-- a refusal that is passed on
pub refused_so : {T : Type 0} (text : List ℕ) (r : Result T JournalFault) (fault : JournalFault) → IsErrAnd r (λ x. x ≡ fault) → IsNoJournal text fault → IfErr r (IsNoJournal text)
refused_so text (Ok x) fault is h = tt
refused_so text (Err x) fault is h = subst (IsNoJournal text) (sym is) h
