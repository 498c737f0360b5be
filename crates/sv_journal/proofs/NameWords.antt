-- The test of a name.
use Rattle.std.proofs.Common.{◌≡◌, ◌==◌, ◌&&◌, ◌↔◌, ◌∙◌, ℕ, List, length, Bool, true, false, cond, not, nat_le, Option, Some, None, IfSome, IsSome, sym, ap, refl}
use Rattle.std.specs.List.{list_all}
use Rattle.std.proofs.lemmas.Bool.{and_parts, eq-eqb, false≢true, le-leb, leb-true, ne_eqb}
use Rattle.std.proofs.lemmas.List.Sums.{AllPass-from_list_all, list_all-from_AllPass}
use Rattle.sv_form.specs.Name.{IsName, IsNameByte}
use Rattle.sv_journal.specs.Word.{is_name, name_from}
use Rattle.sv_plain.proofs.DigitValues.{and_true}

abbrev is_name_byte : ℕ → Bool
is_name_byte b = not (b == 0) && not (b == 47)

named_byte : (b : ℕ) → is_name_byte b ≡ true → IsNameByte b
named_byte b h =
    let parts = and_parts (not (b == 0)) (not (b == 47)) h in
    record {
      no_zero = λ e. false≢true (sym (ap not (eq-eqb b 0 e)) ∙ parts.0);
      no_slash = λ e. false≢true (sym (ap not (eq-eqb b 47 e)) ∙ parts.1);
    }

byte_named : (b : ℕ) → IsNameByte b → is_name_byte b ≡ true
byte_named b h = and_true (not (b == 0)) (not (b == 47)) (ap not (ne_eqb b 0 h.no_zero)) (ap not (ne_eqb b 47 h.no_slash))

pub name_passes : (bytes : List ℕ) → IsName bytes → is_name bytes ≡ true
name_passes bytes h =
    and_true (nat_le 1 (length bytes) && nat_le (length bytes) 14) (list_all is_name_byte bytes)
    (and_true (nat_le 1 (length bytes)) (nat_le (length bytes) 14) (le-leb 1 (length bytes) h.some) (le-leb (length bytes) 14 h.fits))
    (list_all-from_AllPass is_name_byte bytes (λ k d lt. byte_named _ (h.plain k d lt)))

pub passes_name : (bytes : List ℕ) → is_name bytes ≡ true → IsName bytes
passes_name bytes h =
    let parts = and_parts (nat_le 1 (length bytes) && nat_le (length bytes) 14) (list_all is_name_byte bytes) h in
    let sizes = and_parts (nat_le 1 (length bytes)) (nat_le (length bytes) 14) parts.0 in
    record {
      some = leb-true 1 (length bytes) sizes.0;
      fits = leb-true (length bytes) 14 sizes.1;
      plain = λ k d lt. named_byte _ (AllPass-from_list_all is_name_byte bytes parts.1 k d lt);
    }

pub name_read : (bytes : List ℕ) (r : Option (List ℕ)) → (IsSome r ↔ IsName bytes) → IfSome r (λ n. n ≡ bytes) → r ≡ name_from bytes
name_read bytes (Some n) is same = ap (λ (x : List ℕ). Some x) same ∙ sym (ap (λ (b : Bool). cond b (Some bytes) None) (name_passes bytes (is.0 refl)))
name_read bytes None is same = by (is_name bytes) refl
  where
    by : (b : Bool) → is_name bytes ≡ b → None ≡ cond b (Some bytes) None
    by true h = absurd (false≢true (is.1 (passes_name bytes h)))
    by false h = refl
