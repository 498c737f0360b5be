-- Words of lower case hexadecimal digits: names and bytes, read and spelled.
use Rattle.std.proofs.Common.{◌≡◌, ◌==◌, ◌∙◌, ℕ, suc, List, [], ◌∷◌, length, get_or, Bool, true, false, cond, nat_eq, codes, Option, Some, None, IfSome, Result, Ok, Err, subst, sym, ap, refl, arith}
use Rattle.std.specs.Cmp.Lexicographic.{pointwise}
use Rattle.std.specs.List.{list_all}
use Rattle.std.proofs.lemmas.Bool.{true≢false}
use Rattle.std.proofs.lemmas.List.Sums.{AllPass-from_list_all}
use Rattle.std.proofs.Math.Dec.{eqb-suc-zero}
use Rattle.hex.specs.Hex.{decode_of, encode_lower, encode_with}
use Rattle.hex.specs.declared.error.FromHexError.{FromHexError}
use Rattle.hex.proofs.HexLemmas.{decode_of-encode_lower, decode_of-even, decode_of-ok}
use Rattle.sv_form.specs.Name.{IsName}
use Rattle.sv_form.specs.Number.{AreBytes}
use Rattle.sv_journal.specs.Outcome.{◌>>=◌}
use Rattle.sv_journal.specs.Spelling.{bytes_text}
use Rattle.sv_journal.specs.Word.{bytes_of, decoded, hex_of, is_lower_hex, is_name, name_from, name_of}
use Rattle.sv_journal.proofs.HexPairs.{lower_large, pairs_spelled, spelled_lower}
use Rattle.sv_journal.proofs.NameWords.{name_passes, passes_name}
use Rattle.sv_journal.proofs.WordCuts.{IsWord, Reads, literal_word, same_text, step}

-- ---- words

decoded-ok : (word : List ℕ) → list_all is_lower_hex word ≡ true → (r : Result (List ℕ) FromHexError) → decode_of word ≡ r → IfSome (decoded r) (λ bytes. AreBytes bytes × (word ≡ encode_lower bytes))
decoded-ok word lower (Ok bytes) h =
    let ok = decode_of-ok word bytes h in
    (ok.3, pairs_spelled 0 word bytes lower (sym (decode_of-even word ok.0) ∙ h))
decoded-ok word lower (Err e) h = tt

hex-sound : (word : List ℕ) → IfSome (hex_of word) (λ bytes. AreBytes bytes × (word ≡ encode_lower bytes))
hex-sound word = by (list_all is_lower_hex word) refl
  where
    by : (b : Bool) → list_all is_lower_hex word ≡ b → IfSome (cond b (decoded (decode_of word)) None) (λ bytes. AreBytes bytes × (word ≡ encode_lower bytes))
    by true h = decoded-ok word h (decode_of word) refl
    by false h = tt

hex-back : (bytes : List ℕ) → AreBytes bytes → hex_of (encode_lower bytes) ≡ Some bytes
hex-back bytes fits =
    ap (λ (b : Bool). cond b (decoded (decode_of (encode_lower bytes))) None) (spelled_lower bytes fits) ∙ ap decoded (decode_of-encode_lower bytes fits)

hex-word : (bytes : List ℕ) → AreBytes bytes → IsWord (encode_lower bytes)
hex-word bytes fits k lt = lower_large (get_or (encode_lower bytes) k 0) (AllPass-from_list_all is_lower_hex (encode_lower bytes) (spelled_lower bytes fits) k 0 lt)

pub name-reads : Reads name_of encode_lower (λ name. IsName name × AreBytes name)
name-reads = record {
  sound = λ word. step (hex_of word) _ (λ bytes. AreBytes bytes × (word ≡ encode_lower bytes)) (λ name. (IsName name × AreBytes name) × (word ≡ encode_lower name)) (hex-sound word) (λ bytes h. by word bytes h (is_name bytes) refl);
  back = λ name h. ap (λ (m : Option (List ℕ)). m >>= name_from) (hex-back name h.1) ∙ ap (λ (b : Bool). cond b (Some name) None) (name_passes name h.0);
  word = λ name h. hex-word name h.1;
}
  where
    by : (word bytes : List ℕ) → AreBytes bytes × (word ≡ encode_lower bytes) → (b : Bool) → is_name bytes ≡ b → IfSome (cond b (Some bytes) None) (λ name. (IsName name × AreBytes name) × (word ≡ encode_lower name))
    by word bytes h true is = ((passes_name bytes is, h.0), h.1)
    by word bytes h false is = tt

-- ---- bytes, or a dash

encoded-some : (b : ℕ) (bs : List ℕ) → bytes_text (b ∷ bs) ≡ encode_lower (b ∷ bs)
encoded-some b bs = ap (λ (t : Bool). cond t (codes "-") (encode_lower (b ∷ bs))) (eqb-suc-zero (length bs))

text_of_some : (bytes : List ℕ) → (length bytes ≡ 0 → ⊥) → bytes_text bytes ≡ encode_lower bytes
text_of_some [] some = absurd (some refl)
text_of_some (b ∷ bs) some = encoded-some b bs

no_digits : (word bytes : List ℕ) → word ≡ encode_lower bytes → length bytes ≡ 0 → length word ≡ 0
unfolding encode_with
no_digits word [] is none = ap length is
no_digits word (b ∷ bs) is none = absurd (omega arith)

not_dash : (b : ℕ) (bs : List ℕ) → AreBytes (b ∷ bs) → pointwise nat_eq (encode_lower (b ∷ bs)) (codes "-") ≡ false
unfolding encode_with
not_dash b bs fits = by (pointwise nat_eq (encode_lower (b ∷ bs)) (codes "-")) refl
  where
    by : (t : Bool) → pointwise nat_eq (encode_lower (b ∷ bs)) (codes "-") ≡ t → t ≡ false
    by true h =
        let same = ap length (same_text (encode_lower (b ∷ bs)) (codes "-") h) in
        absurd (omega arith)
    by false h = refl

bytes-sound : (word : List ℕ) → IfSome (bytes_of word) (λ bytes. AreBytes bytes × (word ≡ bytes_text bytes))
bytes-sound word = dash (pointwise nat_eq word (codes "-")) refl
  where
    some : (o : Option (List ℕ)) → (length word == 0) ≡ false → IfSome o (λ bytes. AreBytes bytes × (word ≡ encode_lower bytes)) → IfSome o (λ bytes. AreBytes bytes × (word ≡ bytes_text bytes))
    some None full h = tt
    some (Some bytes) full h = (h.0, h.1 ∙ sym (text_of_some bytes (λ none. true≢false (sym (ap (λ (n : ℕ). n == 0) (no_digits word bytes h.1 none)) ∙ full))))

    empty : (b : Bool) → (length word == 0) ≡ b → IfSome (cond b None (hex_of word)) (λ bytes. AreBytes bytes × (word ≡ bytes_text bytes))
    empty true h = tt
    empty false h = some (hex_of word) h (hex-sound word)

    dash : (b : Bool) → pointwise nat_eq word (codes "-") ≡ b → IfSome (cond b (Some []) (cond (length word == 0) None (hex_of word))) (λ bytes. AreBytes bytes × (word ≡ bytes_text bytes))
    dash true h = ((λ k. omega arith), same_text word (codes "-") h)
    dash false h = empty (length word == 0) refl

long : (b : ℕ) (bs : List ℕ) → cond (length (encode_lower (b ∷ bs)) == 0) None (hex_of (encode_lower (b ∷ bs))) ≡ hex_of (encode_lower (b ∷ bs))
unfolding encode_with
long b bs = ap (λ (t : Bool). cond t None (hex_of (encode_lower (b ∷ bs)))) (eqb-suc-zero (suc (length (encode_lower bs))))

bytes-back : (bytes : List ℕ) → AreBytes bytes → bytes_of (bytes_text bytes) ≡ Some bytes
bytes-back [] fits = refl
bytes-back (b ∷ bs) fits =
    ap bytes_of (encoded-some b bs)
    ∙ ap (λ (t : Bool). cond t (Some []) (cond (length (encode_lower (b ∷ bs)) == 0) None (hex_of (encode_lower (b ∷ bs))))) (not_dash b bs fits)
    ∙ long b bs ∙ hex-back (b ∷ bs) fits

bytes-word : (bytes : List ℕ) → AreBytes bytes → IsWord (bytes_text bytes)
bytes-word [] fits = literal_word (codes "-") refl
bytes-word (b ∷ bs) fits = subst (λ (t : List ℕ). IsWord t) (sym (encoded-some b bs)) (hex-word (b ∷ bs) fits)

pub bytes-reads : Reads bytes_of bytes_text AreBytes
bytes-reads = record { sound = bytes-sound; back = bytes-back; word = bytes-word }
