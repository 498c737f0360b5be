-- Bytes of readers and writers, where they are known.
use Rattle.std.proofs.Common.{◌≡◌, ◌≤◌, ◌+◌, ◌-◌, ℕ, List, [], ◌++◌, Option, None, Some, IfSome, take, drop, length, refl, sym, subst, ap, arith, length-drop, ◌∙◌, append_assoc, append-nil}
use Rattle.std.specs.Option.{option_map}
use Rattle.std.proofs.Math.Seq.{take-append_seam}
use Rattle.std.proofs.lemmas.List.{length-take-le, take-append-drop, drop-drop, take_all}
use Rattle.std.specs.Io.KnownBytes.{Appends, Keeps}

-- one part was appended after the other
pub Appends-append : (old mid new : Option (List ℕ)) (xs ys : List ℕ) → Appends old mid xs → Appends mid new ys → Appends old new (xs ++ ys)
Appends-append None mid new xs ys first second = tt
Appends-append (Some a) None new xs ys first second = absurd first
Appends-append (Some a) (Some b) None xs ys first second = absurd second
Appends-append (Some a) (Some b) (Some c) xs ys first second = rw (second, first, append_assoc) refl

-- what was kept has no byte more
pub Appends-none : (old new : Option (List ℕ)) → Keeps old new → Appends old new []
Appends-none None new kept = tt
Appends-none (Some a) None kept = absurd kept
Appends-none (Some a) (Some b) kept = kept ∙ sym (append-nil a)

-- all bytes of a reader up to a limit, read behind none, are its first bytes
pub front_of : (known now : Option (List ℕ)) (limit most : ℕ) (start got : List ℕ) → limit ≡ most → known ≡ now → start ≡ [] → IfSome (option_map (take limit) known) (λ xs. got ≡ start ++ xs) → IfSome now (λ bytes. got ≡ take most bytes)
front_of known None limit most start got same_limit same empty all = tt
front_of None (Some bytes) limit most start got same_limit same empty all = cc
front_of (Some before) (Some bytes) limit most start got same_limit same empty all = rw (all, empty, same_limit) (cc)

-- a front that was copied before others, and what is left behind it, are the whole rest
pub copied_front : (bytes seen copied others : List ℕ) (given count : ℕ) → seen ≡ bytes → copied ≡ take count (take (length seen - given) (drop given seen)) → count ≤ length (drop given bytes)
    → drop given bytes ≡ take count (copied ++ others) ++ drop (given + count) bytes
copied_front bytes seen copied others given count whole same within =
    let short : length (drop given seen) ≤ length seen - given = omega (arith, length-drop given seen) in
    let part : copied ≡ take count (drop given bytes) = subst (λ xs. copied ≡ take count (drop given xs)) whole (same ∙ ap (take count) (take_all _ _ short)) in
    let counted : length copied ≡ count = rw part (length-take-le count (drop given bytes) within) in
    let front : take count (copied ++ others) ≡ copied = subst (λ n. take n (copied ++ others) ≡ copied) counted (take-append_seam copied others) in
    let back : drop count (drop given bytes) ≡ drop (given + count) bytes = drop-drop count given bytes in
    rw (front, part, sym back) (sym (take-append-drop count (drop given bytes)))
