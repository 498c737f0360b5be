-- The bytes at a place of a directory spell at most one entry, which is what stands there.
use Rattle.std.proofs.Common.{◌≡◌, ◌≢◌, ◌+◌, ◌-◌, ◌*◌, ◌<◌, ◌≤◌, ◌==◌, ◌++◌, ℕ, zero, suc, List, [], ◌∷◌, Option, Some, None, length, map, replicate, drop, All, if◌then◌else◌, MatchOption, arith, ap, refl, sym, ◌∙◌, unwrap_or}
use Rattle.std.specs.List.{range_with_len}
use Rattle.std.proofs.lemmas.Bool.{ne_eqb, eq-eqb, cond-true, cond-false}
use Rattle.sv_form.specs.Name.{IsName, IsNameByte}
use Rattle.sv_form.specs.Number.{number16}
use Rattle.sv_form.specs.Entry.{IsEntry, filled}
use Rattle.sv_form.specs.declared.entry.Entry.{Entry}
use Rattle.sv_form.specs.Node.{Node, byte_of, bytes_of, entry_inode, entry_name, name_bytes, until_zero}
use Rattle.sv_form.specs.NodeEntries.{HasEntry, entry_at, entry_bytes}

until_zeros : (m : ℕ) → until_zero (replicate m 0) ≡ []
until_zeros zero = refl
until_zeros (suc m) = refl

-- a name is what stands before the zeros that fill it up
pub until_zero-filled : (name : List ℕ) (m : ℕ) → All IsNameByte name → until_zero (name ++ replicate m 0) ≡ name
until_zero-filled [] m plain = until_zeros m
until_zero-filled (b ∷ bs) m plain =
    cond-false (b == 0) [] (b ∷ until_zero (bs ++ replicate m 0)) (ne_eqb b 0 (plain 0 0 (omega arith)).no_zero)
    ∙ ap (λ (l : List ℕ). b ∷ l) (until_zero-filled bs m (λ k d lt. plain (suc k) d (omega arith)))

name_is : (name : Option (List ℕ)) (i : ℕ) → MatchOption name (i ≡ 0) (λ n. (i ≢ 0) × IsName n)
    → name ≡ (if i == 0 then None else Some (until_zero (filled (unwrap_or name []))))
name_is None i spelled = sym (cond-true (i == 0) None (Some (until_zero (filled []))) (eq-eqb i 0 spelled))
name_is (Some n) i spelled =
    ap (λ (l : List ℕ). Some l) (sym (until_zero-filled n (14 - length n) spelled.1.plain))
    ∙ sym (cond-false (i == 0) None (Some (until_zero (filled n))) (ne_eqb i 0 spelled.0))

pub inode_bytes : (block : ℕ) (node : Node) (j : ℕ) → number16 (entry_bytes block node j) 0 ≡ entry_inode block node j
unfolding bytes_of entry_inode
inode_bytes block node j = refl

pub after_inode : (block : ℕ) (node : Node) (j : ℕ) → drop 2 (entry_bytes block node j) ≡ name_bytes block node j
unfolding bytes_of
after_inode block node j =
    let at : 16 * j + 1 + 1 ≡ 16 * j + 2 = omega arith in
    ap (λ (a : ℕ). map (byte_of block node) (range_with_len a 14)) at

pub entry_is : (block : ℕ) (node : Node) (j : ℕ) (e : Entry) → HasEntry block node j e → e ≡ entry_at block node j
unfolding entry_name
entry_is block node j e has =
    let inode : e.inode ≡ entry_inode block node j = sym has.spelled.inode ∙ inode_bytes block node j in
    let bytes : filled (unwrap_or e.name []) ≡ name_bytes block node j = sym has.spelled.name ∙ after_inode block node j in
    let made : ℕ → Option (List ℕ) → Entry = λ i n. record { inode = i; name = n } in
    ap (λ (n : Option (List ℕ)). made e.inode n) (name_is e.name e.inode has.spelled.spelled)
    ∙ ap (λ (l : List ℕ). made e.inode (if e.inode == 0 then None else Some (until_zero l))) bytes
    ∙ ap (λ (i : ℕ). made i (if i == 0 then None else Some (entry_name block node j))) inode
