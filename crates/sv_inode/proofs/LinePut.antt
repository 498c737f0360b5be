-- An inode's line is put into its block: the bytes that are got and put, and what stays.
use Rattle.std.proofs.Common.{◌≡◌, ◌≢◌, ◌≤◌, ◌<◌, ◌+◌, ◌-◌, ◌*◌, ◌==◌, ◌++◌, ◌∷◌, ◌⊎◌, inl, inr, ℕ, Bool, true, false, List, []}
use Rattle.std.proofs.Common.{length, take, drop, get_or, slice_range, Option, Some, None, IsSome, IfSome, is_some, option_map, nat_lt}
use Rattle.std.proofs.Common.{arith, refl, sym, ap, ◌∙◌, subst}
use Rattle.std.proofs.lemmas.Bool.{false≢true, eqb-true}
use Rattle.std.proofs.lemmas.Bool.Decides.{nat_tests}
use Rattle.std.proofs.Math.Seq.{take-append_seam}
use Rattle.sv_form.specs.Geometry.{IsGeometry, inode_place}
use Rattle.sv_form.specs.Inode.{IsInode}
use Rattle.sv_form.specs.Number.{ChangesOnly}
use Rattle.sv_form.specs.declared.geometry.Geometry.{Geometry}
use Rattle.sv_form.specs.declared.inode.DiskInode.{DiskInode}
use Rattle.sv_form.specs.declared.inode.DiskInode.TheVariants.{Used}
use Rattle.sv_form.specs.declared.inode.InodeBody.{InodeBody}
use Rattle.sv_store.specs.Held.{Held, InRange, Lent, Origin, line_of, put, with}
use Rattle.sv_store.specs.Calls.{CanPut, Gets}
use Rattle.sv_store.specs.Loan.{Loan}
use Rattle.sv_store.proofs.Holding.{CanPut-got, put-at, put-line, put-other}
use Rattle.sv_store.proofs.Lines.{line_of-same}
use Rattle.sv_inode.specs.InodeLine.{PutsInode}

-- the part between two others
pub middle : (xs ys zs : List ℕ) (at : ℕ) → length xs ≡ at → length ys ≡ 64 → slice_range (xs ++ (ys ++ zs)) at (at + 64) ≡ ys
middle xs ys zs at before size =
    let wide : at + 64 - at ≡ length ys = omega (arith, size) in
    ap (λ n. take (at + 64 - at) (drop n (xs ++ (ys ++ zs)))) (sym before)
    ∙ (ap (take (at + 64 - at)) (dropped xs) ∙ (ap (λ n. take n (ys ++ zs)) wide ∙ take-append_seam ys zs))
  where
    dropped : (ws : List ℕ) → drop (length ws) (ws ++ (ys ++ zs)) ≡ ys ++ zs
    dropped [] = refl
    dropped (w ∷ ws) = dropped ws

-- a line outside of what was written stays
pub outside : {old new : List ℕ} (at first l : ℕ) → ChangesOnly old new at (at + 64) → at ≡ first * 64 → l ≢ first
    → line_of new l ≡ line_of old l
outside {old} {new} at first l changes is apart = line_of-same new old l changes.len (λ k below. by k below (nat_lt l first) refl)
  where
    low : (a b : ℕ) → nat_lt a b ≡ true → a < b
    low a b h = grind (nat_tests, arith)

    high : (a b : ℕ) → nat_lt a b ≡ false → a ≢ b → b < a
    high a b h e = grind (nat_tests, arith)

    by : (k : ℕ) → k < 64 → (t : Bool) → nat_lt l first ≡ t → get_or new (l * 64 + k) 0 ≡ get_or old (l * 64 + k) 0
    by k below true e = let less = low l first e in changes.before (l * 64 + k) (omega (arith, below, less, is))
    by k below false e = let more = high l first e apart in changes.after (l * 64 + k) (omega (arith, below, more, is))

pub rewritten : {now old new whole : List ℕ} {at : ℕ} → now ≡ old → whole ≡ new → ChangesOnly now new at (at + 64)
    → ChangesOnly old whole at (at + 64)
rewritten {now} {old} {new} {whole} {at} e f changes =
    (let P : List ℕ → Type 0 = λ q. ChangesOnly q whole at (at + 64) in
    subst P e (let Q : List ℕ → Type 0 = λ q. ChangesOnly now q at (at + 64) in subst Q (sym f) changes))

pub still-inode : (at : ℕ) {new whole : List ℕ} {i : DiskInode} → whole ≡ new → IsInode (slice_range new at (at + 64)) i
    → IsInode (slice_range whole at (at + 64)) i
still-inode at {new} {whole} {i} f is = (let P : List ℕ → Type 0 = λ q. IsInode (slice_range q at (at + 64)) i in subst P (sym f) is)

-- the line of a held place lies within the block
pub line-fits : {o : Origin} {h : Held} {b : ℕ} {buf : Loan} (n : ℕ) (g : Geometry) (at : ℕ) → g ≡ o.sizes → IsGeometry g → InRange g h
    → Gets o h b buf → IsSome (h (inode_place o.sizes n).block (inode_place o.sizes n).line) → at ≡ (inode_place o.sizes n).line * 64
    → at + 64 ≤ length buf.bytes
line-fits {o} n g at value is range gets some place =
    let long : o.sizes.block_size ≡ 1024 = sym (ap (λ q. q.block_size) value) ∙ is.block_size in
    let low = range.line (inode_place o.sizes n).block (inode_place o.sizes n).line some in
    let long' = is.block_size in
    omega (arith, long, long', low, gets.size, place)

-- the inode's line was got, and its bytes can be put
pub can-put-inode : {o : Origin} {h : Held} {b : ℕ} {buf : Loan} (n : ℕ) → Gets o h b buf → b ≡ (inode_place o.sizes n).block
    → IsSome (h (inode_place o.sizes n).block (inode_place o.sizes n).line) → (h' : Held) (m m' : Lent) → h' ≡ h → m' ≡ with b buf.bytes m
    → (bytes : List ℕ) (at : ℕ) → at ≡ (inode_place o.sizes n).line * 64 → ChangesOnly buf.bytes bytes at (at + 64)
    → CanPut h' m' (record { block = buf.block; bytes = bytes })
can-put-inode {o} {h} {b} {buf} n gets place some h' m m' same lends bytes at is changes =
    CanPut-got gets h' m m' same lends bytes changes.len
    (λ l none. outside at (inode_place o.sizes n).line l changes is
    (λ e. false≢true (sym (ap is_some none) ∙ (ap (λ q. is_some (h q l)) place
    ∙ (ap (λ q. is_some (h (inode_place o.sizes n).block q)) e ∙ some)))))

pub puts-inode : {o : Origin} {h h1 h2 : Held} {b n : ℕ} {buf : Loan} {body : InodeBody} → Gets o h b buf
    → b ≡ (inode_place o.sizes n).block → IsSome (h (inode_place o.sizes n).block (inode_place o.sizes n).line) → h1 ≡ h
    → (bytes : List ℕ) (at : ℕ) → at ≡ (inode_place o.sizes n).line * 64 → ChangesOnly buf.bytes bytes at (at + 64)
    → IsInode (slice_range bytes at (at + 64)) (Used body) → h2 ≡ put buf.block bytes h1 → PutsInode o.sizes n body h h2
unfolding line_of
puts-inode {o} {h} {h1} {h2} {b} {n} {buf} {body} gets place some same bytes at is changes spelled put_is = record {
  line = line_of bytes line;
  there = ap (λ q. q block line) puts ∙ put-line block bytes h line some;
  spelled = (let P : ℕ → Type 0 = λ q. IsInode (slice_range bytes q (q + 64)) (Used body) in subst P is spelled);
  others = others;
}
  where
    block : ℕ
    block = (inode_place o.sizes n).block

    line : ℕ
    line = (inode_place o.sizes n).line

    puts : h2 ≡ put block bytes h
    puts = put_is ∙ (ap (λ q. put q bytes h1) (gets.block ∙ place) ∙ ap (put block bytes) same)

    lines : (l : ℕ) → IfSome (h block l) (λ x. line_of buf.bytes l ≡ x)
    lines l = let P : ℕ → Type 0 = λ q. IfSome (h q l) (λ x. line_of buf.bytes l ≡ x) in subst P place (gets.lines l)

    kept : (l : ℕ) (p : Option (List ℕ)) → IfSome p (λ x. line_of buf.bytes l ≡ x) → option_map (λ _. line_of buf.bytes l) p ≡ p
    kept l None e = refl
    kept l (Some x) e = ap (λ q. Some q) e

    here : (l : ℕ) → l ≢ line → h2 block l ≡ h block l
    here l apart = ap (λ q. q block l) puts
        ∙ (put-at block bytes h l
        ∙ (ap (λ q. option_map (λ _. q) (h block l)) (outside at line l changes is apart) ∙ kept l (h block l) (lines l)))

    by : (c l : ℕ) (t : Bool) → (c == block) ≡ t → (c ≢ block) ⊎ (l ≢ line) → h2 c l ≡ h c l
    by c l false e apart = ap (λ q. q c l) puts ∙ put-other block bytes h c l e
    by c l true e (inl apart) = absurd (apart (eqb-true c block e))
    by c l true e (inr apart) =
        let P : ℕ → Type 0 = λ q. h2 q l ≡ h q l in subst P (sym (eqb-true c block e)) (here l apart)

    others : (c l : ℕ) → (c ≢ block) ⊎ (l ≢ line) → h2 c l ≡ h c l
    others c l apart = by c l (c == block) refl apart
