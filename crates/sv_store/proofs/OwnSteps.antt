-- What each call of an own stake does to its list.
use Rattle.std.proofs.Common.{◌≡◌, ◌<◌, ◌==◌, ◌&&◌, ◌++◌, ℕ, Bool, true, false, cond, List, [], ◌∷◌, length, map, set, get_or, Option, Some, None, IsSome, IfSome, is_some, is_none, option_map, unwrap_or, refl, sym, ap, ◌∙◌, subst, arith}
use Rattle.std.proofs.Math.Path.{fun_ext}
use Rattle.std.specs.List.{All}
use Rattle.std.proofs.lemmas.Bool.{false≢true, eqb-true}
use Rattle.std.proofs.lemmas.List.Elements.{All-head, All-tail}
use Rattle.sv_form.specs.declared.geometry.Geometry.{Geometry}
use Rattle.sv_store.specs.Held.{Held, line_of, put, with, without}
use Rattle.sv_store.specs.OwnBlock.{OwnBlock, nowhere, IsSound, line_in, held_of, is_out, lent_of, filled}
use Rattle.sv_store.proofs.Holding.{eqb_same}
use Rattle.sv_store.proofs.OwnLaws.{over, over-nothing, Both-over, held_of-cons, held_of-nil, held_of-append, held_of-filled, held_of-spare, lent_of-cons, lent_of-nil, lent_of-filled, lent_of-take, lent_of-give, and-true, count-at, none-out, sound-spare, out-taken, out-given}

is_out-empty : (b : ℕ) (e : OwnBlock) → e.block ≡ b → e.spare ≡ None → is_out b e ≡ true
unfolding is_out
is_out-empty b e same none =
    ap (λ q. (q == b) && is_none e.spare) same ∙ (ap (λ q. (b == b) && is_none q) none ∙ (and-true (b == b) ∙ eqb_same b))

-- an entry of a block that is not lent has its bytes
pub home-spare : (es : List OwnBlock) (at b : ℕ) → at < length es → (get_or es at nowhere).block ≡ b → lent_of es b ≡ None → IsSome (get_or es at nowhere).spare
home-spare es at b below same none = by (get_or es at nowhere).spare refl
  where
    by : (o : Option (List ℕ)) → (get_or es at nowhere).spare ≡ o → IsSome (get_or es at nowhere).spare
    by None e =
        absurd (omega (arith, count-at (is_out b) es at nowhere below (is_out-empty b (get_or es at nowhere) same e), none-out b es none))
    by (Some x) e = ap is_some e

-- bytes that agree with what is held change nothing where they are put
pub put-same : (b : ℕ) (bytes : List ℕ) (h : Held) → ((l : ℕ) → IfSome (h b l) (λ x. line_of bytes l ≡ x)) → put b bytes h ≡ h
unfolding put
put-same b bytes h same = fun_ext (λ c. fun_ext (λ l. by c l (c == b) refl))
  where
    agree : (l : ℕ) (o : Option (List ℕ)) → IfSome o (λ x. line_of bytes l ≡ x) → option_map (λ _. line_of bytes l) o ≡ o
    agree l None h = refl
    agree l (Some x) h = ap (λ q. Some q) h

    by : (c l : ℕ) (t : Bool) → (c == b) ≡ t → cond t (option_map (λ _. line_of bytes l) (h c l)) (h c l) ≡ h c l
    by c l true te =
        agree l (h c l) (let P : ℕ → Type 0 = λ q. IfSome (h q l) (λ x. line_of bytes l ≡ x) in subst P (sym (eqb-true c b te)) (same l))
    by c l false te = refl

-- a block is lent: its bytes are taken, and every entry is filled
pub lent-lend : (es : List OwnBlock) (at b : ℕ) (bytes : List ℕ) → at < length es → (get_or es at nowhere).block ≡ b → lent_of es b ≡ None → lent_of (map (filled b bytes) (set es at (record (get_or es at nowhere) { spare = None }))) ≡ with b bytes (lent_of es)
unfolding with
lent-lend es at b bytes below same none =
    fun_ext (λ c.
    lent_of-filled b bytes (set es at (record (get_or es at nowhere) { spare = None })) c
    ∙ (ap (λ q. cond (c == b) (option_map (λ _. bytes) q) q) (lent_of-take es at b c below same none) ∙ by c (c == b)))
  where
    by : (c : ℕ) (t : Bool) → cond t (option_map (λ _. bytes) (cond t (Some (get_or es at nowhere).kept) (lent_of es c))) (cond t (Some (get_or es at nowhere).kept) (lent_of es c)) ≡ cond t (Some bytes) (lent_of es c)
    by c true = refl
    by c false = refl

pub held-lend : (es : List OwnBlock) (at b : ℕ) (bytes : List ℕ) → held_of (map (filled b bytes) (set es at (record (get_or es at nowhere) { spare = None }))) ≡ put b bytes (held_of es)
held-lend es at b bytes =
    held_of-filled b bytes (set es at (record (get_or es at nowhere) { spare = None })) ∙ ap (put b bytes) (held_of-spare es at None)

pub sound-take : {g : Geometry} {es : List OwnBlock} → IsSound g es → (at b : ℕ) → at < length es → (get_or es at nowhere).block ≡ b → lent_of es b ≡ None → IsSound g (set es at (record (get_or es at nowhere) { spare = None }))
sound-take {g} {es} sound at b below same none = sound-spare sound at None below (λ x e. absurd (false≢true (ap is_some e))) (out-taken es at b below same none sound.out)

-- what is lent is a block long
pub lent-size : (g : Geometry) (es : List OwnBlock) (b : ℕ) (bytes : List ℕ) → All (λ e. length e.kept ≡ g.block_size) es → lent_of es b ≡ Some bytes → length bytes ≡ g.block_size
lent-size g [] b bytes kept lent = absurd (false≢true (ap is_some (sym (lent_of-nil b) ∙ lent)))
lent-size g (e ∷ es) b bytes kept lent =
    by (is_out b e) (sym (lent_of-cons e es b) ∙ lent) (lent-size g es b bytes (All-tail (λ e. length e.kept ≡ g.block_size) e es kept))
  where
    by : (o : Bool) → cond o (Some e.kept) (lent_of es b) ≡ Some bytes → (lent_of es b ≡ Some bytes → length bytes ≡ g.block_size) → length bytes ≡ g.block_size
    by true h rec =
        ap (λ (q : Option (List ℕ)). length (unwrap_or q bytes)) (sym h) ∙ All-head (λ e. length e.kept ≡ g.block_size) e es kept
    by false h rec = rec h

-- a block is taken back
pub lent-give : {g : Geometry} {es : List OwnBlock} → IsSound g es → (at b : ℕ) (bytes : List ℕ) → at < length es → is_out b (get_or es at nowhere) ≡ true → lent_of (set es at (record (get_or es at nowhere) { spare = Some bytes })) ≡ without b (lent_of es)
unfolding without
lent-give {g} {es} sound at b bytes below out = fun_ext (λ c. lent_of-give es at b c bytes below out (sound.out b))

pub sound-give : {g : Geometry} {es : List OwnBlock} → IsSound g es → (at : ℕ) (bytes : List ℕ) → at < length es → length bytes ≡ g.block_size → IsSound g (set es at (record (get_or es at nowhere) { spare = Some bytes }))
sound-give {g} {es} sound at bytes below size = sound-spare sound at (Some bytes) below (λ x e. ap (λ (q : Option (List ℕ)). length (unwrap_or q x)) (sym e) ∙ size) (out-given es at bytes below sound.out)

pub without-filled : (b : ℕ) (bytes : List ℕ) (es : List OwnBlock) → without b (lent_of (map (filled b bytes) es)) ≡ without b (lent_of es)
unfolding without
without-filled b bytes es =
    fun_ext (λ c. ap (cond (c == b) None) (lent_of-filled b bytes es c) ∙ by c (c == b))
  where
    by : (c : ℕ) (t : Bool) → cond t None (cond t (option_map (λ _. bytes) (lent_of es c)) (lent_of es c)) ≡ cond t None (lent_of es c)
    by c true = refl
    by c false = refl

pub lent-filled : (b : ℕ) (bytes : List ℕ) (es : List OwnBlock) → IsSome (lent_of es b) → lent_of (map (filled b bytes) es) b ≡ Some bytes
lent-filled b bytes es is =
    lent_of-filled b bytes es b
    ∙ (ap (λ q. cond q (option_map (λ _. bytes) (lent_of es b)) (lent_of es b)) (eqb_same b) ∙ by (lent_of es b) is)
  where
    by : (o : Option (List ℕ)) → IsSome o → option_map (λ _. bytes) o ≡ Some bytes
    by None is = absurd (false≢true is)
    by (Some x) is = refl

-- one entry more has been copied
pub gather-more : (p : List OwnBlock) (e : OwnBlock) (b : ℕ) (bytes bytes' : List ℕ) → ((l : ℕ) → IfSome (held_of p b l) (λ x. line_of bytes l ≡ x)) → ((l : ℕ) → line_of bytes' l ≡ unwrap_or (line_in e b l) (line_of bytes l)) → (l : ℕ) → IfSome (held_of (p ++ e ∷ []) b l) (λ x. line_of bytes' l ≡ x)
unfolding over
gather-more p e b bytes bytes' done more l =
    let P : Option (List ℕ) → Type 0 = λ q. IfSome q (λ x. line_of bytes' l ≡ x) in
    subst P (sym whole) (by (line_in e b l) (held_of p b l) (more l) (done l))
  where
    whole : held_of (p ++ e ∷ []) b l ≡ over (line_in e b l) (held_of p b l)
    whole =
        ap (λ q. q b l) (held_of-append p (e ∷ []))
        ∙ (Both-over (held_of (e ∷ [])) (held_of p) b l
        ∙ ap (λ q. over q (held_of p b l)) (ap (λ q. q b l) (held_of-cons e []) ∙ (Both-over (held_of []) (line_in e) b l ∙ (ap (λ q. over q (line_in e b l)) (held_of-nil b l) ∙ over-nothing (line_in e b l)))))

    by : (o h : Option (List ℕ)) → line_of bytes' l ≡ unwrap_or o (line_of bytes l) → IfSome h (λ x. line_of bytes l ≡ x) → IfSome (over o h) (λ x. line_of bytes' l ≡ x)
    by None None more done = tt
    by None (Some x) more done = more ∙ done
    by (Some y) h more done = more
