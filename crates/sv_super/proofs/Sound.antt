-- What is kept of the free blocks as one is taken or freed.
use Rattle.std.proofs.Common.{◌≡◌, ◌≢◌, ◌<◌, ◌≤◌, ◌+◌, ◌*◌, ◌/◌, ◌==◌, ◌⊎◌, inl, inr, ℕ, zero, suc, Bool, true, false, cond, List, [], ◌∷◌, ◌++◌, ◌&&◌, nat_le, nat_lt, length, get_or, take, Option, Some, None, IsSome, is_some, option_map, refl, sym, ap, ◌∙◌, subst, arith}
use Rattle.std.proofs.Math.Path.{fun_ext}
use Rattle.std.proofs.lemmas.Bool.{eqb-true, false≢true}
use Rattle.std.proofs.lemmas.Bool.Decides.{nat_tests}
use Rattle.std.proofs.lemmas.List.{take_all}
use Rattle.sv_form.specs.OwnerTable.{OwnerTable}
use Rattle.sv_form.specs.Geometry.{IsDataBlock, IsGeometry, super_place}
use Rattle.sv_form.specs.LinkBlock.{HasSpelling}
use Rattle.sv_form.specs.declared.geometry.Geometry.{Geometry}
use Rattle.sv_store.specs.Held.{Apart, Both, Held, HoldsBlock, InRange, Lent, Origin, SameLines, line_of, nothing_lent, put}
use Rattle.sv_store.proofs.Holding.{SameLines-put, eqb_same, is_some-Both}
use Rattle.sv_super.specs.Calls.{CanMount, Links, is_free}
use Rattle.sv_super.specs.Core.{HoldsOnly, IsKept, IsSound, free_times, less}
use Rattle.sv_super.specs.Count.{one_if, sum_below, times}
use Rattle.sv_super.specs.FreeList.{HasList, IsChain, IsNext, after, last, list_of, taken}
use Rattle.sv_super.proofs.Chains.{chain-more, chain-next, chain-rest, chain-spelled, frame, length-taken, taken-is, taken-more}
use Rattle.sv_super.proofs.Counts.{few, length-times, one-le, other, sum-ext, times-at, times-nil, times-cons, times-first, times-snoc}
use Rattle.sv_super.proofs.Fronts.{block_list}
use Rattle.sv_super.proofs.OnlyFree.{only-both, only-fewer, only-home, only-less}

-- ---- a block less

pub less-other : (b c : ℕ) (h : Held) → c ≢ b → less b h c ≡ h c
unfolding less
less-other b c h ne = ap (λ t. λ (l : ℕ). cond t None (h c l)) (other c b ne)

sound-less : {o : Origin} {h h' : Held} {m m' : Lent} {f : ℕ → ℕ} (f' : ℕ → ℕ) (b : ℕ) → IsGeometry o.sizes → IsSound o h m f → ((c : ℕ) → f c ≡ one_if (b == c) + f' c) → h' ≡ less b h → m' ≡ nothing_lent → IsSound o h' m' f'
sound-less {o} {h} {h'} {m} {m'} {f} f' b sizes sound count cut lent = record {
  super = record { at = λ l low. ap (λ q. is_some (q ((super_place o.sizes).line + l))) (ap (λ q. q (super_place o.sizes).block) cut ∙ less-other b (super_place o.sizes).block h away) ∙ sound.super.at l low };
  lent = lent;
  in_data = λ c some. sound.in_data c (omega (arith, count c, some));
  whole = λ c some. record { at = λ l low. ap (λ q. is_some (q l)) (ap (λ q. q c) cut ∙ less-other b c h (ne c some)) ∙ (sound.whole c (omega (arith, count c, some))).at l low };
  once = λ c. omega (arith, count c, sound.once c);
}
  where
    first : f b ≡ 1 + f' b
    first = count b ∙ ap (λ t. one_if t + f' b) (eqb_same b)

    ne : (c : ℕ) → 0 < f' c → c ≢ b
    ne c some same = let q = ap f' same in absurd (omega (arith, first, sound.once b, some, q))

    away : (super_place o.sizes).block ≢ b
    away same =
        let is : IsDataBlock o.sizes b = sound.in_data b (omega (arith, first)) in
        let zeroth : (super_place o.sizes).block ≡ 0 = ap (λ n. 512 / n) sizes.block_size in
        absurd (omega (arith, sym same ∙ zeroth, is.least, sizes.least_first))

pub split-last : (xs : List ℕ) (n b : ℕ) → n + 1 ≡ length xs → get_or xs n 0 ≡ b → xs ≡ take n xs ++ b ∷ []
split-last [] n b e at = absurd (omega arith)
split-last (x ∷ xs) zero b e at = one xs (omega (arith, e)) at
  where
    one : (ys : List ℕ) → length ys ≡ 0 → x ≡ b → x ∷ ys ≡ b ∷ []
    one [] none same = ap (λ q. q ∷ []) same
    one (y ∷ ys) none same = absurd (omega arith)
split-last (x ∷ xs) (suc n) b e at = ap (λ q. x ∷ q) (split-last xs n b (omega (arith, e)) at)

-- the last of those set aside is taken
pub kept-aside : {o o' : Origin} {h h' : Held} {m m' : Lent} {list aside aside' : List ℕ} {n spare room room' : ℕ} (at b : ℕ) → IsGeometry o.sizes → IsKept o h m list n aside spare room → at + 1 ≡ length aside → get_or aside at 0 ≡ b → aside' ≡ take at aside → o' ≡ o → h' ≡ less b h → m' ≡ nothing_lent → room' ≡ room → IsKept o' h' m' list n aside' spare room' × (taken n h' list ≡ taken n h list) × (aside ≡ aside' ++ b ∷ [])
kept-aside {o} {o'} {h} {h'} {m} {m'} {list} {aside} {aside'} {n} {spare} {room} {room'} at b sizes kept last is left home cut lent same = (
  record {
    sound = sound;
    chain = subst (λ q. IsChain h' list q) (sym order) chain;
    only = only;
    fits = (let long = ap length (split) in let more = length_more aside' b in let old = kept.fits in omega arith);
  },
  order,
  split,
)
  where
    length_more : (xs : List ℕ) (b : ℕ) → length (xs ++ b ∷ []) ≡ length xs + 1
    length_more [] b = refl
    length_more (x ∷ xs) b = let h = length_more xs b in omega arith

    split : aside ≡ aside' ++ b ∷ []
    split = split-last aside at b last is ∙ ap (λ q. q ++ b ∷ []) (sym left)

    counts : (c : ℕ) → free_times (taken n h list) aside c ≡ one_if (b == c) + free_times (taken n h list) aside' c
    counts c = let e = ap (times c) split in let q = times-snoc c b aside' in omega arith

    gone : (c : ℕ) → 0 < times c (taken n h list) → c ≢ b
    gone c some same =
        let one = counts b in
        let two = kept.sound.once b in
        let three = ap one_if (eqb_same b) in
        let four = ap (λ q. times q (taken n h list)) same in
        absurd (omega arith)

    chain : IsChain h' list (taken n h list)
    chain = frame h h' (taken n h list) list (λ c some. ap (λ q. q c) cut ∙ less-other b c h (gone c some)) kept.chain

    order : taken n h' list ≡ taken n h list
    order = taken-is h' (taken n h list) list n chain (sym (length-taken n h list))

    sound : IsSound o' h' m' (free_times (taken n h' list) aside')
    sound =
        (let P : Origin → Type 0 = λ q. IsSound q h' m' (free_times (taken n h' list) aside') in
        subst P (sym home)
        (subst (λ q. IsSound o h' m' (free_times q aside')) (sym order) (sound-less (free_times (taken n h list) aside') b sizes kept.sound counts cut lent)))

    only : HoldsOnly o' h' (free_times (taken n h' list) aside')
    only =
        only-home home
        (subst (λ q. HoldsOnly o h' (free_times q aside')) (sym order) (only-less (free_times (taken n h list) aside') b kept.only counts cut))

-- the first of the chain is taken
pub kept-chained : {o o' : Origin} {h h' : Held} {m m' : Lent} {list list' aside : List ℕ} {n n' spare room : ℕ} (b : ℕ) → IsGeometry o.sizes → IsKept o h m list n aside spare room → n' + 1 ≡ n → b ≡ last list → list' ≡ after h list → o' ≡ o → h' ≡ less b h → m' ≡ nothing_lent → IsKept o' h' m' list' n' aside spare room × (taken n h list ≡ b ∷ taken n' h' list')
kept-chained {o} {o'} {h} {h'} {m} {m'} {list} {list'} {aside} {n} {n'} {spare} {room} b sizes kept less_one is next home cut lent =
    (record { sound = sound; chain = subst (λ q. IsChain h' list' q) (sym order) chain; only = only; fits = kept.fits }, split ∙ ap (λ q. b ∷ q) (sym order))
  where
    rest : List ℕ
    rest = taken n' h (after h list)

    split : taken n h list ≡ b ∷ rest
    split =
        (let e : n ≡ suc n' = omega (arith, less_one) in ap (λ q. taken q h list) e ∙ taken-more n' h list)
        ∙ ap (λ q. q ∷ rest) (sym is)

    counts : (c : ℕ) → free_times (taken n h list) aside c ≡ one_if (b == c) + free_times rest aside c
    counts c = let e = ap (times c) split in let q = times-cons c b rest in omega arith

    gone : (c : ℕ) → 0 < times c rest → c ≢ b
    gone c some same =
        let one = counts b in
        let two = kept.sound.once b in
        let three = ap one_if (eqb_same b) in
        let four = ap (λ q. times q rest) same in
        absurd (omega arith)

    old : IsChain h (after h list) rest
    old = chain-rest h list b rest (subst (λ q. IsChain h list q) split kept.chain)

    chain : IsChain h' list' rest
    chain = subst (λ q. IsChain h' q rest) (sym next) (frame h h' rest (after h list) (λ c some. ap (λ q. q c) cut ∙ less-other b c h (gone c some)) old)

    order : taken n' h' list' ≡ rest
    order = taken-is h' rest list' n' chain (sym (length-taken n' h (after h list)))

    sound : IsSound o' h' m' (free_times (taken n' h' list') aside)
    sound =
        (let P : Origin → Type 0 = λ q. IsSound q h' m' (free_times (taken n' h' list') aside) in
        subst P (sym home)
        (subst (λ q. IsSound o h' m' (free_times q aside)) (sym order) (sound-less (free_times rest aside) b sizes kept.sound counts cut lent)))

    only : HoldsOnly o' h' (free_times (taken n' h' list') aside)
    only = only-home home (subst (λ q. HoldsOnly o h' (free_times q aside)) (sym order) (only-less (free_times rest aside) b kept.only counts cut))

-- ---- a block more

-- what comes in with its lines is not free yet
not-free : {o : Origin} {h k : Held} {m : Lent} {f : ℕ → ℕ} (b : ℕ) → IsGeometry o.sizes → IsSound o h m f → HoldsBlock o k b → Apart h k → f b ≡ 0
not-free {o} {h} {k} {m} {f} b sizes sound holds away = by (f b) refl
  where
    by : (n : ℕ) → f b ≡ n → f b ≡ 0
    by zero e = e
    by (suc n) e =
        let line : 0 * 64 < o.sizes.block_size = omega (arith, sizes.block_size) in
        let mine = (sound.whole b (omega (arith, e))).at 0 line in
        absurd (false≢true (sym (ap is_some (away.at b 0 mine)) ∙ holds.at 0 line))

-- a block that was whole is as it was after a merge
pub both-same : (o : Origin) (h k : Held) (c : ℕ) → InRange o.sizes (Both h k) → IsGeometry o.sizes → HoldsBlock o h c → Both h k c ≡ h c
unfolding Both
both-same o h k c range sizes holds = fun_ext (λ l. by l (is_some (h c l)) refl)
  where
    none : (p : Option (List ℕ)) → is_some p ≡ false → p ≡ None
    none None e = refl
    none (Some x) e = absurd (false≢true (sym e))

    by : (l : ℕ) (t : Bool) → is_some (h c l) ≡ t → cond (is_some (h c l)) (h c l) (k c l) ≡ h c l
    by l true e = ap (λ t. cond t (h c l) (k c l)) e
    by l false e = ap (λ t. cond t (h c l) (k c l)) e ∙ (none (k c l) (away (is_some (k c l)) refl) ∙ sym (none (h c l) e))
      where
        away : (t : Bool) → is_some (k c l) ≡ t → is_some (k c l) ≡ false
        away false f = f
        away true f =
            let within = range.line c l (ap (λ t. is_some (cond t (h c l) (k c l))) e ∙ f) in
            absurd (false≢true (sym e ∙ holds.at l within))

pub put-away : (b c : ℕ) (bytes : List ℕ) (h : Held) → c ≢ b → put b bytes h c ≡ h c
unfolding put
put-away b c bytes h ne = ap (λ t. λ (l : ℕ). cond t (option_map (λ _. line_of bytes l) (h c l)) (h c l)) (other c b ne)

-- what came in, and was then written at most in block b
pub record Joined (h k new : Held) (b : ℕ) : Type 0 where
  pub lines : SameLines new (Both h k)
  pub others : (c : ℕ) → c ≢ b → new c ≡ Both h k c

some-first : (h k : Held) (c l : ℕ) → IsSome (h c l) → IsSome (Both h k c l)
some-first h k c l is = is_some-Both h k c l ∙ ap (λ t. cond t true (is_some (k c l))) is

some-second : (h k : Held) (c l : ℕ) → IsSome (k c l) → IsSome (Both h k c l)
some-second h k c l is = is_some-Both h k c l ∙ by (is_some (h c l)) (is_some (k c l)) is
  where
    by : (s t : Bool) → t ≡ true → cond s true t ≡ true
    by true t e = refl
    by false t e = e

sound-more : {o : Origin} {h k new : Held} {m m' : Lent} {f : ℕ → ℕ} (f' : ℕ → ℕ) (b : ℕ) → IsGeometry o.sizes → IsSound o h m f → IsDataBlock o.sizes b → HoldsBlock o k b → Apart h k → Joined h k new b → ((c : ℕ) → f' c ≡ one_if (b == c) + f c) → m' ≡ nothing_lent → IsSound o new m' f'
sound-more {o} {h} {k} {new} {m} {m'} {f} f' b sizes sound in_data holds away joined count lent = record {
  super = record { at = λ l low. joined.lines.at (super_place o.sizes).block ((super_place o.sizes).line + l) ∙ some-first h k (super_place o.sizes).block ((super_place o.sizes).line + l) (sound.super.at l low) };
  lent = lent;
  in_data = λ c some. data_of c some (b == c) refl;
  whole = λ c some. record { at = λ l low. joined.lines.at c l ∙ whole_of c some l low (b == c) refl };
  once = λ c. once_of c (b == c) refl;
}
  where
    data_of : (c : ℕ) → 0 < f' c → (t : Bool) → (b == c) ≡ t → IsDataBlock o.sizes c
    data_of c some true e = subst (λ q. IsDataBlock o.sizes q) (eqb-true b c e) in_data
    data_of c some false e = sound.in_data c (let q = ap one_if e in omega (arith, count c, some, q))

    whole_of : (c : ℕ) → 0 < f' c → (l : ℕ) → l * 64 < o.sizes.block_size → (t : Bool) → (b == c) ≡ t → IsSome (Both h k c l)
    whole_of c some l low true e = some-second h k c l (ap (λ q. is_some (k q l)) (sym (eqb-true b c e)) ∙ holds.at l low)
    whole_of c some l low false e = some-first h k c l ((sound.whole c (let q = ap one_if e in omega (arith, count c, some, q))).at l low)

    once_of : (c : ℕ) (t : Bool) → (b == c) ≡ t → f' c ≤ 1
    once_of c true e =
        let none : f b ≡ 0 = not-free b sizes sound holds away in
        let same = ap f (eqb-true b c e) in
        let q = ap one_if e in
        omega (arith, count c)
    once_of c false e = let q = ap one_if e in omega (arith, count c, sound.once c)

-- the chain of what came before stays
chain-stays : {o : Origin} {h k new : Held} {m : Lent} {list aside : List ℕ} {n spare room : ℕ} (b : ℕ) → IsGeometry o.sizes → InRange o.sizes (Both h k) → IsKept o h m list n aside spare room → HoldsBlock o k b → Apart h k → Joined h k new b → IsChain new list (taken n h list)
chain-stays {o} {h} {k} {new} {m} {list} {aside} {n} b sizes range kept holds away joined =
    frame h new (taken n h list) list
    (λ c some.
    let free : 0 < free_times (taken n h list) aside c = omega arith in
    joined.others c (λ same. let none = not-free b sizes kept.sound holds away in let q = ap (free_times (taken n h list) aside) same in absurd (omega (arith, none, q, free)))
    ∙ both-same o h k c range sizes (kept.sound.whole c free))
    kept.chain

-- a block is freed into the chain
pub kept-linked : {o o' : Origin} {h k new : Held} {m m' : Lent} {list list' aside : List ℕ} {n n' spare spare' room : ℕ} (b : ℕ) → IsGeometry o.sizes → InRange o.sizes (Both h k) → IsKept o h m list n aside spare room → IsDataBlock o.sizes b → HoldsBlock o k b → HoldsOnly o k (λ c. one_if (b == c)) → Apart h k → Joined h k new b → (old : Held) → Links old new list list' b → n' ≡ n + 1 → spare' ≤ spare → o' ≡ o → m' ≡ nothing_lent → IsKept o' new m' list' n' aside spare' room × (taken n' new list' ≡ b ∷ taken n h list)
kept-linked {o} {o'} {h} {k} {new} {m} {m'} {list} {list'} {aside} {n} {n'} {spare} {spare'} {room} b sizes range kept in_data holds mine away joined old links more fewer home lent =
    (record { sound = sound; chain = subst (λ q. IsChain new list' q) (sym order) chain; only = only; fits = (let fits = kept.fits in omega arith) }, order)
  where
    chain : IsChain new list' (b ∷ taken n h list)
    chain = chain-more new list' list b (taken n h list) links.next links.then (chain-stays b sizes range kept holds away joined)

    order : taken n' new list' ≡ b ∷ taken n h list
    order = taken-is new (b ∷ taken n h list) list' n' chain (let long = length-taken n h list in omega arith)

    sound : IsSound o' new m' (free_times (taken n' new list') aside)
    sound =
        (let P : Origin → Type 0 = λ q. IsSound q new m' (free_times (taken n' new list') aside) in
        subst P (sym home)
        (subst (λ q. IsSound o new m' (free_times q aside)) (sym order) (sound-more (free_times (b ∷ taken n h list) aside) b sizes kept.sound in_data holds away joined (λ c. let q = times-cons c b (taken n h list) in omega arith) lent)))

    only : HoldsOnly o' new (free_times (taken n' new list') aside)
    only =
        only-home home
        (subst (λ q. HoldsOnly o new (free_times q aside)) (sym order)
        (only-both (free_times (b ∷ taken n h list) aside) kept.only mine joined.lines (λ c. let q = times-cons c b (taken n h list) in omega arith)))

-- a block is freed and set aside
pub kept-set_aside : {o o' : Origin} {h k new : Held} {m m' : Lent} {list aside aside' : List ℕ} {n spare spare' room room' : ℕ} (b : ℕ) → IsGeometry o.sizes → InRange o.sizes (Both h k) → IsKept o h m list n aside spare room → IsDataBlock o.sizes b → HoldsBlock o k b → HoldsOnly o k (λ c. one_if (b == c)) → Apart h k → Joined h k new b → aside' ≡ aside ++ b ∷ [] → spare' + 1 ≡ spare → room ≤ room' → o' ≡ o → m' ≡ nothing_lent → IsKept o' new m' list n aside' spare' room' × (taken n new list ≡ taken n h list)
kept-set_aside {o} {o'} {h} {k} {new} {m} {m'} {list} {aside} {aside'} {n} {spare} {spare'} {room} {room'} b sizes range kept in_data holds mine away joined added fewer larger home lent =
    (record { sound = sound; chain = subst (λ q. IsChain new list q) (sym order) chain; only = only; fits = (let fits = kept.fits in let long = ap length added ∙ length_more aside in omega arith) }, order)
  where
    length_more : (xs : List ℕ) → length (xs ++ b ∷ []) ≡ length xs + 1
    length_more [] = refl
    length_more (x ∷ xs) = let h = length_more xs in omega arith

    chain : IsChain new list (taken n h list)
    chain = chain-stays b sizes range kept holds away joined

    order : taken n new list ≡ taken n h list
    order = taken-is new (taken n h list) list n chain (sym (length-taken n h list))

    sound : IsSound o' new m' (free_times (taken n new list) aside')
    sound =
        (let P : Origin → Type 0 = λ q. IsSound q new m' (free_times (taken n new list) aside') in
        subst P (sym home)
        (subst (λ q. IsSound o new m' (free_times q aside')) (sym order) (sound-more (free_times (taken n h list) aside') b sizes kept.sound in_data holds away joined (λ c. let e = ap (times c) added in let q = times-snoc c b aside in omega arith) lent)))

    only : HoldsOnly o' new (free_times (taken n new list) aside')
    only =
        only-home home
        (subst (λ q. HoldsOnly o new (free_times q aside')) (sym order)
        (only-both (free_times (taken n h list) aside') kept.only mine joined.lines (λ c. let e = ap (times c) added in let q = times-snoc c b aside in omega arith)))

-- what a link leaves of what came in
pub joined-linked : (h k new : Held) {mid : Held} {list list' : List ℕ} (b : ℕ) → mid ≡ Both h k → Links mid new list list' b → Joined h k new b
joined-linked h k new {mid} {list} {list'} b merged links = by links.puts
  where
    by : (new ≡ mid) ⊎ (new ≡ put b links.bytes mid) → Joined h k new b
    by (inl same) = record { lines = record { at = λ c l. ap (λ q. is_some (q c l)) (same ∙ merged) }; others = λ c ne. ap (λ q. q c) (same ∙ merged) }
    by (inr puts) = record {
      lines = record { at = λ c l. ap (λ q. is_some (q c l)) (puts ∙ ap (put b links.bytes) merged) ∙ (SameLines-put b links.bytes (Both h k)).at c l };
      others = λ c ne. ap (λ q. q c) (puts ∙ ap (put b links.bytes) merged) ∙ put-away b c links.bytes (Both h k) ne;
    }

pub joined-same : (h k new : Held) {mid : Held} (b : ℕ) → mid ≡ Both h k → new ≡ mid → Joined h k new b
joined-same h k new {mid} b merged same = record { lines = record { at = λ c l. ap (λ q. is_some (q c l)) (same ∙ merged) }; others = λ c ne. ap (λ q. q c) (same ∙ merged) }

-- ---- how many

-- there are no more free blocks than blocks
pub kept-few : {o : Origin} {h : Held} {m : Lent} {list aside : List ℕ} {n spare room : ℕ} → IsGeometry o.sizes → IsKept o h m list n aside spare room → n + length aside ≤ o.sizes.blocks
kept-few {o} {h} {m} {list} {aside} {n} sizes kept =
    let all = few o.sizes.blocks (taken n h list) aside (λ b some. (kept.sound.in_data b some).most) kept.sound.once in
    let long = length-taken n h list in
    omega arith

-- the list can be spelled
pub kept-spelled : {o : Origin} {h : Held} {m : Lent} {list aside : List ℕ} {n spare room : ℕ} → IsKept o h m list n aside spare room → HasSpelling (block_list list)
kept-spelled {o} {h} {m} {list} {aside} {n} kept = chain-spelled h (taken n h list) list kept.chain

-- ---- what is taken next

pub kept-next : {o : Origin} {h : Held} {m : Lent} {list aside : List ℕ} (n : ℕ) {spare room : ℕ} → IsKept o h m list n aside spare room → 1 ≤ n → IsNext h list (last list) × HoldsBlock o h (last list) × IsDataBlock o.sizes (last list)
kept-next zero kept some = absurd (omega arith)
kept-next {o} {h} {m} {list} {aside} (suc n) kept some =
    (chain-next h list (last list) (taken n h (after h list)) (subst (λ q. IsChain h list q) (taken-more n h list) kept.chain), kept.sound.whole (last list) free, kept.sound.in_data (last list) free)
  where
    free : 0 < free_times (taken (suc n) h list) aside (last list)
    free =
        let e = ap (times (last list)) (taken-more n h list) in
        let q = times-first (last list) (taken n h (after h list)) in
        omega arith

pub kept-last : {o : Origin} {h : Held} {m : Lent} {list aside : List ℕ} {n spare room : ℕ} (at b : ℕ) → IsKept o h m list n aside spare room → at < length aside → get_or aside at 0 ≡ b → HoldsBlock o h b × IsDataBlock o.sizes b
kept-last {o} {h} {m} {list} {aside} {n} at b kept low is =
    let free : 0 < free_times (taken n h list) aside b = (let q = times-at aside at b low is in omega arith) in
    (kept.sound.whole b free, kept.sound.in_data b free)

pub holds-same : {o o' : Origin} {h h' : Held} {b b' : ℕ} → o' ≡ o → h' ≡ h → b' ≡ b → HoldsBlock o h b → HoldsBlock o' h' b'
holds-same {o} {o'} {h} {h'} {b} {b'} e f n holds =
    (let P : Origin → Type 0 = λ q. HoldsBlock q h' b' in
    subst P (sym e) (let Q : Held → Type 0 = λ q. HoldsBlock o q b' in subst Q (sym f) (subst (λ q. HoldsBlock o h q) (sym n) holds)))

pub data-same : {o o' : Origin} {b b' : ℕ} → o' ≡ o → b' ≡ b → IsDataBlock o.sizes b → IsDataBlock o'.sizes b'
data-same {o} {o'} {b} {b'} e n is =
    (let P : Origin → Type 0 = λ q. IsDataBlock q.sizes b' in subst P (sym e) (subst (λ q. IsDataBlock o.sizes q) (sym n) is))

-- ---- the mount

pub kept-new : {o : Origin} {h : Held} {m : Lent} {t : OwnerTable} {list list' aside : List ℕ} {count len room : ℕ} → CanMount o h m t list → HoldsOnly o h (λ b. one_if (is_free t b)) → list' ≡ take len list → len ≡ length list → (sizes : Geometry) → sizes ≡ o.sizes → count ≡ sum_below sizes.blocks (λ b. one_if (is_free t b)) → aside ≡ [] → IsKept o h m list' count aside 0 room × IsChain h list (taken count h list')
kept-new {o} {h} {m} {t} {list} {list'} {aside} {count} {len} {room} can alone copy long sizes value counted none = (
  record {
    sound = subst (λ q. IsSound o h m (free_times q aside)) (sym order) sound;
    chain = subst (λ q. IsChain h list' q) (sym order) chain;
    only = subst (λ q. HoldsOnly o h (free_times q aside)) (sym order) (only-fewer (free_times can.order aside) alone (λ b l some in_data. some) (λ b. let e = can.each b in omega (arith, e)));
    fits = (let e = ap length none in omega arith);
  },
  subst (λ q. IsChain h list q) (sym order) can.chain,
)
  where
    same : list' ≡ list
    same = copy ∙ take_all len list (omega (arith, long))

    chain : IsChain h list' can.order
    chain = subst (λ q. IsChain h q can.order) (sym same) can.chain

    and-first : (x y : Bool) → (x && y) ≡ true → x ≡ true
    and-first true y e = refl
    and-first false y e = absurd (false≢true e)

    and-second : (x y : Bool) → (x && y) ≡ true → y ≡ true
    and-second true y e = e
    and-second false y e = absurd (false≢true e)

    le-yes : (a b : ℕ) → nat_le a b ≡ true → a ≤ b
    le-yes a b h = grind (nat_tests, arith)

    lt-yes : (a b : ℕ) → nat_lt a b ≡ true → a < b
    lt-yes a b h = grind (nat_tests, arith)

    yes : (x : Bool) → 0 < one_if x → x ≡ true
    yes true low = refl
    yes false low = absurd (omega arith)

    is : (b : ℕ) → 0 < times b can.order → is_free t b ≡ true
    is b some = yes (is_free t b) (let e = can.each b in omega arith)

    first : (b : ℕ) → 0 < times b can.order → o.sizes.first_data ≤ b
    first b some =
        let low = le-yes t.geometry.first_data b (and-first (nat_le t.geometry.first_data b) _ (is b some)) in
        omega (arith, low, ap (λ q. q.first_data) can.sizes)

    most : (b : ℕ) → 0 < times b can.order → b < o.sizes.blocks
    most b some =
        let low = lt-yes b t.geometry.blocks (and-first (nat_lt b t.geometry.blocks) _ (and-second (nat_le t.geometry.first_data b) _ (is b some))) in
        omega (arith, low, ap (λ q. q.blocks) can.sizes)

    empty : (b : ℕ) → times b aside ≡ 0
    empty b = ap (times b) none ∙ times-nil b

    sound : IsSound o h m (free_times can.order aside)
    sound = record {
      super = can.super;
      lent = can.lent;
      in_data = λ b some. (let some : 0 < times b can.order = (let e = empty b in omega arith) in record { least = first b some; most = most b some });
      whole = λ b some. can.whole b (let e = empty b in omega arith);
      once = λ b. (let e = empty b in let q = can.each b in let l = one-le (is_free t b) in omega arith);
    }

    order : taken count h list' ≡ can.order
    order =
        taken-is h can.order list' count chain
        (let e = length-times o.sizes.blocks can.order most in
        let q = sum-ext o.sizes.blocks (λ b. times b can.order) (λ b. one_if (is_free t b)) can.each in
        let r = ap (λ (s : Geometry). sum_below s.blocks (λ b. one_if (is_free t b))) value in
        omega arith)

-- ---- a part that came in

-- what the merge of a part that can be freed leaves
pub record IsReady (o : Origin) (h k : Held) (b : ℕ) : Type 0 where
  pub sizes : IsGeometry o.sizes
  pub range : InRange o.sizes (Both h k)
  pub in_data : IsDataBlock o.sizes b
  pub block : HoldsBlock o k b
  pub only : HoldsOnly o k (λ c. one_if (b == c))
  pub away : Apart h k

pub ready : {S : Type 0} (origin : S → Origin) (held : S → Held) (now inside part merged : S) (sizes : Geometry) (b : ℕ) → inside ≡ now → IsDataBlock (origin now).sizes b → HoldsBlock (origin now) (held part) b → HoldsOnly (origin now) (held part) (λ c. one_if (b == c)) → Apart (held now) (held part) → held merged ≡ Both (held inside) (held part) → origin merged ≡ origin inside → sizes ≡ (origin merged).sizes → IsGeometry sizes → InRange sizes (held merged) → IsReady (origin inside) (held inside) (held part) b
ready {S} origin held now inside part merged sizes b same in_data block mine away joins home value is range = record {
  sizes = (let P : Geometry → Type 0 = IsGeometry in subst P at_home is);
  range = (let P : Geometry → Type 0 = λ q. InRange q (Both (held inside) (held part)) in subst P at_home (let Q : Held → Type 0 = λ q. InRange sizes q in subst Q joins range));
  in_data = (let P : Origin → Type 0 = λ q. IsDataBlock q.sizes b in subst P (sym (ap origin same)) in_data);
  block = (let P : Origin → Type 0 = λ q. HoldsBlock q (held part) b in subst P (sym (ap origin same)) block);
  only = only-home (ap origin same) mine;
  away = (let P : Held → Type 0 = λ q. Apart q (held part) in subst P (sym (ap held same)) away);
}
  where
    at_home : sizes ≡ (origin inside).sizes
    at_home = value ∙ ap (λ q. q.sizes) home

-- the lines of a block are held after its part came in
pub held-more : {o o' : Origin} (h : Held) {k new : Held} {b : ℕ} → o' ≡ o → new ≡ Both h k → HoldsBlock o k b → HoldsBlock o' new b
held-more {o} {o'} h {k} {new} {b} e f holds = holds-same e f refl (record { at = λ l low. some-second h k b l (holds.at l low) })

pub kept-link : {o : Origin} {h : Held} {m : Lent} {list aside : List ℕ} (n : ℕ) {spare room : ℕ} → IsKept o h m list n aside spare room → 1 ≤ n → length list ≡ 1 → HasList (h (last list)) (list_of (h (last list)))
kept-link n kept some = (kept-next n kept some).0.link

-- ---- what was pushed

pub pushed : (xs : List ℕ) (b : ℕ) {new : List ℕ} (t : Bool) → t ≡ true → new ≡ cond t (xs ++ b ∷ []) xs → new ≡ xs ++ b ∷ []
pushed xs b t ok is = is ∙ ap (λ q. cond q (xs ++ b ∷ []) xs) ok

pub kept-aside_more : {o o' : Origin} {h k new : Held} {m m' : Lent} {list list' aside aside' : List ℕ} {n spare spare' room room' : ℕ} (b : ℕ) → IsReady o h k b → IsKept o h m list n aside spare room → Joined h k new b → list' ≡ list → aside' ≡ aside ++ b ∷ [] → spare' + 1 ≡ spare → room ≤ room' → o' ≡ o → m' ≡ nothing_lent → IsKept o' new m' list' n aside' spare' room' × (taken n new list' ≡ taken n h list)
kept-aside_more {o} {o'} {h} {k} {new} {m} {m'} {list} {list'} {aside} {aside'} {n} {spare} {spare'} {room} {room'} b is kept joined same added fewer larger home lent =
    subst (λ q. IsKept o' new m' q n aside' spare' room' × (taken n new q ≡ taken n h list)) (sym same)
    (kept-set_aside b is.sizes is.range kept is.in_data is.block is.only is.away joined added fewer larger home lent)
