-- What is kept as blocks set aside are linked, and as the superblock is put.
use Rattle.std.proofs.Common.{◌≡◌, ◌≢◌, ◌≤◌, ◌<◌, ◌+◌, ◌*◌, ◌/◌, ◌%◌, ◌==◌, ◌&&◌, ◌⊎◌, inl, inr, ℕ, Bool, true, false, List, [], ◌∷◌, ◌++◌, length, take, get_or, is_some, nat_le, nat_lt, arith, refl, sym, ap, ◌∙◌, subst}
use Rattle.std.proofs.lemmas.Bool.{eqb-true}
use Rattle.std.proofs.lemmas.List.{append_assoc, take_all}
use Rattle.sv_dev.specs.Causes.{Rose}
use Rattle.sv_form.specs.Geometry.{IsDataBlock, IsGeometry, inode_place, super_place}
use Rattle.sv_form.specs.Superblock.{IsFreeCache, IsInodeCache, IsSuper}
use Rattle.sv_form.specs.declared.geometry.Geometry.{Geometry}
use Rattle.sv_form.specs.declared.superblock.Super.{Super}
use Rattle.sv_store.specs.Held.{Held, HoldsBlock, Lent, Origin, SameLines, nothing_lent, put}
use Rattle.sv_store.proofs.Holding.{SameLines-put, SameLines-eq, SameLines-trans, eqb_same, is_some-put}
use Rattle.sv_super.specs.Calls.{Links}
use Rattle.sv_super.specs.Core.{Head, HoldsFirst, HoldsInodes, HoldsOnly, HoldsSuper, IsCore, IsKept, IsSound, NamesSizes, free_times}
use Rattle.sv_super.specs.Count.{one_if, times}
use Rattle.sv_super.specs.FreeList.{IsChain, taken}
use Rattle.sv_super.specs.Written.{IsWritten, PutsSuper, Rewrites, is_super_line, super_bytes, super_of}
use Rattle.sv_super.proofs.Chains.{chain-more, frame, length-taken, taken-is}
use Rattle.sv_super.proofs.Counts.{apart, times-append, times-cons, times-snoc}
use Rattle.sv_super.proofs.InodeLines.{inodes-stay, kept-elsewhere, place-is, super-first}
use Rattle.sv_super.proofs.OnlyFree.{only-fewer, only-home}
use Rattle.sv_super.proofs.Sound.{kept-spelled, put-away, split-last}

-- ---- one block is linked

-- what a link changes
pub linked-others : {h new : Held} {list list' : List ℕ} (b : ℕ) → Links h new list list' b → (c : ℕ) → c ≢ b → new c ≡ h c
linked-others {h} {new} {list} {list'} b links c ne = by links.puts
  where
    by : (new ≡ h) ⊎ (new ≡ put b links.bytes h) → new c ≡ h c
    by (inl same) = ap (λ q. q c) same
    by (inr puts) = ap (λ q. q c) puts ∙ put-away b c links.bytes h ne

pub linked-lines : {h new : Held} {list list' : List ℕ} (b : ℕ) → Links h new list list' b → SameLines new h
linked-lines {h} {new} {list} {list'} b links = by links.puts
  where
    by : (new ≡ h) ⊎ (new ≡ put b links.bytes h) → SameLines new h
    by (inl same) = SameLines-eq new h same
    by (inr puts) = SameLines-trans (SameLines-eq new (put b links.bytes h) puts) (SameLines-put b links.bytes h)

-- the last that was set aside becomes the first of the chain
pub record Moved (o o' : Origin) (h new : Held) (m' : Lent) (list list' aside aside' : List ℕ) (n n' spare room' b : ℕ) : Type 0 where
  pub kept : IsKept o' new m' list' n' aside' spare room'
  pub chain : taken n' new list' ≡ b ∷ taken n h list
  pub split : aside ≡ aside' ++ b ∷ []
  pub in_data : IsDataBlock o.sizes b
  pub rewrites : Rewrites o.sizes (free_times (taken n h list) aside) h new

pub moved : {o o' : Origin} {h new : Held} {m m' : Lent} {list list' aside aside' : List ℕ} {n n' spare room room' : ℕ} (at b : ℕ) → IsKept o h m list n aside spare room → at + 1 ≡ length aside → get_or aside at 0 ≡ b → aside' ≡ take at aside → Links h new list list' b → n' ≡ n + 1 → room' ≡ room → o' ≡ o → m' ≡ nothing_lent → Moved o o' h new m' list list' aside aside' n n' spare room' b
moved {o} {o'} {h} {new} {m} {m'} {list} {list'} {aside} {aside'} {n} {n'} {spare} {room} {room'} at b kept last is cut links more larger home lent = record {
  kept = record {
    sound = (let P : Origin → Type 0 = λ q. IsSound q new m' (free_times (taken n' new list') aside') in
        subst P (sym home) (subst (λ q. IsSound o new m' (free_times q aside')) (sym order) sound));
    chain = subst (λ q. IsChain new list' q) (sym order) chain;
    only = only-home home
        (subst (λ q. HoldsOnly o new (free_times q aside')) (sym order)
        (only-fewer (free_times (b ∷ taken n h list) aside') kept.only (λ c l some in_data. sym ((linked-lines b links).at c l) ∙ some) (λ c. let e = count c in omega (arith, e))));
    fits = (let fits = kept.fits in let q = ap length parts in let l = long aside' in omega (arith, fits, q, l, larger));
  };
  chain = order;
  split = parts;
  in_data = kept.sound.in_data b here;
  rewrites = record {
    lines = linked-lines b links;
    others = λ c l none out. ap (λ q. q l) (linked-others b links c (λ same. absurd (let q = ap (free_times (taken n h list) aside) same in omega (arith, none, q, here))));
  };
}
  where
    parts : aside ≡ aside' ++ b ∷ []
    parts = split-last aside at b last is ∙ ap (λ q. q ++ b ∷ []) (sym cut)

    long : (xs : List ℕ) → length (xs ++ b ∷ []) ≡ length xs + 1
    long [] = refl
    long (x ∷ xs) = let h = long xs in omega arith

    each : (c : ℕ) → times c aside ≡ times c aside' + one_if (b == c)
    each c = ap (times c) parts ∙ times-snoc c b aside'

    here : 0 < free_times (taken n h list) aside b
    here = let e = each b in let q = ap one_if (eqb_same b) in omega (arith, e, q)

    not-chained : (c : ℕ) → 0 < times c (taken n h list) → c ≢ b
    not-chained c some same =
        let e = each b in
        let q = ap one_if (eqb_same b) in
        let o = kept.sound.once b in
        let r = ap (λ k. times k (taken n h list)) same in
        absurd (omega (arith, e, q, o, r, some))

    chain : IsChain new list' (b ∷ taken n h list)
    chain = chain-more new list' list b (taken n h list) links.next links.then (frame h new (taken n h list) list (λ c some. linked-others b links c (not-chained c some)) kept.chain)

    order : taken n' new list' ≡ b ∷ taken n h list
    order = taken-is new (b ∷ taken n h list) list' n' chain (let l = length-taken n h list in omega (arith, l, more))

    count : (c : ℕ) → free_times (b ∷ taken n h list) aside' c ≡ free_times (taken n h list) aside c
    count c = let e = each c in let q = times-cons c b (taken n h list) in omega (arith, e, q)

    sound : IsSound o new m' (free_times (b ∷ taken n h list) aside')
    sound = record {
      super = record { at = λ l low. (linked-lines b links).at (super_place o.sizes).block ((super_place o.sizes).line + l) ∙ kept.sound.super.at l low };
      lent = lent;
      in_data = λ c some. kept.sound.in_data c (let e = count c in omega (arith, e, some));
      whole = λ c some. record { at = λ l low. (linked-lines b links).at c l ∙ (kept.sound.whole c (let e = count c in omega (arith, e, some))).at l low };
      once = λ c. (let e = count c in let q = kept.sound.once c in omega (arith, e, q));
    }

pub inodes-linked : {o o' : Origin} {h new : Held} {list list' : List ℕ} {used : List Bool} (b : ℕ) → IsGeometry o.sizes → HoldsInodes o h used → o' ≡ o → Links h new list list' b → IsDataBlock o.sizes b → HoldsInodes o' new used
inodes-linked {o} {o'} {h} {new} {list} {list'} {used} b sizes is home links in_data =
    inodes-stay sizes is home (λ c l past low some. ap (λ q. q l) (linked-others b links c (λ same. absurd (omega (arith, low, same, in_data.least)))))

-- the order of all, after the last set aside became the first of the chain
pub same-order : {aside : List ℕ} (aside' : List ℕ) {chain chain' : List ℕ} (b : ℕ) → aside ≡ aside' ++ b ∷ [] → chain' ≡ b ∷ chain → aside' ++ chain' ≡ aside ++ chain
same-order {aside} aside' {chain} {chain'} b e f =
    ap (λ q. aside' ++ q) f ∙ (sym (append_assoc aside' (b ∷ []) chain) ∙ ap (λ q. q ++ chain) (sym e))

-- ---- one after another

pub rewrites-same : (g : Geometry) (f : ℕ → ℕ) {old new : Held} → new ≡ old → Rewrites g f old new
rewrites-same g f {old} {new} e = record { lines = SameLines-eq new old e; others = λ c l none out. ap (λ q. q c l) e }

order-counts : (aside aside' chain chain' : List ℕ) → aside' ++ chain' ≡ aside ++ chain → (c : ℕ) → free_times chain' aside' c ≡ free_times chain aside c
order-counts aside aside' chain chain' e c =
    let one = times-append c aside' chain' in
    let two = times-append c aside chain in
    let three = ap (times c) e in
    omega (arith, one, two, three)

pub rewrites-then : {g g' : Geometry} {old mid new : Held} (aside aside' chain chain' : List ℕ) → Rewrites g (free_times chain aside) old mid → Rewrites g' (free_times chain' aside') mid new → g' ≡ g → aside' ++ chain' ≡ aside ++ chain → Rewrites g (free_times chain aside) old new
rewrites-then {g} {g'} {old} {mid} {new} aside aside' chain chain' one two home e = record {
  lines = SameLines-trans two.lines one.lines;
  others = λ c l none out.
      two.others c l (order-counts aside aside' chain chain' e c ∙ none) (ap (λ q. is_super_line q c l) home ∙ out) ∙ one.others c l none out;
}

-- ---- the superblock is put

pub put-rewrites : {g : Geometry} (f : ℕ → ℕ) {h new : Held} {s : Super} → PutsSuper g h new s → Rewrites g f h new
put-rewrites {g} f {h} {new} {s} puts = record {
  lines = SameLines-trans (SameLines-eq new (put (super_place g).block puts.bytes h) puts.puts) (SameLines-put (super_place g).block puts.bytes h);
  others = λ c l none out. by c l out (c == (super_place g).block) refl;
}
  where
    by : (c l : ℕ) → is_super_line g c l ≡ false → (t : Bool) → (c == (super_place g).block) ≡ t → new c l ≡ h c l
    by c l out true e =
        let here = eqb-true c (super_place g).block e in
        let P : ℕ → Type 0 = λ q. new q l ≡ h q l in
        subst P (sym here) (puts.neighbours l (ap (λ q. is_super_line g q l) (sym here) ∙ out))
    by c l out false e = ap (λ q. q c l) puts.puts ∙ ap (λ q. q l) (put-away (super_place g).block c puts.bytes h (apart c (super_place g).block e))

pub core-put : {o o' : Origin} {h new : Held} {m m' : Lent} {list aside : List ℕ} {n spare room : ℕ} {used : List Bool} {head : Head} {s : Super} → IsGeometry o.sizes → IsCore o h m list n aside spare room used head → PutsSuper o.sizes h new s → o' ≡ o → m' ≡ nothing_lent → IsCore o' new m' list n aside spare room used head × (taken n new list ≡ taken n h list)
core-put {o} {o'} {h} {new} {m} {m'} {list} {aside} {n} {spare} {room} {used} {head} {s} sizes core puts home lent =
    (record { blocks = blocks.0; first = first; names = (let P : Origin → Type 0 = λ q. NamesSizes q.sizes head in subst P (sym home) core.names); inodes = inodes-stay sizes core.inodes home (λ c l past low some. ap (λ q. q l) (away c (λ same. absurd (omega (arith, past, same, super-first sizes))))) }, blocks.1)
  where
    away : (c : ℕ) → c ≢ (super_place o.sizes).block → new c ≡ h c
    away c ne = ap (λ q. q c) puts.puts ∙ put-away (super_place o.sizes).block c puts.bytes h ne

    first : HoldsFirst o' new
    first =
        (let P : Origin → Type 0 = λ q. HoldsFirst q new in
        subst P (sym home) (record { line = ap (λ q. q (inode_place o.sizes 1).line) (away (inode_place o.sizes 1).block (λ same. absurd (omega (arith, (place-is 1 sizes).0, same, super-first sizes)))) ∙ core.first.line }))

    blocks : IsKept o' new m' list n aside spare room × (taken n new list ≡ taken n h list)
    blocks =
        kept-elsewhere core.blocks home lent
        (λ c some. away c (λ same. absurd (let in_data = core.blocks.sound.in_data c some in omega (arith, same, in_data.least, sizes.least_first, super-first sizes))))
        (λ c l some in_data. sym (ap (λ q. is_some (q c l)) puts.puts ∙ is_some-put (super_place o.sizes).block puts.bytes h c l) ∙ some)
        (record { at = λ l low. ap (λ q. is_some (q (super_place o.sizes).block ((super_place o.sizes).line + l))) puts.puts ∙ (is_some-put (super_place o.sizes).block puts.bytes h (super_place o.sizes).block ((super_place o.sizes).line + l) ∙ core.blocks.sound.super.at l low) })

-- the superblock of the core
pub super-as : {bytes : List ℕ} {s : Super} (head : Head) (list cached : List ℕ) → IsSuper bytes s → s.block_type ≡ head.block_type → s.first_data ≡ head.first_data → s.blocks ≡ head.blocks → s.free.items ≡ list → s.inodes.items ≡ cached → IsSuper bytes (super_of head list cached)
super-as {bytes} {s} head list cached is a b c free inodes = record {
  size = is.size;
  magic = is.magic;
  block_type = is.block_type ∙ a;
  first_data = is.first_data ∙ b;
  blocks = is.blocks ∙ c;
  free = subst (IsFreeCache bytes) free is.free;
  inodes = subst (IsInodeCache bytes) inodes is.inodes;
  rest = is.rest;
}

pub written-put : {o o' : Origin} {h new : Held} {m m' : Lent} {list aside order : List ℕ} {n spare room : ℕ} {used : List Bool} {named : Head} {s : Super} (head : Head) (cached : List ℕ) → IsGeometry o.sizes → IsCore o h m list n aside spare room used named → PutsSuper o.sizes h new s → o' ≡ o → m' ≡ nothing_lent → s.block_type ≡ head.block_type → s.first_data ≡ head.first_data → s.blocks ≡ head.blocks → s.free.items ≡ list → s.inodes.items ≡ cached → order ≡ taken n new list → IsWritten o.sizes new head order cached
written-put {o} {o'} {h} {new} {m} {m'} {list} {aside} {order} {n} {spare} {room} {used} {named} {s} head cached sizes core puts home lent a b c free inodes is = record {
  list = list;
  spelled = super-as head list cached puts.spelled a b c free inodes;
  chain = subst (λ q. IsChain new list q) (sym is) (core-put sizes core puts home lent).0.blocks.chain;
}

pub whole-list : {list list' : List ℕ} (len : ℕ) → list' ≡ take len list → len ≡ length list → list' ≡ list
whole-list {list} {list'} len copy long = copy ∙ take_all len list (omega (arith, long))

pub rose-later : {a b c : ℕ} → a ≤ b → Rose b c → Rose a c
rose-later {a} {b} {c} low (inl more) = inl (omega (arith, low, more))
rose-later {a} {b} {c} low (inr last) = inr last
