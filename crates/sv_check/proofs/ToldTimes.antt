-- What the entries of directories say of one inode; and how many name it.
use Rattle.std.proofs.Common.{◌≡◌, ◌≤◌, ◌<◌, ◌+◌, ◌-◌, ◌^◌, ◌==◌, ◌&&◌, ◌||◌, ◌++◌, ◌∷◌, [], ◌∙◌, ℕ, Bool, not, true, false, List, Some, ap, sym, refl, cond, if◌then◌else◌, map, flat_map, filter, find, get_or, length, min, nat_lt, zero-add, arith}
use Rattle.std.specs.List.{enumerate_from, range_with_len}
use Rattle.std.proofs.lemmas.Bool.{eqb-true}
use Rattle.std.proofs.lemmas.List.{map-append}
use Rattle.std.proofs.lemmas.List.FromFn.{get_or-map-range_with_len, length-map-range_with_len}
use Rattle.std.proofs.lemmas.List.Sums.{sum_by-cons}
use Rattle.std.proofs.lemmas.Simd.{map-map}
use Rattle.sv_form.specs.declared.geometry.Geometry.{Geometry}
use Rattle.sv_form.specs.Geometry.{inode_count}
use Rattle.sv_form.specs.Image.{inode_of}
use Rattle.sv_check.specs.declared.sound.standings.Standing.{Standing}
use Rattle.sv_check.specs.declared.sound.standings.Standings.{Standings}
use Rattle.sv_check.specs.Directories.{Naming, directories, entries, named_by, namings, namings_of}
use Rattle.sv_check.specs.InodeList.{inode_numbers, is_free, link_counts, links_of, used_flags, used_inodes}
use Rattle.sv_check.specs.Links.{has_wrong_links, links_flaw, times_named}
use Rattle.sv_check.specs.Standings.{HaveTold, Told, after, named, one_more, put, step, told, told_from, told_in, unnamed, with_dots}

-- ---- one inode

-- what one entry says of inode n
abbrev pub told_to : ℕ → Told → Standing → Standing
told_to n t s = if t.directory == n then with_dots t (if named_by t.entry == n then named t s else s) else (if named_by t.entry == n then named t s else s)

put_here : (m : Standing → Standing) (all : ℕ → Standing) (k x : ℕ) (t : Bool) → (k == x) ≡ t → cond t (m (all k)) (all x) ≡ cond t (m (all x)) (all x)
put_here m all k x true is = ap (λ (z : ℕ). m (all z)) (eqb-true k x is)
put_here m all k x false is = refl

put_self : (m : Standing → Standing) (all : ℕ → Standing) (k x : ℕ) → put k (m (all k)) all x ≡ (if k == x then m (all x) else all x)
put_self m all k x = put_here m all k x (k == x) refl

step_one : (all : ℕ → Standing) (t : Told) (n : ℕ) → step all t n ≡ told_to n t (all n)
unfolding step
step_one all t n =
    put_self (with_dots t) (put (named_by t.entry) (named t (all (named_by t.entry))) all) t.directory n
    ∙ ap (λ (y : Standing). if t.directory == n then with_dots t y else y) (put_self (named t) all (named_by t.entry) n)

-- what these entries say of inode n
unfoldable pub one : ℕ → Standing → List Told → Standing
one n s [] = s
one n s (t ∷ ts) = one n (told_to n t s) ts

pub after_one : (all : ℕ → Standing) (ts : List Told) (n : ℕ) → after all ts n ≡ one n (all n) ts
unfolding one
after_one all [] n = refl
after_one all (t ∷ ts) n = after_one (step all t) ts n ∙ ap (λ (s : Standing). one n s ts) (step_one all t n)

-- ---- how many entries name it

abbrev pub naming_of : Told → Naming
naming_of t = record { directory = t.directory; place = t.place; inode = named_by t.entry }

times_to : (t : Told) (s : Standing) (a b : Bool) → (if b then with_dots t (if a then named t s else s) else (if a then named t s else s)).times ≡ cond a (one_more s.times) s.times
times_to t s true true = refl
times_to t s true false = refl
times_to t s false true = refl
times_to t s false false = refl

count_on : (a : Bool) (s next c all : ℕ) → s ≤ 2 ^ 16 - 1 → next ≡ cond a (one_more s) s → all ≡ cond a 1 0 + c → (next ≤ 2 ^ 16 - 1) × (min (next + c) (2 ^ 16 - 1) ≡ min (s + all) (2 ^ 16 - 1))
count_on true s next c all less is sum = (omega (arith, less, is), omega (arith, less, is, sum))
count_on false s next c all less is sum = (omega (arith, less, is), omega (arith, less, is, sum))

times_one : (n : ℕ) (ts : List Told) (s : Standing) → s.times ≤ 2 ^ 16 - 1 → (one n s ts).times ≡ min (s.times + times_named (map naming_of ts) n) (2 ^ 16 - 1)
unfolding one
times_one n [] s less =
    let alone : s.times ≡ min (s.times + 0) (2 ^ 16 - 1) = omega (arith, less) in
    alone
times_one n (t ∷ ts) s less =
    let a : Bool = named_by t.entry == n in
    let parts = count_on a s.times (told_to n t s).times (times_named (map naming_of ts) n) (times_named (map naming_of (t ∷ ts)) n) less
    (times_to t s a (t.directory == n)) (sum_by-cons (λ (e : Naming). cond (e.inode == n) 1 0) (naming_of t) (map naming_of ts)) in
    times_one n ts (told_to n t s) parts.0 ∙ parts.1

-- ---- all entries

named_in : (g : Geometry) (image : List ℕ) (ds : List ℕ) → map naming_of (flat_map (told_in g image) ds) ≡ flat_map (namings_of g image) ds
unfolding told_from
named_in g image [] = refl
named_in g image (d ∷ ds) =
    let mk : (ℕ × List ℕ) → Told = λ e. record { directory = d; place = e.0; entry = e.1 } in
    map-append naming_of (told_in g image d) (flat_map (told_in g image) ds)
    ∙ ap (λ (l : List Naming). l ++ map naming_of (flat_map (told_in g image) ds)) (map-map naming_of mk (enumerate_from 0 (entries g image d)))
    ∙ ap (λ (l : List Naming). namings_of g image d ++ l) (named_in g image ds)

pub all_named : (g : Geometry) (image : List ℕ) → map naming_of (told g image) ≡ namings g image
unfolding told namings
all_named g image = named_in g image (directories g image)

-- what the standings in memory say
pub standing_is : (g : Geometry) (image : List ℕ) (s : Standings) (n : ℕ) → HaveTold g image s → get_or s.of.items n unnamed ≡ one n unnamed (told g image)
standing_is g image s n is = ap (λ (f : ℕ → Standing). f n) is ∙ after_one (λ n. unnamed) (told g image) n

pub times_told : (g : Geometry) (image : List ℕ) (s : Standings) (n : ℕ) → HaveTold g image s → (get_or s.of.items n unnamed).times ≡ min (times_named (namings g image) n) (2 ^ 16 - 1)
times_told g image s n is =
    ap (λ (x : Standing). x.times) (standing_is g image s n is) ∙ times_one n (told g image) unnamed (omega arith)
    ∙ ap (λ (c : ℕ). min c (2 ^ 16 - 1)) (zero-add (times_named (map naming_of (told g image)) n))
    ∙ ap (λ (l : List Naming). min (times_named l n) (2 ^ 16 - 1)) (all_named g image)

-- ---- the first used inode with a flaw

pub find-filter : (p q : ℕ → Bool) (ns : List ℕ) → find p (filter q ns) ≡ find (λ n. q n && p n) ns
find-filter p q [] = refl
find-filter p q (n ∷ ns) = by_test (q n) (find-filter p q ns) where
  by_test : (t : Bool) → find p (filter q ns) ≡ find (λ n. q n && p n) ns → find p (cond t (n ∷ filter q ns) (filter q ns)) ≡ cond (t && p n) (Some n) (find (λ n. q n && p n) ns)
  by_test true same = ap (cond (p n) (Some n)) same
  by_test false same = same

module _ (g : Geometry) (image : List ℕ) where
  -- inode n is used, and its links are wrong
  abbrev pub is_mislinked : ℕ → Bool
  is_mislinked n = not (is_free (inode_of g image n)) && has_wrong_links (namings g image) n (inode_of g image n)

  pub links_first : find is_mislinked (range_with_len 1 (inode_count g + 1 - 1)) ≡ links_flaw g image
  unfolding links_flaw used_inodes
  links_first =
      let same : inode_count g + 1 - 1 ≡ inode_count g = omega arith in
      ap (λ (m : ℕ). find is_mislinked (range_with_len 1 m)) same
      ∙ sym (find-filter (λ n. has_wrong_links (namings g image) n (inode_of g image n)) (λ n. not (is_free (inode_of g image n))) (inode_numbers g))

  module _ (n : ℕ) (least : 1 ≤ n) (most : n ≤ inode_count g) where
    below : n - 1 < inode_count g
    below = omega (arith, least, most)

    at : 1 + (n - 1) ≡ n
    at = omega (arith, least)

    used_there : (used : List Bool) (d : Bool) → used ≡ used_flags g image → get_or used (n - 1) d ≡ not (is_free (inode_of g image n))
    unfolding used_flags
    used_there used d is = ap (λ (l : List Bool). get_or l (n - 1) d) is ∙ get_or-map-range_with_len (λ k. not (is_free (inode_of g image k))) 1 (inode_count g) (n - 1) n d below at

    links_there : (links : List ℕ) (d : ℕ) → links ≡ link_counts g image → get_or links (n - 1) d ≡ links_of (inode_of g image n)
    unfolding link_counts
    links_there links d is = ap (λ (l : List ℕ). get_or l (n - 1) d) is ∙ get_or-map-range_with_len (λ k. links_of (inode_of g image k)) 1 (inode_count g) (n - 1) n d below at

    pub unused_fine : (used : List Bool) (d : Bool) → used ≡ used_flags g image → get_or used (n - 1) d ≡ false → false ≡ is_mislinked n
    unused_fine used d is none = sym (ap (λ (t : Bool). t && has_wrong_links (namings g image) n (inode_of g image n)) (sym (used_there used d is) ∙ none))

    pub used_links : (used : List Bool) (d : Bool) (links : List ℕ) (e found times : ℕ) (s : Standings) (result : Bool) → used ≡ used_flags g image → links ≡ link_counts g image → HaveTold g image s
        → get_or used (n - 1) d ≡ true → found ≡ get_or links (n - 1) e → times ≡ (get_or s.of.items n unnamed).times
        → ((count : ℕ) → times ≡ min count (2 ^ 16 - 1) → result ≡ (nat_lt found 1 || nat_lt 1000 found || not (found == count))) → result ≡ is_mislinked n
    used_links used d links e found times s result flags counts told so at_links at_times wrong =
        wrong (times_named (namings g image) n) (at_times ∙ times_told g image s n told)
        ∙ ap (λ (l : ℕ). nat_lt l 1 || nat_lt 1000 l || not (l == times_named (namings g image) n)) (at_links ∙ links_there links e counts)
        ∙ sym (ap (λ (t : Bool). t && has_wrong_links (namings g image) n (inode_of g image n)) (sym (used_there used d flags) ∙ so))

pub counts_length : (g : Geometry) (image : List ℕ) (links : List ℕ) → links ≡ link_counts g image → length links ≡ inode_count g
unfolding link_counts
counts_length g image links is = ap (λ (l : List ℕ). length l) is ∙ length-map-range_with_len (λ k. links_of (inode_of g image k)) 1 (inode_count g)
