-- Whether a directory is well placed, as the standings say it.
use Rattle.std.proofs.Common.{◌≡◌, ◌≢◌, ◌+◌, ◌-◌, ◌^◌, ◌==◌, ◌&&◌, ◌||◌, ◌∷◌, [], ◌∙◌, ℕ, zero, suc, Bool, not, true, false, List, Option, Some, None, ap, sym, refl, cond, if◌then◌else◌, map, filter, find, drop, length, min, nat_le, nat_lt, option_map, unwrap_or, slice_index, arith}
use Rattle.std.specs.List.{list_any, list_all, range_with_len}
use Rattle.std.specs.Cmp.Lexicographic.{same_text}
use Rattle.std.proofs.Math.Path.{fun_ext}
use Rattle.std.proofs.lemmas.Bool.{eqb-true, false≢true}
use Rattle.sv_form.specs.declared.geometry.Geometry.{Geometry}
use Rattle.sv_form.specs.Geometry.{inode_count}
use Rattle.sv_form.specs.Image.{inode_of}
use Rattle.sv_form.specs.Node.{until_zero}
use Rattle.sv_plain.specs.Names.{same_bytes, some_and}
use Rattle.sv_check.specs.declared.sound.standings.Standing.{Standing}
use Rattle.sv_check.specs.declared.sound.standings.Standings.{Standings}
use Rattle.sv_check.specs.Climbs.{climbed, is_well_placed, step_up}
use Rattle.sv_check.specs.Directories.{Naming, above, above_in, are_dots, are_entries, directories, dot, dots, dots_flaw, entries, entry_flaw, has_dot, has_dots_once, has_no_hole, has_twins, holders_of, is_placed, leads_somewhere, name_in, named_by, namings, names_in, reads_entry, rises_to_root}
use Rattle.sv_check.specs.InodeList.{all_zero, is_directory}
use Rattle.sv_check.specs.Standings.{HaveTold, standing_of, told, unnamed}
use Rattle.sv_check.specs.Walk.{is_among}
use Rattle.sv_check.proofs.ClimbSteps.{climbed-inner}
use Rattle.sv_check.proofs.EntryTakes.{named_test}
use Rattle.sv_check.proofs.InodeReads.{and_first, and_second}
use Rattle.sv_check.proofs.ToldDots.{above_all, dot_all, held_never, held_once, held_one, holder_one, last_or}
use Rattle.sv_check.proofs.ToldTimes.{all_named, standing_is}

-- ---- the numbers of the directories

module _ (q : ℕ → Bool) where
  abbrev between : ℕ → ℕ → ℕ → Bool
  between a n x = nat_le a x && nat_lt x (a + n)

  between_first : (a n x : ℕ) → a ≡ x → between a (suc n) x ≡ true
  between_first a n x e = grind (arith, e)

  between_later : (a n x : ℕ) → a ≢ x → between (a + 1) n x ≡ between a (suc n) x
  between_later a n x other = grind (arith, other)

  between_none : (a x : ℕ) → between a 0 x ≡ false
  between_none a x = grind arith

  and_false : (t : Bool) → (t && false) ≡ false
  and_false true = refl
  and_false false = refl

  and_true : (t : Bool) → (t && true) ≡ t
  and_true true = refl
  and_true false = refl

  among_step : (a n x : ℕ) (t u : Bool) (rest : List ℕ) → q a ≡ t → (a == x) ≡ u → is_among rest x ≡ (q x && between (a + 1) n x) → is_among (cond t (a ∷ rest) rest) x ≡ (q x && between a (suc n) x)
  among_step a n x true true rest so here later =
      let same = eqb-true a x here in
      ap (λ (b : Bool). b || is_among rest x) here ∙ sym (ap (λ (b : Bool). q x && b) (between_first a n x same) ∙ and_true (q x) ∙ ap q (sym same) ∙ so)
  among_step a n x false true rest so here later =
      let same = eqb-true a x here in
      let fails : q x ≡ false = ap q (sym same) ∙ so in
      later ∙ ap (λ (b : Bool). b && between (a + 1) n x) fails ∙ sym (ap (λ (b : Bool). b && between a (suc n) x) fails)
  among_step a n x true false rest so other later =
      let apart : a ≢ x = grind (arith, other) in
      ap (λ (b : Bool). b || is_among rest x) other ∙ later ∙ ap (λ (b : Bool). q x && b) (between_later a n x apart)
  among_step a n x false false rest so other later =
      let apart : a ≢ x = grind (arith, other) in
      later ∙ ap (λ (b : Bool). q x && b) (between_later a n x apart)

  pub among_filter : (n a x : ℕ) → is_among (filter q (range_with_len a n)) x ≡ (q x && (nat_le a x && nat_lt x (a + n)))
  among_filter zero a x = sym (ap (λ (b : Bool). q x && b) (between_none a x) ∙ and_false (q x))
  among_filter (suc n) a x = among_step a n x (q a) (a == x) (filter q (range_with_len (a + 1) n)) refl refl (among_filter n (a + 1) x)

none_among : (p : ℕ → Bool) (ds : List ℕ) (x : ℕ) → find p ds ≡ None → is_among ds x ≡ true → p x ≡ false
none_among p [] x none among = absurd (false≢true among)
none_among p (d ∷ ds) x none among = by_tests (p d) (d == x) refl refl none among (none_among p ds x) where
  by_tests : (t u : Bool) → p d ≡ t → (d == x) ≡ u → cond t (Some d) (find p ds) ≡ None → (u || is_among ds x) ≡ true
      → (find p ds ≡ None → is_among ds x ≡ true → p x ≡ false) → p x ≡ false
  by_tests true u is here none among rest = let no : ⊥ = cc none in absurd no
  by_tests false true is here none among rest = ap p (sym (eqb-true d x here)) ∙ is
  by_tests false false is here none among rest = rest none among

or_second : (a b : Bool) → b ≡ true → (a || b) ≡ true
or_second true b e = refl
or_second false b e = e

or_first : (a b : Bool) → a ≡ true → (a || b) ≡ true
or_first true b e = refl
or_first false b e = absurd (false≢true e)

eqb-self : (d : ℕ) → (d == d) ≡ true
eqb-self d = grind arith

pub find_alike : (p r : ℕ → Bool) (ds : List ℕ) → ((x : ℕ) → is_among ds x ≡ true → p x ≡ r x) → find p ds ≡ find r ds
find_alike p r [] same = refl
find_alike p r (d ∷ ds) same =
    ap (λ (t : Bool). cond t (Some d) (find p ds)) (same d (or_first (d == d) (is_among ds d) (eqb-self d)))
    ∙ ap (cond (r d) (Some d)) (find_alike p r ds (λ x among. same x (or_second (d == x) (is_among ds x) among)))

-- ---- entries that are in order

empty_name : (e : List ℕ) → all_zero e ≡ true → name_in e ≡ []
empty_name [] zeros = refl
empty_name (a ∷ []) zeros = refl
empty_name (a ∷ b ∷ []) zeros = refl
empty_name (a ∷ b ∷ c ∷ rest) zeros =
    let third = and_first (c == 0) (all_zero rest) (and_second (b == 0) (all_zero (c ∷ rest)) (and_second (a == 0) (all_zero (b ∷ c ∷ rest)) zeros)) in
    ap (λ (t : Bool). if t then [] else c ∷ until_zero rest) third

-- an entry that reads and has a name names an inode
empty_unnamed : (e : List ℕ) (t : Bool) → (named_by e == 0) ≡ t → reads_entry e ≡ true → (x : ℕ) (xs : List ℕ) → same_bytes (name_in e) (x ∷ xs) ≡ true → t ≡ false
empty_unnamed e false none reads x xs same = refl
empty_unnamed e true none reads x xs same =
    let zeros : all_zero e ≡ true = sym (ap (λ (t : Bool). if t then all_zero e else (not (length (name_in e) == 0) && list_all (λ b. not (b == 47)) (name_in e) && all_zero (drop (2 + length (name_in e)) e))) none) ∙ reads in
    absurd (false≢true (sym (ap (λ (l : List ℕ). same_bytes l (x ∷ xs)) (empty_name e zeros)) ∙ same))

not_true : (t : Bool) → not t ≡ true → t ≡ false
not_true false e = refl
not_true true e = absurd (false≢true e)

or_none : (a b : Bool) → (a || b) ≡ false → (a ≡ false) × (b ≡ false)
or_none false b e = (refl, e)
or_none true b e = absurd (false≢true (sym e))

other_name : (x y : List ℕ) → same_bytes x x ≡ true → same_bytes x y ≡ false → (t : Bool) → same_bytes y x ≡ t → t ≡ false
other_name x y self apart false is = refl
other_name x y self apart true is = absurd (false≢true (sym apart ∙ ap (same_bytes x) (same_text y x (sym is)) ∙ self))

module _ (g : Geometry) (image : List ℕ) where
  abbrev good : List ℕ → Bool
  good e = reads_entry e && leads_somewhere g image e

  -- neither name comes again
  once_rest : (rest : List (List ℕ)) → list_all good rest ≡ true → list_any (same_bytes dot) (names_in rest) ≡ false → list_any (same_bytes dots) (names_in rest) ≡ false
      → list_all (λ e. not (same_bytes (name_in e) dot) && not (same_bytes (name_in e) dots)) rest ≡ true
  once_rest [] all no_dot no_dots = refl
  once_rest (e ∷ es) all no_dot no_dots =
      let reads = and_first (reads_entry e) (leads_somewhere g image e) (and_first (good e) (list_all good es) all) in
      let later = and_second (good e) (list_all good es) all in
      by_number (named_by e == 0) refl reads later no_dot no_dots (once_rest es later) where
        by_number : (t : Bool) → (named_by e == 0) ≡ t → reads_entry e ≡ true → list_all good es ≡ true
            → list_any (same_bytes dot) (map name_in (cond (not t) (e ∷ filter (λ x. not (named_by x == 0)) es) (filter (λ x. not (named_by x == 0)) es))) ≡ false
            → list_any (same_bytes dots) (map name_in (cond (not t) (e ∷ filter (λ x. not (named_by x == 0)) es) (filter (λ x. not (named_by x == 0)) es))) ≡ false
            → (list_any (same_bytes dot) (names_in es) ≡ false → list_any (same_bytes dots) (names_in es) ≡ false
            → list_all (λ e. not (same_bytes (name_in e) dot) && not (same_bytes (name_in e) dots)) es ≡ true)
            → list_all (λ e. not (same_bytes (name_in e) dot) && not (same_bytes (name_in e) dots)) (e ∷ es) ≡ true
        by_number true none reads later no_dot no_dots rest =
            let zeros : all_zero e ≡ true = sym (ap (λ (t : Bool). if t then all_zero e else (not (length (name_in e) == 0) && list_all (λ b. not (b == 47)) (name_in e) && all_zero (drop (2 + length (name_in e)) e))) none) ∙ reads in
            ap (λ (l : List ℕ). (not (same_bytes l dot) && not (same_bytes l dots)) && list_all (λ e. not (same_bytes (name_in e) dot) && not (same_bytes (name_in e) dots)) es) (empty_name e zeros)
            ∙ rest no_dot no_dots
        by_number false some reads later no_dot no_dots rest =
            let one_parts = or_none (same_bytes dot (name_in e)) (list_any (same_bytes dot) (names_in es)) no_dot in
            let two_parts = or_none (same_bytes dots (name_in e)) (list_any (same_bytes dots) (names_in es)) no_dots in
            let a : same_bytes (name_in e) dot ≡ false = other_name dot (name_in e) refl one_parts.0 (same_bytes (name_in e) dot) refl in
            let b : same_bytes (name_in e) dots ≡ false = other_name dots (name_in e) refl two_parts.0 (same_bytes (name_in e) dots) refl in
            ap (λ (t : Bool). (not t && not (same_bytes (name_in e) dots)) && list_all (λ e. not (same_bytes (name_in e) dot) && not (same_bytes (name_in e) dots)) es) a
            ∙ ap (λ (t : Bool). not t && list_all (λ e. not (same_bytes (name_in e) dot) && not (same_bytes (name_in e) dots)) es) b ∙ rest one_parts.1 two_parts.1

  module _ (es : List (List ℕ)) (order : are_entries g image es ≡ true) where
    all_good : list_all good es ≡ true
    all_good = and_first (list_all good es) (not (has_twins (names_in es))) order

    no_twins : has_twins (names_in es) ≡ false
    no_twins = not_true (has_twins (names_in es)) (and_second (list_all good es) (not (has_twins (names_in es))) order)

  -- what `..` leads to is an inode
  above_some : (es : List (List ℕ)) → are_entries g image es ≡ true → (a : ℕ) → above es ≡ Some a → a ≢ 0
  above_some [] order a is none = let no : ⊥ = cc is in no
  above_some (e ∷ []) order a is none = let no : ⊥ = cc is in no
  above_some (e ∷ f ∷ es) order a is none =
      let reads = and_first (reads_entry f) (leads_somewhere g image f) (and_first (good f) (list_all good es) (and_second (good e) (list_all good (f ∷ es)) (all_good (e ∷ f ∷ es) order))) in
      by_name (same_bytes (name_in f) dots) refl is where
        by_name : (t : Bool) → same_bytes (name_in f) dots ≡ t → option_map named_by (cond t (Some f) None) ≡ Some a → ⊥
        by_name false other is = let no : ⊥ = cc is in no
        by_name true same is =
            let number : named_by f ≡ a = ap (λ (o : Option ℕ). unwrap_or o 0) is in
            let reads = and_first (reads_entry f) (leads_somewhere g image f) (and_first (good f) (list_all good es) (and_second (good e) (list_all good (f ∷ es)) (all_good (e ∷ f ∷ es) order))) in
            let zero_here : (named_by f == 0) ≡ true = ap (λ (x : ℕ). x == 0) (number ∙ none) in
            false≢true (sym (empty_unnamed f true zero_here reads 46 (46 ∷ []) same))

  -- where both stand at the front, neither comes again
  dots_once : (d : ℕ) (es : List (List ℕ)) (a : ℕ) → d ≢ 0 → are_entries g image es ≡ true → has_dot es d ≡ true → above es ≡ Some a → has_dots_once es ≡ true
  dots_once d [] a some order front up = absurd (false≢true front)
  dots_once d (e ∷ []) a some order front up = let no : ⊥ = cc up in absurd no
  dots_once d (e ∷ f ∷ es) a some order front up =
      let goods = all_good (e ∷ f ∷ es) order in
      let rest = and_second (good f) (list_all good es) (and_second (good e) (list_all good (f ∷ es)) goods) in
      by_name (same_bytes (name_in f) dots) refl up rest (no_twins (e ∷ f ∷ es) order) (once_rest es rest) where
        or_false : (t : Bool) → (t || false) ≡ true → t ≡ true
        or_false true e = refl
        or_false false e = e

        by_name : (t : Bool) → same_bytes (name_in f) dots ≡ t → option_map named_by (cond t (Some f) None) ≡ Some a → list_all good es ≡ true → has_twins (names_in (e ∷ f ∷ es)) ≡ false
            → (list_any (same_bytes dot) (names_in es) ≡ false → list_any (same_bytes dots) (names_in es) ≡ false
            → list_all (λ e. not (same_bytes (name_in e) dot) && not (same_bytes (name_in e) dots)) es ≡ true)
            → list_all (λ e. not (same_bytes (name_in e) dot) && not (same_bytes (name_in e) dots)) es ≡ true
        by_name false other up rest twins once = let no : ⊥ = cc up in absurd no
        by_name true same up rest twins once =
            let front_parts = or_false ((named_by e == d) && same_bytes (name_in e) dot) front in
            let own : named_by e ≡ d = eqb-true (named_by e) d (and_first (named_by e == d) (same_bytes (name_in e) dot) front_parts) in
            let first : name_in e ≡ dot = same_text (name_in e) dot (sym (and_second (named_by e == d) (same_bytes (name_in e) dot) front_parts)) in
            let second : name_in f ≡ dots = same_text (name_in f) dots (sym same) in
            let named_e : (named_by e == 0) ≡ false = named_test (named_by e) d own some in
            let f_some : named_by f ≢ 0 = λ z. above_some (e ∷ f ∷ es) order (named_by f) (ap (λ (t : Bool). option_map named_by (cond t (Some f) None)) same) z in
            let named_f : (named_by f == 0) ≡ false = named_test (named_by f) (named_by f) refl f_some in
            let names : names_in (e ∷ f ∷ es) ≡ dot ∷ dots ∷ names_in es =
            ap (λ (t : Bool). map name_in (cond (not t) (e ∷ cond (not (named_by f == 0)) (f ∷ filter (λ x. not (named_by x == 0)) es) (filter (λ x. not (named_by x == 0)) es))
            (cond (not (named_by f == 0)) (f ∷ filter (λ x. not (named_by x == 0)) es) (filter (λ x. not (named_by x == 0)) es)))) named_e
            ∙ ap (λ (t : Bool). name_in e ∷ map name_in (cond (not t) (f ∷ filter (λ x. not (named_by x == 0)) es) (filter (λ x. not (named_by x == 0)) es))) named_f
            ∙ ap (λ (n : List ℕ). n ∷ name_in f ∷ names_in es) first ∙ ap (λ (n : List ℕ). dot ∷ n ∷ names_in es) second in
            let apart : has_twins (dot ∷ dots ∷ names_in es) ≡ false = ap has_twins (sym names) ∙ twins in
            let parts = or_none (list_any (same_bytes dot) (dots ∷ names_in es)) (has_twins (dots ∷ names_in es)) apart in
            let later = or_none (list_any (same_bytes dots) (names_in es)) (has_twins (names_in es)) parts.1 in
            once parts.0 later.0

-- ---- the way to the root

module _ (up : ℕ → Option ℕ) (f : ℕ → ℕ) (nowhere : f 0 ≡ 0) (root : f 2 ≡ 2) (same : (x : ℕ) → x ≢ 0 → x ≢ 2 → f x ≡ unwrap_or (up x) 0) (some : (x e : ℕ) → x ≢ 0 → up x ≡ Some e → e ≢ 0) where
  stays : (k x : ℕ) → f x ≡ x → climbed f k x ≡ x
  unfolding climbed
  stays zero x is = refl
  stays (suc k) x is = ap f (stays k x is) ∙ is

  pub rises_climbs : (k d : ℕ) → d ≢ 0 → rises_to_root up k d ≡ (climbed f k d == 2)
  unfolding rises_to_root climbed
  rises_climbs zero d here = refl
  rises_climbs (suc k) d here = by_test (d == 2) refl (up d) refl (rises_climbs k) ∙ ap (λ (x : ℕ). x == 2) (sym (climbed-inner f k d)) where
    by_test : (t : Bool) → (d == 2) ≡ t → (o : Option ℕ) → up d ≡ o → ((e : ℕ) → e ≢ 0 → rises_to_root up k e ≡ (climbed f k e == 2)) → (t || some_and o (rises_to_root up k)) ≡ (climbed f k (f d) == 2)
    by_test true is o at rest =
        let two = eqb-true d 2 is in
        sym (ap (λ (x : ℕ). x == 2) (ap (λ (x : ℕ). climbed f k (f x)) two ∙ ap (climbed f k) root ∙ stays k 2 root))
    by_test false is None at rest =
        let other : d ≢ 2 = grind (arith, is) in
        let gone : f d ≡ 0 = same d here other ∙ ap (λ (o : Option ℕ). unwrap_or o 0) at in
        sym (ap (λ (x : ℕ). x == 2) (ap (climbed f k) gone ∙ stays k 0 nowhere))
    by_test false is (Some e) at rest =
        let other : d ≢ 2 = grind (arith, is) in
        let on : f d ≡ e = same d here other ∙ ap (λ (o : Option ℕ). unwrap_or o 0) at in
        rest e (some d e here at) ∙ sym (ap (λ (x : ℕ). climbed f k x == 2) on)

-- ---- the whole condition

-- of one directory: its `.`, its `..`, no other of these names, the way to the root, and who holds it
placed_same : (d : ℕ) (front : Bool) (up : Option ℕ) (hs : List ℕ) (once rises : Bool) → ((a : ℕ) → up ≡ Some a → a ≢ 0) → ((a : ℕ) → front ≡ true → up ≡ Some a → once ≡ true)
    → (front && some_and up (λ a. if d == 2 then ((a == 2) && same_bytes hs []) else same_bytes hs (a ∷ [])) && once && rises)
    ≡ ((front && not (unwrap_or up 0 == 0)
    && (if d == 2 then ((unwrap_or up 0 == 2) && (min (0 + length hs) (2 ^ 16 - 1) == 0)) else ((min (0 + length hs) (2 ^ 16 - 1) == 1) && (last_or 0 hs == unwrap_or up 0)))) && rises)
placed_same d false up hs once rises some only = refl
placed_same d true None hs once rises some only = refl
placed_same d true (Some a) hs once rises some only =
    let here : (a == 0) ≡ false = grind (arith, some a refl) in
    ap (λ (t : Bool). (if d == 2 then ((a == 2) && same_bytes hs []) else same_bytes hs (a ∷ [])) && t && rises) (only a refl refl)
    ∙ ap (λ (t : Bool). (if d == 2 then ((a == 2) && t) else same_bytes hs (a ∷ [])) && true && rises) (held_never hs)
    ∙ ap (λ (t : Bool). (if d == 2 then ((a == 2) && (min (0 + length hs) (2 ^ 16 - 1) == 0)) else t) && true && rises) (held_once hs a)
    ∙ last (if d == 2 then ((a == 2) && (min (0 + length hs) (2 ^ 16 - 1) == 0)) else ((min (0 + length hs) (2 ^ 16 - 1) == 1) && (last_or 0 hs == a))) (a == 0) here where
      last : (p z : Bool) → z ≡ false → (p && true && rises) ≡ ((true && not z && p) && rises)
      last true true e = absurd (false≢true (sym e))
      last true false e = refl
      last false true e = absurd (false≢true (sym e))
      last false false e = refl

not_false : (t : Bool) → not t ≡ false → t ≡ true
not_false true e = refl
not_false false e = sym e

numbered : (x c : ℕ) → x ≢ 0 → (nat_le 1 x && nat_lt x (1 + c)) ≡ nat_le x c
numbered x c some = grind (arith, some)

up_by : (t : Bool) (a : Option ℕ) → cond t (unwrap_or a 0) 0 ≡ unwrap_or (cond t a None) 0
up_by true a = refl
up_by false a = refl

module _ (g : Geometry) (image : List ℕ) where
  abbrev ds : List ℕ
  ds = directories g image

  among_is : (x : ℕ) → is_among ds x ≡ (is_directory (inode_of g image x) && (nat_le 1 x && nat_lt x (1 + inode_count g)))
  unfolding directories
  among_is x = among_filter (λ n. is_directory (inode_of g image n)) (inode_count g) 1 x

  among_some : (x : ℕ) → x ≢ 0 → is_among ds x ≡ (is_directory (inode_of g image x) && nat_le x (inode_count g))
  among_some x some = among_is x ∙ ap (λ (t : Bool). is_directory (inode_of g image x) && t) (numbered x (inode_count g) some)

  among_zero : is_among ds 0 ≡ false
  among_zero = among_is 0 ∙ none (is_directory (inode_of g image 0)) where
    none : (t : Bool) → (t && (nat_le 1 0 && nat_lt 0 (1 + inode_count g))) ≡ false
    none true = refl
    none false = refl

  among_not_zero : (x : ℕ) → is_among ds x ≡ true → x ≢ 0
  among_not_zero x among none = false≢true (sym among_zero ∙ ap (is_among ds) (sym none) ∙ among)

  module _ (s : Standings) (is : HaveTold g image s) where
    abbrev all : ℕ → Standing
    all = standing_of s

    above_is : (n : ℕ) → (all n).above ≡ cond (is_among ds n) (unwrap_or (above (entries g image n)) 0) 0
    unfolding told
    above_is n = ap (λ (x : Standing). x.above) (standing_is g image s n is) ∙ above_all g image n ds unnamed

    dot_is : (n : ℕ) → (all n).dot ≡ (is_among ds n && has_dot (entries g image n) n)
    unfolding told
    dot_is n = ap (λ (x : Standing). x.dot) (standing_is g image s n is) ∙ dot_all g image n ds unnamed

    held_is : (n : ℕ) → (all n).held ≡ min (0 + length (holders_of (namings g image) n)) (2 ^ 16 - 1)
    held_is n =
        ap (λ (x : Standing). x.held) (standing_is g image s n is) ∙ held_one n (told g image) unnamed (omega arith)
        ∙ ap (λ (l : List Naming). min (0 + length (holders_of l n)) (2 ^ 16 - 1)) (all_named g image)

    holder_is : (n : ℕ) → (all n).holder ≡ last_or 0 (holders_of (namings g image) n)
    holder_is n =
        ap (λ (x : Standing). x.holder) (standing_is g image s n is) ∙ holder_one n (told g image) unnamed
        ∙ ap (λ (l : List Naming). last_or 0 (holders_of l n)) (all_named g image)

    -- nothing leads on from no inode
    pub leads_nowhere : (all 0).above ≡ 0
    leads_nowhere = above_is 0 ∙ ap (λ (t : Bool). cond t (unwrap_or (above (entries g image 0)) 0) 0) among_zero

    module _ (entry : entry_flaw g image ≡ None) where
      in_order : (x : ℕ) → is_among ds x ≡ true → are_entries g image (entries g image x) ≡ true
      unfolding entry_flaw
      in_order x among =
          let fine = none_among (λ d. not (has_no_hole g image (inode_of g image d) && are_entries g image (entries g image d))) ds x entry among in
          and_second (has_no_hole g image (inode_of g image x)) (are_entries g image (entries g image x))
          (not_false (has_no_hole g image (inode_of g image x) && are_entries g image (entries g image x)) fine)

      up_same : (x : ℕ) → x ≢ 0 → x ≢ 2 → step_up all x ≡ unwrap_or (above_in g image x) 0
      up_same x some other =
          let test : (x == 2) ≡ false = grind (arith, other) in
          ap (λ (t : Bool). if t then 2 else (all x).above) test ∙ above_is x
          ∙ ap (λ (t : Bool). cond t (unwrap_or (above (entries g image x)) 0) 0) (among_some x some)
          ∙ up_by (is_directory (inode_of g image x) && nat_le x (inode_count g)) (above (entries g image x))

      up_some : (x e : ℕ) → x ≢ 0 → above_in g image x ≡ Some e → e ≢ 0
      up_some x e some = by_test (is_directory (inode_of g image x) && nat_le x (inode_count g)) (among_some x some) where
        by_test : (t : Bool) → is_among ds x ≡ t → cond t (above (entries g image x)) None ≡ Some e → e ≢ 0
        by_test true among up = above_some g image (entries g image x) (in_order x among) e up
        by_test false among up = let no : ⊥ = cc up in absurd no

      holders_here : (d a : ℕ) (t : Bool) → (d == 2) ≡ t → (if t then ((a == 2) && same_bytes (holders_of (namings g image) 2) []) else same_bytes (holders_of (namings g image) d) (a ∷ []))
          ≡ (if t then ((a == 2) && same_bytes (holders_of (namings g image) d) []) else same_bytes (holders_of (namings g image) d) (a ∷ []))
      holders_here d a true two = ap (λ (n : ℕ). (a == 2) && same_bytes (holders_of (namings g image) n) []) (sym (eqb-true d 2 two))
      holders_here d a false other = refl

      are_same : (ends : List ℕ) → slice_index ends ≡ climbed (step_up all) (inode_count g) → (d : ℕ) → is_among ds d ≡ true
          → are_dots g image (namings g image) d (entries g image d) ≡ (is_well_placed d (all d) && (slice_index ends d == 2))
      are_same ends climbs d among =
          let es : List (List ℕ) = entries g image d in
          let hs : List ℕ = holders_of (namings g image) d in
          let some = among_not_zero d among in
          let placed : is_placed (namings g image) d ≡ (λ (a : ℕ). if d == 2 then ((a == 2) && same_bytes hs []) else same_bytes hs (a ∷ [])) = fun_ext (λ a. holders_here d a (d == 2) refl) in
          let way : rises_to_root (above_in g image) (inode_count g) d ≡ (slice_index ends d == 2) =
          rises_climbs (above_in g image) (step_up all) leads_nowhere refl up_same up_some (inode_count g) d some ∙ ap (λ (f : ℕ → ℕ). f d == 2) (sym climbs) in
          let front : (all d).dot ≡ has_dot es d = dot_is d ∙ ap (λ (t : Bool). t && has_dot es d) among in
          let up : (all d).above ≡ unwrap_or (above es) 0 = above_is d ∙ ap (λ (t : Bool). cond t (unwrap_or (above es) 0) 0) among in
          let whole : Bool → ℕ → ℕ → ℕ → Bool =
          λ f u h o. (f && not (u == 0) && (if d == 2 then ((u == 2) && (h == 0)) else ((h == 1) && (o == u)))) && (slice_index ends d == 2) in
          ap (λ (p : ℕ → Bool). has_dot es d && some_and (above es) p && has_dots_once es && rises_to_root (above_in g image) (inode_count g) d) placed
          ∙ ap (λ (r : Bool). has_dot es d && some_and (above es) (λ a. if d == 2 then ((a == 2) && same_bytes hs []) else same_bytes hs (a ∷ [])) && has_dots_once es && r) way
          ∙ placed_same d (has_dot es d) (above es) hs (has_dots_once es) (slice_index ends d == 2) (above_some g image es (in_order d among)) (λ a. dots_once g image d es a some (in_order d among))
          ∙ ap (λ (x : Bool). whole x (unwrap_or (above es) 0) (min (0 + length hs) (2 ^ 16 - 1)) (last_or 0 hs)) (sym front)
          ∙ ap (λ (x : ℕ). whole (all d).dot x (min (0 + length hs) (2 ^ 16 - 1)) (last_or 0 hs)) (sym up)
          ∙ ap (λ (x : ℕ). whole (all d).dot (all d).above x (last_or 0 hs)) (sym (held_is d))
          ∙ ap (λ (x : ℕ). whole (all d).dot (all d).above (all d).held x) (sym (holder_is d))

      pub dots_found : (ends : List ℕ) → slice_index ends ≡ climbed (step_up all) (inode_count g) → (numbers : List ℕ) → numbers ≡ ds
          → find (λ n. not (is_well_placed n (all n) && (slice_index ends n == 2))) numbers ≡ dots_flaw g image
      unfolding dots_flaw
      dots_found ends climbs numbers are =
          ap (find (λ n. not (is_well_placed n (all n) && (slice_index ends n == 2)))) are
          ∙ sym (find_alike (λ d. not (are_dots g image (namings g image) d (entries g image d))) (λ n. not (is_well_placed n (all n) && (slice_index ends n == 2))) ds
          (λ d among. ap not (are_same ends climbs d among)))
