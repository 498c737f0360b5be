-- The table and the links of all lists: what the calls leave.
use Rattle.std.proofs.Common.{◌≡◌, ◌≢◌, ℕ, ◌<◌, List, [], ◌∷◌, ◌++◌, length, get_or, set, map, replicate, reverse, refl, sym, ap, ◌∙◌, arith, inl, inr, subst, Option, Some, None}
use Rattle.std.specs.List.{slice_get}
use Rattle.std.proofs.lemmas.Bool.{cases_eq, cases_lt}
use Rattle.std.proofs.lemmas.List.{get_or-set_same, get_or-set_other, get_or_default, get_or_past, get_or-map, get_or-replicate, length-map, length-set, length-replicate, ext_get_or}
use Rattle.sv_links.specs.Arrangement.{Arrangement, IsArranged, IsOn, IsOnNone, IsOnSome, list_at, times, without, after}
use Rattle.sv_links.specs.Way.{walk, Runs, Way, next_of, linked, HasPlace, IsLinked}
use Rattle.sv_links.specs.Keeping.{arrangement, place, stands, IsKept}
use Rattle.sv_links.specs.declared.lists.Lists.TheInside.{Inside}
use Rattle.sv_links.proofs.Times.{length-le_numbers, times-push, times-cons, get_or-without, without_absent, none-if_other}
use Rattle.sv_links.proofs.Told.{IsTold, IsTold-pushed, IsTold-without, IsArranged-told, place-stands, stands-place, in_table}
use Rattle.sv_links.proofs.Runs.{runs-reverse, runs-head, runs-after, reverse-absent, reverse_twice, reverse-pushed, walk-runs}
use Rattle.sv_links.proofs.Links.{Tied, tied-reversed, Puts, Takes, pushed_forth, pushed_back, pushed-here, pushed-there, taken_out, taken-here, taken-there, linked-begins, linked-follows, puts-second, takes-before, takes-after}

-- A table and links in both directions show these lists.
pub record Shows (places : List (Option ℕ)) (w v : Way) (lists : List (List ℕ)) : Type 0 where
  pub told : IsTold lists places
  pub in_range : (l x : ℕ) → get_or places x None ≡ Some l → l < length w.begins
  pub linked_up : IsLinked w v lists
  pub forth : length w.follows ≡ length places
  pub back : length v.follows ≡ length places

pub shows-arranged : (places : List (Option ℕ)) (w v : Way) (lists : List (List ℕ)) → Shows places w v lists → IsArranged (record { numbers = length places; lists = lists })
shows-arranged places w v lists s = IsArranged-told (length places) lists places refl s.told

-- they are the lists that a walk from each beginning meets
pub shows-walks : (places : List (Option ℕ)) (w v : Way) (lists : List (List ℕ)) → Shows places w v lists → map (walk w (length places)) w.begins ≡ lists
shows-walks places w v lists s =
    let arr = shows-arranged places w v lists s in
    ext_get_or [] (map (walk w (length places)) w.begins) lists (length-map w.begins (walk w (length places)) ∙ s.linked_up.begins)
    (λ k h.
    get_or-map (walk w (length places)) w.begins k None [] (omega (arith, length-map w.begins (walk w (length places))))
    ∙ walk-runs w k (length places) (next_of v k) None (get_or lists k []) (s.linked_up.runs k) (length-le_numbers (length places) (get_or lists k []) (arr.once k) (arr.in_range k)))

pub shows-view : (b : Inside) (lists : List (List ℕ)) → Shows b.places.items b.forwards b.backwards lists → arrangement b ≡ record { numbers = length b.places.items; lists = lists }
shows-view b lists s = ap (λ (ls : List (List ℕ)). record { numbers = length b.places.items; lists = ls }) (shows-walks b.places.items b.forwards b.backwards lists s)

pub shows-kept : (b : Inside) (lists : List (List ℕ)) → Shows b.places.items b.forwards b.backwards lists → IsKept b
shows-kept b lists s =
    let e = shows-walks b.places.items b.forwards b.backwards lists s in
    record {
      told = λ l x. ap (λ (ls : List (List ℕ)). times x (get_or ls l [])) e ∙ s.told.told l x;
      in_range = s.in_range;
      linked_up = subst (λ (ls : List (List ℕ)). IsLinked b.forwards b.backwards ls) (sym e) s.linked_up;
      forth = s.forth;
      back = s.back;
    }

pub kept-shows : (a : Inside) → IsKept a → Shows a.places.items a.forwards a.backwards (arrangement a).lists
kept-shows a kept = record {
  told = record { told = kept.told };
  in_range = kept.in_range;
  linked_up = kept.linked_up;
  forth = kept.forth;
  back = kept.back;
}

-- what holds of every value
pub arranged : (a : Inside) → IsKept a → IsArranged (arrangement a)
arranged a kept = shows-arranged a.places.items a.forwards a.backwards (arrangement a).lists (kept-shows a kept)

shows-tied : (places : List (Option ℕ)) (w v : Way) (lists : List (List ℕ)) → Shows places w v lists → Tied w v (λ k. get_or lists k [])
shows-tied places w v lists s =
    let arr = shows-arranged places w v lists s in
    record {
      runs = s.linked_up.runs;
      once = arr.once;
      one_list = arr.one_list;
      forth = λ k y on. let h = arr.in_range k y on in let e = s.forth in omega arith;
      back = λ k y on. let h = arr.in_range k y on in let e = s.back in omega arith;
    }

pub shows-puts : (places : List (Option ℕ)) (w v : Way) (lists : List (List ℕ)) (l x : ℕ) → Shows places w v lists → l < length lists → x < length places → ((k : ℕ) → times x (get_or lists k []) ≡ 0) → Puts w v (λ k. get_or lists k []) l x
shows-puts places w v lists l x s inside listed absent = record {
  tied = shows-tied places w v lists s;
  absent = absent;
  begins = let e = s.linked_up.begins in omega arith;
  ends = let e = s.linked_up.ends in omega arith;
  forth = let e = s.forth in omega arith;
  back = let e = s.back in omega arith;
}

-- the same, seen from the tails
puts-reversed : (w v : Way) (at : ℕ → List ℕ) (l x : ℕ) → ((k : ℕ) → times x (reverse (at k)) ≡ 0) → Puts w v at l x → Puts v w (λ k. reverse (at k)) l x
puts-reversed w v at l x absent p = record {
  tied = tied-reversed w v at p.tied;
  absent = absent;
  begins = p.ends;
  ends = p.begins;
  forth = p.back;
  back = p.forth;
}

begins-forth : (w : Way) (l x : ℕ) → length (pushed_forth w l x).begins ≡ length w.begins
begins-forth w l x = linked-begins (linked w l (Some x) (next_of w l None)) l None (Some x) ∙ linked-begins w l (Some x) (next_of w l None)

begins-back : (w v : Way) (l x : ℕ) → length (pushed_back w v l x).begins ≡ length v.begins
begins-back w v l x = linked-begins (linked v l (Some x) None) l (next_of w l None) (Some x) ∙ linked-begins v l (Some x) None

follows-forth : (w : Way) (l x : ℕ) → length (pushed_forth w l x).follows ≡ length w.follows
follows-forth w l x = linked-follows (linked w l (Some x) (next_of w l None)) l None (Some x) ∙ linked-follows w l (Some x) (next_of w l None)

follows-back : (w v : Way) (l x : ℕ) → length (pushed_back w v l x).follows ≡ length v.follows
follows-back w v l x = linked-follows (linked v l (Some x) None) l (next_of w l None) (Some x) ∙ linked-follows v l (Some x) None

-- the table after x was put on list l names no list that is not there
range-set : (places : List (Option ℕ)) (l x n : ℕ) → ((k y : ℕ) → get_or places y None ≡ Some k → k < n) → x < length places → l < n → (k y : ℕ) → get_or (set places x (Some l)) y None ≡ Some k → k < n
range-set places l x n before listed inside k y p =
    elim (cases_eq y x) [
      | inl s ↦ let q : get_or (set places x (Some l)) y None ≡ Some l = ap (λ z. get_or (set places x (Some l)) z None) s ∙ get_or-set_same places x (Some l) None listed in let m : k ≡ l = cc in omega arith
      | inr s ↦ before k y (sym (get_or-set_other places x y (Some l) None s) ∙ p)
    ]

range-clear : (places : List (Option ℕ)) (x n : ℕ) → ((k y : ℕ) → get_or places y None ≡ Some k → k < n) → x < length places → (k y : ℕ) → get_or (set places x None) y None ≡ Some k → k < n
range-clear places x n before listed k y p =
    elim (cases_eq y x) [
      | inl s ↦ let q : get_or (set places x None) y None ≡ None = ap (λ z. get_or (set places x None) z None) s ∙ get_or-set_same places x None None listed in absurd cc
      | inr s ↦ before k y (sym (get_or-set_other places x y None None s) ∙ p)
    ]

-- a list that was put in the place of list l runs
runs-set : (w v : Way) (lists : List (List ℕ)) (l : ℕ) (ys : List ℕ) → l < length lists → Runs (next_of w l) (next_of v l) None ys None → ((k : ℕ) → k ≢ l → Runs (next_of w k) (next_of v k) None (get_or lists k []) None) → (k : ℕ) → Runs (next_of w k) (next_of v k) None (get_or (set lists l ys) k []) None
runs-set w v lists l ys inside here there k =
    elim (cases_eq k l) [
      | inl e ↦ subst (λ (j : ℕ). Runs (next_of w j) (next_of v j) None (get_or (set lists l ys) j []) None) (sym e) (subst (λ (zs : List ℕ). Runs (next_of w l) (next_of v l) None zs None) (sym (get_or-set_same lists l ys [] inside)) here)
      | inr d ↦ subst (λ (zs : List ℕ). Runs (next_of w k) (next_of v k) None zs None) (sym (get_or-set_other lists l k ys [] d)) (there k d)
    ]

pub shows-head : (places : List (Option ℕ)) (w v : Way) (lists : List (List ℕ)) (l x : ℕ) → Shows places w v lists → l < length lists → x < length places → ((k : ℕ) → times x (get_or lists k []) ≡ 0) → Shows (set places x (Some l)) (pushed_forth w l x) (pushed_back w v l x) (set lists l (x ∷ get_or lists l []))
shows-head places w v lists l x s inside listed absent =
    let p = shows-puts places w v lists l x s inside listed absent in
    let size = length-set lists l (x ∷ get_or lists l []) in
    let table = length-set places x (Some l) in
    record {
      told = IsTold-pushed lists places l x (x ∷ get_or lists l []) s.told inside listed absent (λ y. times-cons x y (get_or lists l []));
      in_range = λ k y q. let h = range-set places l x (length w.begins) s.in_range listed p.begins k y q in omega (arith, begins-forth w l x);
      linked_up = record {
        runs = runs-set (pushed_forth w l x) (pushed_back w v l x) lists l (x ∷ get_or lists l []) inside (pushed-here w v (λ k. get_or lists k []) l x p) (λ k d. pushed-there w v (λ k. get_or lists k []) l x k p d);
        begins = begins-forth w l x ∙ s.linked_up.begins ∙ sym size;
        ends = begins-back w v l x ∙ s.linked_up.ends ∙ sym size;
      };
      forth = follows-forth w l x ∙ s.forth ∙ sym table;
      back = follows-back w v l x ∙ s.back ∙ sym table;
    }

pub shows-tail : (places : List (Option ℕ)) (w v : Way) (lists : List (List ℕ)) (l x : ℕ) → Shows places w v lists → l < length lists → x < length places → ((k : ℕ) → times x (get_or lists k []) ≡ 0) → Shows (set places x (Some l)) (pushed_back v w l x) (pushed_forth v l x) (set lists l (get_or lists l [] ++ x ∷ []))
shows-tail places w v lists l x s inside listed absent =
    let p = shows-puts places w v lists l x s inside listed absent in
    let q = puts-reversed w v (λ k. get_or lists k []) l x (λ k. reverse-absent x (get_or lists k []) (absent k)) p in
    let size = length-set lists l (get_or lists l [] ++ x ∷ []) in
    let table = length-set places x (Some l) in
    let here : Runs (next_of (pushed_back v w l x) l) (next_of (pushed_forth v l x) l) None (get_or lists l [] ++ x ∷ []) None =
    subst (λ (zs : List ℕ). Runs (next_of (pushed_back v w l x) l) (next_of (pushed_forth v l x) l) None zs None) (reverse-pushed x (get_or lists l []))
    (runs-reverse (next_of (pushed_forth v l x) l) (next_of (pushed_back v w l x) l) None None (x ∷ reverse (get_or lists l [])) (pushed-here v w (λ k. reverse (get_or lists k [])) l x q))
    in
    record {
      told = IsTold-pushed lists places l x (get_or lists l [] ++ x ∷ []) s.told inside listed absent (λ y. times-push x y (get_or lists l []));
      in_range = λ k y r. let h = range-set places l x (length w.begins) s.in_range listed p.begins k y r in omega (arith, begins-back v w l x);
      linked_up = record {
        runs = runs-set (pushed_back v w l x) (pushed_forth v l x) lists l (get_or lists l [] ++ x ∷ []) inside here
            (λ k d. subst (λ (zs : List ℕ). Runs (next_of (pushed_back v w l x) k) (next_of (pushed_forth v l x) k) None zs None) (reverse_twice (get_or lists k []))
            (runs-reverse (next_of (pushed_forth v l x) k) (next_of (pushed_back v w l x) k) None None (reverse (get_or lists k [])) (pushed-there v w (λ j. reverse (get_or lists j [])) l x k q d)));
        begins = begins-back v w l x ∙ s.linked_up.begins ∙ sym size;
        ends = begins-forth v l x ∙ s.linked_up.ends ∙ sym size;
      };
      forth = follows-back v w l x ∙ s.forth ∙ sym table;
      back = follows-forth v l x ∙ s.back ∙ sym table;
    }

pub shows-takes : (places : List (Option ℕ)) (w v : Way) (lists : List (List ℕ)) (l x : ℕ) → Shows places w v lists → get_or places x None ≡ Some l → Takes w v (λ k. get_or lists k []) l x
shows-takes places w v lists l x s p =
    let inside = s.in_range l x p in
    record {
      tied = shows-tied places w v lists s;
      on = let e = s.told.told l x in let f = stands-place (get_or places x None) l p in omega arith;
      begins = inside;
      ends = let e = s.linked_up.begins in let f = s.linked_up.ends in omega arith;
    }

pub shows-taken : (places : List (Option ℕ)) (w v : Way) (lists : List (List ℕ)) (l x : ℕ) → Shows places w v lists → get_or places x None ≡ Some l → Shows (set places x None) (taken_out w v l x) (taken_out v w l x) (map (without x) lists)
shows-taken places w v lists l x s p =
    let t = shows-takes places w v lists l x s p in
    let listed = in_table places x l p in
    let table = length-set places x None in
    let size = length-map lists (without x) in
    record {
      told = IsTold-without lists places x s.told listed;
      in_range = λ k y q. let h = range-clear places x (length w.begins) s.in_range listed k y q in omega (arith, linked-begins w l (next_of v l (Some x)) (next_of w l (Some x)));
      linked_up = record {
        runs = λ k. subst (λ (zs : List ℕ). Runs (next_of (taken_out w v l x) k) (next_of (taken_out v w l x) k) None zs None) (sym (get_or-without x lists k))
            (elim (cases_eq k l) [
              | inl e ↦ subst (λ (j : ℕ). Runs (next_of (taken_out w v l x) j) (next_of (taken_out v w l x) j) None (without x (get_or lists j [])) None) (sym e) (taken-here w v (λ j. get_or lists j []) l x t)
              | inr d ↦
                  let absent : times x (get_or lists k []) ≡ 0 = s.told.told k x ∙ ap (λ q. stands q k) p ∙ none-if_other l k (λ e. d (sym e)) in
                  subst (λ (zs : List ℕ). Runs (next_of (taken_out w v l x) k) (next_of (taken_out v w l x) k) None zs None) (sym (without_absent x (get_or lists k []) absent))
                  (taken-there w v (λ j. get_or lists j []) l x k t d absent)
            ]);
        begins = linked-begins w l (next_of v l (Some x)) (next_of w l (Some x)) ∙ s.linked_up.begins ∙ sym size;
        ends = linked-begins v l (next_of w l (Some x)) (next_of v l (Some x)) ∙ s.linked_up.ends ∙ sym size;
      };
      forth = linked-follows w l (next_of v l (Some x)) (next_of w l (Some x)) ∙ s.forth ∙ sym table;
      back = linked-follows v l (next_of w l (Some x)) (next_of v l (Some x)) ∙ s.back ∙ sym table;
    }

-- nothing is linked at first

get_or-none : (n k : ℕ) → get_or (replicate {A = Option ℕ} n None) k None ≡ None
get_or-none n k = elim (cases_lt k n) [ inl h ↦ get_or-replicate {A = Option ℕ} n k None None h | inr h ↦ get_or_past (replicate {A = Option ℕ} n None) k None (omega (arith, length-replicate {A = Option ℕ} n None)) ]

get_or-empty : (n k : ℕ) → get_or (replicate {A = List ℕ} n []) k [] ≡ []
get_or-empty n k = elim (cases_lt k n) [ inl h ↦ get_or-replicate {A = List ℕ} n k [] [] h | inr h ↦ get_or_past (replicate {A = List ℕ} n []) k [] (omega (arith, length-replicate {A = List ℕ} n [])) ]

pub shows-new : (n m : ℕ) → Shows (replicate n None) (record { begins = replicate m None; follows = replicate n None }) (record { begins = replicate m None; follows = replicate n None }) (replicate m [])
shows-new n m =
    let way : Way = record { begins = replicate m None; follows = replicate n None } in
    record {
      told = record { told = λ l x. ap (times x) (get_or-empty m l) ∙ ap (λ q. stands q l) (sym (get_or-none n x)) };
      in_range = λ l x p. let q = get_or-none n x in absurd cc;
      linked_up = record {
        runs = λ l. subst (λ (zs : List ℕ). Runs (next_of way l) (next_of way l) None zs None) (sym (get_or-empty m l)) (get_or-none m l, get_or-none m l);
        begins = length-replicate {A = Option ℕ} m None ∙ sym (length-replicate {A = List ℕ} m []);
        ends = length-replicate {A = Option ℕ} m None ∙ sym (length-replicate {A = List ℕ} m []);
      };
      forth = refl;
      back = refl;
    }

-- what the calls read

-- a number on some list has a place in the table
pub listed : (a : Inside) (x : ℕ) → IsKept a → IsOnSome (arrangement a) x → x < length a.places.items
listed a x kept on = (arranged a kept).in_range on.0 x on.1

-- the place that the table has for a number in range
pub place_read : (a : Inside) (x : ℕ) (p : Option ℕ) → x < length a.places.items → p ≡ get_or a.places.items x p → place a x ≡ p
place_read a x p inside at = get_or_default a.places.items x None p inside ∙ sym at

-- the list of a number is the one that the table tells
pub place-on : (a : Inside) (l x : ℕ) → IsKept a → IsOn (arrangement a) l x → place a x ≡ Some l
place-on a l x kept on = place-stands (place a x) l (omega (arith, kept.told l x))

-- each list has a place among the beginnings
pub in_begins : (a : Inside) (l : ℕ) → l < length (arrangement a).lists → l < length a.forwards.begins
in_begins a l h = omega (arith, length-map a.forwards.begins (walk a.forwards (length a.places.items)))

-- what a call leaves: it is kept, and seen as v
pub record Left (b : Inside) (v : Arrangement) : Type 0 where
  pub kept : IsKept b
  pub view : arrangement b ≡ v

left-of : (b : Inside) (n : ℕ) (lists : List (List ℕ)) → Shows b.places.items b.forwards b.backwards lists → length b.places.items ≡ n → Left b (record { numbers = n; lists = lists })
left-of b n lists s size = record {
  kept = shows-kept b lists s;
  view = shows-view b lists s ∙ ap (λ (m : ℕ). record { numbers = m; lists = lists }) size;
}

-- what a push asks for, where v is what is kept
pub record Pushes (a : Inside) (v : Arrangement) (l x : ℕ) : Type 0 where
  pub kept : IsKept a
  pub view : arrangement a ≡ v
  pub list_in_range : l < length v.lists
  pub number_in_range : x < v.numbers
  pub on_none : IsOnNone v x

pushes-in : (a : Inside) (v : Arrangement) (l x : ℕ) → Pushes a v l x → l < length (arrangement a).lists
pushes-in a v l x p = subst (λ (u : Arrangement). l < length u.lists) (sym p.view) p.list_in_range

pushes-listed : (a : Inside) (v : Arrangement) (l x : ℕ) → Pushes a v l x → x < length a.places.items
pushes-listed a v l x p = subst (λ (u : Arrangement). x < u.numbers) (sym p.view) p.number_in_range

pushes-absent : (a : Inside) (v : Arrangement) (l x : ℕ) → Pushes a v l x → (k : ℕ) → times x (list_at (arrangement a) k) ≡ 0
pushes-absent a v l x p = subst (λ (u : Arrangement). IsOnNone u x) (sym p.view) p.on_none

pushes-puts : (a : Inside) (v : Arrangement) (l x : ℕ) → Pushes a v l x → Puts a.forwards a.backwards (λ k. list_at (arrangement a) k) l x
pushes-puts a v l x p = shows-puts a.places.items a.forwards a.backwards (arrangement a).lists l x (kept-shows a p.kept) (pushes-in a v l x p) (pushes-listed a v l x p) (pushes-absent a v l x p)

-- what `put_first` asks for, from the heads and from the tails
pub record CanPut (w v : Way) (l x : ℕ) : Type 0 where
  pub forth : HasPlace w l None × HasPlace w l (Some x)
  pub back : HasPlace v l (Some x) × HasPlace v l (next_of w l None)

pub head-can : (a : Inside) (v : Arrangement) (l x : ℕ) → Pushes a v l x → CanPut a.forwards a.backwards l x
head-can a v l x p =
    let q = pushes-puts a v l x p in
    record { forth = (q.begins, q.forth); back = (q.back, puts-second a.forwards a.backwards (λ k. list_at (arrangement a) k) l x q) }

pub tail-can : (a : Inside) (v : Arrangement) (l x : ℕ) → Pushes a v l x → CanPut a.backwards a.forwards l x
tail-can a v l x p =
    let q = puts-reversed a.forwards a.backwards (λ k. list_at (arrangement a) k) l x (λ k. reverse-absent x (list_at (arrangement a) k) (pushes-absent a v l x p k)) (pushes-puts a v l x p) in
    record { forth = (q.begins, q.forth); back = (q.back, puts-second a.backwards a.forwards (λ k. reverse (list_at (arrangement a) k)) l x q) }

pub head-left : (a b : Inside) (v : Arrangement) (l x : ℕ) → Pushes a v l x → b.places.items ≡ set a.places.items x (Some l) → b.forwards ≡ pushed_forth a.forwards l x → b.backwards ≡ pushed_back a.forwards a.backwards l x → Left b (record v { lists = set v.lists l (x ∷ list_at v l) })
head-left a b v l x p table forth back =
    let s : Shows b.places.items b.forwards b.backwards (set (arrangement a).lists l (x ∷ list_at (arrangement a) l)) =
    rw (table, forth, back) (shows-head a.places.items a.forwards a.backwards (arrangement a).lists l x (kept-shows a p.kept) (pushes-in a v l x p) (pushes-listed a v l x p) (pushes-absent a v l x p))
    in
    let size = ap length table ∙ length-set a.places.items x (Some l) in
    subst (λ (u : Arrangement). Left b (record u { lists = set u.lists l (x ∷ list_at u l) })) p.view (left-of b (length a.places.items) _ s size)

pub tail-left : (a b : Inside) (v : Arrangement) (l x : ℕ) → Pushes a v l x → b.places.items ≡ set a.places.items x (Some l) → b.backwards ≡ pushed_forth a.backwards l x → b.forwards ≡ pushed_back a.backwards a.forwards l x → Left b (record v { lists = set v.lists l (list_at v l ++ x ∷ []) })
tail-left a b v l x p table back forth =
    let s : Shows b.places.items b.forwards b.backwards (set (arrangement a).lists l (list_at (arrangement a) l ++ x ∷ [])) =
    rw (table, forth, back) (shows-tail a.places.items a.forwards a.backwards (arrangement a).lists l x (kept-shows a p.kept) (pushes-in a v l x p) (pushes-listed a v l x p) (pushes-absent a v l x p))
    in
    let size = ap length table ∙ length-set a.places.items x (Some l) in
    subst (λ (u : Arrangement). Left b (record u { lists = set u.lists l (list_at u l ++ x ∷ []) })) p.view (left-of b (length a.places.items) _ s size)

-- what `take_out` asks for
pub record CanTake (w v : Way) (l x : ℕ) : Type 0 where
  pub forth : HasPlace w l (Some x) × HasPlace w l (next_of v l (Some x))
  pub back : HasPlace v l (Some x) × HasPlace v l (next_of w l (Some x))

pub take-can : (a : Inside) (l x : ℕ) → IsKept a → place a x ≡ Some l → CanTake a.forwards a.backwards l x
take-can a l x kept p =
    let t = shows-takes a.places.items a.forwards a.backwards (arrangement a).lists l x (kept-shows a kept) p in
    record {
      forth = (t.tied.forth l x t.on, takes-before a.forwards a.backwards (λ k. list_at (arrangement a) k) l x t);
      back = (t.tied.back l x t.on, takes-after a.forwards a.backwards (λ k. list_at (arrangement a) k) l x t);
    }

pub take-left : (a b : Inside) (v : Arrangement) (l x : ℕ) → IsKept a → arrangement a ≡ v → place a x ≡ Some l → b.places.items ≡ set a.places.items x None → b.forwards ≡ taken_out a.forwards a.backwards l x → b.backwards ≡ taken_out a.backwards a.forwards l x → Left b (record v { lists = map (without x) v.lists })
take-left a b v l x kept view p table forth back =
    let s : Shows b.places.items b.forwards b.backwards (map (without x) (arrangement a).lists) =
    rw (table, forth, back) (shows-taken a.places.items a.forwards a.backwards (arrangement a).lists l x (kept-shows a kept) p)
    in
    let size = ap length table ∙ length-set a.places.items x None in
    subst (λ (u : Arrangement). Left b (record u { lists = map (without x) u.lists })) view (left-of b (length a.places.items) _ s size)

pub new-left : (b : Inside) (n m : ℕ) → b.places.items ≡ replicate n None → b.forwards ≡ record { begins = replicate m None; follows = replicate n None } → b.backwards ≡ record { begins = replicate m None; follows = replicate n None } → Left b (record { numbers = n; lists = replicate m [] })
new-left b n m table forth back =
    let s : Shows b.places.items b.forwards b.backwards (replicate m []) = rw (table, forth, back) (shows-new n m) in
    left-of b n (replicate m []) s (ap length table ∙ length-replicate {A = Option ℕ} n None)

-- what stands first on a list, and what after x
pub first-read : (a : Inside) (v : Arrangement) (l : ℕ) → IsKept a → arrangement a ≡ v → next_of a.forwards l None ≡ slice_get (list_at v l) 0
first-read a v l kept view =
    runs-head (next_of a.forwards l) (next_of a.backwards l) None (list_at (arrangement a) l) (kept.linked_up.runs l)
    ∙ ap (λ (u : Arrangement). slice_get (list_at u l) 0) view

pub next-read : (a : Inside) (v : Arrangement) (l k x : ℕ) → IsKept a → arrangement a ≡ v → IsOn v k x → next_of a.forwards l (Some x) ≡ slice_get (after x (list_at v k)) 0
next-read a v l k x kept view on =
    runs-after (next_of a.forwards k) (next_of a.backwards k) None (list_at (arrangement a) k) x (kept.linked_up.runs k) (subst (λ (u : Arrangement). IsOn u k x) (sym view) on)
    ∙ ap (λ (u : Arrangement). slice_get (after x (list_at u k)) 0) view
