-- Each kind of step keeps the rule of the table.
use Rattle.std.proofs.Common.{◌≡◌, ◌≢◌, ℕ, zero, suc, ◌+◌, ◌%◌, ◌^◌, ◌<◌, ◌≤◌, List, [], ◌∷◌, ◌++◌, map, get_or, set, sym, refl, ap, ◌∙◌, subst, ⊎_elim, arith, Option, Some, None, IsSome}
use mathlib.Core.Logic.{dite}
use mathlib.Core.Option as opt
use mathlib.Core.Option.{some, none, some-injective, some-ne-none}
use native.Mathlib.Decide.{ℕ_discrete}
use lib.ListN.{get_elem?}
use lib.Seq.{set-get_or, map-set}
use Rattle.std.proofs.Math.Nat.{mod-add-mod}
use Rattle.std.specs.List.Sorted.{IsPermutation}
use Rattle.std.proofs.lemmas.List.{map-append}
use Rattle.std.proofs.lemmas.List.Sorted.{IsPermutation-trans, IsPermutation-sym, IsPermutation-cons, IsPermutation-middle, IsPermutation-to_front}
use Rattle.atomic_table.specs.Table.{State, Me, Act, Valid, put_back, rest, carried_after, step, keeps, takes, gives, stepped, Allows, Splits, Joins, Final, Seen}
use Rattle.atomic_table.proofs.Lists.{at_set, set_again, set_else, at_snoc, at_map, one_turn}
use Rattle.sv_turn.specs.declared.stage.Doing.{Doing}
use Rattle.sv_turn.specs.declared.stage.Stage.{Stage}
use Rattle.sv_turn.specs.declared.stage.Stage.TheVariants.{Away, Waiting, Inside, Spent}
use Rattle.sv_turn.specs.Turning.{tickets, guests, HasTicket, Knows, home, client, doing, away, Fits, Turning}
use Rattle.sv_turn.specs.Steps.{drew, looked, gave, IsKept, Carries}
use Rattle.sv_turn.proofs.Totals.{total-set, total-snoc, total-le, total-none, two_in_total, fronted, paired}

module _ {S : Type 0} where
  -- a ticket lies between the words
  ticket_below : (served drawn inside : ℕ) (state : S) (n : ℕ) (st : Stage S) → Knows served drawn inside state st → HasTicket n st → n < drawn
  ticket_below served drawn inside state n Away k h = absurd h
  ticket_below served drawn inside state n (Waiting t) k h = let below = k.1 in omega arith
  ticket_below served drawn inside state n (Inside t x) k h = let here = k.0 in let below = k.1 in omega arith
  ticket_below served drawn inside state n Spent k h = absurd h

  -- what a pass knows as a ticket is drawn
  knows_drawn : (served drawn inside : ℕ) (state : S) (st : Stage S) → Knows served drawn inside state st → Knows served (drawn + 1) inside state st
  knows_drawn served drawn inside state Away k = tt
  knows_drawn served drawn inside state (Waiting t) k = let below = k.1 in (k.0, omega arith)
  knows_drawn served drawn inside state (Inside t x) k = let below = k.1 in (k.0, omega arith, k.2, k.3)
  knows_drawn served drawn inside state Spent k = tt

  -- what another pass knows as one comes in, or goes out with its ticket
  knows_entered : (served drawn inside : ℕ) (state : S) (st : Stage S) → inside ≡ 0 → Knows served drawn inside state st → Knows served drawn 1 state st
  knows_entered served drawn inside state Away none_in k = tt
  knows_entered served drawn inside state (Waiting t) none_in k = k
  knows_entered served drawn inside state (Inside t x) none_in k = let one = k.2 in absurd (omega arith)
  knows_entered served drawn inside state Spent none_in k = tt

  knows_left : (served drawn inside : ℕ) (state new : S) (st : Stage S) → (HasTicket served st → ⊥) → Knows served drawn inside state st → Knows (served + 1) drawn 0 new st
  knows_left served drawn inside state new Away other k = tt
  knows_left served drawn inside state new (Waiting t) other k = let above = k.0 in (dite (ℕ_discrete t served) (λ e. absurd (other e)) (λ ne. omega arith), k.1)
  knows_left served drawn inside state new (Inside t x) other k = absurd (other k.0)
  knows_left served drawn inside state new Spent other k = tt

module _ {A : Type 0} where
  -- a fact of each element, after one has changed, and after one more
  each_stays : (K : A → Type 0) (vs : List A) (me : ℕ) (w : A) → K w → ((j : ℕ) (d : A) → j ≢ me → get_elem? vs j ≡ some d → K d) → (j : ℕ) (d : A) → get_elem? (set vs me w) j ≡ some d → K d
  each_stays K vs me w mine others j d at = ⊎_elim (λ (t : (j ≡ me) × (w ≡ d)). subst K t.1 mine) (λ (t : (j ≢ me) × (get_elem? vs j ≡ some d)). others j d t.0 t.1) (at_set vs me j w d at)

  each_more : (K : A → Type 0) (vs : List A) (w : A) → K w → ((j : ℕ) (d : A) → get_elem? vs j ≡ some d → K d) → (j : ℕ) (d : A) → get_elem? (vs ++ w ∷ []) j ≡ some d → K d
  each_more K vs w mine others j d at = ⊎_elim (λ (t : get_elem? vs j ≡ some d). others j d t) (λ (t : w ≡ d). subst K t mine) (at_snoc vs w d j at)

  -- the element behind a mapped one
  unmapped : {B : Type 0} {f : A → B} (l : List A) (j : ℕ) (v : B) → get_elem? (map f l) j ≡ some v → (a : A) × (get_elem? l j ≡ some a) × (f a ≡ v)
  unmapped [] j v at = absurd (some-ne-none v (sym at))
  unmapped {f = f} (x ∷ xs) zero v at = (x, refl, some-injective (f x) v at)
  unmapped {f = f} (x ∷ xs) (suc j) v at = unmapped {f = f} xs j v at

module _ {S V : Type 0} where
  -- no two passes have one ticket
  abbrev Apart : List (Doing S V) → Type 0
  Apart vs = (i j : ℕ) (d e : Doing S V) (n : ℕ) → get_elem? vs i ≡ some d → get_elem? vs j ≡ some e → HasTicket n d.stage → HasTicket n e.stage → i ≡ j

  apart_stays : (vs : List (Doing S V)) (me : ℕ) (w : Doing S V) → ((n j : ℕ) (d : Doing S V) → HasTicket n w.stage → j ≢ me → get_elem? vs j ≡ some d → HasTicket n d.stage → ⊥) → Apart vs → Apart (set vs me w)
  apart_stays vs me w mine old i j d e n at to has had =
      ⊎_elim (λ (p : (i ≡ me) × (w ≡ d)).
      ⊎_elim (λ (q : (j ≡ me) × (w ≡ e)). p.0 ∙ sym q.0)
      (λ (q : (j ≢ me) × (get_elem? vs j ≡ some e)). absurd (mine n j e (subst (λ (z : Doing S V). HasTicket n z.stage) (sym p.1) has) q.0 q.1 had)) (at_set vs me j w e to))
      (λ (p : (i ≢ me) × (get_elem? vs i ≡ some d)).
      ⊎_elim (λ (q : (j ≡ me) × (w ≡ e)). absurd (mine n i d (subst (λ (z : Doing S V). HasTicket n z.stage) (sym q.1) had) p.0 p.1 has))
      (λ (q : (j ≢ me) × (get_elem? vs j ≡ some e)). old i j d e n p.1 q.1 has had) (at_set vs me j w e to))
      (at_set vs me i w d at)

  apart_more : (vs : List (Doing S V)) (w : Doing S V) → ((n : ℕ) → HasTicket n w.stage → ⊥) → Apart vs → Apart (vs ++ w ∷ [])
  apart_more vs w none_here old i j d e n at to has had =
      ⊎_elim (λ (p : get_elem? vs i ≡ some d).
      ⊎_elim (λ (q : get_elem? vs j ≡ some e). old i j d e n p q has had) (λ (q : w ≡ e). absurd (none_here n (subst (λ (z : Doing S V). HasTicket n z.stage) (sym q) had))) (at_snoc vs w e j to))
      (λ (p : w ≡ d). absurd (none_here n (subst (λ (z : Doing S V). HasTicket n z.stage) (sym p) has))) (at_snoc vs w d i at)

module _ {S V : Type 0} (blank : V) (weight : V → ℕ) where
  -- a pass with a ticket weighs something
  light_ticket : (st : Stage S) (v : V) → Fits blank weight st v → tickets st ≤ weight v
  light_ticket Away v f = omega arith
  light_ticket (Waiting t) v f = omega arith
  light_ticket (Inside t x) v f = omega arith
  light_ticket Spent v f = omega arith

  -- a pass that weighs nothing is spent
  light_guest : (st : Stage S) (v : V) → Fits blank weight st v → weight v ≡ 0 → guests st ≡ 0
  light_guest Away v f e = refl
  light_guest (Waiting t) v f e = refl
  light_guest (Inside t x) v f e = absurd (omega arith)
  light_guest Spent v f e = refl

  light_blank : (st : Stage S) (v : V) → Fits blank weight st v → weight v ≡ 0 → v ≡ blank
  light_blank Away v f e = absurd (omega arith)
  light_blank (Waiting t) v f e = absurd (omega arith)
  light_blank (Inside t x) v f e = absurd (omega arith)
  light_blank Spent v f e = f

module _ {S V : Type 0} (holds : S → List V → Type 0) (blank : V) (weight : V → ℕ) (all : ℕ) where
  abbrev Tabled : Type 0
  Tabled = State (Option S) (Doing S V)

  abbrev Mine : Type 0
  Mine = Me (Option S) (Doing S V)

  abbrev Rule : Tabled → Type 0
  Rule = Turning holds blank weight all

  -- fewer than 2^64 tickets are out, so that the words tell them apart
  few_out : (s : Tabled) (r : Rule s) → r.drawn ≤ r.served + 2 ^ 63
  few_out s r = let light = total-le (λ d. tickets d.stage) (λ d. weight d.client) s.views (λ j d at. light_ticket blank weight d.stage d.client (r.fits j d at)) in
      let queue = r.queue in let whole = r.whole in let small = r.small in omega arith

  same_clients : (x : S) (vs : List (Doing S V)) (me : ℕ) (v w : Doing S V) → get_elem? vs me ≡ some v → w.client ≡ v.client → holds x (map client vs) → holds x (map client (set vs me w))
  same_clients x vs me v w at e = subst (holds x) (sym (map-set client vs me w ∙ (ap (set (map client vs) me) e ∙ set_again (map client vs) me v.client (at_map client vs me v at))))

  pub draws : (slots id : ℕ) (me : Mine) → me.0.stage ≡ Away → Allows Rule slots id me 0 (λ n. (n + 1) % 2 ^ 64) (drew (step slots 0 1 0 none) me)
  draws slots id me is s r _ at _ = let v : V = me.0.client in let w : Doing S V = doing (Waiting r.drawn) v in
      let no_ticket : tickets me.0.stage ≡ 0 = ap tickets is in let no_guest : guests me.0.stage ≡ 0 = ap guests is in
      let one_more = total-set (λ (d : Doing S V). tickets d.stage) s.views id me.0 w at in let same_in = total-set (λ (d : Doing S V). guests d.stage) s.views id me.0 w at in
      let same_weight = total-set (λ (d : Doing S V). weight d.client) s.views id me.0 w at in
      let queue = r.queue in let within = r.within in let whole = r.whole in (
        w,
        keeps,
        tt,
        record {
          served = r.served;
          drawn = r.drawn + 1;
          inside = r.inside;
          state = r.state;
          words = ap (λ (l : List ℕ). set l 0 ((get_or l 0 0 + 1) % 2 ^ 64)) r.words ∙ ap (λ (n : ℕ). n ∷ r.served % 2 ^ 64 ∷ []) (mod-add-mod r.drawn (2 ^ 64) 1);
          homes = r.homes;
          queue = omega arith;
          within = omega arith;
          whole = omega arith;
          small = r.small;
          each = each_stays (λ d. Knows r.served (r.drawn + 1) r.inside r.state d.stage) s.views id w (omega arith, omega arith) (λ j d _ to. knows_drawn r.served r.drawn r.inside r.state d.stage (r.each j d to));
          fits = each_stays (λ d. Fits blank weight d.stage d.client) s.views id w (subst (λ (st : Stage S). Fits blank weight st v) is (r.fits id me.0 at)) (λ j d _ to. r.fits j d to);
          apart = apart_stays s.views id w (λ n j d mine _ to has. let below = ticket_below r.served r.drawn r.inside r.state n d.stage (r.each j d to) has in omega arith) r.apart;
          kept = same_clients r.state s.views id me.0 w at refl r.kept;
        },
        (r.drawn, sym (ap (λ (l : List ℕ). get_or l 0 0) r.words), refl, refl),
      )

  -- a pass that saw the turn of another stays as it was
  unmoved : (s : Tabled) (r : Rule s) (i id : ℕ) (me : Mine) → get_elem? s.views id ≡ some me.0 → Rule (stepped s i (get_or s.words i 0) id me.1 me.0 keeps)
  unmoved s r i id me at = subst (λ (t : List ℕ × List (Doing S V)). Rule record { words = t.0; homes = s.homes; views = t.1 })
      (λ k. (sym (set-get_or s.words i 0) k, sym (set_again s.views id me.0 at) k)) r

  -- no pass is inside while the ticket that is served is still waiting
  none_inside : (s : Tabled) (r : Rule s) (id : ℕ) (d : Doing S V) (t : ℕ) → get_elem? s.views id ≡ some d → d.stage ≡ Waiting t → t ≡ r.served → r.inside ≡ 0
  none_inside s r id d t at is here = r.within ∙ total-none (λ (e : Doing S V). guests e.stage) s.views (λ j e to. waits j e to e.stage refl)
    where
      waits : (j : ℕ) (e : Doing S V) → get_elem? s.views j ≡ some e → (st : Stage S) → e.stage ≡ st → guests e.stage ≡ 0
      waits j e to Away e_is = ap guests e_is
      waits j e to (Waiting u) e_is = ap guests e_is
      waits j e to (Inside u x) e_is = let known = subst (Knows r.served r.drawn r.inside r.state) e_is (r.each j e to) in
          let same : id ≡ j = r.apart id j d e t at to (subst (HasTicket t) (sym is) refl) (subst (HasTicket t) (sym e_is) (known.0 ∙ sym here)) in
          let one : d ≡ e = some-injective d e (sym at ∙ (ap (get_elem? s.views) same ∙ to)) in
          let no : ⊥ = cc (sym is, ap (λ (z : Doing S V). z.stage) one, e_is) in absurd no
      waits j e to Spent e_is = ap guests e_is

  module _ (any_order : (x : S) (xs ys : List V) → IsPermutation xs ys → holds x xs → holds x ys) where
    -- the view of one pass, brought to the front
    in_front : (x : S) (vs : List V) (i : ℕ) (v : V) → get_elem? vs i ≡ some v → holds x vs → IsKept holds x v
    in_front x vs i v at kept = let f = fronted vs i v at in (f.0, any_order x vs (v ∷ f.0) f.1 kept)

    enters : (s : Tabled) (r : Rule s) (id : ℕ) (d : Doing S V) (t : ℕ) → get_elem? s.views id ≡ some d → d.stage ≡ Waiting t → t ≡ r.served
        → Rule record { words = s.words; homes = set s.homes 0 none; views = set s.views id (doing (Inside t r.state) d.client) }
    enters s r id d t at is here = let w : Doing S V = doing (Inside t r.state) d.client in let none_in = none_inside s r id d t at is here in
        let ticket : tickets d.stage ≡ 1 = ap tickets is in let no_guest : guests d.stage ≡ 0 = ap guests is in
        let same_tickets = total-set (λ (e : Doing S V). tickets e.stage) s.views id d w at in let one_in = total-set (λ (e : Doing S V). guests e.stage) s.views id d w at in
        let same_weight = total-set (λ (e : Doing S V). weight e.client) s.views id d w at in
        let queue = r.queue in let within = r.within in let whole = r.whole in
        let known = subst (Knows r.served r.drawn r.inside r.state) is (r.each id d at) in let below = known.1 in record {
          served = r.served;
          drawn = r.drawn;
          inside = 1;
          state = r.state;
          words = r.words;
          homes = ap (λ (l : List (opt.Option (Option S))). set l 0 none) (r.homes ∙ ap (λ (n : ℕ). home n r.state ∷ []) none_in);
          queue = omega arith;
          within = omega arith;
          whole = omega arith;
          small = r.small;
          each = each_stays (λ e. Knows r.served r.drawn 1 r.state e.stage) s.views id w (here, omega arith, refl, refl) (λ j e _ to. knows_entered r.served r.drawn r.inside r.state e.stage none_in (r.each j e to));
          fits = each_stays (λ e. Fits blank weight e.stage e.client) s.views id w (subst (λ (st : Stage S). Fits blank weight st d.client) is (r.fits id d at)) (λ j e _ to. r.fits j e to);
          apart = apart_stays s.views id w (λ n j e mine other to has. other (r.apart j id e d n to at has (subst (HasTicket n) (sym is) mine))) r.apart;
          kept = same_clients r.state s.views id d w at refl r.kept;
        }

    looks_at : (s : Tabled) (r : Rule s) (slots id : ℕ) (me : Mine) → get_elem? s.views id ≡ some me.0 → (st : Stage S) → me.0.stage ≡ st
        → (w : Doing S V) × (a : Act (Option S)) × Valid s.homes me.1 a × Rule (stepped s 1 (get_or s.words 1 0) id me.1 w a) × looked holds (step slots 1 0 0 none) me (get_or s.words 1 0) (w, carried_after me.1 a)
    looks_at s r slots id me at Away is = (me.0, keeps, tt, unmoved s r 1 id me at, λ t is'. let no : ⊥ = cc (sym is, is') in absurd no)
    looks_at s r slots id me at (Inside u x) is = (me.0, keeps, tt, unmoved s r 1 id me at, λ t is'. let no : ⊥ = cc (sym is, is') in absurd no)
    looks_at s r slots id me at Spent is = (me.0, keeps, tt, unmoved s r 1 id me at, λ t is'. let no : ⊥ = cc (sym is, is') in absurd no)
    looks_at s r slots id me at (Waiting t) is = let found : get_or s.words 1 0 ≡ r.served % 2 ^ 64 = ap (λ (l : List ℕ). get_or l 1 0) r.words in
        let same : (u : ℕ) → me.0.stage ≡ Waiting u → t ≡ u = λ u is'. cc (sym is ∙ is') in
        dite (ℕ_discrete (t % 2 ^ 64) (get_or s.words 1 0))
        (λ own. let known = subst (Knows r.served r.drawn r.inside r.state) is (r.each id me.0 at) in let above = known.0 in let below = known.1 in let few = few_out s r in
        let here : t ≡ r.served = sym (one_turn r.served t (2 ^ 64) above (omega arith) (sym (own ∙ found))) in
        let v : V = me.0.client in (
          doing (Inside t r.state) v,
          takes 0 (Some r.state),
          ap (λ (l : List (opt.Option (Option S))). get_elem? l 0) (r.homes ∙ ap (λ (n : ℕ). home n r.state ∷ []) (none_inside s r id me.0 t at is here)),
          subst (λ (ws : List ℕ). Rule record { words = ws; homes = set s.homes 0 none; views = set s.views id (doing (Inside t r.state) v) }) (sym (set-get_or s.words 1 0)) (enters s r id me.0 t at is here),
          λ u is'. (
            (λ _. (r.state, ap (λ (n : ℕ). doing (Inside n r.state) v) (same u is'), refl, in_front r.state (map client s.views) id v (at_map client s.views id me.0 at) r.kept)),
            λ other. absurd (other (ap (λ (n : ℕ). n % 2 ^ 64) (sym (same u is')) ∙ own)),
          ),
        ))
        (λ other. (
          me.0,
          keeps,
          tt,
          unmoved s r 1 id me at,
          λ u is'. ((λ own. absurd (other (ap (λ (n : ℕ). n % 2 ^ 64) (same u is') ∙ own))), λ _. (refl, refl)),
        ))

    pub looks : (slots id : ℕ) (me : Mine) → Allows Rule slots id me 1 (λ n. n) (looked holds (step slots 1 0 0 none) me)
    looks slots id me s r _ at _ = looks_at s r slots id me at me.0.stage refl

    gives_on : (slots id : ℕ) (me : Mine) (t : ℕ) (x y : S) (next : V → V) → me.0.stage ≡ Inside t x → me.1 ≡ (0, Some y) ∷ [] → weight (next me.0.client) ≡ weight me.0.client
        → Carries holds x me.0.client y (next me.0.client) → Allows Rule slots id me 1 (λ n. (n + 1) % 2 ^ 64) (gave next (step slots 1 1 0 none) me)
    gives_on slots id me t x y next is has heavy carries s r _ at _ = let v : V = me.0.client in let w : Doing S V = away (next v) in
        let known = subst (Knows r.served r.drawn r.inside r.state) is (r.each id me.0 at) in let below = known.1 in let one = known.2 in
        let ticket : tickets me.0.stage ≡ 1 = ap tickets is in let guest : guests me.0.stage ≡ 1 = ap guests is in
        let one_less = total-set (λ (e : Doing S V). tickets e.stage) s.views id me.0 w at in let one_out = total-set (λ (e : Doing S V). guests e.stage) s.views id me.0 w at in
        let same_weight = total-set (λ (e : Doing S V). weight e.client) s.views id me.0 w at in
        let queue = r.queue in let within = r.within in let whole = r.whole in
        let own : HasTicket r.served me.0.stage = subst (HasTicket r.served) (sym is) known.0 in
        let f = fronted (map client s.views) id v (at_map client s.views id me.0 at) in
        let before : holds x (v ∷ f.0) = subst (λ (z : S). holds z (v ∷ f.0)) (sym known.3) (any_order r.state (map client s.views) (v ∷ f.0) f.1 r.kept) in (
          w,
          gives,
          tt,
          record {
            served = r.served + 1;
            drawn = r.drawn;
            inside = 0;
            state = y;
            words = ap (λ (l : List ℕ). set l 1 ((get_or l 1 0 + 1) % 2 ^ 64)) r.words ∙ ap (λ (n : ℕ). r.drawn % 2 ^ 64 ∷ n ∷ []) (mod-add-mod r.served (2 ^ 64) 1);
            homes = ap (put_back s.homes) has ∙ ap (λ (l : List (opt.Option (Option S))). set l 0 (some (Some y))) r.homes;
            queue = omega arith;
            within = omega arith;
            whole = omega arith;
            small = r.small;
            each = each_stays (λ e. Knows (r.served + 1) r.drawn 0 y e.stage) s.views id w tt
                (λ j e other to. knows_left r.served r.drawn r.inside r.state y e.stage (λ served. other (r.apart j id e me.0 r.served to at served own)) (r.each j e to));
            fits = each_stays (λ e. Fits blank weight e.stage e.client) s.views id w
                (let fit = subst (λ (st : Stage S). Fits blank weight st v) is (r.fits id me.0 at) in omega arith) (λ j e _ to. r.fits j e to);
            apart = apart_stays s.views id w (λ n j e mine _ _ _. mine) r.apart;
            kept = subst (holds y) (sym (map-set client s.views id w))
                (any_order y (next v ∷ f.0) (set (map client s.views) id (next v)) (IsPermutation-sym (set (map client s.views) id (next v)) (next v ∷ f.0) (f.2 (next v))) (carries f.0 before));
          },
          (refl, refl),
        )

    -- the same after the state was put into the slot that the pass holds
    pub gives_back : (slots id : ℕ) (before after : Mine) (t : ℕ) (x y : S) (next : V → V) → after ≡ (before.0, (0, Some y) ∷ rest before.1) → before.0.stage ≡ Inside t x → before.1 ≡ (0, None) ∷ []
        → weight (next before.0.client) ≡ weight before.0.client → Carries holds x before.0.client y (next before.0.client) → Allows Rule slots id after 1 (λ n. (n + 1) % 2 ^ 64) (gave next (step slots 1 1 0 none) after)
    gives_back slots id before after t x y next now is has heavy carries =
        subst (λ (me : Mine). Allows Rule slots id me 1 (λ n. (n + 1) % 2 ^ 64) (gave next (step slots 1 1 0 none) me)) (sym now)
        (gives_on slots id (before.0, (0, Some y) ∷ rest before.1) t x y next is (ap (λ (l : List (ℕ × Option S)). (0, Some y) ∷ rest l) has) heavy carries)

    module _ (cuts : V → V → V → Type 0) (weighs : (v a b : V) → cuts v a b → (weight v ≡ weight a + weight b) × (0 < weight a) × (0 < weight b)) where
      pub splits : (cut : (x : S) (v a b : V) (xs : List V) → cuts v a b → holds x (v ∷ xs) → holds x (a ∷ b ∷ xs))
          → (id : ℕ) (d : Doing S V) (a b : V) → d.stage ≡ Away → cuts d.client a b → Splits Rule id d (away a) (away b)
      splits cut id d a b is cuts_it s r at = let w : Doing S V = away a in let u : Doing S V = away b in let vs : List (Doing S V) = set s.views id w in
          let parts = weighs d.client a b cuts_it in let sum = parts.0 in let some_a = parts.1 in let some_b = parts.2 in
          let no_ticket : tickets d.stage ≡ 0 = ap tickets is in let no_guest : guests d.stage ≡ 0 = ap guests is in
          let t1 = total-set (λ (e : Doing S V). tickets e.stage) s.views id d w at in let t2 = total-snoc (λ (e : Doing S V). tickets e.stage) vs u in
          let g1 = total-set (λ (e : Doing S V). guests e.stage) s.views id d w at in let g2 = total-snoc (λ (e : Doing S V). guests e.stage) vs u in
          let w1 = total-set (λ (e : Doing S V). weight e.client) s.views id d w at in let w2 = total-snoc (λ (e : Doing S V). weight e.client) vs u in
          let queue = r.queue in let within = r.within in let whole = r.whole in
          let clients = map client s.views in let f = fronted clients id d.client (at_map client s.views id d at) in let front = set clients id a in
          let two = cut r.state d.client a b f.0 cuts_it (any_order r.state clients (d.client ∷ f.0) f.1 r.kept) in
          let back : IsPermutation (a ∷ b ∷ f.0) (front ++ b ∷ []) =
          IsPermutation-sym (front ++ b ∷ []) (a ∷ b ∷ f.0) (IsPermutation-trans (front ++ b ∷ []) (b ∷ a ∷ f.0) (a ∷ b ∷ f.0)
          (IsPermutation-trans (front ++ b ∷ []) (b ∷ front) (b ∷ a ∷ f.0) (IsPermutation-to_front front b) (IsPermutation-cons b front (a ∷ f.0) (f.2 a)))
          (IsPermutation-middle (b ∷ []) a f.0)) in record {
            served = r.served;
            drawn = r.drawn;
            inside = r.inside;
            state = r.state;
            words = r.words;
            homes = r.homes;
            queue = omega arith;
            within = omega arith;
            whole = omega arith;
            small = r.small;
            each = each_more (λ e. Knows r.served r.drawn r.inside r.state e.stage) vs u tt (each_stays (λ e. Knows r.served r.drawn r.inside r.state e.stage) s.views id w tt (λ j e _ to. r.each j e to));
            fits = each_more (λ e. Fits blank weight e.stage e.client) vs u some_b (each_stays (λ e. Fits blank weight e.stage e.client) s.views id w some_a (λ j e _ to. r.fits j e to));
            apart = apart_more vs u (λ n mine. mine) (apart_stays s.views id w (λ n j e mine _ _ _. mine) r.apart);
            kept = subst (holds r.state) (sym (map-append client vs (u ∷ []) ∙ ap (λ (l : List V). l ++ b ∷ []) (map-set client s.views id w)))
                (any_order r.state (a ∷ b ∷ f.0) (front ++ b ∷ []) back two);
          }

      pub joins : (blank_light : weight blank ≡ 0) (blank_more : (x : S) (xs : List V) → holds x xs → holds x (blank ∷ xs))
          (uncut : (x : S) (v a b : V) (xs : List V) → cuts v a b → holds x (a ∷ b ∷ xs) → holds x (v ∷ xs))
          → (id : ℕ) (d : Doing S V) (other : ℕ) (e : Doing S V) (v : V) → d.stage ≡ Away → e.stage ≡ Away → cuts v d.client e.client → Joins Rule id d other e (away v) (doing Spent blank)
      joins blank_light blank_more uncut id d other e v d_is e_is cuts_it s r at distinct there = let w : Doing S V = away v in let u : Doing S V = doing Spent blank in let vs : List (Doing S V) = set s.views id w in
          let parts = weighs v d.client e.client cuts_it in let sum = parts.0 in let some_d = parts.1 in
          let d_ticket : tickets d.stage ≡ 0 = ap tickets d_is in let d_guest : guests d.stage ≡ 0 = ap guests d_is in
          let e_ticket : tickets e.stage ≡ 0 = ap tickets e_is in let e_guest : guests e.stage ≡ 0 = ap guests e_is in
          let t1 = total-set (λ (z : Doing S V). tickets z.stage) s.views id d w at in let t2 = total-set (λ (z : Doing S V). tickets z.stage) vs other e u there in
          let g1 = total-set (λ (z : Doing S V). guests z.stage) s.views id d w at in let g2 = total-set (λ (z : Doing S V). guests z.stage) vs other e u there in
          let w1 = total-set (λ (z : Doing S V). weight z.client) s.views id d w at in let w2 = total-set (λ (z : Doing S V). weight z.client) vs other e u there in
          let queue = r.queue in let within = r.within in let whole = r.whole in
          let clients = map client s.views in let to : get_elem? s.views other ≡ some e = sym (set_else s.views id other w distinct) ∙ there in
          let p = paired clients id other d.client e.client (at_map client s.views id d at) (at_map client s.views other e to) distinct in
          let one = uncut r.state v d.client e.client p.0 cuts_it (any_order r.state clients (d.client ∷ e.client ∷ p.0) p.1 r.kept) in
          let front = set (set clients id v) other blank in
          let back : IsPermutation (blank ∷ v ∷ p.0) front = IsPermutation-sym front (blank ∷ v ∷ p.0)
          (IsPermutation-trans front (v ∷ blank ∷ p.0) (blank ∷ v ∷ p.0) (p.2 v blank) (IsPermutation-middle (v ∷ []) blank p.0)) in record {
            served = r.served;
            drawn = r.drawn;
            inside = r.inside;
            state = r.state;
            words = r.words;
            homes = r.homes;
            queue = omega arith;
            within = omega arith;
            whole = omega arith;
            small = r.small;
            each = each_stays (λ z. Knows r.served r.drawn r.inside r.state z.stage) vs other u tt
                (λ j z _ to'. each_stays (λ z. Knows r.served r.drawn r.inside r.state z.stage) s.views id w tt (λ j z _ to. r.each j z to) j z to');
            fits = each_stays (λ z. Fits blank weight z.stage z.client) vs other u refl
                (λ j z _ to'. each_stays (λ z. Fits blank weight z.stage z.client) s.views id w (omega arith) (λ j z _ to. r.fits j z to) j z to');
            apart = apart_stays vs other u (λ n j z mine _ _ _. mine) (apart_stays s.views id w (λ n j z mine _ _ _. mine) r.apart);
            kept = subst (holds r.state) (sym (map-set client vs other u ∙ ap (λ (l : List V). set l other blank) (map-set client s.views id w)))
                (any_order r.state (blank ∷ v ∷ p.0) front back (blank_more r.state (v ∷ p.0) one));
          }

    module _ (blank_less : (x : S) (xs : List V) → holds x (blank ∷ xs) → holds x xs) where
      -- blank views go
      shed : (x : S) (xs rest : List V) → ((j : ℕ) (v : V) → get_elem? xs j ≡ some v → v ≡ blank) → holds x (xs ++ rest) → holds x rest
      shed x [] rest blanks h = h
      shed x (v ∷ xs) rest blanks h = shed x xs rest (λ j w at. blanks (suc j) w at) (blank_less x (xs ++ rest) (subst (λ (w : V). holds x (w ∷ (xs ++ rest))) (blanks 0 v refl) h))

      -- where all others are blank, one view is left
      alone : (x : S) (xs : List V) (i : ℕ) (v : V) → get_elem? xs i ≡ some v → ((j : ℕ) (w : V) → j ≢ i → get_elem? xs j ≡ some w → w ≡ blank) → holds x xs → holds x (v ∷ [])
      alone x [] i v at blanks h = absurd (some-ne-none v (sym at))
      alone x (w ∷ xs) zero v at blanks h = subst (λ (z : V). holds x (z ∷ [])) (some-injective w v at)
          (shed x xs (w ∷ []) (λ j u to. blanks (suc j) u (λ e. omega arith) to)
          (any_order x (w ∷ xs) (xs ++ w ∷ []) (IsPermutation-sym (xs ++ w ∷ []) (w ∷ xs) (IsPermutation-to_front xs w)) h))
      alone x (w ∷ xs) (suc i) v at blanks h = alone x xs i v at (λ j u other to. blanks (suc j) u (λ e. other (omega arith)) to)
          (blank_less x xs (subst (λ (z : V). holds x (z ∷ xs)) (blanks 0 w (λ e. omega arith) refl) h))

      pub closes : (id : ℕ) (d : Doing S V) (ws : List ℕ) (xs : List (Option S)) (slot : Option S) → d.stage ≡ Away → weight d.client ≡ all → Final (Seen Rule id d) ws xs → get_elem? xs 0 ≡ some slot
          → (x : S) × (slot ≡ Some x) × holds x (d.client ∷ [])
      closes id d ws xs slot is heavy final found = let s = final.0 in let r = final.1.0 in let at = final.1.1 in let whole = r.whole in
          let light : (j : ℕ) (e : Doing S V) → j ≢ id → get_elem? s.views j ≡ some e → weight e.client ≡ 0 =
          λ j e other to. let both = two_in_total (λ (z : Doing S V). weight z.client) s.views j id e d to at other in omega arith in
          let none_in : r.inside ≡ 0 = r.within ∙ total-none (λ (e : Doing S V). guests e.stage) s.views
          (λ j e to. dite (ℕ_discrete j id)
          (λ (here : j ≡ id). let one : e ≡ d = some-injective e d (sym to ∙ (ap (get_elem? s.views) here ∙ at)) in ap (λ (z : Doing S V). guests z.stage) one ∙ ap guests is)
          (λ (other : j ≢ id). light_guest blank weight e.stage e.client (r.fits j e to) (light j e other to))) in
          let at_home : get_elem? s.homes 0 ≡ some (some (Some r.state)) = ap (λ (l : List (opt.Option (Option S))). get_elem? l 0) (r.homes ∙ ap (λ (n : ℕ). home n r.state ∷ []) none_in) in (
            r.state,
            some-injective slot (Some r.state) (sym found ∙ final.4 0 (Some r.state) at_home),
            alone r.state (map client s.views) id d.client (at_map client s.views id d at) (λ j v other to.
                let e = unmapped s.views j v to in subst (λ (z : V). z ≡ blank) e.2 (light_blank blank weight e.0.stage e.0.client (r.fits j e.0 e.1) (light j e.0 other e.1))) r.kept,
          )

pub unwrappable : {S : Type 0} (slot : Option S) (x : S) → slot ≡ Some x → IsSome slot
unwrappable slot x e = subst IsSome (sym e) refl

-- what holds of the state in the slot holds of the one that is unwrapped
pub unwraps : {S : Type 0} (holds : S → Type 0) (slot : Option S) (x y : S) → slot ≡ Some x → slot ≡ Some y → holds x → holds y
unwraps holds slot x y e f h = subst holds (cc (e, f)) h
