-- An origin is made of a marker: it owns nothing, and its ghost field is the view that the caller named.
use Rattle.atomic_table.proofs.Names.{◌≡◌, [], ◌∷◌, refl, a_type, Val, vstruct, vcons, vnil, inst_fn, dcons, dnil, SProp, emp, ent, sem, Logic, Ura, ‵, raw, ◌⊛◌, ◌$◌, ◌∵◌, !, qed, by, keep, split, fjoin, use0, no_more, and_then, returns, enter, alloc_all, pass_all, free_all, look_at, get, sets, agg, tables, RattleType, owns, types_at, nothing, param, bounded, alive, Stays, walk_of, fact, fact_i, makes_shadow}
use Rattle.atomic_table.proofs.Walks.{proved, leaves}
use denote.Struct.Struct.{Struct}
use denote.Struct.Owning.{shape}
use Rattle.sv_turn.specs.contracts.origin.Origin as made
use Rattle.sv_turn.specs.contracts.origin.Origin.of.{ended, clauses}
use Rattle.sv_turn.specs.contracts.origin.Origin.of.Key.{name as #self}
use Rattle.sv_turn.proofs.origin.Origin.of.Statement.{statement}
use Rattle.sv_turn.proofs.origin.Origin.of.Code as code

abbrev token_val : Val
token_val = vstruct (vcons (vstruct vnil) vnil)

module _ (U : RattleType) where
  abbrev Pin : RattleType
  Pin = Struct (shape (made.the_type U))

  pin_made : {M : Type 1} {𝓤 : Ura M} (𝓛 : Logic 𝓤) → ent 𝓤 (emp 𝓤) (sem 𝓛 (Pin.own_val (tt, tt) (token_val ∷ [])))
  pin_made 𝓛 = makes_shadow 𝓛 (Pin.own_val (tt, tt) (token_val ∷ [])) (λ vss. (tt, ((λ uss. (tt, tt)), tt))) ((vstruct vnil ∷ [], tt), (refl, ((tt, (refl, tt)), tt)))

pub of_spec : {M : Type 1} → statement M
of_spec 𝓤 𝓛 𝓜 𝓡 wired V F _ _ g d _ =
    let H = 𝓛.H in let 𝓣 = tables 𝓤 H 𝓜 𝓡 𝓡.env in let W : RattleType = param 0 V in let En = ended V F g d in let c = clauses V F g d 𝓛 𝓜.mem 𝓡.returns in
    let inst = bounded (a_type ∷ a_type ∷ []) (V, (F, tt)) (dcons d dnil) in let fn = inst_fn inst code.function in let closed = code.unfolded 𝓤 H 𝓜 𝓡 wired (V, (F, tt)) d in let Br : RattleType = made.the_row W in
    let hs : Stays En.signature.params En.kept = tt in
    proved 𝓛 En hs c 𝓜 𝓡 tt (#self inst) fn closed (λ κs. tt) (λ κs. tt) (λ κs qs bounds a gh are.
    let r : Br.Denot = record { marker = record {}; first = g.first } in
    let Told : Type 0 = r.first ≡ g.first in let y : (walk_of 𝓛 En hs c).Ghost = ((κs, qs, bounds, a, tt), gh) in let Post : Val → SProp 𝓤 = (walk_of 𝓛 En hs c).post y in
    qed 𝓛 ((raw (alive 𝓛 En.signature κs qs) ⊛ ‵ (owns (types_at En.signature.params κs) a y.0.4)) ∷ raw ((c κs a).requires gh) ∷ []) ∵
    split ! $ keep ! (0 ∷ []) $ nothing ! $ use0 𝓛 (‵ ((Pin W).own_val (tt, tt) (token_val ∷ []))) (pin_made W 𝓛) $ fjoin ! $
    enter ! 𝓣.C 𝓣.Λ fn [] Post $ alloc_all ! (λ l. pass_all ! refl tt $
    sets ! (agg ! (no_more !)) refl (tt, tt) $ sets ! (agg ! (and_then ! (get ! refl) (no_more !))) refl (tt, (tt, tt)) $
    use0 𝓛 (raw (fact 𝓤 Told)) (fact_i 𝓤 Told (emp 𝓤) refl) $ nothing ! $
    returns ! (look_at ! 0 refl) $ free_all ! refl $ keep ! (3 ∷ 0 ∷ 2 ∷ 1 ∷ []) $ by ! (leaves 𝓛 En hs c y token_val r tt tt)))
