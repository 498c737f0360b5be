-- The order in which the blocks of a chain are taken, list by list: the numbers after the first of a list, then its link, and
-- then the order of the next list.
use Rattle.std.proofs.Common.{◌≡◌, ◌≢◌, ◌<◌, ◌+◌, ◌-◌, ◌==◌, ◌∷◌, [], ◌⊎◌, ◌∙◌, ℕ, suc, List, inl, inr, ap, sym, refl, subst, length, take}
use Rattle.std.proofs.Common.{slice_index, arith}
use Rattle.sv_store.specs.Held.{Held}
use Rattle.sv_super.specs.Count.{one_if, times}
use Rattle.sv_super.specs.FreeList.{HasList, IsChain, IsNext, after, list_of}
use Rattle.sv_super.proofs.Chains.{after-long, after-one, chain-next, chain-nil, chain-rest}
use Rattle.sv_super.proofs.Counts.{times-cons, times-nil}

-- the last of a list counted apart
pub times-last : (c y : ℕ) (ys : List ℕ)
    → times c (y ∷ ys) ≡ times c (take (length ys) (y ∷ ys)) + one_if (slice_index (y ∷ ys) (length ys) == c)
times-last c y [] = omega (arith, times-cons c y [], times-nil c)
times-last c y (z ∷ zs) =
    let rest = times-last c z zs in
    omega (arith, rest, times-cons c y (z ∷ zs), times-cons c y (take (length zs) (z ∷ zs)))

module _ (h : Held) where
  -- the list is the last of the chain
  pub record IsEnd (x : ℕ) (ys order : List ℕ) : Type 0 where
    pub none : x ≡ 0
    pub same : (c : ℕ) → times c order ≡ times c ys

  -- the list's first number is the block in which the next list stands
  pub record IsLinked (x : ℕ) (ys order : List ℕ) : Type 0 where
    pub some : x ≢ 0
    pub list : List ℕ
    pub rest : List ℕ
    pub spelled : HasList (h x) list
    pub chain : IsChain h list rest
    pub same : (c : ℕ) → times c order ≡ times c ys + one_if (x == c) + times c rest
    pub fewer : length rest < length order

  no_more : (x : ℕ) (ys : List ℕ) → x ∷ ys ≡ 0 ∷ [] → IsEnd x ys []
  no_more x ys e =
      let none : ys ≡ [] = cc e in
      record { none = cc e; same = λ c. ap (times c) (sym none) }

  the_link : (b x : ℕ) (rest : List ℕ) → IsChain h (x ∷ []) (b ∷ rest) → IsLinked x [] (b ∷ rest)
  the_link b x rest c =
      let next : IsNext h (x ∷ []) b = chain-next h (x ∷ []) b rest c in
      let is : x ≡ b = next.last in
      record {
        some = λ none. next.named (sym is ∙ none);
        list = list_of (h b);
        rest = rest;
        spelled = subst (λ (y : ℕ). HasList (h y) (list_of (h b))) (sym is) (next.link refl);
        chain =
            subst (λ (l : List ℕ). IsChain h l rest) (after-one h (x ∷ []) refl ∙ ap (λ (y : ℕ). list_of (h y)) is)
            (chain-rest h (x ∷ []) b rest c);
        same =
            λ c. (let same_test : one_if (x == c) ≡ one_if (b == c) = ap (λ (y : ℕ). one_if (y == c)) is in
            omega (arith, same_test, times-cons c b rest, times-nil c));
        fewer = omega arith;
      }

  module _ (b x y : ℕ) (ys rest : List ℕ) (c : IsChain h (x ∷ y ∷ ys) (b ∷ rest)) where
    abbrev front : List ℕ
    front = take (length ys) (y ∷ ys)

    the_rest : IsChain h (x ∷ front) rest
    the_rest =
        let size : suc (suc (length ys)) - 1 ≡ suc (length ys) = omega arith in
        let cut : after h (x ∷ y ∷ ys) ≡ x ∷ front = after-long h (x ∷ y ∷ ys) (omega arith) ∙ ap (λ (n : ℕ). take n (x ∷ y ∷ ys)) size in
        subst (λ (l : List ℕ). IsChain h l rest) cut (chain-rest h (x ∷ y ∷ ys) b rest c)

    the_last : slice_index (y ∷ ys) (length ys) ≡ b
    the_last =
        let next : IsNext h (x ∷ y ∷ ys) b = chain-next h (x ∷ y ∷ ys) b rest c in
        let size : suc (suc (length ys)) - 1 ≡ suc (length ys) = omega arith in
        ap (slice_index (x ∷ y ∷ ys)) (sym size) ∙ next.last

    with_last : (d : ℕ) → times d (y ∷ ys) ≡ times d front + one_if (b == d)
    with_last d = times-last d y ys ∙ ap (λ (z : ℕ). times d front + one_if (z == d)) the_last

    longer : IsEnd x front rest ⊎ IsLinked x front rest → IsEnd x (y ∷ ys) (b ∷ rest) ⊎ IsLinked x (y ∷ ys) (b ∷ rest)
    longer (inl e) = inl (record {
      none = e.none;
      same = λ d. (let was = e.same d in let now = with_last d in omega (arith, was, now, times-cons d b rest));
    })
    longer (inr l) = inr (record {
      some = l.some;
      list = l.list;
      rest = l.rest;
      spelled = l.spelled;
      chain = l.chain;
      same = λ d. (let was = l.same d in let now = with_last d in omega (arith, was, now, times-cons d b rest));
      fewer = (let less = l.fewer in omega (arith, less));
    })

  pub cut : (order : List ℕ) (x : ℕ) (ys : List ℕ) → IsChain h (x ∷ ys) order → IsEnd x ys order ⊎ IsLinked x ys order
  cut [] x ys c = inl (no_more x ys (chain-nil h (x ∷ ys) c))
  cut (b ∷ rest) x [] c = inr (the_link b x rest c)
  cut (b ∷ rest) x (y ∷ ys) c = longer b x y ys rest c (cut rest x (take (length ys) (y ∷ ys)) (the_rest b x y ys rest c))
