-- A block added to the chain.
use Rattle.std.proofs.Common.{◌≡◌, ◌≢◌, ◌≤◌, ℕ, List, [], ◌∷◌, ◌++◌, length, refl, sym, ap, ◌∙◌, subst, inl, inr}
use Rattle.sv_store.specs.Held.{Held}
use Rattle.sv_super.specs.Calls.{Links, PutsList}
use Rattle.sv_super.proofs.Chains.{after-link, after-snoc, next-link, next-snoc}

-- to a list with room
pub links-snoc : (h : Held) {list list' : List ℕ} (b : ℕ) → 1 ≤ length list → b ≢ 0 → list' ≡ list ++ b ∷ [] → Links h h list list' b
links-snoc h {list} {list'} b some named is = subst (λ q. Links h h list q b) (sym is) (record {
  next = next-snoc h list b some named;
  then = after-snoc h list b some;
  bytes = [];
  puts = inl refl;
})

-- above a full list, which was written to it
pub links-link : {h new : Held} {list cleared list' : List ℕ} (b : ℕ) → PutsList h new b list → b ≢ 0 → cleared ≡ [] → list' ≡ cleared ++ b ∷ [] → Links h new list list' b
links-link {h} {new} {list} {cleared} {list'} b puts named none is = subst (λ q. Links h new list q b) (sym (is ∙ ap (λ q. q ++ b ∷ []) none)) (record {
  next = next-link new list b puts.reads named;
  then = after-link new list b puts.reads;
  bytes = puts.bytes;
  puts = inr puts.puts;
})
