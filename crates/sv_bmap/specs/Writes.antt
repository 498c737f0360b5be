-- What the write of one number of an indirect block leaves.
use Rattle.std.specs.Prelude.{◌≡◌, ◌≢◌, ◌<◌, ◌+◌, ◌*◌, ◌/◌, ℕ, List}
use Rattle.sv_form.specs.Number.{number32, ChangesOnly}
use Rattle.sv_store.specs.Held.{Held, put}
use Rattle.sv_bmap.specs.Tree.{number_in}

-- the block has the bytes that it had, but for number k, which is x; no other block has changed
pub record PutsNumber (old new : Held) (b : ℕ) (was : List ℕ) (k x : ℕ) : Type 0 where
  pub bytes : List ℕ
  pub puts : new ≡ put b bytes old
  pub number : number32 bytes (k * 4) ≡ x
  pub others : ChangesOnly was bytes (k * 4) (k * 4 + 4)

-- number k of the block is x, each other number and each other line is as before
pub record SetsNumber (n : ℕ) (old new : Held) (b k x : ℕ) : Type 0 where
  pub bytes : List ℕ
  pub puts : new ≡ put b bytes old
  pub here : number_in new b k ≡ x
  pub siblings : (j : ℕ) → j < n → j ≢ k → number_in new b j ≡ number_in old b j
  pub neighbours : (l : ℕ) → l ≢ k / 16 → new b l ≡ old b l
