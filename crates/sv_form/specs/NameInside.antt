-- How a name is kept: its bytes, filled up with zero bytes to fourteen, and their number.
use Rattle.std.specs.Prelude.{◌≡◌, ◌≤◌, ◌-◌, ◌++◌, ℕ, List, length, take, drop, replicate}
use Rattle.std.proofs.Common.{sym, ap, ◌∙◌, arith, take-append-drop}
use Rattle.std.proofs.lemmas.List.{length-take-le}
use Rattle.sv_form.specs.Name.{IsName}
use Rattle.sv_form.specs.declared.name.Name.TheInside.{Inside}

pub record IsInside (n : Inside) : Type 0 where
  pub name : IsName (take n.len n.bytes)
  pub room : length n.bytes ≡ 14
  pub filled : drop n.len n.bytes ≡ replicate (14 - n.len) 0
  pub whole : n.len ≤ 14

-- the one way to keep a name
abbrev pub inside_of : List ℕ → Inside
inside_of name = record { bytes = name ++ replicate (14 - length name) 0; len = length name }

pub inside_of-take : (n : Inside) → IsInside n → inside_of (take n.len n.bytes) ≡ n
inside_of-take n h =
    let whole : n.len ≤ length n.bytes = omega (arith, h.room, h.whole) in
    let len : length (take n.len n.bytes) ≡ n.len = length-take-le n.len n.bytes whole in
    let bytes : take n.len n.bytes ++ replicate (14 - length (take n.len n.bytes)) 0 ≡ n.bytes =
    ap (λ (k : ℕ). take n.len n.bytes ++ replicate (14 - k) 0) len ∙ ap (λ (d : List ℕ). take n.len n.bytes ++ d) (sym h.filled)
    ∙ take-append-drop n.len n.bytes in
    let kept : List ℕ → ℕ → Inside = λ b k. record { bytes = b; len = k } in
    ap (λ (b : List ℕ). kept b (length (take n.len n.bytes))) bytes ∙ ap (λ (k : ℕ). kept n.bytes k) len
