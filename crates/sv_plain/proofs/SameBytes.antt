-- How the bytes of a node are compared, one by one.
use Rattle.std.proofs.Common.{◌≡◌, ◌≢◌, ◌≤◌, ◌<◌, ℕ, suc, ◌+◌, ◌-◌, ◌&&◌, Bool, true, false, List, [], ◌∷◌, length, get_or, drop, min, Some, length-drop, nat_eq, sym, refl, ap, ◌∙◌, arith}
use Rattle.std.proofs.lemmas.Bool.{eq-eqb}
use Rattle.std.proofs.lemmas.Bool.Decides.{nat_tests}
use Rattle.std.proofs.lemmas.List.FromFn.{length-map-range_with_len}
use Rattle.std.proofs.Math.Seq.{drop-cons}
use Rattle.std.specs.FinMap as fmap
use Rattle.sv_plain.specs.declared.fs.opening.Opening.{Opening}
use Rattle.sv_plain.specs.declared.history.reply.Reply.TheVariants.{Got}
use Rattle.sv_plain.specs.Fs.{Fs}
use Rattle.sv_plain.specs.Whole.{IsWhole}
use Rattle.sv_plain.specs.Step.{file_bytes, read_replies}
use Rattle.sv_plain.proofs.Got.{and_right}
use Rattle.sv_plain.proofs.KeepsWhole.{passes}
use Rattle.sv_form.specs.Node.{Node, byte_of, bytes_of}
use Rattle.sv_plain.specs.Names.{same_bytes, some_and}

not_same : (b x : ℕ) → b ≢ x → nat_eq b x ≡ false
not_same b x ne = grind (arith, nat_tests)

empty : (xs : List ℕ) → length xs ≡ 0 → xs ≡ []
empty [] e = refl
empty (x ∷ xs) e = absurd (omega arith)

-- from place k on, the bytes are those of the node
abbrev pub same_from : ℕ → Node → ℕ → List ℕ → ℕ → Bool
same_from block node at bytes k = same_bytes (drop k bytes) (bytes_of block node (at + k) (length bytes - k))

module _ (block : ℕ) (node : Node) (at : ℕ) (bytes : List ℕ) where
  pub same-begins : same_bytes bytes (bytes_of block node at (length bytes)) ≡ same_from block node at bytes 0
  same-begins = (let place : at ≡ at + 0 = omega arith in let all : length bytes ≡ length bytes - 0 = omega arith in (λ i. same_bytes bytes (bytes_of block node (place i) (all i))))

  module _ (k : ℕ) (within : k < length bytes) where
    one : same_from block node at bytes k ≡ (nat_eq (get_or bytes k 0) (byte_of block node (at + k)) && same_from block node at bytes (k + 1))
    unfolding bytes_of
    one =
        let left : length bytes - k ≡ suc (length bytes - (k + 1)) = omega (arith, within) in
        let more : suc k ≡ k + 1 = omega arith in
        let place : at + k + 1 ≡ at + (k + 1) = omega arith in
        (λ i. same_bytes ((drop-cons bytes k 0 within ∙ ap (λ n. get_or bytes k 0 ∷ drop n bytes) more) i) (bytes_of block node (at + k) (left i)))
        ∙ ap (λ a. nat_eq (get_or bytes k 0) (byte_of block node (at + k)) && same_bytes (drop (k + 1) bytes) (bytes_of block node a (length bytes - (k + 1)))) place

    pub same-not : byte_of block node (at + k) ≢ get_or bytes k 0 → same_from block node at bytes k ≡ false
    same-not ne = one ∙ ap (λ b. b && same_from block node at bytes (k + 1)) (not_same _ _ (λ e. ne (sym e)))

    pub same-more : byte_of block node (at + k) ≡ get_or bytes k 0 → same_from block node at bytes k ≡ same_from block node at bytes (k + 1)
    same-more e = one ∙ ap (λ b. b && same_from block node at bytes (k + 1)) (eq-eqb _ _ (sym e))

  pub same-ends : (k : ℕ) → k ≡ length bytes → same_from block node at bytes k ≡ true
  unfolding bytes_of
  same-ends k e =
      let none : drop k bytes ≡ [] = empty (drop k bytes) (omega (arith, length-drop k bytes, e)) in
      let left : length bytes - k ≡ 0 = omega (arith, e) in
      (λ i. same_bytes (none i) (bytes_of block node (at + k) (left i)))

and_false : (a b : Bool) → b ≡ false → (a && b) ≡ false
and_false true b e = e
and_false false b e = refl

-- lists of two lengths are not the same
pub other_length : (xs ys : List ℕ) → length xs ≢ length ys → same_bytes xs ys ≡ false
other_length [] [] ne = absurd (ne refl)
other_length [] (y ∷ ys) ne = refl
other_length (x ∷ xs) [] ne = refl
other_length (x ∷ xs) (y ∷ ys) ne = and_false (nat_eq x y) (same_bytes xs ys) (other_length xs ys (λ e. ne (ap suc e)))

pub length-bytes_of : (block : ℕ) (node : Node) (at n : ℕ) → length (bytes_of block node at n) ≡ n
unfolding bytes_of
length-bytes_of block node at n = length-map-range_with_len (byte_of block node) at n

-- no bytes are no bytes
pub none_read : (block : ℕ) (node : Node) (at n : ℕ) (bytes : List ℕ) → n ≡ 0 → length bytes ≡ 0 → true ≡ same_bytes bytes (bytes_of block node at n)
unfolding bytes_of
none_read block node at n bytes e f = sym (λ i. same_bytes (empty bytes f i) (bytes_of block node at (e i)))

same_length : (xs ys : List ℕ) → same_bytes xs ys ≡ true → length xs ≡ length ys
same_length [] [] e = refl
same_length [] (y ∷ ys) e = cc
same_length (x ∷ xs) [] e = cc
same_length (x ∷ xs) (y ∷ ys) e = ap suc (same_length xs ys (and_right (nat_eq x y) _ e))

within_size : (offset size count greatest : ℕ) → offset ≤ greatest → size ≤ greatest → offset + min count (size - offset) ≤ greatest
within_size offset size count greatest h k = omega (arith, h, k)

same_item : (f g : Opening) → Some f ≡ Some g → f ≡ g
same_item f g e = cc

-- what is read ends within the greatest size
pub read-fits : (fs : Fs) (file count : ℕ) (bytes : List ℕ) (g : Opening) → IsWhole fs → fmap.get fs.files file ≡ Some g → read_replies fs file count (Got bytes) ≡ true → g.offset + length bytes ≤ fs.greatest
read-fits fs file count bytes g w there right =
    let f = passes (fmap.get fs.files file) (λ f. some_and (fmap.get fs.nodes f.inode) (λ node. same_bytes bytes (file_bytes fs.block node f.offset count))) right in
    let node = passes (fmap.get fs.nodes f.0.inode) (λ node. same_bytes bytes (file_bytes fs.block node f.0.offset count)) f.2 in
    let long = same_length bytes (file_bytes fs.block node.0 f.0.offset count) node.2 ∙ length-bytes_of fs.block node.0 f.0.offset (min count (node.0.size - f.0.offset)) in
    let fits = within_size f.0.offset node.0.size count fs.greatest (w.files file f.0 f.1).offset (w.nodes f.0.inode node.0 node.1).size in
    let offset : g.offset ≡ f.0.offset = ap (λ (x : Opening). x.offset) (same_item g f.0 (sym there ∙ f.1)) in
    omega (arith, long, fits, offset)
