-- A disk inode and its 64 bytes fix one another.
use Rattle.std.proofs.Common.{◌≡◌, ◌+◌, ◌*◌, ◌<◌, ◌≤◌, ℕ, List, ap, arith, refl, sym, ◌∙◌}
use Rattle.sv_form.specs.Number.{number16, number24, number32, AreBytes, IsZero}
use Rattle.sv_form.specs.Inode.{IsBody, IsInode, kind_code}
use Rattle.sv_form.specs.declared.kind.Kind.{Kind}
use Rattle.sv_form.specs.declared.kind.Kind.TheVariants.{File, Dir}
use Rattle.sv_form.specs.declared.inode.InodeBody.{InodeBody}
use Rattle.sv_form.specs.declared.inode.DiskInode.{DiskInode}
use Rattle.sv_form.specs.declared.inode.DiskInode.TheVariants.{Free, Used}
use Rattle.sv_form.proofs.Numbers.{number16_zero}
use Rattle.sv_form.proofs.Spellings.{SameBytes, same_join, same_zero, same16, same32, same_table24, same_table32, same_list, same_whole}

-- kind and mode stand in one number
same_kind : (k l : Kind) (m n : ℕ) → m < 4096 → n < 4096 → 4096 * kind_code k + m ≡ 4096 * kind_code l + n → k ≡ l
same_kind File File m n p q e = refl
same_kind Dir Dir m n p q e = refl
same_kind File Dir m n p q e = absurd (omega arith)
same_kind Dir File m n p q e = absurd (omega arith)

same_mode : (c d m n : ℕ) → m < 4096 → n < 4096 → 4096 * c + m ≡ 4096 * d + n → m ≡ n
same_mode c d m n p q e = omega arith

some_code : (k : Kind) → 4 ≤ kind_code k
some_code File = omega arith
some_code Dir = omega arith

alike : (f : Kind → ℕ → ℕ → ℕ → ℕ → ℕ → List ℕ → List ℕ → InodeBody) (k k' : Kind) (a a' b b' c c' d d' e e' : ℕ) (g g' h h' : List ℕ)
    → k ≡ k' → a ≡ a' → b ≡ b' → c ≡ c' → d ≡ d' → e ≡ e' → g ≡ g' → h ≡ h' → f k a b c d e g h ≡ f k' a' b' c' d' e' g' h'
alike f k k' a a' b b' c c' d d' e e' g g' h h' p q r s t u v w = cc

made : Kind → ℕ → ℕ → ℕ → ℕ → ℕ → List ℕ → List ℕ → InodeBody
made k a b c d e g h = record { kind = k; mode = a; links = b; owner = c; group = d; size = e; addresses = g; times = h }

one_body : (bytes : List ℕ) (b c : InodeBody) → IsBody bytes b → IsBody bytes c → b ≡ c
unfolding made
one_body bytes b c x y =
    let first : 4096 * kind_code b.kind + b.mode ≡ 4096 * kind_code c.kind + c.mode = sym x.kind ∙ y.kind in
    alike made _ _ _ _ _ _ _ _ _ _ _ _ _ _ _ _ (same_kind b.kind c.kind b.mode c.mode x.mode y.mode first) (same_mode (kind_code b.kind) (kind_code c.kind) b.mode c.mode x.mode y.mode first)
    (sym x.links ∙ y.links) (sym x.owner ∙ y.owner) (sym x.group ∙ y.group) (sym x.size ∙ y.size)
    (same_list _ 13 b.addresses c.addresses x.addresses y.addresses (x.address_count ∙ sym y.address_count) (omega arith))
    (same_list _ 3 b.times c.times x.times y.times (x.time_count ∙ sym y.time_count) (omega arith))

-- zero bytes are no used inode
not_free : (bytes : List ℕ) (b : InodeBody) → IsZero bytes 0 64 → IsBody bytes b → ⊥
not_free bytes b zero x =
    let none : number16 bytes 0 ≡ 0 = number16_zero bytes 0 64 0 zero (omega arith) (omega arith) in
    let code : 4 ≤ kind_code b.kind = some_code b.kind in
    let kind : number16 bytes 0 ≡ 4096 * kind_code b.kind + b.mode = x.kind in
    absurd (omega arith)

pub one_inode : (bytes : List ℕ) (i j : DiskInode) → IsInode bytes i → IsInode bytes j → i ≡ j
one_inode bytes Free Free x y = refl
one_inode bytes (Used b) (Used c) x y = ap (λ (v : InodeBody). Used v) (one_body bytes b c x.spelled y.spelled)
one_inode bytes Free (Used c) x y = absurd (not_free bytes c x.spelled y.spelled)
one_inode bytes (Used b) Free x y = absurd (not_free bytes b y.spelled x.spelled)

head : (a b : List ℕ) (i : InodeBody) → AreBytes a → AreBytes b → IsBody a i → IsBody b i → SameBytes a b 0 12
head a b i p q x y =
    same_join a b 0 2 12 (same16 a b 0 _ p q x.kind y.kind) (
    same_join a b 2 4 12 (same16 a b 2 _ p q x.links y.links) (
    same_join a b 4 6 12 (same16 a b 4 _ p q x.owner y.owner) (
    same_join a b 6 8 12 (same16 a b 6 _ p q x.group y.group) (same32 a b 8 _ p q x.size y.size))))

body : (a b : List ℕ) (i : InodeBody) → AreBytes a → AreBytes b → IsBody a i → IsBody b i → SameBytes a b 0 64
body a b i p q x y =
    same_join a b 0 12 64 (head a b i p q x y) (
    same_join a b 12 51 64 (same_table24 a b i.addresses 12 13 p q x.addresses y.addresses) (
    same_join a b 51 52 64 (same_zero a b 51 52 x.zero y.zero) (same_table32 a b i.times 52 3 p q x.times y.times)))

pub one_inode_spelling : (a b : List ℕ) (i : DiskInode) → AreBytes a → AreBytes b → IsInode a i → IsInode b i → a ≡ b
one_inode_spelling a b Free p q x y = same_whole a b 64 x.size y.size (same_zero a b 0 64 x.spelled y.spelled)
one_inode_spelling a b (Used i) p q x y = same_whole a b 64 x.size y.size (body a b i p q x.spelled y.spelled)
