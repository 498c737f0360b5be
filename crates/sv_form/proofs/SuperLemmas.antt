-- A superblock and its 512 bytes fix one another.
use Rattle.std.proofs.Common.{◌≡◌, ◌+◌, ◌*◌, ℕ, List, sym, ◌∙◌}
use Rattle.arrayvec.specs.ArrayVec.{ArrayVec}
use Rattle.sv_form.specs.Number.{number16, number32, AreBytes}
use Rattle.sv_form.specs.Superblock.{IsSuper, IsInodeCache}
use Rattle.sv_form.specs.declared.superblock.Super.{Super}
use Rattle.sv_form.proofs.Spellings.{SameBytes, same_join, same_zero, same16, same32, same_table16, same_table32, same_list, same_block_list, same_whole}

alike : (f : ℕ → ℕ → ℕ → List ℕ → List ℕ → Super) (a a' b b' c c' : ℕ) (d d' e e' : List ℕ) → a ≡ a' → b ≡ b' → c ≡ c' → d ≡ d' → e ≡ e' → f a b c d e ≡ f a' b' c' d' e'
alike f a a' b b' c c' d d' e e' p q r s t = cc

made : ℕ → ℕ → ℕ → List ℕ → List ℕ → Super
made a b c d e = record { block_type = a; first_data = b; blocks = c; free = record { items = d }; inodes = record { items = e } }

pub one_super : (bytes : List ℕ) (s t : Super) → IsSuper bytes s → IsSuper bytes t → s ≡ t
unfolding made
one_super bytes s t x y =
    let block_type : s.block_type ≡ t.block_type = sym x.block_type ∙ y.block_type in
    let first_data : s.first_data ≡ t.first_data = sym x.first_data ∙ y.first_data in
    let blocks : s.blocks ≡ t.blocks = sym x.blocks ∙ y.blocks in
    let free : s.free.items ≡ t.free.items = same_block_list bytes 12 16 _ _ x.free y.free in
    let inodes : s.inodes.items ≡ t.inodes.items = same_list _ 100 _ _ x.inodes.table y.inodes.table (sym x.inodes.count ∙ y.inodes.count) x.inodes.fits in
    alike made _ _ _ _ _ _ _ _ _ _ block_type first_data blocks free inodes

head : (a b : List ℕ) (s : Super) → AreBytes a → AreBytes b → IsSuper a s → IsSuper b s → SameBytes a b 0 16
head a b s p q x y =
    same_join a b 0 4 16 (same32 a b 0 _ p q x.magic y.magic) (
    same_join a b 4 6 16 (same16 a b 4 _ p q x.block_type y.block_type) (
    same_join a b 6 8 16 (same16 a b 6 _ p q x.first_data y.first_data) (
    same_join a b 8 12 16 (same32 a b 8 _ p q x.blocks y.blocks) (
    same_join a b 12 14 16 (same16 a b 12 _ p q x.free.count y.free.count) (same16 a b 14 _ p q x.inodes.count y.inodes.count)))))

pub one_super_spelling : (a b : List ℕ) (s : Super) → AreBytes a → AreBytes b → IsSuper a s → IsSuper b s → a ≡ b
one_super_spelling a b s p q x y =
    same_whole a b 512 x.size y.size (
    same_join a b 0 16 512 (head a b s p q x y) (
    same_join a b 16 216 512 (same_table32 a b s.free.items 16 50 p q x.free.table y.free.table) (
    same_join a b 216 416 512 (same_table16 a b s.inodes.items 216 100 p q x.inodes.table y.inodes.table) (same_zero a b 416 512 x.rest y.rest))))
