-- The blocks of an image made anew, as they are spelled piece by piece.
use Rattle.std.proofs.Common.{◌≡◌, ◌≢◌, ◌<◌, ◌≤◌, ◌-◌, ◌%◌, ◌==◌, ◌++◌, ◌∙◌, ℕ, false, List, [], ◌∷◌, length, ap, arith, eq-eqb}
use Rattle.std.specs.List.{flat_map}
use Rattle.std.proofs.lemmas.Bool.{cond-true, cond-false, lt-ltb, le-ltb}
use Rattle.std.proofs.lemmas.Bool.Decides.{nat_tests}
use Rattle.sv_form.specs.declared.geometry.Geometry.{Geometry}
use Rattle.sv_form.specs.Geometry.{inode_count}
use Rattle.sv_form.specs.Superblock.{magic}
use Rattle.sv_check.specs.Mkfs.{free_cache, inode_cache, list_in}
use Rattle.sv_check.specs.MadeBlocks.{block_content, filled_to, head_bytes, link_block_bytes, little16, little24, little32, root_inode_bytes, root_mode, root_page_bytes, superblock_bytes}
use Rattle.sv_check.proofs.PutSteps.{then_more}

-- ---- what each kind of block has

pub superblock_spelled : (g : Geometry) {none start b1 b2 b3 b4 b5 b6 all filled whole free inodes : List ℕ} {n m : ℕ}
    → none ≡ [] → start ≡ filled_to 512 none → b1 ≡ start ++ little32 magic → b2 ≡ b1 ++ little16 2 → b3 ≡ b2 ++ little16 g.first_data → b4 ≡ b3 ++ little32 g.blocks
    → b5 ≡ b4 ++ little16 n → b6 ≡ b5 ++ little16 m → all ≡ b6 ++ flat_map little32 free → filled ≡ filled_to 728 all → whole ≡ filled ++ flat_map little16 inodes
    → n ≡ length (free_cache g) → m ≡ length (inode_cache (inode_count g)) → free ≡ free_cache g → inodes ≡ inode_cache (inode_count g) → whole ≡ superblock_bytes g
unfolding superblock_bytes
superblock_spelled g {none} {start} {b1} {b2} {b3} {b4} {b5} {b6} {all} {filled} {whole} {free} {inodes} {n} {m} e0 e1 e2 e3 e4 e5 e6 e7 e8 e9 e10 en em ef ei =
    let five : b5 ≡ b4 ++ little16 (length (free_cache g)) = e6 ∙ ap (λ (k : ℕ). b4 ++ little16 k) en in
    let six : b6 ≡ b5 ++ little16 (length (inode_cache (inode_count g))) = e7 ∙ ap (λ (k : ℕ). b5 ++ little16 k) em in
    let table : all ≡ b6 ++ flat_map little32 (free_cache g) = e8 ∙ ap (λ (q : List ℕ). b6 ++ flat_map little32 q) ef in
    let head : b6 ≡ start ++ head_bytes g = then_more start (little32 magic) _ e2 (then_more b1 (little16 2) _ e3 (then_more b2 (little16 g.first_data) _ e4 (then_more b3 (little32 g.blocks) _ e5
    (then_more b4 (little16 (length (free_cache g))) (little16 (length (inode_cache (inode_count g)))) five six)))) in
    let begun : start ≡ filled_to 512 [] = e1 ∙ ap (λ (q : List ℕ). filled_to 512 q) e0 in
    let body : all ≡ filled_to 512 [] ++ (head_bytes g ++ flat_map little32 (free_cache g)) =
    then_more start (head_bytes g) (flat_map little32 (free_cache g)) head table ∙ ap (λ (q : List ℕ). q ++ (head_bytes g ++ flat_map little32 (free_cache g))) begun in
    e10 ∙ (ap (λ (q : List ℕ). q ++ flat_map little16 inodes) (e9 ∙ ap (λ (q : List ℕ). filled_to 728 q) body)
    ∙ ap (λ (q : List ℕ). filled_to 728 (filled_to 512 [] ++ (head_bytes g ++ flat_map little32 (free_cache g))) ++ flat_map little16 q) ei)

pub root_inode_spelled : (page : ℕ) {none start b1 b2 filled b3 b4 : List ℕ} → none ≡ [] → start ≡ filled_to 64 none → b1 ≡ start ++ little16 root_mode → b2 ≡ b1 ++ little16 2
    → filled ≡ filled_to 72 b2 → b3 ≡ filled ++ little32 32 → b4 ≡ b3 ++ little24 page → b4 ≡ root_inode_bytes page
unfolding root_inode_bytes
root_inode_spelled page {none} {start} {b1} {b2} {filled} {b3} {b4} e0 e1 e2 e3 e4 e5 e6 =
    let begun : start ≡ filled_to 64 [] = e1 ∙ ap (λ (q : List ℕ). filled_to 64 q) e0 in
    let front : b2 ≡ filled_to 64 [] ++ (little16 root_mode ++ little16 2) = then_more start (little16 root_mode) (little16 2) e2 e3 ∙ ap (λ (q : List ℕ). q ++ (little16 root_mode ++ little16 2)) begun in
    then_more filled (little32 32) (little24 page) e5 e6 ∙ ap (λ (q : List ℕ). q ++ (little32 32 ++ little24 page)) (e4 ∙ ap (λ (q : List ℕ). filled_to 72 q) front)

pub root_page_spelled : {none b1 b2 filled b3 b4 b5 : List ℕ} → none ≡ [] → b1 ≡ none ++ little16 2 → b2 ≡ b1 ++ 46 ∷ [] → filled ≡ filled_to 16 b2 → b3 ≡ filled ++ little16 2
    → b4 ≡ b3 ++ 46 ∷ [] → b5 ≡ b4 ++ 46 ∷ [] → b5 ≡ root_page_bytes
unfolding root_page_bytes
root_page_spelled {none} {b1} {b2} {filled} {b3} {b4} {b5} e0 e1 e2 e3 e4 e5 e6 =
    let front : b2 ≡ little16 2 ++ 46 ∷ [] = then_more none (little16 2) (46 ∷ []) e1 e2 ∙ ap (λ (q : List ℕ). q ++ (little16 2 ++ 46 ∷ [])) e0 in
    then_more filled (little16 2) (46 ∷ 46 ∷ []) e4 (then_more b3 (46 ∷ []) (46 ∷ []) e5 e6) ∙ ap (λ (q : List ℕ). q ++ (little16 2 ++ 46 ∷ 46 ∷ [])) (e3 ∙ ap (λ (q : List ℕ). filled_to 16 q) front)

pub link_block_spelled : (list : List ℕ) {none b1 b2 b3 numbers : List ℕ} {n : ℕ} → none ≡ [] → b1 ≡ none ++ little16 n → b2 ≡ b1 ++ little16 0 → b3 ≡ b2 ++ flat_map little32 numbers
    → n ≡ length list → numbers ≡ list → b3 ≡ link_block_bytes list
unfolding link_block_bytes
link_block_spelled list {none} {b1} {b2} {b3} {numbers} {n} e0 e1 e2 e3 en el =
    then_more none (little16 n) (little16 0 ++ flat_map little32 numbers) e1 (then_more b1 (little16 0) (flat_map little32 numbers) e2 e3) ∙ (ap (λ (q : List ℕ). q ++ (little16 n ++ (little16 0 ++ flat_map little32 numbers))) e0
    ∙ (ap (λ (k : ℕ). little16 k ++ (little16 0 ++ flat_map little32 numbers)) en ∙ ap (λ (q : List ℕ). little16 (length list) ++ (little16 0 ++ flat_map little32 q)) el))

-- ---- which kind a block is

apart : (a b : ℕ) → a ≢ b → (a == b) ≡ false
apart a b h = grind (nat_tests, arith)

pub first_is : (g : Geometry) (b : ℕ) → b ≡ 0 → block_content g b ≡ superblock_bytes g
unfolding block_content
first_is g b is = cond-true _ _ _ (eq-eqb b 0 is)

pub inodes_are : (g : Geometry) (b : ℕ) → b ≢ 0 → b ≡ 2 → block_content g b ≡ root_inode_bytes g.first_data
unfolding block_content
inodes_are g b some is = cond-false _ _ _ (apart b 0 some) ∙ cond-true _ _ _ (eq-eqb b 2 is)

pub root_is : (g : Geometry) (b : ℕ) → b ≢ 0 → b ≢ 2 → b ≡ g.first_data → block_content g b ≡ root_page_bytes
unfolding block_content
root_is g b some list is = cond-false _ _ _ (apart b 0 some) ∙ (cond-false _ _ _ (apart b 2 list) ∙ cond-true _ _ _ (eq-eqb b g.first_data is))

pub before_is : (g : Geometry) (b : ℕ) → b ≢ 0 → b ≢ 2 → b ≢ g.first_data → b < g.first_data → block_content g b ≡ []
unfolding block_content
before_is g b some list root is =
    cond-false _ _ _ (apart b 0 some) ∙ (cond-false _ _ _ (apart b 2 list) ∙ (cond-false _ _ _ (apart b g.first_data root) ∙ cond-true _ _ _ (lt-ltb b g.first_data is)))

pub link_is : (g : Geometry) (b : ℕ) → b ≢ 0 → b ≢ 2 → b ≢ g.first_data → g.first_data ≤ b → (g.blocks - b) % 50 ≡ 0 → block_content g b ≡ link_block_bytes (list_in g.blocks b)
unfolding block_content
link_is g b some list root free is =
    cond-false _ _ _ (apart b 0 some) ∙ (cond-false _ _ _ (apart b 2 list) ∙ (cond-false _ _ _ (apart b g.first_data root) ∙ (cond-false _ _ _ (le-ltb b g.first_data free) ∙ cond-true _ _ _ (eq-eqb ((g.blocks - b) % 50) 0 is))))

pub free_is : (g : Geometry) (b : ℕ) → b ≢ 0 → b ≢ 2 → b ≢ g.first_data → g.first_data ≤ b → (g.blocks - b) % 50 ≢ 0 → block_content g b ≡ []
unfolding block_content
free_is g b some list root free is =
    cond-false _ _ _ (apart b 0 some) ∙ (cond-false _ _ _ (apart b 2 list) ∙ (cond-false _ _ _ (apart b g.first_data root) ∙ (cond-false _ _ _ (le-ltb b g.first_data free) ∙ cond-false _ _ _ (apart ((g.blocks - b) % 50) 0 is))))
