-- The command lines of two, three and four words.
use Rattle.std.proofs.Common.{◌≡◌, ◌<◌, ◌≤◌, ◌^◌, ℕ, List, [], ◌∷◌, length, get_or, map, false, not, arith, sym, ◌∙◌, ap, String, string_bytes, Global, codes, decimal, subst}
use Rattle.std.specs.Str.{bytes_eq}
use Rattle.std.proofs.lemmas.Bool.{not-false}
use Rattle.std.proofs.lemmas.Slice.Eq.{bytes_eq-Decides}
use Rattle.std.proofs.lemmas.Fmt.{decimal_injective}
use Rattle.sv_check.specs.Mkfs.{CanBeMade}

-- a list of two, one of three, and one of four, is its elements
two : {X : Type 0} (xs : List X) (a b : X) → 2 ≤ length xs → length xs < 3 → a ≡ get_or xs 0 a → b ≡ get_or xs 1 b → xs ≡ a ∷ b ∷ []
two [] a b least most first second = absurd (omega arith)
two (x ∷ []) a b least most first second = absurd (omega arith)
two (x ∷ y ∷ []) a b least most first second = cc
two (x ∷ y ∷ z ∷ more) a b least most first second = absurd (omega arith)

three : {X : Type 0} (xs : List X) (a b c : X) → 3 ≤ length xs → length xs < 4 → a ≡ get_or xs 0 a → b ≡ get_or xs 1 b → c ≡ get_or xs 2 c
    → xs ≡ a ∷ b ∷ c ∷ []
three [] a b c least most first second third = absurd (omega arith)
three (x ∷ []) a b c least most first second third = absurd (omega arith)
three (x ∷ y ∷ []) a b c least most first second third = absurd (omega arith)
three (x ∷ y ∷ z ∷ []) a b c least most first second third = cc
three (x ∷ y ∷ z ∷ w ∷ more) a b c least most first second third = absurd (omega arith)

four : {X : Type 0} (xs : List X) (a b c d : X) → 4 ≤ length xs → length xs < 5 → a ≡ get_or xs 0 a → b ≡ get_or xs 1 b → c ≡ get_or xs 2 c → d ≡ get_or xs 3 d
    → xs ≡ a ∷ b ∷ c ∷ d ∷ []
four [] a b c d least most first second third fourth = absurd (omega arith)
four (x ∷ []) a b c d least most first second third fourth = absurd (omega arith)
four (x ∷ y ∷ []) a b c d least most first second third fourth = absurd (omega arith)
four (x ∷ y ∷ z ∷ []) a b c d least most first second third fourth = absurd (omega arith)
four (x ∷ y ∷ z ∷ w ∷ []) a b c d least most first second third fourth = cc
four (x ∷ y ∷ z ∷ w ∷ v ∷ more) a b c d least most first second third fourth = absurd (omega arith)

-- the texts of three words
pub three_words : (words : List (String Global)) (a b c : String Global) → 3 ≤ length words → length words < 4 → a ≡ get_or words 0 a → b ≡ get_or words 1 b → c ≡ get_or words 2 c
    → map string_bytes words ≡ string_bytes a ∷ string_bytes b ∷ string_bytes c ∷ []
three_words words a b c least most first second third = ap (map string_bytes) (three words a b c least most first second third)

-- a comparison that did not tell two texts apart
pub same_text : (xs ys : List ℕ) → false ≡ not (bytes_eq xs ys) → xs ≡ ys
same_text xs ys e = (bytes_eq-Decides xs ys).0 (not-false (bytes_eq xs ys) (sym e))

-- the words are a `cat` of that image and inode number
pub cat_words : (words : List (String Global)) (a b c : String Global) → 3 ≤ length words → length words < 4 → a ≡ get_or words 0 a → b ≡ get_or words 1 b → c ≡ get_or words 2 c
    → (command image number : List ℕ) (n : ℕ) → command ≡ string_bytes a → false ≡ not (bytes_eq command (codes "cat")) → image ≡ string_bytes b
    → number ≡ string_bytes c → number ≡ decimal n → map string_bytes words ≡ codes "cat" ∷ image ∷ decimal n ∷ []
cat_words words a b c least most first second third command image number n is_command is_cat is_image is_number value =
    let same : command ≡ codes "cat" = same_text command (codes "cat") is_cat in
    let texts : map string_bytes words ≡ string_bytes a ∷ string_bytes b ∷ string_bytes c ∷ [] = three_words words a b c least most first second third in
    texts ∙ ap (λ (w : List ℕ). w ∷ string_bytes b ∷ string_bytes c ∷ []) (sym is_command ∙ same)
    ∙ ap (λ (w : List ℕ). codes "cat" ∷ w ∷ string_bytes c ∷ []) (sym is_image)
    ∙ ap (λ (w : List ℕ). codes "cat" ∷ image ∷ w ∷ []) (sym is_number ∙ value)

-- the words are a `check` of that image
pub check_words : (words : List (String Global)) (a b : String Global) → 2 ≤ length words → length words < 3 → a ≡ get_or words 0 a → b ≡ get_or words 1 b
    → (command image : List ℕ) → command ≡ string_bytes a → false ≡ not (bytes_eq command (codes "check")) → image ≡ string_bytes b
    → map string_bytes words ≡ codes "check" ∷ image ∷ []
check_words words a b least most first second command image is_command is_check is_image =
    let same : command ≡ codes "check" = same_text command (codes "check") is_check in
    ap (map string_bytes) (two words a b least most first second) ∙ ap (λ (w : List ℕ). w ∷ string_bytes b ∷ []) (sym is_command ∙ same)
    ∙ ap (λ (w : List ℕ). codes "check" ∷ w ∷ []) (sym is_image)

-- the words are a `replay` of that image and journal
pub replay_words : (words : List (String Global)) (a b c : String Global) → 3 ≤ length words → length words < 4 → a ≡ get_or words 0 a → b ≡ get_or words 1 b → c ≡ get_or words 2 c
    → (command image journal : List ℕ) → command ≡ string_bytes a → false ≡ not (bytes_eq command (codes "replay")) → image ≡ string_bytes b
    → journal ≡ string_bytes c → map string_bytes words ≡ codes "replay" ∷ image ∷ journal ∷ []
replay_words words a b c least most first second third command image journal is_command is_replay is_image is_journal =
    let same : command ≡ codes "replay" = same_text command (codes "replay") is_replay in
    let texts : map string_bytes words ≡ string_bytes a ∷ string_bytes b ∷ string_bytes c ∷ [] = three_words words a b c least most first second third in
    texts ∙ ap (λ (w : List ℕ). w ∷ string_bytes b ∷ string_bytes c ∷ []) (sym is_command ∙ same)
    ∙ ap (λ (w : List ℕ). codes "replay" ∷ w ∷ string_bytes c ∷ []) (sym is_image)
    ∙ ap (λ (w : List ℕ). codes "replay" ∷ image ∷ w ∷ []) (sym is_journal)

-- ---- a command of four words

module _ (words : List (String Global)) (a b c d : String Global) (least : 4 ≤ length words) (most : length words < 5) (first : a ≡ get_or words 0 a) (second : b ≡ get_or words 1 b)
    (third : c ≡ get_or words 2 c) (fourth : d ≡ get_or words 3 d) (blocks_word inodes_word : List ℕ) (m n : ℕ) (is_blocks : blocks_word ≡ string_bytes c)
    (is_inodes : inodes_word ≡ string_bytes d) (blocks_value : blocks_word ≡ decimal m) (inodes_value : inodes_word ≡ decimal n) where
  -- the texts of the words
  numbered : map string_bytes words ≡ string_bytes a ∷ string_bytes b ∷ decimal m ∷ decimal n ∷ []
  numbered =
      ap (map string_bytes) (four words a b c d least most first second third fourth)
      ∙ ap (λ (w : List ℕ). string_bytes a ∷ string_bytes b ∷ w ∷ string_bytes d ∷ []) (sym is_blocks ∙ blocks_value)
      ∙ ap (λ (w : List ℕ). string_bytes a ∷ string_bytes b ∷ decimal m ∷ w ∷ []) (sym is_inodes ∙ inodes_value)

  -- the words are a `mkfs` of that image and these numbers
  pub mkfs_words : (command image : List ℕ) → command ≡ string_bytes a → false ≡ not (bytes_eq command (codes "mkfs")) → image ≡ string_bytes b
      → map string_bytes words ≡ codes "mkfs" ∷ image ∷ decimal m ∷ decimal n ∷ []
  mkfs_words command image is_command is_mkfs is_image =
      numbered ∙ ap (λ (w : List ℕ). w ∷ string_bytes b ∷ decimal m ∷ decimal n ∷ []) (sym is_command ∙ same_text command (codes "mkfs") is_mkfs)
      ∙ ap (λ (w : List ℕ). codes "mkfs" ∷ w ∷ decimal m ∷ decimal n ∷ []) (sym is_image)

-- the texts of the third and the fourth of four words
pub mkfs_texts : (words : List (String Global)) (a b c d : String Global) → 4 ≤ length words → length words < 5 → a ≡ get_or words 0 a → b ≡ get_or words 1 b → c ≡ get_or words 2 c → d ≡ get_or words 3 d
    → (command image blocks inodes : List ℕ) → map string_bytes words ≡ command ∷ image ∷ blocks ∷ inodes ∷ [] → (string_bytes c ≡ blocks) × (string_bytes d ≡ inodes)
mkfs_texts words a b c d least most first second third fourth command image blocks inodes is =
    let texts : string_bytes a ∷ string_bytes b ∷ string_bytes c ∷ string_bytes d ∷ [] ≡ command ∷ image ∷ blocks ∷ inodes ∷ [] =
    sym (ap (map string_bytes) (four words a b c d least most first second third fourth)) ∙ is in
    (ap (λ (ws : List (List ℕ)). get_or ws 2 []) texts, ap (λ (ws : List (List ℕ)). get_or ws 3 []) texts)

-- two words are two numbers in one way
pub mkfs_numbers : (blocks inodes : List ℕ) (m n j k : ℕ) → m < 2 ^ 32 → n < 2 ^ 32 → blocks ≡ decimal m → inodes ≡ decimal n → CanBeMade j k → blocks ≡ decimal j → inodes ≡ decimal k → CanBeMade m n
mkfs_numbers blocks inodes m n j k small few is_m is_n can is_j is_k =
    let same : m ≡ j = decimal_injective m j (omega arith) (omega (arith, can.most_blocks)) (sym is_m ∙ is_j) in
    let too : n ≡ k = decimal_injective n k (omega arith) (omega (arith, can.most_inodes)) (sym is_n ∙ is_k) in
    subst (λ (i : ℕ). CanBeMade i n) (sym same) (subst (λ (i : ℕ). CanBeMade j i) (sym too) can)
