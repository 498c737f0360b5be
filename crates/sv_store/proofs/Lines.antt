-- Lines of a block, byte by byte.
use Rattle.std.proofs.Common.{◌≡◌, ◌≢◌, ◌<◌, ◌+◌, ◌-◌, ◌*◌, ◌/◌, ◌%◌, ◌++◌, ℕ, min, List, length, get_or, set, take, drop, sym, ap, ◌∙◌, arith}
use Rattle.std.specs.List.{refill}
use Rattle.std.proofs.lemmas.List.{get_or-take, get_or-drop, get_or-set_other, same_lists, length-take, length-drop, length-set, take_all, drop_all, append-nil, places}
use Rattle.sv_store.specs.Held.{line_of}

-- what is written over all of a list replaces it
pub refill_whole : (xs ws : List ℕ) → length ws ≡ length xs → refill (length xs) xs ws ≡ ws
refill_whole xs ws same =
    ap (λ q. take (length xs) (ws ++ q)) (drop_all (length ws) xs (omega (arith, same))) ∙ ap (take (length xs)) (append-nil ws) ∙ take_all (length xs) ws (omega (arith, same))

pub get_or-line_of : (bytes : List ℕ) (l k : ℕ) → k < 64 → get_or (line_of bytes l) k 0 ≡ get_or bytes (l * 64 + k) 0
unfolding line_of
get_or-line_of bytes l k below =
    get_or-take (l * 64 + 64 - l * 64) (drop (l * 64) bytes) k 0 (omega arith) ∙ get_or-drop (l * 64) bytes k 0

pub length-line_of : (bytes : List ℕ) (l : ℕ) → length (line_of bytes l) ≡ min 64 (length bytes - l * 64)
unfolding line_of
length-line_of bytes l =
    length-take (l * 64 + 64 - l * 64) (drop (l * 64) bytes) ∙ (let a : l * 64 + 64 - l * 64 ≡ 64 = omega arith in ap (λ q. min q (length (drop (l * 64) bytes))) a) ∙ ap (min 64) (length-drop (l * 64) bytes)

-- a byte of a block is a byte of its line
pub get_or-by_line : (bytes : List ℕ) (place : ℕ) → get_or bytes place 0 ≡ get_or (line_of bytes (place / 64)) (place % 64) 0
get_or-by_line bytes place =
    let whole : place ≡ place / 64 * 64 + place % 64 = omega arith in
    ap (λ q. get_or bytes q 0) whole ∙ sym (get_or-line_of bytes (place / 64) (place % 64) (omega arith))

-- two blocks of one length with the same bytes there have the same line
pub line_of-same : (xs ys : List ℕ) (l : ℕ) → length xs ≡ length ys → ((k : ℕ) → k < 64 → get_or xs (l * 64 + k) 0 ≡ get_or ys (l * 64 + k) 0) → line_of xs l ≡ line_of ys l
line_of-same xs ys l same each =
    same_lists (line_of xs l) (line_of ys l) (length-line_of xs l ∙ ap (λ q. min 64 (q - l * 64)) same ∙ sym (length-line_of ys l))
    (λ k d below.
    let a : length (line_of xs l) ≡ min 64 (length xs - l * 64) = length-line_of xs l in
    let b : length (line_of ys l) ≡ min 64 (length ys - l * 64) = length-line_of ys l in
    let within : k < 64 = omega arith in
    get_or_other (line_of xs l) k d 0 below
    ∙ (get_or-line_of xs l k within ∙ each k within ∙ sym (get_or-line_of ys l k within)) ∙ get_or_other (line_of ys l) k 0 d (omega arith))
  where
    get_or_other : (zs : List ℕ) (k d e : ℕ) → k < length zs → get_or zs k d ≡ get_or zs k e
    get_or_other zs k d e below = grind (arith, places)

-- one byte changed changes no other line
pub line_of-set_other : (bytes : List ℕ) (place value l : ℕ) → l ≢ place / 64 → line_of (set bytes place value) l ≡ line_of bytes l
line_of-set_other bytes place value l other =
    line_of-same (set bytes place value) bytes l (length-set bytes place value)
    (λ k below. let apart : l * 64 + k ≢ place = (λ e. other (omega arith)) in get_or-set_other bytes place (l * 64 + k) value 0 apart)
