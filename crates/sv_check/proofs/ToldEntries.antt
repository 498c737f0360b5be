-- The entries of one directory, page by page, and of directory after directory: what was told so far.
use Rattle.std.proofs.Common.{◌≡◌, ◌≤◌, ◌<◌, ◌+◌, ◌-◌, ◌*◌, ◌/◌, ◌==◌, ◌&&◌, ◌||◌, ◌++◌, ◌∷◌, [], ◌∙◌, ℕ, zero, suc, Bool, not, true, false, List, ap, sym, refl, subst, map, flat_map, drop, get_or, length, min, nat_le, All, append_assoc, arith}
use Rattle.std.specs.List.{list_all}
use Rattle.std.proofs.Math.ListN.{drop_of_length-le}
use Rattle.std.proofs.Math.Seq.{drop-cons}
use Rattle.std.proofs.lemmas.List.{append-nil, length-append}
use Rattle.std.proofs.lemmas.List.Folds.{flat_map-map}
use Rattle.sv_form.specs.declared.geometry.Geometry.{Geometry}
use Rattle.sv_form.specs.Geometry.{IsGeometry, inode_count}
use Rattle.sv_form.specs.Image.{inode_of}
use Rattle.sv_check.specs.declared.pages.Directory.{Directory}
use Rattle.sv_check.specs.declared.sound.standings.Standing.{Standing}
use Rattle.sv_check.specs.Directories.{contents, directories, entries, leads_somewhere, named_by, names_in, has_twins, reads_entry}
use Rattle.sv_check.specs.EntrySteps.{are_good_after, is_good, seen_after, Takes}
use Rattle.sv_check.specs.InodeList.{is_free}
use Rattle.sv_check.specs.Standings.{Told, after, told, told_from, told_in}
use Rattle.sv_check.proofs.DirectorySteps.{page, pages, per, size}
use Rattle.sv_check.proofs.EntryParts.{entries_from, first_part, no_part}
use Rattle.sv_check.proofs.GoodEntries.{clash, good-whole, nothing_good}
use Rattle.sv_check.proofs.InodeReads.{and_first, and_second}
use Rattle.sv_check.proofs.StandingSteps.{after-append, told-append, told-none}

-- ---- entries that were taken lead to inodes of the list

leads_below : (g : Geometry) (image e : List ℕ) → leads_somewhere g image e ≡ true → named_by e < inode_count g + 1
leads_below g image e leads = by_number (named_by e == 0) refl leads where
  by_number : (t : Bool) → (named_by e == 0) ≡ t → (t || (nat_le (named_by e) (inode_count g) && not (is_free (inode_of g image (named_by e))))) ≡ true → named_by e < inode_count g + 1
  by_number true none so = grind (arith, none)
  by_number false some so =
      let within = and_first (nat_le (named_by e) (inode_count g)) (not (is_free (inode_of g image (named_by e)))) so in
      grind (arith, within)

all_below : (g : Geometry) (image : List ℕ) (es : List (List ℕ)) → list_all (is_good g image) es ≡ true → (k : ℕ) (d : List ℕ) → k < length es → named_by (get_or es k d) < inode_count g + 1
all_below g image [] all k d below = absurd (omega (arith, below))
all_below g image (e ∷ es) all zero d below = leads_below g image e (and_second (reads_entry e) (leads_somewhere g image e) (and_first (is_good g image e) (list_all (is_good g image) es) all))
all_below g image (e ∷ es) all (suc k) d below = all_below g image es (and_second (is_good g image e) (list_all (is_good g image) es) all) k d (omega (arith, below))

pub taken_below : (g : Geometry) (image : List ℕ) (seen es : List (List ℕ)) (most : ℕ) → Takes g image seen es true → most ≡ inode_count g + 1 → All (λ e. named_by e < most) es
taken_below g image seen es most takes is k d below =
    let good : are_good_after g image seen es ≡ true = ap (are_good_after g image seen) (sym (append-nil es)) ∙ takes [] ∙ nothing_good g image (seen_after seen es) in
    let parts : (list_all (is_good g image) es && not (has_twins (names_in es)) && not (clash g image seen (names_in es))) ≡ true = sym (good-whole g image seen es) ∙ good in
    let front = and_first (list_all (is_good g image) es && not (has_twins (names_in es))) (not (clash g image seen (names_in es))) parts in
    subst (λ (m : ℕ). named_by (get_or es k d) < m) (sym is) (all_below g image es (and_first (list_all (is_good g image) es) (not (has_twins (names_in es))) front) k d below)

-- ---- page after page

module _ (g : Geometry) (image : List ℕ) (n : ℕ) where
  -- the entries of the pages before k were told
  pub record IsToldTo (old now : ℕ → Standing) (k : ℕ) : Type 0 where
    pub es : List (List ℕ)
    pub whole : entries g image n ≡ es ++ entries_from (size g image n) (per g image n) (pages g image n) (page g image n) k
    pub count : k < pages g image n → length es ≡ k * per g image n
    pub told : now ≡ after old (told_from n 0 es)

  pub told_first : (old : ℕ → Standing) → IsToldTo old old 0
  unfolding entries contents
  told_first old = record {
    es = [];
    whole = first_part (size g image n) (per g image n) (pages g image n) (page g image n);
    count = λ _. omega arith;
    told = ap (after old) (sym (told-none n 0));
  }

  pub told_on : (old now new : ℕ → Standing) (k first end : ℕ) (part parts : List (List ℕ)) → IsGeometry g → IsToldTo old now k → k < pages g image n → first ≡ k * per g image n
      → end ≡ min (size g image n - k * g.block_size) g.block_size → length part ≡ end / 16
      → entries_from (size g image n) (per g image n) (pages g image n) (page g image n) k ≡ part ++ entries_from (size g image n) (per g image n) (pages g image n) (page g image n) (k + 1)
      → parts ≡ part → new ≡ after now (told_from n first parts) → IsToldTo old new (k + 1)
  told_on old now new k first end part parts sizes was below at upto many cut same is =
      let here : length was.es ≡ k * per g image n = was.count below in
      let place : first ≡ 0 + length was.es = omega (arith, at, here) in
      record {
        es = was.es ++ part;
        whole = was.whole ∙ ap (λ (l : List (List ℕ)). was.es ++ l) cut ∙ sym (append_assoc was.es part (entries_from (size g image n) (per g image n) (pages g image n) (page g image n) (k + 1)));
        count = λ more.
            let flat : k * g.block_size ≡ k * 1024 = ap (λ (s : ℕ). k * s) sizes.block_size in
            let one : k * per g image n ≡ k * 64 = ap (λ (s : ℕ). k * (s / 16)) sizes.block_size in
            let two : (k + 1) * per g image n ≡ (k + 1) * 64 = ap (λ (s : ℕ). (k + 1) * (s / 16)) sizes.block_size in
            let total : pages g image n ≡ (size g image n + 1023) / 1024 = ap (λ (s : ℕ). (size g image n + (s - 1)) / s) sizes.block_size in
            length-append was.es part ∙ omega (arith, here, many, upto, flat, one, two, total, more, sizes.block_size);
        told = is ∙ ap (λ (l : List (List ℕ)). after now (told_from n first l)) same ∙ ap (λ (all : ℕ → Standing). after all (told_from n first part)) was.told
            ∙ sym (after-append old (told_from n 0 was.es) (told_from n first part)) ∙ ap (after old) (sym (told-append n 0 first was.es part place));
      }

  pub told_end : (old now : ℕ → Standing) (k : ℕ) → IsGeometry g → pages g image n ≤ k → IsToldTo old now k → now ≡ after old (told_in g image n)
  told_end old now k sizes over was =
      let many : k * per g image n ≡ k * 64 = ap (λ (s : ℕ). k * (s / 16)) sizes.block_size in
      let count : pages g image n ≡ (size g image n + 1023) / 1024 = ap (λ (s : ℕ). (size g image n + (s - 1)) / s) sizes.block_size in
      let rest : entries_from (size g image n) (per g image n) (pages g image n) (page g image n) k ≡ [] =
      no_part (size g image n) (per g image n) (pages g image n) (page g image n) k (omega (arith, over, many, count)) in
      let all : entries g image n ≡ was.es = was.whole ∙ ap (λ (l : List (List ℕ)). was.es ++ l) rest ∙ append-nil was.es in
      was.told ∙ ap (λ (l : List (List ℕ)). after old (told_from n 0 l)) (sym all)

-- ---- directory after directory

module _ (g : Geometry) (image : List ℕ) (ds : List Directory) (old : ℕ → Standing) where
  -- with the entries of the directories from i on, those of all are told
  pub record IsToldAhead (i : ℕ) (now : ℕ → Standing) : Type 0 where
    pub same : after now (flat_map (λ d. told_in g image d.inode) (drop i ds)) ≡ after old (told g image)

  pub told_ahead_first : map (λ d. d.inode) ds ≡ directories g image → IsToldAhead 0 old
  unfolding told
  told_ahead_first numbers = record {
    same = ap (after old) (sym (flat_map-map (told_in g image) (λ (d : Directory). d.inode) ds) ∙ ap (flat_map (told_in g image)) numbers);
  }

  pub told_ahead_on : (i : ℕ) (now new : ℕ → Standing) (d : Directory) → i < length ds → IsToldAhead i now → new ≡ after now (told_in g image (get_or ds i d).inode) → IsToldAhead (i + 1) new
  told_ahead_on i now new d inside was is =
      let next : suc i ≡ i + 1 = omega arith in
      let cut : drop i ds ≡ get_or ds i d ∷ drop (i + 1) ds = drop-cons ds i d inside ∙ ap (λ (j : ℕ). get_or ds i d ∷ drop j ds) next in
      let rest : List Told = flat_map (λ (d : Directory). told_in g image d.inode) (drop (i + 1) ds) in
      record {
        same = ap (λ (all : ℕ → Standing). after all rest) is ∙ sym (after-append now (told_in g image (get_or ds i d).inode) rest)
            ∙ ap (λ (l : List Directory). after now (flat_map (λ (d : Directory). told_in g image d.inode) l)) (sym cut) ∙ was.same;
      }

  pub told_ahead_end : (i : ℕ) (now : ℕ → Standing) → length ds ≤ i → IsToldAhead i now → now ≡ after old (told g image)
  told_ahead_end i now over was = ap (λ (l : List Directory). after now (flat_map (λ (d : Directory). told_in g image d.inode) l)) (sym (drop_of_length-le ds {i = i} over)) ∙ was.same
