-- How many blocks are missing to make pages present.
use Rattle.std.specs.Prelude.{◌≡◌, ◌≤◌, ◌+◌, ◌*◌, ◌==◌, ◌&&◌, ℕ, Bool, List, [], ◌∷◌, max, count_by, slice_index}
use Rattle.std.specs.List.{range_with_len, sum_by}
use Rattle.sv_form.specs.PagePath.{block_numbers, page_of, single_slot, double_slot, triple_slot}
use Rattle.sv_form.specs.declared.geometry.Geometry.{Geometry}
use Rattle.sv_form.specs.declared.page_path.PagePath.{PagePath}
use Rattle.sv_form.specs.declared.page_path.PagePath.TheVariants.{Direct, Single, Double, Triple}
use Rattle.sv_store.specs.Held.{Held}
use Rattle.sv_bmap.specs.Tree.{child, path}

-- a block on the way to a page: the first page that it stands above, and its number
pub record Step : Type 0 where
  pub from : ℕ
  pub block : ℕ

abbrev step : ℕ → ℕ → Step
step from block = record { from = from; block = block }

-- the blocks on the way to a page: the indirect blocks, the outermost first, and the page itself
abbrev pub way : Geometry → Held → List ℕ → PagePath → List Step
way g h a (Direct i) = step (page_of g (Direct i)) (slice_index a i) ∷ []
way g h a (Single i) =
    step (page_of g (Single 0)) (slice_index a single_slot) ∷ step (page_of g (Single i)) (child h (slice_index a single_slot) i) ∷ []
way g h a (Double i j) =
    step (page_of g (Double 0 0)) (slice_index a double_slot)
    ∷ step (page_of g (Double i 0)) (child h (slice_index a double_slot) i)
    ∷ step (page_of g (Double i j)) (child h (child h (slice_index a double_slot) i) j) ∷ []
way g h a (Triple i j k) =
    step (page_of g (Triple 0 0 0)) (slice_index a triple_slot)
    ∷ step (page_of g (Triple i 0 0)) (child h (slice_index a triple_slot) i)
    ∷ step (page_of g (Triple i j 0)) (child h (child h (slice_index a triple_slot) i) j)
    ∷ step (page_of g (Triple i j k)) (child h (child h (child h (slice_index a triple_slot) i) j) k) ∷ []

-- In a range of pages a missing block is counted once: at the first page of the range that it stands above.
abbrev pub counts_at : ℕ → ℕ → Step → Bool
counts_at first page s = (s.block == 0) && (max first s.from == page)

-- how many of the missing blocks are counted at this page
unfoldable pub need_at : Geometry → Held → List ℕ → ℕ → ℕ → ℕ
need_at g h a first page = count_by (counts_at first page) (way g h a (path (block_numbers g) page))

-- how many data and indirect blocks make these pages present
unfoldable pub need_of : Geometry → Held → List ℕ → ℕ → ℕ → ℕ
need_of g h a first count = sum_by (need_at g h a first) (range_with_len first count)

-- A run is some pages of an indirect block b from its number k on, at most so many of them: those that are holes are missing, and
-- so are some blocks above them.
pub record IsRun (h : Held) (n b k left above pages missing : ℕ) : Type 0 where
  pub some : 1 ≤ pages
  pub most : pages ≤ left
  pub within : k + pages ≤ n
  pub counted : missing ≡ above + count_by (λ p. child h b p == 0) (range_with_len k pages)
  pub few : missing ≤ above + pages

-- these are the missing blocks that are counted at some pages from one page on, at most so many of them
pub record CountsRun (g : Geometry) (h : Held) (a : List ℕ) (first page left pages missing : ℕ) : Type 0 where
  pub some : 1 ≤ pages
  pub most : pages ≤ left
  pub counted : missing ≡ sum_by (need_at g h a first) (range_with_len page pages)
  pub few : missing ≤ 4 * pages
