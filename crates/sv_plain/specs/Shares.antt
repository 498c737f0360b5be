-- Shares of an inode: its references, each as often as it is counted, and its files.
use Rattle.std.specs.Prelude.{◌≡◌, ◌≤◌, ◌+◌, ◌==◌, ℕ, Some, None, if◌then◌else◌}
use Rattle.std.specs.Ordering.{nat_cmp}
use Rattle.std.specs.FinMap as map
use Rattle.sv_form.specs.Pair.{pair_cmp}
use Rattle.sv_plain.specs.declared.fs.opening.Opening.{Opening}
use Rattle.sv_plain.specs.Change.{one_more, one_less}
use Rattle.sv_plain.specs.Fs.{Fs, holders}
use Rattle.sv_plain.specs.Names.{references_of}
use Rattle.sv_plain.specs.Totals.{total, one_if}
use Rattle.sv_plain.specs.Whole.{IsWhole}

-- how many shares inode i has
unfoldable pub shares : map.FinMap pair_cmp ℕ → map.FinMap nat_cmp Opening → ℕ → ℕ
shares references files i = total (λ p n. if p.1 == i then n else 0) references + total (λ _ f. one_if (f.inode == i)) files

abbrev pub shares_of : Fs → ℕ → ℕ
shares_of fs i = shares fs.references fs.files i

-- one reference more of a process to inode i is one share more of i, and one less one share less; no other inode's change
pub record CountsReferences (fs : Fs) (p i : ℕ) : Type 0 where
  pub more : (j : ℕ) → shares (one_more fs p i) fs.files j ≡ shares_of fs j + one_if (i == j)
  pub less : 1 ≤ references_of fs p i → (j : ℕ) → shares (one_less fs p i) fs.files j + one_if (i == j) ≡ shares_of fs j

-- a file more is a share more of its inode, and a file less one share less
pub record CountsFiles (fs : Fs) (f : ℕ) (file : Opening) : Type 0 where
  pub more : map.get fs.files f ≡ None → (j : ℕ) → shares fs.references (map.insert fs.files f file) j ≡ shares_of fs j
      + one_if (file.inode == j)
  pub less : map.get fs.files f ≡ Some file → (j : ℕ) → shares fs.references (map.remove fs.files f) j + one_if (file.inode == j)
      ≡ shares_of fs j

-- an inode has no shares exactly where nothing refers to it
pub record HasNoShares (fs : Fs) (i : ℕ) : Type 0 where
  pub unreferenced : shares_of fs i ≡ 0 → holders fs.references fs.files i ≡ 0
  pub unshared : holders fs.references fs.files i ≡ 0 → shares_of fs i ≡ 0

-- ---- the laws

abbrev pub ReferencesAreShares : Type 0
ReferencesAreShares = (fs : Fs) (p i : ℕ) → CountsReferences fs p i

abbrev pub FilesAreShares : Type 0
FilesAreShares = (fs : Fs) (f : ℕ) (file : Opening) → CountsFiles fs f file

abbrev pub NothingIsShared : Type 0
NothingIsShared = (fs : Fs) → IsWhole fs → (i : ℕ) → HasNoShares fs i
