-- What a mount begins with: an image that was checked, a stake with each of its lines, and the parts of that stake by their owners. And
-- what it makes of them: what the rule says of stakes, and what a core asks.
use Rattle.std.specs.Prelude.{◌≡◌, ◌≤◌, ◌<◌, ◌+◌, ◌==◌, ℕ, false, List, [], IsSome}
use Rattle.std.specs.Prelude.{Option, Some, None, length, replicate, set, count_by, true, ◌*◌, if◌then◌else◌}
use Rattle.sv_form.specs.declared.owners.Mounted.{Mounted}
use Rattle.sv_form.specs.declared.place.Place.{Place}
use Rattle.sv_form.specs.Geometry.{IsPlace, inode_count}
use Rattle.sv_form.specs.Image.{block_of, geometry_of}
use Rattle.sv_form.specs.OwnerTable.{IsOwnerTable, OwnerTable}
use Rattle.sv_form.specs.Owners.{AreLinesOf, owner_of}
use Rattle.sv_form.specs.declared.owners.LineRange.{LineRange}
use Rattle.sv_store.specs.Held.{Held, InRange, covers, in_ranges, line_of, nothing_lent}
use Rattle.sv_super.specs.Calls.{CanMount, CanMountInodes, head_of, is_free}
use Rattle.sv_super.specs.Core.{HoldsFirst, HoldsOnly, NamesSizes}
use Rattle.sv_super.specs.Count.{one_if}
use Rattle.sv_check.specs.Loaded.{loaded}
use Rattle.sv_check.specs.Sound.{IsMountedFrom, tree}
use Rattle.sv_files.specs.ConverseNames.{IsAtRest}
use Rattle.sv_plain.specs.Fs.{begun}
use Rattle.sv_files.specs.Beginning.{first_procs, mount_of}
use Rattle.sv_files.specs.FileRule.{Guarded, Homes, Lines, Parts, forcings, home_at, over_all}
use Rattle.sv_files.specs.View.{Seen}

-- The stake has each line of the image with its bytes, and no others; it has lent nothing.
pub record HoldsImage (image : List ℕ) (z : Seen) : Type 0 where
  pub sizes : z.origin.sizes ≡ geometry_of image
  pub lines : (b l : ℕ) → IsPlace (geometry_of image) (record { block = b; line = l })
      → z.held b l ≡ Some (line_of (block_of (geometry_of image) image b) l)
  pub range : InRange z.origin.sizes z.held
  pub lent : z.lent ≡ nothing_lent

-- ---- parts by their owners

-- the held lines whose owner is inode n; n is 0 for the lines that no inode owns
abbrev pub share : OwnerTable → Held → ℕ → Held
share t h n = λ b l. if owner_of t (record { block = b; line = l }) == n then h b l else None

-- some line of the image is the inode's
pub record OwnsLine (t : OwnerTable) (n : ℕ) : Type 0 where
  pub place : Place
  pub inside : IsPlace t.geometry place
  pub owner : owner_of t place ≡ n

-- a part with the lines of inode n: it has lent nothing, counted no fault, and is not forced
pub record IsShare (t : OwnerTable) (whole : Seen) (n : ℕ) (z : Seen) : Type 0 where
  pub held : z.held ≡ share t whole.held n
  pub lent : z.lent ≡ nothing_lent
  pub origin : z.origin ≡ whole.origin
  pub none : z.faults ≡ 0
  pub unforced : z.forced ≡ false

-- what is left of the whole: the lines of nobody, with all faults
pub record IsRemainder (t : OwnerTable) (whole z : Seen) : Type 0 where
  pub held : z.held ≡ share t whole.held 0
  pub lent : z.lent ≡ nothing_lent
  pub origin : z.origin ≡ whole.origin
  pub faults : z.faults ≡ whole.faults
  pub forced : z.forced ≡ whole.forced

-- The whole is parted: each inode that owns a line has a part at its place, and no other place has one. The last inode is given.
pub record IsPartedOut {S : Type 0} (seen : S → Seen) (t : OwnerTable) (last : ℕ) (whole : Seen) (rest : S) (stakes : List (Option S))
    : Type 0 where
  pub table : IsOwnerTable t
  pub size : length stakes ≡ last + 1
  pub remainder : IsRemainder t whole (seen rest)
  pub nobody : home_at stakes 0 ≡ None
  pub part : (n : ℕ) (s : S) → home_at stakes n ≡ Some s → IsShare t whole n (seen s)
  pub owns : (n : ℕ) → IsSome (home_at stakes n) → OwnsLine t n
  pub each : (n : ℕ) → 0 < n → n ≤ last → OwnsLine t n → IsSome (home_at stakes n)

-- ---- the mount

-- The image was checked, its lines are those of the whole, and that is parted.
pub record IsMountedOut {S : Type 0} (seen : S → Seen) (image : List ℕ) (m : Mounted) (whole : Seen) (rest : S) (stakes : List (Option S))
    : Type 0 where
  pub from : IsMountedFrom image m
  pub holds : HoldsImage image whole
  pub parted : IsPartedOut seen m.owners (inode_count (geometry_of image)) whole rest stakes

-- all that a core asks of a stake and of what the check left
pub record MountsCore (m : Mounted) (z : Seen) : Type 0 where
  pub blocks : CanMount z.origin z.held z.lent m.owners m.head.free.items
  pub inodes : CanMountInodes z.origin z.held m.used.items m.head.inodes.items
  pub first : HoldsFirst z.origin z.held
  pub only : HoldsOnly z.origin z.held (λ b. one_if (is_free m.owners b))
  pub names : NamesSizes z.origin.sizes (head_of m.head)

-- What the rule says of the stakes while no inode is locked or in core: each node of the tree stands in the part of its inode, each line
-- is held once, and what is counted and forced is what the whole was. And the rest is what a core asks.
pub record IsReady {S : Type 0} (seen : S → Seen) (image : List ℕ) (m : Mounted) (whole : Seen) (rest : S) (stakes : List (Option S))
    : Type 0 where
  pub homes : Homes seen whole.origin (tree image) stakes (λ n. None) []
  pub lines : Lines seen whole.origin rest stakes []
  pub core : MountsCore m (seen rest)
  pub at_rest : IsAtRest (loaded image)
  pub faults : over_all seen (λ z. z.faults) rest stakes [] ≡ whole.faults
  pub unforced : whole.forced ≡ false → over_all seen forcings rest stakes [] ≡ 0

-- So it is, whenever an image was checked and its lines are parted.
abbrev pub MountedParts : {S : Type 0} → (S → Seen) → Type 0
MountedParts {S} seen = (image : List ℕ) (m : Mounted) (whole : Seen) (rest : S) (stakes : List (Option S))
    → IsMountedOut seen image m whole rest stakes → IsReady seen image m whole rest stakes

-- What is guarded as an image is mounted meets the rule.
abbrev pub MountedHolds : {S : Type 0} → (S → Seen) → Type 0
MountedHolds {S} seen = (image : List ℕ) (m : Mounted) (whole : Seen) (g : Guarded S) (n places : ℕ)
    → 1 ≤ n → 1 ≤ places → whole.origin.sizes ≡ geometry_of image → IsReady seen image m whole g.rest g.stakes
    → g.history ≡ [] → g.owed ≡ 2 * n → g.core ≡ (λ _. None)
    → g.counts ≡ set (replicate (inode_count (geometry_of image) + 1) 0) 2 (2 * n) → g.taken ≡ 1 → g.places ≡ places
    → Parts seen (mount_of image whole n places) (begun (loaded image) n places) g (first_procs 1 n) []

-- The ranges in which the lines of inode n are handed out: a place of the image is in one of them exactly where it is the inode's, no other
-- place is, and none is in two.
pub record CoversShare (t : OwnerTable) (n : ℕ) (ranges : List LineRange) : Type 0 where
  pub exactly : (b l : ℕ) → IsPlace t.geometry (record { block = b; line = l })
      → in_ranges ranges b l ≡ (owner_of t (record { block = b; line = l }) == n)
  pub inside : (b l : ℕ) → in_ranges ranges b l ≡ true → IsPlace t.geometry (record { block = b; line = l })
  pub once : (b l : ℕ) → count_by (covers b l) ranges ≤ 1

abbrev pub OwnedRanges : Type 0
OwnedRanges = (t : OwnerTable) (n : ℕ) (ranges : List LineRange) → IsOwnerTable t → AreLinesOf t n ranges → CoversShare t n ranges
