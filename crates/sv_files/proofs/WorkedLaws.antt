-- The laws used on the worked image: it is sound, its file's lines stand for the file's node, and what writes take by the address tree,
-- which is computed there, is what they add to the blocks of the node.
use Rattle.std.proofs.Common.{◌≡◌, ◌≤◌, ◌<◌, ◌+◌, ◌-◌, ◌*◌, ◌==◌, ◌&&◌, ◌∙◌, ℕ, zero, suc, Bool, true, false, List, [], ◌∷◌, inl}
use Rattle.std.proofs.Common.{inr, length, map, slice_index, ap, arith, refl, subst, sym}
use Rattle.std.specs.List.{list_all, range_with_len}
use Rattle.std.proofs.lemmas.Bool.{cases_eq, eqb-true, false≢true}
use Rattle.sv_form.specs.declared.inode.DiskInode.TheVariants.{Used}
use Rattle.sv_form.specs.declared.inode.InodeBody.{InodeBody}
use Rattle.sv_form.specs.declared.kind.Kind.TheVariants.{File}
use Rattle.sv_form.specs.declared.superblock.Super.{Super}
use Rattle.sv_form.specs.AddressTree.{reached, reached_under}
use Rattle.sv_form.specs.Geometry.{IsGeometry, inode_count}
use Rattle.sv_form.specs.Image.{block_of, geometry_of, inode_of, line_of, superblock_of}
use Rattle.sv_form.specs.Inode.{IsInode}
use Rattle.sv_form.specs.Node.{Node}
use Rattle.sv_form.specs.NodeNeeds.{range_need}
use Rattle.sv_form.specs.Number.{number16, number24, number32}
use Rattle.sv_form.specs.PagePath.{greatest_size}
use Rattle.sv_form.specs.Superblock.{IsSuper}
use Rattle.sv_store.specs.Held.{Origin}
use Rattle.sv_inode.specs.StandsFor.{StandsFor}
use Rattle.sv_check.specs.Sound.{IsSound, node_of}
use Rattle.sv_check.proofs.SoundParts.{sound_walked}
use Rattle.sv_files.specs.FromImage.{IsUsedInode}
use Rattle.sv_files.specs.RoundTrip.{owned_by}
use Rattle.sv_files.proofs.InodeStands.{stands-for}
use Rattle.sv_files.proofs.OwnClose.{holds}
use Rattle.sv_files.proofs.TreeNeeds.{write-need}
use Rattle.sv_files.proofs.WorkedImage.{addresses, file, needed, needs_are, no_flaw, sizes, sizes_are, worked}

-- two functions agree on a range where a test says so
both_parts : (s t : Bool) → (s && t) ≡ true → (s ≡ true) × (t ≡ true)
both_parts true t e = (refl, e)
both_parts false t e = absurd (false≢true e)

alike : (f g : ℕ → ℕ) (n a : ℕ) → list_all (λ k. f k == g k) (range_with_len a n) ≡ true → (k : ℕ) → a ≤ k → k < a + n → f k ≡ g k
alike f g zero a e k low high = absurd (omega (arith, low, high))
alike f g (suc n) a e k low high =
    let parts = both_parts (f a == g a) (list_all (λ k. f k == g k) (range_with_len (a + 1) n)) e in
    elim (cases_eq a k) as (λ _. f k ≡ g k) [
      | inl same ↦ ap f (sym same) ∙ eqb-true (f a) (g a) parts.0 ∙ ap g same
      | inr ne ↦ alike f g n (a + 1) parts.1 k (omega (arith, low, ne)) (omega (arith, high))
    ]

-- ---- the superblock

abbrev head : Super
head = record {
  block_type = 2;
  first_data = 4;
  blocks = 64;
  free = record { items = map (λ k. 14 - k) (range_with_len 0 8) };
  inodes = record { items = map (λ k. 32 - k) (range_with_len 0 28) };
}

head_is : IsSuper (superblock_of worked) head
unfolding superblock_of
head_is = record {
  size = refl;
  magic = refl;
  block_type = refl;
  first_data = refl;
  blocks = refl;
  free = record {
    count = refl;
    some = omega arith;
    fits = omega arith;
    table = λ k low. alike (λ k. number32 (superblock_of worked) (16 + 4 * k)) (slice_index head.free.items) 50 0 refl k (omega arith) low;
  };
  inodes = record {
    count = refl;
    fits = omega arith;
    table = λ k low.
        alike (λ k. number16 (superblock_of worked) (216 + 2 * k)) (slice_index head.inodes.items) 100 0 refl k (omega arith) low;
  };
  rest = λ k low high. alike (slice_index (superblock_of worked)) (λ k. 0) 96 416 refl k low high;
}

bounds : IsGeometry (geometry_of worked)
bounds =
    subst IsGeometry (sym sizes_are)
    (record {
      block_size = refl;
      least_blocks = omega arith;
      most_blocks = omega arith;
      least_first = omega arith;
      most_first = omega arith;
      some_data = omega arith;
    })

long : length worked ≡ 65536
long = refl

sound : IsSound worked
unfolding superblock_of
sound = record {
  sized = record {
    magic = record { long = omega (arith, long); magic = refl };
    type = record { type = refl };
    sizes = record { reads = (head, head_is); bounds = bounds; length = refl };
  };
  others = no_flaw;
}

-- ---- the file

abbrev body : InodeBody
body = record { kind = File; mode = 420; links = 1; owner = 0; group = 0; size = 6; addresses = addresses; times = 0 ∷ 0 ∷ 0 ∷ [] }

abbrev bytes : List ℕ
bytes = inode_of (geometry_of worked) worked 4

spelled : IsInode bytes (Used body)
unfolding block_of line_of superblock_of
spelled = record {
  size = refl;
  spelled = record {
    kind = refl;
    mode = omega arith;
    links = refl;
    owner = refl;
    group = refl;
    size = refl;
    addresses = λ k low. alike (λ k. number24 bytes (12 + 3 * k)) (slice_index addresses) 13 0 refl k (omega arith) low;
    address_count = refl;
    zero = λ k low high. alike (slice_index bytes) (λ k. 0) 1 51 refl k low high;
    times = λ k low. alike (λ k. number32 bytes (52 + 4 * k)) (slice_index (0 ∷ 0 ∷ 0 ∷ [])) 3 0 refl k (omega arith) low;
    time_count = refl;
  };
}

count : inode_count (geometry_of worked) ≡ 32
unfolding superblock_of
count = refl

in_use : IsUsedInode (geometry_of worked) worked 4
unfolding block_of line_of superblock_of
in_use = record { least = omega arith; most = omega (arith, count); used = refl }

node_is : node_of (geometry_of worked) worked bytes ≡ file
unfolding block_of line_of superblock_of reached_under reached node_of
node_is = refl

module _ (base : Origin) where
  abbrev o : Origin
  o = record base { sizes = sizes }

  -- the lines that inode 4 owns stand for the file
  stands : StandsFor o (owned_by worked 4) body file
  stands =
      subst (λ (n : Node). StandsFor o (owned_by worked 4) body n) node_is
      (stands-for worked (sound_walked worked sound) 4 in_use o (sym sizes_are) (owned_by worked 4) (holds worked 4) body spelled)

  abbrev added : ℕ → ℕ → ℕ
  added at count = range_need 1024 file at count

  same : (at count : ℕ) → at + count ≤ 2147483647 → added at count ≡ needed at count
  same at count low =
      let top : greatest_size sizes ≡ 2147483647 = refl in
      sym (write-need o (owned_by worked 4) body file (subst IsGeometry sizes_are bounds) stands at count (omega (arith, low, top)))

  -- by the law the same writes add these numbers to the blocks of the node
  added_are : added 0 6 ∷ added 6 1019 ∷ added 10239 2 ∷ added 67381248 1 ∷ [] ≡ 0 ∷ 1 ∷ 3 ∷ 4 ∷ []
  added_are =
      let first = same 0 6 (omega arith) in
      let second = same 6 1019 (omega arith) in
      let third = same 10239 2 (omega arith) in
      let last = same 67381248 1 (omega arith) in
      (λ i. first i ∷ second i ∷ third i ∷ last i ∷ []) ∙ needs_are
