-- The lines of a checked image, parted by their owners, are what the rule says of stakes, and what a core asks.
use Rattle.std.proofs.Common.{◌≡◌, ◌≢◌, ◌≤◌, ◌<◌, ◌+◌, ◌*◌, ◌/◌, ◌==◌, ◌&&◌, ◌∙◌, ℕ, zero, suc, Bool, true, false, not, List, []}
use Rattle.std.proofs.Common.{inl, inr, Option, Some, None, IsSome, is_some, cond, filter, find, nat_lt, ap, refl, subst, sym, arith}
use Rattle.std.specs.List.{range_with_len}
use Rattle.std.specs.FinMap as fmap
use Rattle.std.proofs.lemmas.Bool.{cases_eq, eq-eqb, eqb-true, false≢true, lt-ltb, ne_eqb}
use Rattle.std.proofs.lemmas.Bool.Decides.{nat_tests}
use Rattle.sv_form.specs.declared.geometry.Geometry.{Geometry}
use Rattle.sv_form.specs.declared.owners.Mounted.{Mounted}
use Rattle.sv_form.specs.declared.place.Place.{Place}
use Rattle.sv_form.specs.Geometry.{IsGeometry, IsNumber, IsPlace, block_lines, inode_count, inode_place}
use Rattle.sv_form.specs.Image.{geometry_of, inode_of}
use Rattle.sv_form.specs.Node.{Node}
use Rattle.sv_form.specs.OwnerTable.{OwnerTable}
use Rattle.sv_form.specs.Owners.{owner_of}
use Rattle.sv_form.specs.Superblock.{sizes_of}
use Rattle.sv_form.proofs.Images.{geometry_of-spelled}
use Rattle.sv_store.specs.Held.{Held, Origin, nothing_lent}
use Rattle.sv_super.specs.Calls.{head_of}
use Rattle.sv_super.specs.Core.{NamesSizes}
use Rattle.sv_check.specs.InodeList.{is_free, used_inodes}
use Rattle.sv_check.specs.Sound.{IsChained, IsWalked, line_owner, node_of, owns, tree}
use Rattle.sv_check.proofs.BooleanTests.{not_true}
use Rattle.sv_check.proofs.SoundParts.{are_met, sound_walked}
use Rattle.sv_turn.specs.Turning.{total}
use Rattle.sv_inode.specs.StandsFor.{StandsFor}
use Rattle.sv_inode.specs.Truncate.{HoldsOnly}
use Rattle.sv_plain.specs.Totals.{one_if}
use Rattle.sv_files.specs.FileRule.{Homes, IsNodeOf, Lines, at_home, forcings, has_line, home_at, is_line, over_all}
use Rattle.sv_files.specs.FromImage.{HoldsLinesOf, HoldsNoOther, IsUsedInode, TellsOwners}
use Rattle.sv_files.specs.Mounting.{IsMountedOut, IsReady, IsShare, MountsCore, OwnsLine, share}
use Rattle.sv_files.specs.View.{Seen}
use Rattle.sv_files.proofs.FreeChainHeld.{mounts-alone, mounts-blocks}
use Rattle.sv_files.proofs.FreeInodes.{mounts-inodes, within}
use Rattle.sv_files.proofs.HomeTotals.{none-total, one-total}
use Rattle.sv_files.proofs.InodeLines.{lines-alone}
use Rattle.sv_files.proofs.InodeStands.{stands-for}
use Rattle.sv_files.proofs.OwnClose.{HasBody, body-of, found_at, node-used, own-line, some_found, used-node}
use Rattle.sv_files.proofs.HeldBytes.{same_line}
use Rattle.sv_files.proofs.SoundAtRest.{sound_is_at_rest}
use Rattle.sv_files.proofs.Walked.{none-bad}

-- a line that a share has is the inode's, and is held
record IsOurs (k n : ℕ) (held : Option (List ℕ)) : Type 0 where
  same : k ≡ n
  some : IsSome held

ours_by : (k n : ℕ) (held : Option (List ℕ)) (t : Bool) → (k == n) ≡ t → IsSome (cond t held None) → IsOurs k n held
ours_by k n held true is some = record { same = eqb-true k n is; some = some }
ours_by k n held false is some = let no : ⊥ = cc some in absurd no

ours : (k n : ℕ) (held : Option (List ℕ)) → IsSome (cond (k == n) held None) → IsOurs k n held
ours k n held some = ours_by k n held (k == n) refl some

ours_is : (k n : ℕ) (held : Option (List ℕ)) → k ≡ n → cond (k == n) held None ≡ held
ours_is k n held same = ap (λ (t : Bool). cond t held None) (eq-eqb k n same)

ours_not : (k n : ℕ) (held : Option (List ℕ)) → k ≢ n → cond (k == n) held None ≡ None
ours_not k n held other = ap (λ (t : Bool). cond t held None) (ne_eqb k n other)

some_is : (o : Option (List ℕ)) (line : List ℕ) → o ≡ Some line → IsSome o
some_is o line e = ap is_some e

both_true : (s u : Bool) → s ≡ true → u ≡ true → (s && u) ≡ true
both_true true u e f = f
both_true false u e f = e

module _ {S : Type 0} (seen : S → Seen) (image : List ℕ) (m : Mounted) (whole : Seen) (rest : S) (stakes : List (Option S))
    (is : IsMountedOut seen image m whole rest stakes) where
  abbrev g : Geometry
  g = geometry_of image

  abbrev t : OwnerTable
  t = m.owners

  abbrev o : Origin
  o = whole.origin

  abbrev at : ℕ → ℕ → Place
  at b l = record { block = b; line = l }

  abbrev owner : ℕ → ℕ → ℕ
  owner b l = owner_of t (at b l)

  pub tells : TellsOwners g image t
  tells = record { table = is.parted.table; geometry = is.from.table; owners = is.from.owners }

  walked : IsWalked image
  walked = sound_walked image is.from.sound

  chained : IsChained image
  chained = record {
    walked = walked;
    chain = (are_met image is.from.sound).chain;
    lost = (are_met image is.from.sound).lost;
  }

  sizes : IsGeometry g
  sizes = is.from.sound.sized.sizes.bounds

  rows : block_lines g ≡ 16
  rows = ap (λ (x : ℕ). x / 64) sizes.block_size

  -- ---- the lines of one owner

  held-place : (b l : ℕ) → IsSome (whole.held b l) → IsPlace g (at b l)
  held-place b l some =
      let same : o.sizes ≡ g = is.holds.sizes in
      let block : b < g.blocks = subst (λ (x : Geometry). b < x.blocks) same (is.holds.range.block b l some) in
      let line : l * 64 < g.block_size = subst (λ (x : Geometry). l * 64 < x.block_size) same (is.holds.range.line b l some) in
      let size = sizes.block_size in
      let all = rows in
      record { block = block; line = omega (arith, line, size, all) }

  share-own : (n : ℕ) → HoldsLinesOf g image n (share t whole.held n)
  share-own n = record {
    own = λ b l place own. ours_is (owner b l) n (whole.held b l) (is.from.owners (at b l) place ∙ own) ∙ is.holds.lines b l place;
  }

  share-alone : (n : ℕ) → HoldsNoOther g image n (share t whole.held n)
  share-alone n = record {
    only = λ b l some.
        (let i = ours (owner b l) n (whole.held b l) some in
        sym (is.from.owners (at b l) (held-place b l i.some)) ∙ i.same);
  }

  owns-used : (n : ℕ) → 1 ≤ n → OwnsLine t n → IsUsedInode g image n
  unfolding line_owner used_inodes
  owns-used n least own =
      let place : IsPlace g own.place = subst (λ (x : Geometry). IsPlace x own.place) is.from.table own.inside in
      let f = found_at (owns g image own.place) (λ k. not (is_free (inode_of g image k))) (inode_count g) 1 n
      (some_found
      (find (owns g image own.place) (filter (λ k. not (is_free (inode_of g image k))) (range_with_len 1 (inode_count g)))) n least
      (sym (is.from.owners own.place place) ∙ own.owner)) in
      let low = f.low in
      let high = f.high in
      record { least = low; most = omega (arith, high); used = not_true (is_free (inode_of g image n)) f.left }

  used-owns : (n : ℕ) → IsUsedInode g image n → OwnsLine t n
  used-owns n u =
      let place = within g image sizes is.from.sound.sized.sizes.length (none-bad g image walked.range walked.twice)
      (share t whole.held 0) (share-own 0) n u.least u.most in
      record {
        place = inode_place g n;
        inside = subst (λ (x : Geometry). IsPlace x (inode_place g n)) (sym is.from.table) place;
        owner = is.from.owners (inode_place g n) place
            ∙ own-line image o is.from.sound t tells m.head is.from.head n u;
      }

  -- ---- the inodes at home

  some-number : (n : ℕ) (s : S) → home_at stakes n ≡ Some s → 1 ≤ n
  some-number zero s there = let no : ⊥ = cc (sym is.parted.nobody, there) in absurd no
  some-number (suc n) s there = omega arith

  module _ (n : ℕ) (s : S) (there : home_at stakes n ≡ Some s) where
    part : IsShare t whole n (seen s)
    part = is.parted.part n s there

    used : IsUsedInode g image n
    used = owns-used n (some-number n s there) (is.parted.owns n (ap is_some there))

    body : HasBody image o is.from.sound t tells m.head is.from.head n
    body = body-of image o is.from.sound t tells m.head is.from.head n used

    node : Node
    node = node_of g image (inode_of g image n)

    known : fmap.get (tree image) n ≡ Some node
    unfolding node
    known = used-node image o is.from.sound t tells m.head is.from.head n used

    line-there : (seen s).held (inode_place g n).block (inode_place g n).line ≡ Some (inode_of g image n)
    line-there =
        let own = used-owns n used in
        let place = within g image sizes is.from.sound.sized.sizes.length (none-bad g image walked.range walked.twice)
        (share t whole.held 0) (share-own 0) n used.least used.most in
        ap (λ (h : Held). h (inode_place g n).block (inode_place g n).line) part.held
        ∙ (share-own n).own (inode_place g n).block (inode_place g n).line place
        (own-line image o is.from.sound t tells m.head is.from.head n used)
        ∙ ap (λ (x : List ℕ). Some x) (sym (same_line g image (inode_place g n)))

    stands : StandsFor o (seen s).held body.body node
    unfolding node
    stands = subst (λ (x : Held). StandsFor o x body.body (node_of g image (inode_of g image n))) (sym part.held)
        (stands-for image walked n used o is.holds.sizes (share t whole.held n) (share-own n) body.body body.spelled)

    alone : HoldsOnly o (seen s).held n body.body.addresses
    alone = subst (λ (x : Held). HoldsOnly o x n body.body.addresses) (sym part.held)
        (lines-alone image walked n used o is.holds.sizes (share t whole.held n) (share-own n) (share-alone n) body.body body.spelled)

    is-node : IsNodeOf o (tree image) n None (seen s)
    is-node = record {
      node = node;
      known = known;
      stands = record {
        body = body.body;
        line = inode_of g image n;
        number = subst (λ (x : Geometry). IsNumber x n) (sym is.holds.sizes) (record { least = used.least; most = used.most });
        there = subst (λ (x : Geometry). (seen s).held (inode_place x n).block (inode_place x n).line ≡ Some (inode_of g image n))
            (sym is.holds.sizes) line-there;
        has = body.spelled;
        stands = stands;
        only = alone;
        lent = part.lent;
        origin = part.origin;
      };
    }

  none-known : (n : ℕ) (x : Option Node) → fmap.get (tree image) n ≡ x → home_at stakes n ≡ None → one_if (is_some x) ≡ 0
  none-known n None there gone = refl
  none-known n (Some k) there gone =
      let u = node-used image o is.from.sound t tells m.head is.from.head n k there in
      let least = u.least in
      let some : IsSome (home_at stakes n) = is.parted.each n (omega (arith, least)) u.most (used-owns n u) in
      absurd (false≢true (sym (ap is_some gone) ∙ some))

  known_by : (n : ℕ) (x : Option S) → home_at stakes n ≡ x → one_if (is_some x) ≡ one_if (fmap.contains_key (tree image) n)
  known_by n None gone = sym (none-known n (fmap.get (tree image) n) refl gone)
  known_by n (Some s) there = sym (ap (λ (x : Option Node). one_if (is_some x)) (known n s there))

  homes : Homes seen o (tree image) stakes (λ n. None) []
  homes = record {
    size = is.parted.size ∙ ap (λ (x : Geometry). inode_count x + 1) (sym is.holds.sizes);
    once = λ n. (let one = known_by n (home_at stakes n) refl in omega (arith, one));
    home = λ n s there. is-node n s there;
    away = tt;
  }

  -- ---- each line once

  module _ (b l : ℕ) where
    abbrev has : Option S → ℕ
    has = at_home seen (has_line b l)

    held-none : (n : ℕ) → whole.held b l ≡ None → one_if (is_some (share t whole.held n b l)) ≡ 0
    held-none n gone = by (owner b l == n) (whole.held b l) gone
      where
        by : (u : Bool) (x : Option (List ℕ)) → x ≡ None → one_if (is_some (cond u x None)) ≡ 0
        by true x gone = ap (λ (y : Option (List ℕ)). one_if (is_some y)) gone
        by false x gone = refl

    other-none : (n : ℕ) → owner b l ≢ n → one_if (is_some (share t whole.held n b l)) ≡ 0
    other-none n other = ap (λ (y : Option (List ℕ)). one_if (is_some y)) (ours_not (owner b l) n (whole.held b l) other)

    own-one : (n : ℕ) → owner b l ≡ n → IsSome (whole.held b l) → one_if (is_some (share t whole.held n b l)) ≡ 1
    own-one n same some =
        ap (λ (y : Option (List ℕ)). one_if (is_some y)) (ours_is (owner b l) n (whole.held b l) same) ∙ ap one_if some

    has-share : (n : ℕ) (s : S) → home_at stakes n ≡ Some s → has (home_at stakes n) ≡ one_if (is_some (share t whole.held n b l))
    has-share n s there = ap has there ∙ ap (λ (h : Held). one_if (is_some (h b l))) (part n s there).held

    has-zero : (n : ℕ) → one_if (is_some (share t whole.held n b l)) ≡ 0 → has (home_at stakes n) ≡ 0
    has-zero n zero_share = by (home_at stakes n) refl
      where
        by : (x : Option S) → home_at stakes n ≡ x → has (home_at stakes n) ≡ 0
        by None gone = ap has gone
        by (Some s) there = has-share n s there ∙ zero_share

    has-rest : has_line b l (seen rest) ≡ one_if (is_some (share t whole.held 0 b l))
    has-rest = ap (λ (h : Held). one_if (is_some (h b l))) is.parted.remainder.held

    has-one : (n : ℕ) → IsSome (home_at stakes n) → one_if (is_some (share t whole.held n b l)) ≡ 1 → has (home_at stakes n) ≡ 1
    has-one n some one = by (home_at stakes n) refl
      where
        by : (x : Option S) → home_at stakes n ≡ x → has (home_at stakes n) ≡ 1
        by None gone = absurd (false≢true (sym (ap is_some gone) ∙ some))
        by (Some s) there = has-share n s there ∙ one

    line-in : IsSome (whole.held b l) → is_line o.sizes b l ≡ true
    line-in some =
        both_true (nat_lt b o.sizes.blocks) (nat_lt (l * 64) o.sizes.block_size)
        (lt-ltb b o.sizes.blocks (is.holds.range.block b l some)) (lt-ltb (l * 64) o.sizes.block_size (is.holds.range.line b l some))

    line-out : (u : Bool) → is_line g b l ≡ u → whole.held b l ≡ None → u ≡ false
    line-out false in_image gone = refl
    line-out true in_image gone =
        let size = sizes.block_size in
        let all = rows in
        let block : b < g.blocks = grind (nat_tests, arith, in_image) in
        let line : l * 64 < g.block_size = grind (nat_tests, arith, in_image) in
        let there = is.holds.lines b l (record { block = block; line = omega (arith, line, size, all) }) in
        let no : ⊥ = cc (gone, there) in
        absurd no

    owned-total : IsSome (whole.held b l) → has_line b l (seen rest) + total has stakes ≡ 1
    owned-total some =
        let sum = one-total has refl stakes (owner b l) (λ n ne. has-zero n (other-none n (λ e. ne (sym e)))) in
        elim (cases_eq (owner b l) 0) [
          | inl nobodys ↦
              let first = has-rest ∙ own-one 0 nobodys some in
              let none : has (home_at stakes (owner b l)) ≡ 0 =
              ap (λ (n : ℕ). has (home_at stakes n)) nobodys ∙ ap has is.parted.nobody in
              omega (arith, first, sum, none)
          | inr someones ↦
              let first = has-rest ∙ other-none 0 someones in
              let place = held-place b l some in
              let own : OwnsLine t (owner b l) = record {
                place = at b l;
                inside = subst (λ (x : Geometry). IsPlace x (at b l)) (sym is.from.table) place;
                owner = refl;
              } in
              let u = owns-used (owner b l) (omega (arith, someones)) own in
              let there = is.parted.each (owner b l) (omega (arith, someones)) u.most own in
              let one = has-one (owner b l) there (own-one (owner b l) refl some) in
              omega (arith, first, sum, one)
        ]

    none-held : whole.held b l ≡ None → has_line b l (seen rest) + total has stakes ≡ 0
    none-held gone =
        let first = has-rest ∙ held-none 0 gone in
        let sum = none-total has refl stakes (λ n. has-zero n (held-none n gone)) in
        omega (arith, first, sum)

    once_by : (x : Option (List ℕ)) → whole.held b l ≡ x → has_line b l (seen rest) + total has stakes ≡ one_if (is_line o.sizes b l)
    once_by None gone =
        none-held gone
        ∙ sym (ap (λ (x : Geometry). one_if (is_line x b l)) is.holds.sizes ∙ ap one_if (line-out (is_line g b l) refl gone))
    once_by (Some line) there = owned-total (ap is_some there) ∙ sym (ap one_if (line-in (ap is_some there)))

  lines : Lines seen o rest stakes []
  lines = record {
    origin = is.parted.remainder.origin;
    once = λ b l. (let one = once_by b l (whole.held b l) refl in omega (arith, one));
  }

  -- ---- the core

  names : NamesSizes g (head_of m.head)
  names =
      let same : g ≡ sizes_of m.head = geometry_of-spelled image m.head is.from.head in
      record {
        block_type = sym is.from.head.block_type ∙ is.from.sound.sized.type.type;
        first_data = sym (ap (λ (x : Geometry). x.first_data) same);
        blocks = sym (ap (λ (x : Geometry). x.blocks) same);
      }

  mounts : MountsCore m (record (seen rest) { origin = o; held = share t whole.held 0; lent = nothing_lent })
  mounts =
      let inodes = mounts-inodes image walked (are_met image is.from.sound).cache m.used.items is.from.used o is.holds.sizes
      (share t whole.held 0) (share-own 0) m.head is.from.head in
      record {
        blocks = mounts-blocks image chained t tells o is.holds.sizes (share t whole.held 0) (share-own 0) m.head is.from.head
            nothing_lent refl;
        inodes = inodes.can;
        first = record { line = inodes.first };
        only = mounts-alone image chained t tells o is.holds.sizes (share t whole.held 0) (share-own 0) (share-alone 0);
        names = subst (λ (x : Geometry). NamesSizes x (head_of m.head)) (sym is.holds.sizes) names;
      }

  core-mounts : MountsCore m (seen rest)
  core-mounts =
      let r = is.parted.remainder in
      let same : record (seen rest) { origin = o; held = share t whole.held 0; lent = nothing_lent } ≡ seen rest =
      λ i. record (seen rest) { origin = sym r.origin i; held = sym r.held i; lent = sym r.lent i } in
      subst (λ (z : Seen). MountsCore m z) same mounts

  -- ---- what is counted, and forced

  each-zero : (f : Seen → ℕ) → ((n : ℕ) (s : S) → home_at stakes n ≡ Some s → f (seen s) ≡ 0) → total (at_home seen f) stakes ≡ 0
  each-zero f each = none-total (at_home seen f) refl stakes (λ n. by n (home_at stakes n) refl)
    where
      by : (n : ℕ) (x : Option S) → home_at stakes n ≡ x → at_home seen f (home_at stakes n) ≡ 0
      by n None gone = ap (at_home seen f) gone
      by n (Some s) there = ap (at_home seen f) there ∙ each n s there

  faults-same : over_all seen (λ z. z.faults) rest stakes [] ≡ whole.faults
  faults-same =
      let parts = each-zero (λ z. z.faults) (λ n s there. (part n s there).none) in
      let first = is.parted.remainder.faults in
      omega (arith, parts, first)

  none-forced : whole.forced ≡ false → over_all seen forcings rest stakes [] ≡ 0
  none-forced calm =
      let parts = each-zero forcings (λ n s there. ap one_if (part n s there).unforced) in
      let first : forcings (seen rest) ≡ 0 = ap one_if (is.parted.remainder.forced ∙ calm) in
      omega (arith, parts, first)

  pub are-ready : IsReady seen image m whole rest stakes
  are-ready = record {
    homes = homes;
    lines = lines;
    core = core-mounts;
    at_rest = (sound_is_at_rest image is.from.sound).1;
    faults = faults-same;
    unforced = none-forced;
  }
