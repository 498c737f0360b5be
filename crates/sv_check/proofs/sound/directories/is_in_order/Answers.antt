use Rattle.std.proofs.Common.{◌≡◌, ◌≤◌, ◌<◌, ◌+◌, ◌-◌, ◌*◌, ◌/◌, ◌%◌, ◌∙◌, All, List, Some, None, ℕ, Bool, true, false, ap, sym, subst, refl, length, take, min, arith}
use Rattle.sv_form.specs.Image.{block_of, inode_of}
use Rattle.sv_plain.specs.Front.{size_of}
use Rattle.sv_check.specs.declared.pages.PageBlock.{PageBlock}
use Rattle.sv_check.specs.Directories.{pieces}
use Rattle.sv_check.specs.EntrySteps.{seen_after, Takes}
use Rattle.sv_check.specs.Pages.{DirectoryPages}
use Rattle.sv_check.specs.SeenNames.{HasSeen}
use Rattle.sv_check.specs.Standings.{standing_of}
use Rattle.sv_check.proofs.DirectorySteps.{found_in, hole, next_in, pages, part, part_size, refused, through_end, through_first, through_on, when_none}
use Rattle.sv_check.proofs.EntryTakes.{when_true}
use Rattle.sv_check.proofs.Flaws.{none_here}
use Rattle.sv_check.proofs.StandingSteps.{length-pieces}
use Rattle.sv_check.proofs.ToldEntries.{taken_below, told_end, told_first, told_on}
use Rattle.sv_check.proofs.sound.directories.is_in_order.Goals as goal

pub loop-k-init : goal.loop-k-init
loop-k-init g c = record {
  content = refl;
  faults = omega arith;
  size = c.requires.block;
  len = refl;
  told = told_first c.args.sizes.now (g.D.Disk.content c.args.disk.now) c.args.directory.now.inode (standing_of c.args.standings.now);
  through = through_first c.args.sizes.now (g.D.Disk.content c.args.disk.now) c.args.directory.now.inode _ c.args.names.now (ap (λ (d : DirectoryPages). d.pages) c.requires.ready.is) c.requires.names;
}

pub returns-in_default-clause-order : goal.returns-in_default-clause-order
returns-in_default-clause-order g c =
    let image : List ℕ = g.D.Disk.content c.args.disk.now in
    let number : ℕ = c.args.directory.now.inode in
    let pages_are = ap (λ (d : DirectoryPages). d.pages) c.requires.ready.is in
    let size_is = ap (λ (d : DirectoryPages). d.size) c.requires.ready.is in
    let count : c.page_count-k-end.result ≡ pages c.args.sizes.now image number =
    c.page_count-k-end.ensures ∙ ap (λ (s : ℕ). (s + (c.args.sizes.now.block_size - 1)) / c.args.sizes.now.block_size) size_is in
    let below : c.loop-k.k < pages c.args.sizes.now image number = subst (λ (m : ℕ). c.loop-k.k < m) count c.loop-k-test.true in
    hole c.args.sizes.now image number _ c.loop-k.names c.loop-k.k c.loop-k.invariant.through pages_are below
    (found_in _ _ c.deref.ensures.value _ _ c.loop-k.invariant.through.at None (when_none c.block_of_page.result (none_here _ c.in_default.not-Some) c.block_of_page.ensures.absent))

pub read_block-requires-clause-number : goal.read_block-requires-clause-number
read_block-requires-clause-number g c = λ _ _.
    c.in-Some.ensures.inside c.args.sizes.now.blocks (subst (λ (l : List PageBlock). All (λ p. p.block < c.args.sizes.now.blocks) l) (sym c.deref.ensures.value) c.requires.ready.inside)

pub returns-then-not-branch-clause-order : goal.returns-then-not-branch-clause-order
returns-then-not-branch-clause-order g c =
    let image : List ℕ = g.D.Disk.content c.args.disk.now in
    let number : ℕ = c.args.directory.now.inode in
    let pages_are = ap (λ (d : DirectoryPages). d.pages) c.requires.ready.is in
    let size_is = ap (λ (d : DirectoryPages). d.size) c.requires.ready.is in
    let count : c.page_count-k-end.result ≡ pages c.args.sizes.now image number =
    c.page_count-k-end.ensures ∙ ap (λ (s : ℕ). (s + (c.args.sizes.now.block_size - 1)) / c.args.sizes.now.block_size) size_is in
    let below : c.loop-k.k < pages c.args.sizes.now image number = subst (λ (m : ℕ). c.loop-k.k < m) count c.loop-k-test.true in
    let page : PageBlock = record { page = c.loop-k.k; block = c.in-Some.b } in
    let found = found_in _ _ c.deref.ensures.value _ _ c.loop-k.invariant.through.at (Some page) c.in-Some.ensures.found in
    let bytes : c.read_block.new.block ≡ block_of c.args.sizes.now image c.in-Some.b =
    c.in_ok-read_block.ensures.bytes ∙ ap (λ (im : List ℕ). block_of c.args.sizes.now im c.in-Some.b) c.loop-k.invariant.content in
    let len : length c.read_block.new.block ≡ c.args.sizes.now.block_size = c.read_block.auto.block ∙ c.loop-k.invariant.size in
    let end : ℕ = c.bytes_in_page-end.result in
    let upto : end ≡ min (size_of (inode_of c.args.sizes.now image number) - c.loop-k.k * c.args.sizes.now.block_size) c.args.sizes.now.block_size =
    c.bytes_in_page-end.ensures ∙ ap (λ (s : ℕ). min (s - c.loop-k.k * c.args.sizes.now.block_size) c.args.sizes.now.block_size) size_is in
    let whole : size_of (inode_of c.args.sizes.now image number) % 16 ≡ 0 = ap (λ (s : ℕ). s % 16) (sym size_is) ∙ c.requires.ready.whole in
    let part = part_size c.read_block.new.block end (omega (arith, upto, len)) in
    let takes = c.in_ok-take_entries.ensures.takes c.args.sizes.now image c.loop-k.invariant.through.seen c.requires.used c.loop-k.invariant.through.has in
    refused c.args.sizes.now image number _ c.loop-k.names c.loop-k.k c.loop-k.invariant.through pages_are below page found _ bytes len end c.requires.sizes upto whole
    (subst (λ (es : List (List ℕ)). Takes c.args.sizes.now image c.loop-k.invariant.through.seen es false) part
    (subst (λ (t : Bool). Takes c.args.sizes.now image c.loop-k.invariant.through.seen (pieces (length (take end c.read_block.new.block) / 16) (take end c.read_block.new.block)) t) c.if-not-branch.true takes))

pub loop-k-preserved : goal.loop-k-preserved
loop-k-preserved g c =
    let image : List ℕ = g.D.Disk.content c.args.disk.now in
    let number : ℕ = c.args.directory.now.inode in
    let pages_are = ap (λ (d : DirectoryPages). d.pages) c.requires.ready.is in
    let size_is = ap (λ (d : DirectoryPages). d.size) c.requires.ready.is in
    let count : c.page_count-k-end.result ≡ pages c.args.sizes.now image number =
    c.page_count-k-end.ensures ∙ ap (λ (s : ℕ). (s + (c.args.sizes.now.block_size - 1)) / c.args.sizes.now.block_size) size_is in
    let below : c.loop-k.k < pages c.args.sizes.now image number = subst (λ (m : ℕ). c.loop-k.k < m) count c.loop-k-test.true in
    let page : PageBlock = record { page = c.loop-k.k; block = c.in-Some.b } in
    let found = found_in _ _ c.deref.ensures.value _ _ c.loop-k.invariant.through.at (Some page) c.in-Some.ensures.found in
    let bytes : c.read_block.new.block ≡ block_of c.args.sizes.now image c.in-Some.b =
    c.in_ok-read_block.ensures.bytes ∙ ap (λ (im : List ℕ). block_of c.args.sizes.now im c.in-Some.b) c.loop-k.invariant.content in
    let len : length c.read_block.new.block ≡ c.args.sizes.now.block_size = c.read_block.auto.block ∙ c.loop-k.invariant.size in
    let end : ℕ = c.bytes_in_page-end.result in
    let upto : end ≡ min (size_of (inode_of c.args.sizes.now image number) - c.loop-k.k * c.args.sizes.now.block_size) c.args.sizes.now.block_size =
    c.bytes_in_page-end.ensures ∙ ap (λ (s : ℕ). min (s - c.loop-k.k * c.args.sizes.now.block_size) c.args.sizes.now.block_size) size_is in
    let whole : size_of (inode_of c.args.sizes.now image number) % 16 ≡ 0 = ap (λ (s : ℕ). s % 16) (sym size_is) ∙ c.requires.ready.whole in
    let cut = part_size c.read_block.new.block end (omega (arith, upto, len)) in
    let takes = c.in_ok-take_entries.ensures.takes c.args.sizes.now image c.loop-k.invariant.through.seen c.requires.used c.loop-k.invariant.through.has in
    record {
      content = c.in_ok-read_block.ensures.content ∙ c.loop-k.invariant.content;
      faults = omega (arith, c.in_ok-read_block.ensures.cause.no_less, c.loop-k.invariant.faults);
      size = len;
      len = c.tell_entries.ensures.len ∙ c.loop-k.invariant.len;
      told = told_on c.args.sizes.now image number (standing_of c.args.standings.now) (standing_of c.loop-k.standings) (standing_of c.tell_entries.new.self) c.loop-k.k c.first_entry.result end
          (pieces (end / 16) (take end c.read_block.new.block)) (pieces (length (take end c.read_block.new.block) / 16) (take end c.read_block.new.block)) c.requires.sizes c.loop-k.invariant.told below
          c.first_entry.ensures upto (length-pieces (end / 16) (take end c.read_block.new.block))
          (part c.args.sizes.now image number _ c.loop-k.names c.loop-k.k c.loop-k.invariant.through pages_are below page found _ bytes len end c.requires.sizes upto whole)
          cut c.tell_entries.ensures.told;
      through = through_on c.args.sizes.now image number _ c.loop-k.names c.loop-k.k c.loop-k.invariant.through pages_are below page found _ bytes len end c.requires.sizes upto whole c.take_entries.new.self
          (subst (λ (es : List (List ℕ)). Takes c.args.sizes.now image c.loop-k.invariant.through.seen es true) cut
          (subst (λ (t : Bool). Takes c.args.sizes.now image c.loop-k.invariant.through.seen (pieces (length (take end c.read_block.new.block) / 16) (take end c.read_block.new.block)) t) c.if-not-branch.false takes))
          (subst (λ (es : List (List ℕ)). HasSeen c.take_entries.new.self (seen_after c.loop-k.invariant.through.seen es)) cut
          (when_true c.in_ok-take_entries.field-0 c.if-not-branch.false c.in_ok-take_entries.ensures.seen c.loop-k.invariant.through.seen c.loop-k.invariant.through.has))
          (next_in _ _ c.deref.ensures.value _ _ c.loop-k.invariant.through.at c.in-Some.ensures.next);
    }

pub returns-clause-order : goal.returns-clause-order
returns-clause-order g c =
    let image : List ℕ = g.D.Disk.content c.args.disk.now in
    let number : ℕ = c.args.directory.now.inode in
    let size_is = ap (λ (d : DirectoryPages). d.size) c.requires.ready.is in
    let count : c.page_count-k-end.result ≡ pages c.args.sizes.now image number =
    c.page_count-k-end.ensures ∙ ap (λ (s : ℕ). (s + (c.args.sizes.now.block_size - 1)) / c.args.sizes.now.block_size) size_is in
    through_end c.args.sizes.now image number _ c.loop-k.names c.loop-k.k c.requires.sizes (subst (λ (m : ℕ). m ≤ c.loop-k.k) count c.loop-k-test.false) c.loop-k.invariant.through

pub returns-clause-told : goal.returns-clause-told
returns-clause-told g c =
    let image : List ℕ = g.D.Disk.content c.args.disk.now in
    let number : ℕ = c.args.directory.now.inode in
    let size_is = ap (λ (d : DirectoryPages). d.size) c.requires.ready.is in
    let count : c.page_count-k-end.result ≡ pages c.args.sizes.now image number =
    c.page_count-k-end.ensures ∙ ap (λ (s : ℕ). (s + (c.args.sizes.now.block_size - 1)) / c.args.sizes.now.block_size) size_is in
    told_end c.args.sizes.now image number (standing_of c.args.standings.now) (standing_of c.loop-k.standings) c.loop-k.k c.requires.sizes (subst (λ (m : ℕ). m ≤ c.loop-k.k) count c.loop-k-test.false)
    c.loop-k.invariant.told

pub tell_entries-requires-clause-inodes : goal.tell_entries-requires-clause-inodes
tell_entries-requires-clause-inodes g c =
    let image : List ℕ = g.D.Disk.content c.args.disk.now in
    let bytes : List ℕ = take c.bytes_in_page-end.result c.read_block.new.block in
    let takes = c.in_ok-take_entries.ensures.takes c.args.sizes.now image c.loop-k.invariant.through.seen c.requires.used c.loop-k.invariant.through.has in
    taken_below c.args.sizes.now image c.loop-k.invariant.through.seen (pieces (length bytes / 16) bytes) (length c.loop-k.standings.of.items)
    (subst (λ (t : Bool). Takes c.args.sizes.now image c.loop-k.invariant.through.seen (pieces (length bytes / 16) bytes) t) c.if-not-branch.false takes)
    (c.loop-k.invariant.len ∙ c.requires.standings)
