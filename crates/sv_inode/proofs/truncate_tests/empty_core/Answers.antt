-- The superblock's lines are parted, and every line belongs to an inode.
use Rattle.std.proofs.Common.{sym, ap, ◌∙◌, subst, arith}
use Rattle.sv_store.proofs.Holding.{IsSome-kept}
use Rattle.sv_super.specs.Sample.{IsSource}
use Rattle.sv_super.proofs.Samples.{core-first, core-names, core-only, core-part, first-source, mount-empty, mount-no-inodes, third-kept}
use Rattle.sv_inode.proofs.ElevenPages.{row-kept}
use Rattle.sv_inode.proofs.truncate_tests.empty_core.Goals as goal

pub part-requires : goal.part-requires
part-requires g c = core-part c.requires.held c.requires.lent

pub new-requires-clause-blocks : goal.new-requires-clause-blocks
new-requires-clause-blocks g c _ _ =
    mount-empty {o = g.S.Stake.origin c.in_ok-stake.stake} c.requires.held c.in_ok-stake.ensures.ok
    (ap (λ q. q.sizes) c.in_ok-stake.ensures.new_origin ∙ c.requires.sizes) c.in_ok-stake.ensures.new_lent
    c.in_ok-mounted.ensures.geometry c.in_ok-mounted.ensures.count c.in_ok-mounted.ensures.owners c.in_ok-mounted.ensures.list

pub new-requires-clause-inodes : goal.new-requires-clause-inodes
new-requires-clause-inodes g c _ _ = mount-no-inodes (ap (λ q. q.sizes) c.in_ok-stake.ensures.new_origin ∙ c.requires.sizes)
    c.in_ok-mounted.ensures.used c.in_ok-mounted.ensures.inodes

pub new-requires-clause-first : goal.new-requires-clause-first
new-requires-clause-first g c _ _ = core-first c.requires.first c.in_ok-stake.ensures.ok (ap (λ q. q.sizes) c.in_ok-stake.ensures.new_origin ∙ c.requires.sizes)

pub new-requires-clause-only : goal.new-requires-clause-only
new-requires-clause-only g c _ _ = core-only _ c.in_ok-stake.ensures.ok (ap (λ q. q.sizes) c.in_ok-stake.ensures.new_origin ∙ c.requires.sizes)

pub new-requires-clause-names : goal.new-requires-clause-names
new-requires-clause-names g c _ _ =
    core-names (g.S.Stake.origin c.in_ok-stake.stake) c.in_ok-mounted.mounted.head (ap (λ q. q.sizes) c.in_ok-stake.ensures.new_origin ∙ c.requires.sizes) (ap (λ q. q.block_type) c.in_ok-mounted.ensures.sizes) (ap (λ q. q.first_data) c.in_ok-mounted.ensures.sizes) (ap (λ q. q.blocks) c.in_ok-mounted.ensures.sizes)

pub returns-in-Ok-clause-source : goal.returns-in-Ok-clause-source
returns-in-Ok-clause-source g c =
    (let P : g.row.S.Denot
    → Type 0 = λ q. IsSource (g.S.Stake.origin q) (g.S.Stake.held q) (g.S.Stake.origin c.part.new.self)
    (g.S.Stake.held c.part.new.self) (g.S.Stake.lent c.part.new.self) 64 in
    subst P (sym c.in-Ok.ensures.stake)
    (first-source c.requires.held c.in_ok-stake.ensures.ok (ap (λ q. q.sizes) c.in_ok-stake.ensures.new_origin ∙ c.requires.sizes)
    (c.part.ensures.origin ∙ sym c.in_ok-stake.ensures.new_origin) (c.part.ensures.lends ∙ c.requires.lent)))

pub returns-in-Ok-clause-line : goal.returns-in-Ok-clause-line
returns-in-Ok-clause-line g c = IsSome-kept c.in_ok-stake.ensures.ok 2 2 third-kept (c.requires.held 2 2 (omega arith) (omega arith))

pub returns-in-Ok-clause-row : goal.returns-in-Ok-clause-row
returns-in-Ok-clause-row g c = λ l line. row-kept c.in_ok-stake.ensures.ok l (c.requires.row l line)
