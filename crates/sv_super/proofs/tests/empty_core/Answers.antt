-- The superblock's lines are parted, and every line belongs to an inode.
use Rattle.std.proofs.Common.{sym, ap, ◌∙◌, subst}
use Rattle.std.proofs.lemmas.Result.{IfOk-weaker}
use Rattle.sv_super.specs.Sample.{IsSource}
use Rattle.sv_super.proofs.Samples.{core-first, core-names, core-only, core-part, first-source, line-kept, mount-empty, mount-no-inodes}
use Rattle.sv_super.proofs.tests.empty_core.Goals as goal

pub part-requires : goal.part-requires
part-requires g c = core-part c.requires.held c.requires.lent

pub new-requires-clause-blocks : goal.new-requires-clause-blocks
new-requires-clause-blocks g c _ _ =
    mount-empty {o = g.S.Stake.origin c.in_ok-stake.stake} c.requires.held c.in_ok-stake.ensures.ok (ap (λ q. q.sizes) c.in_ok-stake.ensures.new_origin ∙ c.requires.sizes) c.in_ok-stake.ensures.new_lent c.in_ok-mounted.ensures.geometry c.in_ok-mounted.ensures.count c.in_ok-mounted.ensures.owners c.in_ok-mounted.ensures.list

pub new-requires-clause-inodes : goal.new-requires-clause-inodes
new-requires-clause-inodes g c _ _ = mount-no-inodes (ap (λ q. q.sizes) c.in_ok-stake.ensures.new_origin ∙ c.requires.sizes) c.in_ok-mounted.ensures.used c.in_ok-mounted.ensures.inodes

pub new-requires-clause-first : goal.new-requires-clause-first
new-requires-clause-first g c _ _ = core-first c.requires.first c.in_ok-stake.ensures.ok (ap (λ q. q.sizes) c.in_ok-stake.ensures.new_origin ∙ c.requires.sizes)

pub new-requires-clause-only : goal.new-requires-clause-only
new-requires-clause-only g c _ _ = core-only _ c.in_ok-stake.ensures.ok (ap (λ q. q.sizes) c.in_ok-stake.ensures.new_origin ∙ c.requires.sizes)

pub new-requires-clause-names : goal.new-requires-clause-names
new-requires-clause-names g c _ _ =
    core-names (g.S.Stake.origin c.in_ok-stake.stake) c.in_ok-mounted.mounted.head (ap (λ q. q.sizes) c.in_ok-stake.ensures.new_origin ∙ c.requires.sizes) (ap (λ q. q.block_type) c.in_ok-mounted.ensures.sizes) (ap (λ q. q.first_data) c.in_ok-mounted.ensures.sizes) (ap (λ q. q.blocks) c.in_ok-mounted.ensures.sizes)

pub returns-clause-source : goal.returns-clause-source
returns-clause-source g c =
    IfOk-weaker c.new.result _ _
    (λ core same.
    (let P : g.row.S.Denot → Type 0 = λ q. IsSource (g.S.Stake.origin q) (g.S.Stake.held q) (g.S.Stake.origin c.part.new.self) (g.S.Stake.held c.part.new.self) (g.S.Stake.lent c.part.new.self) 64 in
    subst P (sym same)
    (first-source c.requires.held c.in_ok-stake.ensures.ok (ap (λ q. q.sizes) c.in_ok-stake.ensures.new_origin ∙ c.requires.sizes) (c.part.ensures.origin ∙ sym c.in_ok-stake.ensures.new_origin) (c.part.ensures.lends ∙ c.requires.lent)))) c.new.ensures.stake

pub returns-clause-line : goal.returns-clause-line
returns-clause-line g c = line-kept c.in_ok-stake.ensures.ok c.requires.line
