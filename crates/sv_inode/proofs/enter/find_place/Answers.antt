-- The first empty entry that is found is the node's, and where none is found the place after the last one is.
use Rattle.std.proofs.Common.{◌/◌, ℕ, Option, None, ap, subst}
use Rattle.sv_form.specs.Node.{entry_inode}
use Rattle.sv_inode.specs.Names.{Finds, is_at}
use Rattle.sv_inode.proofs.FoundNames.{place-empty, place-last}
use Rattle.sv_inode.proofs.enter.find_place.Goals as goal

pub returns-in-Some-clause-place : goal.returns-in-Some-clause-place
returns-in-Some-clause-place g c = λ node stands.
    place-empty (g.S.Stake.origin c.args.s.now).sizes.block_size node (c.args.body.now.size / 16) (c.in-Some.place, c.in-Some.field-0-1)
    (ap (λ q. q / 16) stands.described.size)
    (let P : Option (ℕ × ℕ) → Type 0 = λ x. Finds (is_at (g.S.Stake.origin c.args.s.now).sizes.block_size node None)
    (entry_inode (g.S.Stake.origin c.args.s.now).sizes.block_size node) (c.args.body.now.size / 16) x in
    subst P c.in-Some.is (c.in_ok-place.ensures.found node stands))

pub returns-in-None-clause-place : goal.returns-in-None-clause-place
returns-in-None-clause-place g c = λ node stands.
    place-last (g.S.Stake.origin c.args.s.now).sizes.block_size node (c.args.body.now.size / 16) (ap (λ q. q / 16) stands.described.size)
    (let P : Option (ℕ × ℕ) → Type 0 = λ x. Finds (is_at (g.S.Stake.origin c.args.s.now).sizes.block_size node None)
    (entry_inode (g.S.Stake.origin c.args.s.now).sizes.block_size node) (c.args.body.now.size / 16) x in
    subst P c.in-None.is (c.in_ok-place.ensures.found node stands))
