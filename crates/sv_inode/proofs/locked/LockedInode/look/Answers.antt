-- The first entry with the name leads where the name leads.
use Rattle.std.proofs.Common.{◌/◌, ℕ, Option, Some, ap, subst}
use Rattle.sv_form.specs.Node.{entry_inode}
use Rattle.sv_inode.specs.Names.{Finds, is_at}
use Rattle.sv_inode.proofs.FoundNames.{looked, none-looked}
use Rattle.sv_inode.proofs.locked.LockedInode.look.Goals as goal

pub returns-in-Some-clause-found : goal.returns-in-Some-clause-found
returns-in-Some-clause-found g c = λ node stands.
    looked (g.S.Stake.origin c.args.self.now.stake).sizes.block_size node c.args.name.now (c.args.self.now.body.size / 16)
    (c.in-Some.field-0-0, c.in-Some.inode) (ap (λ q. q / 16) stands.described.size)
    (let P : Option (ℕ × ℕ) → Type 0 = λ x. Finds (is_at (g.S.Stake.origin c.args.self.now.stake).sizes.block_size node (Some c.args.name.now))
    (entry_inode (g.S.Stake.origin c.args.self.now.stake).sizes.block_size node) (c.args.self.now.body.size / 16) x in
    subst P c.in-Some.is (c.in_ok-inode.ensures.found node stands))

pub returns-in-None-clause-found : goal.returns-in-None-clause-found
returns-in-None-clause-found g c = λ node stands.
    none-looked (g.S.Stake.origin c.args.self.now.stake).sizes.block_size node c.args.name.now (c.args.self.now.body.size / 16)
    (ap (λ q. q / 16) stands.described.size)
    (let P : Option (ℕ × ℕ) → Type 0 = λ x. Finds (is_at (g.S.Stake.origin c.args.self.now.stake).sizes.block_size node (Some c.args.name.now))
    (entry_inode (g.S.Stake.origin c.args.self.now.stake).sizes.block_size node) (c.args.self.now.body.size / 16) x in
    subst P c.in-None.is (c.in_ok-inode.ensures.found node stands))
