-- The entry whose bytes became zero is the first one with the name.
use Rattle.std.proofs.Common.{◌*◌, ◌/◌, ℕ, Option, Some, OnOk, is_some, replicate, unwrap_or, sym, ap, ◌∙◌, subst}
use Rattle.std.proofs.lemmas.Bool.{false≢true}
use Rattle.sv_form.specs.Node.{entry_inode}
use Rattle.sv_form.specs.NodeChanges as changes
use Rattle.sv_store.specs.Held.{Origin}
use Rattle.sv_inode.specs.Names.{Finds, is_at}
use Rattle.sv_inode.specs.StandsFor.{StandsFor}
use Rattle.sv_inode.proofs.FoundNames.{no-place, place-first}
use Rattle.sv_inode.proofs.PiecePut.{stands-since}
use Rattle.sv_inode.proofs.locked.LockedInode.clear.Goals as goal

pub returns-in-Some-clause-node : goal.returns-in-Some-clause-node
returns-in-Some-clause-node g c = λ node stands is.
    (let P : Origin → Type 0 = λ q. OnOk c.blank_entry.result (StandsFor (g.S.Stake.origin c.blank_entry.new.s)
    (g.S.Stake.held c.blank_entry.new.s) c.args.self.now.body
    (changes.put q.sizes.block_size node (16 * c.in-Some.place) (replicate 16 0))) in
    let W : ℕ → Type 0 = λ q. OnOk c.blank_entry.result (StandsFor (g.S.Stake.origin c.blank_entry.new.s)
    (g.S.Stake.held c.blank_entry.new.s) c.args.self.now.body
    (changes.put (g.S.Stake.origin c.args.self.now.stake).sizes.block_size node (16 * q) (replicate 16 0))) in
    let Q : Option (ℕ × ℕ) → Type 0 = λ x. Finds (is_at (g.S.Stake.origin c.args.self.now.stake).sizes.block_size node (Some c.args.name.now))
    (entry_inode (g.S.Stake.origin c.args.self.now.stake).sizes.block_size node) (c.args.self.now.body.size / 16) x in
    subst W
    (sym (ap (λ x. unwrap_or x 0)
    (place-first (g.S.Stake.origin c.args.self.now.stake).sizes.block_size node c.args.name.now (c.args.self.now.body.size / 16)
    (c.in-Some.place, c.in-Some.field-0-1) (ap (λ q. q / 16) stands.described.size)
    (subst Q c.in-Some.is (c.in_ok-found.ensures.found node stands)))))
    (subst P c.find_entry.ensures.stake.home
    (c.blank_entry.ensures.node node (stands-since c.find_entry.ensures.stake.home c.find_entry.ensures.stake.lines stands))))

pub returns-in-None-clause-node : goal.returns-in-None-clause-node
returns-in-None-clause-node g c = λ node stands is.
    (let Q : Option (ℕ × ℕ) → Type 0 = λ x. Finds (is_at (g.S.Stake.origin c.args.self.now.stake).sizes.block_size node (Some c.args.name.now))
    (entry_inode (g.S.Stake.origin c.args.self.now.stake).sizes.block_size node) (c.args.self.now.body.size / 16) x in
    absurd (false≢true (sym (ap is_some
    (no-place (g.S.Stake.origin c.args.self.now.stake).sizes.block_size node c.args.name.now (c.args.self.now.body.size / 16)
    (ap (λ q. q / 16) stands.described.size) (subst Q c.in-None.is (c.in_ok-found.ensures.found node stands)))) ∙ is)))

pub returns-in-Some-clause-absent : goal.returns-in-Some-clause-absent
returns-in-Some-clause-absent g c = λ node stands absent.
    (let Q : Option (ℕ × ℕ) → Type 0 = λ x. Finds (is_at (g.S.Stake.origin c.args.self.now.stake).sizes.block_size node (Some c.args.name.now))
    (entry_inode (g.S.Stake.origin c.args.self.now.stake).sizes.block_size node) (c.args.self.now.body.size / 16) x in
    absurd (false≢true (sym (ap is_some absent) ∙ ap is_some
    (place-first (g.S.Stake.origin c.args.self.now.stake).sizes.block_size node c.args.name.now (c.args.self.now.body.size / 16)
    (c.in-Some.place, c.in-Some.field-0-1) (ap (λ q. q / 16) stands.described.size)
    (subst Q c.in-Some.is (c.in_ok-found.ensures.found node stands))))))
