-- The block is the last number of a list with room, or the only number above a full one.
use Rattle.sv_super.proofs.Added.{links-link, links-snoc}
use Rattle.sv_super.proofs.chain.link.Goals as goal

pub returns-then-not-is_full-clause-ok : goal.returns-then-not-is_full-clause-ok
returns-then-not-is_full-clause-ok g c = links-snoc (g.S.Stake.held c.args.s.now) c.args.b c.requires.spelled.some c.requires.named c.push.ensures.items

pub returns-clause-ok : goal.returns-clause-ok
returns-clause-ok g c = links-link c.args.b c.in_ok-put_list.ensures.ok c.requires.named c.clear.ensures c.push-2.ensures.items
