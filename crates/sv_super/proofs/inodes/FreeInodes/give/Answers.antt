-- The inode goes into the cache where there is room, and else lowers the remembered number.
use Rattle.std.proofs.Common.{length, sym, ◌∙◌, arith}
use Rattle.std.proofs.lemmas.Bool.{eqb-true}
use Rattle.sv_super.proofs.Caches.{give-full, give-room}
use Rattle.sv_super.proofs.Counts.{apart}
use Rattle.sv_super.proofs.FreeNumbers.{count-few}
use Rattle.sv_super.proofs.inodes.FreeInodes.give.Goals as goal

pub overflow_add-self : goal.overflow_add-self
overflow_add-self c = omega (arith, count-few c.self.inside.used.items, c.self.invariant.few, c.self.invariant.left)

pub invariant_of-self : goal.invariant_of-self
invariant_of-self c = (give-full c.args.n c.from.result c.min-self-inside.result c.self.view_is c.self.invariant c.requires.least c.requires.most c.requires.used c.from.ensures c.min-self-inside.ensures (eqb-true (length c.self.inside.cached.items) 100 (sym c.is_full.ensures.value ∙ c.if-is_full.true))).kept

pub returns-then-is_full : goal.returns-then-is_full
returns-then-is_full c = (give-full c.args.n c.from.result c.min-self-inside.result c.self.view_is c.self.invariant c.requires.least c.requires.most c.requires.used c.from.ensures c.min-self-inside.ensures (eqb-true (length c.self.inside.cached.items) 100 (sym c.is_full.ensures.value ∙ c.if-is_full.true))).is

pub invariant_of-self-2 : goal.invariant_of-self-2
invariant_of-self-2 c = (give-room c.args.n c.from.result c.push.new.self.items c.self.view_is c.self.invariant c.requires.least c.requires.most c.requires.used c.from.ensures c.push.ensures.items (let ne = apart (length c.self.inside.cached.items) 100 (sym c.is_full.ensures.value ∙ c.if-is_full.false) in omega (arith, ne, c.is_full.ensures.fits))).kept

pub returns : goal.returns
returns c = (give-room c.args.n c.from.result c.push.new.self.items c.self.view_is c.self.invariant c.requires.least c.requires.most c.requires.used c.from.ensures c.push.ensures.items (let ne = apart (length c.self.inside.cached.items) 100 (sym c.is_full.ensures.value ∙ c.if-is_full.false) in omega (arith, ne, c.is_full.ensures.fits))).is
