-- What was found, and what is found in the rest.
use Rattle.std.proofs.Common.{◌≡◌, ◌≤◌, ◌+◌, ◌-◌, ◌++◌, [], length, ap, sym, ◌∙◌, arith}
use Rattle.std.proofs.lemmas.Bool.{eqb-true}
use Rattle.sv_super.specs.Inodes.{is_free_inode}
use Rattle.sv_super.proofs.Counts.{apart}
use Rattle.sv_super.proofs.FreeNumbers.{gathers-end, gathers-full, gathers-init, gathers-step, length-add}
use Rattle.sv_super.proofs.inodes.smallest_free.Goals as goal

pub loop-n-init : goal.loop-n-init
loop-n-init c = record {
  found = gathers-init c.args.used.now c.args.from c.new-found.ensures;
  fits = (let e = ap length c.new-found.ensures in omega (arith, e));
}

pub loop-n-preserved : goal.loop-n-preserved
loop-n-preserved c = record {
  found = gathers-step (is_free_inode c.args.used.now) c.loop-n.found.items c.loop-n.n (length c.args.used.now + 1) c.loop-n.invariant.found (omega (arith, c.loop-n-test.true)) (let ne = apart (length c.loop-n.found.items) 100 (sym c.is_full.ensures.value ∙ c.if-is_full.false) in omega (arith, ne, c.is_full.ensures.fits)) c.add_free.ensures;
  fits = (let e = length-add (is_free_inode c.args.used.now) c.loop-n.n c.loop-n.found.items c.add_free.ensures in let ne = apart (length c.loop-n.found.items) 100 (sym c.is_full.ensures.value ∙ c.if-is_full.false) in omega (arith, e, ne, c.is_full.ensures.fits));
}

pub returns-then-is_full : goal.returns-then-is_full
returns-then-is_full c = gathers-full (is_free_inode c.args.used.now) c.loop-n.found.items c.loop-n.n (length c.args.used.now + 1 - c.loop-n.n) c.loop-n.invariant.found (eqb-true (length c.loop-n.found.items) 100 (sym c.is_full.ensures.value ∙ c.if-is_full.true))

pub returns : goal.returns
returns c = gathers-end (is_free_inode c.args.used.now) c.loop-n.found.items c.loop-n.n (length c.args.used.now + 1 - c.loop-n.n) c.loop-n.invariant.found (omega (arith, c.loop-n-test.false))
