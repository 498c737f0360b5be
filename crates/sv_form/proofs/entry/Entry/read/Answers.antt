use Rattle.std.proofs.Common.{◌∙◌, sym}
use Rattle.std.proofs.lemmas.Bool.{false≢true}
use Rattle.sv_form.proofs.EntryLemmas.{zero_field, empty_zeros}
use Rattle.sv_form.proofs.entry.Entry.read.Goals as goal

pub returns-then-is_zero-clause-some : goal.returns-then-is_zero-clause-some
returns-then-is_zero-clause-some c = record {
  len = c.requires;
  inode = sym c.number16-inode.ensures;
  name = zero_field c.args.from.now c.requires (c.is_zero.ensures.0 c.if-is_zero.true);
  spelled = c.if-inode-eq0.true;
}

pub returns-else-is_zero-clause-none : goal.returns-else-is_zero-clause-none
returns-else-is_zero-clause-none c = λ e spells.
    false≢true (sym c.if-is_zero.false ∙ c.is_zero.ensures.1 (empty_zeros c.args.from.now e spells (sym c.number16-inode.ensures ∙ c.if-inode-eq0.true)))
