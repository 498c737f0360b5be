use Rattle.std.proofs.Common.{arith}
use Rattle.sv_session.proofs.CommandLines.{cat_words}
use Rattle.sv_session.proofs.words.read_cat.Goals as goal

pub returns-clause-some : goal.returns-clause-some
returns-clause-some c = (
  omega arith,
  cat_words _ c.command-item.result c.image-item.result c.inode-item.result c.in-len3.len_at_least c.in-len3.len_below
      c.command-item.is c.image-item.is c.inode-item.is _ _ _ _ c.as_str.ensures.value c.if-ne.ensures c.as_str-3.ensures.value c.as_str-2.ensures.value
      c.in_ok-inode.ensures.some,
)
