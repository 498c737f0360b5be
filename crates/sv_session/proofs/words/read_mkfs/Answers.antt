use Rattle.std.proofs.Common.{◌∙◌}
use Rattle.sv_session.proofs.CommandLines.{mkfs_texts, mkfs_words}
use Rattle.sv_session.proofs.words.read_mkfs.Goals as goal

pub returns-clause-some : goal.returns-clause-some
returns-clause-some c = (
  c.in_ok-blocks.ensures.some.2,
  mkfs_words _ c.command-item.result c.image-item.result c.blocks-item.result c.inodes-item.result c.in-len4.len_at_least c.in-len4.len_below
      c.command-item.is c.image-item.is c.blocks-item.is c.inodes-item.is _ _ _ _ c.as_str-2.ensures.value c.as_str-3.ensures.value
      c.in_ok-blocks.ensures.some.0 c.in_ok-blocks.ensures.some.1 _ _ c.as_str.ensures.value c.if-ne.ensures c.as_str-4.ensures.value,
)
