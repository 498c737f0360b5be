use Rattle.sv_session.proofs.CommandLines.{check_words}
use Rattle.sv_session.proofs.words.read_check.Goals as goal

pub returns-clause-some : goal.returns-clause-some
returns-clause-some c =
    check_words _ c.command-item.result c.image-item.result c.in-len2.len_at_least c.in-len2.len_below c.command-item.is c.image-item.is _ _ c.as_str.ensures.value c.if-ne.ensures
    c.as_str-2.ensures.value
