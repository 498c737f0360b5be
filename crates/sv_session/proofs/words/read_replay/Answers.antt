use Rattle.sv_session.proofs.CommandLines.{replay_words}
use Rattle.sv_session.proofs.words.read_replay.Goals as goal

pub returns-clause-some : goal.returns-clause-some
returns-clause-some c =
    replay_words _ c.command-item.result c.image-item.result c.journal-item.result c.in-len3.len_at_least c.in-len3.len_below c.command-item.is c.image-item.is c.journal-item.is _ _ _
    c.as_str.ensures.value c.if-ne.ensures c.as_str-2.ensures.value c.as_str-3.ensures.value
