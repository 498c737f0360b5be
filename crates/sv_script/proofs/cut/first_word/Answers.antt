use Rattle.sv_script.proofs.Words.{first_word_cut}
use Rattle.sv_script.proofs.cut.first_word.Goals as goal

pub returns : goal.returns
returns c = first_word_cut c.args.line.now c.split_at.result.0.now c.split_at.result.1.now c.bytes_before.result c.requires c.bytes_before.ensures.within c.bytes_before.ensures.before c.bytes_before.ensures.stop c.split_at.ensures.front c.split_at.ensures.back
