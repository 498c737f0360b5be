use Rattle.std.proofs.Common.{arith, rules}
use Rattle.std.proofs.lemmas.Map.Text.{text_keys}
use Rattle.sv_dev.proofs.mem_host.MemHost.put_content.Goals as goal

pub returns-clause-others : goal.returns-clause-others
returns-clause-others c = λ other differs.
    let changed = (c.get_mut.follows.holds (record { content = c.args.content; fails = c.in-Some.image.now.fails })).3 (search rules) in
    record { image = grind (arith, text_keys, changed); fails = grind (arith, text_keys, changed) }

pub returns-in_default-clause-others : goal.returns-in_default-clause-others
returns-in_default-clause-others c = λ other differs. record { image = grind (arith, text_keys); fails = grind (arith, text_keys) }
