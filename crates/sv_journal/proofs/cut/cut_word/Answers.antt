use Rattle.std.proofs.Common.{◌∙◌, ℕ, ap, take, drop}
use Rattle.sv_journal.specs.Cut.{first_word}
use Rattle.sv_journal.proofs.cut.cut_word.Goals as goal

pub returns : goal.returns
unfolding first_word
returns c =
    let front = c.split_at.ensures.front ∙ ap (λ (n : ℕ). take n c.args.text.now) c.word_len.ensures.value in
    let back = c.split_at.ensures.back ∙ ap (λ (n : ℕ). drop n c.args.text.now) c.word_len.ensures.value in
    λ i. (front i, back i)
