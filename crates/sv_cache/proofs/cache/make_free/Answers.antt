use Rattle.std.proofs.Common.{◌≡◌, ℕ, zero, suc, List, [], ◌∷◌, ◌++◌, ap, ◌∙◌, sym, refl, arith, set}
use Rattle.std.specs.List.{range_with_len}
use Rattle.sv_links.specs.Arrangement.{Arrangement, list_at, times}
use Rattle.sv_links.proofs.Walk.{times-range_past, range-push}
use Rattle.sv_cache.proofs.cache.make_free.Goals as goal

absent : (n k l : ℕ) → times k (list_at (record { numbers = n; lists = range_with_len 0 k ∷ [] }) l) ≡ 0
absent n k zero = times-range_past k 0 k (omega arith)
absent n k (suc l) = refl

pub push_tail-requires-clause-on_none : goal.push_tail-requires-clause-on_none
push_tail-requires-clause-on_none c = λ l. ap (λ f. times c.loop-buffer.buffer (list_at f l)) c.loop-buffer.invariant ∙ absent c.args.buffers c.loop-buffer.buffer l

pub loop-buffer-preserved : goal.loop-buffer-preserved
loop-buffer-preserved c =
    c.push_tail.ensures.pushed
    ∙ ap (λ (f : Arrangement). record f { lists = set f.lists 0 (list_at f 0 ++ c.loop-buffer.buffer ∷ []) }) c.loop-buffer.invariant
    ∙ ap (λ (ys : List ℕ). record { numbers = c.args.buffers; lists = ys ∷ [] }) (ap (λ b. range_with_len 0 c.loop-buffer.buffer ++ b ∷ []) (omega arith) ∙ sym (range-push 0 c.loop-buffer.buffer))
