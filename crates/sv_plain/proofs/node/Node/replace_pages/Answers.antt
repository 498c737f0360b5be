use Rattle.std.proofs.Common.{◌≡◌, ◌+◌, ◌∷◌, [], ◌++◌, ℕ, List, length, IsSome, sym, ap, subst, ◌∙◌, arith}
use Rattle.std.proofs.lemmas.List.{length_push}
use Rattle.std.specs.FinMap as fmap
use Rattle.sv_form.specs.Node.{Node}
use Rattle.sv_plain.specs.Written.{Pages, with_pages_from}
use Rattle.sv_plain.proofs.WrittenPages.{with_pages_from-snoc, still-there}
use Rattle.sv_plain.proofs.node.Node.replace_pages.Goals as goal

pub loop-bytes-preserved : goal.loop-bytes-preserved
loop-bytes-preserved c =
    let first : ℕ = c.args.first in
    let rest : List (List ℕ) = c.pop.new.self.items in
    let bytes : List ℕ = c.in-Some.bytes in
    let old : Node = c.loop-bytes.self in
    let items : c.loop-bytes.pages.items ≡ rest ++ bytes ∷ [] = c.in-Some.ensures.items in
    let at : first + c.len.result ≡ first + length rest = omega (arith, c.len.ensures, c.pop.new.self.ok.0) in
    let more : length c.loop-bytes.pages.items ≡ length rest + 1 = ap length items ∙ length_push rest bytes in
    record {
      node = (λ i. record (c.replace_page.ensures i) { pages = with_pages_from (c.replace_page.ensures i).pages first rest })
          ∙ ap (λ (m : Pages). record old { pages = m })
          (ap (λ n. with_pages_from (fmap.insert old.pages n bytes) first rest) at
          ∙ sym (with_pages_from-snoc old.pages first rest bytes)
          ∙ ap (with_pages_from old.pages first) (sym items))
          ∙ c.loop-bytes.invariant.node;
      there = λ k h. subst (λ (n : Node). IsSome (fmap.get n.pages (first + k))) (sym c.replace_page.ensures)
          (still-there old.pages (first + c.len.result) bytes (first + k) (c.loop-bytes.invariant.there k (omega (arith, h, more))));
      fits = omega (arith, more, c.loop-bytes.invariant.fits);
    }
