use Rattle.std.proofs.Common.{◌≡◌, ◌∙◌, ◌*◌, ◌++◌, ◌∷◌, [], sym, ap, arith, nat_le, ℕ}
use Rattle.sv_check.proofs.WalkSteps.{walks_new, walks_bad, progress_new, or_same}
use Rattle.sv_check.proofs.walk.Walk.walk_page.Goals as goal

pub returns-then-not-take-clause-walks : goal.returns-then-not-take-clause-walks
returns-then-not-take-clause-walks g c =
    walks_bad _ (g.D.Disk.content c.args.disk.now) _ c.args.size _ (record { height = 0; page = c.args.page; block = c.args.b }) _ _ (sym c.if-not-take.ensures.result)
    c.if-not-take.ensures.bad

pub returns-clause-walks : goal.returns-clause-walks
returns-clause-walks g c =
    let start : c.from.result * c.from-2.result ≡ c.args.page * c.args.sizes.now.block_size =
    ap (λ (x : ℕ). x * c.from-2.result) c.from.ensures ∙ ap (λ (x : ℕ). c.args.page * x) c.from-2.ensures in
    let past : nat_le c.from-3.result (c.from.result * c.from-2.result) ≡ nat_le c.args.size (c.args.page * c.args.sizes.now.block_size) =
    ap (λ (x : ℕ). nat_le x (c.from.result * c.from-2.result)) c.from-3.ensures ∙ ap (nat_le c.args.size) start in
    walks_new _ (g.D.Disk.content c.args.disk.now) _ c.args.size _ _ (record { height = 0; page = c.args.page; block = c.args.b }) c.requires.number (sym c.if-not-take.ensures.result)
    (progress_new c.args.self.now c.add_page.new.self _ _ (nat_le c.args.size (c.args.page * c.args.sizes.now.block_size)) _
    _ (omega (arith, c.if-not-take.ensures.in_range, c.requires.owners)) (ap (λ v. v.items) (c.in_ok-add_page.ensures.owner ∙ c.note.ensures.owner) ∙ c.if-not-take.ensures.owner)
    (or_same _ _ _ _ _ (c.in_ok-add_page.ensures.past ∙ c.note.ensures.past) c.take.ensures.past past)
    (or_same _ _ _ _ _ (c.in_ok-add_page.ensures.tail ∙ c.note.ensures.tail) c.take.ensures.tail c.in_ok-tail.ensures.tail)
    (c.in_ok-add_page.ensures.pages ∙ ap (λ v. v.items ++ record { page = c.args.page; block = c.args.b } ∷ []) (c.note.ensures.pages ∙ c.take.ensures.pages)))
