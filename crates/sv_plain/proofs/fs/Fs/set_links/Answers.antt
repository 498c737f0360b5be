use Rattle.std.proofs.Common.{◌≡◌, ℕ, IsSome, Some, ap, sym, subst, ◌∙◌}
use Rattle.std.specs.FinMap as map
use Rattle.sv_form.specs.Node.{Node}
use Rattle.sv_plain.specs.Fs.{Fs, changed}
use Rattle.sv_plain.specs.Change.{with_links}
use Rattle.sv_plain.proofs.Kept.{some_of}
use Rattle.sv_plain.proofs.KeptNodes.{kept-same_pages, changed-there}
use Rattle.sv_plain.proofs.fs.Fs.set_links.Goals as goal

pub invariant_of-self-2 : goal.invariant_of-self-2
invariant_of-self-2 c =
    let a = c.self.inside in
    let key : ℕ = c.from.result in
    let there : IsSome (map.get a.nodes key) =
    subst (λ (k : ℕ). IsSome (map.get a.nodes k)) (sym c.from.ensures) (subst (λ (fs : Fs). IsSome (map.get fs.nodes c.args.i)) (sym c.self.view_is) c.requires) in
    let node = some_of (map.get a.nodes key) there in
    let other : Node = record node.0 { links = c.args.links } in
    let nodes : c.set_links.new.self ≡ map.insert a.nodes key other = c.in_ok-set_links.ensures.put ∙ sym (changed-there a.nodes key (with_links (λ _. c.args.links)) node.0 node.1) in
    rw nodes (kept-same_pages a key node.0 other node.1 (λ _. node.0.pages) c.self.invariant)
