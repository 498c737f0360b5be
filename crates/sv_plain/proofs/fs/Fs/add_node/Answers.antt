use Rattle.std.proofs.Common.{◌≡◌, None, ap, ◌∙◌}
use Rattle.std.specs.FinMap as map
use Rattle.std.specs.FinSet as set
use Rattle.sv_plain.specs.Fs.{Fs, node_without_pages}
use Rattle.sv_plain.specs.Keeping.{fs_of}
use Rattle.sv_plain.proofs.Kept.{kept-add_node, kept-undone}
use Rattle.sv_plain.proofs.fs.Fs.add_node.Goals as goal

pub invariant_of-self-in-Ok : goal.invariant_of-self-in-Ok
invariant_of-self-in-Ok c =
    let a = c.self.inside in
    let absent : map.get a.nodes c.args.n ≡ None = ap (λ (fs : Fs). map.get fs.nodes c.args.n) c.self.view_is ∙ c.requires.absent in
    let nodes : c.insert.new.self ≡ map.insert a.nodes c.args.n (node_without_pages c.args.kind c.args.mode c.args.links c.args.size) =
    c.in_ok-insert.ensures.put ∙ (λ i. map.insert a.nodes (c.from-key.ensures i) (c.made.ensures i)) in
    let blocks : c.insert-2.new.self ≡ map.insert a.blocks c.args.n set.empty =
    c.in-Ok.ensures.put ∙ (λ i. map.insert a.blocks (c.from-key.ensures i) (c.new.ensures i)) in
    rw (nodes, blocks) (kept-add_node a c.args.n c.args.kind c.args.mode c.args.links c.args.size absent c.self.invariant)

pub invariant_of-self-in_default : goal.invariant_of-self-in_default
invariant_of-self-in_default c =
    let a = c.self.inside in
    let absent : map.get a.nodes c.args.n ≡ None = ap (λ (fs : Fs). map.get fs.nodes c.args.n) c.self.view_is ∙ c.requires.absent in
    let key : c.from-key.result ≡ c.args.n = c.from-key.ensures in
    let nodes : c.remove.new.self ≡ a.nodes =
    c.remove.ensures ∙ (λ i. map.remove (c.in_ok-insert.ensures.put i) c.from-key.result) ∙ kept-undone a c.from-key.result c.made.result (ap (map.get a.nodes) key ∙ absent) in
    rw (nodes, c.in_default.ensures.refused) c.self.invariant

pub returns-in_default-clause-refused : goal.returns-in_default-clause-refused
returns-in_default-clause-refused c =
    let a = c.self.inside in
    let absent : map.get a.nodes c.args.n ≡ None = ap (λ (fs : Fs). map.get fs.nodes c.args.n) c.self.view_is ∙ c.requires.absent in
    let key : c.from-key.result ≡ c.args.n = c.from-key.ensures in
    let nodes : c.remove.new.self ≡ a.nodes =
    c.remove.ensures ∙ (λ i. map.remove (c.in_ok-insert.ensures.put i) c.from-key.result) ∙ kept-undone a c.from-key.result c.made.result (ap (map.get a.nodes) key ∙ absent) in
    ap (λ nodes. record (fs_of a) { nodes = nodes }) nodes ∙ c.self.view_is
