use Rattle.std.proofs.Common.{◌≡◌, ℕ, option_map, Some, ap, sym, subst, ◌∙◌, arith}
use Rattle.std.specs.Ordering.{nat_cmp}
use Rattle.std.specs.Cmp.{nat_cmp_total}
use Rattle.std.specs.FinMap as map
use Rattle.std.specs.FinMap.{nat_cmp-IsAntisymmetric}
use Rattle.std.specs.FinSet as set
use Rattle.sv_form.specs.Node.{Node}
use Rattle.sv_plain.specs.Totals.{at_or_0}
use Rattle.sv_plain.specs.Fs.{Fs, changed}
use Rattle.sv_form.specs.NodeChanges.{emptied}
use Rattle.sv_plain.specs.Keeping.{fs_of}
use Rattle.sv_plain.proofs.Undone.{insert-insert}
use Rattle.sv_plain.proofs.KeptNodes.{used-within, kept-emptied, changed-there}
use Rattle.sv_plain.proofs.KeptUnlinked.{links-swap}
use Rattle.sv_plain.specs.Names.{links_of}
use Rattle.sv_plain.proofs.fs.Fs.empty_node.Goals as goal

pub overflow_sub-self : goal.overflow_sub-self
overflow_sub-self c =
    let gone : c.len.result ≡ at_or_0 set.len (map.get c.self.inside.blocks c.from-key.result) = c.len.ensures ∙ sym (ap (at_or_0 set.len) c.swap-2.ensures.taken) in
    omega (arith, gone, used-within c.self.inside c.from-key.result c.self.invariant)

pub swap-requires-3 : goal.swap-requires-3
swap-requires-3 c =
    let nodes = c.self.inside.nodes in
    let key : ℕ = c.from-key.result in
    let its : c.new-node.result.links ≡ at_or_0 (λ (n : Node). n.links) (map.get nodes key) =
    ap (λ (n : Node). n.links) c.new-node.ensures ∙ c.links_of-links.ensures ∙ ap (λ (fs : Fs). links_of fs c.args.i) (sym c.self.view_is) ∙ ap (λ k. at_or_0 (λ (n : Node). n.links) (map.get nodes k)) (sym c.from-key.ensures) in
    subst (λ (m : map.FinMap nat_cmp Node). option_map (λ (n : Node). n.links) (map.get m key) ≡ Some c.new-empty.result.links) (sym c.swap.ensures.put)
    (links-swap nodes key c.new-node.result c.swap.new.value c.new-empty.result c.swap.ensures.taken its (ap (λ (n : Node). n.links) (c.new-empty.ensures ∙ ap emptied c.node.view_is)))

pub invariant_of-self : goal.invariant_of-self
invariant_of-self c =
    let a = c.self.inside in
    let other : Node = emptied c.swap.new.value in
    let gone : c.len.result ≡ at_or_0 set.len (map.get a.blocks c.from-key.result) = c.len.ensures ∙ sym (ap (at_or_0 set.len) c.swap-2.ensures.taken) in
    let is : c.new-empty.result ≡ other = c.new-empty.ensures ∙ ap emptied c.node.view_is in
    let nodes : c.swap-3.new.self ≡ map.insert a.nodes c.from-key.result other =
    c.swap-3.ensures.put ∙ (λ i. map.insert (c.swap.ensures.put i) c.from-key.result (is i)) ∙ insert-insert nat_cmp_total nat_cmp-IsAntisymmetric a.nodes c.from-key.result _ _ in
    rw (nodes, c.swap-2.ensures.put, c.new-blocks.ensures, gone) (kept-emptied a c.from-key.result other (λ _. map.empty) c.self.invariant)

pub returns : goal.returns
returns c =
    let a = c.self.inside in
    let node : Node = c.swap.new.value in
    let is : c.new-empty.result ≡ emptied node = c.new-empty.ensures ∙ ap emptied c.node.view_is in
    let nodes : c.swap-3.new.self ≡ map.insert a.nodes c.from-key.result (emptied node) =
    c.swap-3.ensures.put ∙ (λ i. map.insert (c.swap.ensures.put i) c.from-key.result (is i)) ∙ insert-insert nat_cmp_total nat_cmp-IsAntisymmetric a.nodes c.from-key.result _ _ in
    ap (λ m. record (fs_of a) { nodes = m })
    (nodes ∙ changed-there a.nodes c.from-key.result emptied node c.swap.ensures.taken ∙ ap (λ n. changed a.nodes n emptied) c.from-key.ensures)
    ∙ ap (λ (fs : Fs). record fs { nodes = changed fs.nodes c.args.i emptied }) c.self.view_is
