use Rattle.std.proofs.Common.{◌≡◌, ◌+◌, ℕ, List, length, Some, IsSome, option_map, ap, sym, subst, ◌∙◌}
use Rattle.std.specs.Ordering.{nat_cmp}
use Rattle.std.specs.Cmp.{nat_cmp_total}
use Rattle.std.specs.FinMap as map
use Rattle.std.specs.FinMap.{nat_cmp-IsAntisymmetric}
use Rattle.std.specs.FinSet as set
use Rattle.sv_form.specs.Pair.{pair_cmp}
use Rattle.sv_form.specs.Node.{Node, block_set, numbers_per}
use Rattle.sv_plain.specs.Totals.{at_or_0}
use Rattle.sv_plain.specs.Fs.{Fs, changed}
use Rattle.sv_plain.specs.Needs.{range_need}
use Rattle.sv_form.specs.NodeChanges.{put}
use Rattle.sv_plain.specs.Keeping.{fs_of}
use Rattle.sv_plain.proofs.Undone.{insert-insert, insert-known}
use Rattle.sv_plain.proofs.Kept.{its_blocks, its_blocks-taken, there-twice}
use Rattle.sv_plain.proofs.KeptNodes.{changed-there}
use Rattle.sv_plain.proofs.KeptWrites.{kept-put}
use Rattle.sv_plain.specs.Names.{links_of}
use Rattle.sv_plain.proofs.KeptUnlinked.{links-swap, put-links}
use Rattle.sv_plain.proofs.fs.Fs.put_bytes.Goals as goal

pub swap-requires-in_default-put : goal.swap-requires-in_default-put
swap-requires-in_default-put c =
    let nodes = c.self.inside.nodes in
    let key : ℕ = c.from-key.result in
    let its : c.new-node.result.links ≡ at_or_0 (λ (n : Node). n.links) (map.get nodes key) =
    ap (λ (n : Node). n.links) c.new-node.ensures ∙ c.links_of-links.ensures ∙ ap (λ (fs : Fs). links_of fs c.args.i) (sym c.self.view_is) ∙ ap (λ k. at_or_0 (λ (n : Node). n.links) (map.get nodes k)) (sym c.from-key.ensures) in
    subst (λ (m : map.FinMap nat_cmp Node). option_map (λ (n : Node). n.links) (map.get m key) ≡ Some c.put.new.self.links) (sym c.swap.ensures.put)
    (links-swap nodes key c.new-node.result c.swap.new.value c.put.new.self c.swap.ensures.taken its (ap (λ (n : Node). n.links) c.in_default-put.ensures.refused))

pub swap-requires-in_default-put-2 : goal.swap-requires-in_default-put-2
swap-requires-in_default-put-2 c = subst (λ (m : map.FinMap nat_cmp (set.FinSet pair_cmp)). IsSome (map.get m c.from-key.result)) (sym c.swap-2.ensures.put) (there-twice c.self.inside.blocks c.from-key.result _)

pub swap-requires-3 : goal.swap-requires-3
swap-requires-3 c =
    let nodes = c.self.inside.nodes in
    let key : ℕ = c.from-key.result in
    let its : c.new-node.result.links ≡ at_or_0 (λ (n : Node). n.links) (map.get nodes key) =
    ap (λ (n : Node). n.links) c.new-node.ensures ∙ c.links_of-links.ensures ∙ ap (λ (fs : Fs). links_of fs c.args.i) (sym c.self.view_is) ∙ ap (λ k. at_or_0 (λ (n : Node). n.links) (map.get nodes k)) (sym c.from-key.ensures) in
    subst (λ (m : map.FinMap nat_cmp Node). option_map (λ (n : Node). n.links) (map.get m key) ≡ Some c.put.new.self.links) (sym c.swap.ensures.put)
    (links-swap nodes key c.new-node.result c.swap.new.value c.put.new.self c.swap.ensures.taken its (ap (λ (n : Node). n.links) c.in-Ok.ensures.written ∙ put-links c.self.inside.block_size c.swap.new.value c.args.at c.args.bytes.now))

pub swap-requires-4 : goal.swap-requires-4
swap-requires-4 c = subst (λ (m : map.FinMap nat_cmp (set.FinSet pair_cmp)). IsSome (map.get m c.from-key.result)) (sym c.swap-2.ensures.put) (there-twice c.self.inside.blocks c.from-key.result _)

pub invariant_of-self : goal.invariant_of-self
invariant_of-self c =
    let a = c.self.inside in
    let key : ℕ = c.from-key.result in
    let node : Node = c.swap.new.value in
    let there : map.get a.nodes key ≡ Some node = c.swap.ensures.taken in
    let mine : c.swap-2.new.value ≡ its_blocks a.block_size node = its_blocks-taken a key node c.swap-2.new.value there c.swap-2.ensures.taken c.self.invariant in
    let nodes : c.swap-in_default-put.new.self ≡ a.nodes =
    c.swap-in_default-put.ensures.put
    ∙ (λ i. map.insert (c.swap.ensures.put i) key (c.in_default-put.ensures.refused i))
    ∙ insert-insert nat_cmp_total nat_cmp-IsAntisymmetric a.nodes key _ _
    ∙ insert-known nat_cmp_total nat_cmp-IsAntisymmetric a.nodes key node there in
    let same : c.put.new.blocks ≡ c.swap-2.new.value =
    c.in_default-put.ensures.mine ∙ ap (λ (n : Node). block_set (numbers_per a.block_size) (map.keys n.pages)) c.in_default-put.ensures.refused ∙ sym mine in
    let blocks : c.swap-in_default-put-2.new.self ≡ a.blocks =
    c.swap-in_default-put-2.ensures.put
    ∙ (λ i. map.insert (c.swap-2.ensures.put i) key (same i))
    ∙ insert-insert nat_cmp_total nat_cmp-IsAntisymmetric a.blocks key _ _
    ∙ insert-known nat_cmp_total nat_cmp-IsAntisymmetric a.blocks key c.swap-2.new.value c.swap-2.ensures.taken in
    rw (nodes, blocks) c.self.invariant

pub returns-in_default-put-clause-refused : goal.returns-in_default-put-clause-refused
returns-in_default-put-clause-refused c =
    let a = c.self.inside in
    let key : ℕ = c.from-key.result in
    let node : Node = c.swap.new.value in
    let nodes : c.swap-in_default-put.new.self ≡ a.nodes =
    c.swap-in_default-put.ensures.put
    ∙ (λ i. map.insert (c.swap.ensures.put i) key (c.in_default-put.ensures.refused i))
    ∙ insert-insert nat_cmp_total nat_cmp-IsAntisymmetric a.nodes key _ _
    ∙ insert-known nat_cmp_total nat_cmp-IsAntisymmetric a.nodes key node c.swap.ensures.taken in
    ap (λ m. record (fs_of a) { nodes = m }) nodes ∙ c.self.view_is

pub invariant_of-self-2 : goal.invariant_of-self-2
invariant_of-self-2 c =
    let a = c.self.inside in
    let key : ℕ = c.from-key.result in
    let node : Node = c.swap.new.value in
    let bytes : List ℕ = c.args.bytes.now in
    let after : Node = put a.block_size node c.args.at bytes in
    let there : map.get a.nodes key ≡ Some node = c.swap.ensures.taken in
    let nodes : c.swap-3.new.self ≡ map.insert a.nodes key after =
    c.swap-3.ensures.put ∙ (λ i. map.insert (c.swap.ensures.put i) key (c.in-Ok.ensures.written i)) ∙ insert-insert nat_cmp_total nat_cmp-IsAntisymmetric a.nodes key _ _ in
    let mine : c.put.new.blocks ≡ its_blocks a.block_size after =
    c.in-Ok.ensures.mine ∙ ap (λ (n : Node). block_set (numbers_per a.block_size) (map.keys n.pages)) c.in-Ok.ensures.written in
    let blocks : c.swap-4.new.self ≡ map.insert a.blocks key (its_blocks a.block_size after) =
    c.swap-4.ensures.put ∙ (λ i. map.insert (c.swap-2.ensures.put i) key (mine i)) ∙ insert-insert nat_cmp_total nat_cmp-IsAntisymmetric a.blocks key _ _ in
    let need : c.from.result ≡ range_need a.block_size node c.args.at (length bytes) =
    c.from.ensures
    ∙ c.requires.need
    ∙ sym (ap (λ (fs : Fs). at_or_0 (λ n. range_need fs.block n c.args.at (length bytes)) (map.get fs.nodes c.args.i)) c.self.view_is)
    ∙ sym (ap (λ k. at_or_0 (λ n. range_need a.block_size n c.args.at (length bytes)) (map.get a.nodes k)) c.from-key.ensures)
    ∙ ap (at_or_0 (λ n. range_need a.block_size n c.args.at (length bytes))) there in
    let used : c.in-Some.used ≡ a.used + range_need a.block_size node c.args.at (length bytes) = c.in-Some.ensures.1 ∙ ap (λ n. a.used + n) need in
    rw (nodes, blocks, used) (kept-put a key c.args.at bytes node there c.self.invariant)

pub returns-clause-written : goal.returns-clause-written
returns-clause-written c =
    let a = c.self.inside in
    let key : ℕ = c.from-key.result in
    let node : Node = c.swap.new.value in
    let bytes : List ℕ = c.args.bytes.now in
    let there : map.get a.nodes key ≡ Some node = c.swap.ensures.taken in
    let nodes : c.swap-3.new.self ≡ map.insert a.nodes key (put a.block_size node c.args.at bytes) =
    c.swap-3.ensures.put ∙ (λ i. map.insert (c.swap.ensures.put i) key (c.in-Ok.ensures.written i)) ∙ insert-insert nat_cmp_total nat_cmp-IsAntisymmetric a.nodes key _ _ in
    ap (λ m. record (fs_of a) { nodes = m })
    (nodes
    ∙ changed-there a.nodes key (λ n. put a.block_size n c.args.at bytes) node there
    ∙ ap (λ k. changed a.nodes k (λ n. put a.block_size n c.args.at bytes)) c.from-key.ensures)
    ∙ ap (λ (fs : Fs). record fs { nodes = changed fs.nodes c.args.i (λ n. put fs.block n c.args.at bytes) }) c.self.view_is
