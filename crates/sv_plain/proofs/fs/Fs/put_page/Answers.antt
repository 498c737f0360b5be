use Rattle.std.proofs.Common.{◌≡◌, ◌/◌, ℕ, Bool, option_map, cond, Some, IsSome, is_ok, sym, ap, subst, ◌∙◌, arith}
use Rattle.std.specs.Ordering.{nat_cmp}
use Rattle.std.specs.Cmp.{nat_cmp_total}
use Rattle.std.specs.FinMap as map
use Rattle.std.specs.FinMap.{nat_cmp-IsAntisymmetric}
use Rattle.std.specs.FinSet as set
use Rattle.sv_form.specs.Pair.{pair_cmp}
use Rattle.sv_form.specs.Node.{Node, blocks_at, numbers_per}
use Rattle.sv_plain.specs.Blocks.{with_blocks}
use Rattle.sv_plain.specs.Fs.{Fs, with_page, with_page_of, changed}
use Rattle.sv_plain.specs.Keeping.{fs_of}
use Rattle.sv_plain.proofs.Undone.{insert-insert, insert-known}
use Rattle.sv_plain.proofs.Kept.{its_blocks, its_blocks-taken, kept-page_or_not, page-grown, page-added, there-twice, on_ok, on_err}
use Rattle.sv_plain.proofs.KeptUnlinked.{links-swap, page_or_not-links}
use Rattle.sv_plain.specs.Names.{links_of}
use Rattle.sv_plain.specs.Totals.{at_or_0}
use Rattle.sv_plain.proofs.fs.Fs.put_page.Goals as goal

pub overflow_sub-self : goal.overflow_sub-self
overflow_sub-self c =
    let grown = page-grown (is_ok c.add_page-outcome.result) (c.self.inside.block_size / 4) c.args.page c.swap-2.new.value in
    let after : c.len.result ≡ set.len (cond (is_ok c.add_page-outcome.result) (with_blocks c.swap-2.new.value (blocks_at (c.self.inside.block_size / 4) c.args.page)) c.swap-2.new.value) =
    c.len.ensures ∙ ap set.len c.add_page-outcome.ensures.blocks in
    omega (arith, grown.0, after, c.len-before.ensures)

pub overflow_add-self : goal.overflow_add-self
overflow_add-self c =
    let grown = page-grown (is_ok c.add_page-outcome.result) (c.self.inside.block_size / 4) c.args.page c.swap-2.new.value in
    let after : c.len.result ≡ set.len (cond (is_ok c.add_page-outcome.result) (with_blocks c.swap-2.new.value (blocks_at (c.self.inside.block_size / 4) c.args.page)) c.swap-2.new.value) =
    c.len.ensures ∙ ap set.len c.add_page-outcome.ensures.blocks in
    omega (arith, grown.1, after, c.len-before.ensures)

pub swap-requires-3 : goal.swap-requires-3
swap-requires-3 c =
    let nodes = c.self.inside.nodes in
    let key : ℕ = c.from-key.result in
    let its : c.new-node.result.links ≡ at_or_0 (λ (n : Node). n.links) (map.get nodes key) =
    ap (λ (n : Node). n.links) c.new-node.ensures ∙ c.links_of-links.ensures ∙ ap (λ (fs : Fs). links_of fs c.args.n) (sym c.self.view_is) ∙ ap (λ k. at_or_0 (λ (n : Node). n.links) (map.get nodes k)) (sym c.from-key.ensures) in
    subst (λ (m : map.FinMap nat_cmp Node). option_map (λ (n : Node). n.links) (map.get m key) ≡ Some c.add_page-outcome.new.self.links) (sym c.swap.ensures.put)
    (links-swap nodes key c.new-node.result c.swap.new.value c.add_page-outcome.new.self c.swap.ensures.taken its (ap (λ (n : Node). n.links) c.add_page-outcome.ensures.node ∙ page_or_not-links (is_ok c.add_page-outcome.result) c.args.page c.args.bytes c.swap.new.value))

pub swap-requires-4 : goal.swap-requires-4
swap-requires-4 c = subst (λ (m : map.FinMap nat_cmp (set.FinSet pair_cmp)). IsSome (map.get m c.from-key.result)) (sym c.swap-2.ensures.put) (there-twice c.self.inside.blocks c.from-key.result _)

pub invariant_of-self : goal.invariant_of-self
invariant_of-self c =
    let a = c.self.inside in
    let key : ℕ = c.from-key.result in
    let node : Node = c.swap.new.value in
    let there : map.get a.nodes key ≡ Some node = c.swap.ensures.taken in
    let mine : c.swap-2.new.value ≡ its_blocks a.block_size node = its_blocks-taken a key node c.swap-2.new.value there c.swap-2.ensures.taken c.self.invariant in
    let b : Bool = is_ok c.add_page-outcome.result in
    let per : ℕ = numbers_per a.block_size in
    let nodes : c.swap-3.new.self ≡ map.insert a.nodes key (cond b (with_page c.args.page c.args.bytes node) node) =
    c.swap-3.ensures.put ∙ (λ i. map.insert (c.swap.ensures.put i) key (c.add_page-outcome.ensures.node i)) ∙ insert-insert nat_cmp_total nat_cmp-IsAntisymmetric a.nodes key _ _ in
    let blocks : c.swap-4.new.self ≡ map.insert a.blocks key (cond b (with_blocks (its_blocks a.block_size node) (blocks_at per c.args.page)) (its_blocks a.block_size node)) =
    c.swap-4.ensures.put
    ∙ (λ i. map.insert (c.swap-2.ensures.put i) key (c.add_page-outcome.ensures.blocks i))
    ∙ insert-insert nat_cmp_total nat_cmp-IsAntisymmetric a.blocks key _ _
    ∙ ap (λ s. map.insert a.blocks key (cond b (with_blocks s (blocks_at per c.args.page)) s)) mine in
    let after : c.len.result ≡ set.len (cond b (with_blocks (its_blocks a.block_size node) (blocks_at per c.args.page)) (its_blocks a.block_size node)) =
    c.len.ensures ∙ ap set.len c.add_page-outcome.ensures.blocks ∙ ap (λ s. set.len (cond b (with_blocks s (blocks_at per c.args.page)) s)) mine in
    let before : c.len-before.result ≡ set.len (its_blocks a.block_size node) = c.len-before.ensures ∙ ap set.len mine in
    rw (nodes, blocks, after, before) (kept-page_or_not b a key c.args.page c.args.bytes node there c.self.invariant)

pub returns-clause-added : goal.returns-clause-added
returns-clause-added c =
    let a = c.self.inside in
    let key : ℕ = c.from-key.result in
    let node : Node = c.swap.new.value in
    let there : map.get a.nodes key ≡ Some node = c.swap.ensures.taken in
    let b : Bool = is_ok c.add_page-outcome.result in
    let per : ℕ = numbers_per a.block_size in
    let nodes : c.swap-3.new.self ≡ map.insert a.nodes key (cond b (with_page c.args.page c.args.bytes node) node) =
    c.swap-3.ensures.put ∙ (λ i. map.insert (c.swap.ensures.put i) key (c.add_page-outcome.ensures.node i)) ∙ insert-insert nat_cmp_total nat_cmp-IsAntisymmetric a.nodes key _ _ in
    on_ok c.add_page-outcome.result _
    (λ ok.
    ap (λ m. record (fs_of a) { nodes = m })
    (nodes ∙ ap (λ (o : Bool). map.insert a.nodes key (cond o (with_page c.args.page c.args.bytes node) node)) ok
    ∙ page-added a.nodes key c.args.page c.args.bytes node there
    ∙ ap (λ n. changed a.nodes n (with_page c.args.page c.args.bytes)) c.from-key.ensures)
    ∙ ap (λ (fs : Fs). with_page_of fs c.args.n c.args.page c.args.bytes) c.self.view_is)

pub returns-clause-refused : goal.returns-clause-refused
returns-clause-refused c =
    let a = c.self.inside in
    let key : ℕ = c.from-key.result in
    let node : Node = c.swap.new.value in
    let there : map.get a.nodes key ≡ Some node = c.swap.ensures.taken in
    let b : Bool = is_ok c.add_page-outcome.result in
    let per : ℕ = numbers_per a.block_size in
    let nodes : c.swap-3.new.self ≡ map.insert a.nodes key (cond b (with_page c.args.page c.args.bytes node) node) =
    c.swap-3.ensures.put ∙ (λ i. map.insert (c.swap.ensures.put i) key (c.add_page-outcome.ensures.node i)) ∙ insert-insert nat_cmp_total nat_cmp-IsAntisymmetric a.nodes key _ _ in
    on_err c.add_page-outcome.result _
    (λ failed.
    ap (λ m. record (fs_of a) { nodes = m })
    (nodes ∙ ap (λ (o : Bool). map.insert a.nodes key (cond o (with_page c.args.page c.args.bytes node) node)) failed
    ∙ insert-known nat_cmp_total nat_cmp-IsAntisymmetric a.nodes key node there)
    ∙ c.self.view_is)
