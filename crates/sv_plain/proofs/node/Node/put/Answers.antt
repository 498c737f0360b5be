use Rattle.std.proofs.Common.{◌≡◌, ◌≢◌, ◌+◌, ◌-◌, ◌/◌, ℕ, List, length, max, IsSome, sym, ap, subst, ◌∙◌, arith}
use Rattle.std.proofs.lemmas.Bool.{eqb-true, eqb-false}
use Rattle.std.proofs.lemmas.List.FromFn.{length-map-range_with_len}
use Rattle.std.specs.List.{range_with_len}
use Rattle.std.specs.FinMap as fmap
use Rattle.sv_form.specs.Node.{Node, block_set, numbers_per}
use Rattle.sv_form.specs.NodeChanges.{page_after, put}
use Rattle.sv_plain.proofs.WrittenPages.{all_present-there, range-lists, range-few, put-by, put-none, blocks-by}
use Rattle.sv_plain.proofs.node.Node.put.Goals as goal

pub returns-then-is_empty-clause-written : goal.returns-then-is_empty-clause-written
returns-then-is_empty-clause-written c = put-none c.args.block c.args.at c.args.self.now c.args.bytes.now (eqb-true (length c.args.bytes.now) 0 (sym c.if-is_empty.ensures))

pub replace_pages-requires-clause-fits : goal.replace_pages-requires-clause-fits
replace_pages-requires-clause-fits c =
    let old : Node = c.args.self.now in
    let bytes : List ℕ = c.args.bytes.now in
    let first : ℕ = c.args.at / c.args.block in
    let count : ℕ = (c.args.at + length bytes - 1) / c.args.block - c.args.at / c.args.block + 1 in
    let long : length bytes ≢ 0 = eqb-false (length bytes) 0 (sym c.if-is_empty.ensures) in
    let few = range-few c.args.block c.args.at old bytes (omega arith) long in
    let items : length c.in_ok-after.after.items ≡ count = ap length c.in_ok-after.ensures ∙ length-map-range_with_len (page_after c.args.block old c.args.at bytes) first count in
    omega (arith, few, items)

pub replace_pages-requires-clause-there : goal.replace_pages-requires-clause-there
replace_pages-requires-clause-there c = λ k h.
    let old : Node = c.args.self.now in
    let bytes : List ℕ = c.args.bytes.now in
    let first : ℕ = c.args.at / c.args.block in
    let count : ℕ = (c.args.at + length bytes - 1) / c.args.block - c.args.at / c.args.block + 1 in
    let items : length c.in_ok-after.after.items ≡ count = ap length c.in_ok-after.ensures ∙ length-map-range_with_len (page_after c.args.block old c.args.at bytes) first count in
    subst (λ (n : Node). IsSome (fmap.get n.pages (first + k))) (sym c.in_ok-make_present.ensures.put)
    (all_present-there old.pages (range_with_len first count) (first + k) (range-lists first count k (omega (arith, h, items))))

pub returns-clause-written : goal.returns-clause-written
returns-clause-written c =
    let old : Node = c.args.self.now in
    let bytes : List ℕ = c.args.bytes.now in
    let long : length bytes ≢ 0 = eqb-false (length bytes) 0 (sym c.if-is_empty.ensures) in
    (λ i. record (c.self.view_is i) { size = (c.max-self-inside.ensures ∙ ap (λ (n : Node). max n.size (c.args.at + length bytes)) c.self.view_is) i })
    ∙ put-by c.args.block c.args.at old bytes (omega arith) long c.make_present.new.self c.replace_pages.new.self c.in_ok-after.after.items c.in_ok-make_present.ensures.put c.replace_pages.ensures c.in_ok-after.ensures

pub returns-clause-mine : goal.returns-clause-mine
returns-clause-mine c =
    let old : Node = c.args.self.now in
    let bytes : List ℕ = c.args.bytes.now in
    let long : length bytes ≢ 0 = eqb-false (length bytes) 0 (sym c.if-is_empty.ensures) in
    let written =
    put-by c.args.block c.args.at old bytes (omega arith) long c.make_present.new.self c.replace_pages.new.self c.in_ok-after.after.items c.in_ok-make_present.ensures.put c.replace_pages.ensures c.in_ok-after.ensures in
    blocks-by c.args.block c.args.at old bytes (omega arith) long (numbers_per c.args.block) c.make_present.new.self c.make_present.new.blocks c.in_ok-make_present.ensures.put c.in_ok-make_present.ensures.mine
    ∙ sym (ap (λ (n : Node). block_set (numbers_per c.args.block) (fmap.keys n.pages)) written)
    ∙ sym (ap (λ (n : Node). block_set (numbers_per c.args.block) (fmap.keys n.pages)) c.self.view_is)
