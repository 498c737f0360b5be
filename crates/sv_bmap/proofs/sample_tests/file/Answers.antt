-- The content is that of the file made by hand.
use Rattle.std.proofs.Common.{ap, ◌∙◌, length, sym}
use Rattle.std.proofs.lemmas.List.{length-map}
use Rattle.sv_store.specs.Held.{of_content}
use Rattle.sv_bmap.proofs.Needs.{tree-after}
use Rattle.sv_bmap.proofs.Sample.{each-length, length-samples, sample-tree, sizes}
use Rattle.sv_bmap.proofs.sample_tests.file.Goals as goal

pub new-requires-clause-blocks : goal.new-requires-clause-blocks
new-requires-clause-blocks c = sym (length-map c.in_ok-content.content.items (λ bytes. bytes.items))
    ∙ (ap length c.in_ok-content.ensures ∙ length-samples)

pub new-requires-clause-bytes : goal.new-requires-clause-bytes
new-requires-clause-bytes c = each-length c.in_ok-content.content.items c.in_ok-content.ensures
    (sym (length-map c.in_ok-content.content.items (λ bytes. bytes.items)) ∙ (ap length c.in_ok-content.ensures ∙ length-samples))

pub returns-clause-tree : goal.returns-clause-tree
returns-clause-tree c = tree-after c.in_ok-stake.ensures.origin
    (c.in_ok-stake.ensures.held ∙ ap (of_content sizes) c.in_ok-content.ensures) (sample-tree _)
