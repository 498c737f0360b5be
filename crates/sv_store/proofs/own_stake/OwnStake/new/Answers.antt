-- The list has all lines of all blocks.
use Rattle.std.proofs.Common.{◌≡◌, length, map, sym, ap, ◌∙◌, subst}
use Rattle.std.proofs.lemmas.List.{length-map}
use Rattle.std.proofs.lemmas.List.Elements.{All-map}
use Rattle.sv_store.specs.OwnBlock.{held_of, lent_of, IsSound}
use Rattle.sv_store.proofs.OwnWhole.{sound-whole, held-whole, home-whole}
use Rattle.sv_store.proofs.own_stake.OwnStake.new.Goals as goal

pub invariant_of-result : goal.invariant_of-result
invariant_of-result c = record {
  sized = c.requires.sizes;
  sound =
      subst (IsSound c.args.sizes) (sym c.in_ok-blocks.ensures)
      (sound-whole c.args.sizes c.requires.sizes (map (λ bytes. bytes.items) c.args.content.items) (length-map c.args.content.items (λ bytes. bytes.items) ∙ c.requires.blocks)
      (All-map (λ x. length x ≡ c.args.sizes.block_size) (λ bytes. bytes.items) c.args.content.items c.requires.bytes));
  quiet = λ _. ap (λ t. t.faults) c.new.ensures;
}

pub returns-clause-held : goal.returns-clause-held
returns-clause-held c =
    ap held_of c.in_ok-blocks.ensures ∙ held-whole c.args.sizes c.requires.sizes (map (λ bytes. bytes.items) c.args.content.items)

pub returns-clause-lent : goal.returns-clause-lent
returns-clause-lent c = ap lent_of c.in_ok-blocks.ensures ∙ home-whole c.args.sizes (map (λ bytes. bytes.items) c.args.content.items) 0
