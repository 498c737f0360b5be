-- The addresses are a tree of held data blocks.
use Rattle.std.proofs.Common.{List, ℕ, sym, ap, subst, arith, ◌∙◌}
use Rattle.sv_bmap.specs.Tree.{IsTree}
use Rattle.sv_inode.specs.StandsFor.{HasDataBlocks}
use Rattle.sv_inode.proofs.ElevenPages.{eleven_data, eleven_tree}
use Rattle.sv_inode.proofs.truncate_tests.truncated.Goals as goal

pub truncate-answer-requires-clause-tree : goal.truncate-answer-requires-clause-tree
truncate-answer-requires-clause-tree g c _ _ = record {
  tree =
      (let P : List ℕ → Type 0 = IsTree (g.S.Stake.origin c.args.inode.now.stake) (g.S.Stake.held c.args.inode.now.stake) in
      subst P (sym c.requires.addresses)
      (eleven_tree (g.S.Stake.origin c.args.inode.now.stake) (g.S.Stake.held c.args.inode.now.stake)
      (ap (λ q. q.sizes.block_size) c.requires.source.home ∙ ap (λ q. q.block_size) c.requires.source.sizes) c.requires.row
      (λ b least low. record {
        at = λ l fits. (c.requires.source.whole b (omega (arith, least)) (omega (arith, low))).at l
            (omega (arith, fits, ap (λ q. q.sizes.block_size) c.requires.source.home));
      })));
  in_data =
      (let P : List ℕ → Type 0 = HasDataBlocks (g.S.Stake.origin c.args.inode.now.stake).sizes (g.S.Stake.held c.args.inode.now.stake) in
      subst P (sym c.requires.addresses)
      (eleven_data (g.S.Stake.origin c.args.inode.now.stake).sizes (g.S.Stake.held c.args.inode.now.stake)
      (ap (λ q. q.sizes.block_size) c.requires.source.home ∙ ap (λ q. q.block_size) c.requires.source.sizes) c.requires.row
      (omega (arith, ap (λ q. q.sizes.first_data) c.requires.source.home, ap (λ q. q.first_data) c.requires.source.sizes))
      (omega (arith, ap (λ q. q.sizes.blocks) c.requires.source.home, ap (λ q. q.blocks) c.requires.source.sizes))));
}
