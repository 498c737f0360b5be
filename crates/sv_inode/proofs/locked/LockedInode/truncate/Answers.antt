-- The blocks of the tree differ and are data blocks, so that they can be cut off and freed.
use Rattle.std.proofs.Common.{◌≤◌, length, ap, ◌∙◌, subst, arith}
use Rattle.std.proofs.lemmas.List.{length-map}
use Rattle.sv_form.specs.Geometry.{IsGeometry}
use Rattle.sv_form.specs.declared.geometry.Geometry.{Geometry}
use Rattle.sv_bmap.specs.Order.{blocks_of}
use Rattle.sv_bmap.proofs.Parts.{len-is}
use Rattle.sv_inode.specs.Truncate.{CanFreeAll, less_all}
use Rattle.sv_inode.proofs.Emptied.{apart-after, blocks-after, can-free, empty-stands, freed-since, inode-left, lines-since, others-since}
use Rattle.sv_inode.proofs.OwnLines.{only-emptied}
use Rattle.sv_inode.proofs.TreeBlocks.{few-blocks, tree-blocks}
use Rattle.sv_inode.proofs.locked.LockedInode.truncate.Goals as goal

pub overflow_cast-len : goal.overflow_cast-len
overflow_cast-len g c = omega (arith, c.len.ensures, len-is c.in_ok-blocks.blocks, ap length c.in_ok-blocks.ensures.blocks, few)
  where
    few : length (blocks_of (g.S.Stake.origin c.args.self.now.stake).sizes
        (g.S.Stake.held c.args.self.now.stake) c.args.self.now.body.addresses) ≤ 65536
    few = few-blocks _ (tree-blocks c.requires.tree.tree c.requires.tree.in_data)
        (let P : Geometry → Type 0 = IsGeometry in subst P c.geometry-disk.ensures.value c.geometry-disk.ensures.sizes)

pub cut_all-requires-clause-blocks : goal.cut_all-requires-clause-blocks
cut_all-requires-clause-blocks g c κs within =
    blocks-after c.in_ok-blocks.ensures.stake.home c.in_ok-blocks.ensures.stake.lines
    (c.as_slice.ensures.value ∙ c.in_ok-blocks.ensures.blocks)
    (tree-blocks c.requires.tree.tree c.requires.tree.in_data)

pub free_all-requires-clause-cuts : goal.free_all-requires-clause-cuts
free_all-requires-clause-cuts g c κs within = (
  g.S.Stake.held c.args.self.now.stake,
  can-free c.in_ok-cuts.cuts.items c.in_ok-cuts.ensures.cuts (tree-blocks c.requires.tree.tree c.requires.tree.in_data)
      (c.in_ok-cuts.ensures.names ∙ (c.as_slice.ensures.value ∙ c.in_ok-blocks.ensures.blocks)) c.requires.apart
      c.in_ok-blocks.ensures.stake.home (ap g.S.Stake.origin c.in_ok-room.ensures.stake ∙ c.requires.origin)
      c.in_ok-blocks.ensures.stake.lines
      (ap g.S.Stake.held c.in_ok-room.ensures.stake),
)

pub returns-clause-node : goal.returns-clause-node
returns-clause-node g c = λ node stands. empty-stands (g.S.Stake.origin c.cut_all.new.s)
    (g.S.Stake.held c.cut_all.new.s) c.args.self.now.body node stands.described

pub returns-clause-gives : goal.returns-clause-gives
returns-clause-gives g c = record {
  freed = freed-since (ap g.S.Stake.faults c.in_ok-room.ensures.stake) c.in_ok-room.ensures.chain c.in_ok-room.ensures.aside
      (c.in_ok-cuts.ensures.names ∙ (c.as_slice.ensures.value ∙ c.in_ok-blocks.ensures.blocks)) c.free_all.ensures.blocks;
  lines = lines-since (g.S.Stake.held c.args.self.now.stake) (ap g.S.Stake.held c.in_ok-room.ensures.stake)
      (c.in_ok-cuts.ensures.names ∙ (c.as_slice.ensures.value ∙ c.in_ok-blocks.ensures.blocks))
      (c.free_all.ensures.lines (g.S.Stake.held c.args.self.now.stake) can);
  others = others-since (ap g.S.Stake.held c.in_ok-room.ensures.stake)
      (c.in_ok-cuts.ensures.names ∙ (c.as_slice.ensures.value ∙ c.in_ok-blocks.ensures.blocks)) c.free_all.ensures.others;
  spare = omega (
    arith,
    c.free_all.ensures.spare,
    c.in_ok-room.ensures.ok,
    c.len.ensures,
    len-is c.in_ok-blocks.blocks,
    ap length
        c.in_ok-blocks.ensures.blocks,
    ap length (c.in_ok-cuts.ensures.names ∙ (c.as_slice.ensures.value ∙ c.in_ok-blocks.ensures.blocks)),
    length-map c.in_ok-cuts.cuts.items (λ cut. cut.0),
  );
}
  where
    can : CanFreeAll g.S.Stake.held g.S.Stake.lent g.S.Stake.origin g.S.Stake.forced (g.S.Stake.origin c.room.new.self.stake)
        (g.S.Stake.held c.args.self.now.stake) (g.S.Stake.held c.room.new.self.stake) c.in_ok-cuts.cuts.items
    can =
        can-free c.in_ok-cuts.cuts.items c.in_ok-cuts.ensures.cuts (tree-blocks c.requires.tree.tree c.requires.tree.in_data)
        (c.in_ok-cuts.ensures.names ∙ (c.as_slice.ensures.value ∙ c.in_ok-blocks.ensures.blocks)) c.requires.apart
        c.in_ok-blocks.ensures.stake.home (ap g.S.Stake.origin c.in_ok-room.ensures.stake ∙ c.requires.origin)
        c.in_ok-blocks.ensures.stake.lines
        (ap g.S.Stake.held c.in_ok-room.ensures.stake)

pub returns-clause-only : goal.returns-clause-only
returns-clause-only g c = λ n was. only-emptied _ n
    (c.in_ok-cuts.ensures.cuts.left
    ∙ (ap (λ q. less_all q (g.S.Stake.held c.collect.new.s))
    (c.in_ok-cuts.ensures.names ∙ (c.as_slice.ensures.value ∙ c.in_ok-blocks.ensures.blocks))
    ∙ ap (less_all (blocks_of (g.S.Stake.origin c.args.self.now.stake).sizes
    (g.S.Stake.held c.args.self.now.stake) c.args.self.now.body.addresses))
    c.in_ok-blocks.ensures.stake.lines))
    was

pub returns-clause-stake : goal.returns-clause-stake
returns-clause-stake g c = record {
  away = c.in_ok-cuts.ensures.lends;
  as_forced = c.in_ok-cuts.ensures.forced ∙ c.in_ok-blocks.ensures.stake.as_forced;
  home = c.in_ok-cuts.ensures.origin ∙ c.in_ok-blocks.ensures.stake.home;
  no_less = omega (arith, c.in_ok-cuts.ensures.faults, c.in_ok-blocks.ensures.cause.no_less);
}

pub returns-clause-core : goal.returns-clause-core
returns-clause-core g c = record {
  inodes = c.free_all.ensures.core.inodes ∙ c.in_ok-room.ensures.inodes;
  head = c.free_all.ensures.core.head ∙ c.in_ok-room.ensures.head;
  away = c.free_all.ensures.core.away;
  as_forced = c.free_all.ensures.core.as_forced ∙ ap g.S.Stake.forced c.in_ok-room.ensures.stake;
  home = c.free_all.ensures.core.home ∙ ap g.S.Stake.origin c.in_ok-room.ensures.stake;
  no_less = omega (arith, c.free_all.ensures.faults, ap g.S.Stake.faults c.in_ok-room.ensures.stake);
}

pub returns-clause-inode : goal.returns-clause-inode
returns-clause-inode g c =
    inode-left _ (let P : Geometry → Type 0 = IsGeometry in subst P c.geometry-disk.ensures.value c.geometry-disk.ensures.sizes)
    c.requires.inode (tree-blocks c.requires.tree.tree c.requires.tree.in_data)
    (c.in_ok-cuts.ensures.origin ∙ c.in_ok-blocks.ensures.stake.home)
    (c.in_ok-cuts.ensures.cuts.left
    ∙ (ap (λ q. less_all q (g.S.Stake.held c.collect.new.s))
    (c.in_ok-cuts.ensures.names ∙ (c.as_slice.ensures.value ∙ c.in_ok-blocks.ensures.blocks))
    ∙ ap (less_all (blocks_of (g.S.Stake.origin c.args.self.now.stake).sizes
    (g.S.Stake.held c.args.self.now.stake) c.args.self.now.body.addresses)) c.in_ok-blocks.ensures.stake.lines))

pub returns-clause-apart : goal.returns-clause-apart
returns-clause-apart g c = apart-after _ c.requires.apart (returns-clause-gives g c).lines
    (c.in_ok-cuts.ensures.cuts.left
    ∙ (ap (λ q. less_all q (g.S.Stake.held c.collect.new.s))
    (c.in_ok-cuts.ensures.names ∙ (c.as_slice.ensures.value ∙ c.in_ok-blocks.ensures.blocks))
    ∙ ap (less_all (blocks_of (g.S.Stake.origin c.args.self.now.stake).sizes
    (g.S.Stake.held c.args.self.now.stake) c.args.self.now.body.addresses)) c.in_ok-blocks.ensures.stake.lines))
