use Rattle.std.proofs.Common.{sym, subst}
use Rattle.sv_plain.specs.Fs.{Fs}
use Rattle.sv_plain.specs.Whole.{IsWhole}
use Rattle.sv_check.proofs.SoundParts.{sound_walked}
use Rattle.sv_check.proofs.WholeTree.{tree_whole}
use Rattle.sv_check.proofs.loading.tree.load.Goals as goal

pub load_tree-requires-clause-walked : goal.load_tree-requires-clause-walked
load_tree-requires-clause-walked g c = λ _ _. sound_walked (g.D.Disk.content c.args.disk.now) c.requires.sound

pub returns-clause-whole : goal.returns-clause-whole
returns-clause-whole g c = subst (λ (s : Fs). IsWhole s) (sym c.in_ok-load_tree.ensures.tree) (tree_whole (g.D.Disk.content c.args.disk.now) c.requires.sound)
