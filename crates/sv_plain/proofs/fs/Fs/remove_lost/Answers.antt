use Rattle.std.proofs.Common.{◌<◌, sym, ap, subst, ◌∙◌}
use Rattle.std.specs.FinMap as map
use Rattle.sv_plain.specs.Fs.{Fs}
use Rattle.sv_plain.specs.Names.{is_idle}
use Rattle.sv_plain.specs.Change.{without_lost}
use Rattle.sv_plain.proofs.Purged.{purge-step, purge-end, purge-less}
use Rattle.sv_plain.proofs.fs.Fs.remove_lost.Goals as goal

pub loop-i-smaller : goal.loop-i-smaller
loop-i-smaller c =
    subst (λ (s : Fs). map.len s.nodes < map.len c.loop-i.self.nodes) (sym c.remove_node_at.ensures) (purge-less c.loop-i.self.nodes c.in-Some.i c.in-Some.ensures.some)

pub loop-i-preserved : goal.loop-i-preserved
loop-i-preserved c = record {
  idle = ap is_idle c.remove_node_at.ensures ∙ c.loop-i.invariant.idle;
  same = ap without_lost c.remove_node_at.ensures ∙ purge-step c.loop-i.self c.in-Some.i c.loop-i.invariant.idle c.in-Some.ensures.some ∙ c.loop-i.invariant.same;
}

pub returns : goal.returns
returns c = sym (purge-end c.loop-i.self c.loop-i.invariant.idle c.in_default.ensures.none) ∙ c.loop-i.invariant.same
