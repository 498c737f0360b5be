-- The chain of the mounted image names the free blocks, each once.
use Rattle.std.proofs.Common.{◌≡◌, ℕ, Bool, List, length, take, refl, sym, ap, ◌∙◌, subst, vec_capacity}
use Rattle.sv_super.specs.Calls.{head_of}
use Rattle.sv_super.specs.Core.{HoldsInodes}
use Rattle.sv_super.proofs.Flushes.{super-as}
use Rattle.sv_super.proofs.Sound.{kept-new}
use Rattle.sv_super.proofs.blocks.SuperCore.new.Goals as goal

pub invariant_of-result : goal.invariant_of-result
invariant_of-result g c = record {
  blocks = (kept-new {room = vec_capacity c.new-2.result} c.requires.blocks c.requires.only (c.first_of.ensures ∙ ap (take (length c.as_slice-list.result.now)) c.as_slice-list.ensures.value) (ap length c.as_slice-list.ensures.value) c.geometry-sizes.result c.geometry-sizes.ensures.value c.count_free.ensures c.new-2.ensures.items).0;
  inodes = (let P : List Bool → Type 0 = λ q. HoldsInodes (g.S.Stake.origin c.args.stake) (g.S.Stake.held c.args.stake) q in subst P (sym (ap (λ q. q.used) c.in-Ok.ensures ∙ c.as_slice-used.ensures.value)) c.requires.inodes.lines);
  first = c.requires.first;
  names = c.requires.names;
}

pub returns-clause-chain : goal.returns-clause-chain
returns-clause-chain g c =
    (kept-new {room = vec_capacity c.new-2.result} c.requires.blocks c.requires.only (c.first_of.ensures ∙ ap (take (length c.as_slice-list.result.now)) c.as_slice-list.ensures.value) (ap length c.as_slice-list.ensures.value) c.geometry-sizes.result c.geometry-sizes.ensures.value c.count_free.ensures c.new-2.ensures.items).1

pub returns-clause-written : goal.returns-clause-written
returns-clause-written g c = λ spelled. record {
  list = c.args.mounted.now.head.free.items;
  spelled = super-as {s = c.args.mounted.now.head} (head_of c.args.mounted.now.head) c.args.mounted.now.head.free.items _ spelled refl refl refl refl (sym (ap (λ q. q.cached) c.in-Ok.ensures ∙ c.as_slice-cached.ensures.value));
  chain = (kept-new {room = vec_capacity c.new-2.result} c.requires.blocks c.requires.only (c.first_of.ensures ∙ ap (take (length c.as_slice-list.result.now)) c.as_slice-list.ensures.value) (ap length c.as_slice-list.ensures.value) c.geometry-sizes.result c.geometry-sizes.ensures.value c.count_free.ensures c.new-2.ensures.items).1;
}
