use Rattle.std.proofs.Common.{◌≡◌, ◌∙◌, sym, ap, refl, subst, true, false, arith, slice_index, is_some, List, Option, ℕ}
use Rattle.sv_form.specs.declared.link_block.LinkBlock.{LinkBlock}
use Rattle.sv_form.specs.Image.{block_of}
use Rattle.sv_check.specs.Chain.{list_in, reads_list}
use Rattle.sv_check.specs.ChainSteps.{met_in, met_of_list, numbers_of, with_each}
use Rattle.sv_check.proofs.ChainMet.{gathers_first, gathers_none, gathers_on, gathers_end}
use Rattle.sv_check.proofs.ChainWalk.{follows_same, leads_first, leads_bad, leads_none, leads_unread, leads_on, leads_end}
use Rattle.sv_check.proofs.Flaws.{none_here}
use Rattle.sv_check.proofs.sound.chain.follow_chain.Goals as goal

pub loop-turn-init : goal.loop-turn-init
loop-turn-init g c = record { content = refl; faults = omega arith; blocks = c.requires.blocks; leads = leads_first _ _ _ _; gathers = gathers_first _ _ _ _ }

pub returns-then-not-take_list-clause-broken : goal.returns-then-not-take_list-clause-broken
returns-then-not-take_list-clause-broken g c =
    leads_bad _ (g.D.Disk.content c.args.disk.now) _ (met_in c.loop-turn.met.met.items) (met_in c.take_list.new.self.met.items) _ c.loop-turn.turn c.loop-turn.list.items c.loop-turn-test.true c.loop-turn.invariant.leads _
    (follows_same c.args.sizes.now (g.D.Disk.content c.args.disk.now) (met_in c.loop-turn.met.met.items) (met_in c.take_list.new.self.met.items) _ _ false c.take_list.new.self.bad
    (ap met_of_list c.deref.ensures.value) (c.if-not-take_list.ensures.follows (g.D.Disk.content c.args.disk.now)))

pub returns-then-link-eq0-clause-broken : goal.returns-then-link-eq0-clause-broken
returns-then-link-eq0-clause-broken g c =
    let follows = follows_same c.args.sizes.now (g.D.Disk.content c.args.disk.now) (met_in c.loop-turn.met.met.items) (met_in c.take_list.new.self.met.items) _ _ true c.take_list.new.self.bad
    (ap met_of_list c.deref.ensures.value) (c.if-not-take_list.ensures.follows (g.D.Disk.content c.args.disk.now)) in
    let link : c.link_of-link.result ≡ slice_index c.loop-turn.list.items 0 = c.link_of-link.ensures ∙ ap (λ (l : List ℕ). slice_index l 0) c.deref-in-loop-turn.ensures.value in
    leads_none _ (g.D.Disk.content c.args.disk.now) _ (met_in c.loop-turn.met.met.items) (met_in c.take_list.new.self.met.items) _ c.loop-turn.turn c.loop-turn.list.items c.loop-turn-test.true c.loop-turn.invariant.leads c.take_list.new.self.bad follows (sym link ∙ c.if-link-eq0.true)

pub returns-then-link-eq0-clause-met : goal.returns-then-link-eq0-clause-met
returns-then-link-eq0-clause-met g c =
    let link : c.link_of-link.result ≡ slice_index c.loop-turn.list.items 0 = c.link_of-link.ensures ∙ ap (λ (l : List ℕ). slice_index l 0) c.deref-in-loop-turn.ensures.value in
    λ _. gathers_none _ (g.D.Disk.content c.args.disk.now) _ (met_in c.loop-turn.met.met.items) (met_in c.take_list.new.self.met.items) _ c.loop-turn.turn c.loop-turn.list.items c.loop-turn-test.true c.loop-turn.invariant.gathers
    (subst (λ (l : List ℕ). (b : ℕ) → met_in c.take_list.new.self.met.items b ≡ with_each (met_in c.loop-turn.met.met.items) (numbers_of (met_of_list l)) b) c.deref.ensures.value c.if-not-take_list.ensures.met)
    (sym link ∙ c.if-link-eq0.true)

pub returns-in_default-clause-broken : goal.returns-in_default-clause-broken
returns-in_default-clause-broken g c =
    let follows = follows_same c.args.sizes.now (g.D.Disk.content c.args.disk.now) (met_in c.loop-turn.met.met.items) (met_in c.take_list.new.self.met.items) _ _ true c.take_list.new.self.bad
    (ap met_of_list c.deref.ensures.value) (c.if-not-take_list.ensures.follows (g.D.Disk.content c.args.disk.now)) in
    let link : c.link_of-link.result ≡ slice_index c.loop-turn.list.items 0 = c.link_of-link.ensures ∙ ap (λ (l : List ℕ). slice_index l 0) c.deref-in-loop-turn.ensures.value in
    let bytes : c.deref-in-loop-turn-2.result.now ≡ block_of c.args.sizes.now (g.D.Disk.content c.args.disk.now) c.link_of-link.result =
    c.deref-in-loop-turn-2.ensures.value ∙ c.in_ok-block.ensures.bytes ∙ ap (λ (image : List ℕ). block_of c.args.sizes.now image c.link_of-link.result) c.loop-turn.invariant.content in
    leads_unread _ (g.D.Disk.content c.args.disk.now) _ (met_in c.loop-turn.met.met.items) (met_in c.take_list.new.self.met.items) _ c.loop-turn.turn c.loop-turn.list.items c.loop-turn-test.true c.loop-turn.invariant.leads c.take_list.new.self.bad follows _ (λ e. c.if-link-eq0.false (link ∙ e)) link
    (sym (ap (λ (b : List ℕ). reads_list b) bytes) ∙ c.read_list.ensures.test ∙ ap (λ (r : Option LinkBlock). is_some r) (none_here _ c.in_default.not-Some))

pub loop-turn-preserved : goal.loop-turn-preserved
loop-turn-preserved g c =
    let follows = follows_same c.args.sizes.now (g.D.Disk.content c.args.disk.now) (met_in c.loop-turn.met.met.items) (met_in c.take_list.new.self.met.items) _ _ true c.take_list.new.self.bad
    (ap met_of_list c.deref.ensures.value) (c.if-not-take_list.ensures.follows (g.D.Disk.content c.args.disk.now)) in
    let link : c.link_of-link.result ≡ slice_index c.loop-turn.list.items 0 = c.link_of-link.ensures ∙ ap (λ (l : List ℕ). slice_index l 0) c.deref-in-loop-turn.ensures.value in
    let bytes : c.deref-in-loop-turn-2.result.now ≡ block_of c.args.sizes.now (g.D.Disk.content c.args.disk.now) c.link_of-link.result =
    c.deref-in-loop-turn-2.ensures.value ∙ c.in_ok-block.ensures.bytes ∙ ap (λ (image : List ℕ). block_of c.args.sizes.now image c.link_of-link.result) c.loop-turn.invariant.content in
    let numbers = c.in_ok-list.ensures ∙ c.in-Some.ensures.list ∙ ap (λ (b : List ℕ). list_in b) bytes in
    record {
      content = c.in_ok-block.ensures.content ∙ c.loop-turn.invariant.content;
      faults = omega (arith, c.in_ok-block.ensures.faults, c.loop-turn.invariant.faults);
      blocks = c.take_list.ensures.blocks;
      leads = leads_on _ (g.D.Disk.content c.args.disk.now) _ (met_in c.loop-turn.met.met.items) (met_in c.take_list.new.self.met.items) _ c.loop-turn.turn c.loop-turn.list.items c.loop-turn-test.true c.loop-turn.invariant.leads c.take_list.new.self.bad follows c.link_of-link.result _ (λ e. c.if-link-eq0.false (link ∙ e)) link
          (sym (ap (λ (b : List ℕ). reads_list b) bytes) ∙ c.in-Some.ensures.test) numbers;
      gathers = gathers_on _ (g.D.Disk.content c.args.disk.now) _ (met_in c.loop-turn.met.met.items) (met_in c.take_list.new.self.met.items) _ c.loop-turn.turn c.loop-turn.list.items c.loop-turn-test.true c.loop-turn.invariant.gathers
          (subst (λ (l : List ℕ). (b : ℕ) → met_in c.take_list.new.self.met.items b ≡ with_each (met_in c.loop-turn.met.met.items) (numbers_of (met_of_list l)) b) c.deref.ensures.value c.if-not-take_list.ensures.met)
          c.link_of-link.result _ (λ e. c.if-link-eq0.false (link ∙ e)) link numbers;
    }

pub returns-clause-broken : goal.returns-clause-broken
returns-clause-broken g c = leads_end _ _ _ _ _ c.loop-turn.turn _ c.loop-turn-test.false c.loop-turn.invariant.leads

pub returns-clause-met : goal.returns-clause-met
returns-clause-met g c = λ _. gathers_end _ _ _ _ _ c.loop-turn.turn _ c.loop-turn-test.false c.loop-turn.invariant.gathers
