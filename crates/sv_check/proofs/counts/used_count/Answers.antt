use Rattle.std.proofs.Common.{◌≡◌, ◌∙◌, ◌+◌, ◌^◌, ◌++◌, ◌∷◌, ◌<◌, ◌≤◌, [], ℕ, Bool, List, ap, arith, filter, length, subst, sym, take, if◌then◌else◌}
use Rattle.std.proofs.lemmas.List.{take_all, take_more}
use Rattle.sv_form.specs.declared.geometry.Geometry.{Geometry}
use Rattle.sv_form.specs.Image.{geometry_of}
use Rattle.sv_check.specs.InodeList.{used_inodes}
use Rattle.sv_check.proofs.FreeBlocks.{flag_last, flag_of, flag_small, flags_few, used_as_flags}
use Rattle.sv_check.proofs.counts.used_count.Goals as goal

pub overflow_add-count : goal.overflow_add-count
overflow_add-count c =
    let t : Bool = c.index.result.now in
    let one : c.from-count.result ≡ (if t then 1 else 0) = flag_of t c.from-count.result c.from-count.ensures in
    let small : (if t then 1 else 0) ≤ 1 = flag_small t in
    let few : length c.args.mounted.now.used.items < 2 ^ 16 = flags_few c.requires.0 c.args.mounted.now c.requires.1 in
    omega (arith, c.loop-place.invariant.few, one, small, few, c.args.mounted.now.used.ok.0, c.loop-place-test.true, c.len-place-end.ensures)

pub loop-place-preserved : goal.loop-place-preserved
loop-place-preserved c =
    let t : Bool = c.index.result.now in
    let flags : List Bool = c.args.mounted.now.used.items in
    let one : c.from-count.result ≡ (if t then 1 else 0) = flag_of t c.from-count.result c.from-count.ensures in
    let small : (if t then 1 else 0) ≤ 1 = flag_small t in
    let more : take (c.loop-place.place + 1) flags ≡ take c.loop-place.place flags ++ t ∷ [] =
    take_more flags c.loop-place.place t (omega (arith, c.loop-place-test.true, c.len-place-end.ensures)) ∙ ap (λ (u : Bool). take c.loop-place.place flags ++ u ∷ []) (sym c.index.ensures) in
    record {
      counted = ap (λ (k : ℕ). k + c.from-count.result) c.loop-place.invariant.counted ∙ ap (λ (k : ℕ). length (filter (λ (u : Bool). u) (take c.loop-place.place flags)) + k) one
          ∙ sym (flag_last (take c.loop-place.place flags) t) ∙ ap (λ (l : List Bool). length (filter (λ (u : Bool). u) l)) (sym more);
      few = omega (arith, c.loop-place.invariant.few, one, small);
    }

pub returns : goal.returns
returns c = λ image from.
    let flags : List Bool = c.args.mounted.now.used.items in
    let all : take c.loop-place.place flags ≡ flags = take_all c.loop-place.place flags (omega (arith, c.loop-place-test.false, c.len-place-end.ensures)) in
    c.loop-place.invariant.counted ∙ ap (λ (l : List Bool). length (filter (λ (u : Bool). u) l)) all
    ∙ subst (λ (g : Geometry). length (filter (λ (u : Bool). u) flags) ≡ length (used_inodes g image)) (sym from.geometry) (used_as_flags (geometry_of image) image flags from.used)
