use Rattle.std.proofs.Common.{◌≡◌, ◌+◌, ◌∙◌, Some, length, ap, sym, subst, arith}
use Rattle.sv_buf.specs.Running.{seen_by}
use Rattle.sv_buf.specs.Closing.{IsWritten}
use Rattle.sv_buf.proofs.Closing.{begins-closing, closes}
use Rattle.sv_buf.proofs.close.finish.Goals as goal

pub write_all-written-requires-clause-so : goal.write_all-written-requires-clause-so
write_all-written-requires-clause-so g c =
    let v = c.requires.so.0 in
    let h = c.requires.so.1 in (
      h.kept.current,
      h.kept.opening.disk.faults + v.faults,
      begins-closing (seen_by g.D.Medium.content g.D.Medium.reads g.D.Medium.writes g.D.Medium.faults) c.args.state c.take_device.new.self
          v.opening v h c.requires.so.2 c.unwrap-disk.result (sym c.take_device.ensures.device ∙ c.unwrap-disk.ensures)
          c.take_device.ensures.after c.take_device.ensures.lawful,
    )

pub returns : goal.returns
returns g c v h q =
    let all = c.write_all-written.ensures.all h.kept.current (h.kept.opening.disk.faults + v.faults)
    (begins-closing (seen_by g.D.Medium.content g.D.Medium.reads g.D.Medium.writes g.D.Medium.faults) c.args.state c.take_device.new.self
    v.opening v h q c.unwrap-disk.result (sym c.take_device.ensures.device ∙ c.unwrap-disk.ensures) c.take_device.ensures.after
    c.take_device.ensures.lawful) in
    let device : Some c.write_all-written.new.disk ≡ Some c.into_disk.result = sym (ap (λ q. q.device) c.put_device.ensures.after)
    ∙ c.into_disk.ensures in
    let same : c.write_all-written.new.disk ≡ c.into_disk.result = cc in
    let shape = c.write_all-written.ensures.shape in
    let after = c.take_device.ensures.after in
    let count : length c.write_all-written.new.core.buffers ≡ c.args.buffers = shape.count ∙ ap (λ q. length q.buffers) after
    ∙ sym c.requires.count in (
      all.0,
      all.1,
      closes (seen_by g.D.Medium.content g.D.Medium.reads g.D.Medium.writes g.D.Medium.faults) c.args.state c.write_all-written.new.core v h q
          (seen_by g.D.Medium.content g.D.Medium.reads g.D.Medium.writes g.D.Medium.faults c.into_disk.result) all.0 c.args.buffers
          (shape.geometry ∙ ap (λ q. q.geometry) after) (omega (arith, count)) (subst (λ d. IsWritten c.write_all-written.new.core
          h.kept.current (seen_by g.D.Medium.content g.D.Medium.reads g.D.Medium.writes g.D.Medium.faults d)
          (h.kept.opening.disk.faults + v.faults) all.0 c.args.buffers) same all.2),
    )
