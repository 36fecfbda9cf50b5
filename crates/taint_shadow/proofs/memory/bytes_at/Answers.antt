use Rattle.std.proofs.Common.{◌≡◌, ◌+◌, arith, ap, ◌∙◌}
use Rattle.isa.specs.Machine.{wrap}
use Rattle.taint_shadow.specs.Lanes.{lane_at}
use Rattle.taint_shadow.specs.Memory.{in_memory}
use Rattle.taint_shadow.proofs.Meaning.{each_of_four}
use Rattle.taint_shadow.proofs.memory.bytes_at.Goals as goal

pub returns : goal.returns
returns c =
    let R = c.args.regions.now in
    let place = c.args.place in
    let lowest : place ≡ wrap (place + 0) = omega (arith, c.ranges.place.fits) in
    each_of_four (λ i. lane_at (record { first = c.label_at.result; second = c.label_at-2.result; third = c.label_at-3.result; fourth = c.label_at-4.result }) i ≡ in_memory R (wrap (place + i)))
    (c.label_at.ensures ∙ ap (in_memory R) lowest) c.label_at-2.ensures c.label_at-3.ensures c.label_at-4.ensures
