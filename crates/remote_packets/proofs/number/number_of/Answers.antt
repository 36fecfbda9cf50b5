use Rattle.std.proofs.Common.{◌<◌, arith}
use Rattle.remote_packets.proofs.Digits.{room}
use Rattle.remote_packets.proofs.number.number_of.Goals as goal

pub overflow_mul-value : goal.overflow_mul-value
overflow_mul-value c =
    let small = room c.loop-digit.value c.loop-digit.digit-index c.loop-digit.invariant.fits (omega arith) in
    omega (arith, small)

pub overflow_add-value : goal.overflow_add-value
overflow_add-value c =
    let small = room c.loop-digit.value c.loop-digit.digit-index c.loop-digit.invariant.fits (omega arith) in
    omega (arith, small, c.in_ok-digit.ensures.value.0, c.in_ok-digit.ensures.value.1)
