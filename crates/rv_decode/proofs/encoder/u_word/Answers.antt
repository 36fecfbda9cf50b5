use Rattle.std.proofs.Common.{◌<◌, ◌^◌, of_z, w32, to_z-of_z, arith}
use Rattle.rv_decode.proofs.encoder.u_word.Goals as goal

pub returns : goal.returns
returns c =
    let bits_of = simp (to_z-of_z c.ranges.imm) at c.cast_unsigned.ensures in
    let small : of_z w32 c.args.imm < 2 ^ 32 = rw (← bits_of) c.cast_unsigned.type_inv in
    rw (c.from.ensures, c.from-2.ensures, c.bits.ensures, bits_of) (omega arith)
