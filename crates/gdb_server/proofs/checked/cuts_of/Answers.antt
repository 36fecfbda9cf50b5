use Rattle.std.proofs.Common.{arith}
use Rattle.gdb_server.proofs.Cutting.{few_cuts}
use Rattle.gdb_server.proofs.checked.cuts_of.Goals as goal

pub unreachable-requires : goal.unreachable-requires
unreachable-requires c =
    omega (
      arith,
      c.in-Err-TooMany.ensures.many.1,
      few_cuts c.steps_of-steps.result c.min-count.result c.max-length.result (omega arith) (omega arith) (omega arith) (omega arith),
    )
