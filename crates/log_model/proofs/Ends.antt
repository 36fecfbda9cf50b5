-- Where a run ends. Crates above cite these lemmas.
use Rattle.std.proofs.Common.{◌^◌, ◌≤◌, arith}
use Rattle.log_model.specs.declared.RunEnd.{RunEnd}
use Rattle.log_model.specs.declared.RunEnd.TheVariants.{Exit, Trap, Limit}
use Rattle.log_model.specs.Logs.{IsEnd, end_at, steps_by}

pub end_at-le-steps_by : (end : RunEnd) → end_at end ≤ steps_by end
end_at-le-steps_by (Exit at code) = omega arith
end_at-le-steps_by end = omega arith

pub end_at-small : (end : RunEnd) → IsEnd end → end_at end ≤ 2 ^ 40
end_at-small (Exit at code) h = omega (arith, h.0)
end_at-small (Trap at kind pc) h = h.0
end_at-small (Limit at) h = h
