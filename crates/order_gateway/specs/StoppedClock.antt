-- The answers of a clock that answers 0 each time.
use Rattle.std.specs.Prelude.{ℕ, ◌-◌, ◌^◌, nat_lt, List, replicate, Option, Some, None, if◌then◌else◌}
use Rattle.order_gateway.specs.declared.clock.StoppedClock.{StoppedClock}

-- the answers given so far, as long as it can count them
abbrev pub told_zeros : StoppedClock → Option (List ℕ)
told_zeros clock = if nat_lt clock.asked (2 ^ 64 - 1) then Some (replicate clock.asked 0) else None
