-- When a run traps.
use Rattle.std.specs.Prelude.{ℕ, ◌==◌, Bool, false, Option, Some, None}
use Rattle.log_model.specs.declared.RunEnd.{RunEnd}
use Rattle.log_model.specs.declared.RunEnd.TheVariants.{Exit, Trap, Limit}

-- the time at which a run traps that ends so
abbrev pub trap_time : RunEnd → Option ℕ
trap_time (Exit at code) = None
trap_time (Trap at kind pc) = Some at
trap_time (Limit at) = None

-- the run traps at this time
abbrev pub traps_at : Option ℕ → ℕ → Bool
traps_at None t = false
traps_at (Some at) t = t == at
