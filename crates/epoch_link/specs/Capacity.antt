-- How many items a link may hold at most.
use Rattle.std.specs.Prelude.{ℕ, ◌≤◌}

abbrev pub IsCapacity : ℕ → Type 0
IsCapacity number = (1 ≤ number) × (number ≤ 65536)
