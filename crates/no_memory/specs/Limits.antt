-- How many there can be of what is counted.
use Rattle.std.specs.Prelude.{ℕ, ◌-◌, ◌^◌}
use Rattle.no_memory.specs.declared.Limit.{Limit}
use Rattle.no_memory.specs.declared.Limit.TheVariants.{MergedNodes, CheckpointPages, ClockAnswers, Decisions, PathNodes}

abbrev pub most : Limit → ℕ
most MergedNodes = 2 ^ 32 - 1
most CheckpointPages = 2 ^ 32
most ClockAnswers = 2 ^ 64 - 1
most Decisions = 2 ^ 64 - 1
most PathNodes = 2 ^ 32 - 1
