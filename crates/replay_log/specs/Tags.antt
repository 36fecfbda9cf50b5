-- The numbers of the tags.
use Rattle.std.specs.Prelude.{ℕ}
use Rattle.replay_log.specs.declared.tags.Tag.{Tag}
use Rattle.replay_log.specs.declared.tags.Tag.TheVariants.{Read, Write, Clock, Other, Exit, Trap, Limit}

abbrev pub number : Tag → ℕ
number Read = 1
number Write = 2
number Clock = 3
number Other = 4
number Exit = 5
number Trap = 6
number Limit = 7
