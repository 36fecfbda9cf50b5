-- What the answer of an event says.
use Rattle.stream_model.specs.Schedules.{Need}
use Rattle.stream_model.specs.Schedules as need
use Rattle.pass_parts.specs.declared.pass_turn.PassTurn.{PassTurn}
use Rattle.pass_parts.specs.declared.pass_turn.PassTurn.TheVariants.{Moved, NotYet, Over}

-- a fact where the pass is over
abbrev pub OnOver : PassTurn → Type 0 → Type 0
OnOver Moved P = Unit {0}
OnOver NotYet P = Unit {0}
OnOver Over P = P

-- a fact where it is not
abbrev pub OnOpen : PassTurn → Type 0 → Type 0
OnOpen Moved P = P
OnOpen NotYet P = P
OnOpen Over P = Unit {0}

-- a fact where the event happened, and the pass is not over
abbrev pub OnMoved : PassTurn → Type 0 → Type 0
OnMoved Moved P = P
OnMoved NotYet P = Unit {0}
OnMoved Over P = Unit {0}

-- a fact where the event did not happen
abbrev pub OnNotYet : PassTurn → Type 0 → Type 0
OnNotYet Moved P = Unit {0}
OnNotYet NotYet P = P
OnNotYet Over P = Unit {0}

-- of what the links say when they refuse, this is what the one link says that the event needs
abbrev pub Waits : Need → Type 0 → Type 0 → Type 0
Waits need.Room pops pushes = pushes
Waits need.Item pops pushes = pops
Waits need.Nothing pops pushes = ⊥
Waits need.Over pops pushes = ⊥
