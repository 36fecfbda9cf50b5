use Rattle.std.proofs.Common.{◌+◌, ◌*◌}
use Rattle.sink_collect.proofs.at_once.+parts.Given as goal

abbrev pub decreases-texts_at_once : goal.decreases-texts_at_once
decreases-texts_at_once g l = 2 * l.workers

abbrev pub decreases-front : goal.decreases-front
decreases-front g l = 2 * l.some + 1

abbrev pub decreases-back : goal.decreases-back
decreases-back g l = 2 * l.others + 1
