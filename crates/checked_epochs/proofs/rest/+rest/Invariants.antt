use Rattle.std.proofs.Common.{◌+◌, ◌*◌, length}
use Rattle.checked_epochs.proofs.rest.+rest.Given as goal

-- each epoch that is begun leaves one fewer
abbrev pub decreases-analyse_rest : goal.decreases-analyse_rest
decreases-analyse_rest g l = 2 * length l.ahead.left.items

abbrev pub decreases-onward : goal.decreases-onward
decreases-onward g l = 2 * length l.ahead.left.items + 1
