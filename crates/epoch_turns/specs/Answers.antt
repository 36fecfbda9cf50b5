-- What several turns come to.
use Rattle.run_board.specs.declared.task.Turn.{Turn}
use Rattle.run_board.specs.declared.task.Turn.TheVariants.{Moved, NotYet, Done}

abbrev pub moved_or_not_yet : Turn → Turn
moved_or_not_yet Moved = Moved
moved_or_not_yet NotYet = NotYet
moved_or_not_yet Done = NotYet

-- the turns of several nodes, and then that of one more
abbrev pub together : Turn → Turn → Turn
together Done one = one
together Moved one = Moved
together NotYet one = moved_or_not_yet one

abbrev pub moved_before : Turn → Turn
moved_before Moved = Moved
moved_before NotYet = Moved
moved_before Done = Done

-- two sweeps over the same nodes, one after the other
abbrev pub after_both : Turn → Turn → Turn
after_both Moved second = moved_before second
after_both NotYet second = second
after_both Done second = second
