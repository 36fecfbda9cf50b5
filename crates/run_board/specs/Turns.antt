-- What a turn's answer says of the task after it.
use Rattle.run_board.specs.declared.task.Turn.{Turn}
use Rattle.run_board.specs.declared.task.Turn.TheVariants.{Moved, NotYet, Done}

-- the answer is Done exactly where the task is then ended
abbrev pub AnswersEnded : Turn → Type 0 → Type 0
AnswersEnded Moved ended = ¬ ended
AnswersEnded NotYet ended = ¬ ended
AnswersEnded Done ended = ended
