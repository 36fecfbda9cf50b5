use Rattle.std.proofs.Common.{◌≤◌}
use Rattle.sink_collect.proofs.Putting.{names_of, tens_of}
use Rattle.sink_collect.specs.Waiting.{waiting}
use Rattle.sink_collect.proofs.writing.add_tens.Given as goal

-- the names of the tens so far were put
abbrev pub invariant-loop-tens : goal.invariant-loop-tens
invariant-loop-tens g l = record {
  from : l.from ≤ l.tens;
  past : l.tens ≤ l.past;
  put : (waiting g.P.Pieces.putting).whole (l.initial.place, l.initial.text) (names_of (tens_of l.channel l.from l.tens)) (l.place, l.text);
}
