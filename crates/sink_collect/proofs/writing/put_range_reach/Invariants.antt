use Rattle.std.proofs.Common.{◌≤◌}
use Rattle.sink_collect.specs.Reaching.{line_of}
use Rattle.sink_collect.proofs.Putting.{texts_before}
use Rattle.sink_collect.proofs.writing.put_range_reach.Given as goal

-- the lines of the bytes so far were put
abbrev pub invariant-loop-offset : goal.invariant-loop-offset
invariant-loop-offset g l = record {
  from : l.range.from ≤ l.offset;
  put : g.P.Pieces.putting.whole l.initial.place (texts_before (line_of l.sinks) l.range l.offset) l.place;
}
