-- The text of a path over a run.
use Rattle.std.specs.Prelude.{ℕ, List, map, reverse, Option, Some, None}
use Rattle.isa.specs.Machine.{State}
use Rattle.log_model.specs.Logs.{Log}
use Rattle.flow_model.specs.declared.Rule.{Rule}
use Rattle.flow_model.specs.declared.SourceByte.{SourceByte}
use Rattle.report_model.specs.Query.{Query}
use Rattle.report_model.specs.Rows.{rows}
use Rattle.replay_model.specs.Run.{trace}
use Rattle.replayer.specs.Jobs.{Job, trace_of}
use Rattle.path_find.specs.declared.Pair.{Pair}
use Rattle.path_find.specs.FirstPair.{PathTo, sink_of, path_to_sink, first_pair}
use Rattle.path_find.specs.declared.writing.End.{End}
use Rattle.path_find.specs.Text.{no_path_text, path_text}
use Rattle.path_find.specs.Stops.{pc_at, stop_at}

-- the end of a path, with the pc there
abbrev pub end_of : Job → PathTo → End
end_of job p = record { name = p.sink.name; number = p.sink.time; pc = pc_at job p.sink.time; loc = p.sink.loc }

-- the text of a path of s, with the pcs and the instructions of the run
abbrev pub found_report : Job → SourceByte → PathTo → List ℕ
found_report job s p = path_text s (end_of job p) (map (stop_at job) (reverse p.arrivals))

abbrev pub found_report_or : Job → SourceByte → Option PathTo → List ℕ
found_report_or job s None = no_path_text
found_report_or job s (Some p) = found_report job s p

-- the text of the path of a pair
abbrev pub pair_report : Job → Rule → Option Pair → List ℕ
pair_report job rule None = no_path_text
pair_report job rule (Some pair) = found_report_or job pair.source (path_to_sink rule pair.source (trace_of job) (sink_of (trace_of job) pair.sink))

-- the text of the path of the first pair of a query's report, over the run from a state under a log
abbrev pub path_report : State → Log → Query → List ℕ
path_report state log q = pair_report (record { start = state; log = log }) q.rule (first_pair (rows q (trace state log)))
