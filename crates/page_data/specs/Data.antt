-- The data of a page: the rows of a report, and what is told of the run and of the query that they are of. It is
-- printable ASCII without `<`, `>`, `&`, quotes and backslashes, and line feeds, whatever the run moved.
use Rattle.std.specs.Prelude.{ℕ, ◌==◌, if◌then◌else◌, List, [], ◌++◌, length, codes, slice_index}
use Rattle.std.specs.List.{flat_map, range_with_len}
use Rattle.std.specs.Fmt.{decimal}
use Rattle.hex.specs.Hex.{encode_lower}
use Rattle.base64.specs.Engines.{standard}
use Rattle.base64.specs.GeneralPurpose.{encode_of}
use Rattle.isa.specs.Machine.{State}
use Rattle.log_model.specs.declared.CallRecord.{CallRecord}
use Rattle.log_model.specs.declared.CallRecord.TheVariants.{Read, Write, Clock, Other}
use Rattle.log_model.specs.Logs.{Log}
use Rattle.flow_model.specs.declared.Rule.{Rule}
use Rattle.flow_model.specs.declared.SourceByte.{SourceByte}
use Rattle.flow_model.specs.declared.StepSeen.{StepSeen}
use Rattle.report_model.specs.Query.{Query}
use Rattle.report_model.specs.Rows.{Row, rows}
use Rattle.report_model.specs.Influence.{chosen_sources}
use Rattle.replay_model.specs.Run.{trace}
use Rattle.jet_refusal.specs.Lines.{rule_name}
use Rattle.run_output.specs.declared.ways.Way.{Way}
use Rattle.run_output.specs.declared.ways.Way.TheVariants.{Received, Written}
use Rattle.run_output.specs.Ways.{moved}
use Rattle.run_output.specs.Summary.{number_line, summary_text}
use Rattle.page_data.specs.Rows.{ranges_text, joined_rows}

-- ---- the run

-- the digest of the program, and the run's numbers
unfoldable pub run_text : Log → List ℕ
run_text log = codes "program " ++ encode_lower log.digest ++ codes "\n" ++ summary_text log

-- what stands before the bytes of a channel
abbrev pub way_word : Way → List ℕ
way_word Received = codes "in "
way_word Written = codes "out "

-- bytes that went this way on a channel, in base64 (RFC 4648, section 4)
abbrev pub channel_line : Way → ℕ → List ℕ → List ℕ
channel_line way channel bytes = way_word way ++ decimal channel ++ codes " " ++ encode_of standard bytes ++ codes "\n"

-- all that went this way, a line for each of the 16 channels
unfoldable pub channel_lines : Way → Log → List ℕ
channel_lines way log = flat_map (λ c. channel_line way c (moved way c log.records)) (range_with_len 0 16)

-- a call that moved bytes: its channel, how many they were, and the number of steps before it. One that moved none isn't
-- told.
abbrev pub moved_line : List ℕ → ℕ → List ℕ → ℕ → List ℕ
moved_line word channel bytes at =
    if length bytes == 0 then [] else
    word ++ decimal channel ++ codes " " ++ decimal (length bytes) ++ codes " " ++ decimal at ++ codes "\n"

abbrev pub call_line : CallRecord → List ℕ
call_line (Read at args result bytes) = moved_line (codes "r ") (slice_index args 0) bytes at
call_line (Write at args result bytes) = moved_line (codes "w ") (slice_index args 0) bytes at
call_line (Clock at value) = []
call_line (Other at number) = []

-- the bytes that were received, those that were written, and the calls that moved them
unfoldable pub moved_text : Log → List ℕ
moved_text log = channel_lines Received log ++ channel_lines Written log ++ flat_map call_line log.records

-- ---- the query

-- what is told of a query: its rule, how many points it has, and which of the received bytes it chooses
pub record Asked : Type 0 where
  pub rule : Rule
  pub points : ℕ
  pub sources : List SourceByte

-- of a query over a trace
abbrev pub asked : Query → List StepSeen → Asked
asked q steps = record { rule = q.rule; points = length q.points; sources = chosen_sources q steps }

unfoldable pub asked_text : Asked → List ℕ
asked_text a =
    codes "rule " ++ rule_name a.rule ++ codes "\n" ++
    number_line (codes "points") a.points ++
    codes "sources" ++ ranges_text a.sources ++ codes "\n"

-- ---- the data

-- what is told beside the rows: the run, the query, and what was moved
unfoldable pub told_text : Asked → Log → List ℕ
told_text a log = run_text log ++ asked_text a ++ moved_text log

-- the version, the rows, what is told beside them, and how many they are
abbrev pub data_text : Asked → Log → List Row → List ℕ
data_text a log rs =
    codes "jet page 1\nrows\n" ++ joined_rows rs ++ told_text a log ++ number_line (codes "end") (length rs)

-- the data of the page of a query, over the run from a state under a log
abbrev pub page_data : Query → State → Log → List ℕ
page_data q state log = data_text (asked q (trace state log)) log (rows q (trace state log))
