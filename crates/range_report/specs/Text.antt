-- The text of a report in runs: a line for each run, with the bytes on both sides, and one for each point.
use Rattle.std.specs.Prelude.{ℕ, ◌+◌, ◌==◌, Bool, if◌then◌else◌, List, [], ◌∷◌, ◌++◌, length, codes, slice_index}
use Rattle.std.specs.List.{flat_map, list_all, slice_range}
use Rattle.std.specs.Fmt.{decimal}
use Rattle.log_model.specs.declared.CallRecord.{CallRecord}
use Rattle.log_model.specs.Logs.{Log}
use Rattle.log_model.specs.Moved.{received, written}
use Rattle.flow_model.specs.declared.SourceByte.{SourceByte}
use Rattle.flow_model.specs.declared.SinkByte.{SinkByte}
use Rattle.flow_model.specs.declared.SinkPoint.{SinkPoint}
use Rattle.flow_model.specs.declared.SinkPoint.TheVariants.{Out, At}
use Rattle.report_model.specs.Rows.{Row}
use Rattle.report_model.specs.Text.{point_text}
use Rattle.printed_names.specs.Quoted.{quoted_text}
use Rattle.source_ranges.specs.declared.SourceRange.{SourceRange}
use Rattle.source_ranges.specs.Ranges.{ranges_of, span_text, range_text}
use Rattle.range_report.specs.declared.RunKind.{RunKind}
use Rattle.range_report.specs.declared.RunKind.TheVariants.{Same, Changed, Shared}
use Rattle.range_report.specs.Runs.{output_rows, point_rows, rows_without, is_moved, runs}

-- ---- what a run is of

-- the output byte of a row of one, as all rows of runs are
abbrev pub byte_of : SinkPoint → SinkByte
byte_of (Out b) = b
byte_of (At p) = record { channel = 0; offset = 0 }

abbrev pub first_of : List Row → SinkByte
first_of [] = record { channel = 0; offset = 0 }
first_of (r ∷ rs) = byte_of r.sink

-- the source bytes of a run: those of each row where one byte was moved to each, and else those that all rows share
abbrev pub sources_of : List Row → List SourceByte
sources_of [] = []
sources_of (r ∷ rs) = if is_moved (r ∷ rs) then flat_map (λ s. s.sources) (r ∷ rs) else r.sources

-- ---- the bytes on both sides

-- the bytes that these calls wrote at the output bytes of a run, and received at a range
abbrev pub written_in : List CallRecord → List Row → List ℕ
written_in calls run =
    slice_range (written (first_of run).channel calls) (first_of run).offset ((first_of run).offset + length run)

abbrev pub received_in : List CallRecord → SourceRange → List ℕ
received_in calls r = slice_range (received r.channel calls) r.from r.past

-- the byte that was written, and one that was received; 0 where there is none
abbrev pub byte_written : List CallRecord → SinkByte → ℕ
byte_written calls b = slice_index (written b.channel calls) b.offset

abbrev pub byte_received : List CallRecord → SourceByte → ℕ
byte_received calls b = slice_index (received b.channel calls) b.offset

-- the byte that was written is that of each source
abbrev pub holds_sources : List CallRecord → Row → Bool
holds_sources calls r = list_all (λ x. byte_written calls (byte_of r.sink) == byte_received calls x) r.sources

-- moved and the same, moved and changed on the way, or from source bytes that all share
abbrev pub kind_of : List CallRecord → List Row → RunKind
kind_of calls run = if is_moved run then (if list_all (holds_sources calls) run then Same else Changed) else Shared

-- ---- the text

abbrev pub kind_text : RunKind → List ℕ
kind_text Same = codes "="
kind_text Changed = codes "~"
kind_text Shared = codes "<"

-- each range of the source bytes, and its bytes
abbrev pub range_part : List CallRecord → SourceRange → List ℕ
range_part calls r = codes " " ++ range_text r ++ codes " " ++ quoted_text (received_in calls r)

abbrev pub ranges_part : List CallRecord → List SourceByte → List ℕ
ranges_part calls bs = flat_map (range_part calls) (ranges_of bs)

-- `C:A-B`, the output bytes of a run
abbrev pub run_name : List Row → List ℕ
run_name run = span_text (first_of run).channel (first_of run).offset ((first_of run).offset + length run)

-- `C:A-B TEXT KIND`, and the ranges of the source bytes
abbrev pub run_line : List CallRecord → List Row → List ℕ
run_line calls run =
    run_name run ++ codes " " ++ quoted_text (written_in calls run) ++ codes " " ++ kind_text (kind_of calls run) ++
    ranges_part calls (sources_of run) ++ 0x0a ∷ []

-- `NAME <`, and the ranges of the source bytes
abbrev pub point_line : List CallRecord → Row → List ℕ
point_line calls r = point_text r.sink ++ codes " <" ++ ranges_part calls r.sources ++ 0x0a ∷ []

-- `end N WITHOUT`: the number of lines before it, and of rows that have no source
abbrev pub end_line : ℕ → ℕ → List ℕ
end_line lines without = codes "end " ++ decimal lines ++ codes " " ++ decimal without ++ 0x0a ∷ []

-- the lines of a report in runs, of a run that made these calls
abbrev pub run_lines : List CallRecord → List Row → List ℕ
run_lines calls rs = flat_map (run_line calls) (runs (output_rows rs))

abbrev pub point_lines : List CallRecord → List Row → List ℕ
point_lines calls rs = flat_map (point_line calls) (point_rows rs)

-- a report in runs, of the run of a log
abbrev pub ranges_report : Log → List Row → List ℕ
ranges_report log rs =
    run_lines log.records rs ++ point_lines log.records rs ++
    end_line (length (runs (output_rows rs)) + length (point_rows rs)) (length (rows_without rs))
