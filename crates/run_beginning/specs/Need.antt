-- How many of a run's first steps the rows of a query need, as the run's log tells it.
use Rattle.std.specs.Prelude.{ℕ, ◌+◌, nat_lt, nat_le, max, Bool, true, false, if◌then◌else◌, List, [], ◌∷◌, ◌++◌, length, map}
use Rattle.std.specs.List.{list_any, range_with_len}
use Rattle.isa.specs.Calls.{channel_of}
use Rattle.log_model.specs.declared.CallRecord.{CallRecord}
use Rattle.log_model.specs.declared.CallRecord.TheVariants.{Read, Write, Clock, Other}
use Rattle.log_model.specs.Logs.{Log, at_of, steps}
use Rattle.log_model.specs.Moved.{written}
use Rattle.flow_model.specs.declared.InnerSink.{InnerSink}
use Rattle.flow_model.specs.declared.SinkPoint.{SinkPoint}
use Rattle.flow_model.specs.declared.SinkPoint.TheVariants.{Out}
use Rattle.report_model.specs.Query.{Query, has_sink}
use Rattle.report_model.specs.Needed.{greatest}

-- ---- output bytes

abbrev pub output_byte : ℕ → ℕ → ℕ → SinkPoint
output_byte channel from i = Out (record { channel = channel; offset = from + i })

-- n output bytes of a channel, from an offset on. No run writes on a channel that isn't below 16
abbrev pub output_bytes : Bool → ℕ → ℕ → ℕ → List SinkPoint
output_bytes true channel from n = map (output_byte channel from) (range_with_len 0 n)
output_bytes false channel from n = []

-- the output bytes of a call, where so many bytes were written on each channel before
abbrev pub bytes_of_call : (ℕ → ℕ) → CallRecord → List SinkPoint
bytes_of_call before (Read at args result bytes) = []
bytes_of_call before (Write at args result bytes) =
    output_bytes (nat_lt (channel_of args) 16) (channel_of args) (before (channel_of args)) (length bytes)
bytes_of_call before (Clock at value) = []
bytes_of_call before (Other at number) = []

-- a call's own step is needed where the query chooses one of its output bytes
abbrev pub steps_for_call : Query → (ℕ → ℕ) → CallRecord → ℕ
steps_for_call q before r = if list_any (has_sink q) (bytes_of_call before r) then at_of r + 1 else 0

-- how many bytes these calls wrote on a channel
abbrev pub written_before : List CallRecord → ℕ → ℕ
written_before done channel = length (written channel done)

-- what calls need that follow these
abbrev pub steps_for_calls : Query → List CallRecord → List CallRecord → ℕ
steps_for_calls q done [] = 0
steps_for_calls q done (r ∷ rs) = max (steps_for_call q (written_before done) r) (steps_for_calls q (done ++ r ∷ []) rs)

-- ---- points

-- what a point needs, where it lies inside a run of n steps
abbrev pub steps_for_point : ℕ → InnerSink → ℕ
steps_for_point n p = if nat_le p.time n then p.time else 0

abbrev pub steps_for_points : ℕ → List InnerSink → ℕ
steps_for_points n points = greatest (map (steps_for_point n) points)

-- ---- both

abbrev pub needed_by_log : Query → Log → ℕ
needed_by_log q log = max (steps_for_calls q [] log.records) (steps_for_points (steps log) q.points)
