-- The influence of source bytes: a query's rows turned round.
use Rattle.std.specs.Prelude.{ℕ, ◌+◌, List, [], ◌∷◌, ◌++◌, map, length, codes, Option, Some, None}
use Rattle.std.specs.List.{filter, flat_map, range_with_len}
use Rattle.std.specs.Fmt.{decimal}
use Rattle.isa.specs.declared.CallKind.{CallKind}
use Rattle.isa.specs.declared.CallKind.TheVariants as kind
use Rattle.flow_model.specs.declared.SourceByte.{SourceByte}
use Rattle.flow_model.specs.declared.SinkPoint.{SinkPoint}
use Rattle.flow_model.specs.declared.StepSeen.{StepSeen}
use Rattle.flow_model.specs.declared.CallSeen.{CallSeen}
use Rattle.lists.specs.Sets.{set_of, has}
use Rattle.flow_model.specs.Orders.{source_cmp}
use Rattle.report_model.specs.Query.{Query, has_source}
use Rattle.report_model.specs.Rows.{Row, rows}
use Rattle.report_model.specs.Text.{name_text, point_text}

-- the i-th byte of a read
abbrev pub source_at : CallSeen → ℕ → SourceByte
source_at call i = record { channel = call.channel; offset = call.offset + i }

-- the source bytes that a call of this kind received
abbrev pub sources_of_call : CallSeen → CallKind → List SourceByte
sources_of_call call kind.Read = map (source_at call) (range_with_len 0 call.length)
sources_of_call call kind.Write = []
sources_of_call call kind.Clock = []
sources_of_call call kind.Other = []
sources_of_call call kind.Exit = []

abbrev pub sources_of_step : Option CallSeen → List SourceByte
sources_of_step None = []
sources_of_step (Some call) = sources_of_call call call.kind

-- the source bytes that a trace received, in the order of reading
abbrev pub sources_of : List StepSeen → List SourceByte
sources_of trace = flat_map (λ s. sources_of_step s.call) trace

-- those that the query chooses, by channel and then offset
abbrev pub chosen_sources : Query → List StepSeen → List SourceByte
chosen_sources q trace = set_of source_cmp (filter (has_source q) (sources_of trace))

-- a source byte, with the output bytes and the points that it came to, ascending
pub record Reach : Type 0 where
  pub source : SourceByte
  pub sinks : List SinkPoint

-- the output bytes and points of those rows that list a source byte
abbrev pub reached : List Row → SourceByte → List SinkPoint
reached rs b = map (λ r. r.sink) (filter (λ r. has source_cmp b r.sources) rs)

-- rows turned round, for these source bytes
abbrev pub turned : List Row → List SourceByte → List Reach
turned rs sources = map (λ b. record { source = b; sinks = reached rs b }) sources

-- the influence of the source bytes that a trace received and the query chooses
abbrev pub influence : Query → List StepSeen → List Reach
influence q trace = turned (rows q trace) (chosen_sources q trace)

-- ---- its text

abbrev pub sink_text : SinkPoint → List ℕ
sink_text s = codes " " ++ point_text s

-- the source byte, the output bytes and points that it came to in order, each after a blank, and a line feed
abbrev pub reach_text : Reach → List ℕ
reach_text r = name_text r.source.channel r.source.offset ++ flat_map sink_text r.sinks ++ 0x0a ∷ []

-- a line for each source byte, and then `end N`, N the number of those lines
abbrev pub influence_text : List Reach → List ℕ
influence_text rs = flat_map reach_text rs ++ codes "end " ++ decimal (length rs) ++ 0x0a ∷ []
