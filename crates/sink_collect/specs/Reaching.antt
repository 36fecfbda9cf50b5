-- What source bytes of one range came to, and what a row adds to it.
use Rattle.std.specs.Prelude.{◌≡◌, ℕ, Bool, true, false, List, [], ◌∷◌, ◌++◌, length, map, All}
use Rattle.std.specs.List.{flat_map}
use Rattle.flow_model.specs.declared.SinkPoint.{SinkPoint}
use Rattle.flow_model.specs.declared.SourceByte.{SourceByte}
use Rattle.flow_model.specs.Orders.{source_cmp}
use Rattle.lists.specs.Sets.{has}
use Rattle.report_model.specs.Rows.{Row}
use Rattle.report_model.specs.Influence.{Reach, reached, reach_text}
use Rattle.source_ranges.specs.declared.SourceRange.{SourceRange}
use Rattle.source_ranges.specs.Kept.{IsRange}
use Rattle.source_ranges.specs.Ranges.{bytes_of}
use Rattle.sink_collect.specs.Places.{first_of}

-- source bytes of a range, with the output bytes and the points that each of them came to
pub record Stretch : Type 0 where
  pub range : SourceRange
  pub sinks : List SinkPoint

abbrev pub reach_of : List SinkPoint → SourceByte → Reach
reach_of sinks b = record { source = b; sinks = sinks }

-- the line of a source byte that came to these
abbrev pub line_of : List SinkPoint → SourceByte → List ℕ
line_of sinks b = reach_text (reach_of sinks b)

-- the reach of each of its bytes
abbrev pub reaches_in : Stretch → List Reach
reaches_in s = map (reach_of s.sinks) (bytes_of s.range)

-- the stretches have bytes, so many together
pub record AreCounted (ss : List Stretch) (count : ℕ) : Type 0 where
  pub ranges : All (λ s. IsRange s.range) ss
  pub count_is : length (flat_map reaches_in ss) ≡ count

-- ranges, with what their first bytes came to by these rows
abbrev pub stretches : List Row → List SourceRange → List Stretch
stretches rows ranges = map (λ r. record { range = r; sinks = reached rows (first_of r) }) ranges

-- s where the test holds, and nothing otherwise
abbrev pub one_if : Bool → SinkPoint → List SinkPoint
one_if true s = s ∷ []
one_if false s = []

-- the stretch, and s besides where the test holds
abbrev pub with_sink_if : Bool → SinkPoint → Stretch → Stretch
with_sink_if b s r = record { range = r.range; sinks = r.sinks ++ one_if b s }

-- the stretch, and s besides where its first byte is one of these
abbrev pub with_sink : SinkPoint → List SourceByte → Stretch → Stretch
with_sink s bytes r = with_sink_if (has source_cmp (first_of r.range) bytes) s r

-- the stretch, and the row's output byte or point besides, where the row lists its first byte
abbrev pub with_row : Row → Stretch → Stretch
with_row row r = with_sink row.sink row.sources r
