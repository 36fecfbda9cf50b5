-- A report in runs: output bytes one after the other whose source bytes go on alike.
use Rattle.std.specs.Prelude.{◌+◌, ◌==◌, Bool, true, false, not, ◌&&◌, ◌||◌, List, [], ◌∷◌, ◌++◌, length}
use Rattle.std.specs.List.{filter, list_all}
use Rattle.std.specs.Cmp.Lexicographic.{pointwise}
use Rattle.flow_model.specs.declared.SourceByte.{SourceByte}
use Rattle.flow_model.specs.declared.SinkPoint.{SinkPoint}
use Rattle.flow_model.specs.declared.SinkPoint.TheVariants.{Out, At}
use Rattle.report_model.specs.Rows.{Row}

-- ---- which rows

abbrev pub is_output : SinkPoint → Bool
is_output (Out b) = true
is_output (At p) = false

-- a row that has a source
abbrev pub has_any : List SourceByte → Bool
has_any [] = false
has_any (b ∷ bs) = true

-- the rows of output bytes that have a source, those of points that have one, and the others
abbrev pub output_rows : List Row → List Row
output_rows rs = filter (λ r. is_output r.sink && has_any r.sources) rs

abbrev pub point_rows : List Row → List Row
point_rows rs = filter (λ r. not (is_output r.sink) && has_any r.sources) rs

abbrev pub rows_without : List Row → List Row
rows_without rs = filter (λ r. not (has_any r.sources)) rs

-- ---- rows that go on

-- the second is the output byte after the first
abbrev pub is_next_sink : SinkPoint → SinkPoint → Bool
is_next_sink (Out a) (Out b) = (a.channel == b.channel) && (a.offset + 1 == b.offset)
is_next_sink (Out a) (At q) = false
is_next_sink (At p) t = false

-- each is one source byte, and the second's is the one after the first's
abbrev pub is_next_source : List SourceByte → List SourceByte → Bool
is_next_source (x ∷ []) (y ∷ []) = (x.channel == y.channel) && (x.offset + 1 == y.offset)
is_next_source (x ∷ []) (y ∷ z ∷ ys) = false
is_next_source (x ∷ []) [] = false
is_next_source (x ∷ w ∷ xs) ys = false
is_next_source [] ys = false

abbrev pub same_source : SourceByte → SourceByte → Bool
same_source a b = (a.channel == b.channel) && (a.offset == b.offset)

abbrev pub same_sources : List SourceByte → List SourceByte → Bool
same_sources xs ys = pointwise same_source xs ys

-- the rows are of neighbouring output bytes, and the sources of each stand so to those of the one before it
abbrev pub go_on : (List SourceByte → List SourceByte → Bool) → List Row → Bool
go_on stand [] = true
go_on stand (r ∷ []) = true
go_on stand (r ∷ s ∷ rs) = is_next_sink r.sink s.sink && stand r.sources s.sources && go_on stand (s ∷ rs)

abbrev pub has_one : Row → Bool
has_one r = length r.sources == 1

-- each has one source byte, and these are neighbours of one channel
abbrev pub is_moved : List Row → Bool
is_moved run = list_all has_one run && go_on is_next_source run

-- all have the same source bytes
abbrev pub is_shared : List Row → Bool
is_shared run = go_on same_sources run

abbrev pub is_run : List Row → Bool
is_run run = is_moved run || is_shared run

-- ---- the runs of rows

-- the runs of rows that follow a run: as long as it is one with the next row, it takes that in
abbrev pub runs_after : List Row → List Row → List (List Row)
runs_after run [] = run ∷ []
runs_after run (r ∷ rs) =
    elim (is_run (run ++ r ∷ [])) [
      | true ↦ runs_after (run ++ r ∷ []) rs
      | false ↦ run ∷ runs_after (r ∷ []) rs
    ]

-- the runs of rows, each as long as can be, from the front
abbrev pub runs : List Row → List (List Row)
runs [] = []
runs (r ∷ rs) = runs_after (r ∷ []) rs
