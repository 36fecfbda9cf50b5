-- The orders of locations, of source bytes, of output bytes and of points inside a run, by which sets of them ascend.
use Rattle.std.specs.Prelude.{ℕ, List, [], ◌∷◌}
use Rattle.std.specs.Ordering.{nat_cmp}
use Rattle.std.specs.Cmp.Lexicographic.{slice_cmp}
use Rattle.std.specs.declared.cmp.Ordering.{Ordering}
use Rattle.flow_model.specs.declared.Loc.{Loc}
use Rattle.flow_model.specs.declared.Loc.TheVariants.{Reg, Mem}
use Rattle.flow_model.specs.declared.SourceByte.{SourceByte}
use Rattle.flow_model.specs.declared.SinkByte.{SinkByte}
use Rattle.flow_model.specs.declared.InnerSink.{InnerSink}
use Rattle.flow_model.specs.declared.SinkPoint.{SinkPoint}
use Rattle.flow_model.specs.declared.SinkPoint.TheVariants.{Out, At}

-- registers first, by number and lane, and then memory by place
abbrev pub loc_key : Loc → List ℕ
loc_key (Reg r i) = 0 ∷ r ∷ i ∷ []
loc_key (Mem p) = 1 ∷ p ∷ []

abbrev pub loc_cmp : Loc → Loc → Ordering
loc_cmp a b = slice_cmp nat_cmp (loc_key a) (loc_key b)

-- by channel and then offset
abbrev pub source_key : SourceByte → List ℕ
source_key b = b.channel ∷ b.offset ∷ []

abbrev pub source_cmp : SourceByte → SourceByte → Ordering
source_cmp a b = slice_cmp nat_cmp (source_key a) (source_key b)

abbrev pub sink_key : SinkByte → List ℕ
sink_key b = b.channel ∷ b.offset ∷ []

abbrev pub sink_cmp : SinkByte → SinkByte → Ordering
sink_cmp a b = slice_cmp nat_cmp (sink_key a) (sink_key b)

-- by time and then location
abbrev pub inner_key : InnerSink → List ℕ
inner_key p = p.time ∷ loc_key p.loc

abbrev pub inner_cmp : InnerSink → InnerSink → Ordering
inner_cmp a b = slice_cmp nat_cmp (inner_key a) (inner_key b)

-- output bytes first, and then locations inside the run
abbrev pub point_key : SinkPoint → List ℕ
point_key (Out b) = 0 ∷ sink_key b
point_key (At p) = 1 ∷ inner_key p

abbrev pub point_cmp : SinkPoint → SinkPoint → Ordering
point_cmp a b = slice_cmp nat_cmp (point_key a) (point_key b)
