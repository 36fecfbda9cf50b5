-- The text of a report.
use Rattle.std.specs.Prelude.{ℕ, List, [], ◌∷◌, ◌++◌, length, codes}
use Rattle.std.specs.List.{flat_map}
use Rattle.std.specs.Fmt.{decimal}
use Rattle.flow_model.specs.declared.Loc.{Loc}
use Rattle.flow_model.specs.declared.Loc.TheVariants.{Reg, Mem}
use Rattle.flow_model.specs.declared.SourceByte.{SourceByte}
use Rattle.flow_model.specs.declared.SinkPoint.{SinkPoint}
use Rattle.flow_model.specs.declared.SinkPoint.TheVariants.{Out, At}
use Rattle.report_model.specs.Rows.{Row}

-- `c:o`, in plain decimals
abbrev pub name_text : ℕ → ℕ → List ℕ
name_text c o = decimal c ++ codes ":" ++ decimal o

-- `r:R.i` of lane i of register R, `m:A` of address A
abbrev pub loc_text : Loc → List ℕ
loc_text (Reg r i) = codes "r:" ++ decimal r ++ codes "." ++ decimal i
loc_text (Mem p) = codes "m:" ++ decimal p

-- `c:o` of an output byte; the location and `@T` of a point at time T
abbrev pub point_text : SinkPoint → List ℕ
point_text (Out b) = name_text b.channel b.offset
point_text (At p) = loc_text p.loc ++ codes "@" ++ decimal p.time

abbrev pub source_text : SourceByte → List ℕ
source_text b = codes " " ++ name_text b.channel b.offset

-- the output byte or the point, its source bytes in order, each after a blank, and a line feed
abbrev pub row_text : Row → List ℕ
row_text r = point_text r.sink ++ flat_map source_text r.sources ++ 0x0a ∷ []

-- a line for each row, and then `end N`, N the number of those lines
abbrev pub report_text : List Row → List ℕ
report_text rs = flat_map row_text rs ++ codes "end " ++ decimal (length rs) ++ 0x0a ∷ []
