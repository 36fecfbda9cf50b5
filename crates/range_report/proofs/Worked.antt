-- Worked examples of runs and of their text, computed by the checker.
use Rattle.std.proofs.Common.{◌≡◌, ℕ, List, [], ◌∷◌, ◌++◌, length, map, refl, pos}
use Prim.Native.String.{String}
use Rattle.std.specs.Prelude.{codes}
use Rattle.std.specs.List.{flat_map}
use Rattle.std.specs.Fmt.{digits}
use Rattle.hex.specs.Hex.{encode_with}
use Rattle.log_model.specs.declared.CallRecord.TheVariants.{Read, Write}
use Rattle.log_model.specs.declared.RunEnd.TheVariants.{Exit}
use Rattle.log_model.specs.Logs.{Log}
use Rattle.flow_model.specs.declared.Loc.TheVariants.{Reg}
use Rattle.flow_model.specs.declared.SourceByte.{SourceByte}
use Rattle.flow_model.specs.declared.SinkPoint.TheVariants.{Out, At}
use Rattle.report_model.specs.Rows.{Row}
use Rattle.source_ranges.specs.Ranges.{byte_on}
use Rattle.range_report.specs.Runs.{runs}
use Rattle.range_report.specs.Text.{ranges_report}

abbrev of_lines : List String → List ℕ
of_lines ls = flat_map (λ l. codes l ++ 0x0a ∷ []) ls

-- the output byte of offset o of channel c, and the point at lane 0 of a register after two steps
abbrev out : ℕ → ℕ → List SourceByte → Row
out c o bs = record { sink = Out (record { channel = c; offset = o }); sources = bs }

abbrev point : ℕ → List SourceByte → Row
point r bs = record { sink = At (record { time = 2; loc = Reg r 0 }); sources = bs }

-- offset o of channel 0
abbrev b : ℕ → SourceByte
b o = byte_on 0 o

-- ---- runs

moved_on : map length (runs (out 1 4 (b 7 ∷ []) ∷ out 1 5 (b 8 ∷ []) ∷ out 1 6 (b 9 ∷ []) ∷ [])) ≡ 3 ∷ []
moved_on = refl

-- the offsets of the output bytes, or those of their sources, aren't neighbours
over_a_gap : map length (runs (out 1 4 (b 7 ∷ []) ∷ out 1 6 (b 8 ∷ []) ∷ out 1 7 (b 9 ∷ []) ∷ out 1 8 (b 11 ∷ []) ∷ [])) ≡ 1 ∷ 2 ∷ 1 ∷ []
over_a_gap = refl

-- two channels of output, and two of input
over_channels : map length (runs (out 1 4 (b 7 ∷ []) ∷ out 2 5 (b 8 ∷ []) ∷ out 2 6 (byte_on 3 9 ∷ []) ∷ [])) ≡ 1 ∷ 1 ∷ 1 ∷ []
over_channels = refl

shared_on : map length (runs (out 1 4 (b 7 ∷ b 9 ∷ []) ∷ out 1 5 (b 7 ∷ b 9 ∷ []) ∷ out 1 6 (b 7 ∷ []) ∷ [])) ≡ 2 ∷ 1 ∷ []
shared_on = refl

-- the middle row goes on from the first, as moved, and would go on with the last, as shared: the first run is as long as can be
first_counts : map length (runs (out 1 4 (b 7 ∷ []) ∷ out 1 5 (b 8 ∷ []) ∷ out 1 6 (b 8 ∷ []) ∷ [])) ≡ 2 ∷ 1 ∷ []
first_counts = refl

-- one source byte in each row, the same in all
shared_one : map length (runs (out 1 4 (b 7 ∷ []) ∷ out 1 5 (b 7 ∷ []) ∷ out 1 6 (b 7 ∷ []) ∷ out 1 7 (b 8 ∷ []) ∷ [])) ≡ 3 ∷ 1 ∷ []
shared_one = refl

-- ---- texts

-- "Ab1,Ab2" is read on channel 0, in two reads, and "Ab3 x" written on channel 1
abbrev log : Log
log = record {
  pages = 1;
  inputs = 1;
  digest = [];
  records = Read 2 (0 ∷ 0 ∷ 4 ∷ []) (pos 4) (codes "Ab1,") ∷ Read 5 (0 ∷ 4 ∷ 3 ∷ []) (pos 3) (codes "Ab2") ∷ Write 9 (1 ∷ 8 ∷ 5 ∷ []) (pos 5) (codes "Ab3 x") ∷ [];
  end = Exit 12 0;
}

-- two bytes that were moved, one that three came to, and two without a source
three_kinds : ranges_report log
    (out 1 0 (b 4 ∷ []) ∷ out 1 1 (b 5 ∷ []) ∷ out 1 2 (b 2 ∷ b 3 ∷ b 6 ∷ []) ∷ out 1 3 [] ∷ out 1 4 [] ∷ [])
    ≡ of_lines ("1:0-2 \"Ab\" = 0:4-6 \"Ab\"" ∷ "1:2-3 \"3\" < 0:2-4 \"1,\" 0:6-7 \"2\"" ∷ "end 2 2" ∷ [])
unfolding digits encode_with
three_kinds = refl

-- one byte from one that isn't the same, and in a run of three the last
changed : ranges_report log (out 1 2 (b 6 ∷ []) ∷ []) ≡ of_lines ("1:2-3 \"3\" ~ 0:6-7 \"2\"" ∷ "end 1 0" ∷ [])
unfolding digits encode_with
changed = refl

changed_last : ranges_report log (out 1 0 (b 0 ∷ []) ∷ out 1 1 (b 1 ∷ []) ∷ out 1 2 (b 2 ∷ []) ∷ [])
    ≡ of_lines ("1:0-3 \"Ab3\" ~ 0:0-3 \"Ab1\"" ∷ "end 1 0" ∷ [])
unfolding digits encode_with
changed_last = refl

-- one byte from one that is the same
same_one : ranges_report log (out 1 1 (b 5 ∷ []) ∷ []) ≡ of_lines ("1:1-2 \"b\" = 0:5-6 \"b\"" ∷ "end 1 0" ∷ [])
unfolding digits encode_with
same_one = refl

-- a row without a source ends a run, and stands in no line
without_inside : ranges_report log (out 1 0 (b 0 ∷ []) ∷ out 1 1 [] ∷ out 1 2 (b 2 ∷ []) ∷ [])
    ≡ of_lines ("1:0-1 \"A\" = 0:0-1 \"A\"" ∷ "1:2-3 \"3\" ~ 0:2-3 \"1\"" ∷ "end 2 1" ∷ [])
unfolding digits encode_with
without_inside = refl

-- points, one of them without a source
points : ranges_report log (out 1 3 (b 0 ∷ b 1 ∷ []) ∷ out 1 4 (b 0 ∷ b 1 ∷ []) ∷ point 5 (b 6 ∷ []) ∷ point 6 [] ∷ [])
    ≡ of_lines ("1:3-5 \" x\" < 0:0-2 \"Ab\"" ∷ "r:5.0@2 < 0:6-7 \"2\"" ∷ "end 2 1" ∷ [])
unfolding digits encode_with
points = refl

nothing : ranges_report log [] ≡ of_lines ("end 0 0" ∷ [])
unfolding digits encode_with
nothing = refl
