-- Worked examples, computed by the checker.
use Rattle.std.proofs.Common.{◌≡◌, ℕ, List, [], ◌∷◌, pos, negsuc, refl}
use Rattle.std.specs.Prelude.{codes}
use Rattle.std.specs.Fmt.{digits}
use Rattle.hex.specs.Hex.{encode_with}
use Rattle.base64.specs.Rfc4648.{encode_symbols}
use Rattle.log_model.specs.declared.CallRecord.TheVariants.{Read, Write, Clock}
use Rattle.log_model.specs.declared.RunEnd.TheVariants.{Trap}
use Rattle.log_model.specs.Logs.{Log}
use Rattle.flow_model.specs.declared.Rule.TheVariants.{Copy}
use Rattle.flow_model.specs.declared.Loc.{Loc}
use Rattle.flow_model.specs.declared.Loc.TheVariants.{Reg, Mem}
use Rattle.flow_model.specs.declared.SourceByte.{SourceByte}
use Rattle.flow_model.specs.declared.SinkPoint.TheVariants.{Out, At}
use Rattle.report_model.specs.Rows.{Row}
use Rattle.page_data.specs.Rows.{joined_rows}
use Rattle.page_data.specs.Data.{run_text, channel_lines, call_line, moved_text, asked_text, told_text, data_text}

abbrev source : ℕ → ℕ → SourceByte
source c o = record { channel = c; offset = o }

-- the row of an output byte, and of a point
abbrev out : ℕ → ℕ → List SourceByte → Row
out c o sources = record { sink = Out (record { channel = c; offset = o }); sources = sources }

abbrev at : ℕ → Loc → List SourceByte → Row
at t l sources = record { sink = At (record { time = t; loc = l }); sources = sources }

-- ---- rows

-- rows that go on: by moved bytes, by shared sources, by either; and without source bytes both say it
going_on-text : (joined_rows (out 1 0 (source 0 7 ∷ []) ∷ out 1 1 (source 0 8 ∷ []) ∷ out 1 2 (source 0 9 ∷ []) ∷ []) ≡ codes "1:0 0:7-8\n++")
    × (joined_rows (out 1 0 (source 0 3 ∷ source 0 4 ∷ source 2 4 ∷ []) ∷ out 1 1 (source 0 3 ∷ source 0 4 ∷ source 2 4 ∷ []) ∷ []) ≡ codes "1:0 0:3-5 2:4-5\n=")
    × (joined_rows (out 1 0 (source 0 1 ∷ []) ∷ out 1 1 (source 0 1 ∷ []) ∷ out 1 2 (source 0 2 ∷ []) ∷ []) ≡ codes "1:0 0:1-2\n=+")
    × (joined_rows (out 1 0 [] ∷ out 1 1 [] ∷ []) ≡ codes "1:0\n=")
unfolding digits
going_on-text = (refl, refl, refl, refl)

-- a gap, another channel of output, fewer source bytes, another channel of input
apart-text : (joined_rows (out 1 0 (source 0 1 ∷ []) ∷ out 1 2 (source 0 2 ∷ []) ∷ []) ≡ codes "1:0 0:1-2\n1:2 0:2-3\n")
    × (joined_rows (out 1 5 (source 0 1 ∷ []) ∷ out 2 6 (source 0 2 ∷ []) ∷ []) ≡ codes "1:5 0:1-2\n2:6 0:2-3\n")
    × (joined_rows (out 1 0 (source 0 1 ∷ source 0 2 ∷ []) ∷ out 1 1 (source 0 2 ∷ []) ∷ []) ≡ codes "1:0 0:1-3\n1:1 0:2-3\n")
    × (joined_rows (out 1 0 (source 0 1 ∷ []) ∷ out 1 1 (source 1 2 ∷ []) ∷ []) ≡ codes "1:0 0:1-2\n1:1 1:2-3\n")
unfolding digits
apart-text = (refl, refl, refl, refl)

-- addresses at one time go on, at another time they don't, nor do lanes
points-text : (joined_rows (at 3 (Mem 10) (source 0 1 ∷ []) ∷ at 3 (Mem 11) (source 0 2 ∷ []) ∷ at 4 (Mem 12) (source 0 3 ∷ []) ∷ []) ≡ codes "m:10@3 0:1-2\n+m:12@4 0:3-4\n")
    × (joined_rows (at 3 (Reg 5 0) (source 0 1 ∷ []) ∷ at 3 (Reg 5 1) (source 0 2 ∷ []) ∷ []) ≡ codes "r:5.0@3 0:1-2\nr:5.1@3 0:2-3\n")
unfolding digits
points-text = (refl, refl)

-- ---- calls

-- a read and a write; a refused read, and the clock
calls-text : (call_line (Read 5 (0 ∷ 0x10100 ∷ 4 ∷ []) (pos 4) (codes "ABCD")) ≡ codes "r 0 4 5\n")
    × (call_line (Write 8 (1 ∷ 0x10100 ∷ 4 ∷ []) (pos 4) (codes "ABCD")) ≡ codes "w 1 4 8\n")
    × (call_line (Read 5 (99 ∷ 0x10100 ∷ 4 ∷ []) (negsuc 8) []) ≡ [])
    × (call_line (Clock 5 7) ≡ [])
unfolding digits
calls-text = (refl, refl, refl, refl)

-- ---- the data of a run that reads two bytes and writes them, its program's digest cut short

abbrev copy_two : Log
copy_two = record {
  pages = 1;
  inputs = 1;
  digest = 0xab ∷ 0x01 ∷ [];
  records = Read 5 (0 ∷ 0x10100 ∷ 2 ∷ []) (pos 2) (codes "AB") ∷ Write 8 (1 ∷ 0x10100 ∷ 2 ∷ []) (pos 2) (codes "AB") ∷ [];
  end = Trap 9 2 0x10000;
}

copy_two-text : data_text (record { rule = Copy; points = 0; sources = source 0 0 ∷ source 0 1 ∷ [] }) copy_two (out 1 0 (source 0 0 ∷ []) ∷ out 1 1 (source 0 1 ∷ []) ∷ [])
    ≡ codes "jet page 1\nrows\n1:0 0:0-1\n+program ab01\nsteps 9\ncalls 2\nread 2\nwritten 2\nend trap 2 65536\nrule copy\npoints 0\nsources 0:0-2\nin 0 QUI=\nin 1 \nin 2 \nin 3 \nin 4 \nin 5 \nin 6 \nin 7 \nin 8 \nin 9 \nin 10 \nin 11 \nin 12 \nin 13 \nin 14 \nin 15 \nout 0 \nout 1 QUI=\nout 2 \nout 3 \nout 4 \nout 5 \nout 6 \nout 7 \nout 8 \nout 9 \nout 10 \nout 11 \nout 12 \nout 13 \nout 14 \nout 15 \nr 0 2 5\nw 1 2 8\nend 2\n"
unfolding digits encode_with encode_symbols run_text channel_lines moved_text asked_text told_text
copy_two-text = refl
