-- The lines that tell a run's calls, one for each.
use Rattle.std.specs.Prelude.{ℕ, List, [], ◌∷◌, ◌++◌, length, ℤ, pos, negsuc, codes}
use Rattle.std.specs.Fmt.{decimal, signed_decimal}
use Rattle.isa.specs.Calls.{channel_of, buffer_of, length_of}
use Rattle.log_model.specs.declared.CallRecord.{CallRecord}
use Rattle.log_model.specs.declared.CallRecord.TheVariants.{Read, Write, Clock, Other}
use Rattle.flow_model.specs.declared.Loc.TheVariants.{Mem}
use Rattle.report_model.specs.Text.{name_text, loc_text}
use Rattle.printed_names.specs.Quoted.{quoted_text}
use Rattle.run_output.specs.declared.ways.Way.{Way}
use Rattle.run_output.specs.declared.ways.Way.TheVariants.{Received, Written}
use Rattle.run_output.specs.Ways.{moved}

-- the bytes that a read or a write moved, 0 of them too: the step, the channel, how many bytes were moved on it that
-- way before, the address of the first, and the bytes
pub record Piece : Type 0 where
  pub at : ℕ
  pub channel : ℕ
  pub offset : ℕ
  pub address : ℕ
  pub bytes : List ℕ

-- a read or a write that was refused: the step, the channel, the result, how many bytes it asked for, and the address
pub record Refusal : Type 0 where
  pub at : ℕ
  pub channel : ℕ
  pub result : ℤ
  pub asked : ℕ
  pub address : ℕ

-- what a line tells: bytes that were moved, a refusal, the clock's value at a step, or the number of another call
pub data Line : Type 0 where
  MovedLine : Way → Piece → Line
  RefusedLine : Way → Refusal → Line
  ClockLine : ℕ → ℕ → Line
  OtherLine : ℕ → ℕ → Line

-- ---- the lines of calls

abbrev pub piece : ℕ → List ℕ → ℕ → List ℕ → Piece
piece at args offset bytes = record {
  at = at;
  channel = channel_of args;
  offset = offset;
  address = buffer_of args;
  bytes = bytes;
}

abbrev pub refusal : ℕ → List ℕ → ℤ → Refusal
refusal at args result = record {
  at = at;
  channel = channel_of args;
  result = result;
  asked = length_of args;
  address = buffer_of args;
}

-- the line of a read or a write, which has a negative result where it was refused
abbrev pub transfer_line : Way → ℕ → ℕ → List ℕ → ℤ → List ℕ → Line
transfer_line way offset at args (pos n) bytes = MovedLine way (piece at args offset bytes)
transfer_line way offset at args (negsuc n) bytes = RefusedLine way (refusal at args (negsuc n))

-- the line of a call, where so many bytes were moved each way on each channel before
abbrev pub line_of : (Way → ℕ → ℕ) → CallRecord → Line
line_of before (Read at args result bytes) =
    transfer_line Received (before Received (channel_of args)) at args result bytes
line_of before (Write at args result bytes) =
    transfer_line Written (before Written (channel_of args)) at args result bytes
line_of before (Clock at value) = ClockLine at value
line_of before (Other at number) = OtherLine at number

-- how many bytes these calls moved each way on each channel
abbrev pub counts_of : List CallRecord → Way → ℕ → ℕ
counts_of done way channel = length (moved way channel done)

-- the lines of calls that follow these
abbrev pub lines_after : List CallRecord → List CallRecord → List Line
lines_after done [] = []
lines_after done (r ∷ rs) = line_of (counts_of done) r ∷ lines_after (done ++ r ∷ []) rs

-- ---- their text

abbrev pub word_of : Way → List ℕ
word_of Received = codes " read "
word_of Written = codes " write "

-- how many bytes, and the address of the first
abbrev pub extent_text : ℕ → ℕ → List ℕ
extent_text count address = codes " " ++ decimal count ++ codes " " ++ loc_text (Mem address)

-- `T read C:O n m:A TEXT` and `T write C:O n m:A TEXT`
abbrev pub piece_text : Way → Piece → List ℕ
piece_text way p =
    decimal p.at ++ word_of way ++ name_text p.channel p.offset ++ extent_text (length p.bytes) p.address ++
    codes " " ++ quoted_text p.bytes ++ 0x0a ∷ []

-- a channel, and the result of a call on it
abbrev pub refused_text : ℕ → ℤ → List ℕ
refused_text channel result = decimal channel ++ codes " " ++ signed_decimal result

-- `T read C RESULT n m:A` and `T write C RESULT n m:A`
abbrev pub refusal_text : Way → Refusal → List ℕ
refusal_text way r =
    decimal r.at ++ word_of way ++ refused_text r.channel r.result ++ extent_text r.asked r.address ++ 0x0a ∷ []

-- `T clock VALUE`, `T other NUMBER`
abbrev pub number_text : ℕ → List ℕ → ℕ → List ℕ
number_text at word number = decimal at ++ word ++ decimal number ++ 0x0a ∷ []

abbrev pub line_text : Line → List ℕ
line_text (MovedLine way p) = piece_text way p
line_text (RefusedLine way r) = refusal_text way r
line_text (ClockLine at value) = number_text at (codes " clock ") value
line_text (OtherLine at number) = number_text at (codes " other ") number
