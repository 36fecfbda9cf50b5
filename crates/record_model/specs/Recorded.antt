-- Which log recording a run gives.
use Rattle.std.specs.Prelude.{◌≡◌, ℕ, ◌<◌, ◌≤◌, ◌^◌, min, List, [], ◌∷◌, ◌++◌, length, map, take, drop, pos, negsuc, slice_index_or, IsSome}
use Rattle.std.specs.List.{flat_map, range_with_len, AllByRecursion}
use Rattle.isa.specs.Calls.{channel_of, length_of}
use Rattle.elf_model.specs.Image.{image}
use Rattle.log_model.specs.declared.CallRecord.{CallRecord}
use Rattle.log_model.specs.declared.CallRecord.TheVariants.{Read, Write, Clock, Other}
use Rattle.log_model.specs.declared.RunEnd.{RunEnd}
use Rattle.log_model.specs.declared.RunEnd.TheVariants.{Exit, Trap, Limit}
use Rattle.log_model.specs.Logs.{Log, IsLog, IsBytes}
use Rattle.log_model.specs.Moved.{received}
use Rattle.replay_model.specs.Fits.{Fits, start_in_image}

-- what a run is recorded with: the program file, the pages of its window, the bytes of each input channel, how many
-- bytes a read gets at most, and after how many steps the run is cut off
pub record Setting : Type 0 where
  pub program : List ℕ
  pub pages : ℕ
  pub inputs : List (List ℕ)
  pub piece : ℕ
  pub steps : ℕ

-- the bytes of an input channel, where there is one
abbrev pub input_of : List (List ℕ) → ℕ → List ℕ
input_of inputs channel = slice_index_or inputs channel []

-- what a read with these arguments gets of its channel from an offset on: as many bytes as it asks for, at most a
-- piece, and no more than there are
abbrev pub part_of : List (List ℕ) → ℕ → ℕ → List ℕ → List ℕ
part_of inputs piece offset args = take (min (length_of args) piece) (drop offset (input_of inputs (channel_of args)))

-- after these calls a read that isn't refused gets the next bytes of its channel. Of other calls nothing is said
abbrev pub ReadsNext : List (List ℕ) → ℕ → List CallRecord → CallRecord → Type 0
ReadsNext inputs piece before (Read at args (pos n) bytes) =
    bytes ≡ part_of inputs piece (length (received (channel_of args) before)) args
ReadsNext inputs piece before (Read at args (negsuc n) bytes) = Unit {0}
ReadsNext inputs piece before (Write at args result bytes) = Unit {0}
ReadsNext inputs piece before (Clock at value) = Unit {0}
ReadsNext inputs piece before (Other at number) = Unit {0}

-- each of these calls reads so, after those before it
abbrev pub AllReadNext : List (List ℕ) → ℕ → List CallRecord → List CallRecord → Type 0
AllReadNext inputs piece before [] = Unit {0}
AllReadNext inputs piece before (r ∷ rs) = ReadsNext inputs piece before r × AllReadNext inputs piece (before ++ r ∷ [])
    rs

-- what the clock answered a call
abbrev pub clock_values_of : CallRecord → List ℕ
clock_values_of (Read at args result bytes) = []
clock_values_of (Write at args result bytes) = []
clock_values_of (Clock at value) = value ∷ []
clock_values_of (Other at number) = []

-- all answers of the clock, in order
abbrev pub clock_values : List CallRecord → List ℕ
clock_values records = flat_map clock_values_of records

-- the run ended by itself in fewer steps than this, or it was cut off once they were done
abbrev pub EndsWithin : ℕ → RunEnd → Type 0
EndsWithin steps (Exit at code) = at < steps
EndsWithin steps (Trap at kind pc) = at < steps
EndsWithin steps (Limit at) = at ≡ steps

-- the log is that of the run with this setting, in which the clock gave these answers
pub record IsRecorded (s : Setting) (answers : List ℕ) (log : Log) : Type 0 where
  pub is_log : IsLog log
  pub has_pages : log.pages ≡ s.pages
  pub has_channels : log.inputs ≡ length s.inputs
  pub fits : Fits s.program log
  pub reads_inputs : AllReadNext s.inputs s.piece [] log.records
  pub has_answers : clock_values log.records ≡ answers
  pub ends_within : EndsWithin s.steps log.end

-- a run can be recorded so: the program is a file of bytes, whose image the window can hold; there are at most 16 channels, of
-- bytes, of which no read gets 2 ^ 31; and the window and the number of steps are in range
pub record CanRecord (s : Setting) : Type 0 where
  pub program : IsBytes s.program
  pub pages : (1 ≤ s.pages) × (s.pages ≤ 4096)
  pub begins : IsSome (start_in_image (image s.program) s.pages)
  pub channels : length s.inputs ≤ 16
  pub inputs : AllByRecursion IsBytes s.inputs
  pub pieces : (channel : ℕ) → min s.piece (length (input_of s.inputs channel)) < 2 ^ 31
  pub steps : s.steps ≤ 2 ^ 40

-- a recording: the log of a run in which the clock gave the first of its answers, in turn
pub record Recording (s : Setting) (clock : ℕ → ℕ) : Type 0 where
  pub asked : ℕ
  pub log : Log
  pub is_recorded : IsRecorded s (map clock (range_with_len 0 asked)) log

-- these bytes are the first of an input
abbrev pub IsFrontOf : List ℕ → List ℕ → Type 0
IsFrontOf front whole = take (length front) whole ≡ front
