-- Worked examples of reports, computed by the checker.
use Rattle.std.proofs.Common.{◌≡◌, ℕ, List, [], ◌∷◌, map, replicate, refl, Option, None}
use Rattle.std.specs.Prelude.{◌++◌, Some, codes}
use Prim.Native.String.{String}
use Rattle.std.specs.List.{flat_map}
use Rattle.std.specs.Fmt.{digits}
use Rattle.isa.specs.Machine.{State}
use Rattle.log_model.specs.Logs.{Log}
use Rattle.flow_model.specs.declared.Loc.TheVariants.{Reg, Mem}
use Rattle.flow_model.specs.declared.InnerSink.{InnerSink}
use Rattle.flow_model.specs.declared.Rule.{Rule}
use Rattle.flow_model.specs.declared.Rule.TheVariants.{Copy, Compute}
use Rattle.report_model.specs.Query.{Query, Choice}
use Rattle.replay_model.specs.declared.Divergence.{Divergence}
use Rattle.replay_model.specs.Comparison.{divergence}
use Rattle.replay_model.specs.Fits.{beginning}
use Rattle.jet_model.specs.Report.{report, influence_of, reports_of, text_over}
use Rattle.jet_model.proofs.Guests.{copy_four, copy_four_log, add_words, add_words_log, xor_words, xor_words_log, less_than, less_than_log, load_signed, load_signed_log, load_unsigned, load_unsigned_log, overwrite, overwrite_log, illegal, illegal_log, unaligned, unaligned_log, jump_misaligned, jump_misaligned_log, two_reads, two_reads_log, read_clock, read_clock_log}

abbrev pub everything : List Choice
everything = record { channel = None; offsets = None } ∷ []

abbrev pub all_by : Rule → Query
all_by rule = record { rule = rule; sources = everything; sinks = everything; points = [] }

abbrev pub of_lines : List String → List ℕ
of_lines ls = flat_map (λ l. codes l ++ 0x0a ∷ []) ls

abbrev pub divergence_by : Option State → Log → Option (Option Divergence)
divergence_by None log = None
divergence_by (Some s) log = Some (divergence s log)

-- nothing differs, where the run begins
abbrev pub divergence_of : List ℕ → Log → Option (Option Divergence)
divergence_of program log = divergence_by (beginning program log) log

-- so it is in all these runs
all_agree : map (λ (run : List ℕ × Log). divergence_of run.0 run.1) (
    (copy_four, copy_four_log) ∷ (add_words, add_words_log) ∷ (xor_words, xor_words_log) ∷ (less_than, less_than_log) ∷ (load_signed, load_signed_log) ∷ (load_unsigned, load_unsigned_log) ∷
    (overwrite, overwrite_log) ∷ (illegal, illegal_log) ∷ (unaligned, unaligned_log) ∷ (jump_misaligned, jump_misaligned_log) ∷ (two_reads, two_reads_log) ∷ (read_clock, read_clock_log) ∷ []) ≡ replicate 12 (Some None)
all_agree = refl

abbrev Reports : List ℕ → Log → Query → List String → Type 0
Reports program log q lines = report program log q ≡ of_lines lines

of_all_bytes :
    -- a copy moves each byte
    Reports copy_four copy_four_log (all_by Copy) ("1:0 0:0" ∷ "1:1 0:1" ∷ "1:2 0:2" ∷ "1:3 0:3" ∷ "end 4" ∷ [])
    -- a sum is no move
    × Reports add_words add_words_log (all_by Copy) ("1:0" ∷ "1:1" ∷ "1:2" ∷ "1:3" ∷ "end 4" ∷ [])
    -- each byte of a sum comes from all bytes of both operands
    × Reports add_words add_words_log (all_by Compute) ("1:0 0:0 0:1 0:2 0:3 0:4 0:5 0:6 0:7" ∷ "1:1 0:0 0:1 0:2 0:3 0:4 0:5 0:6 0:7" ∷ "1:2 0:0 0:1 0:2 0:3 0:4 0:5 0:6 0:7" ∷ "1:3 0:0 0:1 0:2 0:3 0:4 0:5 0:6 0:7" ∷ "end 4" ∷ [])
    -- each byte of an exclusive or comes from the same byte of both operands
    × Reports xor_words xor_words_log (all_by Compute) ("1:0 0:0 0:4" ∷ "1:1 0:1 0:5" ∷ "1:2 0:2 0:6" ∷ "1:3 0:3 0:7" ∷ "end 4" ∷ [])
    -- a comparison reaches the lowest byte alone
    × Reports less_than less_than_log (all_by Compute) ("1:0 0:0 0:1 0:2 0:3 0:4 0:5 0:6 0:7" ∷ "1:1" ∷ "1:2" ∷ "1:3" ∷ "end 4" ∷ [])
    -- a sign is computed from the byte
    × Reports load_signed load_signed_log (all_by Compute) ("1:0 0:0" ∷ "1:1 0:0" ∷ "1:2 0:0" ∷ "1:3 0:0" ∷ "end 4" ∷ [])
    -- and not moved
    × Reports load_signed load_signed_log (all_by Copy) ("1:0 0:0" ∷ "1:1" ∷ "1:2" ∷ "1:3" ∷ "end 4" ∷ [])
    -- zeros come from nowhere
    × Reports load_unsigned load_unsigned_log (all_by Compute) ("1:0 0:0" ∷ "1:1" ∷ "1:2" ∷ "1:3" ∷ "end 4" ∷ [])
    -- an overwritten byte loses its sources
    × Reports overwrite overwrite_log (all_by Copy) ("1:0" ∷ "end 1" ∷ [])
    -- a run of no step
    × Reports illegal illegal_log (all_by Copy) ("end 0" ∷ [])
    -- bytes move between places
    × Reports unaligned unaligned_log (all_by Copy) ("1:0 0:0" ∷ "1:1 0:0" ∷ "1:2 0:1" ∷ "1:3 0:2" ∷ "end 4" ∷ [])
    -- a trap at the first instruction
    × Reports jump_misaligned jump_misaligned_log (all_by Copy) ("end 0" ∷ [])
    -- a channel is counted over all its reads
    × Reports two_reads two_reads_log (all_by Copy) ("1:0 0:0" ∷ "1:1 0:1" ∷ "1:2 0:2" ∷ "1:3 0:3" ∷ "1:4 0:4" ∷ "end 5" ∷ [])
    -- the clock's answer has no source
    × Reports read_clock read_clock_log (all_by Compute) ("1:0" ∷ "1:1" ∷ "1:2" ∷ "1:3" ∷ "1:4" ∷ "1:5" ∷ "1:6" ∷ "1:7" ∷ "end 8" ∷ [])
unfolding digits
of_all_bytes = (refl, refl, refl, refl, refl, refl, refl, refl, refl, refl, refl, refl, refl, refl)

abbrev of_channel : ℕ → ℕ → ℕ → List Choice
of_channel channel from past = record { channel = Some channel; offsets = Some (record { from = from; past = past }) } ∷ []

of_chosen_bytes :
    -- with no sink line the report has no line
    Reports copy_four copy_four_log (record { rule = Copy; sources = everything; sinks = []; points = [] }) ("end 0" ∷ [])
    -- sinks may be chosen by their offsets
    × Reports copy_four copy_four_log (record { rule = Copy; sources = everything; sinks = of_channel 1 2 3; points = [] }) ("1:2 0:2" ∷ "end 1" ∷ [])
    -- sources too
    × Reports copy_four copy_four_log (record { rule = Copy; sources = of_channel 0 1 2; sinks = everything; points = [] }) ("1:0" ∷ "1:1 0:1" ∷ "1:2" ∷ "1:3" ∷ "end 4" ∷ [])
unfolding digits
of_chosen_bytes = (refl, refl, refl)

-- ---- sinks inside the run

-- the first two bytes at 65792, and the four lanes of register 10, after so many steps
abbrev pub points_after : ℕ → List InnerSink
points_after t =
    record { time = t; loc = Reg 10 0 } ∷ record { time = t; loc = Reg 10 1 } ∷ record { time = t; loc = Reg 10 2 } ∷ record { time = t; loc = Reg 10 3 } ∷
    record { time = t; loc = Mem 65792 } ∷ record { time = t; loc = Mem 65793 } ∷ []

abbrev pub asking_after : ℕ → Query
asking_after t = record { rule = Copy; sources = everything; sinks = []; points = points_after t }

of_points :
    -- the read was the step before
    Reports copy_four copy_four_log (asking_after 6) ("r:10.0@6" ∷ "r:10.1@6" ∷ "r:10.2@6" ∷ "r:10.3@6" ∷ "m:65792@6 0:0" ∷ "m:65793@6 0:1" ∷ "end 6" ∷ [])
    -- before the read there is nothing yet
    × Reports copy_four copy_four_log (asking_after 5) ("r:10.0@5" ∷ "r:10.1@5" ∷ "r:10.2@5" ∷ "r:10.3@5" ∷ "m:65792@5" ∷ "m:65793@5" ∷ "end 6" ∷ [])
    -- the run has 12 steps: there is a moment after them, and none later
    × Reports copy_four copy_four_log (asking_after 12) ("r:10.0@12" ∷ "r:10.1@12" ∷ "r:10.2@12" ∷ "r:10.3@12" ∷ "m:65792@12 0:0" ∷ "m:65793@12 0:1" ∷ "end 6" ∷ [])
    × Reports copy_four copy_four_log (asking_after 13) ("end 0" ∷ [])
    -- output bytes come first
    × Reports copy_four copy_four_log (record { rule = Copy; sources = everything; sinks = everything; points = record { time = 6; loc = Mem 65792 } ∷ [] }) ("1:0 0:0" ∷ "1:1 0:1" ∷ "1:2 0:2" ∷ "1:3 0:3" ∷ "m:65792@6 0:0" ∷ "end 5" ∷ [])
unfolding digits
of_points = (refl, refl, refl, refl, refl)

-- ---- influence

abbrev Reaches : List ℕ → Log → Query → List String → Type 0
Reaches program log q lines = text_over program log (influence_of q) ≡ of_lines lines

influence :
    -- each source byte of a sum reaches each of its bytes
    Reaches add_words add_words_log (all_by Compute) ("0:0 1:0 1:1 1:2 1:3" ∷ "0:1 1:0 1:1 1:2 1:3" ∷ "0:2 1:0 1:1 1:2 1:3" ∷ "0:3 1:0 1:1 1:2 1:3" ∷ "0:4 1:0 1:1 1:2 1:3" ∷ "0:5 1:0 1:1 1:2 1:3" ∷ "0:6 1:0 1:1 1:2 1:3" ∷ "0:7 1:0 1:1 1:2 1:3" ∷ "end 8" ∷ [])
    -- a byte that reached nothing has a line too
    × Reaches copy_four copy_four_log (record { rule = Copy; sources = everything; sinks = of_channel 1 2 3; points = [] }) ("0:0" ∷ "0:1" ∷ "0:2 1:2" ∷ "0:3" ∷ "end 4" ∷ [])
    × Reaches unaligned unaligned_log (all_by Copy) ("0:0 1:0 1:1" ∷ "0:1 1:2" ∷ "0:2 1:3" ∷ "0:3" ∷ "end 4" ∷ [])
    -- points are reached alike
    × Reaches copy_four copy_four_log (asking_after 6) ("0:0 m:65792@6" ∷ "0:1 m:65793@6" ∷ "0:2" ∷ "0:3" ∷ "end 4" ∷ [])
unfolding digits
influence = (refl, refl, refl, refl)

-- ---- several queries

-- each has its own sources and its own sinks
add_words-queries : text_over add_words add_words_log (reports_of (record { rule = Compute; sources = of_channel 0 0 4; sinks = everything; points = [] } ∷ record { rule = Compute; sources = of_channel 0 2 8; sinks = of_channel 1 0 1; points = [] } ∷ []))
    ≡ of_lines ("query 1" ∷ "1:0 0:0 0:1 0:2 0:3" ∷ "1:1 0:0 0:1 0:2 0:3" ∷ "1:2 0:0 0:1 0:2 0:3" ∷ "1:3 0:0 0:1 0:2 0:3" ∷ "end 4" ∷ "query 2" ∷ "1:0 0:2 0:3 0:4 0:5 0:6 0:7" ∷ "end 1" ∷ [])
unfolding digits
add_words-queries = refl
