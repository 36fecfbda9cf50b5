-- A run of four steps, cut in the middle and at each step: it reads two bytes, loads the first, stores it elsewhere and
-- writes it. Besides the query has a point at the start, one at the cut in the middle, and one past the end.
use Rattle.std.proofs.Common.{◌≡◌, List, [], ◌∷◌, refl, true, pos}
use Rattle.std.specs.Prelude.{ℕ, Some, None}
use Rattle.isa.specs.declared.Instr.TheVariants.{Lb, Sb, Addi, Ecall}
use Rattle.isa.specs.declared.CallKind.TheVariants as kind
use Rattle.flow_model.specs.declared.Loc.TheVariants.{Reg, Mem}
use Rattle.flow_model.specs.declared.Rule.TheVariants.{Copy}
use Rattle.flow_model.specs.declared.SinkPoint.TheVariants.{Out, At}
use Rattle.flow_model.specs.declared.SourceByte.{SourceByte}
use Rattle.flow_model.specs.declared.StepSeen.{StepSeen}
use Rattle.report_model.specs.Query.{Query}
use Rattle.report_model.specs.Rows.{Row, rows_as_written}
use Rattle.epoch_model.specs.Stretch.{past, born}
use Rattle.epoch_model.specs.Crossing.{added_all, summary_of, summaries_of, crossing_at, needed}
use Rattle.epoch_model.specs.Join.{rows_of, joined}

abbrev asking : Query
asking = record {
  rule = Copy;
  sources = record { channel = None; offsets = None } ∷ [];
  sinks = record { channel = None; offsets = None } ∷ [];
  points = record { time = 0; loc = Mem 0x100 } ∷ record { time = 2; loc = Mem 0x101 } ∷ record { time = 5; loc = Reg 5 0 } ∷ [];
}

abbrev run : List StepSeen
run =
    record { number = 0; instr = Ecall; place = 0; call = Some (record { kind = kind.Read; channel = 0; place = 0x100; offset = 0; length = 2 }) }
    ∷ record { number = 1; instr = Lb 5 0 (pos 0x100); place = 0x100; call = None }
    ∷ record { number = 2; instr = Sb 0 5 (pos 0x200); place = 0x200; call = None }
    ∷ record { number = 3; instr = Ecall; place = 0; call = Some (record { kind = kind.Write; channel = 1; place = 0x200; offset = 0; length = 1 }) }
    ∷ []

abbrev first_byte : SourceByte
first_byte = record { channel = 0; offset = 0 }

abbrev second_byte : SourceByte
second_byte = record { channel = 0; offset = 1 }

-- the point past the end has no row
abbrev early_rows : List Row
early_rows = record { sink = At (record { time = 0; loc = Mem 0x100 }); sources = [] } ∷ record { sink = At (record { time = 2; loc = Mem 0x101 }); sources = second_byte ∷ [] } ∷ []

abbrev late_row : Row
late_row = record { sink = Out (record { channel = 1; offset = 0 }); sources = first_byte ∷ [] }

abbrev all_rows : List Row
all_rows = record { sink = At (record { time = 0; loc = Mem 0x100 }); sources = [] } ∷ record { sink = At (record { time = 2; loc = Mem 0x101 }); sources = second_byte ∷ [] } ∷ late_row ∷ []

the_rows : rows_as_written asking run ≡ all_rows
the_rows = refl

-- ---- stretches

-- what the last two steps write came from the register, and they read nothing; its content in the middle was read by the first two
stretches : (past Copy run 2 2 (Mem 0x200) ≡ Reg 5 0 ∷ []) × (born (record { rule = Copy; introduces = λ b. true }) run 0 2 (Reg 5 0) ≡ first_byte ∷ [])
stretches = (refl, refl)

-- ---- in two

-- the register is asked in the middle, and the point there is not: it belongs to the epoch that ends there
asked_in_the_middle : (crossing_at asking run 2 (4 ∷ []) ≡ Reg 5 0 ∷ []) × (needed asking run 2 2 ≡ Reg 5 0 ∷ [])
asked_in_the_middle = (refl, refl)

in_two : (rows_of (summary_of asking run 0 2) (λ l. []) ≡ early_rows) × (joined [] [] (summaries_of asking run 0 (2 ∷ 4 ∷ [])) ≡ all_rows)
in_two = (refl, refl)

-- ---- in four

-- before the load its byte is asked for the register, and before it the byte of the point in the middle for itself
asked_before_the_load : (crossing_at asking run 1 (2 ∷ 3 ∷ 4 ∷ []) ≡ Mem 0x101 ∷ Mem 0x100 ∷ []) × (needed asking run 1 3 ≡ Mem 0x100 ∷ Mem 0x101 ∷ [])
asked_before_the_load = (refl, refl)

in_four : (crossing_at asking run 3 (4 ∷ []) ≡ Mem 0x200 ∷ []) × (joined [] [] (summaries_of asking run 0 (1 ∷ 2 ∷ 3 ∷ 4 ∷ [])) ≡ all_rows)
in_four = (refl, refl)

-- ---- without a cut, and without a step

in_one : (joined [] [] (summaries_of asking run 0 (4 ∷ [])) ≡ all_rows) × (joined [] [] (summaries_of asking [] 0 (0 ∷ [])) ≡ record { sink = At (record { time = 0; loc = Mem 0x100 }); sources = [] } ∷ [])
in_one = (refl, refl)

-- ---- four bytes are copied: read in step 5, written in step 8. The other steps move nothing

abbrev idle : ℕ → StepSeen
idle number = record { number = number; instr = Addi 5 0 (pos 1); place = 0; call = None }

abbrev copy : List StepSeen
copy =
    idle 0 ∷ idle 1 ∷ idle 2 ∷ idle 3 ∷ idle 4
    ∷ record { number = 5; instr = Ecall; place = 0; call = Some (record { kind = kind.Read; channel = 0; place = 0x1000; offset = 0; length = 4 }) }
    ∷ idle 6 ∷ idle 7
    ∷ record { number = 8; instr = Ecall; place = 0; call = Some (record { kind = kind.Write; channel = 1; place = 0x1000; offset = 0; length = 4 }) }
    ∷ []

abbrev every_output : Query
every_output = record { rule = Copy; sources = asking.sources; sinks = asking.sinks; points = [] }

abbrev copied : ℕ → Row
copied i = record { sink = Out (record { channel = 1; offset = i }); sources = record { channel = 0; offset = i } ∷ [] }

-- after the read the four bytes of memory are asked, before it nothing is
asked_on_both_sides : (crossing_at every_output copy 6 (9 ∷ []) ≡ Mem 0x1000 ∷ Mem 0x1001 ∷ Mem 0x1002 ∷ Mem 0x1003 ∷ []) × (crossing_at every_output copy 5 (9 ∷ []) ≡ [])
asked_on_both_sides = (refl, refl)

copied_bytes : joined [] [] (summaries_of every_output copy 0 (6 ∷ 9 ∷ [])) ≡ copied 0 ∷ copied 1 ∷ copied 2 ∷ copied 3 ∷ []
copied_bytes = refl

-- ---- of equals the first is asked

once : added_all [] (Mem 2 ∷ Mem 1 ∷ Mem 2 ∷ []) ≡ Mem 2 ∷ Mem 1 ∷ []
once = refl
