-- Worked examples, computed by the checker: a program of four instructions, which stores a word, loads its last byte and traps.
use Rattle.std.proofs.Common.{◌≡◌, ℕ, List, [], ◌∷◌, ◌++◌, true, false, Some, None, replicate, pos, refl}
use Rattle.isa.specs.declared.CallKind.{CallKind}
use Rattle.isa.specs.declared.CallKind.TheVariants.{Read, Write}
use Rattle.isa.specs.declared.Instr.{Instr}
use Rattle.isa.specs.declared.Instr.TheVariants.{Addi, Lh, Sw, Ecall}
use Rattle.flow_model.specs.declared.StepSeen.{StepSeen}
use Rattle.log_model.specs.declared.RunEnd.{RunEnd}
use Rattle.log_model.specs.declared.RunEnd.TheVariants.{Trap, Limit}
use Rattle.replayer.specs.Jobs.{Job}
use Rattle.run_travel.specs.declared.aim.Aim.TheVariants.{Step, Points, Leave}
use Rattle.run_travel.specs.declared.cause.Cause.TheVariants.{Arrived, Watched, End, Trapped, Beginning}
use Rattle.run_travel.specs.declared.kind.WatchKind.{WatchKind}
use Rattle.run_travel.specs.declared.kind.WatchKind.TheVariants.{Writes, Reads, Both}
use Rattle.run_travel.specs.declared.watch.Watch.{Watch}
use Rattle.run_travel.specs.Stops.{PointsAt, meets, with_break, without_break, with_watch, without_watch}
use Rattle.run_travel.specs.Moves.{stop_on, stop_back, cause_on, cause_back, cause_of_step_back}

abbrev watch : WatchKind → ℕ → ℕ → Watch
watch kind place length = record { kind = kind; place = place; length = length }

-- ---- which steps meet a watchpoint

abbrev plain : Instr → StepSeen
plain instr = record { number = 7; instr = instr; place = 0x10100; call = None }

abbrev call : CallKind → ℕ → StepSeen
call kind length = record { number = 7; instr = Ecall; place = 0; call = Some (record { kind = kind; channel = 0; place = 0x10100; offset = 0; length = length }) }

-- a store of four bytes: of its first, of its last, of those before and after, and of one that only reads
stored : (meets (plain (Sw 1 2 (pos 0))) (watch Writes 0x100fe 3) ≡ true) × (meets (plain (Sw 1 2 (pos 0))) (watch Both 0x10103 1) ≡ true)
    × (meets (plain (Sw 1 2 (pos 0))) (watch Writes 0x100fe 2) ≡ false) × (meets (plain (Sw 1 2 (pos 0))) (watch Writes 0x10104 4) ≡ false)
    × (meets (plain (Sw 1 2 (pos 0))) (watch Reads 0x10100 4) ≡ false)
stored = (refl, refl, refl, refl, refl)

-- a load; and what accesses nothing, or is watched by no byte
loaded : (meets (plain (Lh 1 2 (pos 0))) (watch Reads 0x10101 4) ≡ true) × (meets (plain (Lh 1 2 (pos 0))) (watch Writes 0x10100 4) ≡ false)
    × (meets (plain (Addi 1 2 (pos 0))) (watch Both 0x100fe 8) ≡ false) × (meets (plain (Sw 1 2 (pos 0))) (watch Both 0x10101 0) ≡ false)
loaded = (refl, refl, refl, refl)

-- a read writes its buffer, and a write reads it; a call that moves nothing does neither
called : (meets (call Read 4) (watch Writes 0x10103 1) ≡ true) × (meets (call Read 4) (watch Reads 0x10103 1) ≡ false)
    × (meets (call Write 4) (watch Reads 0x10103 1) ≡ true) × (meets (call Write 4) (watch Writes 0x10103 1) ≡ false)
    × (meets (call Read 0) (watch Both 0x100fe 8) ≡ false)
called = (refl, refl, refl, refl, refl)

-- ---- points

abbrev none : PointsAt
none = record { breaks = []; watches = [] }

abbrev some : PointsAt
some = with_watch (with_watch (with_break (with_break none 8) 4) (watch Writes 1 2)) (watch Reads 1 2)

-- what is set stands once, in order; one kind isn't another; what isn't set can't be cleared
set : (some ≡ record { breaks = 8 ∷ 4 ∷ []; watches = watch Writes 1 2 ∷ watch Reads 1 2 ∷ [] })
    × (with_break some 8 ≡ some) × (with_watch some (watch Writes 1 2) ≡ some)
    × (without_break some 8 ≡ record { breaks = 4 ∷ []; watches = watch Writes 1 2 ∷ watch Reads 1 2 ∷ [] })
    × (without_watch some (watch Reads 1 2) ≡ record { breaks = 8 ∷ 4 ∷ []; watches = watch Writes 1 2 ∷ [] })
    × (without_break (without_watch some (watch Both 1 2)) 5 ≡ some)
set = (refl, refl, refl, refl, refl, refl)

-- ---- moves

-- LUI x11, 0x10; SW x5, 20(x11); LB x6, 23(x11); EBREAK
abbrev code : List ℕ
code = 0xb7 ∷ 0x05 ∷ 0x01 ∷ 0x00 ∷ 0x23 ∷ 0xaa ∷ 0x55 ∷ 0x00 ∷ 0x03 ∷ 0x83 ∷ 0x75 ∷ 0x01 ∷ 0x73 ∷ 0x00 ∷ 0x10 ∷ 0x00 ∷ []

-- it makes three steps, and ends so
abbrev run : RunEnd → Job
run end = record {
  start = record { pc = 0x10000; registers = replicate 32 0; base = 0x10000; memory = code ++ replicate 8 0 };
  log = record { pages = 1; inputs = 0; digest = []; records = []; end = end };
}

abbrev trapped : Job
trapped = run (Trap 3 3 0x1000c)

abbrev last_byte : PointsAt
last_byte = with_watch (with_watch none (watch Reads 0x10016 2)) (watch Both 0x10017 1)

-- the store meets one of them, and the load both, of which the first is told; then the trap
on : (stop_on trapped last_byte Points 0 ≡ Some 1) × (cause_on trapped last_byte 0 (Some 1) ≡ Watched (watch Both 0x10017 1))
    × (stop_on trapped last_byte Points 2 ≡ Some 2) × (cause_on trapped last_byte 2 (Some 2) ≡ Watched (watch Reads 0x10016 2))
    × (stop_on trapped last_byte Points 3 ≡ None) × (cause_on trapped last_byte 3 None ≡ End)
on = (refl, refl, refl, refl, refl, refl)

-- to the trap, and to the end of a run that is cut off there
to_end : (stop_on trapped none Points 0 ≡ None) × (cause_on trapped none 0 None ≡ Trapped 3) × (cause_on (run (Limit 3)) none 0 None ≡ End)
to_end = (refl, refl, refl)

-- breakpoints: not the one where the run stands, and one at the trap isn't told
abbrev breaks : PointsAt
breaks = with_break (with_break none 0x10000) 0x1000c

broken : (stop_on trapped breaks Points 0 ≡ Some 2) × (cause_on trapped breaks 0 (Some 2) ≡ Trapped 3)
    × (stop_back trapped breaks 3 ≡ Some 0) × (cause_back trapped breaks (Some 0) ≡ Arrived) × (stop_back trapped breaks 0 ≡ None)
broken = (refl, refl, refl, refl, refl)

-- by a step, and out of the first two instructions
aimed : (stop_on trapped none Step 1 ≡ Some 1) × (stop_on trapped none (Leave 0x10000 0x10008) 0 ≡ Some 1) × (cause_on trapped none 0 (Some 1) ≡ Arrived)
aimed = (refl, refl, refl)

-- back: the load is taken back, and then the store
back : (stop_back trapped last_byte 3 ≡ Some 2) × (cause_back trapped last_byte (Some 2) ≡ Watched (watch Reads 0x10016 2))
    × (stop_back trapped last_byte 2 ≡ Some 1) × (stop_back trapped last_byte 1 ≡ None) × (cause_back trapped last_byte None ≡ Beginning)
    × (cause_of_step_back trapped last_byte 3 ≡ Watched (watch Reads 0x10016 2)) × (cause_of_step_back trapped last_byte 1 ≡ Arrived) × (cause_of_step_back trapped last_byte 0 ≡ Beginning)
back = (refl, refl, refl, refl, refl, refl, refl, refl)
