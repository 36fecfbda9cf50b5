-- The calls in progress at a time of a run, and their text. A call is told by the address of its JAL or JALR.
use Rattle.std.specs.Prelude.{ℕ, zero, suc, ◌+◌, ◌==◌, nat_le, Bool, true, false, if◌then◌else◌, List, [], ◌∷◌, ◌++◌, length, drop, Option, Some, None, unwrap_or}
use Rattle.std.specs.List.{flat_map}
use Rattle.isa.specs.Machine.{State, wrap}
use Rattle.log_model.specs.Logs.{Log, steps}
use Rattle.replay_model.specs.Run.{Moment, start, advance, step_of, moment_after}
use Rattle.printed_names.specs.Places.{pc_text}
use Rattle.printed_names.specs.Lines.{lines_end}
use Rattle.run_output.specs.declared.hints.Hint.{Hint}
use Rattle.run_output.specs.declared.hints.Hint.TheVariants.{Calls, Returns, ReturnsAndCalls, Neither}
use Rattle.run_output.specs.Hints.{hint_of}

-- ---- calls in progress, the innermost first

-- a call returns to the instruction after it
abbrev pub return_address : ℕ → ℕ
return_address call = wrap (call + 4)

-- the calls outside the innermost one that returns to this address, where one does
abbrev pub outside_of : ℕ → List ℕ → Option (List ℕ)
outside_of address [] = None
outside_of address (call ∷ calls) = if return_address call == address then Some calls else outside_of address calls

-- a return to an address ends the innermost call that returns there, with those inside it; where none does, it ends the
-- innermost
abbrev pub after_return : ℕ → List ℕ → List ℕ
after_return address calls = unwrap_or (outside_of address calls) (drop 1 calls)

-- what an instruction at this pc does to them, after which the run goes to the target
abbrev pub after_hint : Hint → ℕ → ℕ → List ℕ → List ℕ
after_hint Calls pc target calls = pc ∷ calls
after_hint Returns pc target calls = after_return target calls
after_hint ReturnsAndCalls pc target calls = pc ∷ after_return target calls
after_hint Neither pc target calls = calls

-- what the step made at a moment does to them
abbrev pub after_moment : Moment → List ℕ → List ℕ
after_moment m calls = after_hint (hint_of (step_of m).instr) m.state.pc (advance m).state.pc calls

-- ---- in a run

-- the calls in progress after t steps of the run from a state under a log. At its beginning none is
abbrev pub calls_after : State → Log → ℕ → List ℕ
calls_after s log zero = []
calls_after s log (suc t) = after_moment (moment_after t (start s log)) (calls_after s log t)

-- ---- the text: a pc on each line, and the number of those lines

abbrev pub pc_line : ℕ → List ℕ
pc_line pc = pc_text pc ++ 0x0a ∷ []

abbrev pub pcs_text : List ℕ → List ℕ
pcs_text pcs = flat_map pc_line pcs ++ lines_end (length pcs)

abbrev pub stack_within : Bool → State → Log → ℕ → List ℕ
stack_within true s log t = pcs_text ((moment_after t (start s log)).state.pc ∷ calls_after s log t)
stack_within false s log t = pcs_text []

-- the pc after t steps, and the calls in progress there; nothing after the end of the run
abbrev pub stack_text : State → Log → ℕ → List ℕ
stack_text s log t = stack_within (nat_le t (steps log)) s log t
