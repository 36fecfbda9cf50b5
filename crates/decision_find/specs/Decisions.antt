-- Decisions: the locations of a state on which the path of a run hangs, and those of a run that have a source byte.
use Rattle.std.specs.Prelude.{ℕ, zero, suc, ◌+◌, Bool, true, false, List, [], ◌∷◌, ◌++◌, map, Option, Some, None}
use Rattle.std.specs.List.{filter, flat_map, range_with_len}
use Rattle.isa.specs.declared.Instr.{Instr}
use Rattle.isa.specs.declared.CallKind.{CallKind}
use Rattle.isa.specs.Machine.{State, reg, kind_of, Fetch, Fetched, OutsideWindow, Illegal, fetch}
use Rattle.log_model.specs.declared.RunEnd.{RunEnd}
use Rattle.log_model.specs.declared.RunEnd.TheVariants.{Exit, Trap, Limit}
use Rattle.log_model.specs.Logs.{Log}
use Rattle.flow_model.specs.declared.Loc.{Loc}
use Rattle.flow_model.specs.declared.Rule.{Rule}
use Rattle.flow_model.specs.declared.SourceByte.{SourceByte}
use Rattle.flow_model.specs.declared.StepSeen.{StepSeen}
use Rattle.flow_model.specs.Flow.{byte_of}
use Rattle.flow_model.specs.Origins.{Policy, origins}
use Rattle.replay_model.specs.Run.{Moment, start, advance, trace}
use Rattle.decision_find.specs.Decides.{decides}

-- ---- the decisions of a state

-- the four bytes at the pc
abbrev pub fetched_from : ℕ → List Loc
fetched_from pc = flat_map (byte_of pc) (range_with_len 0 4)

-- what was fetched, if it is an instruction
abbrev pub instr_of : Fetch → Option Instr
instr_of (Fetched i) = Some i
instr_of OutsideWindow = None
instr_of Illegal = None

-- what decides where it goes, where a call would be of this kind
abbrev pub decides_fetched : Rule → CallKind → Option Instr → List Loc
decides_fetched rule kind (Some i) = decides rule kind i
decides_fetched rule kind None = []

-- what decides where the instruction goes, and the bytes of the instruction itself, which a step may have stored there
abbrev pub decisions : Rule → State → List Loc
decisions rule s = decides_fetched rule (kind_of (reg s 17)) (instr_of (fetch s)) ++ fetched_from s.pc

-- ---- the decisions of a run

-- at how many moments a run looks at its program: before each step, and where it traps, which is no step
abbrev pub moments_seen : RunEnd → ℕ
moments_seen (Exit at code) = at + 1
moments_seen (Trap at kind pc) = at + 1
moments_seen (Limit at) = at

-- a decision: how many steps are done, the pc and the instruction there, a location on which the path hangs, and its source
-- bytes
pub record Decision : Type 0 where
  pub time : ℕ
  pub pc : ℕ
  pub instr : Option Instr
  pub loc : Loc
  pub sources : List SourceByte

abbrev pub decision : Policy → List StepSeen → Moment → Loc → Decision
decision policy trace m l = record {
  time = m.time;
  pc = m.state.pc;
  instr = instr_of (fetch m.state);
  loc = l;
  sources = origins policy trace m.time l;
}

abbrev pub is_some_byte : List SourceByte → Bool
is_some_byte [] = false
is_some_byte (b ∷ bs) = true

-- those at a moment that have a source byte
abbrev pub decided_at : Policy → List StepSeen → Moment → List Decision
decided_at policy trace m = filter (λ d. is_some_byte d.sources) (map (decision policy trace m) (decisions policy.rule m.state))

-- those at n moments from one on
abbrev pub decided_from : Policy → List StepSeen → ℕ → Moment → List Decision
decided_from policy trace zero m = []
decided_from policy trace (suc n) m = decided_at policy trace m ++ decided_from policy trace n (advance m)

-- the decisions of a run that have a source byte, in the order of the run
abbrev pub decided : Policy → State → Log → List Decision
decided policy s log = decided_from policy (trace s log) (moments_seen log.end) (start s log)
