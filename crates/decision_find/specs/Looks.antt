-- What a run looks at before it goes on.
use Rattle.std.specs.Prelude.{◌≡◌, ℕ, List, ◌++◌, map, Option, Some, None}
use Rattle.std.specs.List.{filter}
use Rattle.isa.specs.declared.Instr.{Instr}
use Rattle.isa.specs.declared.CallKind.{CallKind}
use Rattle.isa.specs.declared.CallKind.TheVariants as kind
use Rattle.isa.specs.Encodings.{Fits}
use Rattle.isa.specs.Machine.{reg, kind_of, fetch}
use Rattle.flow_model.specs.declared.Loc.{Loc}
use Rattle.flow_model.specs.declared.Rule.{Rule}
use Rattle.flow_model.specs.declared.SourceByte.{SourceByte}
use Rattle.flow_model.specs.declared.StepSeen.{StepSeen}
use Rattle.flow_model.specs.declared.CallSeen.{CallSeen}
use Rattle.replay_model.specs.Run.{Moment}
use Rattle.decision_find.specs.Decisions.{Decision, is_some_byte, instr_of, decides_fetched, fetched_from}
use Rattle.decision_find.specs.declared.looks.Look.{Look}

-- the kind of a step's call; where it is none, one that no look at it needs
abbrev pub kind_seen : Option CallSeen → CallKind
kind_seen None = kind.Other
kind_seen (Some call) = call.kind

-- the look before a step that is made at this pc
abbrev pub look_at_step : ℕ → StepSeen → Look
look_at_step pc s = record { time = s.number; pc = pc; instr = Some s.instr; kind = kind_seen s.call }

-- the look of a run at a moment: what decides there is what decides by the moment's own state
pub record IsLookAt (m : Moment) (look : Look) : Type 0 where
  pub time : look.time ≡ m.time
  pub pc : look.pc ≡ m.state.pc
  pub instr : look.instr ≡ instr_of (fetch m.state)
  pub decides : (rule : Rule) → decides_fetched rule look.kind look.instr
      ≡ decides_fetched rule (kind_of (reg m.state 17)) (instr_of (fetch m.state))

-- the instruction has a word, so its registers are below 32
abbrev pub HasFitting : Option Instr → Type 0
HasFitting None = Unit {0}
HasFitting (Some i) = Fits i

-- the locations that a look decides by
abbrev pub looked_at : Rule → Look → List Loc
looked_at rule look = decides_fetched rule look.kind look.instr ++ fetched_from look.pc

-- a decision of a look, where f gives the source bytes of each location
abbrev pub decision_of : Look → (Loc → List SourceByte) → Loc → Decision
decision_of look f l = record { time = look.time; pc = look.pc; instr = look.instr; loc = l; sources = f l }

-- those of these locations that have a source byte
abbrev pub listed : Look → (Loc → List SourceByte) → List Loc → List Decision
listed look f ls = filter (λ d. is_some_byte d.sources) (map (decision_of look f) ls)
