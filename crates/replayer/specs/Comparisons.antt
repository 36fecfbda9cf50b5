-- What is compared at a step.
use Rattle.std.specs.Prelude.{◌≡◌, ℕ, Bool, true, false, List, ◌∷◌}
use Rattle.isa.specs.Machine.{State, call_of, next}
use Rattle.isa.specs.Machine as machine
use Rattle.log_model.specs.declared.RunEnd.TheVariants.{Exit, Trap, Limit}
use Rattle.log_model.specs.Logs.{IsRecord}
use Rattle.replay_model.specs.declared.Field.TheVariants as field
use Rattle.replay_model.specs.Comparison.{Compared, compared, Expected, PlainStep, CallOf, EndOf, call_event, kept_event, seen_event, fields}
use Rattle.rv_machine.specs.declared.Stepped.{Stepped}
use Rattle.rv_machine.specs.declared.Stepped.TheVariants.{Plain, Called, Trapped}

-- the code of what the machine did: 0 a plain step, 1 to 5 a call, 6 a trap
abbrev pub event_of : Stepped → ℕ
event_of (Plain instr place) = 0
event_of (Called call) = call_event call.kind
event_of (Trapped kind pc) = 6

-- a call that waits, or a trap, leaves the state in which it was seen
abbrev pub IsSeenIn : State → Stepped → Type 0
IsSeenIn s (Plain instr place) = Unit {0}
IsSeenIn s (Called call) = call ≡ call_of s
IsSeenIn s (Trapped kind pc) = (next s ≡ machine.Trapped kind) × (pc ≡ s.pc)

-- what the log has next has the ranges of a log
abbrev pub IsFormed : Expected → Type 0
IsFormed PlainStep = Unit {0}
IsFormed (CallOf r) = IsRecord r
IsFormed (EndOf end) = Unit {0}

-- all that is compared in a state: the event, and the fields below it
abbrev pub compares : State → ℕ → Expected → List Compared
compares s inputs e = compared field.Event (kept_event e) (seen_event (next s)) ∷ fields s inputs e

-- the log has the limit next, where the program isn't looked at
abbrev pub is_limit : Expected → Bool
is_limit PlainStep = false
is_limit (CallOf r) = false
is_limit (EndOf (Exit at code)) = false
is_limit (EndOf (Trap at kind pc)) = false
is_limit (EndOf (Limit at)) = true

-- the log has the trap next that ends the run
abbrev pub is_trap : Expected → Bool
is_trap PlainStep = false
is_trap (CallOf r) = false
is_trap (EndOf (Exit at code)) = false
is_trap (EndOf (Trap at kind pc)) = true
is_trap (EndOf (Limit at)) = false
