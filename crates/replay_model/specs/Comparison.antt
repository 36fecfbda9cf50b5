-- Where a log and its program first differ.
use Rattle.std.specs.Prelude.{◌≡◌, ℕ, zero, suc, ◌+◌, nat_lt, if◌then◌else◌, List, [], ◌∷◌, ◌++◌, length, ℤ, pos, negsuc, Option, Some, None, slice_index}
use Rattle.std.specs.Ordering.{int_eq}
use Rattle.isa.specs.Machine.{State, Outcome, Retired, Called, Trapped, next, reg, bytes_at}
use Rattle.isa.specs.Calls.{refusal_of}
use Rattle.isa.specs.declared.CallKind.{CallKind}
use Rattle.isa.specs.declared.CallKind.TheVariants as kind
use Rattle.log_model.specs.declared.CallRecord.{CallRecord}
use Rattle.log_model.specs.declared.CallRecord.TheVariants.{Read, Write, Clock, Other}
use Rattle.log_model.specs.declared.RunEnd.{RunEnd}
use Rattle.log_model.specs.declared.RunEnd.TheVariants.{Exit, Trap, Limit}
use Rattle.log_model.specs.Logs.{Log, at_of, end_at}
use Rattle.replay_model.specs.declared.Field.{Field}
use Rattle.replay_model.specs.declared.Field.TheVariants as field
use Rattle.replay_model.specs.declared.Divergence.{Divergence}
use Rattle.replay_model.specs.Run.{Moment, start, advance}

-- a field, with what the log keeps and what the program shows
pub record Compared : Type 0 where
  pub field : Field
  pub kept : ℤ
  pub seen : ℤ

abbrev pub compared : Field → ℕ → ℕ → Compared
compared field kept seen = record { field = field; kept = pos kept; seen = pos seen }

-- what the log has next: a plain step, a call, or the end
pub data Expected : Type 0 where
  PlainStep : Expected
  CallOf : CallRecord → Expected
  EndOf : RunEnd → Expected

abbrev pub expected : ℕ → List CallRecord → RunEnd → Expected
expected t [] end = if nat_lt t (end_at end) then PlainStep else EndOf end
expected t (r ∷ rs) end = if nat_lt t (at_of r) then PlainStep else CallOf r

-- ---- the event: 0 a plain step, 1 to 5 a call, 6 a trap

abbrev pub kept_event : Expected → ℕ
kept_event PlainStep = 0
kept_event (CallOf (Read at args result bytes)) = 1
kept_event (CallOf (Write at args result bytes)) = 2
kept_event (CallOf (Clock at value)) = 3
kept_event (CallOf (Other at number)) = 4
kept_event (EndOf (Exit at code)) = 5
kept_event (EndOf (Trap at kind pc)) = 6
kept_event (EndOf (Limit at)) = 7

abbrev pub call_event : CallKind → ℕ
call_event kind.Read = 1
call_event kind.Write = 2
call_event kind.Clock = 3
call_event kind.Other = 4
call_event kind.Exit = 5

abbrev pub seen_event : Outcome → ℕ
seen_event (Retired s) = 0
seen_event (Called call) = call_event call.kind
seen_event (Trapped kind) = 6

-- ---- the fields below the event

-- x10, x11 and x12 have a call's arguments
abbrev pub arguments : State → List ℕ → List Compared
arguments s args =
    compared field.A0 (slice_index args 0) (reg s 10) ∷ compared field.A1 (slice_index args 1) (reg s 11) ∷ compared field.A2 (slice_index args 2) (reg s 12) ∷ []

abbrev pub arguments_of : State → List ℕ
arguments_of s = reg s 10 ∷ reg s 11 ∷ reg s 12 ∷ []

-- the result where it isn't negative, else `whole`. A negative number is a `negsuc n`, for -(n + 1)
abbrev pub unless_negative : ℤ → ℕ → ℤ
unless_negative (pos n) whole = pos n
unless_negative (negsuc n) whole = pos whole

-- the result that the call allows where the log keeps this one: the refusal where it is refused; else the log's own, or
-- in place of a negative one the result of a call that moves `whole` bytes
abbrev pub allowed : ℤ → ℤ → ℕ → ℤ
allowed (negsuc n) kept whole = negsuc n
allowed (pos n) kept whole = unless_negative kept whole

abbrev pub result : ℤ → ℤ → Compared
result kept seen = record { field = field.Result; kept = kept; seen = seen }

abbrev pub bytes_compared : ℕ → List ℕ → List ℕ → List Compared
bytes_compared i [] seen = []
bytes_compared i (b ∷ bs) [] = []
bytes_compared i (b ∷ bs) (c ∷ cs) = compared (field.Byte i) b c ∷ bytes_compared (i + 1) bs cs

abbrev pub trap_kind : Outcome → ℕ
trap_kind (Trapped kind) = kind
trap_kind (Retired s) = 0
trap_kind (Called call) = 0

-- the fields to compare in a state where the log has this next. Any clock value, and any bytes of a read, are accepted
abbrev pub fields : State → ℕ → Expected → List Compared
fields s inputs PlainStep = []
fields s inputs (CallOf (Read at args kept bytes)) =
    arguments s args ++ result kept (allowed (refusal_of s inputs (arguments_of s)) kept 0) ∷ []
fields s inputs (CallOf (Write at args kept bytes)) =
    arguments s args ++ result kept (allowed (refusal_of s 16 (arguments_of s)) kept (reg s 12)) ∷
    bytes_compared 0 bytes (bytes_at s (reg s 11) (length bytes))
fields s inputs (CallOf (Clock at value)) = []
fields s inputs (CallOf (Other at number)) = compared field.Number number (reg s 17) ∷ []
fields s inputs (EndOf (Exit at code)) = compared field.Code code (reg s 10) ∷ []
fields s inputs (EndOf (Trap at kind pc)) = compared field.Kind kind (trap_kind (next s)) ∷ compared field.Pc pc s.pc ∷ []
fields s inputs (EndOf (Limit at)) = []

abbrev pub first_different : List Compared → Option Compared
first_different [] = None
first_different (c ∷ cs) = if int_eq c.kept c.seen then first_different cs else Some c

-- a call's record is lawful in a state: no field below the event differs
abbrev pub IsLawful : State → ℕ → CallRecord → Type 0
IsLawful s inputs r = first_different (fields s inputs (CallOf r)) ≡ None

-- the event, and then the fields below it
abbrev pub differing : Moment → ℕ → Expected → Option Compared
differing m inputs e = first_different (compared field.Event (kept_event e) (seen_event (next m.state)) ∷ fields m.state inputs e)

-- the first difference at a moment. A limit fits wherever it is reached, and the program isn't looked at there
abbrev pub difference_at : Moment → ℕ → Expected → Option Compared
difference_at m inputs PlainStep = differing m inputs PlainStep
difference_at m inputs (CallOf r) = differing m inputs (CallOf r)
difference_at m inputs (EndOf (Exit at code)) = differing m inputs (EndOf (Exit at code))
difference_at m inputs (EndOf (Trap at kind pc)) = differing m inputs (EndOf (Trap at kind pc))
difference_at m inputs (EndOf (Limit at)) = None

abbrev pub difference : Log → Moment → Option Compared
difference log m = difference_at m log.inputs (expected m.time m.left log.end)

abbrev pub at_step : ℕ → Compared → Divergence
at_step t c = record { step = t; field = c.field; kept = c.kept; seen = c.seen }

abbrev pub or_later : ℕ → Option Compared → Option Divergence → Option Divergence
or_later t (Some c) later = Some (at_step t c)
or_later t None later = later

-- the first difference at one of the next n moments
abbrev pub divergence_from : Log → ℕ → Moment → Option Divergence
divergence_from log zero m = None
divergence_from log (suc n) m = or_later m.time (difference log m) (divergence_from log n (advance m))

-- the first difference of a run that begins in this state: at one of the moments up to the end's
abbrev pub divergence : State → Log → Option Divergence
divergence s log = divergence_from log (end_at log.end + 1) (start s log)
