-- What is always true of a session's moves.
use Rattle.std.specs.Prelude.{◌≡◌, ℕ, ◌-◌, ◌<◌, ◌≤◌, ◌⊎◌, Bool, true, false, List, [], Option, Some, None}
use Rattle.log_model.specs.Logs.{steps}
use Rattle.replayer.specs.Jobs.{Job}
use Rattle.remote_packets.specs.declared.packet.Packet.{Packet}
use Rattle.remote_packets.specs.declared.packet.Packet.TheVariants.{LastStop, Registers, Register, Memory, Change, Set, Clear, Go, Moves, Supported, Description, StartNoAck, Extended, Thread, Attached, Run, End, Command, Detach, Kill, Other}
use Rattle.remote_packets.specs.declared.packet.Move.{Move}
use Rattle.remote_packets.specs.declared.packet.Move.TheVariants.{Step, Continue, RangeStep, ReverseStep, ReverseContinue}
use Rattle.remote_packets.specs.Packets.{packet_of}
use Rattle.remote_frames.specs.Frames.{Heard}
use Rattle.run_travel.specs.declared.aim.Aim.{Aim}
use Rattle.run_travel.specs.declared.aim.Aim.TheVariants as aim
use Rattle.run_travel.specs.Stops.{PointsAt, pc_at, is_break, stops_after, stops_before}
use Rattle.debug_model.specs.Sessions.{SessionAt}
use Rattle.debug_model.specs.Answers.{answer, after}
use Rattle.debug_model.specs.Dialogues.{next_all, begun_at}

-- ---- within the run

-- whatever is heard, a session stands at a time of the run
abbrev pub StaysWithin : Type 0
StaysWithin = (job : Job) (t : ℕ) (hs : List Heard) → (next_all job (begun_at job t) hs).time ≤ steps job.log

-- ---- nothing is passed over

-- what a move forward aims at
abbrev pub aim_of : Move → Option Aim
aim_of Step = Some aim.Step
aim_of Continue = Some aim.Points
aim_of (RangeStep start end) = Some (aim.Leave start end)
aim_of ReverseStep = None
aim_of ReverseContinue = None

-- on from one time this is the first at which the run is to stop, or its end
pub record IsNextStop (job : Job) (points : PointsAt) (aim : Aim) (from to : ℕ) : Type 0 where
  pub later : from ≤ to
  pub within : to ≤ steps job.log
  pub none_between : (k : ℕ) → from < k → k < to → stops_after job points aim (k - 1) ≡ false
  pub stop : (to ≡ steps job.log) ⊎ ((from < to) × (stops_after job points aim (to - 1) ≡ true))

-- back from one time this is the last at which the run is to stop, or its beginning
pub record IsLastStop (job : Job) (points : PointsAt) (from to : ℕ) : Type 0 where
  pub earlier : to ≤ from
  pub none_between : (k : ℕ) → to < k → k < from → stops_before job points k ≡ false
  pub stop : (to ≡ 0) ⊎ ((to < from) × (stops_before job points to ≡ true))

-- between the ends of a move forward no time is a stop
abbrev pub NothingIsPassedForward : Type 0
NothingIsPassedForward = (job : Job) (s : SessionAt) (bytes : List ℕ) (move : Move) (aim : Aim) → s.time ≤ steps job.log
    → packet_of bytes ≡ Go move → aim_of move ≡ Some aim → IsNextStop job s.points aim s.time (after job s bytes).time

-- nor between those of a move back
abbrev pub NothingIsPassedBack : Type 0
NothingIsPassedBack = (job : Job) (s : SessionAt) (bytes : List ℕ) → packet_of bytes ≡ Go ReverseContinue
    → IsLastStop job s.points s.time (after job s bytes).time

-- with breakpoints alone, a move back takes a move on back that began at a breakpoint and made a step
abbrev pub OnIsTakenBack : Type 0
OnIsTakenBack = (job : Job) (s : SessionAt) (on back : List ℕ) → s.points.watches ≡ [] → s.time < steps job.log
    → is_break s.points (pc_at job s.time) ≡ true → packet_of on ≡ Go Continue → packet_of back ≡ Go ReverseContinue
    → (after job (after job s on) back).time ≡ s.time

-- ---- the same state

-- a packet that asks for registers or memory
abbrev pub asks_state : Packet → Bool
asks_state LastStop = false
asks_state Registers = true
asks_state (Register number) = true
asks_state (Memory place length) = true
asks_state Change = false
asks_state (Set point) = false
asks_state (Clear point) = false
asks_state (Go move) = false
asks_state Moves = false
asks_state Supported = false
asks_state (Description offset length) = false
asks_state StartNoAck = false
asks_state Extended = false
asks_state Thread = false
asks_state Attached = false
asks_state (Run t) = false
asks_state End = false
asks_state Command = false
asks_state Detach = false
asks_state Kill = false
asks_state Other = false

-- two sessions tell the same registers and the same memory
abbrev pub TellSameState : Job → SessionAt → SessionAt → Type 0
TellSameState job s u = (bytes : List ℕ) → asks_state (packet_of bytes) ≡ true → answer job s bytes ≡ answer job u bytes

-- a step back after a step, unless the run stands at its end
abbrev pub StepIsTakenBack : Type 0
StepIsTakenBack = (job : Job) (s : SessionAt) (on back : List ℕ) → s.time < steps job.log → packet_of on ≡ Go Step
    → packet_of back ≡ Go ReverseStep → TellSameState job (after job (after job s on) back) s

-- a step after a step back, unless the run stands at its beginning
abbrev pub StepBackIsMadeAgain : Type 0
StepBackIsMadeAgain = (job : Job) (s : SessionAt) (back on : List ℕ) → 0 < s.time → s.time ≤ steps job.log
    → packet_of back ≡ Go ReverseStep → packet_of on ≡ Go Step → TellSameState job (after job (after job s back) on) s
