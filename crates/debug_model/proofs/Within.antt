-- A session stays at a time of its run.
use Rattle.std.proofs.Common.{◌≡◌, ℕ, ◌≤◌, Bool, true, false, if◌then◌else◌, nat_le, List, [], ◌∷◌, Option, Some, None, IfSome, refl, arith, leb-true}
use Rattle.log_model.specs.Logs.{steps}
use Rattle.replayer.specs.Jobs.{Job}
use Rattle.remote_frames.specs.Frames.{Heard, Packet, Bad, Again}
use Rattle.remote_packets.specs.declared.packet.Packet.{Packet as Asked}
use Rattle.remote_packets.specs.declared.packet.Packet.TheVariants.{LastStop, Registers, Register, Memory, Change, Set, Clear, Go, Moves, Supported, Description, StartNoAck, Extended, Thread, Attached, Run, End, Command, Detach, Kill, Other}
use Rattle.remote_packets.specs.declared.packet.Move.{Move}
use Rattle.remote_packets.specs.declared.packet.Move.TheVariants.{Step, Continue, RangeStep, ReverseStep, ReverseContinue}
use Rattle.remote_packets.specs.Packets.{packet_of}
use Rattle.run_travel.specs.declared.aim.Aim.{Aim}
use Rattle.run_travel.specs.declared.aim.Aim.TheVariants as aim
use Rattle.run_travel.specs.Stops.{PointsAt, stops_after, stops_before}
use Rattle.run_travel.specs.Moves.{stop_on, stop_back, time_after, time_before}
use Rattle.run_travel.specs.MoveLaws as moves
use Rattle.debug_model.specs.declared.command.Command.{Command as InWords}
use Rattle.debug_model.specs.declared.command.Command.TheVariants as words
use Rattle.debug_model.specs.Sessions.{SessionAt}
use Rattle.debug_model.specs.Arrivals.{arrival}
use Rattle.debug_model.specs.Commands.{time_asked}
use Rattle.debug_model.specs.Answers.{changed_by, put, run_anew, command_in}
use Rattle.debug_model.specs.Dialogues.{next, next_all, begun_at}
use Rattle.debug_model.specs.TravelLaws.{StaysWithin}

module _ (on : moves.NothingIsPassedOn) (back : moves.NothingIsPassedBack) (job : Job) where
  forward : (points : PointsAt) (aim : Aim) (t : ℕ) → t ≤ steps job.log → time_after job (stop_on job points aim t) ≤ steps job.log
  forward points aim t low = by (stop_on job points aim t) (on job points aim t low) where
    by : (o : Option ℕ) → moves.IsLeast (stops_after job points aim) t (steps job.log) o → time_after job o ≤ steps job.log
    by None is = omega arith
    by (Some step) is = omega (arith, is.1)

  backward : (points : PointsAt) (t : ℕ) → t ≤ steps job.log → time_before (stop_back job points t) ≤ steps job.log
  backward points t low = by (stop_back job points t) (back job points t) where
    by : (o : Option ℕ) → moves.IsGreatest (stops_before job points) 0 t o → time_before o ≤ steps job.log
    by None is = omega arith
    by (Some step) is = omega (arith, is.1, low)

  moved : (points : PointsAt) (t : ℕ) (move : Move) → t ≤ steps job.log → (arrival job points t move).time ≤ steps job.log
  moved points t Step low = forward points aim.Step t low
  moved points t Continue low = forward points aim.Points t low
  moved points t (RangeStep start end) low = forward points (aim.Leave start end) t low
  moved points t ReverseStep low = omega (arith, low)
  moved points t ReverseContinue low = backward points t low

  is_put : (s : SessionAt) (o : Option ℕ) → IfSome o (λ t. t ≤ steps job.log) → s.time ≤ steps job.log → (put s o).time ≤ steps job.log
  is_put s None is low = low
  is_put s (Some t) is low = is

  is_run : (s : SessionAt) (o : Option ℕ) → s.time ≤ steps job.log → (run_anew job s o).time ≤ steps job.log
  is_run s None low = low
  is_run s (Some t) low = omega arith

  is_time : (o : Option ℕ) → IfSome (time_asked job.log (words.GoTo o)) (λ t. t ≤ steps job.log)
  is_time None = tt
  is_time (Some t) = by (nat_le t (steps job.log)) refl where
    by : (b : Bool) → nat_le t (steps job.log) ≡ b → IfSome (if b then Some t else None) (λ t. t ≤ steps job.log)
    by true e = leb-true t (steps job.log) e
    by false e = tt

  is_asked : (c : InWords) → IfSome (time_asked job.log c) (λ t. t ≤ steps job.log)
  is_asked words.Time = tt
  is_asked words.Steps = tt
  is_asked words.Calls = tt
  is_asked (words.GoTo o) = is_time o
  is_asked (words.Read byte) = tt
  is_asked (words.Wrote byte) = tt
  is_asked words.Other = tt

  changed : (s : SessionAt) (bytes : List ℕ) (p : Asked) → s.time ≤ steps job.log → (changed_by job s bytes p).time ≤ steps job.log
  changed s bytes LastStop low = low
  changed s bytes Registers low = low
  changed s bytes (Register number) low = low
  changed s bytes (Memory place length) low = low
  changed s bytes Change low = low
  changed s bytes (Set point) low = low
  changed s bytes (Clear point) low = low
  changed s bytes (Go move) low = moved s.points s.time move low
  changed s bytes Moves low = low
  changed s bytes Supported low = low
  changed s bytes (Description offset length) low = low
  changed s bytes StartNoAck low = low
  changed s bytes Extended low = low
  changed s bytes Thread low = low
  changed s bytes Attached low = low
  changed s bytes (Run t) low = is_run s t low
  changed s bytes End low = low
  changed s bytes Command low = is_put s (time_asked job.log (command_in bytes)) (is_asked (command_in bytes)) low
  changed s bytes Detach low = low
  changed s bytes Kill low = low
  changed s bytes Other low = low

  all_within : (s : SessionAt) (hs : List Heard) → s.time ≤ steps job.log → (next_all job s hs).time ≤ steps job.log
  all_within s [] low = low
  all_within s (Packet bytes ∷ hs) low = all_within (next job s (Packet bytes)) hs (changed s bytes (packet_of bytes) low)
  all_within s (Bad ∷ hs) low = all_within s hs low
  all_within s (Again ∷ hs) low = all_within s hs low

pub stays_within : moves.NothingIsPassedOn → moves.NothingIsPassedBack → StaysWithin
stays_within on back job t hs = all_within on back job (begun_at job t) hs (omega arith)
