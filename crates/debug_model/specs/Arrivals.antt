-- Where a move comes to, and why it stops there.
use Rattle.std.specs.Prelude.{ℕ, ◌-◌}
use Rattle.replayer.specs.Jobs.{Job}
use Rattle.remote_packets.specs.declared.packet.Move.{Move}
use Rattle.remote_packets.specs.declared.packet.Move.TheVariants.{Step, Continue, RangeStep, ReverseStep, ReverseContinue}
use Rattle.run_travel.specs.declared.aim.Aim.{Aim}
use Rattle.run_travel.specs.declared.aim.Aim.TheVariants as aim
use Rattle.run_travel.specs.declared.cause.Cause.{Cause}
use Rattle.run_travel.specs.Stops.{PointsAt}
use Rattle.run_travel.specs.Moves.{stop_on, stop_back, time_after, time_before, cause_on, cause_back, cause_of_step_back}

-- a time, and why a run that was moved stops there
pub record Arrival : Type 0 where
  pub time : ℕ
  pub cause : Cause

-- on from time t
abbrev pub arrival_on : Job → PointsAt → Aim → ℕ → Arrival
arrival_on job points aim t = record {
  time = time_after job (stop_on job points aim t);
  cause = cause_on job points t (stop_on job points aim t);
}

-- from time t, by a move
abbrev pub arrival : Job → PointsAt → ℕ → Move → Arrival
arrival job points t Step = arrival_on job points aim.Step t
arrival job points t Continue = arrival_on job points aim.Points t
arrival job points t (RangeStep start end) = arrival_on job points (aim.Leave start end) t
arrival job points t ReverseStep = record { time = t - 1; cause = cause_of_step_back job points t }
arrival job points t ReverseContinue = record {
  time = time_before (stop_back job points t);
  cause = cause_back job points (stop_back job points t);
}
