-- Moves of a session, and the state that it tells.
use Rattle.std.proofs.Common.{◌≡◌, ℕ, ◌+◌, ◌-◌, ◌<◌, ◌≤◌, inl, inr, true, List, Option, Some, None, refl, ap, sym, ◌∙◌, subst, arith}
use Rattle.log_model.specs.Logs.{steps}
use Rattle.replayer.specs.Jobs.{Job}
use Rattle.remote_packets.specs.declared.packet.Packet.{Packet}
use Rattle.remote_packets.specs.declared.packet.Packet.TheVariants.{LastStop, Registers, Register, Memory, Change, Set, Clear, Go, Moves, Supported, Description, StartNoAck, Extended, Thread, Attached, Run, End, Command, Detach, Kill, Other}
use Rattle.remote_packets.specs.declared.packet.Move.{Move}
use Rattle.remote_packets.specs.declared.packet.Move.TheVariants.{Step, Continue, RangeStep, ReverseStep, ReverseContinue}
use Rattle.remote_packets.specs.Packets.{packet_of}
use Rattle.run_travel.specs.declared.aim.Aim.{Aim}
use Rattle.run_travel.specs.Stops.{PointsAt, stops_after, stops_before}
use Rattle.run_travel.specs.Moves.{stop_on, stop_back, time_after, time_before}
use Rattle.run_travel.specs.MoveLaws as moves
use Rattle.debug_model.specs.Sessions.{SessionAt}
use Rattle.debug_model.specs.Arrivals.{arrival}
use Rattle.debug_model.specs.Answers.{answer_to, after, changed_by}
use Rattle.debug_model.specs.TravelLaws.{aim_of, IsNextStop, IsLastStop, NothingIsPassedForward, NothingIsPassedBack, OnIsTakenBack, asks_state, TellSameState, StepIsTakenBack, StepBackIsMadeAgain}

-- ---- the time to which a packet goes

pub time_of_move : (job : Job) (s : SessionAt) (bytes : List ℕ) (move : Move) → packet_of bytes ≡ Go move
    → (after job s bytes).time ≡ (arrival job s.points s.time move).time
time_of_move job s bytes move is = ap (λ (p : Packet). (changed_by job s bytes p).time) is

points_of_move : (job : Job) (s : SessionAt) (bytes : List ℕ) (move : Move) → packet_of bytes ≡ Go move
    → (after job s bytes).points ≡ s.points
points_of_move job s bytes move is = ap (λ (p : Packet). (changed_by job s bytes p).points) is

-- ---- nothing is passed over

next_stop : (job : Job) (points : PointsAt) (aim : Aim) (t : ℕ) (o : Option ℕ) → t ≤ steps job.log
    → moves.IsLeast (stops_after job points aim) t (steps job.log) o
    → IsNextStop job points aim t (time_after job o)
next_stop job points aim t None low is = record {
  later = low;
  within = omega arith;
  none_between = λ k above below. is (k - 1) (omega arith) (omega arith);
  stop = inl refl;
}
next_stop job points aim t (Some step) low is =
    let same : step + 1 - 1 ≡ step = omega arith in
    record {
      later = omega (arith, is.0);
      within = omega (arith, is.1);
      none_between = λ k above below. is.3 (k - 1) (omega arith) (omega arith);
      stop = inr (omega (arith, is.0), ap (stops_after job points aim) same ∙ is.2);
    }

last_stop : (job : Job) (points : PointsAt) (t : ℕ) (o : Option ℕ) → moves.IsGreatest (stops_before job points) 0 t o
    → IsLastStop job points t (time_before o)
last_stop job points t None is = record {
  earlier = omega arith;
  none_between = λ k above below. is k (omega arith) below;
  stop = inl refl;
}
last_stop job points t (Some step) is = record {
  earlier = omega (arith, is.1);
  none_between = λ k above below. is.3 k (omega arith) below;
  stop = inr (is.1, is.2);
}

on : (job : Job) (points : PointsAt) (t : ℕ) (move : Move) (aim : Aim) → aim_of move ≡ Some aim
    → (arrival job points t move).time ≡ time_after job (stop_on job points aim t)
on job points t Step aim e = cc
on job points t Continue aim e = cc
on job points t (RangeStep start end) aim e = cc
on job points t ReverseStep aim e = cc
on job points t ReverseContinue aim e = cc

pub passed_forward : moves.NothingIsPassedOn → NothingIsPassedForward
passed_forward none job s bytes move aim low is aimed =
    let to = time_of_move job s bytes move is ∙ on job s.points s.time move aim aimed in
    let stop = stop_on job s.points aim s.time in
    subst (IsNextStop job s.points aim s.time) (sym to) (next_stop job s.points aim s.time stop low (none job s.points aim s.time low))

pub passed_back : moves.NothingIsPassedBack → NothingIsPassedBack
passed_back none job s bytes is =
    let to = time_of_move job s bytes ReverseContinue is in
    subst (IsLastStop job s.points s.time) (sym to) (last_stop job s.points s.time (stop_back job s.points s.time) (none job s.points s.time))

pub taken_back : moves.OnIsTakenBack → OnIsTakenBack
taken_back takes job s on back alone low here is_on is_back =
    let there = time_of_move job s on Continue is_on in
    let same = points_of_move job s on Continue is_on in
    time_of_move job (after job s on) back ReverseContinue is_back
    ∙ ap (λ (points : PointsAt). time_before (stop_back job points (after job s on).time)) same
    ∙ ap (λ (t : ℕ). time_before (stop_back job s.points t)) there
    ∙ ap time_before (takes job s.points s.time alone low here)

-- ---- the same state

pub at_one_time : (job : Job) (s u : SessionAt) → s.time ≡ u.time → TellSameState job s u
at_one_time job s u same bytes asks = by (packet_of bytes) asks where
  by : (p : Packet) → asks_state p ≡ true → answer_to job s bytes p ≡ answer_to job u bytes p
  by Registers e = rw same refl
  by (Register number) e = rw same refl
  by (Memory place length) e = rw same refl
  by LastStop e = cc
  by Change e = cc
  by (Set point) e = cc
  by (Clear point) e = cc
  by (Go move) e = cc
  by Moves e = cc
  by Supported e = cc
  by (Description offset length) e = cc
  by StartNoAck e = cc
  by Extended e = cc
  by Thread e = cc
  by Attached e = cc
  by (Run t) e = cc
  by End e = cc
  by Command e = cc
  by Detach e = cc
  by Kill e = cc
  by Other e = cc

step_made : moves.OneStepIsMade → (job : Job) (s : SessionAt) (bytes : List ℕ) → s.time < steps job.log
    → packet_of bytes ≡ Go Step → (after job s bytes).time ≡ s.time + 1
step_made one job s bytes low is = time_of_move job s bytes Step is ∙ ap (time_after job) (one job s.points s.time low)

pub step_taken_back : moves.OneStepIsMade → StepIsTakenBack
step_taken_back one job s on back low is_on is_back =
    let same : s.time + 1 - 1 ≡ s.time = omega arith in
    at_one_time job (after job (after job s on) back) s (
    time_of_move job (after job s on) back ReverseStep is_back
    ∙ ap (λ (t : ℕ). t - 1) (step_made one job s on low is_on)
    ∙ same
    )

pub step_made_again : moves.OneStepIsMade → StepBackIsMadeAgain
step_made_again one job s back on some low is_back is_on =
    let there = time_of_move job s back ReverseStep is_back in
    let same : s.time - 1 + 1 ≡ s.time = omega arith in
    at_one_time job (after job (after job s back) on) s (
    step_made one job (after job s back) on (omega (arith, there)) is_on
    ∙ ap (λ (t : ℕ). t + 1) there
    ∙ same
    )
