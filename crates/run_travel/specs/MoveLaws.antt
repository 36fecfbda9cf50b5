-- What is always true of watchpoints and moves.
use Rattle.std.specs.Prelude.{◌≡◌, ℕ, ◌+◌, ◌<◌, ◌≤◌, ◌↔◌, Bool, true, false, [], Option, Some, None}
use Rattle.log_model.specs.Logs.{steps}
use Rattle.replayer.specs.Jobs.{Job}
use Rattle.run_travel.specs.declared.access.Span.{Span}
use Rattle.run_travel.specs.declared.aim.Aim.{Aim}
use Rattle.run_travel.specs.declared.aim.Aim.TheVariants.{Step, Points}
use Rattle.run_travel.specs.declared.watch.Watch.{Watch}
use Rattle.run_travel.specs.Stops.{PointsAt, looks_at, pc_at, is_break, stops_after, stops_before}
use Rattle.run_travel.specs.Moves.{stop_on, stop_back, time_after}

-- the byte at an address is both watched and one of these
abbrev pub IsOfBoth : Watch → Span → ℕ → Type 0
IsOfBoth w bytes b = (w.place ≤ b) × (b < w.place + w.length) × (bytes.place ≤ b) × (b < bytes.place + bytes.size)

-- what a step reads, or writes, meets a watchpoint of that exactly where some byte is of both: so where there is none,
-- it doesn't
abbrev pub SomeByteIsOfBoth : Type 0
SomeByteIsOfBoth = (w : Watch) (bytes : Span) → (looks_at w bytes ≡ true) ↔ ((b : ℕ) × IsOfBoth w bytes b)

-- none of the numbers from one on, below another, passes a test
abbrev pub NonePasses : (ℕ → Bool) → ℕ → ℕ → Type 0
NonePasses passes from below = (k : ℕ) → from ≤ k → k < below → passes k ≡ false

-- the least of these numbers that passes, if one does
abbrev pub IsLeast : (ℕ → Bool) → ℕ → ℕ → Option ℕ → Type 0
IsLeast passes from below None = NonePasses passes from below
IsLeast passes from below (Some n) = (from ≤ n) × (n < below) × (passes n ≡ true) × NonePasses passes from n

-- the greatest
abbrev pub IsGreatest : (ℕ → Bool) → ℕ → ℕ → Option ℕ → Type 0
IsGreatest passes from below None = NonePasses passes from below
IsGreatest passes from below (Some n) = (from ≤ n) × (n < below) × (passes n ≡ true) × NonePasses passes (n + 1) below

-- forward, the run stops after the first of the steps to come after which it is to, and back before the last of those
-- that are done before which it is to
abbrev pub NothingIsPassedOn : Type 0
NothingIsPassedOn = (job : Job) (points : PointsAt) (aim : Aim) (t : ℕ) → t ≤ steps job.log
    → IsLeast (stops_after job points aim) t (steps job.log) (stop_on job points aim t)

abbrev pub NothingIsPassedBack : Type 0
NothingIsPassedBack = (job : Job) (points : PointsAt) (t : ℕ)
    → IsGreatest (stops_before job points) 0 t (stop_back job points t)

-- a move by one step
abbrev pub OneStepIsMade : Type 0
OneStepIsMade = (job : Job) (points : PointsAt) (t : ℕ) → t < steps job.log → stop_on job points Step t ≡ Some t

-- without watchpoints, a move on that began at a breakpoint, and made a step, is taken back by a move back
abbrev pub OnIsTakenBack : Type 0
OnIsTakenBack = (job : Job) (points : PointsAt) (t : ℕ) → points.watches ≡ [] → t < steps job.log
    → is_break points (pc_at job t) ≡ true
    → stop_back job points (time_after job (stop_on job points Points t)) ≡ Some t
