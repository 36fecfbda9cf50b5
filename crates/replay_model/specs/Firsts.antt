-- What a divergence is: the first difference of a run from its log.
use Rattle.std.specs.Prelude.{◌≡◌, ℕ, ◌<◌, ◌≤◌, Option, Some, None}
use Rattle.isa.specs.Machine.{State}
use Rattle.log_model.specs.Logs.{Log, end_at}
use Rattle.replay_model.specs.declared.Divergence.{Divergence}
use Rattle.replay_model.specs.Run.{start, moment_after}
use Rattle.replay_model.specs.Comparison.{Compared, difference}

-- what differs at the moment after k steps
abbrev pub difference_after : ℕ → State → Log → Option Compared
difference_after k s log = difference log (moment_after k (start s log))

-- nothing differs at any moment up to the time of the end
pub record AgreesToTheEnd (s : State) (log : Log) : Type 0 where
  pub none : (k : ℕ) → k ≤ end_at log.end → difference_after k s log ≡ None

-- this differs at the moment after d.step steps, which is none after the end, and nothing differs at an earlier one
pub record IsFirstDifference (s : State) (log : Log) (d : Divergence) : Type 0 where
  pub within : d.step ≤ end_at log.end
  pub differs : difference_after d.step s log ≡ Some record { field = d.field; kept = d.kept; seen = d.seen }
  pub none_before : (k : ℕ) → k < d.step → difference_after k s log ≡ None
