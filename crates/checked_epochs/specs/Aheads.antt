-- How far a check has come ahead of the analyses of the epochs.
use Rattle.std.specs.Prelude.{◌≡◌, ℕ, ◌≤◌, List, [], ◌∷◌, ◌++◌, reverse}
use Rattle.std.specs.List.{AllZip}
use Rattle.log_model.specs.Logs.{Log, end_at, steps}
use Rattle.report_model.specs.Query.{Query}
use Rattle.epoch_cut.specs.Numbered.{NumberedEpoch}
use Rattle.replay_run.specs.Counters.{CountRecords}
use Rattle.replay_run.specs.Runs.{RunAt}
use Rattle.replayer.specs.InParts.{resumed}
use Rattle.epoch_summary.specs.declared.summary.Summary.{Summary}
use Rattle.local_taint.specs.Ahead.{IsFoundAhead}
use Rattle.checked_epochs.specs.declared.ahead.Beginning.{Beginning}
use Rattle.checked_epochs.specs.declared.ahead.Ahead.{Ahead}
use Rattle.checked_epochs.specs.declared.ahead.Next.{Next}
use Rattle.checked_epochs.specs.declared.ahead.Next.TheVariants.{Inner, Last}
use Rattle.checked_epochs.specs.Beginnings.{IsOfSome, IsBegun, IsLastBegun, Leads, run_of}

-- the epochs follow one another from a time to another
abbrev pub Follow : ℕ → List NumberedEpoch → ℕ → Type 0
Follow s [] t = s ≡ t
Follow s (e ∷ es) t = (e.first ≡ s) × (s ≤ e.past_last) × Follow e.past_last es t

-- the inner epochs that aren't begun, in order
abbrev pub left_of : Ahead → List NumberedEpoch
left_of a = reverse a.left.items

-- where the check stands
abbrev pub stand_of : Log → Ahead → RunAt
stand_of log a = resumed log a.state

-- these are the summaries of all epochs that aren't begun, that of the run's last first
abbrev pub AreOfLeft : Query → Log → Ahead → List Summary → Type 0
AreOfLeft q log a all = AllZip (IsFoundAhead q (stand_of log a)) (left_of a ++ a.last ∷ []) (reverse all)

-- the check stands where the first of the epochs begins that are left, or before, and the last ends with the run
pub record IsAhead (log : Log) (a : Ahead) : Type 0 where
  pub counted : CountRecords log a.state.counters
  pub of_some : IsOfSome (stand_of log a)
  pub before : a.state.counters.time ≤ a.next
  pub follow : Follow a.next (left_of a) a.last.first
  pub before_end : a.last.first ≤ end_at log.end
  pub ends : a.last.past_last ≡ steps log

-- the next epoch, one before the last, was begun, and the check stands there
pub record HasBegunInner (log : Log) (old : Ahead) (b : Beginning) (new : Ahead) : Type 0 where
  pub begun : IsBegun log b
  pub led : Leads (stand_of log old) (run_of log b)
  pub ahead : IsAhead log new
  pub leads : Leads (stand_of log old) (stand_of log new)
  pub epochs : b.ticket ∷ left_of new ≡ left_of old
  pub last : new.last ≡ old.last

-- no epoch before the last was left, and the last was begun
pub record HasBegunLast (log : Log) (old : Ahead) (b : Beginning) : Type 0 where
  pub begun : IsLastBegun log b
  pub led : Leads (stand_of log old) (run_of log b)
  pub none : left_of old ≡ []
  pub is_last : b.ticket ≡ old.last

-- the epoch that a check begins next
abbrev pub IsNext : Log → Ahead → Next → Type 0
IsNext log old (Inner b new) = HasBegunInner log old b new
IsNext log old (Last b) = HasBegunLast log old b
