-- The workload's run, as the command `bench` has it.
use Rattle.std.specs.Prelude.{◌≡◌, ◌≤◌, ◌^◌, ℕ, List, length, Some, sum_by}
use Rattle.log_model.specs.declared.Version.TheVariants.{Two}
use Rattle.log_model.specs.Logs.{log_text}
use Rattle.replay_model.specs.Fits.{beginning}
use Rattle.record_model.specs.Counts.{capped}
use Rattle.replayer.specs.Jobs.{Job}
use Rattle.run_query.specs.Crossings.{CrossedAt}
use Rattle.order_gateway.specs.Guest.{guest_file}
use Rattle.order_gateway.specs.Answer.{IsWorkloadLog}

-- the job is of the guest and the log of its run, whose text is no longer than a log may be
pub record IsWorkloadJob (seed steps : ℕ) (job : Job) : Type 0 where
  pub is_log : IsWorkloadLog seed steps job.log
  pub begins : beginning guest_file job.log ≡ Some job.start
  pub short : length (log_text Two job.log) ≤ 2 ^ 26

-- how many locations are asked at these cuts in all
abbrev pub asked_in_all : List CrossedAt → ℕ
asked_in_all crossed = capped (sum_by (λ c. length c.asked) crossed)
