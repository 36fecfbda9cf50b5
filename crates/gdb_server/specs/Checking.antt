-- What is found of a run while its log is checked.
use Rattle.std.specs.Prelude.{◌≡◌, ℕ, List}
use Rattle.log_model.specs.Logs.{steps}
use Rattle.replayer.specs.Jobs.{Job}
use Rattle.checkpoints.specs.Taking.{TakerAt, HasTaken}

-- the checkpoints of the job's run are taken at these cuts
pub record AreTakenFor (cuts : List ℕ) (job : Job) (taker : TakerAt) : Type 0 where
  pub cuts_are : taker.cuts ≡ cuts
  pub taken : HasTaken job (steps job.log) taker
