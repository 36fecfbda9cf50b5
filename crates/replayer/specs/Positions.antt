-- Where a cursor stands: how many steps of its job are done.
use Rattle.std.specs.Prelude.{ℕ}
use Rattle.isa.specs.Machine.{State}
use Rattle.replay_model.specs.Run.{start, moment_after}
use Rattle.replayer.specs.Jobs.{Job}

pub record CursorAt : Type 0 where
  pub job : Job
  pub time : ℕ

-- the machine there
abbrev pub state_at : CursorAt → State
state_at c = (moment_after c.time (start c.job.start c.job.log)).state
