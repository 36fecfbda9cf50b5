use Rattle.stream_model.proofs.Running.{every_schedule_meets}
use Rattle.stream_model.proofs.laws.every_schedule_meets.Goals as goal

pub returns : goal.returns
returns c = every_schedule_meets
