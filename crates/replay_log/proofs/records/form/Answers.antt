use Rattle.replay_log.proofs.Items.{are_there}
use Rattle.replay_log.proofs.records.form.Goals as goal

pub returns : goal.returns
returns c = are_there c.requires
