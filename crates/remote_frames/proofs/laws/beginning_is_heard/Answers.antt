use Rattle.remote_frames.proofs.Among.{beginning_is_heard}
use Rattle.remote_frames.proofs.laws.beginning_is_heard.Goals as goal

pub returns : goal.returns
returns c = beginning_is_heard
