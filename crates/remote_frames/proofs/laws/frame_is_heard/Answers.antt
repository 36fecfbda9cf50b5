use Rattle.remote_frames.proofs.Among.{is_heard}
use Rattle.remote_frames.proofs.laws.frame_is_heard.Goals as goal

pub returns : goal.returns
returns c = is_heard
