use Rattle.remote_frames.proofs.Among.{are_heard}
use Rattle.remote_frames.proofs.laws.frames_are_heard.Goals as goal

pub returns : goal.returns
returns c = are_heard
