-- What is said from where a reader of frames and a session stand.
use Rattle.std.specs.Prelude.{◌++◌}
use Rattle.std.specs.List.{list_any}
use Rattle.remote_frames.specs.Frames.{heard}
use Rattle.remote_frames.specs.Reading.{FramerAt, begun}
use Rattle.debug_model.specs.Dialogues.{told_all, up_to_end, is_end}
use Rattle.debug_session.specs.Sessions.{SessionOf}
use Rattle.outer_wire.specs.Talks.{Answers}

-- the bytes that come continue the frame that has begun
abbrev pub answers_from : FramerAt → SessionOf → Answers
answers_from framer session = record {
  says = λ bytes. told_all session.job session.at (up_to_end (heard (begun framer ++ bytes)));
  ends = λ bytes. list_any is_end (heard (begun framer ++ bytes));
}
