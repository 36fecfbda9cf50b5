-- The talk of a debugger and a recorded run.
use Rattle.std.specs.Prelude.{ℕ}
use Rattle.std.specs.List.{list_any}
use Rattle.replayer.specs.Jobs.{Job}
use Rattle.remote_frames.specs.Frames.{heard}
use Rattle.debug_model.specs.Dialogues.{dialogue, is_end}
use Rattle.outer_wire.specs.Talks.{Answers}

-- what is said, by a session that begins at this time: the dialogue, which a packet ends that ends the session
abbrev pub answers_of : Job → ℕ → Answers
answers_of job t = record {
  says = dialogue job t;
  ends = λ bytes. list_any is_end (heard bytes);
}
