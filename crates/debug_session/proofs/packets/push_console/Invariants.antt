use Rattle.std.proofs.Common.{◌≡◌, ◌++◌, map}
use Rattle.std.specs.List.{flat_map, range_with_len}
use Rattle.remote_frames.specs.Frames.{frame}
use Rattle.debug_model.specs.Answers.{console_packet}
use Rattle.debug_session.proofs.packets.push_console.Given as goal

-- the frames of the parts so far
abbrev pub invariant-loop-number : goal.invariant-loop-number
invariant-loop-number l =
    l.frames.items ≡ l.fn.frames.items ++ flat_map frame (map (console_packet l.text) (range_with_len 0 l.number))
