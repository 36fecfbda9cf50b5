use Rattle.remote_frames.specs.Frames.{frame}
use Rattle.debug_model.specs.Answers.{console_packet}
use Rattle.debug_session.proofs.Ranges.{flat_map_next_of}
use Rattle.debug_session.proofs.packets.push_console.Goals as goal

pub loop-number-preserved : goal.loop-number-preserved
loop-number-preserved c =
    flat_map_next_of frame (console_packet c.args.text.now) c.loop-number.number c.args.frames.now.items c.loop-number.frames.items c.push_part.new.frames.items c.loop-number.invariant
    c.in_ok-push_part.ensures
