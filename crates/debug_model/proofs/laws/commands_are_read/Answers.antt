use Rattle.debug_model.proofs.CommandPackets.{words_are_read, times_are_read, each_time_is_reached}
use Rattle.debug_model.proofs.laws.commands_are_read.Goals as goal

pub returns : goal.returns
returns c = record { words = words_are_read; times = times_are_read; reached = each_time_is_reached }
