-- What is always true of commands in words.
use Rattle.std.specs.Prelude.{◌≡◌, ℕ, ◌^◌, ◌<◌, ◌≤◌, List, ◌++◌, codes, Some}
use Rattle.std.specs.Fmt.{decimal}
use Rattle.hex.specs.Hex.{IsBytes, encode_lower}
use Rattle.log_model.specs.Logs.{steps}
use Rattle.replayer.specs.Jobs.{Job}
use Rattle.remote_frames.specs.Frames.{Heard}
use Rattle.remote_packets.specs.declared.packet.Packet.TheVariants.{Command}
use Rattle.remote_packets.specs.Packets.{packet_of}
use Rattle.debug_model.specs.declared.command.Command.TheVariants.{GoTo}
use Rattle.debug_model.specs.Sessions.{SessionAt}
use Rattle.debug_model.specs.Commands.{command_named}
use Rattle.debug_model.specs.Answers.{after, command_in}
use Rattle.debug_model.specs.Dialogues.{next_all}
use Rattle.debug_model.specs.TravelLaws.{TellSameState}

-- the packet that asks for a command with these words
abbrev pub command_packet : List ℕ → List ℕ
command_packet words = codes "qRcmd," ++ encode_lower words

-- it is read as that
pub record IsRead (words : List ℕ) : Type 0 where
  pub packet : packet_of (command_packet words) ≡ Command
  pub command : command_in (command_packet words) ≡ command_named words

abbrev pub WordsAreRead : Type 0
WordsAreRead = (words : List ℕ) → IsBytes words → IsRead words

-- `goto T`
abbrev pub goto_words : ℕ → List ℕ
goto_words t = codes "goto " ++ decimal t

abbrev pub TimesAreRead : Type 0
TimesAreRead = (t : ℕ) → t < 2 ^ 64 → command_named (goto_words t) ≡ GoTo (Some t)

-- it goes to each time of the run
abbrev pub EachTimeIsReached : Type 0
EachTimeIsReached = (job : Job) (s : SessionAt) (t : ℕ) → t ≤ steps job.log → t < 2 ^ 64
    → (after job s (command_packet (goto_words t))).time ≡ t

-- nothing that is heard before changes what is told there
abbrev pub RunStaysAsItWas : Type 0
RunStaysAsItWas = (job : Job) (s : SessionAt) (hs : List Heard) (t : ℕ) → t ≤ steps job.log → t < 2 ^ 64
    → TellSameState job
    (after job (next_all job s hs) (command_packet (goto_words t)))
    (after job s (command_packet (goto_words t)))
