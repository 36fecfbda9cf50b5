-- What a packet is answered, and where the session stands after it (GDB Remote Serial Protocol, GDB manual, appendix E
-- "Remote Protocol").
use Rattle.std.specs.Prelude.{ℕ, ◌*◌, min, Bool, true, false, List, [], ◌∷◌, ◌++◌, length, take, drop, map, codes, Option, Some, None}
use Rattle.std.specs.List.{flat_map, range_with_len}
use Rattle.std.specs.Slice.Iter.{chunk_count}
use Rattle.hex.specs.Hex.{encode_lower}
use Rattle.isa.specs.Machine.{State}
use Rattle.log_model.specs.Logs.{steps}
use Rattle.replayer.specs.Jobs.{Job}
use Rattle.replayer.specs.Positions.{state_at}
use Rattle.remote_frames.specs.Frames.{frame}
use Rattle.remote_packets.specs.declared.packet.Packet.{Packet}
use Rattle.remote_packets.specs.declared.packet.Packet.TheVariants.{LastStop, Registers, Register, Memory, Change, Set, Clear, Go, Moves, Supported, Description, StartNoAck, Extended, Thread, Attached, Run, End, Command, Detach, Kill, Other}
use Rattle.remote_packets.specs.declared.packet.Point.{Point}
use Rattle.remote_packets.specs.declared.packet.Point.TheVariants.{Break, Watch}
use Rattle.remote_packets.specs.declared.packet.WatchKind.{WatchKind}
use Rattle.remote_packets.specs.declared.packet.WatchKind.TheVariants.{Write, Read, Access}
use Rattle.remote_packets.specs.Packets.{packet_of, command_of}
use Rattle.run_travel.specs.declared.kind.WatchKind.{WatchKind as LookedFor}
use Rattle.run_travel.specs.declared.kind.WatchKind.TheVariants.{Writes, Reads, Both}
use Rattle.run_travel.specs.declared.watch.Watch.{Watch as Watched}
use Rattle.run_travel.specs.Stops.{PointsAt, with_break, without_break, with_watch, without_watch}
use Rattle.debug_model.specs.declared.command.Command.{Command as CommandInWords}
use Rattle.debug_model.specs.Sessions.{SessionAt}
use Rattle.debug_model.specs.StopTexts.{stop_text}
use Rattle.debug_model.specs.Arrivals.{Arrival, arrival}
use Rattle.debug_model.specs.States.{error, registers_text, register_text, memory_text}
use Rattle.debug_model.specs.Description.{part_text}
use Rattle.debug_model.specs.Commands.{command_named, command_text, time_asked}

abbrev pub ok : List ℕ
ok = codes "OK"

-- the machine where the session stands
abbrev pub machine_at : Job → SessionAt → State
machine_at job s = state_at record { job = job; time = s.time }

-- ---- points

abbrev pub looked_for : WatchKind → LookedFor
looked_for Write = Writes
looked_for Read = Reads
looked_for Access = Both

abbrev pub watch_of : WatchKind → ℕ → ℕ → Watched
watch_of kind place length = record { kind = looked_for kind; place = place; length = length }

abbrev pub with_point : PointsAt → Point → PointsAt
with_point points (Break place) = with_break points place
with_point points (Watch kind place length) = with_watch points (watch_of kind place length)

abbrev pub without_point : PointsAt → Point → PointsAt
without_point points (Break place) = without_break points place
without_point points (Watch kind place length) = without_watch points (watch_of kind place length)

-- ---- texts of commands

-- part k of a text, from 0 on: 4000 bytes of it, and the last part what is left
abbrev pub console_packet : List ℕ → ℕ → List ℕ
console_packet text k = codes "O" ++ encode_lower (take 4000 (drop (k * 4000) text))

-- the packets that tell a text, in order
abbrev pub console_packets : List ℕ → List (List ℕ)
console_packets text = map (console_packet text) (range_with_len 0 (chunk_count (length text) 4000))

-- what a command in words asks
abbrev pub command_in : List ℕ → CommandInWords
command_in bytes = command_named (command_of bytes)

-- ---- answers

-- what is offered: packets of 16384 bytes (0x4000), frames that aren't acknowledged, moves back, the description, and
-- moves by `vCont`
abbrev pub supported : List ℕ
supported =
    codes "PacketSize=4000;QStartNoAckMode+;ReverseStep+;ReverseContinue+;qXfer:features:read+;vContSupported+"

abbrev pub run_text : Option ℕ → List ℕ
run_text None = error
run_text (Some t) = codes "T05"

-- the packets of the answer to a packet with these bytes, which asks this
abbrev pub answer_to : Job → SessionAt → List ℕ → Packet → List (List ℕ)
answer_to job s bytes LastStop = s.stop ∷ []
answer_to job s bytes Registers = registers_text (machine_at job s) ∷ []
answer_to job s bytes (Register number) = register_text (machine_at job s) number ∷ []
answer_to job s bytes (Memory place length) = memory_text (machine_at job s) place length ∷ []
answer_to job s bytes Change = error ∷ []
answer_to job s bytes (Set point) = ok ∷ []
answer_to job s bytes (Clear point) = ok ∷ []
answer_to job s bytes (Go move) = stop_text (arrival job s.points s.time move).cause ∷ []
answer_to job s bytes Moves = codes "vCont;c;C;s;S;r" ∷ []
answer_to job s bytes Supported = supported ∷ []
answer_to job s bytes (Description offset length) = part_text offset length ∷ []
answer_to job s bytes StartNoAck = ok ∷ []
answer_to job s bytes Extended = ok ∷ []
answer_to job s bytes Thread = ok ∷ []
answer_to job s bytes Attached = codes "1" ∷ []
answer_to job s bytes (Run t) = run_text t ∷ []
answer_to job s bytes End = ok ∷ []
answer_to job s bytes Command = console_packets (command_text job s.time (command_in bytes)) ++ ok ∷ []
answer_to job s bytes Detach = ok ∷ []
answer_to job s bytes Kill = []
answer_to job s bytes Other = [] ∷ []

abbrev pub answer : Job → SessionAt → List ℕ → List (List ℕ)
answer job s bytes = answer_to job s bytes (packet_of bytes)

-- ---- where the session stands then

-- it stands where a move came to
abbrev pub arrived : SessionAt → Arrival → SessionAt
arrived s a = record s { time = a.time; stop = stop_text a.cause }

-- it was put to a time, if it was
abbrev pub put : SessionAt → Option ℕ → SessionAt
put s None = s
put s (Some t) = record s { time = t; stop = codes "T05" }

-- past the steps of the run their number is meant
abbrev pub run_anew : Job → SessionAt → Option ℕ → SessionAt
run_anew job s None = s
run_anew job s (Some t) = put s (Some (min t (steps job.log)))

abbrev pub changed_by : Job → SessionAt → List ℕ → Packet → SessionAt
changed_by job s bytes LastStop = s
changed_by job s bytes Registers = s
changed_by job s bytes (Register number) = s
changed_by job s bytes (Memory place length) = s
changed_by job s bytes Change = s
changed_by job s bytes (Set point) = record s { points = with_point s.points point }
changed_by job s bytes (Clear point) = record s { points = without_point s.points point }
changed_by job s bytes (Go move) = arrived s (arrival job s.points s.time move)
changed_by job s bytes Moves = s
changed_by job s bytes Supported = s
changed_by job s bytes (Description offset length) = s
changed_by job s bytes StartNoAck = record s { acknowledged = false }
changed_by job s bytes Extended = s
changed_by job s bytes Thread = s
changed_by job s bytes Attached = s
changed_by job s bytes (Run t) = run_anew job s t
changed_by job s bytes End = s
changed_by job s bytes Command = put s (time_asked job.log (command_in bytes))
changed_by job s bytes Detach = s
changed_by job s bytes Kill = s
changed_by job s bytes Other = s

-- the session after a packet with these bytes was answered
abbrev pub after : Job → SessionAt → List ℕ → SessionAt
after job s bytes = record (changed_by job s bytes (packet_of bytes)) { last = flat_map frame (answer job s bytes) }

-- ---- the end

abbrev pub is_last : Packet → Bool
is_last LastStop = false
is_last Registers = false
is_last (Register number) = false
is_last (Memory place length) = false
is_last Change = false
is_last (Set point) = false
is_last (Clear point) = false
is_last (Go move) = false
is_last Moves = false
is_last Supported = false
is_last (Description offset length) = false
is_last StartNoAck = false
is_last Extended = false
is_last Thread = false
is_last Attached = false
is_last (Run t) = false
is_last End = false
is_last Command = false
is_last Detach = true
is_last Kill = true
is_last Other = false

-- whether a packet ends the session
abbrev pub ends : List ℕ → Bool
ends bytes = is_last (packet_of bytes)
