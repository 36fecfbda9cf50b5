-- Commands in words: what they ask, their texts, and the time to which they go.
use Rattle.std.specs.Prelude.{ℕ, ◌+◌, ◌-◌, ◌^◌, nat_lt, nat_le, min, Bool, ◌&&◌, if◌then◌else◌, List, ◌++◌, length, drop, codes, Option, Some, None, option_map}
use Rattle.std.specs.Option.{option_and_then}
use Rattle.std.specs.List.{list_all, find, before_first, after_first}
use Rattle.std.specs.Char.{is_ascii_digit}
use Rattle.std.specs.Fmt.{decimal}
use Rattle.std.specs.Str.{bytes_eq}
use Rattle.std.specs.Str.Parse.{digits_value}
use Rattle.log_model.specs.Logs.{Log, steps}
use Rattle.replayer.specs.Jobs.{Job}
use Rattle.run_output.specs.declared.ways.Way.{Way}
use Rattle.run_output.specs.declared.ways.Way.TheVariants.{Received, Written}
use Rattle.run_output.specs.Lines.{Piece}
use Rattle.run_output.specs.Pieces.{pieces_on}
use Rattle.run_output.specs.Calls.{lines, calls_text}
use Rattle.remote_packets.specs.Numbers.{begins, both}
use Rattle.remote_packets.specs.Packets.{is_colon}
use Rattle.debug_model.specs.declared.command.Command.{Command}
use Rattle.debug_model.specs.declared.command.Command.TheVariants.{Time, Steps, Calls, GoTo, Read, Wrote, Other}

-- ---- what they ask

-- decimal digits, any number of them but none. Past 2^64 - 1 the number counts as that
abbrev pub decimal_number : List ℕ → Option ℕ
decimal_number digits =
    if nat_lt 0 (length digits) && list_all is_ascii_digit digits
    then Some (min (digits_value 10 digits) (2 ^ 64 - 1)) else None

-- a byte: its channel, `:` and its offset there
abbrev pub byte_named : List ℕ → Option (ℕ × ℕ)
byte_named text = both (decimal_number (before_first is_colon text)) (decimal_number (after_first is_colon text))

abbrev pub command_named : List ℕ → Command
command_named words =
    if bytes_eq words (codes "time") then Time else
    if bytes_eq words (codes "steps") then Steps else
    if bytes_eq words (codes "calls") then Calls else
    if begins (codes "goto ") words then GoTo (decimal_number (drop 5 words)) else
    if begins (codes "read ") words then Read (byte_named (drop 5 words)) else
    if begins (codes "wrote ") words then Wrote (byte_named (drop 6 words)) else Other

-- ---- what they find

-- a time of the run: at most the number of its steps
abbrev pub time_within : Log → ℕ → Option ℕ
time_within log t = if nat_le t (steps log) then Some t else None

-- the byte at an offset of the piece's channel is in the piece
abbrev pub has_byte : ℕ → Piece → Bool
has_byte offset p = nat_le p.offset offset && nat_lt offset (p.offset + length p.bytes)

-- the number of the step that moved a byte this way, as the text of the run's calls tells it
abbrev pub step_of_byte : Way → Log → ℕ × ℕ → Option ℕ
step_of_byte way log byte = option_map (λ p. p.at) (find (has_byte byte.1) (pieces_on way byte.0 (lines log)))

-- ---- their texts

abbrev pub number_line : ℕ → List ℕ
number_line n = decimal n ++ codes "\n"

-- a number, or what is told where there is none
abbrev pub found_line : List ℕ → Option ℕ → List ℕ
found_line otherwise None = otherwise
found_line otherwise (Some n) = number_line n

-- at time t
abbrev pub command_text : Job → ℕ → Command → List ℕ
command_text job t Time = number_line t
command_text job t Steps = number_line (steps job.log)
command_text job t Calls = calls_text job.log
command_text job t (GoTo to) = found_line (codes "no such time\n") (option_and_then (time_within job.log) to)
command_text job t (Read byte) =
    found_line (codes "no such byte\n") (option_and_then (step_of_byte Received job.log) byte)
command_text job t (Wrote byte) =
    found_line (codes "no such byte\n") (option_and_then (step_of_byte Written job.log) byte)
command_text job t Other = codes "time | steps | calls | goto T | read C:O | wrote C:O\n"

-- the time to which a command goes, if it does
abbrev pub time_asked : Log → Command → Option ℕ
time_asked log Time = None
time_asked log Steps = None
time_asked log Calls = None
time_asked log (GoTo to) = option_and_then (time_within log) to
time_asked log (Read byte) = None
time_asked log (Wrote byte) = None
time_asked log Other = None
