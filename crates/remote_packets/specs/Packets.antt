-- What a packet asks (GDB Remote Serial Protocol, GDB manual, appendix E "Remote Protocol", "Packets", "General Query
-- Packets" and "Bookmark Packets"). Names and letters are those of the protocol.
use Rattle.std.specs.Prelude.{ℕ, ◌==◌, Bool, ◌||◌, if◌then◌else◌, List, [], drop, codes, Option, Some, None, unwrap_or, option_map}
use Rattle.std.specs.List.{list_any, before_first, after_first}
use Rattle.std.specs.Result.{result_unwrap_or}
use Rattle.std.specs.Str.{bytes_eq}
use Rattle.hex.specs.Hex.{decode_of}
use Rattle.remote_packets.specs.declared.packet.Packet.{Packet}
use Rattle.remote_packets.specs.declared.packet.Packet.TheVariants.{LastStop, Registers, Register, Memory, Change, Set, Clear, Go, Moves, Supported, Description, StartNoAck, Extended, Thread, Attached, Run, End, Command, Detach, Kill, Other}
use Rattle.remote_packets.specs.declared.packet.Point.{Point}
use Rattle.remote_packets.specs.declared.packet.Point.TheVariants.{Break, Watch}
use Rattle.remote_packets.specs.declared.packet.WatchKind.{WatchKind}
use Rattle.remote_packets.specs.declared.packet.WatchKind.TheVariants.{Write, Read, Access}
use Rattle.remote_packets.specs.declared.packet.Move.{Move}
use Rattle.remote_packets.specs.declared.packet.Move.TheVariants.{Step, Continue, RangeStep, ReverseStep, ReverseContinue}
use Rattle.remote_packets.specs.Numbers.{begins, number, pair, is_comma, is_hex_text, time}

abbrev pub is_semicolon : ℕ → Bool
is_semicolon byte = byte == 0x3b

abbrev pub is_colon : ℕ → Bool
is_colon byte = byte == 0x3a

-- ---- operands

abbrev pub break_at : ℕ × ℕ → Point
break_at at = Break at.0

abbrev pub watch_at : WatchKind → ℕ × ℕ → Point
watch_at kind at = Watch kind at.0 at.1

-- a point by its kind: of an address and a length. A breakpoint's length isn't looked at, and nor is what follows a `;`
-- behind it
abbrev pub point_of_kind : List ℕ → List ℕ → Option Point
point_of_kind kind operands =
    if bytes_eq kind (codes "0") || bytes_eq kind (codes "1")
    then option_map break_at (pair (before_first is_semicolon operands)) else
    if bytes_eq kind (codes "2") then option_map (watch_at Write) (pair operands) else
    if bytes_eq kind (codes "3") then option_map (watch_at Read) (pair operands) else
    if bytes_eq kind (codes "4") then option_map (watch_at Access) (pair operands) else None

-- behind `Z` or `z`: a kind, an address and a length, with commas between them
abbrev pub point : List ℕ → Option Point
point text = point_of_kind (before_first is_comma text) (after_first is_comma text)

abbrev pub range_step : ℕ × ℕ → Move
range_step range = RangeStep range.0 range.1

-- a move by its name
abbrev pub move_named : List ℕ → Option Move
move_named name =
    if bytes_eq name (codes "s") || begins (codes "S") name then Some Step else
    if bytes_eq name (codes "c") || begins (codes "C") name then Some Continue else
    if begins (codes "r") name then option_map range_step (pair (drop 1 name)) else None

-- behind `vCont;`: the first action, up to a `;`, and of it what stands before the thread, up to a `:`
abbrev pub first_move : List ℕ → Option Move
first_move actions = move_named (before_first is_colon (before_first is_semicolon actions))

-- a run at a time, which has no `;`
abbrev pub run_at : List ℕ → Option Packet
run_at text = if list_any is_semicolon text then None else Some (Run (time text))

-- behind `vRun;`: a program's name, which isn't looked at, and behind a `;` a time, where there is one
abbrev pub run_of : List ℕ → Option Packet
run_of words =
    if list_any is_semicolon words then run_at (after_first is_semicolon words) else Some (Run (Some 0))

abbrev pub memory : ℕ × ℕ → Packet
memory at = Memory at.0 at.1

abbrev pub description : ℕ × ℕ → Packet
description part = Description part.0 part.1

-- ---- packets

-- packets behind whose name nothing stands
abbrev pub alone : List ℕ → Option Packet
alone bytes =
    if bytes_eq bytes (codes "?") then Some LastStop else
    if bytes_eq bytes (codes "g") then Some Registers else
    if bytes_eq bytes (codes "s") then Some (Go Step) else
    if bytes_eq bytes (codes "c") then Some (Go Continue) else
    if bytes_eq bytes (codes "bs") then Some (Go ReverseStep) else
    if bytes_eq bytes (codes "bc") then Some (Go ReverseContinue) else
    if bytes_eq bytes (codes "vCont?") then Some Moves else
    if bytes_eq bytes (codes "QStartNoAckMode") then Some StartNoAck else
    if bytes_eq bytes (codes "!") then Some Extended else
    if bytes_eq bytes (codes "k") then Some Kill else None

-- packets behind whose name anything may stand
abbrev pub followed : List ℕ → Option Packet
followed bytes =
    if begins (codes "G") bytes || begins (codes "P") bytes || begins (codes "M") bytes || begins (codes "X") bytes
    then Some Change else
    if begins (codes "S") bytes then Some (Go Step) else
    if begins (codes "C") bytes then Some (Go Continue) else
    if begins (codes "H") bytes then Some Thread else
    if begins (codes "D") bytes then Some Detach else
    if begins (codes "vKill;") bytes then Some End else
    if begins (codes "qSupported") bytes then Some Supported else
    if begins (codes "qAttached") bytes then Some Attached else None

-- packets behind whose name operands stand
abbrev pub with_operands : List ℕ → Option Packet
with_operands bytes =
    if begins (codes "p") bytes then option_map Register (number (drop 1 bytes)) else
    if begins (codes "m") bytes then option_map memory (pair (drop 1 bytes)) else
    if begins (codes "Z") bytes then option_map Set (point (drop 1 bytes)) else
    if begins (codes "z") bytes then option_map Clear (point (drop 1 bytes)) else
    if begins (codes "vCont;") bytes then option_map Go (first_move (drop 6 bytes)) else
    if begins (codes "vRun;") bytes then run_of (drop 5 bytes) else
    if begins (codes "qRcmd,") bytes then (if is_hex_text (drop 6 bytes) then Some Command else None) else
    if begins (codes "qXfer:features:read:target.xml:") bytes then option_map description (pair (drop 31 bytes))
    else None

-- what a packet asks. One that begins as one of these, and has not its form, is every other
unfoldable pub packet_of : List ℕ → Packet
packet_of bytes = unwrap_or (alone bytes) (unwrap_or (followed bytes) (unwrap_or (with_operands bytes) Other))

-- the bytes of a command in words, by its packet's text in hexadecimal
abbrev pub command_of : List ℕ → List ℕ
command_of bytes = result_unwrap_or (decode_of (drop 6 bytes)) []
