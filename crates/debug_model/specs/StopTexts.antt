-- The packet that tells why a run stopped (GDB Remote Serial Protocol, GDB manual, appendix E "Remote Protocol", "Stop
-- Reply Packets").
use Rattle.std.specs.Prelude.{ℕ, ◌==◌, if◌then◌else◌, List, [], ◌∷◌, ◌++◌, codes}
use Rattle.std.specs.Int.{w32, to_be_bytes}
use Rattle.hex.specs.Hex.{encode_lower}
use Rattle.run_travel.specs.declared.cause.Cause.{Cause}
use Rattle.run_travel.specs.declared.cause.Cause.TheVariants.{Arrived, Watched, End, Trapped, Beginning}
use Rattle.run_travel.specs.declared.kind.WatchKind.{WatchKind}
use Rattle.run_travel.specs.declared.kind.WatchKind.TheVariants.{Writes, Reads, Both}

-- the signal of a trap, by the standard's exception code, as GDB numbers signals: SIGBUS of a misaligned target, SIGILL
-- of an illegal instruction, SIGTRAP of a breakpoint, SIGSEGV of what isn't in the window
abbrev pub signal_of : ℕ → ℕ
signal_of kind = if kind == 0 then 10 else if kind == 2 then 4 else if kind == 3 then 5 else 11

-- the stop reason of a watchpoint
abbrev pub watch_name : WatchKind → List ℕ
watch_name Writes = codes "watch"
watch_name Reads = codes "rwatch"
watch_name Both = codes "awatch"

-- an address as eight digits
abbrev pub address_text : ℕ → List ℕ
address_text place = encode_lower (to_be_bytes w32 place)

-- `T`, the signal as two digits, and the stop reason, if there is one. 5 is SIGTRAP
abbrev pub stop_text : Cause → List ℕ
stop_text Arrived = codes "T05"
stop_text (Watched w) = codes "T05" ++ watch_name w.kind ++ codes ":" ++ address_text w.place ++ codes ";"
stop_text End = codes "T05replaylog:end;"
stop_text (Trapped kind) = codes "T" ++ encode_lower (signal_of kind ∷ [])
stop_text Beginning = codes "T05replaylog:begin;"
