-- Worked examples, computed by the checker: texts, commands in words, and a dialogue over a program that copies four bytes.
use Rattle.std.proofs.Common.{◌≡◌, ℕ, List, [], ◌∷◌, ◌++◌, length, Some, None, replicate, pos, refl}
use Rattle.std.specs.Prelude.{codes}
use Rattle.std.specs.Fmt.{digits}
use Rattle.std.specs.List.{flat_map}
use Rattle.hex.specs.Hex.{encode_with, decode_pairs}
use Rattle.isa.specs.Machine.{State}
use Rattle.log_model.specs.declared.CallRecord.TheVariants.{Read, Write}
use Rattle.log_model.specs.declared.RunEnd.TheVariants.{Exit}
use Rattle.replayer.specs.Jobs.{Job}
use Rattle.remote_frames.specs.Frames.{heard}
use Rattle.remote_packets.specs.Packets.{packet_of}
use Rattle.run_travel.specs.declared.cause.Cause.TheVariants.{Arrived, Watched, End, Trapped, Beginning}
use Rattle.run_travel.specs.declared.kind.WatchKind.TheVariants.{Writes, Reads, Both}
use Rattle.debug_model.specs.declared.command.Command.TheVariants as command
use Rattle.debug_model.specs.StopTexts.{stop_text}
use Rattle.debug_model.specs.States.{registers_text, register_text, memory_text}
use Rattle.debug_model.specs.Description.{description, part_text}
use Rattle.debug_model.specs.Commands.{command_named, command_text}
use Rattle.debug_model.specs.Answers.{console_packets}
use Rattle.debug_model.specs.Dialogues.{dialogue}

-- ---- stops

stops : (stop_text Arrived ≡ codes "T05") × (stop_text End ≡ codes "T05replaylog:end;")
    × (stop_text Beginning ≡ codes "T05replaylog:begin;")
    × (stop_text (Watched (record { kind = Writes; place = 0x10102; length = 1 })) ≡ codes "T05watch:00010102;")
    × (stop_text (Watched (record { kind = Reads; place = 0xfffffff0; length = 64 })) ≡ codes "T05rwatch:fffffff0;")
    × (stop_text (Watched (record { kind = Both; place = 0; length = 4 })) ≡ codes "T05awatch:00000000;")
unfolding encode_with
stops = (refl, refl, refl, refl, refl, refl)

-- traps, by the standard's exception codes
traps : (stop_text (Trapped 0) ≡ codes "T0a") × (stop_text (Trapped 1) ≡ codes "T0b") × (stop_text (Trapped 2) ≡ codes "T04")
    × (stop_text (Trapped 3) ≡ codes "T05") × (stop_text (Trapped 5) ≡ codes "T0b") × (stop_text (Trapped 7) ≡ codes "T0b")
unfolding encode_with
traps = (refl, refl, refl, refl, refl, refl)

-- ---- a state

-- five bytes at 0x10000
abbrev small : State
small = record {
  pc = 0x10004;
  registers = 0 ∷ 0x12345678 ∷ replicate 30 255;
  base = 0x10000;
  memory = 1 ∷ 2 ∷ 3 ∷ 4 ∷ 0xff ∷ [];
}

-- x0 first, the pc last, and the lowest byte of each first
registers : (registers_text small ≡ codes "0000000078563412" ++ flat_map (λ (n : ℕ). codes "ff000000") (replicate 30 0) ++ codes "04000100")
    × (register_text small 0 ≡ codes "00000000") × (register_text small 1 ≡ codes "78563412")
    × (register_text small 32 ≡ codes "04000100") × (register_text small 33 ≡ codes "E01")
unfolding encode_with
registers = (refl, refl, refl, refl, refl)

-- as many bytes as there are from an address on
memory : (memory_text small 0x10000 4 ≡ codes "01020304") × (memory_text small 0x10003 4 ≡ codes "04ff")
    × (memory_text small 0x10005 1 ≡ codes "E01") × (memory_text small 0xffff 4 ≡ codes "E01") × (memory_text small 0x10000 0 ≡ codes "E01")
unfolding encode_with
memory = (refl, refl, refl, refl, refl)

-- at most 8000 of them
most : length (memory_text (record small { memory = replicate 8001 0 }) 0x10000 0xffffffff) ≡ 16000
unfolding encode_with
most = refl

-- ---- the description

-- it has 1308 bytes
parts : (length description ≡ 1308) × (part_text 0 21 ≡ codes "m<?xml version=\"1.0\"?>") × (part_text 1297 10 ≡ codes "m\n</target>")
    × (part_text 1297 11 ≡ codes "l\n</target>\n") × (part_text 1307 4000 ≡ codes "l\n") × (part_text 5000 1 ≡ codes "l")
    × (part_text 0 0 ≡ codes "m")
unfolding description
parts = (refl, refl, refl, refl, refl, refl, refl)

-- ---- commands in words

commands : (command_named (codes "time") ≡ command.Time) × (command_named (codes "time ") ≡ command.Other)
    × (command_named (codes "goto 007") ≡ command.GoTo (Some 7)) × (command_named (codes "goto") ≡ command.Other)
    × (command_named (codes "goto ") ≡ command.GoTo None) × (command_named (codes "goto  7") ≡ command.GoTo None)
    × (command_named (codes "goto 99999999999999999999") ≡ command.GoTo (Some 18446744073709551615))
    × (command_named (codes "read 1:66") ≡ command.Read (Some (1, 66))) × (command_named (codes "wrote 1") ≡ command.Wrote None)
    × (command_named (codes "wrote 1:2:3") ≡ command.Wrote None) × (command_named (codes "help") ≡ command.Other)
commands = (refl, refl, refl, refl, refl, refl, refl, refl, refl, refl, refl)

-- a long text goes in parts
long : (console_packets [] ≡ []) × (console_packets (codes "5\n") ≡ codes "O350a" ∷ [])
    × (console_packets (replicate 4001 0x30) ≡ (codes "O" ++ flat_map (λ (n : ℕ). codes "30") (replicate 4000 0)) ∷ codes "O30" ∷ [])
unfolding encode_with
long = (refl, refl, refl)

-- ---- a dialogue

-- it reads four bytes to 0x10100, writes them, and exits: 12 steps
abbrev copies : List ℕ
copies =
    0xb7 ∷ 0x05 ∷ 0x01 ∷ 0x00 ∷ 0x93 ∷ 0x85 ∷ 0x05 ∷ 0x10 ∷ 0x13 ∷ 0x05 ∷ 0x00 ∷ 0x00 ∷
    0x13 ∷ 0x06 ∷ 0x40 ∷ 0x00 ∷ 0x93 ∷ 0x08 ∷ 0xf0 ∷ 0x03 ∷ 0x73 ∷ 0x00 ∷ 0x00 ∷ 0x00 ∷
    0x13 ∷ 0x05 ∷ 0x10 ∷ 0x00 ∷ 0x93 ∷ 0x08 ∷ 0x00 ∷ 0x04 ∷ 0x73 ∷ 0x00 ∷ 0x00 ∷ 0x00 ∷
    0x13 ∷ 0x05 ∷ 0x00 ∷ 0x00 ∷ 0x93 ∷ 0x08 ∷ 0xd0 ∷ 0x05 ∷ 0x73 ∷ 0x00 ∷ 0x00 ∷ 0x00 ∷ []

abbrev abcd : List ℕ
abcd = codes "ABCD"

abbrev copying : Job
copying = record {
  start = record {
    pc = 0x10000;
    registers = replicate 2 0 ++ 0x10ff0 ∷ replicate 29 0;
    base = 0x10000;
    memory = copies ++ replicate 464 0;
  };
  log = record {
    pages = 1;
    inputs = 1;
    digest = [];
    records = Read 5 (0 ∷ 0x10100 ∷ 4 ∷ []) (pos 4) abcd ∷ Write 8 (1 ∷ 0x10100 ∷ 4 ∷ []) (pos 4) abcd ∷ [];
    end = Exit 11 0;
  };
}

-- what a command is told at time 3
told_in_words : (command_text copying 3 command.Time ≡ codes "3\n") × (command_text copying 3 command.Steps ≡ codes "12\n")
    × (command_text copying 3 (command.GoTo (Some 12)) ≡ codes "12\n") × (command_text copying 3 (command.GoTo (Some 13)) ≡ codes "no such time\n")
    × (command_text copying 3 (command.Read (Some (0, 3))) ≡ codes "5\n") × (command_text copying 3 (command.Wrote (Some (1, 0))) ≡ codes "8\n")
    × (command_text copying 3 (command.Wrote (Some (1, 4))) ≡ codes "no such byte\n") × (command_text copying 3 (command.Read (Some (1, 0))) ≡ codes "no such byte\n")
unfolding digits encode_with
told_in_words = (refl, refl, refl, refl, refl, refl, refl, refl)

-- frames are acknowledged, a bad one is told to be, the last answer is told again; once they aren't, neither says anything
acknowledged : (dialogue copying 0 (codes "+$?#3f$?#3e--$QStartNoAckMode#b0$?#3f$?#3e-") ≡ codes "+$T05#b9-$T05#b9$T05#b9+$OK#9a$T05#b9")
    × (dialogue copying 0 (codes "-$?#3") ≡ [])
unfolding encode_with heard packet_of
acknowledged = (refl, refl)

-- what is always answered alike; and packets that are none
constants : dialogue copying 0 (
    codes "$QStartNoAckMode#b0$qSupported:x#e9$vCont?#49$!#21$Hg0#df$qAttached#8f$G00#a7$X0,0:#1e" ++
    codes "$qXfer:features:read:target.xml:0,5#80$vMustReplyEmpty#3a$vRun;x;#99$Z5,0,1#48"
    ) ≡ (
    codes "+$OK#9a$PacketSize=4000;QStartNoAckMode+;ReverseStep+;ReverseContinue+;qXfer:features:read+;vContSupported+#80" ++
    codes "$vCont;c;C;s;S;r#0f$OK#9a$OK#9a$1#31$E01#a6$E01#a6" ++
    codes "$m<?xml#39$#00$E01#a6$#00"
    )
unfolding description encode_with decode_pairs heard packet_of
constants = refl

-- a watchpoint, forward to time 6, and back to 5 and to the beginning
watched : dialogue copying 0 (
    codes "$QStartNoAckMode#b0$m10000,4#be$Z2,10102,1#09$vCont;c#a8" ++
    codes "$p20#d2$bs#d5$?#3f$bc#c5"
    ) ≡ (
    codes "+$OK#9a$b7050100#bf$OK#9a$T05watch:00010102;#c9" ++
    codes "$18000100#8a$T05watch:00010102;#c9$T05watch:00010102;#c9$T05replaylog:begin;#02"
    )
unfolding encode_with heard packet_of
watched = refl

-- out of a range, and a breakpoint at time 5; to the end, and back; the time in words; and what can't be done
stopped : dialogue copying 0 (
    codes "$QStartNoAckMode#b0$Z0,10014,4#0c$vCont;r10000,10014:-1#62" ++
    codes "$vCont;c#a8$s#73$bc#c5$qRcmd,74696d65#02" ++
    codes "$M10000,1:00#35$m0,4#fd$D#44$?#3f"
    ) ≡ (
    codes "+$OK#9a$OK#9a$T05#b9" ++
    codes "$T05replaylog:end;#34$T05replaylog:end;#34$T05#b9$O350a#48$OK#9a" ++
    codes "$E01#a6$E01#a6$OK#9a"
    )
unfolding encode_with decode_pairs digits heard packet_of
stopped = refl

-- a session begins at the run's steps at the latest; the run anew, at time 7 by `37`; and it ends without an answer
moved : (dialogue copying 99 (codes "$qRcmd,74696d65#02$bs#d5$k#6b-") ≡ codes "+$O31320a#a9$OK#9a+$T05#b9+")
    × (dialogue copying 0 (codes "$vRun;x;37#03$p20#d2$vKill;1#6e$vRun;x#5e$p20#d2") ≡ codes "+$T05#b9+$1c000100#b5+$OK#9a+$T05#b9+$00000100#81")
unfolding encode_with decode_pairs digits heard packet_of
moved = (refl, refl)
