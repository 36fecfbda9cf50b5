-- Worked examples, computed by the checker: the packets of a session.
use Rattle.std.proofs.Common.{◌≡◌, ◌∷◌, [], ◌++◌, refl}
use Rattle.std.specs.Prelude.{codes, Some, None}
use Rattle.hex.specs.Hex.{decode_pairs}
use Rattle.remote_packets.specs.declared.packet.Packet.TheVariants.{LastStop, Registers, Register, Memory, Change, Set, Clear, Go, Moves, Supported, Description, StartNoAck, Extended, Thread, Attached, Run, End, Command, Detach, Kill, Other}
use Rattle.remote_packets.specs.declared.packet.Point.TheVariants.{Break, Watch}
use Rattle.remote_packets.specs.declared.packet.WatchKind.TheVariants.{Write, Read, Access}
use Rattle.remote_packets.specs.declared.packet.Move.TheVariants.{Step, Continue, RangeStep, ReverseStep, ReverseContinue}
use Rattle.remote_packets.specs.Packets.{packet_of, command_of}

asked_first : (packet_of (codes "qSupported:x") ≡ Supported) × (packet_of (codes "QStartNoAckMode") ≡ StartNoAck)
    × (packet_of (codes "?") ≡ LastStop) × (packet_of (codes "vCont?") ≡ Moves) × (packet_of (codes "!") ≡ Extended)
    × (packet_of (codes "Hg0") ≡ Thread) × (packet_of (codes "qAttached") ≡ Attached)
    × (packet_of (codes "qXfer:features:read:target.xml:0,fFb") ≡ Description 0 4091)
unfolding packet_of
asked_first = (refl, refl, refl, refl, refl, refl, refl, refl)

-- registers and memory
state_told : (packet_of (codes "g") ≡ Registers) × (packet_of (codes "p20") ≡ Register 32)
    × (packet_of (codes "m10000,4") ≡ Memory 65536 4)
    × (packet_of (codes "mFFFFFFFF,ffffffff") ≡ Memory 4294967295 4294967295)
    × (packet_of (codes "M10000,1:00") ≡ Change)
unfolding packet_of
state_told = (refl, refl, refl, refl, refl)

points : (packet_of (codes "Z2,10102,1") ≡ Set (Watch Write 65794 1))
    × (packet_of (codes "z3,10102,1") ≡ Clear (Watch Read 65794 1))
    × (packet_of (codes "Z0,10014,4;X1,0") ≡ Set (Break 65556))
    × (packet_of (codes "z1,10014,2") ≡ Clear (Break 65556)) × (packet_of (codes "Z4,0,0") ≡ Set (Watch Access 0 0))
unfolding packet_of
points = (refl, refl, refl, refl, refl)

moves : (packet_of (codes "s") ≡ Go Step) × (packet_of (codes "C05") ≡ Go Continue)
    × (packet_of (codes "bs") ≡ Go ReverseStep) × (packet_of (codes "bc") ≡ Go ReverseContinue)
    × (packet_of (codes "vCont;c") ≡ Go Continue) × (packet_of (codes "vCont;S05:1;c") ≡ Go Step)
    × (packet_of (codes "vCont;r10000,10014:-1") ≡ Go (RangeStep 65536 65556))
unfolding packet_of
moves = (refl, refl, refl, refl, refl, refl, refl)

-- `35` is the text of `5` in hexadecimal; twenty nines are past 2^64 - 1, and count as that
runs : (packet_of (codes "vRun;") ≡ Run (Some 0)) × (packet_of (codes "vRun;6f;35") ≡ Run (Some 5))
    × (packet_of (codes "vRun;;31383434363734343037333730393535313631") ≡ Run (Some 1844674407370955161))
    × (packet_of (codes "vRun;;3939393939393939393939393939393939393939") ≡ Run (Some 18446744073709551615))
    × (packet_of (codes "vRun;6f;") ≡ Run None) × (packet_of (codes "vRun;6f;3a") ≡ Run None)
    × (packet_of (codes "vRun;6f;353") ≡ Run None) × (packet_of (codes "vRun;6f;35;35") ≡ Other)
unfolding packet_of
runs = (refl, refl, refl, refl, refl, refl, refl, refl)

ends : (packet_of (codes "vKill;1") ≡ End) × (packet_of (codes "D;1") ≡ Detach) × (packet_of (codes "k") ≡ Kill)
    × (packet_of (codes "qRcmd,74696d65") ≡ Command) × (command_of (codes "qRcmd,74696d65") ≡ codes "time")
unfolding packet_of decode_pairs
ends = (refl, refl, refl, refl, refl)

-- packets that have not the form of one that is known, and others
others : (packet_of [] ≡ Other) × (packet_of (codes "??") ≡ Other) × (packet_of (codes "g0") ≡ Other)
    × (packet_of (codes "p") ≡ Other) × (packet_of (codes "p123456789") ≡ Other)
    × (packet_of (codes "m10000") ≡ Other) × (packet_of (codes "m1,2,3") ≡ Other)
    × (packet_of (codes "Z5,0,0") ≡ Other) × (packet_of (codes "Z2,10102,1;X1,0") ≡ Other)
    × (packet_of (codes "Z2,10102") ≡ Other)
    × (packet_of (codes "vCont;r10000") ≡ Other) × (packet_of (codes "vCont;t") ≡ Other)
    × (packet_of (codes "vKill") ≡ Other) × (packet_of (codes "qRcmd,7") ≡ Other)
    × (packet_of (codes "qfThreadInfo") ≡ Other)
unfolding packet_of decode_pairs
others = (refl, refl, refl, refl, refl, refl, refl, refl, refl, refl, refl, refl, refl, refl, refl)
