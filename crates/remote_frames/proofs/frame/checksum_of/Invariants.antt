use Rattle.std.proofs.Common.{◌≡◌, take}
use Rattle.remote_frames.specs.Frames.{checksum}
use Rattle.remote_frames.proofs.frame.checksum_of.Given as goal

abbrev pub invariant-loop-byte : goal.invariant-loop-byte
invariant-loop-byte l = l.total ≡ checksum (take l.byte-index l.packet)
