-- What is always true of frames.
use Rattle.std.specs.Prelude.{◌≡◌, ◌≤◌, ℕ, List, ◌∷◌, ◌++◌, length, map}
use Rattle.std.specs.List.{All, flat_map}
use Rattle.remote_frames.specs.Frames.{frame, heard, Heard, Packet}
use Rattle.remote_frames.specs.Reading.{IsPlain}

-- what a frame can carry: bytes without `$` and `#`, 16384 of them at most
pub record IsPacket (packet : List ℕ) : Type 0 where
  pub plain : All IsPlain packet
  pub short : length packet ≤ 16384

-- a packet in its frame is heard, whatever bytes came before it, and these say what they say without it; and so does
-- what follows
abbrev pub IsHeard : Type 0
IsHeard = (before packet after : List ℕ) → IsPacket packet
    → heard (before ++ (frame packet ++ after)) ≡ heard before ++ Packet packet ∷ heard after

-- the frames of packets are heard as these packets
abbrev pub AreHeard : Type 0
AreHeard = (packets : List (List ℕ)) → All IsPacket packets → heard (flat_map frame packets) ≡ map Packet packets

-- what a beginning says is the beginning of what all says
abbrev pub BeginningIsHeard : Type 0
BeginningIsHeard = (bytes after : List ℕ) → (more : List Heard) × (heard (bytes ++ after) ≡ heard bytes ++ more)
