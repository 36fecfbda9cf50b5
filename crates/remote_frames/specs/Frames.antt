-- Frames: the bytes of a packet, and what bytes say (GDB Remote Serial Protocol, GDB manual, appendix E "Remote
-- Protocol", "Overview" and "Packets").
use Rattle.std.specs.Prelude.{ℕ, ◌+◌, ◌*◌, ◌%◌, ◌==◌, nat_le, Bool, ◌&&◌, if◌then◌else◌, List, [], ◌∷◌, ◌++◌, length, sum, codes, Option, Some, None}
use Rattle.std.specs.List.{flat_map, slice_split, before_first, after_first}
use Rattle.hex.specs.Hex.{encode_lower, hex_digit_value}

-- the sum of a packet's bytes modulo 256
abbrev pub checksum : List ℕ → ℕ
checksum packet = sum packet % 256

-- the frame of a packet: `$`, the packet, `#`, and the checksum as two hexadecimal digits in lower case
abbrev pub frame : List ℕ → List ℕ
frame packet = codes "$" ++ packet ++ codes "#" ++ encode_lower (checksum packet ∷ [])

-- ---- what bytes say

-- a packet in its frame; a frame that is bad; or that the last answer is wanted again
pub data Heard : Type 0 where
  Packet : List ℕ → Heard
  Bad : Heard
  Again : Heard

-- a byte outside of frames: `-` asks for the last answer again, and every other says nothing
abbrev pub outside : ℕ → List Heard
outside byte = if byte == 0x2d then Again ∷ [] else []

-- a frame, by the values of its digits: it is bad where one is none, where they aren't its checksum, or where its
-- packet has more than 16384 bytes
abbrev pub judged : List ℕ → Option ℕ → Option ℕ → Heard
judged packet (Some high) (Some low) =
    if high * 16 + low == checksum packet && nat_le (length packet) 16384 then Packet packet else Bad
judged packet (Some high) None = Bad
judged packet None low = Bad

-- a packet, and what stands behind its `#`: two bytes, which are the digits whatever they are, and then bytes outside
-- of frames. Where they are fewer the frame isn't whole, and says nothing
abbrev pub behind_hash : List ℕ → List ℕ → List Heard
behind_hash packet [] = []
behind_hash packet (high ∷ []) = []
behind_hash packet (high ∷ low ∷ more) =
    judged packet (hex_digit_value high) (hex_digit_value low) ∷ flat_map outside more

abbrev pub is_hash : ℕ → Bool
is_hash byte = byte == 0x23

-- what stands behind a `$`, up to the next: the packet goes up to the first `#`
abbrev pub behind_dollar : List ℕ → List Heard
behind_dollar bytes = behind_hash (before_first is_hash bytes) (after_first is_hash bytes)

abbrev pub is_dollar : ℕ → Bool
is_dollar byte = byte == 0x24

-- what stands before the first `$` is outside of frames; each `$` begins a frame anew
abbrev pub heard_parts : List (List ℕ) → List Heard
heard_parts [] = []
heard_parts (first ∷ parts) = flat_map outside first ++ flat_map behind_dollar parts

-- what bytes say, in order
unfoldable pub heard : List ℕ → List Heard
heard bytes = heard_parts (slice_split is_dollar bytes)
