-- Where a framer stands, and what its answers tell.
use Rattle.std.specs.Prelude.{◌≡◌, ◌≢◌, ℕ, nat_le, if◌then◌else◌, List, [], ◌∷◌, ◌++◌, length, codes}
use Rattle.std.specs.List.{All}
use Rattle.remote_frames.specs.declared.framer.Framed.{Framed}
use Rattle.remote_frames.specs.declared.framer.Framed.TheVariants as framed
use Rattle.remote_frames.specs.declared.framer.Place.{Place}
use Rattle.remote_frames.specs.declared.framer.Place.TheVariants.{Outside, Inside, FirstDigit, SecondDigit}
use Rattle.remote_frames.specs.Frames.{checksum, Heard, Packet, Bad, Again}

-- where the next byte stands, and the bytes of the packet that was read last
pub record FramerAt : Type 0 where
  pub place : Place
  pub packet : List ℕ

-- the bytes of the frame that has begun. Of a packet with more than 16385 bytes the first 16385 stand for all
abbrev pub begun_at : Place → List ℕ → List ℕ
begun_at Outside packet = []
begun_at Inside packet = codes "$" ++ packet
begun_at FirstDigit packet = codes "$" ++ packet ++ codes "#"
begun_at (SecondDigit high) packet = codes "$" ++ packet ++ codes "#" ++ high ∷ []

abbrev pub begun : FramerAt → List ℕ
begun f = begun_at f.place f.packet

-- what an answer tells, where this packet was read last
abbrev pub told : Framed → List ℕ → List Heard
told framed.Nothing packet = []
told framed.Packet packet = Packet packet ∷ []
told framed.Bad packet = Bad ∷ []
told framed.Again packet = Again ∷ []

-- one more byte of the packet
abbrev pub with_byte : FramerAt → ℕ → FramerAt
with_byte f byte = record f { packet = if nat_le (length f.packet) 16384 then f.packet ++ byte ∷ [] else f.packet }

-- ---- what is always true of a framer

-- what can stand in a packet: any byte but `$` and `#`
pub record IsPlain (byte : ℕ) : Type 0 where
  pub no_dollar : byte ≢ 0x24
  pub no_hash : byte ≢ 0x23

-- no digit is `$`
abbrev pub HasNoDollar : Place → Type 0
HasNoDollar Outside = Unit {0}
HasNoDollar Inside = Unit {0}
HasNoDollar FirstDigit = Unit {0}
HasNoDollar (SecondDigit high) = high ≢ 0x24

pub record IsFramer (place : Place) (packet : List ℕ) (total : ℕ) : Type 0 where
  pub plain : All IsPlain packet
  pub total_is : total ≡ checksum packet
  pub digit : HasNoDollar place
