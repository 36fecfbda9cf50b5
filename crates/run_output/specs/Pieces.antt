-- The pieces that the lines tell of a channel are the bytes that were moved on it.
use Rattle.std.specs.Prelude.{◌≡◌, ℕ, ◌+◌, ◌==◌, Bool, true, false, ◌&&◌, if◌then◌else◌, List, [], ◌∷◌, length}
use Rattle.std.specs.List.{flat_map}
use Rattle.log_model.specs.Logs.{Log, IsLog}
use Rattle.run_output.specs.declared.ways.Way.{Way}
use Rattle.run_output.specs.declared.ways.Way.TheVariants.{Received, Written}
use Rattle.run_output.specs.Input.{input}
use Rattle.run_output.specs.Output.{output}
use Rattle.run_output.specs.Lines.{Piece, Line, MovedLine, RefusedLine, ClockLine, OtherLine}
use Rattle.run_output.specs.Calls.{lines}

abbrev pub same_way : Way → Way → Bool
same_way Received Received = true
same_way Received Written = false
same_way Written Received = false
same_way Written Written = true

-- the piece of a line, where it was moved this way on this channel
abbrev pub piece_on : Way → ℕ → Line → List Piece
piece_on way channel (MovedLine w p) = if same_way way w && (p.channel == channel) then p ∷ [] else []
piece_on way channel (RefusedLine w r) = []
piece_on way channel (ClockLine at value) = []
piece_on way channel (OtherLine at number) = []

-- all pieces of a channel
abbrev pub pieces_on : Way → ℕ → List Line → List Piece
pieces_on way channel ls = flat_map (piece_on way channel) ls

-- each piece begins where the one before it ends, the first at this offset
abbrev pub AreAdjoining : ℕ → List Piece → Type 0
AreAdjoining offset [] = Unit {0}
AreAdjoining offset (p ∷ ps) = (p.offset ≡ offset) × AreAdjoining (offset + length p.bytes) ps

-- bytes are these pieces, one after another
pub record IsTiledBy (bytes : List ℕ) (pieces : List Piece) : Type 0 where
  pub whole : flat_map (λ p. p.bytes) pieces ≡ bytes
  pub adjoining : AreAdjoining 0 pieces

-- what was read on a channel is the pieces of the lines of reads, what was written on it those of writes
pub record AreTiled (log : Log) (channel : ℕ) : Type 0 where
  pub read : IsTiledBy (input channel log) (pieces_on Received channel (lines log))
  pub written : IsTiledBy (output channel log) (pieces_on Written channel (lines log))

abbrev pub LinesTileChannels : Type 0
LinesTileChannels = (log : Log) (channel : ℕ) → IsLog log → AreTiled log channel
