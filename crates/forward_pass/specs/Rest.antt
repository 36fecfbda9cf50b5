-- The answer that is being sent.
use Rattle.std.specs.Prelude.{Option, Some, None, List, [], ◌∷◌}
use Rattle.flow_model.specs.declared.Loc.{Loc}
use Rattle.flow_model.specs.declared.SourceByte.{SourceByte}
use Rattle.flow_model.specs.declared.Message.{Message}
use Rattle.stream_model.specs.Streams.{answer}

-- the source bytes of an answer, and what is left of it to be sent
pub record BeingSent : Type 0 where
  pub set : List SourceByte
  pub left : List Message

-- what is left to be sent of an answer, if one is being sent
abbrev pub rest_of_answer : List SourceByte → Option Loc → List Message
rest_of_answer bytes None = []
rest_of_answer bytes (Some l) = answer l bytes

abbrev pub rest_of : List Message → List Message
rest_of [] = []
rest_of (m ∷ ms) = ms
