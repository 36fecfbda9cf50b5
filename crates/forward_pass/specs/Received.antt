-- The answers that came for what the node asked.
use Rattle.std.specs.Prelude.{◌≡◌, nat_le, ◌||◌, Bool, true, false, List, [], ◌∷◌, ◌++◌, length}
use Rattle.flow_model.specs.declared.Loc.{Loc}
use Rattle.flow_model.specs.declared.SourceByte.{SourceByte}
use Rattle.flow_model.specs.Orders.{source_cmp}
use Rattle.lists.specs.Sets.{inserted}
use Rattle.flow_model.specs.declared.Message.{Message}
use Rattle.flow_model.specs.declared.Message.TheVariants.{Ask, Byte, Close, End}
use Rattle.epoch_model.specs.Join.{answer_to}
use Rattle.stream_model.specs.Streams.{answers_in, heard}
use Rattle.pass_parts.specs.declared.requests.Request.{Request}

-- the answers that are complete, what was received of the next one, and whether the End came or there is no link
pub record ReceivedView : Type 0 where
  pub answers : List (List SourceByte)
  pub so_far : List SourceByte
  pub is_ended : Bool

-- the open answer is complete
abbrev pub closed : ReceivedView → ReceivedView
closed c = record c { answers = c.answers ++ c.so_far ∷ []; so_far = [] }

-- with one message more
abbrev pub received_with : ReceivedView → Message → ReceivedView
received_with c (Ask l) = c
received_with c (Byte b) = record c { so_far = inserted source_cmp b c.so_far }
received_with c (Close l) = closed c
received_with c (End whole) = record (closed c) { is_ended = true }

-- it was received from what was got: until the End whatever is got later continues it, and from then on the answer to
-- each location is the one that was heard
pub record IsReceivedFrom (got : List Message) (asked : List Loc) (c : ReceivedView) : Type 0 where
  pub running : c.is_ended ≡ false → (more : List Message)
      → answers_in [] (got ++ more) ≡ c.answers ++ answers_in c.so_far more
  pub ended : c.is_ended ≡ true → (l : Loc) → answer_to asked c.answers l ≡ heard asked got l

-- as many answers are complete as the request needs, or the End came
abbrev pub is_answerable : ReceivedView → Request → Bool
is_answerable c r = c.is_ended || nat_le r.needed_first (length c.answers)
