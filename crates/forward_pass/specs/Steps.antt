-- What the parts of an event do.
use Rattle.std.specs.Prelude.{◌≡◌, ◌⊎◌, Bool, true, false, ◌||◌, Some, None, IsSome, List, [], ◌∷◌}
use Rattle.flow_model.specs.declared.Loc.{Loc}
use Rattle.flow_model.specs.declared.SourceByte.{SourceByte}
use Rattle.flow_model.specs.declared.Message.{Message}
use Rattle.epoch_model.specs.Join.{answer_to, resolved, rows_of}
use Rattle.stream_model.specs.Streams.{is_ended, answer}
use Rattle.stream_model.specs.Passes.{is_whole_message}
use Rattle.pass_parts.specs.declared.requests.Request.{Request}
use Rattle.pass_parts.specs.declared.next.PassStep.{PassStep}
use Rattle.pass_parts.specs.Events.{IsNext}
use Rattle.forward_pass.specs.Received.{ReceivedView, received_with, is_answerable}
use Rattle.forward_pass.specs.Rest.{rest_of}
use Rattle.forward_pass.specs.Forward.{ForeView, known_by, forwards}

-- the source bytes of each location at the epoch's start, by the answers that came
abbrev pub before : ForeView → Loc → List SourceByte
before v = answer_to v.asked v.received.answers

-- in these the first test is whether a growth is refused
abbrev pub with_answer : Bool → ForeView → Request → List Request → ForeView
with_answer true v r left = record v { whole = false }
with_answer false v r left =
    record v { left = left; sending = answer r.loc (resolved (before v) ((known_by v).ends r.loc)) }

abbrev pub with_rows : Bool → ForeView → ForeView
with_rows true v = record v { whole = false }
with_rows false v = record v { rows = Some (rows_of (known_by v) (before v)) }

-- the answer to the next request is built
pub record Builds (old new : ForeView) : Type 0 where
  pub whole : old.whole ≡ true
  pub is_refused : Bool
  pub request : Request
  pub left : List Request
  pub next : old.left ≡ request ∷ left
  pub answerable : is_answerable old.received request ≡ true
  pub is : new ≡ with_answer is_refused old request left

-- the sinks are resolved
pub record Resolves (old new : ForeView) : Type 0 where
  pub whole : old.whole ≡ true
  pub is_refused : Bool
  pub none_left : old.left ≡ []
  pub ended : old.received.is_ended ≡ true
  pub not_yet : old.rows ≡ None
  pub is : new ≡ with_rows is_refused old

-- no request is left, or the next one can't be answered yet
abbrev pub CannotAnswer : ReceivedView → List Request → Type 0
CannotAnswer c [] = Unit {0}
CannotAnswer c (r ∷ left) = is_answerable c r ≡ false

-- nothing is left to build or to resolve, or the pass is broken
abbrev pub HasBuilt : ForeView → Type 0
HasBuilt v = v.whole ≡ true → CannotAnswer v.received v.left

abbrev pub HasResolved : ForeView → Type 0
HasResolved v = v.whole ≡ true → v.left ≡ [] → v.received.is_ended ≡ true → IsSome v.rows

-- nothing is being sent, no request can be answered, and the sinks are resolved if they can be
pub record IsIdle (v : ForeView) : Type 0 where
  pub sending : v.sending ≡ []
  pub requests : CannotAnswer v.received v.left
  pub sinks : v.left ≡ [] → v.received.is_ended ≡ true → IsSome v.rows

abbrev pub is_whole_after : Bool → Bool → Message → Bool
is_whole_after false is_refused m = false
is_whole_after true true m = false
is_whole_after true false m = is_whole_message m

-- a message is taken. A broken pass only notes an End
pub record Takes (m : Message) (old new : ForeView) : Type 0 where
  pub is_refused : Bool
  pub is : new ≡ record old { received = new.received; whole = new.whole }
  pub ended : new.received.is_ended ≡ (is_ended (m ∷ []) || old.received.is_ended)
  pub whole : new.whole ≡ is_whole_after old.whole is_refused m
  pub received : new.whole ≡ true → new.received ≡ received_with old.received m

-- the event needed no link
pub record Moves (old new : ForeView) : Type 0 where
  pub running : old.over ≡ false
  pub whole : old.whole ≡ true
  pub sending : old.sending ≡ []
  pub is : Builds old new ⊎ Resolves old new

-- a message of an answer is to be sent
pub record Sends (m : Message) (v : ForeView) : Type 0 where
  pub running : v.over ≡ false
  pub whole : v.whole ≡ true
  pub sending : v.sending ≡ m ∷ rest_of v.sending

-- a broken pass has nothing to do without a link
abbrev pub IsQuiet : ForeView → Type 0
IsQuiet v = v.whole ≡ true → IsIdle v

-- what is next
abbrev pub IsNextFore : PassStep → ForeView → ForeView → Type 0
IsNextFore next new old = IsNext forwards Moves Sends IsQuiet next new old
