-- What contracts see of the pass backwards.
use Rattle.std.specs.Prelude.{◌≡◌, ◌⊎◌, ℕ, ◌+◌, ◌^◌, ◌<◌, drop, ◌&&◌, Bool, true, false, Option, is_none, is_some, IfNone, List, [], ◌∷◌, ◌++◌, All}
use Rattle.flow_model.specs.declared.Loc.{Loc}
use Rattle.flow_model.specs.Orders.{loc_cmp}
use Rattle.lists.specs.Sets.{is_within}
use Rattle.flow_model.specs.declared.Message.{Message}
use Rattle.flow_model.specs.declared.Message.TheVariants.{Ask, Byte, Close, End}
use Rattle.epoch_model.specs.Summary.{Summary as EpochSummary, SinkTerms}
use Rattle.epoch_summary.specs.declared.summary.Summary.{Summary}
use Rattle.stream_model.specs.Streams.{is_ended, requests}
use Rattle.stream_model.specs.Passes.{Links, Asking, asking_event, asking_after, asked_more, asked_if}
use Rattle.stream_model.specs.PassLaws.{AsksSent}
use Rattle.stream_model.specs.Schedules.{begun, asking_need}
use Rattle.pass_parts.specs.declared.pass_turn.PassTurn.{PassTurn}
use Rattle.pass_parts.specs.declared.requests.Request.{Request}
use Rattle.pass_parts.specs.Ends.{got_by, sent_by, EndsWhole}
use Rattle.pass_parts.specs.Known.{known}
use Rattle.pass_parts.specs.Requests.{locations, IsCounted, AreCounted}
use Rattle.pass_parts.specs.PassSummaries.{is_whole, summary_in}
use Rattle.pass_parts.specs.Events.{Events, Happened, IsNext}
use Rattle.pass_parts.specs.declared.next.PassStep.{PassStep}
use Rattle.backward_pass.specs.declared.back.Back.{Back}

-- the pass, where the ends don't stand in it
pub record BackView : Type 0 where
  pub summary : Option Summary
  pub first : Bool
  pub last : Bool
  -- the sinks that are not walked yet
  pub left : List SinkTerms
  pub asked : List Loc
  -- how many of these were sent
  pub pushed : ℕ
  pub requests : List Request
  -- an End came, or there is no link to get from
  pub heard : Bool
  pub whole : Bool
  pub over : Bool

-- what it knows of the epoch
abbrev pub knows : BackView → EpochSummary
knows v = known v.summary

-- what contracts see of it
abbrev pub back_of : Back → BackView
back_of b = record {
  summary = summary_in b.epoch;
  first = b.first;
  last = b.last;
  left = drop b.walked (known (summary_in b.epoch)).sinks;
  asked = b.asked;
  pushed = b.pushed;
  requests = b.requests.items;
  heard = b.heard;
  whole = is_whole b.epoch;
  over = b.over;
}

-- one that has asked nothing yet
abbrev pub new_back : Option Summary → Bool → Bool → BackView
new_back s first last = record {
  summary = s;
  first = first;
  last = last;
  left = (known s).sinks;
  asked = [];
  pushed = 0;
  requests = [];
  heard = last;
  whole = is_some s;
  over = false;
}

-- ---- in the words of the passes

abbrev pub asking_of : BackView → List Message → List Message → Asking
asking_of v got sent = record {
  left = v.left;
  asked = v.asked;
  pushed = v.pushed;
  got = got;
  sent = sent;
  is_whole = v.whole;
  is_over = v.over;
}

-- the state of the pass, where these went through its ends
abbrev pub state : BackView → Option (List Message) → Option (List Message) → Asking
state v got sent = asking_of v (got_by got) (sent_by v.over v.whole sent)

-- the state in which the pass begins. It begins broken where there is no summary
abbrev pub begins : BackView → Asking
begins v = begun (is_none v.summary) v.last (knows v)

-- the start locations of the terms of these sinks are all asked
abbrev pub AreAsked : List Loc → List SinkTerms → Type 0
AreAsked asked sinks = All (λ k. is_within loc_cmp k.terms.starts asked ≡ true) sinks

-- so they are of the sinks that are walked, where these are left
pub record HasAsked (asked : List Loc) (sinks left : List SinkTerms) : Type 0 where
  pub walked : List SinkTerms
  pub are : sinks ≡ walked ++ left
  pub all : AreAsked asked walked

-- what is true of the pass by itself: the first node asks nothing, and neither does a broken pass; any other has asked
-- for what the sinks that are walked need, and for what the requests need, which it counted
pub record IsFit (v : BackView) : Type 0 where
  pub known : v.whole ≡ true → is_some v.summary ≡ true
  pub silent : v.first ≡ true → v.asked ≡ []
  pub forgets : v.whole ≡ false → v.asked ≡ []
  pub walked : v.whole ≡ true → v.first ≡ false → HasAsked v.asked (knows v).sinks v.left
  pub counted : v.whole ≡ true → v.first ≡ false → AreCounted v.asked (knows v) v.requests

-- what the pass keeps of what went through its ends
pub record Keeps (v : BackView) (got sent : Option (List Message)) : Type 0 where
  pub fits : IsFit v
  pub heard : v.heard ≡ is_ended (got_by got)
  -- only the first node has no one to ask
  pub alone : IfNone sent (v.first ≡ true)
  pub requested : v.whole ≡ true → locations v.requests ≡ requests (got_by got)
  pub ends : v.whole ≡ true → v.heard ≡ true → EndsWhole (got_by got)

-- what no event changes
pub record IsSameBack (new old : BackView) : Type 0 where
  pub summary : new.summary ≡ old.summary
  pub first : new.first ≡ old.first
  pub last : new.last ≡ old.last

-- ---- events

abbrev pub backwards : Events BackView Asking
backwards = record {
  state = state;
  event = λ v links a. asking_event v.first (knows v) links a;
  need = λ v a. asking_need a;
  Keeps = Keeps;
  IsSame = IsSameBack;
  is_over = λ v. v.over;
  is_ended = λ v. v.heard;
}

-- the event is that of the definitions
abbrev pub Happens : BackView → Option (List Message) → Option (List Message) → BackView → Option (List Message) → Option (List Message) → PassTurn → Type 0
Happens old got sent new got' sent' turn = Happened backwards old got sent new got' sent' turn

-- the pass came there by events of the definitions
pub record Reached (v : BackView) (got sent : Option (List Message)) : Type 0 where
  pub schedule : List Links
  pub is : state v got sent ≡ asking_after v.first (knows v) schedule (begins v)

-- a pass that is whole has sent a part of what is to be sent for what it got, and all of it at the end
abbrev pub SendsFor : BackView → Option (List Message) → Option (List Message) → Type 0
SendsFor v got sent = v.whole ≡ true → AsksSent v.first (knows v) (state v got sent)

-- ---- steps of an event

-- a sink is walked: where its content was is asked too
pub record IsWalked (first : Bool) (sinks : List SinkTerms) (number : ℕ) (asked asked' : List Loc) : Type 0 where
  pub sink : SinkTerms
  pub is : drop number sinks ≡ sink ∷ drop (number + 1) sinks
  pub added : asked' ≡ asked_more first asked sink.terms.starts

-- the next sink is walked, or a growth is refused
abbrev pub with_sink : Bool → BackView → SinkTerms → List SinkTerms → BackView
with_sink true v k left = record v { asked = []; whole = false }
with_sink false v k left = record v { left = left; asked = asked_more v.first v.asked k.terms.starts }

pub record Walks (old new : BackView) : Type 0 where
  pub whole : old.whole ≡ true
  pub refused : Bool
  pub sink : SinkTerms
  pub left : List SinkTerms
  pub next : old.left ≡ sink ∷ left
  pub is : new ≡ with_sink refused old sink left

-- there is none, or the pass is broken
abbrev pub HasWalked : BackView → Type 0
HasWalked v = v.whole ≡ true → v.left ≡ []

-- the event needed no link
pub record Moves (old new : BackView) : Type 0 where
  pub running : old.over ≡ false
  pub sent : drop old.pushed old.asked ≡ []
  pub walked : Walks old new

-- a location that waits is to be asked
pub record Sends (m : Message) (v : BackView) : Type 0 where
  pub loc : Loc
  pub waiting : List Loc
  pub is : m ≡ Ask loc
  pub running : v.over ≡ false
  pub whole : v.whole ≡ true
  pub next : drop v.pushed v.asked ≡ loc ∷ waiting
  pub fits : v.pushed + 1 < 2 ^ 64

-- nothing waits to be asked, and no sink is left
abbrev pub IsQuiet : BackView → Type 0
IsQuiet v = v.whole ≡ true → (drop v.pushed v.asked ≡ []) × (v.left ≡ [])

-- what is next
abbrev pub IsNextBack : PassStep → BackView → BackView → Type 0
IsNextBack next new old = IsNext backwards Moves Sends IsQuiet next new old

-- a request for the location is noted, with its count where it is not the first node
pub record IsRequested (first : Bool) (asked : List Loc) (e : EpochSummary) (loc : Loc) (before after : List Request) : Type 0 where
  pub request : Request
  pub is : request.loc ≡ loc
  pub counted : first ≡ false → IsCounted asked e request
  pub added : after ≡ before ++ request ∷ []

-- the request is noted, or a growth is refused
abbrev pub with_request : Bool → BackView → Loc → List Request → BackView
with_request true v l rs = record v { asked = []; requests = rs; whole = false }
with_request false v l rs = record v { asked = asked_more v.first v.asked ((knows v).ends l).starts; requests = rs }

pub record Notes (l : Loc) (old new : BackView) : Type 0 where
  pub refused : Bool
  pub requests : List Request
  pub is : new ≡ with_request refused old l requests
  pub noted : refused ≡ false → IsRequested old.first new.asked (knows old) l old.requests requests

-- a message is taken. A broken pass only notes an End
abbrev pub Takes : Message → BackView → BackView → Type 0
Takes (Ask l) old new = ((old.whole ≡ true) × Notes l old new) ⊎ ((old.whole ≡ false) × (new ≡ old))
Takes (Byte b) old new = new ≡ old
Takes (Close l) old new = new ≡ old
Takes (End whole) old new = new ≡ record old { heard = true; asked = asked_if whole old.asked; whole = whole && old.whole }
