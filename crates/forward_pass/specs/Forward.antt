-- What contracts see of the pass forwards.
use Rattle.std.specs.Prelude.{◌≡◌, Bool, true, false, Option, None, IfNone, IsSome, List, [], drop}
use Rattle.flow_model.specs.declared.Loc.{Loc}
use Rattle.flow_model.specs.declared.Message.{Message}
use Rattle.report_model.specs.Rows.{Row}
use Rattle.epoch_model.specs.Summary.{Summary as EpochSummary}
use Rattle.epoch_summary.specs.declared.summary.Summary.{Summary}
use Rattle.stream_model.specs.Streams.{is_ended}
use Rattle.stream_model.specs.Passes.{Answering, Links, answering_event, answering_start, answering_after}
use Rattle.stream_model.specs.PassLaws.{AnswersSent}
use Rattle.stream_model.specs.Schedules.{answering_need}
use Rattle.pass_parts.specs.declared.pass_turn.PassTurn.{PassTurn}
use Rattle.pass_parts.specs.declared.requests.Request.{Request}
use Rattle.pass_parts.specs.Ends.{EndsWhole, got_by, sent_by}
use Rattle.pass_parts.specs.Known.{known}
use Rattle.pass_parts.specs.Requests.{locations, AreCounted}
use Rattle.pass_parts.specs.PassSummaries.{is_whole, summary_in}
use Rattle.pass_parts.specs.Events.{Events, Happened}
use Rattle.forward_pass.specs.declared.state.Fore.{Fore}
use Rattle.forward_pass.specs.Received.{ReceivedView, IsReceivedFrom}
use Rattle.forward_pass.specs.Rows.{rows_by, rows_in}

pub record ForeView : Type 0 where
  pub summary : Option Summary
  pub asked : List Loc
  -- the requests that are not answered yet, and the rest of the answer that is being sent
  pub left : List Request
  pub sending : List Message
  pub received : ReceivedView
  -- the rows of the sinks, once they are resolved
  pub rows : Option (List Row)
  pub whole : Bool
  pub over : Bool

-- what a pass stands for
abbrev pub fore_of : Fore → ForeView
fore_of f = record {
  summary = summary_in f.epoch;
  asked = f.asked;
  left = drop f.answered f.requests.items;
  sending = f.sending.left;
  received = f.received;
  rows = rows_in f.rows (rows_by (summary_in f.epoch) f.asked f.received.answers);
  whole = is_whole f.epoch;
  over = f.over;
}

abbrev pub new_fore : Option Summary → List Loc → List Request → Bool → Bool → ForeView
new_fore s asked requests whole first = record {
  summary = s;
  asked = asked;
  left = requests;
  sending = [];
  received = record { answers = []; so_far = []; is_ended = first };
  rows = None;
  whole = whole;
  over = false;
}

abbrev pub known_by : ForeView → EpochSummary
known_by v = known v.summary

-- the state of the pass, where these went through its ends
abbrev pub answering_of : ForeView → List Message → List Message → Answering
answering_of v got sent = record {
  left = locations v.left;
  sending = v.sending;
  got = got;
  sent = sent;
  rows = v.rows;
  is_whole = v.whole;
  is_over = v.over;
}

abbrev pub fore_state : ForeView → Option (List Message) → Option (List Message) → Answering
fore_state v got sent = answering_of v (got_by got) (sent_by v.over v.whole sent)

-- what holds between a pass and what went through its ends, from one event to the next
pub record ForeKeeps (v : ForeView) (got sent : Option (List Message)) : Type 0 where
  pub known : v.whole ≡ true → IsSome v.summary
  -- the End came through the inlet, or there is none
  pub heard : v.received.is_ended ≡ is_ended (got_by got)
  -- the last node answers nothing
  pub alone : IfNone sent ((v.left ≡ []) × (v.sending ≡ []))
  pub received : v.whole ≡ true → IsReceivedFrom (got_by got) v.asked v.received
  pub counted : v.whole ≡ true → v.received.is_ended ≡ false → AreCounted v.asked (known_by v) v.left
  pub ends : v.whole ≡ true → v.received.is_ended ≡ true → EndsWhole (got_by got)

-- what no event changes
pub record IsSameFore (new old : ForeView) : Type 0 where
  pub summary : new.summary ≡ old.summary
  pub asked : new.asked ≡ old.asked

abbrev pub forwards : Events ForeView Answering
forwards = record {
  state = fore_state;
  event = λ v links f. answering_event (known_by v) v.asked links f;
  need = λ v f. answering_need (known_by v) v.asked f;
  Keeps = ForeKeeps;
  IsSame = IsSameFore;
  is_over = λ v. v.over;
  is_ended = λ v. v.received.is_ended;
}

-- the event is that of the definitions
abbrev pub ForeHappens : ForeView → Option (List Message) → Option (List Message) → ForeView → Option (List Message) → Option (List Message) → PassTurn → Type 0
ForeHappens old got sent new got' sent' turn = Happened forwards old got sent new got' sent' turn

-- the pass came there from its start by the events of the definition
pub record ForeReached (first : Bool) (requests : List Loc) (whole : Bool)
    (v : ForeView) (got sent : Option (List Message)) : Type 0 where
  pub schedule : List Links
  pub is : fore_state v got sent ≡ answering_after (known_by v) v.asked schedule (answering_start whole first requests)

-- a pass that is whole has sent a part of what is to be sent for what it got, and all of it once it is over
abbrev pub ForeSends : List Loc → ForeView → Option (List Message) → Option (List Message) → Type 0
ForeSends requests v got sent = v.whole ≡ true → AnswersSent (known_by v) v.asked requests (fore_state v got sent)
