-- What a core keeps of what went through its links.
use Rattle.std.specs.Prelude.{◌≡◌, ℕ, ◌+◌, ◌-◌, Bool, true, false, Option, None, is_none, is_some, List, [], length}
use Rattle.flow_model.specs.declared.Loc.{Loc}
use Rattle.flow_model.specs.declared.StepSeen.{StepSeen}
use Rattle.flow_model.specs.declared.Message.{Message}
use Rattle.replayer.specs.Jobs.{trace_of}
use Rattle.epoch_model.specs.Summary.{Summary as EpochSummary, IsSummary}
use Rattle.epoch_cut.specs.Numbered.{NumberedEpoch}
use Rattle.epoch_summary.specs.declared.summary.Summary.{Summary}
use Rattle.local_taint.specs.Following.{AreInRange}
use Rattle.report_model.specs.Query.{Query}
use Rattle.report_model.specs.Rows.{Row}
use Rattle.sink_collect.specs.Pairs.{capped}
use Rattle.stream_model.specs.Streams.{is_ended, requests, Node, IsDone}
use Rattle.stream_model.specs.Passes.{Asking as AskingState}
use Rattle.stream_model.specs.PassLaws.{AsksSent}
use Rattle.stream_model.specs.Work.{many_got, node_work}
use Rattle.stream_model.specs.ScheduleLaws.{one_if}
use Rattle.pass_parts.specs.declared.requests.Request.{Request}
use Rattle.pass_parts.specs.Ends.{got_by, sent_by, fresh_end, EndsWhole}
use Rattle.pass_parts.specs.Known.{known}
use Rattle.pass_parts.specs.Requests.{locations}
use Rattle.backward_pass.specs.Backward.{BackView, new_back, knows, state, Keeps, Reached, SendsFor}
use Rattle.forward_pass.specs.Forward.{ForeView, new_fore, known_by, fore_state, ForeKeeps, ForeReached, ForeSends}
use Rattle.epoch_node.specs.Cores.{CoreSetup, StageView, Fresh, Asking, Answering, Done, Between, CoreView, CanStart, whole_at}

-- what went through the four links of a node, where there are any
pub record Traffic : Type 0 where
  pub asks_got : Option (List Message)
  pub asks_sent : Option (List Message)
  pub answers_got : Option (List Message)
  pub answers_sent : Option (List Message)

-- nothing yet. The first node has no links to a previous one, the last none to a next one
abbrev pub fresh_traffic : Bool → Bool → Traffic
fresh_traffic first last = record {
  asks_got = fresh_end last;
  asks_sent = fresh_end first;
  answers_got = fresh_end first;
  answers_sent = fresh_end last;
}

pub record HasLinks (i : CoreSetup) (w : Traffic) : Type 0 where
  pub asks_got : is_none w.asks_got ≡ i.last
  pub asks_sent : is_none w.asks_sent ≡ i.first
  pub answers_got : is_none w.answers_got ≡ i.first
  pub answers_sent : is_none w.answers_sent ≡ i.last

-- it is the summary of the core's epoch
abbrev pub IsOfEpoch : CoreSetup → EpochSummary → Type 0
IsOfEpoch i e = IsSummary i.query (trace_of i.points.job) i.epoch.first (i.epoch.past_last - i.epoch.first) e

-- an analysis found the summary of the epoch, and that its steps are in range
pub record IsFound (q : Query) (trace : List StepSeen) (epoch : NumberedEpoch) (e : EpochSummary) : Type 0 where
  pub summary : IsSummary q trace epoch.first (epoch.past_last - epoch.first) e
  pub in_range : AreInRange trace epoch.first (epoch.past_last - epoch.first)

-- it is found of the core's epoch
abbrev pub IsFoundOf : CoreSetup → EpochSummary → Type 0
IsFoundOf i e = IsFound i.query (trace_of i.points.job) i.epoch e

-- the summary of a pass, where there is one, is found of the epoch
abbrev pub KnowsEpoch : CoreSetup → Option Summary → Type 0
KnowsEpoch i s = is_some s ≡ true → IsFoundOf i (known s)

-- a pass backwards that is new. Where a growth was refused it has no summary
pub record IsBegun (i : CoreSetup) (v : BackView) : Type 0 where
  pub new : v ≡ new_back v.summary i.first i.last
  pub summary : KnowsEpoch i v.summary
  pub keeps : Keeps v (fresh_end i.last) (fresh_end i.first)
  pub reached : Reached v (fresh_end i.last) (fresh_end i.first)

-- the pass backwards, as far as it has come. Nothing was answered yet
pub record IsAsking (i : CoreSetup) (v : BackView) (w : Traffic) : Type 0 where
  pub summary : KnowsEpoch i v.summary
  pub first : v.first ≡ i.first
  pub last : v.last ≡ i.last
  pub running : v.over ≡ false
  pub keeps : Keeps v w.asks_got w.asks_sent
  pub reached : Reached v w.asks_got w.asks_sent
  pub sends : SendsFor v w.asks_got w.asks_sent
  pub unended : is_ended (state v w.asks_got w.asks_sent).sent ≡ false
  pub answers_got : w.answers_got ≡ fresh_end i.first
  pub answers_sent : w.answers_sent ≡ fresh_end i.last

-- a broken pass drops what was requested
abbrev pub requests_if : Bool → List Request → List Request
requests_if true requests = requests
requests_if false requests = []

-- a pass backwards of such a node that is over
pub record CanSettle (first last : Bool) (v : BackView) : Type 0 where
  pub got : Option (List Message)
  pub sent : Option (List Message)
  pub keeps : Keeps v got sent
  pub first_is : v.first ≡ first
  pub alone : last ≡ true → got ≡ None

-- the pass forwards, new after this pass backwards
pub record IsSettled (first last : Bool) (v : BackView) (f : ForeView) : Type 0 where
  pub new : f ≡ new_fore v.summary v.asked (requests_if v.whole v.requests) v.whole first
  pub keeps : ForeKeeps f (fresh_end first) (fresh_end last)
  pub reached : ForeReached first (locations (requests_if v.whole v.requests)) v.whole f (fresh_end first) (fresh_end last)

-- the pass forwards, as far as it has come, and the state in which the pass backwards ended
pub record IsAnswering (i : CoreSetup) (f : ForeView) (w : Traffic) : Type 0 where
  pub summary : KnowsEpoch i f.summary
  pub asking : AskingState
  pub got : asking.got ≡ got_by w.asks_got
  pub sent : asking.sent ≡ sent_by true asking.is_whole w.asks_sent
  pub over : asking.is_over ≡ true
  pub asked : asking.asked ≡ f.asked
  pub asks : asking.is_whole ≡ true → AsksSent i.first (known_by f) asking
  pub ends : asking.is_whole ≡ true → EndsWhole (got_by w.asks_got)
  pub noted : List Loc
  pub noted_is : asking.is_whole ≡ true → noted ≡ requests (got_by w.asks_got)
  pub keeps : ForeKeeps f w.answers_got w.answers_sent
  pub reached : ForeReached i.first noted asking.is_whole f w.answers_got w.answers_sent
  pub sends : ForeSends noted f w.answers_got w.answers_sent
  pub unended : f.over ≡ false → (is_ended (fore_state f w.answers_got w.answers_sent).sent ≡ false) × (is_ended f.sending ≡ false)
  pub ended : f.over ≡ true → (is_ended (fore_state f w.answers_got w.answers_sent).sent ≡ true) × (is_ended (got_by w.answers_got) ≡ true)

abbrev pub AtStage : CoreSetup → StageView → Traffic → Type 0
AtStage i (Fresh t) w = (t ≡ i.epoch) × CanStart i.points t × (w ≡ fresh_traffic i.first i.last)
AtStage i (Asking v) w = IsAsking i v w
AtStage i (Answering f) w = IsAnswering i f w × (f.over ≡ false)
AtStage i (Done f) w = IsAnswering i f w × (f.over ≡ true)
AtStage i Between w = ⊥

-- ---- how many events moved

-- in a pass backwards that is whole: in one the node began, and the others walked sinks, and sent and got messages
abbrev pub HasAsked : CoreSetup → BackView → Traffic → ℕ → Type 0
HasAsked i v w moved =
    moved + length v.left ≡ 1 + length (knows v).sinks + length (sent_by v.over v.whole w.asks_sent) + many_got i.last (got_by w.asks_got)

-- in a pass forwards that is whole, after a pass backwards that walked all sinks: the others built the answers to the
-- requests, sent and got messages, and resolved the rows
abbrev pub HasAnswered : CoreSetup → ForeView → Traffic → ℕ → Type 0
HasAnswered i f w moved =
    moved + length f.left
    ≡ 1 + length (known_by f).sinks + length (sent_by true true w.asks_sent) + many_got i.last (got_by w.asks_got)
    + length (requests (got_by w.asks_got))
    + length (sent_by f.over f.whole w.answers_sent) + many_got i.first (got_by w.answers_got)
    + one_if (is_some f.rows)

abbrev pub MovedAt : CoreSetup → StageView → Traffic → ℕ → Type 0
MovedAt i (Fresh t) w moved = moved ≡ 0
MovedAt i (Asking v) w moved = HasAsked i v w moved
MovedAt i (Answering f) w moved = HasAnswered i f w moved
MovedAt i (Done f) w moved = HasAnswered i f w moved
MovedAt i Between w moved = ⊥

-- the count of a core that is whole is that of the events that moved
pub record Counts (c : CoreView) (w : Traffic) : Type 0 where
  pub moved : ℕ
  pub at_stage : MovedAt c.setup c.stage w moved
  pub is : c.events ≡ capped moved

-- what a core keeps of what went through its links
pub record KeepsCore (c : CoreView) (w : Traffic) : Type 0 where
  pub links : HasLinks c.setup w
  pub stage : AtStage c.setup c.stage w
  pub counts : whole_at c.stage ≡ true → Counts c w

-- ---- at the end

-- a node with this summary, once all is sent and no End was broken
abbrev pub node_by : EpochSummary → Traffic → List Loc → List Row → Node
node_by e w asked rows = record {
  summary = e;
  asks_got = got_by w.asks_got;
  asks_sent = sent_by true true w.asks_sent;
  answers_got = got_by w.answers_got;
  answers_sent = sent_by true true w.answers_sent;
  asked = asked;
  rows = rows;
}

-- the core has sent all that it is to send for what it got, this is what it asked, and these are its rows; and what it
-- got ends whole
pub record HasDone (i : CoreSetup) (w : Traffic) (asked : List Loc) (rows : List Row) : Type 0 where
  pub summary : EpochSummary
  pub found : IsFoundOf i summary
  pub done : IsDone i.first i.last (node_by summary w asked rows)
  pub asks_end : EndsWhole (got_by w.asks_got)
  pub answers_end : EndsWhole (got_by w.answers_got)

-- the count of a core that has done so: the events that moved in a node that is done, whatever it knows of its epoch
abbrev pub HasCounted : CoreSetup → Traffic → List Loc → List Row → ℕ → Type 0
HasCounted i w asked rows events = (e : EpochSummary) → events ≡ capped (node_work i.first i.last (node_by e w asked rows))
