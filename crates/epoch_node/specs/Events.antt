-- What an event of a core does.
use Rattle.std.specs.Prelude.{◌≡◌, ℕ, ◌+◌, Bool, true, false, Option, Some, None, is_none, List}
use Rattle.epoch_link.specs.Link.{EndView}
use Rattle.flow_model.specs.declared.Message.{Message}
use Rattle.sink_collect.specs.Pairs.{capped}
use Rattle.stream_model.specs.Streams.{requests}
use Rattle.stream_model.specs.StreamLaws.{IsPrefix}
use Rattle.stream_model.specs.Schedules.{Need, begun, asking_need, answering_need}
use Rattle.stream_model.specs.Schedules as need
use Rattle.run_board.specs.declared.task.Turn.{Turn}
use Rattle.run_board.specs.declared.task.Turn.TheVariants as turn
use Rattle.run_board.specs.Turns.{AnswersEnded}
use Rattle.pass_parts.specs.declared.pass_turn.PassTurn.{PassTurn}
use Rattle.pass_parts.specs.declared.pass_turn.PassTurn.TheVariants as pass_turn
use Rattle.pass_parts.specs.Ends.{through, got_by}
use Rattle.pass_parts.specs.Requests.{locations}
use Rattle.pass_parts.specs.Turns.{OnOver, OnOpen, Waits}
use Rattle.pass_parts.specs.Events.{IsEvent as IsPassEvent}
use Rattle.backward_pass.specs.Backward.{BackView, knows, state, Keeps, IsSameBack, backwards, Happens}
use Rattle.forward_pass.specs.Forward.{ForeView, new_fore, known_by, fore_state, ForeKeeps, IsSameFore, forwards, ForeHappens}
use Rattle.epoch_node.specs.declared.stage.Phase.{Phase}
use Rattle.epoch_node.specs.declared.stage.Phase.TheVariants as phase
use Rattle.epoch_node.specs.Cores.{CoreSetup, StageView, Fresh, Asking, Answering, Done, Between, CoreView, phase_of, CanStart}
use Rattle.epoch_node.specs.Keeping.{Traffic, KeepsCore, IsBegun, CanSettle, IsSettled, requests_if}

-- ---- the links of a phase

-- what was got and sent on the two links of the phase: those of the asks, and then those of the answers
abbrev pub got_at : StageView → Traffic → Option (List Message)
got_at (Fresh t) w = w.asks_got
got_at (Asking v) w = w.asks_got
got_at (Answering f) w = w.answers_got
got_at (Done f) w = w.answers_got
got_at Between w = w.answers_got

abbrev pub sent_at : StageView → Traffic → Option (List Message)
sent_at (Fresh t) w = w.asks_sent
sent_at (Asking v) w = w.asks_sent
sent_at (Answering f) w = w.answers_sent
sent_at (Done f) w = w.answers_sent
sent_at Between w = w.answers_sent

-- once this was got and sent on them
abbrev pub traffic_after : StageView → Option (List Message) → Option (List Message) → Traffic → Traffic
traffic_after (Fresh t) got sent w = record w { asks_got = got; asks_sent = sent }
traffic_after (Asking v) got sent w = record w { asks_got = got; asks_sent = sent }
traffic_after (Answering f) got sent w = record w { answers_got = got; answers_sent = sent }
traffic_after (Done f) got sent w = record w { answers_got = got; answers_sent = sent }
traffic_after Between got sent w = record w { answers_got = got; answers_sent = sent }

-- what went through two links, an inlet and an outlet, where there are any
pub record PhaseTraffic : Type 0 where
  pub got : Option (List Message)
  pub sent : Option (List Message)

abbrev pub phase_traffic : {I O : Type 0} → (I → EndView Message) → (O → EndView Message) → Option I → Option O → PhaseTraffic
phase_traffic inlet_end outlet_end inlet outlet = record { got = through inlet_end inlet; sent = through outlet_end outlet }

-- what went through the two links of the phase
abbrev pub traffic_at : StageView → Traffic → PhaseTraffic
traffic_at s w = record { got = got_at s w; sent = sent_at s w }

-- the links of the core's phase are those, of four through which went what the core keeps
pub record IsReady (c : CoreView) (on : PhaseTraffic) : Type 0 where
  pub traffic : Traffic
  pub got_is : got_at c.stage traffic ≡ on.got
  pub sent_is : sent_at c.stage traffic ≡ on.sent
  pub keeps : KeepsCore c traffic

-- what the core keeps of its four links is kept, whatever went through the two that are not of its phase
abbrev pub StillKeeps : CoreView → PhaseTraffic → CoreView → PhaseTraffic → Type 0
StillKeeps old on new on' =
    (w : Traffic) → got_at old.stage w ≡ on.got → sent_at old.stage w ≡ on.sent → KeepsCore old w → KeepsCore new (traffic_after old.stage on'.got on'.sent w)

-- ---- events

-- where the pass backwards is over, the pass forwards begins
abbrev pub settled_by : Bool → CoreSetup → BackView → StageView
settled_by true i v = Answering (new_fore v.summary v.asked (requests_if v.whole v.requests) v.whole i.first)
settled_by false i v = Asking v

abbrev pub answered_by : Bool → ForeView → StageView
answered_by true f = Done f
answered_by false f = Answering f

-- the answer of the event in which a pass came to this: its node goes on after the pass backwards, and is done after
-- the pass forwards
abbrev pub asks_turn : PassTurn → Turn
asks_turn pass_turn.Moved = turn.Moved
asks_turn pass_turn.NotYet = turn.NotYet
asks_turn pass_turn.Over = turn.Moved

abbrev pub answers_turn : PassTurn → Turn
answers_turn pass_turn.Moved = turn.Moved
answers_turn pass_turn.NotYet = turn.NotYet
answers_turn pass_turn.Over = turn.Done

-- the epoch is analysed, and the pass backwards begins, broken where a growth was refused
pub record Begins (i : CoreSetup) (got sent : Option (List Message)) (next : StageView) (got' sent' : Option (List Message)) (answer : Turn) : Type 0 where
  pub back : BackView
  pub is : next ≡ Asking back
  pub begins : state back got' sent' ≡ begun (is_none back.summary) i.last (knows back)
  pub got_same : got' ≡ got
  pub sent_same : sent' ≡ sent
  pub answered : answer ≡ turn.Moved

-- an event of the pass backwards
pub record Asks (i : CoreSetup) (v : BackView) (got sent : Option (List Message)) (next : StageView) (got' sent' : Option (List Message)) (answer : Turn) : Type 0 where
  pub back : BackView
  pub came_to : PassTurn
  pub happens : Happens v got sent back got' sent' came_to
  pub same : IsSameBack back v
  pub requested : back.whole ≡ true → locations back.requests ≡ requests (got_by got')
  pub over : OnOver came_to (back.over ≡ true)
  pub running : OnOpen came_to (back.over ≡ false)
  pub is : next ≡ settled_by back.over i back
  pub answered : answer ≡ asks_turn came_to

-- an event of the pass forwards
pub record Answers (f : ForeView) (got sent : Option (List Message)) (next : StageView) (got' sent' : Option (List Message)) (answer : Turn) : Type 0 where
  pub fore : ForeView
  pub came_to : PassTurn
  pub happens : ForeHappens f got sent fore got' sent' came_to
  pub same : IsSameFore fore f
  pub over : OnOver came_to (fore.over ≡ true)
  pub running : OnOpen came_to (fore.over ≡ false)
  pub is : next ≡ answered_by fore.over fore
  pub answered : answer ≡ answers_turn came_to

-- nothing more happens
pub record Rests (f : ForeView) (got sent : Option (List Message)) (next : StageView) (got' sent' : Option (List Message)) (answer : Turn) : Type 0 where
  pub is : next ≡ Done f
  pub got_same : got' ≡ got
  pub sent_same : sent' ≡ sent
  pub answered : answer ≡ turn.Done

-- the event is that of the definitions: a node begins, then its pass backwards has events until it is over, then its
-- pass forwards; then it is done
abbrev pub Steps : CoreSetup → StageView → Option (List Message) → Option (List Message) → StageView → Option (List Message) → Option (List Message) → Turn → Type 0
Steps i (Fresh t) got sent next got' sent' answer = Begins i got sent next got' sent' answer
Steps i (Asking v) got sent next got' sent' answer = Asks i v got sent next got' sent' answer
Steps i (Answering f) got sent next got' sent' answer = Answers f got sent next got' sent' answer
Steps i (Done f) got sent next got' sent' answer = Rests f got sent next got' sent' answer
Steps i Between got sent next got' sent' answer = ⊥

-- what the next event needs
abbrev pub need_at : StageView → Option (List Message) → Option (List Message) → Need
need_at (Fresh t) got sent = need.Nothing
need_at (Asking v) got sent = asking_need (state v got sent)
need_at (Answering f) got sent = answering_need (known_by f) f.asked (fore_state f got sent)
need_at (Done f) got sent = need.Over
need_at Between got sent = need.Over

-- of what the links say when they refuse, this is what the one link says that the next event needs
abbrev pub WaitsAt : StageView → PhaseTraffic → Type 0 → Type 0 → Type 0
WaitsAt s on pops pushes = Waits (need_at s on.got on.sent) pops pushes

-- ---- what the answer of an event says

abbrev pub WhenNotYet : Turn → Type 0 → Type 0
WhenNotYet turn.Moved P = Unit {0}
WhenNotYet turn.NotYet P = P
WhenNotYet turn.Done P = Unit {0}

abbrev pub WhenMoved : Turn → Type 0 → Type 0
WhenMoved turn.Moved P = P
WhenMoved turn.NotYet P = Unit {0}
WhenMoved turn.Done P = Unit {0}

abbrev pub one_more : ℕ → ℕ
one_more n = capped (n + 1)

-- the last event moves from another phase to the phase Done
abbrev pub counted_last : Phase → ℕ → ℕ
counted_last phase.Fresh n = one_more n
counted_last phase.Asking n = one_more n
counted_last phase.Answering n = one_more n
counted_last phase.Done n = n

-- how many events moved, after one with this answer in a phase
abbrev pub counted : Turn → Phase → ℕ → ℕ
counted turn.Moved p n = one_more n
counted turn.NotYet p n = n
counted turn.Done p n = counted_last p n

-- a part of what went through the end now went through it then
abbrev pub IsMore : Option (List Message) → Option (List Message) → Type 0
IsMore None None = Unit {0}
IsMore (Some old) (Some new) = IsPrefix old new
IsMore None (Some new) = ⊥
IsMore (Some old) None = ⊥

-- an event of a core, on the links of its phase, through which so much went before it and after it
pub record IsEvent (old : CoreView) (on : PhaseTraffic) (new : CoreView) (on' : PhaseTraffic) (answer : Turn) : Type 0 where
  -- it is that of the definitions
  pub steps : Steps old.setup old.stage on.got on.sent new.stage on'.got on'.sent answer
  pub keeps : StillKeeps old on new on'
  pub setup : new.setup ≡ old.setup
  pub more_got : IsMore on.got on'.got
  pub more_sent : IsMore on.sent on'.sent
  pub done : AnswersEnded answer (phase_of new.stage ≡ phase.Done)
  -- where it did not happen nothing did
  pub not_yet : WhenNotYet answer ((new ≡ old) × (on' ≡ on))
  pub count : new.events ≡ counted answer (phase_of old.stage) old.events

-- ---- parts of an event

-- what the pass of a stage needs
abbrev pub CanAct : StageView → PhaseTraffic → Type 0
CanAct (Fresh t) on = Unit {0}
CanAct (Asking v) on = Keeps v on.got on.sent
CanAct (Answering f) on = ForeKeeps f on.got on.sent
CanAct (Done f) on = ⊥
CanAct Between on = ⊥

-- the pass backwards has its event
pub record BackActs (v : BackView) (got sent : Option (List Message)) (next : StageView) (got' sent' : Option (List Message)) (turn : PassTurn) : Type 0 where
  pub back : BackView
  pub is : next ≡ Asking back
  pub event : IsPassEvent backwards v got sent back got' sent' turn

-- the pass forwards has its event
pub record ForeActs (f : ForeView) (got sent : Option (List Message)) (next : StageView) (got' sent' : Option (List Message)) (turn : PassTurn) : Type 0 where
  pub fore : ForeView
  pub is : next ≡ Answering fore
  pub event : IsPassEvent forwards f got sent fore got' sent' turn

abbrev pub Acts : StageView → PhaseTraffic → StageView → PhaseTraffic → PassTurn → Type 0
Acts (Fresh t) on next on' turn = (next ≡ Fresh t) × (on' ≡ on) × (turn ≡ pass_turn.Over)
Acts (Asking v) on next on' turn = BackActs v on.got on.sent next on'.got on'.sent turn
Acts (Answering f) on next on' turn = ForeActs f on.got on.sent next on'.got on'.sent turn
Acts (Done f) on next on' turn = ⊥
Acts Between on next on' turn = ⊥

-- what the stage needs to go on to the next
abbrev pub CanAdvance : CoreSetup → StageView → Type 0
CanAdvance i (Fresh t) = (t ≡ i.epoch) × CanStart i.points t
CanAdvance i (Asking v) = CanSettle i.first i.last v
CanAdvance i (Answering f) = Unit {0}
CanAdvance i (Done f) = ⊥
CanAdvance i Between = ⊥

pub record BeginsToAsk (i : CoreSetup) (next : StageView) : Type 0 where
  pub back : BackView
  pub is : next ≡ Asking back
  pub begun : IsBegun i back

pub record BeginsToAnswer (i : CoreSetup) (v : BackView) (next : StageView) : Type 0 where
  pub fore : ForeView
  pub is : next ≡ Answering fore
  pub settled : IsSettled i.first i.last v fore

-- the stage after it
abbrev pub Advances : CoreSetup → StageView → StageView → Type 0
Advances i (Fresh t) next = BeginsToAsk i next
Advances i (Asking v) next = BeginsToAnswer i v next
Advances i (Answering f) next = next ≡ Done f
Advances i (Done f) next = ⊥
Advances i Between next = ⊥

-- the answer of an event in which the pass came to this, and the core to this phase: the pass forwards is the last
abbrev pub turn_after : PassTurn → Phase → Turn
turn_after pass_turn.Moved p = turn.Moved
turn_after pass_turn.NotYet p = turn.NotYet
turn_after pass_turn.Over phase.Fresh = turn.Moved
turn_after pass_turn.Over phase.Asking = turn.Moved
turn_after pass_turn.Over phase.Answering = turn.Moved
turn_after pass_turn.Over phase.Done = turn.Done

-- the count after it
abbrev pub counted_by : PassTurn → ℕ → ℕ
counted_by pass_turn.Moved events = one_more events
counted_by pass_turn.NotYet events = events
counted_by pass_turn.Over events = one_more events

-- the pass came to this, and its core goes on from there: where the pass is over, to the next stage
pub record GoesOn (came_to : PassTurn) (old new : CoreView) (answer : Turn) : Type 0 where
  pub setup : new.setup ≡ old.setup
  pub stays : OnOpen came_to (new.stage ≡ old.stage)
  pub advances : OnOver came_to (Advances old.setup old.stage new.stage)
  pub count : new.events ≡ counted_by came_to old.events
  pub answered : answer ≡ turn_after came_to (phase_of new.stage)
