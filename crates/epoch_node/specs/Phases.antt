-- The events of a core among those of the nodes of the definitions.
use Rattle.std.specs.Prelude.{◌≡◌, ℕ, Bool, true, Option, None, is_none, List}
use Rattle.flow_model.specs.declared.Message.{Message}
use Rattle.epoch_model.specs.Summary.{Summary as EpochSummary}
use Rattle.run_board.specs.declared.task.Turn.{Turn}
use Rattle.stream_model.specs.Passes.{Links, Asking as AskingState, asking_event, Answering as AnsweringState, answering_event}
use Rattle.stream_model.specs.Schedules.{Phase, Fresh as NotBegun, Asks, Answers, asking_links, answering_links, begun, settled, node_event}
use Rattle.pass_parts.specs.Ends.{got_by, sent_by}
use Rattle.backward_pass.specs.Backward.{knows, state}
use Rattle.forward_pass.specs.Forward.{ForeView, known_by, fore_state}
use Rattle.epoch_node.specs.Cores.{StageView, Fresh, Asking, Answering, Done, Between, CoreView}
use Rattle.epoch_node.specs.Keeping.{Traffic, KeepsCore}
use Rattle.epoch_node.specs.Events.{got_at, sent_at, traffic_after, Steps}

-- ---- a node by itself

-- the event of a node for what the two links of its phase do in it
abbrev pub event_with : Bool → Bool → EpochSummary → Links → Phase → Phase
event_with first last e links NotBegun = Asks (begun links.is_refused last e)
event_with first last e links (Asks a) = settled first (asking_event first e links a)
event_with first last e links (Answers a f) = Answers a (answering_event e a.asked links f)

-- what they do between the previous and the next node
abbrev pub links_of : ℕ → Bool → Option Phase → Option Phase → Phase → Links
links_of capacity refused previous next NotBegun = record { has_room = true; item = None; is_refused = refused }
links_of capacity refused previous next (Asks a) = asking_links capacity refused previous next a
links_of capacity refused previous next (Answers a f) = answering_links capacity refused previous next f

-- the event of a node in a row is its event for what its links do there
abbrev pub NodeEventIsByLinks : Type 0
NodeEventIsByLinks = (capacity : ℕ) (refused : Bool) (previous next : Option Phase) (e : EpochSummary) (p : Phase)
    → node_event capacity refused previous next e p ≡ event_with (is_none previous) (is_none next) e (links_of capacity refused previous next p) p

-- ---- a core in a phase

-- two states of a pass are the same, or both are broken and have the same messages
pub record IsAlikeAsking (a b : AskingState) : Type 0 where
  pub got : a.got ≡ b.got
  pub sent : a.sent ≡ b.sent
  pub whole : a.is_whole ≡ b.is_whole
  pub over : a.is_over ≡ b.is_over
  pub same : a.is_whole ≡ true → a ≡ b

pub record IsAlikeAnswering (f g : AnsweringState) : Type 0 where
  pub got : f.got ≡ g.got
  pub sent : f.sent ≡ g.sent
  pub whole : f.is_whole ≡ g.is_whole
  pub over : f.is_over ≡ g.is_over
  pub same : f.is_whole ≡ true → f ≡ g

-- the pass backwards ended in this state
pub record HasEnded (a : AskingState) (f : ForeView) (w : Traffic) : Type 0 where
  pub got : a.got ≡ got_by w.asks_got
  pub sent : a.sent ≡ sent_by true a.is_whole w.asks_sent
  pub over : a.is_over ≡ true
  pub asked : f.whole ≡ true → a.asked ≡ f.asked

abbrev pub IsAnsweringIn : ForeView → Traffic → Phase → Type 0
IsAnsweringIn f w NotBegun = ⊥
IsAnsweringIn f w (Asks a) = ⊥
IsAnsweringIn f w (Answers a g) = HasEnded a f w × IsAlikeAnswering g (fore_state f w.answers_got w.answers_sent)

-- the core is in this phase of the definitions, but for what a broken pass drops
abbrev pub IsIn : StageView → Traffic → Phase → Type 0
IsIn (Fresh t) w NotBegun = Unit {0}
IsIn (Fresh t) w (Asks a) = ⊥
IsIn (Fresh t) w (Answers a g) = ⊥
IsIn (Asking v) w NotBegun = ⊥
IsIn (Asking v) w (Asks a) = IsAlikeAsking a (state v w.asks_got w.asks_sent)
IsIn (Asking v) w (Answers a g) = ⊥
IsIn (Answering f) w p = IsAnsweringIn f w p
IsIn (Done f) w p = IsAnsweringIn f w p
IsIn Between w p = ⊥

-- it is the summary that the core knows, unless the core is broken
abbrev pub IsKnown : EpochSummary → StageView → Type 0
IsKnown e (Fresh t) = Unit {0}
IsKnown e (Asking v) = v.whole ≡ true → e ≡ knows v
IsKnown e (Answering f) = f.whole ≡ true → e ≡ known_by f
IsKnown e (Done f) = f.whole ≡ true → e ≡ known_by f
IsKnown e Between = ⊥

-- an event leads a core from a phase of the definitions to that of their event, for some links
pub record IsEventIn (old new : CoreView) (e : EpochSummary) (p : Phase) (later : Traffic) : Type 0 where
  pub links : Links
  pub is_in : IsIn new.stage later (event_with old.setup.first old.setup.last e links p)

abbrev pub EventsAreOfNodes : Type 0
EventsAreOfNodes = (old new : CoreView) (w : Traffic) (got' sent' : Option (List Message)) (turn : Turn) (e : EpochSummary) (p : Phase)
    → KeepsCore old w
    → Steps old.setup old.stage (got_at old.stage w) (sent_at old.stage w) new.stage got' sent' turn
    → IsKnown e old.stage → IsKnown e new.stage → IsIn old.stage w p
    → IsEventIn old new e p (traffic_after old.stage got' sent' w)
