-- All nodes of a run and the links between them, under any schedule of events.
use Rattle.std.specs.Prelude.{ℕ, zero, suc, ◌+◌, nat_lt, Bool, true, false, List, [], ◌∷◌, map, length, drop, Option, Some, None, is_some, is_none}
use Rattle.flow_model.specs.declared.Loc.{Loc}
use Rattle.flow_model.specs.declared.Message.{Message}
use Rattle.report_model.specs.Rows.{Row}
use Rattle.epoch_model.specs.Summary.{Summary, SinkTerms}
use Rattle.stream_model.specs.Streams.{is_ended, requests, is_resolvable, Node}
use Rattle.stream_model.specs.Passes.{Links, Asking, asking_start, asking_event, Answering, answering_start, answering_event, rows_or_none}

-- a node is not begun, asks, or has asked and answers. It is done once its last End is sent
pub data Phase : Type 0 where
  Fresh : Phase
  Asks : Asking → Phase
  Answers : Asking → Answering → Phase

-- a node, as far as it has come
pub record NodeState : Type 0 where
  pub summary : Summary
  pub phase : Phase

-- ---- the links. What a link holds is what was sent and not got yet

abbrev pub asks_sent_in : Phase → List Message
asks_sent_in Fresh = []
asks_sent_in (Asks a) = a.sent
asks_sent_in (Answers a f) = a.sent

abbrev pub asks_got_in : Phase → List Message
asks_got_in Fresh = []
asks_got_in (Asks a) = a.got
asks_got_in (Answers a f) = a.got

abbrev pub answers_sent_in : Phase → List Message
answers_sent_in Fresh = []
answers_sent_in (Asks a) = []
answers_sent_in (Answers a f) = f.sent

abbrev pub answers_got_in : Phase → List Message
answers_got_in Fresh = []
answers_got_in (Asks a) = []
answers_got_in (Answers a f) = f.got

abbrev pub first_of : List Message → Option Message
first_of [] = None
first_of (m ∷ ms) = Some m

abbrev pub next_item : List Message → List Message → Option Message
next_item got sent = first_of (drop (length got) sent)

abbrev pub has_room_for : ℕ → List Message → List Message → Bool
has_room_for capacity sent got = nat_lt (length sent) (length got + capacity)

-- where there is no neighbour there is no link: a push goes through, and nothing comes
abbrev pub room_to : ℕ → (Phase → List Message) → List Message → Option Phase → Bool
room_to capacity got sent None = true
room_to capacity got sent (Some neighbour) = has_room_for capacity sent (got neighbour)

abbrev pub item_from : (Phase → List Message) → List Message → Option Phase → Option Message
item_from sent got None = None
item_from sent got (Some neighbour) = next_item got (sent neighbour)

-- what a node meets between the previous and the next node
abbrev pub asking_links : ℕ → Bool → Option Phase → Option Phase → Asking → Links
asking_links capacity refused previous next a = record {
  has_room = room_to capacity asks_got_in a.sent previous;
  item = item_from asks_sent_in a.got next;
  is_refused = refused;
}

abbrev pub answering_links : ℕ → Bool → Option Phase → Option Phase → Answering → Links
answering_links capacity refused previous next f = record {
  has_room = room_to capacity answers_got_in f.sent next;
  item = item_from answers_sent_in f.got previous;
  is_refused = refused;
}

-- ---- the events

-- a node that was refused memory for its summary asks, broken from the beginning
abbrev pub begun : Bool → Bool → Summary → Asking
begun true last e = record (asking_start last e) { is_whole = false }
begun false last e = asking_start last e

-- the End of the asks begins the answers
abbrev pub settled_by : Bool → Bool → Asking → Phase
settled_by true first a = Answers a (answering_start a.is_whole first (requests a.got))
settled_by false first a = Asks a

abbrev pub settled : Bool → Asking → Phase
settled first a = settled_by a.is_over first a

abbrev pub node_event : ℕ → Bool → Option Phase → Option Phase → Summary → Phase → Phase
node_event capacity refused previous next e Fresh = Asks (begun refused (is_none next) e)
node_event capacity refused previous next e (Asks a) =
    settled (is_none previous) (asking_event (is_none previous) e (asking_links capacity refused previous next a) a)
node_event capacity refused previous next e (Answers a f) =
    Answers a (answering_event e a.asked (answering_links capacity refused previous next f) f)

abbrev pub phase_of_first : List NodeState → Option Phase
phase_of_first [] = None
phase_of_first (n ∷ ns) = Some n.phase

-- the event of node k, where `previous` stands before the first
abbrev pub event_at : ℕ → Bool → ℕ → Option Phase → List NodeState → List NodeState
event_at capacity refused k previous [] = []
event_at capacity refused zero previous (n ∷ ns) =
    record n { phase = node_event capacity refused previous (phase_of_first ns) n.summary n.phase } ∷ ns
event_at capacity refused (suc k) previous (n ∷ ns) = n ∷ event_at capacity refused k (Some n.phase) ns

-- which node has its event, and whether a growth is refused in it
pub record Event : Type 0 where
  pub node : ℕ
  pub is_refused : Bool

abbrev pub nodes_start : List Summary → List NodeState
nodes_start es = map (λ e. record { summary = e; phase = Fresh }) es

abbrev pub nodes_after : ℕ → List Event → List NodeState → List NodeState
nodes_after capacity [] ns = ns
nodes_after capacity (v ∷ vs) ns = nodes_after capacity vs (event_at capacity v.is_refused v.node None ns)

-- ---- which events move

-- what an event needs: room for a push, an item, nothing, or it cannot be since all is sent
pub data Need : Type 0 where
  Room : Need
  Item : Need
  Nothing : Need
  Over : Need

abbrev pub is_met : Need → Links → Bool
is_met Room links = links.has_room
is_met Item links = is_some links.item
is_met Nothing links = true
is_met Over links = false

abbrev pub item_or_room : Bool → Need
item_or_room true = Room
item_or_room false = Item

abbrev pub whole_asking_need : List Loc → List SinkTerms → Bool → Need
whole_asking_need (l ∷ waiting) left ended = Room
whole_asking_need [] (k ∷ left) ended = Nothing
whole_asking_need [] [] ended = item_or_room ended

abbrev pub asking_need_by : Asking → Bool → Bool → Need
asking_need_by a true whole = Over
asking_need_by a false true = whole_asking_need (drop a.pushed a.asked) a.left (is_ended a.got)
asking_need_by a false false = item_or_room (is_ended a.got)

abbrev pub asking_need : Asking → Need
asking_need a = asking_need_by a a.is_over a.is_whole

abbrev pub nothing_or_room : Option (List Row) → Need
nothing_or_room None = Nothing
nothing_or_room (Some rows) = Room

abbrev pub last_need : Bool → Option (List Row) → Need
last_need true rows = nothing_or_room rows
last_need false rows = Item

abbrev pub nothing_or_item : Bool → Need
nothing_or_item true = Nothing
nothing_or_item false = Item

abbrev pub whole_answering_need : Summary → List Loc → Answering → List Message → List Loc → Need
whole_answering_need e asked f (m ∷ sending) left = Room
whole_answering_need e asked f [] (l ∷ left) = nothing_or_item (is_resolvable asked f.got (e.ends l))
whole_answering_need e asked f [] [] = last_need (is_ended f.got) f.rows

abbrev pub answering_need_by : Summary → List Loc → Answering → Bool → Bool → Need
answering_need_by e asked f true whole = Over
answering_need_by e asked f false true = whole_answering_need e asked f f.sending f.left
answering_need_by e asked f false false = item_or_room (is_ended f.got)

abbrev pub answering_need : Summary → List Loc → Answering → Need
answering_need e asked f = answering_need_by e asked f f.is_over f.is_whole

abbrev pub node_moves : ℕ → Option Phase → Option Phase → Summary → Phase → Bool
node_moves capacity previous next e Fresh = true
node_moves capacity previous next e (Asks a) = is_met (asking_need a) (asking_links capacity false previous next a)
node_moves capacity previous next e (Answers a f) = is_met (answering_need e a.asked f) (answering_links capacity false previous next f)

abbrev pub moves_at : ℕ → ℕ → Option Phase → List NodeState → Bool
moves_at capacity k previous [] = false
moves_at capacity zero previous (n ∷ ns) = node_moves capacity previous (phase_of_first ns) n.summary n.phase
moves_at capacity (suc k) previous (n ∷ ns) = moves_at capacity k (Some n.phase) ns

abbrev pub is_done : Phase → Bool
is_done Fresh = false
is_done (Asks a) = false
is_done (Answers a f) = f.is_over

-- ---- the nodes of a state

abbrev pub is_whole_in : Phase → Bool
is_whole_in Fresh = true
is_whole_in (Asks a) = a.is_whole
is_whole_in (Answers a f) = f.is_whole

abbrev pub asked_in : Phase → List Loc
asked_in Fresh = []
asked_in (Asks a) = a.asked
asked_in (Answers a f) = a.asked

abbrev pub rows_in : Phase → List Row
rows_in Fresh = []
rows_in (Asks a) = []
rows_in (Answers a f) = rows_or_none f.rows

abbrev pub node_in : NodeState → Node
node_in n = record {
  summary = n.summary;
  asks_got = asks_got_in n.phase;
  asks_sent = asks_sent_in n.phase;
  answers_got = answers_got_in n.phase;
  answers_sent = answers_sent_in n.phase;
  asked = asked_in n.phase;
  rows = rows_in n.phase;
}
