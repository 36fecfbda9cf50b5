-- The two passes of a node, event by event. In an event a link may have no room for a push, or nothing to pop: then
-- nothing happens. Where there is no link a push always goes through. A growth that is refused, or an End that is not
-- whole, breaks the pass: from then on it sends nothing of what waits, only takes what comes, and ends, not whole. Only
-- a pass that is whole takes memory, and a push takes none.
use Rattle.std.specs.Prelude.{ℕ, ◌+◌, Bool, true, false, List, [], ◌∷◌, ◌++◌, drop, Option, Some, None}
use Rattle.flow_model.specs.declared.Loc.{Loc}
use Rattle.flow_model.specs.declared.Message.{Message}
use Rattle.flow_model.specs.declared.Message.TheVariants.{Ask, Byte, Close, End}
use Rattle.report_model.specs.Rows.{Row}
use Rattle.epoch_model.specs.Summary.{Summary, SinkTerms}
use Rattle.epoch_model.specs.Crossing.{added_all}
use Rattle.epoch_model.specs.Join.{resolved, rows_of}
use Rattle.stream_model.specs.Streams.{is_ended, heard, is_resolvable, answer}

-- what an event meets: whether a push goes through, what a pop gives, and whether a growth is refused. The last counts
-- only where an event takes memory
pub record Links : Type 0 where
  pub has_room : Bool
  pub item : Option Message
  pub is_refused : Bool

-- where there is no link to get from, the End counts as seen
abbrev pub got_at_start : Bool → List Message
got_at_start true = End true ∷ []
got_at_start false = []

-- ---- backwards

-- the sinks that are not walked yet, what is asked, how many of these were sent, and the messages
pub record Asking : Type 0 where
  pub left : List SinkTerms
  pub asked : List Loc
  pub pushed : ℕ
  pub got : List Message
  pub sent : List Message
  pub is_whole : Bool
  pub is_over : Bool

abbrev pub asking_start : Bool → Summary → Asking
asking_start last e = record {
  left = e.sinks;
  asked = [];
  pushed = 0;
  got = got_at_start last;
  sent = [];
  is_whole = true;
  is_over = false;
}

-- the first node asks nothing
abbrev pub asked_more : Bool → List Loc → List Loc → List Loc
asked_more true asked ls = asked
asked_more false asked ls = added_all asked ls

-- the start locations that a message asks after
abbrev pub wanted_for : Summary → Message → List Loc
wanted_for e (Ask l) = (e.ends l).starts
wanted_for e (Byte b) = []
wanted_for e (Close l) = []
wanted_for e (End whole) = []

-- a message that lets the receiver stay whole
abbrev pub is_whole_message : Message → Bool
is_whole_message (Ask l) = true
is_whole_message (Byte b) = true
is_whole_message (Close l) = true
is_whole_message (End whole) = whole

-- the first location that waits is asked, where there is room
abbrev pub push_ask : Bool → Asking → Loc → Asking
push_ask true a l = record a { pushed = a.pushed + 1; sent = a.sent ++ Ask l ∷ [] }
push_ask false a l = a

-- a pass that breaks forgets what it asked
abbrev pub asked_if : Bool → List Loc → List Loc
asked_if true asked = asked
asked_if false asked = []

-- the next sink is walked: the start locations of its terms are asked too. In this and the next the first test is
-- whether a growth is refused
abbrev pub walk : Bool → Bool → Asking → SinkTerms → List SinkTerms → Asking
walk true first a k left = record a { asked = []; is_whole = false }
walk false first a k left = record a { left = left; asked = asked_more first a.asked k.terms.starts }

-- what comes is taken: the start locations of the terms of a request are asked too
abbrev pub take_ask : Bool → Bool → Summary → Asking → Message → Asking
take_ask true first e a m = record a { got = a.got ++ m ∷ []; asked = []; is_whole = false }
take_ask false first e a m = record a {
  got = a.got ++ m ∷ [];
  asked = asked_if (is_whole_message m) (asked_more first a.asked (wanted_for e m));
  is_whole = is_whole_message m;
}

abbrev pub pop_ask : Bool → Bool → Summary → Asking → Option Message → Asking
pop_ask refused first e a None = a
pop_ask refused first e a (Some m) = take_ask refused first e a m

-- what comes to a broken pass is dropped, and counts only as got
abbrev pub drop_ask : Asking → Option Message → Asking
drop_ask a None = a
drop_ask a (Some m) = record a { got = a.got ++ m ∷ [] }

abbrev pub end_asks : Bool → Asking → Asking
end_asks true a = record a { sent = a.sent ++ End a.is_whole ∷ []; is_over = true }
end_asks false a = a

-- broken: what comes, then the End
abbrev pub broken_asking : Links → Asking → Bool → Asking
broken_asking links a false = drop_ask a links.item
broken_asking links a true = end_asks links.has_room a

-- whole: what waits to be asked, then the sinks, then what comes, then the End
abbrev pub whole_asking : Bool → Summary → Links → Asking → List Loc → List SinkTerms → Bool → Asking
whole_asking first e links a (l ∷ waiting) left ended = push_ask links.has_room a l
whole_asking first e links a [] (k ∷ left) ended = walk links.is_refused first a k left
whole_asking first e links a [] [] false = pop_ask links.is_refused first e a links.item
whole_asking first e links a [] [] true = end_asks links.has_room a

-- an event of a pass that is over or not, and whole or not
abbrev pub asking_by : Bool → Summary → Links → Asking → Bool → Bool → Asking
asking_by first e links a true whole = a
asking_by first e links a false true = whole_asking first e links a (drop a.pushed a.asked) a.left (is_ended a.got)
asking_by first e links a false false = broken_asking links a (is_ended a.got)

abbrev pub asking_event : Bool → Summary → Links → Asking → Asking
asking_event first e links a = asking_by first e links a a.is_over a.is_whole

-- the state after some events
abbrev pub asking_after : Bool → Summary → List Links → Asking → Asking
asking_after first e [] a = a
asking_after first e (links ∷ schedule) a = asking_after first e schedule (asking_event first e links a)

-- ---- forwards

-- the requests that are not answered yet, the rest of the answer that is being sent, and the messages; and the rows
-- of the sinks once they are resolved
pub record Answering : Type 0 where
  pub left : List Loc
  pub sending : List Message
  pub got : List Message
  pub sent : List Message
  pub rows : Option (List Row)
  pub is_whole : Bool
  pub is_over : Bool

-- it begins whole where the node is
abbrev pub answering_start : Bool → Bool → List Loc → Answering
answering_start whole first requests = record {
  left = requests;
  sending = [];
  got = got_at_start first;
  sent = [];
  rows = None;
  is_whole = whole;
  is_over = false;
}

abbrev pub push_answer : Bool → Answering → Message → List Message → Answering
push_answer true f m sending = record f { sending = sending; sent = f.sent ++ m ∷ [] }
push_answer false f m sending = f

-- what comes is taken, unless a growth is refused
abbrev pub take_answer : Bool → Answering → Message → Answering
take_answer true f m = record f { got = f.got ++ m ∷ []; is_whole = false }
take_answer false f m = record f { got = f.got ++ m ∷ []; is_whole = is_whole_message m }

abbrev pub pop_answer : Bool → Answering → Option Message → Answering
pop_answer refused f None = f
pop_answer refused f (Some m) = take_answer refused f m

-- the answer to the request l is made, unless a growth is refused
abbrev pub build : Bool → Summary → List Loc → Answering → Loc → List Loc → Answering
build true e asked f l left = record f { is_whole = false }
build false e asked f l left = record f { left = left; sending = answer l (resolved (heard asked f.got) (e.ends l)) }

abbrev pub build_or_pop : Bool → Summary → List Loc → Links → Answering → Loc → List Loc → Answering
build_or_pop true e asked links f l left = build links.is_refused e asked f l left
build_or_pop false e asked links f l left = pop_answer links.is_refused f links.item

-- the rows of the sinks are made, unless a growth is refused
abbrev pub resolve : Bool → Summary → List Loc → Answering → Answering
resolve true e asked f = record f { is_whole = false }
resolve false e asked f = record f { rows = Some (rows_of e (heard asked f.got)) }

abbrev pub drop_answer : Answering → Option Message → Answering
drop_answer f None = f
drop_answer f (Some m) = record f { got = f.got ++ m ∷ [] }

abbrev pub end_answers : Bool → Answering → Answering
end_answers true f = record f { sent = f.sent ++ End f.is_whole ∷ []; is_over = true }
end_answers false f = f

abbrev pub resolve_or_end : Summary → List Loc → Links → Answering → Option (List Row) → Answering
resolve_or_end e asked links f None = resolve links.is_refused e asked f
resolve_or_end e asked links f (Some rows) = end_answers links.has_room f

abbrev pub pop_or_end : Summary → List Loc → Links → Answering → Bool → Answering
pop_or_end e asked links f false = pop_answer links.is_refused f links.item
pop_or_end e asked links f true = resolve_or_end e asked links f f.rows

abbrev pub broken_answering : Links → Answering → Bool → Answering
broken_answering links f false = drop_answer f links.item
broken_answering links f true = end_answers links.has_room f

-- whole: what is being sent, then the next request as soon as its terms are resolvable, then what comes, then the rows
-- of the sinks, then the End
abbrev pub whole_answering : Summary → List Loc → Links → Answering → List Message → List Loc → Answering
whole_answering e asked links f (m ∷ sending) left = push_answer links.has_room f m sending
whole_answering e asked links f [] (l ∷ left) = build_or_pop (is_resolvable asked f.got (e.ends l)) e asked links f l left
whole_answering e asked links f [] [] = pop_or_end e asked links f (is_ended f.got)

abbrev pub answering_by : Summary → List Loc → Links → Answering → Bool → Bool → Answering
answering_by e asked links f true whole = f
answering_by e asked links f false true = whole_answering e asked links f f.sending f.left
answering_by e asked links f false false = broken_answering links f (is_ended f.got)

abbrev pub answering_event : Summary → List Loc → Links → Answering → Answering
answering_event e asked links f = answering_by e asked links f f.is_over f.is_whole

abbrev pub answering_after : Summary → List Loc → List Links → Answering → Answering
answering_after e asked [] f = f
answering_after e asked (links ∷ schedule) f = answering_after e asked schedule (answering_event e asked links f)

abbrev pub rows_or_none : Option (List Row) → List Row
rows_or_none None = []
rows_or_none (Some rows) = rows
